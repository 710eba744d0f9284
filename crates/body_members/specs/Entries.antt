-- How the members of a declaration are kept while its parts are read from the first to the last, and what completes them.
use Rattle.std.specs.Prelude.{ℕ, ◌≤◌, max, List, ◌∷◌, map, Option, Some, None, IfSome}
use Rattle.vocabulary.specs.declared.node_kind.NodeKind.{NodeKind}
use Rattle.vocabulary.specs.declared.node_kind.NodeKind.TheVariants as kinds
use Rattle.meaning_typing.specs.MemberDeclarations.{MemberEntry, PendingMembers, alignment_among}
use Rattle.meaning_typing.specs.Specifiers.{attributes_among}
use Rattle.meaning_typing.specs.Units.{UnitNodes, children_at}
use Rattle.body_members.specs.declared.entries.Entry.{Entry}

-- of the lists behind a member the largest alignment is kept
abbrev pub entry_told : UnitNodes → MemberEntry → Entry
entry_told nodes entry =
    record { declarator = entry.declarator; width = entry.width; written = alignment_among nodes (attributes_among nodes entry.lists) }

-- the width that is read first
abbrev pub width_or : Option ℕ → Option ℕ → Option ℕ
width_or None later = later
width_or (Some width) later = Some width

-- an entry with a part behind it that is no declarator
abbrev pub entry_with : UnitNodes → NodeKind → (handle : ℕ) → Entry → Entry
entry_with nodes kinds.BitFieldWidth handle entry = record entry { width = width_or entry.width (Some handle) }
entry_with nodes kinds.AttributeList handle entry =
    record entry { written = max entry.written (alignment_among nodes (children_at nodes handle)) }
entry_with nodes kind handle entry = entry

-- an entry with what is pending behind it
abbrev pub completed : UnitNodes → Entry → PendingMembers → Entry
completed nodes entry pending =
    record {
      declarator = entry.declarator;
      width = width_or entry.width pending.width;
      written = max entry.written (alignment_among nodes (attributes_among nodes pending.lists));
    }

-- the entry that is open, if one is, and those behind it
abbrev pub open_and_behind : UnitNodes → Option Entry → PendingMembers → List Entry
open_and_behind nodes None pending = map (entry_told nodes) pending.entries
open_and_behind nodes (Some entry) pending = completed nodes entry pending ∷ map (entry_told nodes) pending.entries

-- no alignment is below 1
abbrev pub IsAligned : Option Entry → Type 0
IsAligned opened = IfSome opened (λ entry. 1 ≤ entry.written)
