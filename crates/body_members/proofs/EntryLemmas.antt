-- Entries that are read from the first part to the last are those that are defined from the last one on.
use Rattle.std.proofs.Common.{◌≡◌, ℕ, ◌≤◌, max, true, false, [], ◌∷◌, ◌++◌, map, Option, Some, None, refl, sym, ap, ◌∙◌, arith}
use Rattle.std.specs.List.{cons_option}
use Rattle.vocabulary.specs.declared.node_kind.NodeKind.{NodeKind}
use Rattle.vocabulary.specs.declared.node_kind.NodeKind.TheVariants as kinds
use Rattle.meaning_typing.specs.Declarators.{is_declarator}
use Rattle.meaning_typing.specs.MemberDeclarations.{PendingMembers, alignment_among, pending_with}
use Rattle.meaning_typing.specs.Specifiers.{attributes_among, attributes_of}
use Rattle.meaning_typing.specs.Units.{UnitNodes, children_at, kind_at}
use Rattle.body_members.specs.declared.entries.Entry.{Entry}
use Rattle.body_members.specs.Entries.{IsAligned, entry_told, entry_with, open_and_behind, width_or}
use Rattle.body_members.proofs.AlignmentLemmas.{over_append, over_one}

abbrev entry_of : (declarator : ℕ) → (width : Option ℕ) → (written : ℕ) → Entry
entry_of declarator width written = record { declarator = declarator; width = width; written = written }

width_or_none : (width : Option ℕ) → width_or width None ≡ width
width_or_none None = refl
width_or_none (Some width) = refl

width_or_more : (width : Option ℕ) (handle : ℕ) (later : Option ℕ) → width_or (width_or width (Some handle)) later ≡ width_or width (Some handle)
width_or_more None handle later = refl
width_or_more (Some width) handle later = refl

max_one : (written : ℕ) → 1 ≤ written → max written 1 ≡ written
max_one written positive = omega (arith, positive)

module _ (nodes : UnitNodes) where
  -- an entry behind which nothing is pending
  nothing_behind : (entry : Entry) → 1 ≤ entry.written → entry_of entry.declarator (width_or entry.width None) (max entry.written 1) ≡ entry
  nothing_behind entry positive = (λ i. entry_of entry.declarator (width_or_none entry.width i) (max_one entry.written positive i))

  -- a declarator closes the entry that is open, and opens one
  pub opened_by : (kind : NodeKind) (handle : ℕ) (opened : Option Entry) (pending : PendingMembers) → IsAligned opened → is_declarator kind ≡ true
      → cons_option opened [] ++ open_and_behind nodes (Some (entry_of handle None 1)) pending
      ≡ open_and_behind nodes opened (pending_with kind handle pending)
  opened_by kinds.Declarator handle None pending aligned is =
      ap (λ written. entry_of handle pending.width written ∷ map (entry_told nodes) pending.entries) (over_one nodes (attributes_among nodes pending.lists))
  opened_by kinds.Declarator handle (Some entry) pending aligned is =
      (λ i. sym (nothing_behind entry aligned) i
      ∷ entry_of handle pending.width (over_one nodes (attributes_among nodes pending.lists) i)
      ∷ map (entry_told nodes) pending.entries)
  opened_by kind handle opened pending aligned is = cc

  -- another part belongs to the open one
  pub taken : (kind : NodeKind) (handle : ℕ) (entry : Entry) (pending : PendingMembers) → kind_at nodes handle ≡ kind → is_declarator kind ≡ false
      → open_and_behind nodes (Some (entry_with nodes kind handle entry)) pending ≡ open_and_behind nodes (Some entry) (pending_with kind handle pending)
  taken kinds.AttributeList handle entry pending same is =
      ap (λ written. entry_of entry.declarator (width_or entry.width pending.width) written ∷ map (entry_told nodes) pending.entries)
      (over_append nodes entry.written (children_at nodes handle) (attributes_among nodes pending.lists)
      ∙ ap (λ kind. max entry.written (alignment_among nodes (attributes_of kind (children_at nodes handle) ++ attributes_among nodes pending.lists))) (sym same))
  taken kinds.BitFieldWidth handle entry pending same is =
      ap (λ width. entry_of entry.declarator width (max entry.written (alignment_among nodes (attributes_among nodes pending.lists))) ∷ map (entry_told nodes) pending.entries)
      (width_or_more entry.width handle pending.width)
  taken kinds.Declarator handle entry pending same is = cc
  taken kind handle entry pending same is = refl
