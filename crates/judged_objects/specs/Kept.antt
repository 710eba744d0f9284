-- What is kept of objects and functions while nodes come in their order, and what it is kept of.
use Rattle.std.specs.Prelude.{◌≡◌, ℕ, Bool, nat_eq, List, Option, Some, None, option_map, if◌then◌else◌}
use Rattle.sparse_model.specs.declared.ids.NameId.{NameId}
use Rattle.sparse_model.specs.contracts.ids.NameIdPartialEq.TheImpl as names
use Rattle.indexmap.specs.IndexMap.{get}
use Rattle.meaning_typing.specs.ContextSums.{first_contexts, linked_from}
use Rattle.meaning_typing.specs.Facts.{Fact, Declared, fact_at}
use Rattle.meaning_typing.specs.Surroundings.{Surrounding}
use Rattle.meaning_typing.specs.Units.{UnitNodes}
use Rattle.meaning_objects.specs.Objects.{first_linked}
use Rattle.meaning_objects.specs.Carried.{is_linked_noreturn, is_own_noreturn, own_contexts}
use Rattle.node_facts.specs.Facts.{name_seen}
use Rattle.judged_objects.specs.declared.keeping.LinkedObject.{LinkedObject}
use Rattle.judged_objects.specs.declared.note.ObjectNote.{ObjectNote}
use Rattle.judged_objects.specs.declared.objects.JudgedObjects.{JudgedObjects}
use Rattle.judged_objects.specs.Notes.{no_note, note_and, note_or_none, note_told}

-- how the maps compare their keys
abbrev pub same_name : NameId → NameId → Bool
same_name name other = names.eq-value.it name other

abbrev pub same_handle : ℕ → ℕ → Bool
same_handle handle other = nat_eq handle other

-- Names with linkage

-- what is kept of a name, once this declarator has joined, which says so
abbrev pub linked_with : Option LinkedObject → (declarator : ℕ) → ObjectNote → LinkedObject
linked_with None declarator note = record { object = declarator; note = note }
linked_with (Some earlier) declarator note = record { object = earlier.object; note = note_and earlier.note note }

abbrev pub note_linked : Option LinkedObject → ObjectNote
note_linked None = no_note
note_linked (Some linked) = linked.note

-- what the declarations of a name come to, where the first of these facts has this handle
abbrev pub told_linked : UnitNodes → (name : List ℕ) → (first : ℕ) → List Surrounding → List Fact → ObjectNote
told_linked nodes name first surroundings facts =
    note_told (first_contexts (linked_from nodes name first surroundings facts)) (is_linked_noreturn nodes name first surroundings facts)

-- what a declaration without linkage says; any other fact says nothing
abbrev pub told_alone : UnitNodes → List Surrounding → (declarator : ℕ) → Fact → ObjectNote
told_alone nodes surroundings declarator (Declared declaration) =
    if declaration.has_linkage then no_note
    else note_told (own_contexts nodes surroundings declarator declaration) (is_own_noreturn nodes surroundings declarator declaration)
told_alone nodes surroundings declarator fact = no_note

-- This is kept, by name and by handle, of the nodes of which this is known.
pub record AreKept (nodes : UnitNodes) (surroundings : List Surrounding) (facts : List Fact) (linked : NameId → Option LinkedObject) (unlinked : ℕ → Option ObjectNote) : Type 0 where
  pub objects : (name : NameId) → option_map (λ one. one.object) (linked name) ≡ first_linked (name_seen name) 0 facts
  pub notes : (name : NameId) → note_linked (linked name) ≡ told_linked nodes (name_seen name) 0 surroundings facts
  pub own : (declarator : ℕ) → note_or_none (unlinked declarator) ≡ told_alone nodes surroundings declarator (fact_at facts declarator)

abbrev pub AreObjects : UnitNodes → List Surrounding → List Fact → JudgedObjects → Type 0
AreObjects nodes surroundings facts objects = AreKept nodes surroundings facts (get same_name objects.linked) (get same_handle objects.unlinked)
