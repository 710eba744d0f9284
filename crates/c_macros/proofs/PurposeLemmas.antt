-- What the first token of a list is for, by what is asked of it one after the other.
use Rattle.std.proofs.Common.{◌≡◌, Bool, true, false, not, ◌&&◌, nat_eq, List, [], ◌∷◌, map, Option, Some, None, option_map, is_some, cond, if◌then◌else◌, refl, sym, ap, ◌∙◌, true≢false}
use Rattle.std.specs.Cmp.{nat_eq_equiv}
use Rattle.std.specs.Map.{lookup}
use Rattle.meaning_macros.specs.Signs.{is_identifier_kind}
use Rattle.meaning_macros.specs.Macros.{macro_of, predefined_of, is_function_like}
use Rattle.meaning_macros.specs.Macros as macros
use Rattle.meaning_macros.specs.Hiding.{Hiding, joined, only}
use Rattle.meaning_macros.specs.Calls.{split, most_cuts}
use Rattle.meaning_macros.specs.Expansion.{use_of, use_of_name, use_of_call, use_of_split, use_of_predefined}
use Rattle.meaning_macros.specs.Expansion as expansion
use Rattle.sparse_model.specs.declared.ids.NameId.{NameId}
use Rattle.c_macros.specs.declared.definition.Macro.{Macro}
use Rattle.c_macros.specs.declared.item.Item.{Item}
use Rattle.c_macros.specs.declared.purpose.Purpose.{Purpose}
use Rattle.c_macros.specs.declared.purpose.Purpose.TheVariants.{Stays, Replaced, Called, Predefines}
use Rattle.c_macros.specs.Purpose.{IsReplaced, IsCalled, Purposed, opens_with, purpose_of_predefined, use_before}
use Rattle.c_macros.specs.Reading.{Reading, hiding_by, hidings_by}
use Rattle.c_macros.specs.Run.{table_by}
use Rattle.c_macros.specs.Seen.{KeepsApart, Spelling, macro_by}
use Rattle.c_macros.specs.Table.{Table, macro_at}

-- what entries have at an id is what they have at its spelling
found-by : (s : Spelling) → KeepsApart s → (entries : List (NameId × Macro)) (name : NameId)
    → macro_of (map (λ (entry : NameId × Macro). record { name = s entry.0; macro = macro_by s entry.1 }) entries) (s name)
    ≡ option_map (macro_by s) (lookup (λ (other : NameId). nat_eq name.0 other.0) entries)
found-by s apart [] name = refl
found-by s apart (entry ∷ entries) name =
    (λ k. if (apart entry.0 name ∙ nat_eq_equiv.symm entry.0.0 name.0) k then Some (macro_by s entry.1) else found-by s apart entries name k)
    ∙ by (nat_eq name.0 entry.0.0) (lookup (λ (other : NameId). nat_eq name.0 other.0) entries)
  where
    by : (this : Bool) (later : Option Macro) → (if this then Some (macro_by s entry.1) else option_map (macro_by s) later) ≡ option_map (macro_by s) (cond this (Some entry.1) later)
    by true later = refl
    by false later = refl

pub macro_of-by : (s : Spelling) → KeepsApart s → (table : Table) (name : NameId) → macro_of (table_by s table).definitions (s name) ≡ option_map (macro_by s) (macro_at table name)
macro_of-by s apart table name = found-by s apart table.macros name

-- a token that isn't a name or hides itself
pub use-hidden : (r : Reading) (table : Table) (item : Item) (now : List Item) → (is_identifier_kind item.token.kind && not (r.hidden item.hides (r.spelled item.token.name))) ≡ false
    → use_before r table item now ≡ expansion.Stays
use-hidden r table item now hidden =
    ap (λ (named : Bool). elim named as (λ _. expansion.Use) [
      | true ↦ use_of_name (hiding_by r item) (hidings_by r now) (macro_of (table_by r.spelled table).definitions (r.spelled item.token.name))
      | false ↦ expansion.Stays
    ]) hidden

-- and one that may be replaced
pub use-named : (r : Reading) → KeepsApart r.spelled → (table : Table) (item : Item) (now : List Item) → (is_identifier_kind item.token.kind && not (r.hidden item.hides (r.spelled item.token.name))) ≡ true
    → use_before r table item now ≡ use_of_name (hiding_by r item) (hidings_by r now) (option_map (macro_by r.spelled) (macro_at table item.token.name))
use-named r apart table item now named =
    ap (λ (is : Bool). elim is as (λ _. expansion.Use) [
      | true ↦ use_of_name (hiding_by r item) (hidings_by r now) (macro_of (table_by r.spelled table).definitions (r.spelled item.token.name))
      | false ↦ expansion.Stays
    ]) named
    ∙ ap (use_of_name (hiding_by r item) (hidings_by r now)) (macro_of-by r.spelled apart table item.token.name)

-- a name without an entry
pub use-predefined : (r : Reading) → KeepsApart r.spelled → (table : Table) (item : Item) (now : List Item) → (is_identifier_kind item.token.kind && not (r.hidden item.hides (r.spelled item.token.name))) ≡ true
    → macro_at table item.token.name ≡ None → Purposed r table item now (purpose_of_predefined (predefined_of (r.spelled item.token.name)))
use-predefined r apart table item now named none = by (predefined_of (r.spelled item.token.name)) used
  where
    used : use_before r table item now ≡ use_of_predefined (predefined_of (r.spelled item.token.name))
    used = use-named r apart table item now named ∙ ap (λ found. use_of_name (hiding_by r item) (hidings_by r now) (option_map (macro_by r.spelled) found)) none

    by : (p : Option macros.Predefined) → use_before r table item now ≡ use_of_predefined p → Purposed r table item now (purpose_of_predefined p)
    by None h = h
    by (Some macros.FileName) h = h
    by (Some macros.LineNumber) h = h
    by (Some macros.CounterNumber) h = h

-- the use of a name that has an entry
use-found : (r : Reading) → KeepsApart r.spelled → (table : Table) (item : Item) (now : List Item) → (is_identifier_kind item.token.kind && not (r.hidden item.hides (r.spelled item.token.name))) ≡ true
    → (m : Macro) → macro_at table item.token.name ≡ Some m
    → use_before r table item now ≡ use_of_name (hiding_by r item) (hidings_by r now) (Some (macro_by r.spelled m))
use-found r apart table item now named m found =
    use-named r apart table item now named ∙ ap (λ known. use_of_name (hiding_by r item) (hidings_by r now) (option_map (macro_by r.spelled) known)) found

abbrev by_likeness : Hiding → List Hiding → macros.Macro → Bool → expansion.Use
by_likeness t rest m called = elim called as (λ _. expansion.Use) [
  | true ↦ use_of_call t m rest
  | false ↦ expansion.Replaces m [] (joined t.hides (only t.token.text)) rest
]

pub use-object : (r : Reading) → KeepsApart r.spelled → (table : Table) (item : Item) (now : List Item) → (is_identifier_kind item.token.kind && not (r.hidden item.hides (r.spelled item.token.name))) ≡ true
    → (m : Macro) → macro_at table item.token.name ≡ Some m → is_some m.params ≡ false → IsReplaced r table item now
use-object r apart table item now named m found object = record {
  macro_ = m;
  found = found;
  used = use-found r apart table item now named m found
      ∙ ap (by_likeness (hiding_by r item) (hidings_by r now) (macro_by r.spelled m)) (by m.params object);
}
  where
    by : (params : Option (List NameId)) → is_some params ≡ false → is_some (option_map (map r.spelled) params) ≡ false
    by None h = refl
    by (Some names) h = absurd (true≢false h)

-- a function-like macro
use-function : (r : Reading) → KeepsApart r.spelled → (table : Table) (item : Item) (now : List Item) → (is_identifier_kind item.token.kind && not (r.hidden item.hides (r.spelled item.token.name))) ≡ true
    → (m : Macro) → macro_at table item.token.name ≡ Some m → is_some m.params ≡ true
    → use_before r table item now ≡ use_of_call (hiding_by r item) (macro_by r.spelled m) (hidings_by r now)
use-function r apart table item now named m found function =
    use-found r apart table item now named m found
    ∙ ap (by_likeness (hiding_by r item) (hidings_by r now) (macro_by r.spelled m)) (by m.params function)
  where
    by : (params : Option (List NameId)) → is_some params ≡ true → is_some (option_map (map r.spelled) params) ≡ true
    by None h = h
    by (Some names) h = refl

abbrev by_opening : Hiding → macros.Macro → List Hiding → Bool → expansion.Use
by_opening t m rest opens = elim opens as (λ _. expansion.Use) [
  | true ↦ use_of_split t m (split 0 (most_cuts m) rest)
  | false ↦ expansion.Stays
]

pub use-not_called : (r : Reading) → KeepsApart r.spelled → (table : Table) (item : Item) (now : List Item) → (is_identifier_kind item.token.kind && not (r.hidden item.hides (r.spelled item.token.name))) ≡ true
    → (m : Macro) → macro_at table item.token.name ≡ Some m → is_some m.params ≡ true → opens_with now ≡ false → use_before r table item now ≡ expansion.Stays
use-not_called r apart table item [] named m found function closed = use-function r apart table item [] named m found function
use-not_called r apart table item (next ∷ now) named m found function closed =
    use-function r apart table item (next ∷ now) named m found function
    ∙ ap (by_opening (hiding_by r item) (macro_by r.spelled m) (hidings_by r now)) closed

pub use-called : (r : Reading) → KeepsApart r.spelled → (table : Table) (item : Item) (now : List Item) → (is_identifier_kind item.token.kind && not (r.hidden item.hides (r.spelled item.token.name))) ≡ true
    → (m : Macro) → macro_at table item.token.name ≡ Some m → is_some m.params ≡ true → opens_with now ≡ true → IsCalled r table item now
use-called r apart table item [] named m found function opens = absurd (true≢false (sym opens))
use-called r apart table item (next ∷ now) named m found function opens = record {
  macro_ = m;
  found = found;
  opening = next;
  rest = now;
  opens = refl;
  used = use-function r apart table item (next ∷ now) named m found function
      ∙ ap (by_opening (hiding_by r item) (macro_by r.spelled m) (hidings_by r now)) opens;
}

abbrev is_called : Purpose → Bool
is_called Called = true
is_called Stays = false
is_called Replaced = false
is_called (Predefines name) = false

-- a name without an entry calls no macro
pub not-called : (p : Option macros.Predefined) → purpose_of_predefined p ≡ Called → ⊥
not-called None is = true≢false (sym (ap is_called is))
not-called (Some macros.FileName) is = true≢false (sym (ap is_called is))
not-called (Some macros.LineNumber) is = true≢false (sym (ap is_called is))
not-called (Some macros.CounterNumber) is = true≢false (sym (ap is_called is))
