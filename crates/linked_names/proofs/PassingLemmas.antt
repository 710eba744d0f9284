-- The first type that passes a test.
use Rattle.std.proofs.Common.{◌≡◌, ℕ, ◌+◌, ◌≤◌, Bool, true, false, ◌||◌, not, nat_le, List, [], ◌∷◌, ◌++◌, length, Option, Some, None, is_some, option_map, if◌then◌else◌, refl, sym, ap, ◌∙◌, arith}
use Rattle.std.specs.Option.{option_or}
use Rattle.std.proofs.lemmas.Bool.{false≢true, le-leb, lt-leb}
use Rattle.std.proofs.lemmas.Option.{none-some, same_Some}
use Rattle.meaning_types.specs.Types.{TypeTree}
use Rattle.meaning_typing.specs.Names.{first_unlike}
use Rattle.meaning_types.specs.Composite.{composite}
use Rattle.linked_names.specs.Witnesses.{PlacedType, first_passing}

-- a test that answers the same finds the same
pub passing-alike : (test other : TypeTree → Bool) → ((type_ : TypeTree) → test type_ ≡ other type_) → (place : ℕ) (types : List TypeTree)
    → first_passing test place types ≡ first_passing other place types
passing-alike test other alike place [] = refl
passing-alike test other alike place (type_ ∷ types) =
    λ i. if alike type_ i then Some (record { place = place; type_ = type_ }) else passing-alike test other alike (place + 1) types i

-- none of those that are asked stands before the first place
pub passing-from : (test : TypeTree → Bool) (place : ℕ) (types : List TypeTree) (found : PlacedType) → first_passing test place types ≡ Some found → place ≤ found.place
passing-from test place [] found is = absurd (none-some found is)
passing-from test place (type_ ∷ types) found is = by (test type_) is (passing-from test (place + 1) types found)
  where
    by : (passes : Bool) → (if passes then Some (record { place = place; type_ = type_ }) else first_passing test (place + 1) types) ≡ Some found
        → (first_passing test (place + 1) types ≡ Some found → place + 1 ≤ found.place) → place ≤ found.place
    by true is later = omega (arith, ap (λ (one : PlacedType). one.place) (same_Some _ _ is))
    by false is later = omega (arith, later is)

-- what is found passes
pub passing-passes : (test : TypeTree → Bool) (place : ℕ) (types : List TypeTree) (found : PlacedType) → first_passing test place types ≡ Some found → test found.type_ ≡ true
passing-passes test place [] found is = absurd (none-some found is)
passing-passes test place (type_ ∷ types) found is = by (test type_) refl is (passing-passes test (place + 1) types found)
  where
    by : (passes : Bool) → test type_ ≡ passes → (if passes then Some (record { place = place; type_ = type_ }) else first_passing test (place + 1) types) ≡ Some found
        → (first_passing test (place + 1) types ≡ Some found → test found.type_ ≡ true) → test found.type_ ≡ true
    by true passes is later = ap (λ (one : PlacedType). test one.type_) (sym (same_Some _ _ is)) ∙ passes
    by false passes is later = later is

-- one more type is found where none before it is
pub passing-more : (test : TypeTree → Bool) (place : ℕ) (types : List TypeTree) (next : TypeTree)
    → first_passing test place (types ++ next ∷ []) ≡ option_or (first_passing test place types) (if test next then Some (record { place = place + length types; type_ = next }) else None)
passing-more test place [] next =
    let end : place ≡ place + 0 = omega arith in
    λ i. if test next then Some (record { place = end i; type_ = next }) else None
passing-more test place (type_ ∷ types) next = by (test type_) (passing-more test (place + 1) types next)
  where
    by : (passes : Bool) → first_passing test (place + 1) (types ++ next ∷ []) ≡ option_or (first_passing test (place + 1) types) (if test next then Some (record { place = place + 1 + length types; type_ = next }) else None)
        → (if passes then Some (record { place = place; type_ = type_ }) else first_passing test (place + 1) (types ++ next ∷ []))
        ≡ option_or (if passes then Some (record { place = place; type_ = type_ }) else first_passing test (place + 1) types) (if test next then Some (record { place = place + length (type_ ∷ types); type_ = next }) else None)
    by true later = refl
    by false later =
        let at : place + 1 + length types ≡ place + length (type_ ∷ types) = omega arith in
        later ∙ ap (λ (end : ℕ). option_or (first_passing test (place + 1) types) (if test next then Some (record { place = end; type_ = next }) else None)) at

-- A stronger test

module _ (test stronger : TypeTree → Bool) (implies : (type_ : TypeTree) → stronger type_ ≡ true → test type_ ≡ true) where
  fails : (type_ : TypeTree) (passes : Bool) → stronger type_ ≡ passes → test type_ ≡ false → stronger type_ ≡ false
  fails type_ true passes none = absurd (false≢true (sym none ∙ implies type_ passes))
  fails type_ false passes none = passes

  -- finds nothing where the other finds nothing
  pub passing-none : (place : ℕ) (types : List TypeTree) → first_passing test place types ≡ None → first_passing stronger place types ≡ None
  passing-none place [] none = refl
  passing-none place (type_ ∷ types) none = by (test type_) refl none (passing-none (place + 1) types)
    where
      by : (passes : Bool) → test type_ ≡ passes → (if passes then Some (record { place = place; type_ = type_ }) else first_passing test (place + 1) types) ≡ None
          → (first_passing test (place + 1) types ≡ None → first_passing stronger (place + 1) types ≡ None)
          → (if stronger type_ then Some (record { place = place; type_ = type_ }) else first_passing stronger (place + 1) types) ≡ None
      by true passes none later = absurd (none-some _ (sym none))
      by false passes none later =
          ap (λ (found : Bool). if found then Some (record { place = place; type_ = type_ }) else first_passing stronger (place + 1) types) (fails type_ (stronger type_) refl passes) ∙ later none

  -- finds what the other finds, where that passes
  pub passing-strongly : (place : ℕ) (types : List TypeTree) (found : PlacedType) → first_passing test place types ≡ Some found → stronger found.type_ ≡ true
      → first_passing stronger place types ≡ Some found
  passing-strongly place [] found is strong = absurd (none-some found is)
  passing-strongly place (type_ ∷ types) found is strong = by (test type_) refl is (λ is. passing-strongly (place + 1) types found is strong)
    where
      by : (passes : Bool) → test type_ ≡ passes → (if passes then Some (record { place = place; type_ = type_ }) else first_passing test (place + 1) types) ≡ Some found
          → (first_passing test (place + 1) types ≡ Some found → first_passing stronger (place + 1) types ≡ Some found)
          → (if stronger type_ then Some (record { place = place; type_ = type_ }) else first_passing stronger (place + 1) types) ≡ Some found
      by true passes is later =
          let one = same_Some _ _ is in
          ap (λ (found : Bool). if found then Some (record { place = place; type_ = type_ }) else first_passing stronger (place + 1) types) (ap (λ (one : PlacedType). stronger one.type_) one ∙ strong) ∙ is
      by false passes is later =
          ap (λ (found : Bool). if found then Some (record { place = place; type_ = type_ }) else first_passing stronger (place + 1) types) (fails type_ (stronger type_) refl passes) ∙ later is

-- One of two tests

-- the earlier of two
abbrev pub earlier_type : Option PlacedType → Option PlacedType → Option PlacedType
earlier_type (Some one) (Some other) = if nat_le one.place other.place then Some one else Some other
earlier_type (Some one) None = Some one
earlier_type None other = other

-- what stands at a place is before all that comes later
earlier-here : (place : ℕ) (type_ : TypeTree) (later : Option PlacedType) → ((found : PlacedType) → later ≡ Some found → place ≤ found.place)
    → earlier_type (Some (record { place = place; type_ = type_ })) later ≡ Some (record { place = place; type_ = type_ })
earlier-here place type_ None from = refl
earlier-here place type_ (Some found) from =
    ap (λ (test : Bool). if test then Some (record { place = place; type_ = type_ }) else Some found) (le-leb place found.place (from found refl))

earlier-there : (place : ℕ) (type_ : TypeTree) (later : Option PlacedType) → ((found : PlacedType) → later ≡ Some found → place + 1 ≤ found.place)
    → earlier_type later (Some (record { place = place; type_ = type_ })) ≡ Some (record { place = place; type_ = type_ })
earlier-there place type_ None from = refl
earlier-there place type_ (Some found) from =
    ap (λ (test : Bool). if test then Some found else Some (record { place = place; type_ = type_ })) (lt-leb found.place place (omega (arith, from found refl)))

pub passing-either : (test other : TypeTree → Bool) (place : ℕ) (types : List TypeTree)
    → first_passing (λ type_. test type_ || other type_) place types ≡ earlier_type (first_passing test place types) (first_passing other place types)
passing-either test other place [] = refl
passing-either test other place (type_ ∷ types) = by (test type_) (other type_) (passing-either test other (place + 1) types)
  where
    by : (passes passes_other : Bool)
        → first_passing (λ type_. test type_ || other type_) (place + 1) types ≡ earlier_type (first_passing test (place + 1) types) (first_passing other (place + 1) types)
        → (if passes || passes_other then Some (record { place = place; type_ = type_ }) else first_passing (λ type_. test type_ || other type_) (place + 1) types)
        ≡ earlier_type (if passes then Some (record { place = place; type_ = type_ }) else first_passing test (place + 1) types) (if passes_other then Some (record { place = place; type_ = type_ }) else first_passing other (place + 1) types)
    by true true later = sym (earlier-here place type_ (Some (record { place = place; type_ = type_ })) (λ found is. omega (arith, ap (λ (one : PlacedType). one.place) (same_Some _ _ is))))
    by true false later =
        sym (earlier-here place type_ (first_passing other (place + 1) types) (λ found is. omega (arith, passing-from other (place + 1) types found is)))
    by false true later = sym (earlier-there place type_ (first_passing test (place + 1) types) (passing-from test (place + 1) types))
    by false false later = later

-- The first that disagrees

abbrev pub disagrees : TypeTree → TypeTree → Bool
disagrees type_ other = not (is_some (composite other type_))

pub unlike-passing : (type_ : TypeTree) (place : ℕ) (types : List TypeTree) → first_unlike type_ types ≡ option_map (λ found. found.type_) (first_passing (disagrees type_) place types)
unlike-passing type_ place [] = refl
unlike-passing type_ place (other ∷ others) = by (is_some (composite other type_)) (unlike-passing type_ (place + 1) others)
  where
    by : (agrees : Bool) → first_unlike type_ others ≡ option_map (λ found. found.type_) (first_passing (disagrees type_) (place + 1) others)
        → (if agrees then first_unlike type_ others else Some other)
        ≡ option_map (λ found. found.type_) (if not agrees then Some (record { place = place; type_ = other }) else first_passing (disagrees type_) (place + 1) others)
    by true later = later
    by false later = refl
