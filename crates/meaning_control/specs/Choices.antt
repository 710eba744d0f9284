-- Which labels a jump and a switch go to. Each label has a place where control goes, whatever places are.
use Rattle.std.specs.Prelude.{ℤ, ℕ, Bool, true, false, List, [], ◌∷◌, ◌++◌, map, Option, Some, None}
use Rattle.std.specs.Ordering.{int_eq}
use Rattle.std.specs.List.{filter}
use Rattle.std.specs.Str.{bytes_eq}
use Rattle.meaning_control.specs.Kinds.{ControlKind, Switch, Label, Case, Default}

abbrev pub is_named : List ℕ → ControlKind → Bool
is_named name (Label other) = bytes_eq other name
is_named name kind = false

abbrev pub is_default : ControlKind → Bool
is_default Default = true
is_default kind = false

abbrev pub has_number : ControlKind → Bool
has_number (Case number) = true
has_number kind = false

abbrev pub is_numbered : ℤ → ControlKind → Bool
is_numbered number (Case other) = int_eq other number
is_numbered number kind = false

-- the number of a switch whose value is constant
abbrev pub number_of : ControlKind → Option ℤ
number_of (Switch number) = number
number_of kind = None

module _ {Place : Type 0} where
  -- where those are whose kind is such a one
  abbrev pub places_of : (ControlKind → Bool) → List (ControlKind × Place) → List Place
  places_of is_such labels = map (λ label. label.1) (filter (λ label. is_such label.0) labels)

  -- the labels of a name (C11 6.8.6.1 p2)
  abbrev pub named : List ℕ → List (ControlKind × Place) → List Place
  named name labels = places_of (is_named name) labels

  -- these, or where there are none this one
  abbrev pub or_else : List Place → Place → List Place
  or_else [] otherwise = otherwise ∷ []
  or_else (place ∷ places) otherwise = place ∷ places

  abbrev pub or_all : List Place → List Place → List Place
  or_all [] otherwise = otherwise
  or_all (place ∷ places) otherwise = place ∷ places

  -- What a switch goes to (6.8.4.2 p5): each of its cases, and the default or else past it; with a constant value to the case
  -- that matches alone, else to the default or else past it.
  abbrev pub picked : Option ℤ → List (ControlKind × Place) → (past : Place) → List Place
  picked None labels past = places_of has_number labels ++ or_else (places_of is_default labels) past
  picked (Some number) labels past = or_all (places_of (is_numbered number) labels) (or_else (places_of is_default labels) past)
