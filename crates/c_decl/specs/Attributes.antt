-- Attributes that are read, by ids.
use Rattle.std.specs.Prelude.{◌≡◌, ℕ, List, [], ◌∷◌, Option, Some, None}
use Rattle.vocabulary.specs.declared.role.Role.TheVariants.{TypePart}
use Rattle.meaning_attributes.specs.Integers.{PlacedConstant}
use Rattle.meaning_attributes.specs.Reading.{Refusal}
use Rattle.meaning_derivation.specs.Values.{Value, token_of}
use Rattle.meaning_derivation.specs.State.{State, ActionOutcome, made}
use Rattle.meaning_derivation.specs.Attributes.{and_then, attribute_appended, constant_at, context_tree, list_refused}
use Rattle.c_literals.specs.Seen.{constant_seen}
use Rattle.parse_state.specs.declared.fault.ActionFault.{ActionFault}
use Rattle.parse_state.specs.declared.fault.ActionFault.TheVariants.{Memory}
use Rattle.parse_state.specs.Steps.{IsToldBy}
use Rattle.parse_state.specs.declared.shape.Source.{Source}
use Rattle.parse_state.specs.declared.shape.Source.TheVariants.{OneTree, AllTrees}
use Rattle.c_decl.specs.declared.numbers.PlacedInteger.{PlacedInteger}

-- a constant with its token
abbrev pub placed_seen : PlacedInteger → PlacedConstant
placed_seen integer = record { index = integer.token; constant = constant_seen integer.constant }

-- these are the last two constants, of which the last one comes first, if there are two
abbrev pub AreLastTwo : List PlacedConstant → Option (PlacedInteger × PlacedInteger) → Type 0
AreLastTwo (leaves ∷ enters ∷ others) (Some (first, second)) = (enters ≡ placed_seen first) × (leaves ≡ placed_seen second)
AreLastTwo (leaves ∷ enters ∷ others) None = ⊥
AreLastTwo (only ∷ []) None = Unit {0}
AreLastTwo (only ∷ []) (Some both) = ⊥
AreLastTwo [] None = Unit {0}
AreLastTwo [] (Some both) = ⊥

-- a context with these numbers
abbrev pub numbers_appended : State → (word : Value) → (enters leaves : PlacedConstant) → ActionOutcome
numbers_appended s word enters leaves =
    and_then (made s 0 (constant_at enters)) (λ one.
    and_then (made one 0 (constant_at leaves)) (λ two.
    attribute_appended two 3 (context_tree (token_of word) (constant_at enters) (constant_at leaves))))

-- a tree, and a list below it
abbrev pub on_list : List Source
on_list = AllTrees 1 ∷ OneTree TypePart 0 ∷ []

-- a fault tells of this refusal of a list at this token, whose first token has this index; want of memory tells of none
abbrev pub IsRefusal : (token start : ℕ) → Option Refusal → ActionFault → Type 0
IsRefusal token start None fault = fault ≡ Memory
IsRefusal token start (Some refusal) fault = IsToldBy (list_refused token start refusal) fault
