-- How what the parser holds is seen: items that wait before terminals, in a state.
use Rattle.std.specs.Prelude.{◌≡◌, ℕ, List, [], ◌∷◌, ◌++◌, Option, Some, None}
use Rattle.vocabulary.specs.declared.token_class.TokenClass.{TokenClass}
use Rattle.vocabulary.specs.declared.token_class.TokenClass.TheVariants.{End}
use Rattle.vocabulary.specs.declared.production_item.ProductionItem.{ProductionItem}
use Rattle.vocabulary.specs.declared.production_item.ProductionItem.TheVariants.{Passed}
use Rattle.meaning_scopes.specs.Scopes.{ScopeList}
use Rattle.meaning_grammar.specs.Terminals.{Terminal}
use Rattle.meaning_grammar.specs.Sorts.{ATree, effects}
use Rattle.meaning_derivation.specs.Values.{sorts_of}
use Rattle.meaning_derivation.specs.State.{State, Outcome}
use Rattle.meaning_derivation.specs.Taking.{class_in, look_of, second_of, behind_limit, unless_held}
use Rattle.meaning_derivation.specs.Leading.{Standing}
use Rattle.c_parse.specs.declared.looks.Looks.{Looks}

-- Looks

abbrev pub class_or_end : ScopeList (List ℕ) → Option Terminal → TokenClass
class_or_end scopes None = End
class_or_end scopes (Some terminal) = class_in scopes terminal

-- these are the classes of the next two terminals
pub record AreLooks (s : State) (terminals : List Terminal) (looks : Looks) : Type 0 where
  pub next : looks.next ≡ look_of s terminals
  pub behind : looks.behind ≡ second_of s terminals

-- Where a terminal is taken

-- what was noted before goes first
abbrev pub unless_noted : State → (otherwise : Outcome) → Outcome
unless_noted s otherwise = behind_limit s.passed s.taken (unless_held s.held s.taken otherwise)

-- Before each item

-- the end of the unit waits behind all
abbrev pub before_end : List ProductionItem → List ProductionItem
before_end items = items ++ Passed End ∷ []

-- items wait before terminals, in a state
abbrev pub standing : List ProductionItem → State → List Terminal → Standing
standing items s terminals = record { items = before_end items; state = s; terminals = terminals }

-- what waits makes one tree of the values that stand
abbrev pub IsSorted : List ProductionItem → State → Type 0
IsSorted items s = effects items (Some (sorts_of s.values)) ≡ Some (ATree ∷ [])
