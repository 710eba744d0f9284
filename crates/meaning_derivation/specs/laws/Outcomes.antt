-- What holds of derivations, whatever the actions do.
use Rattle.std.specs.Prelude.{◌≡◌, ◌⊎◌, ℕ, List, Some}
use Rattle.vocabulary.specs.declared.action.Action.{Action}
use Rattle.vocabulary.specs.declared.production_item.ProductionItem.{ProductionItem}
use Rattle.meaning_text.specs.Tokens.{Tok}
use Rattle.meaning_tree.specs.Trees.{SyntaxTree}
use Rattle.meaning_grammar.specs.Terminals.{Terminal}
use Rattle.meaning_derivation.specs.State.{State, Fault, ActionOutcome, Outcome}
use Rattle.meaning_derivation.specs.Derivation.{DerivesAll}
use Rattle.meaning_derivation.specs.Actions as actions
use Rattle.meaning_derivation.specs.Units.{HasOutcome, DerivesTree, IsRefused}
use Rattle.meaning_derivation.specs.plain.Deriving.{derived_outcome}

-- items have at most one outcome, wherever they stand
abbrev pub ItemsHaveOneOutcome : Type 0
ItemsHaveOneOutcome =
    (act : Action → State → ActionOutcome) (items : List ProductionItem) (behind : ℕ) (state : State) (terminals : List Terminal) (first second : Outcome)
    → DerivesAll act items behind state terminals first → DerivesAll act items behind state terminals second → first ≡ second

-- and so do the tokens of a unit
abbrev pub UnitsHaveOneOutcome : Type 0
UnitsHaveOneOutcome =
    (act : Action → State → ActionOutcome) (tokens : List Tok) (first second : Outcome) → HasOutcome act tokens first → HasOutcome act tokens second → first ≡ second

-- With the actions of C there is one: the tokens of a unit derive a tree, or they are refused.
abbrev pub UnitsHaveAnOutcome : Type 0
UnitsHaveAnOutcome =
    (tokens : List Tok)
    → ((tree : SyntaxTree) × DerivesTree actions.act tokens tree) ⊎ ((fault : Fault) × (stands : ℕ) × IsRefused actions.act tokens fault stands)

-- what the plain program answers is derived
abbrev pub AnswersAreOutcomes : Type 0
AnswersAreOutcomes =
    (act : Action → State → ActionOutcome) (depth : ℕ) (tokens : List Tok) (outcome : Outcome) → derived_outcome act depth tokens ≡ Some outcome → HasOutcome act tokens outcome
