-- How a derivation is made step by step: what is still to be derived, and what that leads to.
use Rattle.std.specs.Prelude.{Bool, true, not, List}
use Rattle.vocabulary.specs.declared.token_class.TokenClass.TheVariants.{End}
use Rattle.vocabulary.specs.declared.action.Action.{Action}
use Rattle.vocabulary.specs.declared.production_item.ProductionItem.{ProductionItem}
use Rattle.vocabulary.specs.declared.production_item.ProductionItem.TheVariants.{Token}
use Rattle.meaning_grammar.specs.Classes.{is_same}
use Rattle.meaning_grammar.specs.Terminals.{Terminal}
use Rattle.meaning_derivation.specs.State.{State, ActionOutcome, Outcome}
use Rattle.meaning_derivation.specs.Derivation.{DerivesAll}

-- items before terminals, in a state
pub record Standing : Type 0 where
  pub items : List ProductionItem
  pub state : State
  pub terminals : List Terminal

-- what comes of the items there, if nothing else waits
abbrev pub ComesTo : (Action → State → ActionOutcome) → Standing → Outcome → Type 0
ComesTo act standing outcome = DerivesAll act standing.items 0 standing.state standing.terminals outcome

-- whatever comes of the later ones comes of the earlier ones
abbrev pub LeadsTo : (Action → State → ActionOutcome) → (earlier later : Standing) → Type 0
LeadsTo act earlier later = (outcome : Outcome) → ComesTo act later outcome → ComesTo act earlier outcome

-- The end is no token: no row keeps it as one, and no terminal is it.

abbrev pub is_usual : ProductionItem → Bool
is_usual (Token class_) = not (is_same class_ End)
is_usual item = true

abbrev pub is_no_end : Terminal → Bool
is_no_end terminal = not (is_same End terminal.class_)
