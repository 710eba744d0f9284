-- Actions take and leave values of the sorts that the grammar's table says of them.
use Rattle.std.specs.Prelude.{◌≡◌, List, ◌∷◌, Some}
use Rattle.vocabulary.specs.declared.action.Action.{Action}
use Rattle.vocabulary.specs.declared.production_item.ProductionItem.{ProductionItem}
use Rattle.vocabulary.specs.declared.production_item.ProductionItem.TheVariants.{Do}
use Rattle.meaning_grammar.specs.Sorts.{Sort, effect, effects}
use Rattle.meaning_derivation.specs.Values.{sorts_of}
use Rattle.meaning_derivation.specs.State.{State, Goes}
use Rattle.meaning_derivation.specs.Actions.{act}

-- an action that finds what it takes, and goes on, leaves what its effect says
abbrev pub ActionsAreSorted : Type 0
ActionsAreSorted =
    (action : Action) (before after : State) (sorts : List Sort) → act action before ≡ Goes after
    → effect (Do action) (sorts_of before.values) ≡ Some sorts → sorts_of after.values ≡ sorts

-- so that what comes behind it finds what it takes
abbrev pub ActionsLeadOn : Type 0
ActionsLeadOn =
    (action : Action) (items : List ProductionItem) (before after : State) (sorts : List Sort) → act action before ≡ Goes after
    → effects (Do action ∷ items) (Some (sorts_of before.values)) ≡ Some sorts → effects items (Some (sorts_of after.values)) ≡ Some sorts
