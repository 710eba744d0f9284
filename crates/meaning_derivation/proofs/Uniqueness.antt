-- Items have at most one outcome: by the derivation, and what the next two terminals choose.
use Rattle.std.proofs.Common.{◌≡◌, Bool, true, false, ℕ, ◌+◌, List, Option, Some, None, refl, sym, ap, subst, ◌∙◌}
use Rattle.std.proofs.lemmas.Bool.{false≢true}
use Rattle.vocabulary.specs.declared.action.Action.{Action}
use Rattle.vocabulary.specs.declared.production_item.ProductionItem.{ProductionItem}
use Rattle.meaning_grammar.specs.Terminals.{Terminal}
use Rattle.meaning_derivation.specs.State.{State, ActionOutcome, Outcome, Done, Fails, with_waiting}
use Rattle.meaning_derivation.specs.Derivation.{symbols, Derives, DerivesAll, terminal, action, by_row, without_row, none_left, more, stop}
use Rattle.meaning_derivation.specs.laws.Outcomes.{ItemsHaveOneOutcome, UnitsHaveOneOutcome}

is_some_row : Option (List ProductionItem) → Bool
is_some_row None = false
is_some_row (Some items) = true

row_or : List ProductionItem → Option (List ProductionItem) → List ProductionItem
row_or items None = items
row_or items (Some others) = others

is_done : Outcome → Bool
is_done (Done state terminals) = true
is_done (Fails fault decided stands) = false

state_or : State → Outcome → State
state_or state (Done next terminals) = next
state_or state (Fails fault decided stands) = state

left_or : List Terminal → Outcome → List Terminal
left_or left (Done state terminals) = terminals
left_or left (Fails fault decided stands) = left

module _ (act : Action → State → ActionOutcome) where
  mutual
    unfolding is_some_row row_or is_done state_or left_or

    only : {item : ProductionItem} {behind : ℕ} {state : State} {terminals : List Terminal} {first second : Outcome}
        → Derives act item behind state terminals first → Derives act item behind state terminals second → first ≡ second
    only (terminal h) (terminal k) = refl
    only (terminal h) action = absurd (false≢true h)
    only (terminal h) (by_row c ds) = absurd (false≢true h)
    only (terminal h) (without_row c) = absurd (false≢true h)
    only action (terminal k) = absurd (false≢true k)
    only action action = refl
    only (by_row c ds) (terminal k) = absurd (false≢true k)
    only {behind = behind} {state = state} {terminals = terminals} {second = second} (by_row {items = items} c ds) (by_row e es) =
        only_all ds (subst (λ (by_row : List ProductionItem). DerivesAll act by_row behind (with_waiting (symbols by_row + behind) state) terminals second) (sym (ap (row_or items) (sym c ∙ e))) es)
    only (by_row c ds) (without_row e) = absurd (false≢true (sym (ap is_some_row (sym c ∙ e))))
    only (without_row c) (terminal k) = absurd (false≢true k)
    only (without_row c) (by_row e es) = absurd (false≢true (ap is_some_row (sym c ∙ e)))
    only (without_row c) (without_row e) = refl

    only_all : {items : List ProductionItem} {behind : ℕ} {state : State} {terminals : List Terminal} {first second : Outcome}
        → DerivesAll act items behind state terminals first → DerivesAll act items behind state terminals second → first ≡ second
    only_all none_left none_left = refl
    only_all {behind = behind} {second = second} (more {items = items} {next = next} {left = left} d ds) (more e es) =
        only_all ds
        (subst (λ (end : Outcome). DerivesAll act items behind (state_or next end) (left_or left end) second) (sym (only d e)) es)
    only_all (more d ds) (stop e) = absurd (false≢true (sym (ap is_done (only d e))))
    only_all (stop d) (more e es) = absurd (false≢true (ap is_done (only d e)))
    only_all (stop d) (stop e) = only d e

pub items_have_one_outcome : ItemsHaveOneOutcome
items_have_one_outcome act items behind state terminals first second d e = only_all act d e

pub units_have_one_outcome : UnitsHaveOneOutcome
units_have_one_outcome act tokens first second d e = only_all act d e
