-- What the plain program answers is derived: by how many steps it may make.
use Rattle.std.proofs.Common.{◌≡◌, Bool, true, false, ℕ, zero, suc, ◌+◌, List, [], ◌∷◌, Option, Some, None, refl, ap, subst}
use Rattle.std.specs.Option.{option_and_then}
use Rattle.std.proofs.lemmas.Bool.{false≢true}
use Rattle.vocabulary.specs.declared.symbol.Symbol.{Symbol}
use Rattle.vocabulary.specs.declared.action.Action.{Action}
use Rattle.vocabulary.specs.declared.production_item.ProductionItem.{ProductionItem}
use Rattle.vocabulary.specs.declared.production_item.ProductionItem.TheVariants.{Nonterminal, Do}
use Rattle.meaning_grammar.specs.Terminals.{Terminal}
use Rattle.meaning_grammar.specs.Choice.{choice}
use Rattle.meaning_derivation.specs.State.{State, ActionOutcome, Outcome, Done, Fails}
use Rattle.meaning_derivation.specs.Taking.{look_of, second_of}
use Rattle.meaning_derivation.specs.Derivation.{symbols, Derives, DerivesAll, terminal, action, by_row, without_row, none_left, more, stop}
use Rattle.meaning_derivation.specs.plain.Deriving.{derive_row, derive_item, derive_behind, derive_all}
use Rattle.meaning_derivation.specs.laws.Outcomes.{AnswersAreOutcomes}

outcome_or : Outcome → Option Outcome → Outcome
outcome_or outcome None = outcome
outcome_or outcome (Some other) = other

is_answer : Option Outcome → Bool
is_answer None = false
is_answer (Some outcome) = true

-- of no answer nothing is claimed
no_answer : {outcome : Outcome} → None ≡ Some outcome → ⊥
unfolding is_answer
no_answer h = false≢true (ap is_answer h)

-- what holds of an answer holds of each that is equal
answered : (P : Outcome → Type 0) {first second : Outcome} → Some first ≡ Some second → P first → P second
unfolding outcome_or
answered P {first} {second} h p = subst P (ap (outcome_or first) h) p

module _ (act : Action → State → ActionOutcome) (derive : List ProductionItem → ℕ → State → List Terminal → Option Outcome)
    (sound : (items : List ProductionItem) (behind : ℕ) (state : State) (terminals : List Terminal) (outcome : Outcome)
    → derive items behind state terminals ≡ Some outcome → DerivesAll act items behind state terminals outcome) where
  row_sound : (symbol : Symbol) (behind : ℕ) (state : State) (terminals : List Terminal) (outcome : Outcome) (chosen : Option (List ProductionItem))
      → choice symbol (look_of state terminals) (second_of state terminals) ≡ chosen
      → derive_row act derive (Nonterminal symbol) behind state terminals chosen ≡ Some outcome → Derives act (Nonterminal symbol) behind state terminals outcome
  row_sound symbol behind state terminals outcome None c h = answered (λ o. Derives act (Nonterminal symbol) behind state terminals o) h (without_row c)
  row_sound symbol behind state terminals outcome (Some items) c h = by_row c (sound _ _ _ _ outcome h)

  item_sound : (item : ProductionItem) (behind : ℕ) (state : State) (terminals : List Terminal) (outcome : Outcome)
      → derive_item act derive item behind state terminals ≡ Some outcome → Derives act item behind state terminals outcome
  item_sound (Nonterminal symbol) behind state terminals outcome h = row_sound symbol behind state terminals outcome _ refl h
  item_sound (Do what) behind state terminals outcome h = answered (λ o. Derives act (Do what) behind state terminals o) h action
  item_sound item behind state terminals outcome h = answered (λ o. Derives act item behind state terminals o) h (terminal refl)

  more_sound : (item : ProductionItem) (items : List ProductionItem) (behind : ℕ) (state : State) (terminals : List Terminal) (outcome : Outcome) (end : Option Outcome)
      → ((o : Outcome) → end ≡ Some o → Derives act item (symbols items + behind) state terminals o)
      → option_and_then (derive_behind act derive items behind) end ≡ Some outcome → DerivesAll act (item ∷ items) behind state terminals outcome
  more_sound item items behind state terminals outcome None ends h = absurd (no_answer h)
  more_sound item items behind state terminals outcome (Some (Done next left)) ends h = more (ends _ refl) (sound items behind next left outcome h)
  more_sound item items behind state terminals outcome (Some (Fails fault decided stands)) ends h =
      answered (λ o. DerivesAll act (item ∷ items) behind state terminals o) h (stop (ends _ refl))

derive_all_sound : (act : Action → State → ActionOutcome) (depth : ℕ) (items : List ProductionItem) (behind : ℕ) (state : State) (terminals : List Terminal) (outcome : Outcome)
    → derive_all act depth items behind state terminals ≡ Some outcome → DerivesAll act items behind state terminals outcome
derive_all_sound act zero items behind state terminals outcome h = absurd (no_answer h)
derive_all_sound act (suc depth) [] behind state terminals outcome h = answered (λ o. DerivesAll act [] behind state terminals o) h none_left
derive_all_sound act (suc depth) (item ∷ items) behind state terminals outcome h =
    more_sound act (derive_all act depth) (derive_all_sound act depth) item items behind state terminals outcome _
    (item_sound act (derive_all act depth) (derive_all_sound act depth) item _ state terminals) h

pub answers_are_outcomes : AnswersAreOutcomes
answers_are_outcomes act depth tokens outcome h = derive_all_sound act depth _ 0 _ _ outcome h
