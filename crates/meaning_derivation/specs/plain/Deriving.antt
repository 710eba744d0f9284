-- The same as a program, which makes so many steps at most: what it answers is derived.
use Rattle.std.specs.Prelude.{ℕ, zero, suc, ◌+◌, List, [], ◌∷◌, Option, Some, None}
use Rattle.std.specs.Option.{option_and_then}
use Rattle.vocabulary.specs.declared.action.Action.{Action}
use Rattle.vocabulary.specs.declared.production_item.ProductionItem.{ProductionItem}
use Rattle.vocabulary.specs.declared.production_item.ProductionItem.TheVariants.{Nonterminal, Do}
use Rattle.meaning_text.specs.Tokens.{Tok}
use Rattle.meaning_grammar.specs.Productions.{start}
use Rattle.meaning_grammar.specs.Terminals.{Terminal, terminals}
use Rattle.meaning_grammar.specs.Choice.{choice}
use Rattle.meaning_derivation.specs.State.{State, ActionOutcome, Outcome, Done, Fails, with_waiting}
use Rattle.meaning_derivation.specs.Taking.{look_of, second_of, refused_at, take_one}
use Rattle.meaning_derivation.specs.Derivation.{symbols, behind_action}
use Rattle.meaning_derivation.specs.Units.{state_before}

-- Derivations of some length, and those of one more step

module _ (act : Action → State → ActionOutcome) (derive : List ProductionItem → ℕ → State → List Terminal → Option Outcome) where
  -- the row of a symbol, if it has one here
  abbrev pub derive_row : ProductionItem → ℕ → State → List Terminal → Option (List ProductionItem) → Option Outcome
  derive_row item behind s terminals None = Some (refused_at item s terminals)
  derive_row item behind s terminals (Some items) = derive items behind (with_waiting (symbols items + behind) s) terminals

  abbrev pub derive_item : ProductionItem → ℕ → State → List Terminal → Option Outcome
  derive_item (Nonterminal symbol) behind s terminals =
      derive_row (Nonterminal symbol) behind s terminals (choice symbol (look_of s terminals) (second_of s terminals))
  derive_item (Do what) behind s terminals = Some (behind_action s (act what s) terminals)
  derive_item item behind s terminals = Some (take_one item s terminals)

  -- the items behind one that has this outcome
  abbrev pub derive_behind : List ProductionItem → ℕ → Outcome → Option Outcome
  derive_behind items behind (Done next left) = derive items behind next left
  derive_behind items behind (Fails fault decided stands) = Some (Fails fault decided stands)

  abbrev pub derive_more : List ProductionItem → ℕ → State → List Terminal → Option Outcome
  derive_more [] behind s terminals = Some (Done s terminals)
  derive_more (item ∷ items) behind s terminals =
      option_and_then (derive_behind items behind) (derive_item item (symbols items + behind) s terminals)

-- items one behind the other, at most so deep
abbrev pub derive_all : (Action → State → ActionOutcome) → (depth : ℕ) → List ProductionItem → ℕ → State → List Terminal → Option Outcome
derive_all act zero items behind s terminals = None
derive_all act (suc depth) items behind s terminals = derive_more act (derive_all act depth) items behind s terminals

-- a unit
abbrev pub derived_outcome : (Action → State → ActionOutcome) → (depth : ℕ) → List Tok → Option Outcome
derived_outcome act depth tokens = derive_all act depth start 0 (state_before tokens) (terminals tokens)
