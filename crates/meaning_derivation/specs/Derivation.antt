-- What a list of terminals derives. The actions are a parameter: with others the same grammar is read otherwise.
use Rattle.std.specs.Prelude.{◌≡◌, ℕ, zero, suc, ◌+◌, Bool, true, false, List, [], ◌∷◌, Some, None}
use Rattle.vocabulary.specs.declared.token_class.TokenClass.TheVariants.{End}
use Rattle.vocabulary.specs.declared.symbol.Symbol.{Symbol}
use Rattle.vocabulary.specs.declared.action.Action.{Action}
use Rattle.vocabulary.specs.declared.production_item.ProductionItem.{ProductionItem}
use Rattle.vocabulary.specs.declared.production_item.ProductionItem.TheVariants.{Passed, Nonterminal, Do}
use Rattle.meaning_grammar.specs.Terminals.{Terminal}
use Rattle.meaning_grammar.specs.Choice.{choice}
use Rattle.meaning_derivation.specs.State.{State, Fault, ActionOutcome, Goes, Refuses, Outcome, Done, Fails, with_waiting}
use Rattle.meaning_derivation.specs.Taking.{look_of, second_of, refused_at, take_one}

-- the item takes a terminal
abbrev pub is_terminal_item : ProductionItem → Bool
is_terminal_item (Nonterminal symbol) = false
is_terminal_item (Do action) = false
is_terminal_item item = true

-- How many symbols of the grammar wait: tokens, names and nonterminals; actions and the end aren't counted.
abbrev pub symbols : List ProductionItem → ℕ
symbols [] = 0
symbols (Do action ∷ items) = symbols items
symbols (Passed End ∷ items) = symbols items
symbols (item ∷ items) = 1 + symbols items

-- the terminal that was taken last
abbrev pub last_taken : ℕ → ℕ
last_taken zero = 0
last_taken (suc taken) = taken

-- behind an action; what it refuses is decided at the terminal that was taken last
abbrev pub behind_action : State → ActionOutcome → List Terminal → Outcome
behind_action s (Goes next) terminals = Done next terminals
behind_action s (Refuses fault stands) terminals = Fails fault (last_taken s.taken) stands

mutual
  -- An item, with so many symbols that wait behind it, derives a front of the terminals, or something is decided there.
  pub data Derives (act : Action → State → ActionOutcome) : ProductionItem → ℕ → State → List Terminal → Outcome → Type 0 where
    terminal : {item : ProductionItem} {behind : ℕ} {state : State} {terminals : List Terminal}
        → is_terminal_item item ≡ true → Derives act item behind state terminals (take_one item state terminals)
    action : {what : Action} {behind : ℕ} {state : State} {terminals : List Terminal}
        → Derives act (Do what) behind state terminals (behind_action state (act what state) terminals)
    by_row : {symbol : Symbol} {behind : ℕ} {state : State} {terminals : List Terminal} {items : List ProductionItem} {outcome : Outcome}
        → choice symbol (look_of state terminals) (second_of state terminals) ≡ Some items
        → DerivesAll act items behind (with_waiting (symbols items + behind) state) terminals outcome
        → Derives act (Nonterminal symbol) behind state terminals outcome
    without_row : {symbol : Symbol} {behind : ℕ} {state : State} {terminals : List Terminal}
        → choice symbol (look_of state terminals) (second_of state terminals) ≡ None
        → Derives act (Nonterminal symbol) behind state terminals (refused_at (Nonterminal symbol) state terminals)

  -- items derive one behind the other, up to the first at which something is decided
  pub data DerivesAll (act : Action → State → ActionOutcome) : List ProductionItem → ℕ → State → List Terminal → Outcome → Type 0 where
    none_left : {behind : ℕ} {state : State} {terminals : List Terminal} → DerivesAll act [] behind state terminals (Done state terminals)
    more : {item : ProductionItem} {items : List ProductionItem} {behind : ℕ} {state next : State} {terminals left : List Terminal} {outcome : Outcome}
        → Derives act item (symbols items + behind) state terminals (Done next left)
        → DerivesAll act items behind next left outcome
        → DerivesAll act (item ∷ items) behind state terminals outcome
    stop : {item : ProductionItem} {items : List ProductionItem} {behind : ℕ} {state : State} {terminals : List Terminal} {fault : Fault} {decided stands : ℕ}
        → Derives act item (symbols items + behind) state terminals (Fails fault decided stands)
        → DerivesAll act (item ∷ items) behind state terminals (Fails fault decided stands)
