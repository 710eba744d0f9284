-- One step of a derivation leads to the next: whatever the items that wait derive behind it, the items before it derive.
use Rattle.std.proofs.Common.{◌≡◌, ℕ, ◌+◌, true, List, [], ◌∷◌, ◌++◌, Some, None, refl, subst, arith}
use Rattle.vocabulary.specs.declared.token_class.TokenClass.TheVariants.{End}
use Rattle.vocabulary.specs.declared.symbol.Symbol.{Symbol}
use Rattle.vocabulary.specs.declared.action.Action.{Action}
use Rattle.vocabulary.specs.declared.production_item.ProductionItem.{ProductionItem}
use Rattle.vocabulary.specs.declared.production_item.ProductionItem.TheVariants.{Passed, Nonterminal, Do}
use Rattle.meaning_grammar.specs.Terminals.{Terminal}
use Rattle.meaning_grammar.specs.Choice.{choice}
use Rattle.meaning_derivation.specs.State.{State, Fault, ActionOutcome, Goes, Refuses, Outcome, Done, Fails, with_waiting}
use Rattle.meaning_derivation.specs.Taking.{look_of, second_of, refused_at, take_one}
use Rattle.meaning_derivation.specs.Derivation.{symbols, last_taken, is_terminal_item, behind_action, Derives, DerivesAll, terminal, action, by_row, without_row, none_left, more, stop}
use Rattle.meaning_derivation.specs.Leading.{Standing, ComesTo, LeadsTo}

-- How many wait

-- an item counts alike before whatever items
symbols-cons : (item : ProductionItem) (items : List ProductionItem) → symbols (item ∷ items) ≡ symbols (item ∷ []) + symbols items
symbols-cons (Do what) items = omega arith
symbols-cons (Passed End) items = omega arith
symbols-cons item items = refl

pub symbols-append : (items others : List ProductionItem) → symbols (items ++ others) ≡ symbols items + symbols others
symbols-append [] others = omega arith
symbols-append (item ∷ items) others =
    let front = symbols-cons item (items ++ others) in
    let whole = symbols-cons item items in
    let rest = symbols-append items others in
    omega (arith, front, whole, rest)

-- Steps

module _ (act : Action → State → ActionOutcome) where
  -- so many wait behind an item, however they are counted
  counted : {item : ProductionItem} {behind others : ℕ} {state : State} {terminals : List Terminal} {outcome : Outcome}
      → behind ≡ others → Derives act item behind state terminals outcome → Derives act item others state terminals outcome
  counted {item} {state = state} {terminals = terminals} {outcome = outcome} same derived =
      subst (λ waiting. Derives act item waiting state terminals outcome) same derived

  -- a row in front of what waits, where the row's items derive what the item does
  lead : (row others : List ProductionItem) {behind : ℕ} {state : State} {terminals : List Terminal} {outcome : Outcome}
      (item : ProductionItem) (from : State) (all : List Terminal)
      → ((o : Outcome) → DerivesAll act row (symbols others + behind) state terminals o → Derives act item (symbols others + behind) from all o)
      → DerivesAll act (row ++ others) behind state terminals outcome → DerivesAll act (item ∷ others) behind from all outcome
  lead [] others item from all over derived = more (over _ none_left) derived
  lead (next ∷ row) others {behind} item from all over (more d ds) =
      lead row others item from all (λ o rest. over o (more (counted (moved row others behind) d) rest)) ds
    where
      moved : (row others : List ProductionItem) (behind : ℕ) → symbols (row ++ others) + behind ≡ symbols row + (symbols others + behind)
      moved row others behind = omega (arith, symbols-append row others)
  lead (next ∷ row) others {behind} item from all over (stop d) = stop (over _ (stop (counted (moved row others behind) d)))
    where
      moved : (row others : List ProductionItem) (behind : ℕ) → symbols (row ++ others) + behind ≡ symbols row + (symbols others + behind)
      moved row others behind = omega (arith, symbols-append row others)

  -- nothing was done
  pub leads_at_once : (here : Standing) → LeadsTo act here here
  leads_at_once here outcome derived = derived

  -- one step and then others
  pub leads_on : (first second third : Standing) → LeadsTo act first second → LeadsTo act second third → LeadsTo act first third
  leads_on first second third on further outcome derived = on outcome (further outcome derived)

  -- the row of a symbol in its place
  pub row_leads : (symbol : Symbol) (row others : List ProductionItem) (state : State) (terminals : List Terminal)
      → choice symbol (look_of state terminals) (second_of state terminals) ≡ Some row
      → LeadsTo act (record { items = Nonterminal symbol ∷ others; state = state; terminals = terminals })
      (record { items = row ++ others; state = with_waiting (symbols row + symbols others) state; terminals = terminals })
  row_leads symbol row others state terminals chosen outcome derived =
      lead row others (Nonterminal symbol) state terminals
      (λ o row_derived. by_row chosen (subst (λ count. DerivesAll act row (symbols others + 0) (with_waiting count state) terminals o) (same row others) row_derived))
      derived
    where
      same : (row others : List ProductionItem) → symbols row + symbols others ≡ symbols row + (symbols others + 0)
      same row others = omega arith

  -- an item that has an outcome, at the front of what waits

  pub done_leads : (item : ProductionItem) (others : List ProductionItem) (state next : State) (terminals left : List Terminal)
      → Derives act item (symbols others + 0) state terminals (Done next left)
      → LeadsTo act (record { items = item ∷ others; state = state; terminals = terminals }) (record { items = others; state = next; terminals = left })
  done_leads item others state next terminals left derived outcome rest = more derived rest

  -- a terminal that is taken
  pub terminal_leads : (item : ProductionItem) (others : List ProductionItem) (state next : State) (terminals left : List Terminal)
      → is_terminal_item item ≡ true → take_one item state terminals ≡ Done next left
      → LeadsTo act (record { items = item ∷ others; state = state; terminals = terminals }) (record { items = others; state = next; terminals = left })
  terminal_leads item others state next terminals left is taken =
      done_leads item others state next terminals left (subst (λ o. Derives act item (symbols others + 0) state terminals o) taken (terminal is))

  -- one that isn't
  pub terminal_fails : (item : ProductionItem) (others : List ProductionItem) (state : State) (terminals : List Terminal) (fault : Fault) (decided stands : ℕ)
      → is_terminal_item item ≡ true → take_one item state terminals ≡ Fails fault decided stands
      → ComesTo act (record { items = item ∷ others; state = state; terminals = terminals }) (Fails fault decided stands)
  terminal_fails item others state terminals fault decided stands is taken =
      stop (subst (λ o. Derives act item (symbols others + 0) state terminals o) taken (terminal is))

  -- an action that goes on
  pub action_leads : (what : Action) (others : List ProductionItem) (state next : State) (terminals : List Terminal)
      → act what state ≡ Goes next
      → LeadsTo act (record { items = Do what ∷ others; state = state; terminals = terminals }) (record { items = others; state = next; terminals = terminals })
  action_leads what others state next terminals goes =
      done_leads (Do what) others state next terminals terminals
      (subst (λ o. Derives act (Do what) (symbols others + 0) state terminals (behind_action state o terminals)) goes action)

  -- one that is refused
  pub action_fails : (what : Action) (others : List ProductionItem) (state : State) (terminals : List Terminal) (fault : Fault) (stands : ℕ)
      → act what state ≡ Refuses fault stands
      → ComesTo act (record { items = Do what ∷ others; state = state; terminals = terminals }) (Fails fault (last_taken state.taken) stands)
  action_fails what others state terminals fault stands refuses =
      stop (subst (λ o. Derives act (Do what) (symbols others + 0) state terminals (behind_action state o terminals)) refuses action)

  -- a symbol that has no row here
  pub symbol_fails : (symbol : Symbol) (others : List ProductionItem) (state : State) (terminals : List Terminal) (fault : Fault) (decided stands : ℕ)
      → choice symbol (look_of state terminals) (second_of state terminals) ≡ None
      → refused_at (Nonterminal symbol) state terminals ≡ Fails fault decided stands
      → ComesTo act (record { items = Nonterminal symbol ∷ others; state = state; terminals = terminals }) (Fails fault decided stands)
  symbol_fails symbol others state terminals fault decided stands none is =
      stop (subst (λ o. Derives act (Nonterminal symbol) (symbols others + 0) state terminals o) is (without_row none))

  -- what is refused behind a step is refused before it
  pub fails_on : (first second : Standing) (fault : Fault) (decided stands : ℕ) → LeadsTo act first second
      → ComesTo act second (Fails fault decided stands) → ComesTo act first (Fails fault decided stands)
  fails_on first second fault decided stands leads fails = leads (Fails fault decided stands) fails

  -- where no item waits it is done
  pub done_at_end : (first : Standing) (state : State) (terminals : List Terminal)
      → LeadsTo act first (record { items = []; state = state; terminals = terminals }) → ComesTo act first (Done state terminals)
  done_at_end first state terminals leads = leads (Done state terminals) none_left
