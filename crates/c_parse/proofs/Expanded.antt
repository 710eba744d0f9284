-- What is known where a row stands in the place of its symbol, or an action was done.
use Rattle.std.proofs.Common.{◌≡◌, ℕ, ◌+◌, Bool, true, false, List, [], ◌∷◌, ◌++◌, Option, Some, None, refl, sym, ap, ap₂, subst, ◌∙◌, arith, append_assoc, if◌then◌else◌, nat_lt}
use Rattle.vocabulary.specs.declared.limit.LimitKind.TheVariants.{ParseStack}
use Rattle.vocabulary.specs.declared.token_class.TokenClass.TheVariants.{End}
use Rattle.vocabulary.specs.declared.symbol.Symbol.{Symbol}
use Rattle.vocabulary.specs.declared.action.Action.{Action}
use Rattle.vocabulary.specs.declared.production_item.ProductionItem.{ProductionItem}
use Rattle.vocabulary.specs.declared.production_item.ProductionItem.TheVariants.{Passed, Nonterminal, Do}
use Rattle.meaning_grammar.specs.Terminals.{Terminal}
use Rattle.meaning_grammar.specs.Choice.{choice}
use Rattle.meaning_grammar.specs.Sorts.{Sort, effects, KeepsSorts}
use Rattle.meaning_derivation.specs.Values.{sorts_of}
use Rattle.meaning_derivation.specs.State.{State, IsError, PassesLimit, with_waiting, with_limit, most_pending}
use Rattle.meaning_derivation.specs.Taking.{look_at, second_look, look_of, second_of, refused_at}
use Rattle.meaning_derivation.specs.Derivation.{symbols, last_taken}
use Rattle.meaning_derivation.specs.Actions.{act}
use Rattle.meaning_derivation.specs.Leading.{LeadsTo, ComesTo}
use Rattle.meaning_derivation.proofs.Stepping.{symbols-append, row_leads, action_fails, symbol_fails}
use Rattle.parse_state.specs.Steps.{IsToldBy}
use Rattle.parse_state.specs.declared.fault.ActionFault.{ActionFault}
use Rattle.parse_state.specs.declared.fault.ActionFault.TheVariants as actions
use Rattle.c_parse.specs.declared.looks.Looks.{Looks}
use Rattle.c_parse.specs.Steps.{AreLooks, before_end, standing}
use Rattle.c_parse.specs.Telling.{IsTold, fault_seen}
use Rattle.c_parse.specs.declared.fault.ParseFault.{ParseFault}
use Rattle.meaning_derivation.proofs.Finding.{row_sorted}
use Rattle.c_parse.proofs.Told.{told_so}

-- What waits is noted, and nothing else changes

noted_values : (test : Bool) (s : State) → (if test then with_limit ParseStack s else s).values ≡ s.values
noted_values true s = refl
noted_values false s = refl

noted_scopes : (test : Bool) (s : State) → (if test then with_limit ParseStack s else s).scopes ≡ s.scopes
noted_scopes true s = refl
noted_scopes false s = refl

waiting_values : (count : ℕ) (s next : State) → next ≡ with_waiting count s → next.values ≡ s.values
waiting_values count s next is = ap (λ (state : State). state.values) is ∙ noted_values (nat_lt most_pending count) s

pub waiting_scopes : (count : ℕ) (s next : State) → next ≡ with_waiting count s → next.scopes ≡ s.scopes
waiting_scopes count s next is = ap (λ (state : State). state.scopes) is ∙ noted_scopes (nat_lt most_pending count) s

-- Rows

pub expanded_leads : (symbol : Symbol) (row items : List ProductionItem) (s next : State) (left : List Terminal) (count : ℕ)
    → choice symbol (look_of s left) (second_of s left) ≡ Some row → next ≡ with_waiting count s → count ≡ symbols (row ++ items)
    → LeadsTo act (standing (Nonterminal symbol ∷ items) s left) (standing (row ++ items) next left)
expanded_leads symbol row items s next left count chosen is counted =
    let same_items : row ++ before_end items ≡ before_end (row ++ items) = sym (append_assoc row items (Passed End ∷ [])) in
    let same_count : symbols row + symbols (before_end items) ≡ count =
    omega (arith, counted, symbols-append row items, symbols-append items (Passed End ∷ [])) in
    let same_state : with_waiting (symbols row + symbols (before_end items)) s ≡ next = ap (λ n. with_waiting n s) same_count ∙ sym is in
    subst (λ all. LeadsTo act (standing (Nonterminal symbol ∷ items) s left) (record { items = all; state = next; terminals = left })) same_items
    (subst (λ state. LeadsTo act (standing (Nonterminal symbol ∷ items) s left) (record { items = row ++ before_end items; state = state; terminals = left })) same_state
    (row_leads act symbol row (before_end items) s left chosen))

pub expanded_sorted : (symbol : Symbol) (row items : List ProductionItem) (s next : State) (count : ℕ) (all : List Sort)
    → KeepsSorts symbol row → next ≡ with_waiting count s → effects (Nonterminal symbol ∷ items) (Some (sorts_of s.values)) ≡ Some all
    → effects (row ++ items) (Some (sorts_of next.values)) ≡ Some all
expanded_sorted symbol row items s next count all keeps is have =
    ap (λ values. effects (row ++ items) (Some (sorts_of values))) (waiting_values count s next is)
    ∙ row_sorted symbol row items (sorts_of s.values) all keeps have

pub expanded_looks : (s next : State) (left : List Terminal) (count : ℕ) (looks : Looks) → next ≡ with_waiting count s
    → AreLooks s left looks → AreLooks next left looks
expanded_looks s next left count looks is are =
    let scopes = sym (waiting_scopes count s next is) in
    record {
      next = are.next ∙ ap (λ one. look_at one left) scopes;
      behind = are.behind ∙ ap (λ one. second_look one left) scopes;
    }

-- the row that two classes choose is that before the terminals
pub chosen_there : (symbol : Symbol) (s : State) (left : List Terminal) (looks : Looks) (found : Option (List ProductionItem))
    → AreLooks s left looks → choice symbol looks.next looks.behind ≡ found → choice symbol (look_of s left) (second_of s left) ≡ found
chosen_there symbol s left looks found are is = ap₂ (λ first second. choice symbol first second) (sym are.next) (sym are.behind) ∙ is

-- What is told

pub symbol_told : (symbol : Symbol) (items : List ProductionItem) (s : State) (left : List Terminal) (fault : ParseFault)
    → choice symbol (look_of s left) (second_of s left) ≡ None → IsTold (λ outcome. refused_at (Nonterminal symbol) s left ≡ outcome) fault
    → IsTold (ComesTo act (standing (Nonterminal symbol ∷ items) s left)) fault
symbol_told symbol items s left fault none told =
    told_so (λ outcome. refused_at (Nonterminal symbol) s left ≡ outcome) (ComesTo act (standing (Nonterminal symbol ∷ items) s left)) fault
    (λ why decided stands is. symbol_fails act symbol (before_end items) s left why decided stands none is) told

pub action_told : (action : Action) (items : List ProductionItem) (s : State) (left : List Terminal) (fault : ActionFault)
    → IsToldBy (act action s) fault → IsTold (ComesTo act (standing (Do action ∷ items) s left)) (fault_seen fault)
action_told action items s left (actions.Refused kind token) is = (last_taken s.taken, action_fails act action (before_end items) s left (IsError kind) token is)
action_told action items s left (actions.Limit limit token) is = (last_taken s.taken, action_fails act action (before_end items) s left (PassesLimit limit) token is)
action_told action items s left actions.Memory is = tt
