-- Each kind of step, whole.
use Rattle.std.proofs.Common.{◌≡◌, ℕ, ◌^◌, ◌≤◌, true, List, [], ◌∷◌, ◌++◌, Option, Some, None, drop, length, sym, ap, subst, ◌∙◌, arith, length-append, if◌then◌else◌}
use Rattle.std.specs.List.{list_all}
use Rattle.std.proofs.lemmas.Bool.{and_parts}
use Rattle.vocabulary.specs.declared.symbol.Symbol.{Symbol}
use Rattle.vocabulary.specs.declared.action.Action.{Action}
use Rattle.vocabulary.specs.declared.production_item.ProductionItem.{ProductionItem}
use Rattle.vocabulary.specs.declared.production_item.ProductionItem.TheVariants.{Nonterminal, Do}
use Rattle.meaning_grammar.specs.Terminals.{Terminal}
use Rattle.meaning_grammar.specs.Choice.{choice}
use Rattle.meaning_grammar.specs.Sorts.{ATree}
use Rattle.meaning_derivation.specs.State.{State, Done, Goes, with_waiting}
use Rattle.meaning_derivation.specs.Taking.{take_one}
use Rattle.meaning_derivation.specs.Derivation.{symbols, is_terminal_item}
use Rattle.meaning_derivation.specs.Actions.{act}
use Rattle.meaning_derivation.specs.Leading.{LeadsTo, is_no_end, is_usual}
use Rattle.meaning_derivation.proofs.Stepping.{terminal_leads, action_leads}
use Rattle.meaning_derivation.proofs.Sorting.{actions_lead_on}
use Rattle.parse_state.specs.Seen.{state_of}
use Rattle.c_opening.specs.Opening.{Opens}
use Rattle.c_parse.specs.Kept.{keeps_scopes}
use Rattle.c_parse.specs.Steps.{AreLooks, before_end, standing}
use Rattle.c_parse.specs.Moments.{MayBeLooks, IsReady, Moves, standing_with}
use Rattle.c_parse.specs.declared.looks.Looks.{Looks}
use Rattle.c_parse.specs.declared.parser.Parser.{Parser}
use Rattle.meaning_derivation.proofs.Taken.{taken_sorted, taken_shortens, unended_behind}
use Rattle.c_opening.specs.Absent.{AreAbsent}
use Rattle.c_parse.proofs.Absent.{absent_opened, absent_there}
use Rattle.c_parse.proofs.Expanded.{chosen_there, expanded_looks}
use Rattle.c_parse.proofs.Looked.{looks_after}
use Rattle.c_parse.proofs.Opened.{Opened, opened}

-- a terminal is taken
pub take_moves : (item : ProductionItem) (before after : Parser) → is_terminal_item item ≡ true → IsReady (item ∷ after.pending) before
    → take_one item (state_of before.state) before.terminals.terminals ≡ Done (state_of after.state) after.terminals.terminals
    → after.terminals.terminals ≡ drop 1 before.terminals.terminals → after.state.names ≡ before.state.names → after.terminals.names ≡ before.terminals.names
    → MayBeLooks (state_of after.state) after.terminals.terminals after.looks → Moves (item ∷ after.pending) before after
take_moves item before after is ready goes left names left_names looks =
    let usual = and_parts (is_usual item) (list_all is_usual after.pending) ready.usual in
    let few = ready.few in
    record {
      leads = terminal_leads act item (before_end after.pending) (state_of before.state) (state_of after.state) before.terminals.terminals after.terminals.terminals is goes;
      ready = record {
        names = left_names ∙ ready.names ∙ sym names;
        looked = looks;
        sorted = taken_sorted item after.pending (state_of before.state) (state_of after.state) before.terminals.terminals after.terminals.terminals (ATree ∷ []) is usual.0 goes ready.sorted;
        usual = usual.1;
        unended = ap (list_all is_no_end) left ∙ unended_behind is_no_end before.terminals.terminals ready.unended;
        few = omega (arith, few);
      };
      names = names;
      shorter = taken_shortens item after.pending (state_of before.state) (state_of after.state) before.terminals.terminals after.terminals.terminals is usual.0 (omega (arith, few)) goes;
    }

-- an action is done
pub act_moves : (action : Action) (before after : Parser) → IsReady (Do action ∷ after.pending) before → act action (state_of before.state) ≡ Goes (state_of after.state)
    → after.terminals ≡ before.terminals → after.state.names ≡ before.state.names → after.looks ≡ (if keeps_scopes action then before.looks else None)
    → Moves (Do action ∷ after.pending) before after
act_moves action before after ready goes same names looks =
    let few = ready.few in
    let left : after.terminals.terminals ≡ before.terminals.terminals = ap (λ terminals. terminals.terminals) same in
    record {
      leads = subst (λ (left : List Terminal). LeadsTo act (standing_with (Do action ∷ after.pending) before) (standing after.pending (state_of after.state) left)) (sym left)
          (action_leads act action (before_end after.pending) (state_of before.state) (state_of after.state) before.terminals.terminals goes);
      ready = record {
        names = ap (λ terminals. terminals.names) same ∙ ready.names ∙ sym names;
        looked = subst (λ (one : Option Looks). MayBeLooks (state_of after.state) after.terminals.terminals one) (sym looks)
            (looks_after action (state_of before.state) (state_of after.state) after.terminals.terminals before.looks goes
            (subst (λ (some : List Terminal). MayBeLooks (state_of before.state) some before.looks) (sym left) ready.looked));
        sorted = actions_lead_on action after.pending (state_of before.state) (state_of after.state) (ATree ∷ []) goes ready.sorted;
        usual = ready.usual;
        unended = ap (list_all is_no_end) left ∙ ready.unended;
        few = omega (arith, few);
      };
      names = names;
      shorter = omega (arith, ap length left);
    }

-- other items stand in the place of a symbol, and no terminal is taken
opened_moves : (symbol : Symbol) (looks : Looks) (before after : Parser) (count : ℕ)
    → IsReady (Nonterminal symbol ∷ before.pending) before → AreLooks (state_of before.state) before.terminals.terminals looks
    → Opened (Nonterminal symbol ∷ before.pending) after.pending (state_of before.state) (with_waiting count (state_of before.state)) before.terminals.terminals
    → length after.pending ≤ 2 ^ 40 → state_of after.state ≡ with_waiting count (state_of before.state) → after.terminals ≡ before.terminals
    → after.state.names ≡ before.state.names → after.looks ≡ Some looks → Moves (Nonterminal symbol ∷ before.pending) before after
opened_moves symbol looks before after count ready looked there few state same names later =
    let left : after.terminals.terminals ≡ before.terminals.terminals = ap (λ terminals. terminals.terminals) same in
    let s : State = state_of before.state in
    let next : State = state_of after.state in
    let terminals : List Terminal = before.terminals.terminals in
    let moved = subst (λ (last : State). Opened (Nonterminal symbol ∷ before.pending) after.pending s last terminals) (sym state) there in
    let shortens = moved.shorter in
    record {
      leads = subst (λ (some : List Terminal). LeadsTo act (standing_with (Nonterminal symbol ∷ before.pending) before) (standing after.pending next some)) (sym left) moved.leads;
      ready = record {
        names = ap (λ terminals. terminals.names) same ∙ ready.names ∙ sym names;
        looked = subst (λ (one : Option Looks). MayBeLooks next after.terminals.terminals one) (sym later)
            (subst (λ (some : List Terminal). AreLooks next some looks) (sym left) (expanded_looks s next terminals count looks state looked));
        sorted = moved.sorted (ATree ∷ []) ready.sorted;
        usual = moved.usual ready.usual;
        unended = ap (list_all is_no_end) left ∙ ready.unended;
        few = omega (arith, few);
      };
      names = names;
      shorter = omega (arith, ap length left, shortens);
    }

-- what a symbol opens to stands in its place
pub opening_moves : (symbol : Symbol) (row : List ProductionItem) (looks : Looks) (before after : Parser) (count : ℕ)
    → IsReady (Nonterminal symbol ∷ before.pending) before → AreLooks (state_of before.state) before.terminals.terminals looks
    → Opens looks.next looks.behind symbol row → after.pending ≡ row ++ before.pending → count ≡ symbols after.pending → length after.pending ≤ 2 ^ 40
    → state_of after.state ≡ with_waiting count (state_of before.state) → after.terminals ≡ before.terminals
    → after.state.names ≡ before.state.names → after.looks ≡ Some looks → Moves (Nonterminal symbol ∷ before.pending) before after
opening_moves symbol row looks before after count ready looked opens pending counted few state same names later =
    let s : State = state_of before.state in
    let terminals : List Terminal = before.terminals.terminals in
    let here = opened looks.next looks.behind opens before.pending s terminals count looked.next looked.behind (counted ∙ ap symbols pending) in
    let there = subst (λ (items : List ProductionItem). Opened (Nonterminal symbol ∷ before.pending) items s (with_waiting count s) terminals) (sym pending) here in
    opened_moves symbol looks before after count ready looked there few state same names later

-- operators that aren't there are passed over
pub absent_moves : (symbol : Symbol) (passed : List ProductionItem) (looks : Looks) (before after : Parser) (count : ℕ)
    → IsReady (Nonterminal symbol ∷ before.pending) before → AreLooks (state_of before.state) before.terminals.terminals looks
    → choice symbol looks.next looks.behind ≡ Some [] → AreAbsent looks.next looks.behind passed → before.pending ≡ passed ++ after.pending
    → count ≡ symbols before.pending → length before.pending ≤ 2 ^ 40
    → state_of after.state ≡ with_waiting count (state_of before.state) → after.terminals ≡ before.terminals
    → after.state.names ≡ before.state.names → after.looks ≡ Some looks → Moves (Nonterminal symbol ∷ before.pending) before after
absent_moves symbol passed looks before after count ready looked chosen absent pending counted few state same names later =
    let s : State = state_of before.state in
    let terminals : List Terminal = before.terminals.terminals in
    let chosen_here = chosen_there symbol s terminals looks (Some []) looked chosen in
    let absent_here = absent_there passed s terminals looks looked absent in
    let here = absent_opened symbol passed after.pending s terminals count chosen_here absent_here (counted ∙ ap symbols pending) in
    let there = subst (λ (items : List ProductionItem). Opened (Nonterminal symbol ∷ items) after.pending s (with_waiting count s) terminals) (sym pending) here in
    let fewer : length after.pending ≤ 2 ^ 40 = omega (arith, few, ap length pending, length-append passed after.pending) in
    opened_moves symbol looks before after count ready looked there fewer state same names later
