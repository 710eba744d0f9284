-- Each unit has an outcome: behind each step fewer tokens are left, or what waits weighs less.
use Rattle.std.proofs.Common.{◌≡◌, ◌⊎◌, ◌<◌, ◌≤◌, ℕ, zero, suc, ◌+◌, Bool, true, false, ◌&&◌, List, [], ◌∷◌, ◌++◌, Option, Some, None, length, drop, refl, sym, ap, subst, ◌∙◌, inl, inr, arith, append_assoc, if◌then◌else◌, nat_lt}
use Rattle.std.specs.List.{list_all}
use Rattle.std.proofs.lemmas.Bool.{and_parts}
use Rattle.std.proofs.lemmas.List.Folds.{list_all-append}
use Rattle.std.proofs.lemmas.Option.{same_Some}
use Rattle.vocabulary.specs.declared.limit.LimitKind.TheVariants.{ParseStack}
use Rattle.vocabulary.specs.declared.token_class.TokenClass.TheVariants.{End}
use Rattle.vocabulary.specs.declared.symbol.Symbol.{Symbol}
use Rattle.vocabulary.specs.declared.symbol.Symbol.TheVariants.{ExternalDeclarations}
use Rattle.vocabulary.specs.declared.action.Action.{Action}
use Rattle.vocabulary.specs.declared.action.Action.TheVariants.{BeginList, MakeTranslationUnit}
use Rattle.vocabulary.specs.declared.production_item.ProductionItem.{ProductionItem}
use Rattle.vocabulary.specs.declared.production_item.ProductionItem.TheVariants.{Passed, Nonterminal, Do}
use Rattle.meaning_text.specs.Tokens.{Tok}
use Rattle.meaning_tree.specs.Trees.{SyntaxTree}
use Rattle.meaning_grammar.specs.Terminals.{Terminal, terminals}
use Rattle.meaning_grammar.specs.Choice.{choice}
use Rattle.meaning_grammar.specs.Sorts.{ATree, effects}
use Rattle.meaning_grammar.specs.Weights.{live}
use Rattle.meaning_grammar.proofs.Fitting.{what_is_taken_fits}
use Rattle.meaning_derivation.specs.Values.{Value, WordValue, TreeValue, ListValue, sorts_of}
use Rattle.meaning_derivation.specs.State.{State, Fault, ActionOutcome, Goes, Refuses, Outcome, Done, Fails, with_waiting, with_limit, most_pending}
use Rattle.meaning_derivation.specs.Taking.{look_of, second_of, refused_at, take_one}
use Rattle.meaning_derivation.specs.Derivation.{symbols, last_taken, is_terminal_item, none_left}
use Rattle.meaning_derivation.specs.Actions.{act}
use Rattle.meaning_derivation.specs.Leading.{Standing, ComesTo, LeadsTo, is_usual, is_no_end}
use Rattle.meaning_derivation.specs.Units.{state_before, HasOutcome, DerivesTree, IsRefused}
use Rattle.meaning_derivation.specs.laws.Outcomes.{UnitsHaveAnOutcome}
use Rattle.meaning_derivation.proofs.Finding.{row_sorted}
use Rattle.meaning_derivation.proofs.Reaching.{chosen_is_usual, row_shortens}
use Rattle.meaning_derivation.proofs.Sorting.{actions_lead_on}
use Rattle.meaning_derivation.proofs.Stepping.{row_leads, terminal_leads, terminal_fails, action_leads, action_fails, symbol_fails}
use Rattle.meaning_derivation.proofs.Taken.{taken, taken_sorted, left_behind, unended_behind, limit_goes, live_at_end}
use Rattle.meaning_derivation.proofs.Unended.{terminals-no_end, end_left}

-- items wait before the end of the unit
abbrev standing : List ProductionItem → State → List Terminal → Standing
standing items s left = record { items = items ++ Passed End ∷ []; state = s; terminals = left }

-- what waits makes one tree of the values that stand
record Fits (items : List ProductionItem) (s : State) (left : List Terminal) : Type 0 where
  pub sorted : effects items (Some (sorts_of s.values)) ≡ Some (ATree ∷ [])
  pub usual : list_all is_usual items ≡ true
  pub unended : list_all is_no_end left ≡ true

-- one tree is all that is left, or it is refused
abbrev IsWhole : Outcome → Type 0
IsWhole (Done last left) = (left ≡ []) × (sorts_of last.values ≡ ATree ∷ [])
IsWhole (Fails fault decided stands) = Unit {0}

abbrev Ends : Standing → Type 0
Ends here = (outcome : Outcome) × IsWhole outcome × ComesTo act here outcome

-- what a step leads to ends, and so does the step
ends_before : (first second : Standing) → LeadsTo act first second → Ends second → Ends first
ends_before first second leads ends = (ends.0, ends.1, leads ends.0 ends.2)

ends_refused : (here : Standing) (fault : Fault) (decided stands : ℕ) → ComesTo act here (Fails fault decided stands) → Ends here
ends_refused here fault decided stands comes = (Fails fault decided stands, tt, comes)

-- how many wait is noted, and the values stay
noted_values : (test : Bool) (s : State) → (if test then with_limit ParseStack s else s).values ≡ s.values
noted_values true s = refl
noted_values false s = refl

-- the end of the unit
at_end : (s : State) (left : List Terminal) → Fits [] s left → (found : Outcome) → take_one (Passed End) s left ≡ found → Ends (standing [] s left)
at_end s left fits (Done next rest) goes =
    let none = end_left s left fits.unended (taken (Passed End) s next left rest goes).0 in
    let sorted = taken_sorted (Passed End) [] s next left rest (ATree ∷ []) refl refl goes fits.sorted in
    ends_before (standing [] s left) (record { items = []; state = next; terminals = rest })
    (terminal_leads act (Passed End) [] s next left rest refl goes)
    (Done next rest, (left_behind (Passed End) s next left rest goes ∙ ap (drop 1) none, same_Some _ _ sorted), none_left)
at_end s left fits (Fails fault decided stands) is =
    ends_refused (standing [] s left) fault decided stands (terminal_fails act (Passed End) [] s left fault decided stands refl is)

-- Steps, where what comes behind them ends: at most so many terminals are left, and what waits weighs at most so much
module _ (most : ℕ) (shorter : (items : List ProductionItem) (s : State) (left : List Terminal) → length left < most → Fits items s left → Ends (standing items s left)) where
  module _ (heaviest : ℕ) (lighter : (items : List ProductionItem) (s : State) (left : List Terminal) → length left ≤ most → live items < heaviest → Fits items s left → Ends (standing items s left)) where
    take_ends : (item : ProductionItem) (items : List ProductionItem) (s : State) (left : List Terminal) → is_terminal_item item ≡ true → length left ≤ most
        → live (item ∷ items) ≤ heaviest → Fits (item ∷ items) s left → (found : Outcome) → take_one item s left ≡ found → Ends (standing (item ∷ items) s left)
    take_ends item items s left is few light fits (Fails fault decided stands) fails =
        ends_refused (standing (item ∷ items) s left) fault decided stands
        (terminal_fails act item (items ++ Passed End ∷ []) s left fault decided stands is fails)
    take_ends item items s [] is few light fits (Done next rest) goes =
        let usual = and_parts (is_usual item) (list_all is_usual items) fits.usual in
        let none = left_behind item s next [] rest goes in
        let one = live_at_end item items is usual.0 (taken item s next [] rest goes).0 in
        ends_before (standing (item ∷ items) s []) (standing items next rest)
        (terminal_leads act item (items ++ Passed End ∷ []) s next [] rest is goes)
        (lighter items next rest (omega (arith, few, ap length none)) (omega (arith, one, light)) (record {
          sorted = taken_sorted item items s next [] rest (ATree ∷ []) is usual.0 goes fits.sorted;
          usual = usual.1;
          unended = ap (list_all is_no_end) none;
        }))
    take_ends item items s (terminal ∷ left) is few light fits (Done next rest) goes =
        let usual = and_parts (is_usual item) (list_all is_usual items) fits.usual in
        let behind = left_behind item s next (terminal ∷ left) rest goes in
        ends_before (standing (item ∷ items) s (terminal ∷ left)) (standing items next rest)
        (terminal_leads act item (items ++ Passed End ∷ []) s next (terminal ∷ left) rest is goes)
        (shorter items next rest (omega (arith, few, ap length behind)) (record {
          sorted = taken_sorted item items s next (terminal ∷ left) rest (ATree ∷ []) is usual.0 goes fits.sorted;
          usual = usual.1;
          unended = ap (list_all is_no_end) behind ∙ unended_behind is_no_end (terminal ∷ left) fits.unended;
        }))

    act_ends : (action : Action) (items : List ProductionItem) (s : State) (left : List Terminal) → length left ≤ most → live (Do action ∷ items) ≤ heaviest
        → Fits (Do action ∷ items) s left → (found : ActionOutcome) → act action s ≡ found → Ends (standing (Do action ∷ items) s left)
    act_ends action items s left few light fits (Goes next) goes =
        ends_before (standing (Do action ∷ items) s left) (standing items next left) (action_leads act action (items ++ Passed End ∷ []) s next left goes)
        (lighter items next left few (omega (arith, light)) (record {
          sorted = actions_lead_on action items s next (ATree ∷ []) goes fits.sorted;
          usual = fits.usual;
          unended = fits.unended;
        }))
    act_ends action items s left few light fits (Refuses fault stands) is =
        ends_refused (standing (Do action ∷ items) s left) fault (last_taken s.taken) stands
        (action_fails act action (items ++ Passed End ∷ []) s left fault stands is)

    -- a symbol without a row
    symbol_ends : (symbol : Symbol) (items : List ProductionItem) (s : State) (left : List Terminal) → choice symbol (look_of s left) (second_of s left) ≡ None
        → (found : Outcome) → refused_at (Nonterminal symbol) s left ≡ found → Ends (standing (Nonterminal symbol ∷ items) s left)
    symbol_ends symbol items s left none (Done next rest) is = let clash = limit_goes s.passed s.taken _ next rest is in absurd (cc clash)
    symbol_ends symbol items s left none (Fails fault decided stands) is =
        ends_refused (standing (Nonterminal symbol ∷ items) s left) fault decided stands
        (symbol_fails act symbol (items ++ Passed End ∷ []) s left fault decided stands none is)

    row_ends : (symbol : Symbol) (items : List ProductionItem) (s : State) (left : List Terminal) → length left ≤ most
        → live (Nonterminal symbol ∷ items) ≤ heaviest → Fits (Nonterminal symbol ∷ items) s left → (found : Option (List ProductionItem))
        → choice symbol (look_of s left) (second_of s left) ≡ found → Ends (standing (Nonterminal symbol ∷ items) s left)
    row_ends symbol items s left few light fits None none = symbol_ends symbol items s left none (refused_at (Nonterminal symbol) s left) refl
    row_ends symbol items s left few light fits (Some row) chosen =
        let fit = what_is_taken_fits symbol row (look_of s left) (second_of s left) chosen in
        let count : ℕ = symbols row + symbols (items ++ Passed End ∷ []) in
        let lighter_row = row_shortens symbol row items fit.falls in
        ends_before (standing (Nonterminal symbol ∷ items) s left) (standing (row ++ items) (with_waiting count s) left)
        (subst
        (λ (all : List ProductionItem). LeadsTo act (standing (Nonterminal symbol ∷ items) s left) (record { items = all; state = with_waiting count s; terminals = left }))
        (sym (append_assoc row items (Passed End ∷ []))) (row_leads act symbol row (items ++ Passed End ∷ []) s left chosen))
        (lighter (row ++ items) (with_waiting count s) left few (omega (arith, lighter_row, light)) (record {
          sorted = ap (λ (values : List Value). effects (row ++ items) (Some (sorts_of values))) (noted_values (nat_lt most_pending count) s)
              ∙ row_sorted symbol row items (sorts_of s.values) (ATree ∷ []) fit.sorted fits.sorted;
          usual = list_all-append is_usual row items
              ∙ ap (λ (front : Bool). front && list_all is_usual items) (chosen_is_usual symbol row (look_of s left) (second_of s left) chosen)
              ∙ fits.usual;
          unended = fits.unended;
        }))

    step_ends : (items : List ProductionItem) (s : State) (left : List Terminal) → length left ≤ most → live items ≤ heaviest → Fits items s left
        → Ends (standing items s left)
    step_ends [] s left few light fits = at_end s left fits (take_one (Passed End) s left) refl
    step_ends (Nonterminal symbol ∷ items) s left few light fits =
        row_ends symbol items s left few light fits (choice symbol (look_of s left) (second_of s left)) refl
    step_ends (Do action ∷ items) s left few light fits = act_ends action items s left few light fits (act action s) refl
    step_ends (item ∷ items) s left few light fits = take_ends item items s left refl few light fits (take_one item s left) refl

  lighter_ends : (heaviest : ℕ) (items : List ProductionItem) (s : State) (left : List Terminal) → length left ≤ most → live items < heaviest → Fits items s left
      → Ends (standing items s left)
  lighter_ends zero items s left few light fits = absurd (omega (arith, light))
  lighter_ends (suc heaviest) items s left few light fits =
      step_ends heaviest (lighter_ends heaviest) items s left few (omega (arith, light)) fits

shorter_ends : (most : ℕ) (items : List ProductionItem) (s : State) (left : List Terminal) → length left < most → Fits items s left → Ends (standing items s left)
shorter_ends zero items s left few fits = absurd (omega (arith, few))
shorter_ends (suc most) items s left few fits =
    lighter_ends most (shorter_ends most) (live items + 1) items s left (omega (arith, few)) (omega arith) fits

-- Units

abbrev unit_items : List ProductionItem
unit_items = Do BeginList ∷ Nonterminal ExternalDeclarations ∷ Do MakeTranslationUnit ∷ []

-- one tree is all that is left
pub only_tree : (values : List Value) → sorts_of values ≡ ATree ∷ [] → (tree : SyntaxTree) × (values ≡ TreeValue tree ∷ [])
only_tree [] is = absurd (cc is)
only_tree (WordValue token text ∷ []) is = absurd (cc is)
only_tree (TreeValue tree ∷ []) is = (tree, refl)
only_tree (ListValue parts ∷ []) is = absurd (cc is)
only_tree (value ∷ other ∷ values) is = absurd (cc is)

told : (tokens : List Tok) (outcome : Outcome) → IsWhole outcome → HasOutcome act tokens outcome
    → ((tree : SyntaxTree) × DerivesTree act tokens tree) ⊎ ((fault : Fault) × (stands : ℕ) × IsRefused act tokens fault stands)
told tokens (Done last left) whole comes =
    let tree = only_tree last.values whole.1 in
    inl (tree.0, (last, subst (λ (rest : List Terminal). HasOutcome act tokens (Done last rest)) whole.0 comes, tree.1))
told tokens (Fails fault decided stands) whole comes = inr (fault, stands, (decided, comes))

pub units_have_an_outcome : UnitsHaveAnOutcome
units_have_an_outcome tokens =
    let ends = shorter_ends (length (terminals tokens) + 1) unit_items (state_before tokens) (terminals tokens) (omega arith)
    (record { sorted = refl; usual = refl; unended = terminals-no_end 0 tokens }) in
    told tokens ends.0 ends.1 ends.2
