-- Rows that are opened at once: several steps as one.
use Rattle.std.proofs.Common.{◌≡◌, ℕ, ◌+◌, ◌<◌, ◌≤◌, Bool, true, false, ◌&&◌, List, [], ◌∷◌, ◌++◌, Option, Some, None, refl, sym, ap, subst, ◌∙◌, arith, append_assoc, if◌then◌else◌, nat_lt}
use Rattle.std.specs.List.{list_all}
use Rattle.std.proofs.lemmas.Bool.{lt-ltb, ltb-true}
use Rattle.std.proofs.lemmas.List.Folds.{list_all-append}
use Rattle.vocabulary.specs.declared.limit.LimitKind.TheVariants.{ParseStack}
use Rattle.vocabulary.specs.declared.token_class.TokenClass.{TokenClass}
use Rattle.vocabulary.specs.declared.symbol.Symbol.{Symbol}
use Rattle.vocabulary.specs.declared.production_item.ProductionItem.{ProductionItem}
use Rattle.vocabulary.specs.declared.production_item.ProductionItem.TheVariants.{Token, Nonterminal}
use Rattle.meaning_grammar.specs.Terminals.{Terminal}
use Rattle.meaning_grammar.specs.Choice.{choice}
use Rattle.meaning_grammar.specs.Sorts.{Sort, effects}
use Rattle.meaning_grammar.specs.Weights.{live}
use Rattle.meaning_grammar.proofs.Fitting.{what_is_taken_fits}
use Rattle.meaning_derivation.specs.Values.{sorts_of}
use Rattle.meaning_derivation.specs.State.{State, Passed, first_passed, with_waiting, with_limit, most_pending}
use Rattle.meaning_derivation.specs.Taking.{look_at, second_look, look_of, second_of}
use Rattle.meaning_derivation.specs.Derivation.{symbols}
use Rattle.meaning_derivation.specs.Actions.{act}
use Rattle.meaning_derivation.specs.Leading.{LeadsTo, is_usual}
use Rattle.meaning_derivation.proofs.Stepping.{symbols-append, leads_on}
use Rattle.meaning_derivation.proofs.Reaching.{chosen_is_usual, row_shortens}
use Rattle.c_opening.specs.Opening.{Opens, by_row, by_rows, begins_with_symbol}
use Rattle.c_parse.specs.Steps.{standing}
use Rattle.c_parse.proofs.Expanded.{expanded_leads, expanded_sorted, waiting_scopes}

-- What waits is noted again

first_again : (passed : Option Passed) (other : Passed) → first_passed (first_passed passed other) other ≡ first_passed passed other
first_again None other = refl
first_again (Some earlier) other = refl

pub limit_again : (s : State) → with_limit ParseStack (with_limit ParseStack s) ≡ with_limit ParseStack s
limit_again s = ap (λ passed. record s { passed = passed }) (first_again s.passed (record { limit = ParseStack; terminal = s.taken }))

noted_twice : (first second : Bool) (s : State) → (first ≡ true → second ≡ true)
    → (if second then with_limit ParseStack (if first then with_limit ParseStack s else s) else (if first then with_limit ParseStack s else s))
    ≡ (if second then with_limit ParseStack s else s)
noted_twice true true s on = limit_again s
noted_twice true false s on = let clash : false ≡ true = on refl in absurd (cc clash)
noted_twice false true s on = refl
noted_twice false false s on = refl

pub over_more : (few more : ℕ) → few ≤ more → nat_lt most_pending few ≡ true → nat_lt most_pending more ≡ true
over_more few more is over = let past = ltb-true most_pending few over in lt-ltb most_pending more (omega (arith, is, past))

-- what waited before at the same terminal adds nothing where more waits now
waits_more : (s : State) (few more : ℕ) → few ≤ more → with_waiting more (with_waiting few s) ≡ with_waiting more s
waits_more s few more is = noted_twice (nat_lt most_pending few) (nat_lt most_pending more) s (over_more few more is)

-- Several steps as one

-- the later items are what comes of the earlier ones without a terminal
pub record Opened (before after : List ProductionItem) (s next : State) (left : List Terminal) : Type 0 where
  pub leads : LeadsTo act (standing before s left) (standing after next left)
  pub sorted : (all : List Sort) → effects before (Some (sorts_of s.values)) ≡ Some all → effects after (Some (sorts_of next.values)) ≡ Some all
  pub usual : list_all is_usual before ≡ true → list_all is_usual after ≡ true
  pub shorter : live after < live before

pub one_row : (symbol : Symbol) (row others : List ProductionItem) (s : State) (left : List Terminal) (count : ℕ)
    → choice symbol (look_of s left) (second_of s left) ≡ Some row → count ≡ symbols (row ++ others)
    → Opened (Nonterminal symbol ∷ others) (row ++ others) s (with_waiting count s) left
one_row symbol row others s left count chosen counted =
    let fits = what_is_taken_fits symbol row _ _ chosen in
    record {
      leads = expanded_leads symbol row others s (with_waiting count s) left count chosen refl counted;
      sorted = λ all have. expanded_sorted symbol row others s (with_waiting count s) count all fits.sorted refl have;
      usual = λ usual. list_all-append is_usual row others ∙ ap (λ front. front && list_all is_usual others) (chosen_is_usual symbol row _ _ chosen) ∙ usual;
      shorter = row_shortens symbol row others fits.falls;
    }

pub then_opened : (first second third : List ProductionItem) (s middle last : State) (left : List Terminal)
    → Opened first second s middle left → Opened second third middle last left → Opened first third s last left
then_opened first second third s middle last left one further =
    let short = one.shorter in
    let shorter_still = further.shorter in
    record {
      leads = leads_on act (standing first s left) (standing second middle left) (standing third last left) one.leads further.leads;
      sorted = λ all have. further.sorted all (one.sorted all have);
      usual = λ usual. further.usual (one.usual usual);
      shorter = omega (arith, short, shorter_still);
    }

-- a row that begins with a symbol counts one at least
symbols_begin : (row others : List ProductionItem) → begins_with_symbol row ≡ true → symbols others + 1 ≤ symbols (row ++ others)
symbols_begin [] others begins = absurd (cc begins)
symbols_begin (Token class_ ∷ items) others begins = omega (arith, symbols-append items others)
symbols_begin (Nonterminal symbol ∷ items) others begins = omega (arith, symbols-append items others)
symbols_begin (item ∷ items) others begins = absurd (cc begins)

-- the classes of the next two terminals stay
pub look_stays : (s : State) (left : List Terminal) (count : ℕ) → look_of (with_waiting count s) left ≡ look_of s left
look_stays s left count = ap (λ scopes. look_at scopes left) (waiting_scopes count s (with_waiting count s) refl)

pub second_stays : (s : State) (left : List Terminal) (count : ℕ) → second_of (with_waiting count s) left ≡ second_of s left
second_stays s left count = ap (λ scopes. second_look scopes left) (waiting_scopes count s (with_waiting count s) refl)

chosen_before : (symbol : Symbol) (row : List ProductionItem) (first second : TokenClass) (s : State) (left : List Terminal)
    → first ≡ look_of s left → second ≡ second_of s left → choice symbol first second ≡ Some row → choice symbol (look_of s left) (second_of s left) ≡ Some row
chosen_before symbol row first second s left is behind chosen =
    ap (λ one. choice symbol one (second_of s left)) (sym is) ∙ ap (choice symbol first) (sym behind) ∙ chosen

-- one row, and behind it what comes of the symbol in front
opened_on : (symbol inner : Symbol) (tail row others : List ProductionItem) (s : State) (left : List Terminal) (count : ℕ)
    → choice symbol (look_of s left) (second_of s left) ≡ Some (Nonterminal inner ∷ tail) → begins_with_symbol row ≡ true
    → count ≡ symbols (row ++ (tail ++ others))
    → Opened (Nonterminal inner ∷ (tail ++ others)) (row ++ (tail ++ others)) (with_waiting (symbols (Nonterminal inner ∷ (tail ++ others))) s)
    (with_waiting count (with_waiting (symbols (Nonterminal inner ∷ (tail ++ others))) s)) left
    → Opened (Nonterminal symbol ∷ others) (row ++ (tail ++ others)) s (with_waiting count s) left
opened_on symbol inner tail row others s left count chosen begins more further =
    let here = one_row symbol (Nonterminal inner ∷ tail) others s left (symbols (Nonterminal inner ∷ (tail ++ others))) chosen refl in
    let one_at_least = symbols_begin row (tail ++ others) begins in
    let longer : symbols (Nonterminal inner ∷ (tail ++ others)) ≤ count = omega (arith, more, one_at_least) in
    subst (λ (last : State). Opened (Nonterminal symbol ∷ others) (row ++ (tail ++ others)) s last left)
    (waits_more s (symbols (Nonterminal inner ∷ (tail ++ others))) count longer)
    (then_opened (Nonterminal symbol ∷ others) (Nonterminal inner ∷ (tail ++ others)) (row ++ (tail ++ others)) s
    (with_waiting (symbols (Nonterminal inner ∷ (tail ++ others))) s) (with_waiting count (with_waiting (symbols (Nonterminal inner ∷ (tail ++ others))) s)) left
    here further)

-- what a symbol opens to stands in its place
pub opened : (first second : TokenClass) {symbol : Symbol} {row : List ProductionItem} → Opens first second symbol row
    → (others : List ProductionItem) (s : State) (left : List Terminal) (count : ℕ) → first ≡ look_of s left → second ≡ second_of s left
    → count ≡ symbols (row ++ others) → Opened (Nonterminal symbol ∷ others) (row ++ others) s (with_waiting count s) left
opened first second (by_row symbol row chosen) others s left count is behind counted =
    one_row symbol row others s left count (chosen_before symbol row first second s left is behind chosen) counted
opened first second (by_rows symbol inner tail row chosen begins opens) others s left count is behind counted =
    let same : (row ++ tail) ++ others ≡ row ++ (tail ++ others) = append_assoc row tail others in
    let more : count ≡ symbols (row ++ (tail ++ others)) = counted ∙ ap symbols same in
    subst (λ (items : List ProductionItem). Opened (Nonterminal symbol ∷ others) items s (with_waiting count s) left) (sym same)
    (opened_on symbol inner tail row others s left count (chosen_before symbol (Nonterminal inner ∷ tail) first second s left is behind chosen) begins more
    (opened first second opens (tail ++ others) (with_waiting (symbols (Nonterminal inner ∷ (tail ++ others))) s) left count
    (is ∙ sym (look_stays s left (symbols (Nonterminal inner ∷ (tail ++ others)))))
    (behind ∙ sym (second_stays s left (symbols (Nonterminal inner ∷ (tail ++ others))))) more))
