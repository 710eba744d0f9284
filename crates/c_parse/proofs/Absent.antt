-- Operators that aren't there: their symbols are passed over, several steps as one.
use Rattle.std.proofs.Common.{◌≡◌, ℕ, ◌≤◌, Bool, true, false, List, [], ◌∷◌, ◌++◌, Some, refl, sym, ap, subst, ◌∙◌, arith, if◌then◌else◌, nat_lt}
use Rattle.vocabulary.specs.declared.limit.LimitKind.TheVariants.{ParseStack}
use Rattle.vocabulary.specs.declared.symbol.Symbol.{Symbol}
use Rattle.vocabulary.specs.declared.production_item.ProductionItem.{ProductionItem}
use Rattle.vocabulary.specs.declared.production_item.ProductionItem.TheVariants.{Nonterminal}
use Rattle.meaning_grammar.specs.Terminals.{Terminal}
use Rattle.meaning_grammar.specs.Choice.{choice}
use Rattle.meaning_derivation.specs.State.{State, with_waiting, with_limit, most_pending}
use Rattle.meaning_derivation.specs.Taking.{look_of, second_of}
use Rattle.meaning_derivation.specs.Derivation.{symbols}
use Rattle.c_opening.specs.Absent.{AreAbsent}
use Rattle.c_parse.specs.declared.looks.Looks.{Looks}
use Rattle.c_parse.specs.Steps.{AreLooks}
use Rattle.c_parse.proofs.Opened.{Opened, limit_again, look_stays, one_row, over_more, second_stays, then_opened}

-- What waits is noted again

noted_before : (first second : Bool) (s : State) → (second ≡ true → first ≡ true)
    → (if second then with_limit ParseStack (if first then with_limit ParseStack s else s) else (if first then with_limit ParseStack s else s))
    ≡ (if first then with_limit ParseStack s else s)
noted_before true true s on = limit_again s
noted_before false true s on = let clash : false ≡ true = on refl in absurd (cc clash)
noted_before true false s on = refl
noted_before false false s on = refl

-- fewer items that wait at the same terminal add nothing
waits_fewer : (s : State) (more few : ℕ) → few ≤ more → with_waiting few (with_waiting more s) ≡ with_waiting more s
waits_fewer s more few is = noted_before (nat_lt most_pending more) (nat_lt most_pending few) s (over_more few more is)

-- Several steps as one

-- the classes of the next two terminals stay
chosen_later : (symbol : Symbol) (s : State) (left : List Terminal) (count : ℕ) → choice symbol (look_of s left) (second_of s left) ≡ Some []
    → choice symbol (look_of (with_waiting count s) left) (second_of (with_waiting count s) left) ≡ Some []
chosen_later symbol s left count chosen =
    ap (λ first. choice symbol first (second_of (with_waiting count s) left)) (look_stays s left count)
    ∙ ap (choice symbol (look_of s left)) (second_stays s left count)
    ∙ chosen

absent_later : (items : List ProductionItem) (s : State) (left : List Terminal) (count : ℕ) → AreAbsent (look_of s left) (second_of s left) items
    → AreAbsent (look_of (with_waiting count s) left) (second_of (with_waiting count s) left) items
absent_later items s left count absent =
    subst (λ second. AreAbsent (look_of (with_waiting count s) left) second items) (sym (second_stays s left count))
    (subst (λ first. AreAbsent first (second_of s left) items) (sym (look_stays s left count)) absent)

pub absent_opened : (symbol : Symbol) (passed others : List ProductionItem) (s : State) (left : List Terminal) (count : ℕ)
    → choice symbol (look_of s left) (second_of s left) ≡ Some [] → AreAbsent (look_of s left) (second_of s left) passed
    → count ≡ symbols (passed ++ others) → Opened (Nonterminal symbol ∷ (passed ++ others)) others s (with_waiting count s) left
absent_opened symbol [] others s left count chosen absent counted = one_row symbol [] others s left count chosen counted
absent_opened symbol (Nonterminal inner ∷ passed) others s left count chosen absent counted =
    let here = one_row symbol [] (Nonterminal inner ∷ (passed ++ others)) s left count chosen counted in
    let further = absent_opened inner passed others (with_waiting count s) left (symbols (passed ++ others))
    (chosen_later inner s left count absent.0) (absent_later passed s left count absent.1) refl in
    let fewer : symbols (passed ++ others) ≤ count = omega (arith, counted) in
    subst (λ (last : State). Opened (Nonterminal symbol ∷ (Nonterminal inner ∷ (passed ++ others))) others s last left)
    (waits_fewer s count (symbols (passed ++ others)) fewer)
    (then_opened (Nonterminal symbol ∷ (Nonterminal inner ∷ (passed ++ others))) (Nonterminal inner ∷ (passed ++ others)) others s
    (with_waiting count s) (with_waiting (symbols (passed ++ others)) (with_waiting count s)) left here further)
absent_opened symbol (item ∷ passed) others s left count chosen absent counted = absurd absent.0

-- the same by the classes that were asked for
pub absent_there : (items : List ProductionItem) (s : State) (left : List Terminal) (looks : Looks) → AreLooks s left looks
    → AreAbsent looks.next looks.behind items → AreAbsent (look_of s left) (second_of s left) items
absent_there items s left looks are absent =
    subst (λ second. AreAbsent (look_of s left) second items) are.behind (subst (λ first. AreAbsent first looks.behind items) are.next absent)
