-- The weights of each row fall, and the sorts of its values fit, whatever stands below them.
use Rattle.std.proofs.Common.{◌≡◌, ◌≤◌, Bool, true, false, not, ◌||◌, ◌&&◌, List, [], ◌∷◌, ◌++◌, Option, Some, None, All, length, refl, sym, ap, subst, ◌∙◌, append_assoc, if◌then◌else◌, nat_lt, nat_le}
use Rattle.std.specs.List.{list_all}
use Rattle.std.proofs.lemmas.Bool.{leb-true, ltb-true}
use Rattle.std.proofs.lemmas.List.Elements.{All-weaker}
use Rattle.std.proofs.lemmas.List.Sums.{AllPass-from_list_all}
use Rattle.vocabulary.specs.declared.symbol.Symbol.{Symbol}
use Rattle.vocabulary.specs.declared.symbol.Symbol.TheVariants.{ExternalDeclarations}
use Rattle.vocabulary.specs.declared.production_item.ProductionItem.{ProductionItem}
use Rattle.meaning_grammar.specs.Productions.{productions}
use Rattle.meaning_grammar.specs.Weights.{can_be_empty, symbol_weight, live, all_nullable, Falls}
use Rattle.meaning_grammar.specs.Sorts.{Sort, AWord, ATree, AList, is_same_sort, needs, gives, item_effect, exchanged, effect, effects, KeepsSorts}
use Rattle.meaning_grammar.specs.laws.Table.{RowsFall, RowsAreSorted, WhatIsTakenFits}
use Rattle.meaning_grammar.proofs.Everywhere.{All-at}
use Rattle.meaning_grammar.proofs.Taking.{what_is_taken_is_a_row}

-- both tests pass
both : (a b : Bool) → (a && b) ≡ true → (a ≡ true) × (b ≡ true)
both true b is = (refl, is)
both false b is = absurd (cc is)

-- a test that all pass gives what it says of each
All-tested :
    {X : Type 0} (test : X → Bool) (P : X → Type 0) → ((x : X) → test x ≡ true → P x) → (xs : List X) → list_all test xs ≡ true → All P xs
All-tested test P says xs passes = All-weaker (λ x. test x ≡ true) P says xs (AllPass-from_list_all test xs passes)

-- Weights

abbrev falls : Symbol → List ProductionItem → Bool
falls symbol row = nat_lt (live row) (symbol_weight symbol) && (can_be_empty symbol || not (all_nullable row))

gone : (a b : Bool) → (a || not b) ≡ true → a ≡ false → b ≡ false
gone true b passes is = absurd (cc is)
gone false true passes is = absurd (cc passes)
gone false false passes is = refl

falls-Falls : (symbol : Symbol) (row : List ProductionItem) → falls symbol row ≡ true → Falls symbol row
falls-Falls symbol row passes =
    let parts = both (nat_lt (live row) (symbol_weight symbol)) (can_be_empty symbol || not (all_nullable row)) passes in
    record { less = ltb-true _ _ parts.0; gone = gone (can_be_empty symbol) (all_nullable row) parts.1 }

-- computed for each symbol
all_fall : (symbol : Symbol) → list_all (falls symbol) (productions symbol) ≡ true
all_fall ExternalDeclarations = refl
all_fall symbol = refl

pub rows_fall : RowsFall
rows_fall symbol = All-tested (falls symbol) (Falls symbol) (falls-Falls symbol) (productions symbol) (all_fall symbol)

-- Sorts: what an item does to the top of a stack it does above any other values

taken_below :
    (test : Bool) (takes leaves sorts after others : List Sort)
    → (exchanged takes leaves sorts ≡ Some after → exchanged takes leaves (sorts ++ others) ≡ Some (after ++ others))
    → (if test then exchanged takes leaves sorts else None) ≡ Some after
    → (if test then exchanged takes leaves (sorts ++ others) else None) ≡ Some (after ++ others)
taken_below true takes leaves sorts after others behind is = behind is
taken_below false takes leaves sorts after others behind is = absurd (cc is)

replaced-below :
    (takes leaves sorts after others : List Sort) → exchanged takes leaves sorts ≡ Some after
    → exchanged takes leaves (sorts ++ others) ≡ Some (after ++ others)
replaced-below [] leaves sorts after others is =
    let same : leaves ++ sorts ≡ after = cc in
    ap Some (sym (append_assoc leaves sorts others) ∙ ap (λ all. all ++ others) same)
replaced-below (sort ∷ takes) leaves [] after others is = absurd (cc is)
replaced-below (sort ∷ takes) leaves (other ∷ sorts) after others is =
    taken_below (is_same_sort sort other) takes leaves sorts after others (replaced-below takes leaves sorts after others) is

-- behind no stack there is none
effects-none : (items : List ProductionItem) → effects items None ≡ None
effects-none [] = refl
effects-none (item ∷ items) = effects-none items

effects_below :
    (items : List ProductionItem) (between : Option (List Sort)) (below : Option (List Sort)) (after others : List Sort)
    → ((sorts : List Sort) → between ≡ Some sorts → below ≡ Some (sorts ++ others))
    → ((sorts : List Sort) → effects items (Some sorts) ≡ Some after → effects items (Some (sorts ++ others)) ≡ Some (after ++ others))
    → effects items between ≡ Some after → effects items below ≡ Some (after ++ others)
effects_below items None below after others here behind is =
    let clash : None ≡ Some after = sym (effects-none items) ∙ is in absurd (cc clash)
effects_below items (Some sorts) below after others here behind is =
    subst (λ stack. effects items stack ≡ Some (after ++ others)) (sym (here sorts refl)) (behind sorts is)

effects-below :
    (items : List ProductionItem) (sorts after others : List Sort) → effects items (Some sorts) ≡ Some after
    → effects items (Some (sorts ++ others)) ≡ Some (after ++ others)
effects-below [] sorts after others is = let same : sorts ≡ after = cc in ap (λ all. Some (all ++ others)) same
effects-below (item ∷ items) sorts after others is =
    effects_below items (effect item sorts) (effect item (sorts ++ others)) after others
    (λ left. replaced-below (item_effect item).takes (item_effect item).leaves sorts left others)
    (λ left. effects-below items left after others) is

-- a stack has these sorts and no others
abbrev has_sorts : List Sort → List Sort → Bool
has_sorts [] [] = true
has_sorts [] (other ∷ others) = false
has_sorts (sort ∷ sorts) [] = false
has_sorts (sort ∷ sorts) (other ∷ others) = is_same_sort sort other && has_sorts sorts others

-- there is a stack, and it has them
abbrev comes_to : List Sort → Option (List Sort) → Bool
comes_to sorts None = false
comes_to sorts (Some stack) = has_sorts sorts stack

same_sort : (sort other : Sort) → is_same_sort sort other ≡ true → sort ≡ other
same_sort AWord AWord is = refl
same_sort ATree ATree is = refl
same_sort AList AList is = refl
same_sort AWord ATree is = absurd (cc is)
same_sort AWord AList is = absurd (cc is)
same_sort ATree AWord is = absurd (cc is)
same_sort ATree AList is = absurd (cc is)
same_sort AList AWord is = absurd (cc is)
same_sort AList ATree is = absurd (cc is)

same_sorts : (sorts others : List Sort) → has_sorts sorts others ≡ true → others ≡ sorts
same_sorts [] [] is = refl
same_sorts [] (other ∷ others) is = absurd (cc is)
same_sorts (sort ∷ sorts) [] is = absurd (cc is)
same_sorts (sort ∷ sorts) (other ∷ others) is =
    let parts = both (is_same_sort sort other) (has_sorts sorts others) is in
    let top = same_sort sort other parts.0 in
    let below = same_sorts sorts others parts.1 in
    cc

comes_to-Some : (sorts : List Sort) (stack : Option (List Sort)) → comes_to sorts stack ≡ true → stack ≡ Some sorts
comes_to-Some sorts None is = absurd (cc is)
comes_to-Some sorts (Some stack) is = ap Some (same_sorts sorts stack is)

abbrev keeps_sorts : Symbol → List ProductionItem → Bool
keeps_sorts symbol row = comes_to (gives symbol) (effects row (Some (needs symbol)))

keeps_sorts-KeepsSorts : (symbol : Symbol) (row : List ProductionItem) → keeps_sorts symbol row ≡ true → KeepsSorts symbol row
keeps_sorts-KeepsSorts symbol row passes others =
    effects-below row (needs symbol) (gives symbol) others (comes_to-Some (gives symbol) (effects row (Some (needs symbol))) passes)

-- computed for each symbol
all_keep_sorts : (symbol : Symbol) → list_all (keeps_sorts symbol) (productions symbol) ≡ true
all_keep_sorts ExternalDeclarations = refl
all_keep_sorts symbol = refl

pub rows_are_sorted : RowsAreSorted
rows_are_sorted symbol =
    All-tested (keeps_sorts symbol) (KeepsSorts symbol) (keeps_sorts-KeepsSorts symbol) (productions symbol) (all_keep_sorts symbol)

-- Length, and all three of a row that is taken

abbrev is_short : List ProductionItem → Bool
is_short row = nat_le (length row) 15

-- computed for each symbol
all_are_short : (symbol : Symbol) → list_all is_short (productions symbol) ≡ true
all_are_short ExternalDeclarations = refl
all_are_short symbol = refl

pub what_is_taken_fits : WhatIsTakenFits
what_is_taken_fits symbol row first second is =
    let found = what_is_taken_is_a_row symbol row first second is in
    let stands = found.2.has_row in
    record {
      falls = All-at (Falls symbol) (productions symbol) found.0 row stands (rows_fall symbol);
      sorted = All-at (KeepsSorts symbol) (productions symbol) found.0 row stands (rows_are_sorted symbol);
      short = All-at (λ items. length items ≤ 15) (productions symbol) found.0 row stands
          (All-tested is_short (λ items. length items ≤ 15) (λ items passes. leb-true _ _ passes) (productions symbol) (all_are_short symbol));
    }
