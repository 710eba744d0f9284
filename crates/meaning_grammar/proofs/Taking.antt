-- The row that is taken is the one whose look holds.
use Rattle.std.proofs.Common.{◌≡◌, ℕ, zero, suc, ◌+◌, ◌≤◌, Bool, true, false, List, [], ◌∷◌, Some, slice_get, refl, sym, subst, if◌then◌else◌, arith}
use Rattle.vocabulary.specs.declared.token_class.TokenClass.{TokenClass}
use Rattle.vocabulary.specs.declared.symbol.Symbol.TheVariants.{ExternalDeclarations}
use Rattle.vocabulary.specs.declared.production_item.ProductionItem.{ProductionItem}
use Rattle.meaning_grammar.specs.Productions.{productions}
use Rattle.meaning_grammar.specs.Looks.{Look, look_holds, looks}
use Rattle.meaning_grammar.specs.Choice.{first_row}
use Rattle.meaning_grammar.specs.laws.Table.{RowsHaveLooks, holding, TheRowIsTaken, WhatIsTakenIsARow}
use Rattle.meaning_grammar.proofs.Apart.{looks_are_apart}

pub rows_have_looks : RowsHaveLooks
rows_have_looks ExternalDeclarations = refl
rows_have_looks symbol = refl

-- one that holds is counted
holding-at :
    (looks : List Look) (place : ℕ) (look : Look) (first second : TokenClass) → slice_get looks place ≡ Some look
    → look_holds look first second ≡ true → 1 ≤ holding looks first second
holding-at [] place look first second is holding_ = absurd (cc is)
holding-at (other ∷ looks) zero look first second is holding_ =
    let same : other ≡ look = cc in
    let held : look_holds other first second ≡ true = subst (λ one. look_holds one first second ≡ true) (sym same) holding_ in
    subst (λ (test : Bool). 1 ≤ (if test then 1 else 0) + holding looks first second) (sym held) (omega arith)
holding-at (other ∷ looks) (suc place) look first second is holding_ =
    let more = holding-at looks place look first second is holding_ in omega arith

-- where another look holds already none behind it does
behind_another :
    (test : Bool) (items row : List ProductionItem) (looks : List Look) (rows : List (List ProductionItem)) (first second : TokenClass)
    → 1 ≤ holding looks first second → (if test then 1 else 0) + holding looks first second ≤ 1
    → (holding looks first second ≤ 1 → first_row first second looks rows ≡ Some row)
    → (if test then Some items else first_row first second looks rows) ≡ Some row
behind_another true items row looks rows first second some one behind = absurd (omega arith)
behind_another false items row looks rows first second some one behind = behind (omega arith)

-- where no two hold, the row of a look that holds is the first
first_that_holds-at :
    (looks : List Look) (rows : List (List ProductionItem)) (place : ℕ) (look : Look) (row : List ProductionItem) (first second : TokenClass)
    → holding looks first second ≤ 1 → slice_get looks place ≡ Some look → slice_get rows place ≡ Some row → look_holds look first second ≡ true
    → first_row first second looks rows ≡ Some row
first_that_holds-at [] rows place look row first second one is_look is_row holds_ = absurd (cc is_look)
first_that_holds-at (other ∷ looks) [] place look row first second one is_look is_row holds_ = absurd (cc is_row)
first_that_holds-at (other ∷ looks) (items ∷ rows) zero look row first second one is_look is_row holds_ =
    let same : other ≡ look = cc in
    let held : look_holds other first second ≡ true = subst (λ one. look_holds one first second ≡ true) (sym same) holds_ in
    subst (λ (test : Bool). (if test then Some items else first_row first second looks rows) ≡ Some row) (sym held) is_row
first_that_holds-at (other ∷ looks) (items ∷ rows) (suc place) look row first second one is_look is_row holds_ =
    behind_another (look_holds other first second) items row looks rows first second (holding-at looks place look first second is_look holds_) one
    (λ few. first_that_holds-at looks rows place look row first second few is_look is_row holds_)

pub rows_are_taken : TheRowIsTaken
rows_are_taken symbol place look row first second is holds_ =
    first_that_holds-at (looks symbol) (productions symbol) place look row first second (looks_are_apart symbol first second) is.has_look is.has_row holds_

-- the first row whose look holds, found from the front
abbrev IsFound : List Look → List (List ProductionItem) → List ProductionItem → TokenClass → TokenClass → Type 0
IsFound looks rows row first second =
    (place : ℕ) × (look : Look) × (slice_get looks place ≡ Some look) × (slice_get rows place ≡ Some row) × (look_holds look first second ≡ true)

found_if :
    (test : Bool) (look : Look) (items row : List ProductionItem) (looks : List Look) (rows : List (List ProductionItem)) (first second : TokenClass)
    → look_holds look first second ≡ test → (if test then Some items else first_row first second looks rows) ≡ Some row
    → (first_row first second looks rows ≡ Some row → IsFound looks rows row first second)
    → IsFound (look ∷ looks) (items ∷ rows) row first second
found_if true look items row looks rows first second holds_ is behind = (zero, look, refl, is, holds_)
found_if false look items row looks rows first second holds_ is behind =
    let found = behind is in (suc found.0, found.1, found.2, found.3, found.4)

first_that_holds-found :
    (looks : List Look) (rows : List (List ProductionItem)) (row : List ProductionItem) (first second : TokenClass)
    → first_row first second looks rows ≡ Some row → IsFound looks rows row first second
first_that_holds-found [] rows row first second is = absurd (cc is)
first_that_holds-found (look ∷ looks) [] row first second is = absurd (cc is)
first_that_holds-found (look ∷ looks) (items ∷ rows) row first second is =
    found_if (look_holds look first second) look items row looks rows first second refl is (first_that_holds-found looks rows row first second)

pub what_is_taken_is_a_row : WhatIsTakenIsARow
what_is_taken_is_a_row symbol row first second is =
    let found = first_that_holds-found (looks symbol) (productions symbol) row first second is in
    (found.0, found.1, record { has_look = found.2; has_row = found.3 }, found.4)
