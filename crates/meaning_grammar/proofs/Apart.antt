-- No two looks of a symbol hold at once: before each class of the next token, and of the one behind it where some look
-- asks that one.
use Rattle.std.proofs.Common.{◌≡◌, ◌+◌, ◌≤◌, Bool, true, false, ◌||◌, ◌&&◌, not, List, [], ◌∷◌, refl, ap₂, subst, if◌then◌else◌, nat_le}
use Rattle.std.specs.List.{list_all}
use Rattle.std.proofs.lemmas.Bool.{leb-true}
use Rattle.vocabulary.specs.declared.token_class.TokenClass.{TokenClass}
use Rattle.vocabulary.specs.declared.token_class.TokenClass.TheVariants.{End}
use Rattle.vocabulary.specs.declared.symbol.Symbol.{Symbol}
use Rattle.vocabulary.specs.declared.symbol.Symbol.TheVariants.{ExternalDeclarations}
use Rattle.meaning_grammar.specs.Classes.{all_token_classes, is_same, is_among}
use Rattle.meaning_grammar.specs.Looks.{Look, Begins, Without, Then, ThenNot, Either, look_holds, looks}
use Rattle.meaning_grammar.specs.laws.Table.{holding, LooksAreApart}
use Rattle.meaning_grammar.proofs.Everywhere.{each_class, neither}

-- the look asks the second token where the first is of this class
abbrev asks : Look → TokenClass → Bool
asks (Begins classes) first = false
asks (Without classes) first = false
asks (Then class_ seconds) first = is_same class_ first
asks (ThenNot class_ seconds) first = is_same class_ first
asks (Either look other) first = asks look first || asks other first

-- some of the looks does
abbrev ask : List Look → TokenClass → Bool
ask [] first = false
ask (look ∷ looks) first = asks look first || ask looks first

-- a test that isn't reached
both-false : (a b c : Bool) → a ≡ false → (a && b) ≡ (a && c)
both-false true b c is = absurd (cc is)
both-false false b c is = refl

-- a look that doesn't ask the second token holds before all alike
holds-alike : (look : Look) (first second other : TokenClass) → asks look first ≡ false → look_holds look first second ≡ look_holds look first other
holds-alike (Begins classes) first second other is = refl
holds-alike (Without classes) first second other is = refl
holds-alike (Then class_ seconds) first second other is =
    both-false (is_same class_ first) (is_among seconds second) (is_among seconds other) is
holds-alike (ThenNot class_ seconds) first second other is =
    both-false (is_same class_ first) (not (is_among seconds second)) (not (is_among seconds other)) is
holds-alike (Either look others) first second other is =
    let none = neither (asks look first) (asks others first) is in
    ap₂ (λ a b. a || b) (holds-alike look first second other none.0) (holds-alike others first second other none.1)

-- so do looks that don't
holding-alike :
    (looks : List Look) (first second other : TokenClass) → ask looks first ≡ false → holding looks first second ≡ holding looks first other
holding-alike [] first second other is = refl
holding-alike (look ∷ looks) first second other is =
    let none = neither (asks look first) (ask looks first) is in
    ap₂ (λ (a : Bool) n. (if a then 1 else 0) + n) (holds-alike look first second other none.0) (holding-alike looks first second other none.1)

-- at most one of the looks holds before each class, or before one where none asks
abbrev apart_if : Bool → List Look → TokenClass → Bool
apart_if true looks first = list_all (λ second. nat_le (holding looks first second) 1) all_token_classes
apart_if false looks first = nat_le (holding looks first End) 1

-- at most one of the looks holds at this class
abbrev apart_at : List Look → TokenClass → Bool
apart_at looks first = apart_if (ask looks first) looks first

apart_if-holding :
    (asked : Bool) (looks : List Look) (first second : TokenClass) → ask looks first ≡ asked → apart_if asked looks first ≡ true
    → holding looks first second ≤ 1
apart_if-holding true looks first second is passes =
    leb-true _ _ (each_class (λ second. nat_le (holding looks first second) 1) passes second)
apart_if-holding false looks first second is passes =
    subst (λ n. n ≤ 1) (holding-alike looks first End second is) (leb-true _ _ passes)

-- computed for each symbol
are_apart : (symbol : Symbol) → list_all (apart_at (looks symbol)) all_token_classes ≡ true
are_apart ExternalDeclarations = refl
are_apart symbol = refl

pub looks_are_apart : LooksAreApart
looks_are_apart symbol first second =
    apart_if-holding (ask (looks symbol) first) (looks symbol) first second refl (each_class (apart_at (looks symbol)) (are_apart symbol) first)
