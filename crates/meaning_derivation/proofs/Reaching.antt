-- How far it is to the end: each step shortens the way.
use Rattle.std.proofs.Common.{◌≡◌, ℕ, ◌+◌, ◌*◌, ◌<◌, ◌≤◌, Bool, true, false, ◌&&◌, List, [], ◌∷◌, ◌++◌, Some, length, refl, arith, if◌then◌else◌, nat_le}
use Rattle.std.specs.List.{list_all}
use Rattle.std.proofs.lemmas.Bool.{leb-true}
use Rattle.std.proofs.lemmas.List.Sums.{AllPass-from_list_all}
use Rattle.vocabulary.specs.declared.token_class.TokenClass.{TokenClass}
use Rattle.vocabulary.specs.declared.token_class.TokenClass.TheVariants.{End}
use Rattle.vocabulary.specs.declared.symbol.Symbol.{Symbol}
use Rattle.vocabulary.specs.declared.symbol.Symbol.TheVariants.{ExternalDeclarations}
use Rattle.vocabulary.specs.declared.production_item.ProductionItem.{ProductionItem}
use Rattle.vocabulary.specs.declared.production_item.ProductionItem.TheVariants.{Token, Passed, PassedAny, Name, LabelName, AttributeWord, CaseColon, DesignatorEnd, Nonterminal, Do}
use Rattle.meaning_grammar.specs.Classes.{is_same}
use Rattle.meaning_grammar.specs.Productions.{productions}
use Rattle.meaning_grammar.specs.Choice.{choice}
use Rattle.meaning_grammar.specs.Weights.{can_be_empty, symbol_weight, weight, is_nullable, live, all_nullable, Falls}
use Rattle.meaning_grammar.proofs.Everywhere.{All-at}
use Rattle.meaning_grammar.proofs.Taking.{what_is_taken_is_a_row}
use Rattle.meaning_derivation.specs.Leading.{is_usual}

-- No row of the grammar keeps the end as a token

-- computed for each symbol
rows_are_usual : (symbol : Symbol) → list_all (list_all is_usual) (productions symbol) ≡ true
rows_are_usual ExternalDeclarations = refl
rows_are_usual symbol = refl

pub chosen_is_usual : (symbol : Symbol) (row : List ProductionItem) (first second : TokenClass) → choice symbol first second ≡ Some row → list_all is_usual row ≡ true
chosen_is_usual symbol row first second chosen =
    let found = what_is_taken_is_a_row symbol row first second chosen in
    All-at (λ items. list_all is_usual items ≡ true) (productions symbol) found.0 row found.2.has_row
    (AllPass-from_list_all (list_all is_usual) (productions symbol) (rows_are_usual symbol))

-- A row in the place of its symbol

live_behind : (stays : Bool) (row others : List ProductionItem) (own : ℕ)
    → live (row ++ others) ≡ live row + (if all_nullable row then live others else 0)
    → own + (if stays then live (row ++ others) else 0)
    ≡ own + (if stays then live row else 0) + (if stays && all_nullable row then live others else 0)
live_behind true row others own rest = omega (arith, rest)
live_behind false row others own rest = omega arith

-- the weights of a row, and of what waits behind it where the row takes no token
live-append : (row others : List ProductionItem) → live (row ++ others) ≡ live row + (if all_nullable row then live others else 0)
live-append [] others = omega arith
live-append (item ∷ row) others = live_behind (is_nullable item) row others (weight item) (live-append row others)

shorter : (empty all : Bool) (row others whole own : ℕ) → row < own → (empty ≡ false → all ≡ false)
    → whole ≡ row + (if all then others else 0) → whole < own + (if empty then others else 0)
shorter true true row others whole own less gone is = omega (arith, less, is)
shorter true false row others whole own less gone is = omega (arith, less, is)
shorter false true row others whole own less gone is = absurd (cc (gone refl))
shorter false false row others whole own less gone is = omega (arith, less, is)

pub row_shortens : (symbol : Symbol) (row others : List ProductionItem) → Falls symbol row → live (row ++ others) < live (Nonterminal symbol ∷ others)
row_shortens symbol row others falls =
    shorter (can_be_empty symbol) (all_nullable row) (live row) (live others) (live (row ++ others)) (symbol_weight symbol) falls.less falls.gone (live-append row others)

-- The way through few items is bounded

symbol_is_light : (symbol : Symbol) → nat_le (symbol_weight symbol) 23 ≡ true
symbol_is_light ExternalDeclarations = refl
symbol_is_light symbol = refl

either_light : (test : Bool) → (if test then 1 else 0) ≤ 23
either_light true = omega arith
either_light false = omega arith

item_is_light : (item : ProductionItem) → weight item ≤ 23
item_is_light (Token class_) = omega arith
item_is_light (Passed class_) = either_light (is_same class_ End)
item_is_light PassedAny = omega arith
item_is_light Name = omega arith
item_is_light LabelName = omega arith
item_is_light AttributeWord = omega arith
item_is_light CaseColon = omega arith
item_is_light DesignatorEnd = omega arith
item_is_light (Nonterminal symbol) = leb-true _ _ (symbol_is_light symbol)
item_is_light (Do action) = omega arith

at_most : (test : Bool) (n : ℕ) → (if test then n else 0) ≤ n
at_most true n = omega arith
at_most false n = omega arith

pub live_is_bounded : (items : List ProductionItem) → live items ≤ 23 * length items
live_is_bounded [] = omega arith
live_is_bounded (item ∷ items) =
    omega (arith, item_is_light item, at_most (is_nullable item) (live items), live_is_bounded items)
