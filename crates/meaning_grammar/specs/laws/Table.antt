-- What holds of every row of the table.
use Rattle.std.specs.Prelude.{◌≡◌, ℕ, ◌+◌, ◌≤◌, Bool, true, false, not, ◌&&◌, ◌||◌, List, [], ◌∷◌, Some, All, length, slice_get, if◌then◌else◌}
use Rattle.std.specs.List.{list_any}
use Rattle.vocabulary.specs.declared.token_class.TokenClass.{TokenClass}
use Rattle.vocabulary.specs.declared.token_class.TokenClass.TheVariants.{LeftBracket}
use Rattle.vocabulary.specs.declared.symbol.Symbol.{Symbol}
use Rattle.vocabulary.specs.declared.symbol.Symbol.TheVariants.{ExternalDeclaration, MemberDeclaration, TypeofOperand, BlockItem, ForInitialization}
use Rattle.vocabulary.specs.declared.production_item.ProductionItem.{ProductionItem}
use Rattle.meaning_grammar.specs.Classes.{is_same, is_among}
use Rattle.meaning_grammar.specs.Productions.{productions}
use Rattle.meaning_grammar.specs.Looks.{Look, Begins, Without, Then, ThenNot, Either, look_holds, looks}
use Rattle.meaning_grammar.specs.Choice.{choice}
use Rattle.meaning_grammar.specs.Weights.{Falls, all_nullable}
use Rattle.meaning_grammar.specs.Sorts.{KeepsSorts}
use Rattle.meaning_grammar.specs.Beginnings.{beginnings, can_begin}

-- Looks

-- each row has its look
abbrev pub RowsHaveLooks : Type 0
RowsHaveLooks = (symbol : Symbol) → length (looks symbol) ≡ length (productions symbol)

-- how many of these looks hold at two classes
abbrev pub holding : List Look → TokenClass → TokenClass → ℕ
holding [] first second = 0
holding (look ∷ looks) first second = (if look_holds look first second then 1 else 0) + holding looks first second

-- no two looks of a symbol hold at once
abbrev pub LooksAreApart : Type 0
LooksAreApart = (symbol : Symbol) (first second : TokenClass) → holding (looks symbol) first second ≤ 1

-- the row of a symbol at this place, with its look
pub record IsRow (symbol : Symbol) (place : ℕ) (look : Look) (row : List ProductionItem) : Type 0 where
  pub has_look : slice_get (looks symbol) place ≡ Some look
  pub has_row : slice_get (productions symbol) place ≡ Some row

-- the row whose look holds is the one that is taken
abbrev pub TheRowIsTaken : Type 0
TheRowIsTaken =
    (symbol : Symbol) (place : ℕ) (look : Look) (row : List ProductionItem) (first second : TokenClass)
    → IsRow symbol place look row → look_holds look first second ≡ true → choice symbol first second ≡ Some row

-- and what is taken is such a row
abbrev pub WhatIsTakenIsARow : Type 0
WhatIsTakenIsARow =
    (symbol : Symbol) (row : List ProductionItem) (first second : TokenClass) → choice symbol first second ≡ Some row
    → (place : ℕ) × (look : Look) × IsRow symbol place look row × (look_holds look first second ≡ true)

-- What a row can begin with

-- the look holds at this class before some other
abbrev pub holds_before_some : Look → TokenClass → Bool
holds_before_some (Begins classes) class_ = is_among classes class_
holds_before_some (Without classes) class_ = not (is_among classes class_)
holds_before_some (Then first seconds) class_ = is_same first class_
holds_before_some (ThenNot first seconds) class_ = is_same first class_
holds_before_some (Either look other) class_ = holds_before_some look class_ || holds_before_some other class_

-- what a symbol can begin with is what one of its rows can begin with
abbrev pub BeginningsAreThoseOfRows : Type 0
BeginningsAreThoseOfRows =
    (symbol : Symbol) (class_ : TokenClass)
    → is_among (beginnings symbol) class_ ≡ list_any (λ row. can_begin row class_) (productions symbol)

-- where a look holds its row can begin, or may be empty
abbrev pub go_on : List Look → List (List ProductionItem) → TokenClass → Bool
go_on [] rows class_ = true
go_on (look ∷ looks) [] class_ = true
go_on (look ∷ looks) (row ∷ rows) class_ =
    (not (holds_before_some look class_) || can_begin row class_ || all_nullable row) && go_on looks rows class_

-- no look holds where its row can't go on
abbrev pub LooksLeadOn : Type 0
LooksLeadOn = (symbol : Symbol) (class_ : TokenClass) → go_on (looks symbol) (productions symbol) class_ ≡ true

-- where a row can begin its look holds
abbrev pub are_taken : List Look → List (List ProductionItem) → TokenClass → Bool
are_taken [] rows class_ = true
are_taken (look ∷ looks) [] class_ = true
are_taken (look ∷ looks) (row ∷ rows) class_ =
    (not (can_begin row class_) || holds_before_some look class_) && are_taken looks rows class_

-- Two rows of these symbols can begin alike, and the looks say which goes first: `;` by itself before a declaration
-- without specifiers, a type before an expression, a label before all else, a declaration before a statement.
abbrev pub has_rows_alike : Symbol → Bool
has_rows_alike ExternalDeclaration = true
has_rows_alike MemberDeclaration = true
has_rows_alike TypeofOperand = true
has_rows_alike BlockItem = true
has_rows_alike ForInitialization = true
has_rows_alike symbol = false

-- each row of the other symbols is taken at each class with which it can begin
abbrev pub BeginningsAreTaken : Type 0
BeginningsAreTaken =
    (symbol : Symbol) (class_ : TokenClass) → has_rows_alike symbol ≡ false
    → are_taken (looks symbol) (productions symbol) class_ ≡ true

-- The one beginning that no row is taken at: a type name in `typeof` that has no type.
abbrev pub is_left_out : Symbol → TokenClass → Bool
is_left_out TypeofOperand class_ = is_same class_ LeftBracket
is_left_out symbol class_ = false

-- at each class with which some row can begin one is taken
abbrev pub NoBeginningIsLost : Type 0
NoBeginningIsLost =
    (symbol : Symbol) (class_ : TokenClass) → is_among (beginnings symbol) class_ ≡ true
    → is_left_out symbol class_ ≡ false → list_any (λ look. holds_before_some look class_) (looks symbol) ≡ true

-- Weights and sorts

-- each row weighs less than its symbol
abbrev pub RowsFall : Type 0
RowsFall = (symbol : Symbol) → All (Falls symbol) (productions symbol)

-- each row takes and leaves what its symbol does
abbrev pub RowsAreSorted : Type 0
RowsAreSorted = (symbol : Symbol) → All (KeepsSorts symbol) (productions symbol)

-- so does a row that is taken, and it has this many items at most
pub record IsFit (symbol : Symbol) (row : List ProductionItem) : Type 0 where
  pub falls : Falls symbol row
  pub sorted : KeepsSorts symbol row
  pub short : length row ≤ 15

-- what is taken fits
abbrev pub WhatIsTakenFits : Type 0
WhatIsTakenFits =
    (symbol : Symbol) (row : List ProductionItem) (first second : TokenClass) → choice symbol first second ≡ Some row
    → IsFit symbol row
