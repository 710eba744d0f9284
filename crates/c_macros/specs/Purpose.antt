-- What a token is for, as a run says it.
use Rattle.std.specs.Prelude.{◌≡◌, Bool, false, List, [], ◌∷◌, Option, Some, None}
use Rattle.meaning_macros.specs.Signs.{is_left_parenthesis}
use Rattle.meaning_macros.specs.Macros as macros
use Rattle.meaning_macros.specs.Hiding.{joined, only}
use Rattle.meaning_macros.specs.Calls.{split, most_cuts}
use Rattle.meaning_macros.specs.Expansion.{use_of, use_of_split}
use Rattle.meaning_macros.specs.Expansion as expansion
use Rattle.c_macros.specs.declared.definition.Macro.{Macro}
use Rattle.c_macros.specs.declared.item.Item.{Item}
use Rattle.c_macros.specs.declared.purpose.Predefined.{Predefined}
use Rattle.c_macros.specs.declared.purpose.Predefined.TheVariants.{FileName, LineNumber, CounterNumber}
use Rattle.c_macros.specs.declared.purpose.Purpose.{Purpose}
use Rattle.c_macros.specs.declared.purpose.Purpose.TheVariants.{Stays, Replaced, Called, Predefines}
use Rattle.c_macros.specs.Reading.{Reading, hiding_by, hidings_by}
use Rattle.c_macros.specs.Run.{table_by}
use Rattle.c_macros.specs.Seen.{macro_by}
use Rattle.c_macros.specs.Table.{Table, macro_at}

abbrev pub predefined_by : Predefined → macros.Predefined
predefined_by FileName = macros.FileName
predefined_by LineNumber = macros.LineNumber
predefined_by CounterNumber = macros.CounterNumber

abbrev pub purpose_of_predefined : Option macros.Predefined → Purpose
purpose_of_predefined None = Stays
purpose_of_predefined (Some macros.FileName) = Predefines FileName
purpose_of_predefined (Some macros.LineNumber) = Predefines LineNumber
purpose_of_predefined (Some macros.CounterNumber) = Predefines CounterNumber

-- the first of the items is a `(`
abbrev pub opens_with : List Item → Bool
opens_with [] = false
opens_with (item ∷ items) = is_left_parenthesis item.token.kind

-- what the definition says of a token before others
abbrev pub use_before : Reading → Table → Item → List Item → expansion.Use
use_before r table item now = use_of (table_by r.spelled table).definitions (hiding_by r item) (hidings_by r now)

-- the object-like macro of the name
pub record IsReplaced (r : Reading) (table : Table) (item : Item) (now : List Item) : Type 0 where
  pub macro_ : Macro
  pub found : macro_at table item.token.name ≡ Some macro_
  pub used : use_before r table item now ≡ expansion.Replaces (macro_by r.spelled macro_) [] (joined (r.hidden item.hides) (only (r.spelled item.token.name))) (hidings_by r now)

-- the function-like macro of the name, and what stands behind the `(`
pub record IsCalled (r : Reading) (table : Table) (item : Item) (now : List Item) : Type 0 where
  pub macro_ : Macro
  pub found : macro_at table item.token.name ≡ Some macro_
  pub opening : Item
  pub rest : List Item
  pub opens : now ≡ opening ∷ rest
  pub used : use_before r table item now ≡ use_of_split (hiding_by r item) (macro_by r.spelled macro_) (split 0 (most_cuts (macro_by r.spelled macro_)) (hidings_by r rest))

-- the token is for this
abbrev pub Purposed : Reading → Table → Item → List Item → Purpose → Type 0
Purposed r table item now Stays = use_before r table item now ≡ expansion.Stays
Purposed r table item now Replaced = IsReplaced r table item now
Purposed r table item now Called = IsCalled r table item now
Purposed r table item now (Predefines name) = use_before r table item now ≡ expansion.Predefines (predefined_by name)
