-- What holds of each list of spellings.
use Rattle.std.specs.Prelude.{◌≡◌, List, Some}
use Rattle.meaning_tree.specs.Trees.{SyntaxTree}
use Rattle.meaning_syntax.specs.Items.{Item}
use Rattle.meaning_syntax.specs.Form.{IsSpelled, IsUnit}
use Rattle.meaning_syntax.specs.Trees.{unit_tree, IsInFirstForm, Derives}
use Rattle.meaning_syntax.specs.plain.Reading.{Texts, read_items, read_unit}

-- what the plain program reads is spelled so
abbrev pub ReadItemsAreSpelled : Type 0
ReadItemsAreSpelled = (texts : Texts) (items : List Item) → read_items texts ≡ Some items → IsSpelled texts items

-- what is spelled so is read, so one list of spellings is at most one list of items
abbrev pub SpelledItemsAreRead : Type 0
SpelledItemsAreRead = (texts : Texts) (items : List Item) → IsSpelled texts items → read_items texts ≡ Some items

-- the same of a unit
abbrev pub ReadUnitsAreUnits : Type 0
ReadUnitsAreUnits = (texts : Texts) (items : List Item) → read_unit texts ≡ Some items → IsUnit texts items

abbrev pub UnitsAreRead : Type 0
UnitsAreRead = (texts : Texts) (items : List Item) → IsUnit texts items → read_unit texts ≡ Some items

-- what is read derives its tree
abbrev pub ReadUnitsDerive : Type 0
ReadUnitsDerive = (texts : Texts) (items : List Item) → read_unit texts ≡ Some items → Derives texts (unit_tree items)

-- and no list of spellings derives another
abbrev pub DerivedTreesAreThose : Type 0
DerivedTreesAreThose = (texts : Texts) (tree : SyntaxTree) (derives : Derives texts tree) → read_unit texts ≡ Some derives.items

abbrev pub DerivedTreesAreUnique : Type 0
DerivedTreesAreUnique = (texts : Texts) (tree other : SyntaxTree) → Derives texts tree → Derives texts other → tree ≡ other

-- what is derived is in the first form
abbrev pub DerivedTreesAreInFirstForm : Type 0
DerivedTreesAreInFirstForm = (texts : Texts) (tree : SyntaxTree) → Derives texts tree → IsInFirstForm tree
