-- What holds of the failures of each unit.
use Rattle.std.specs.Prelude.{◌≡◌, true, List, []}
use Rattle.meaning_tree.specs.Trees.{SyntaxTree}
use Rattle.meaning_syntax.specs.Items.{Item}
use Rattle.meaning_syntax.specs.Binding.{are_bound}
use Rattle.meaning_syntax.specs.Trees.{unit_tree}
use Rattle.meaning_first_rules.specs.Failures.{Failure, IsListing}
use Rattle.meaning_first_rules.specs.plain.Judging.{failures_of}

-- of items whose names are bound, the plain program gives a listing
abbrev pub ListingsExist : Type 0
ListingsExist = (items : List Item) → are_bound [] items ≡ true → IsListing (unit_tree items) (failures_of items)

-- and no unit has two
abbrev pub ListingsAreUnique : Type 0
ListingsAreUnique = (unit : SyntaxTree) (failures others : List Failure) → IsListing unit failures → IsListing unit others → failures ≡ others
