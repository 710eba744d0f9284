-- What holds of units of the first form.
use Rattle.std.specs.Prelude.{◌≢◌, List, []}
use Rattle.vocabulary.specs.Rules.{rule_class}
use Rattle.vocabulary.specs.declared.class.Class.TheVariants.{AddressSpace}
use Rattle.meaning_operands.specs.Failures.{Failure}
use Rattle.meaning_syntax.specs.Items.{Item}
use Rattle.meaning_text.specs.Tokens.{Tok}
use Rattle.meaning_tree.specs.Trees.{SyntaxTree}
use Rattle.meaning_unit_nodes.specs.Linked.{AreLinked}
use Rattle.meaning_unit_nodes.specs.Numbered.{number_told, spellings_told, unit_nodes}
use Rattle.meaning_syntax.specs.Trees.{IsInFirstForm, unit_tree}
use Rattle.meaning_first_rules.specs.Failures.{IsListing}
use Rattle.meaning_typing.specs.Units.{UnitNodes}
use Rattle.meaning_typing.specs.laws.Surroundings.{IsLaidUnit}
use Rattle.meaning_judgements.specs.WholeRules.{WholeFails}
use Rattle.meaning_first_units.specs.Trees.{AreNamesTold}
use Rattle.meaning_first_units.specs.Units.{IsFirstFormUnit, Renaming, without_links}

-- no rule of the class of address spaces fails in the unit
abbrev pub IsSilent : UnitNodes → Type 0
IsSilent nodes = (failure : Failure) → WholeFails nodes failure → rule_class failure.rule ≢ AddressSpace

-- where none fails by the rules of all units, none does by those of the form, whatever names stand for those of the items
abbrev pub SilenceIsHandedOver : Type 0
SilenceIsHandedOver =
    (renaming : Renaming) (nodes : UnitNodes) (items : List Item) → IsLaidUnit nodes → IsFirstFormUnit renaming nodes items → IsSilent nodes
    → IsListing (unit_tree items) []

-- the nodes of a tree that is in the form without its links are a unit of the form, where its names are told by the tokens and linked
abbrev pub TreesOfTheFormAreUnits : Type 0
TreesOfTheFormAreUnits =
    (tokens : List Tok) (tree : SyntaxTree) (form : IsInFirstForm (without_links tree)) → AreNamesTold tokens tree
    → AreLinked (unit_nodes tokens tree)
    → IsLaidUnit (unit_nodes tokens tree) × IsFirstFormUnit (number_told (spellings_told tokens)) (unit_nodes tokens tree) form.items
