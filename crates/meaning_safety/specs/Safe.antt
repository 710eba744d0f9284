-- Tokens whose unit is safe, and those whose unit has linked names.
use Rattle.std.specs.Prelude.{◌≡◌, true, List}
use Rattle.vocabulary.specs.declared.class.Class.{Class}
use Rattle.vocabulary.specs.declared.class.Class.TheVariants.{AddressSpace}
use Rattle.meaning_text.specs.Tokens.{Tok}
use Rattle.meaning_tree.specs.Trees.{SyntaxTree}
use Rattle.meaning_derivation.specs.Actions.{act}
use Rattle.meaning_derivation.specs.Units.{DerivesTree}
use Rattle.meaning_unit_nodes.specs.Linked.{AreLinked}
use Rattle.meaning_unit_nodes.specs.Numbered.{unit_nodes}
use Rattle.meaning_warnings.specs.Listing.{is_on}
use Rattle.meaning_syntax.specs.Trees.{IsInFirstForm}
use Rattle.meaning_first_units.specs.Trees.{AreNamesTold}
use Rattle.meaning_first_units.specs.Units.{without_links}
use Rattle.meaning_machine.specs.Runs.{IsSafe}

-- The tree that the tokens derive is safe where the class of address spaces is on and the tree is in the first form, but for the numbers that
-- link its nodes.
abbrev pub AreSafeTokens : List Class → List Tok → Type 0
AreSafeTokens classes tokens =
    is_on classes AddressSpace ≡ true → (tree : SyntaxTree) → DerivesTree act tokens tree → IsInFirstForm (without_links tree)
    → IsSafe (without_links tree)

-- they derive a tree whose names they spell, each linked with what declares it
abbrev pub DeriveLinkedTree : List Tok → Type 0
DeriveLinkedTree tokens = (tree : SyntaxTree) × DerivesTree act tokens tree × AreNamesTold tokens tree × AreLinked (unit_nodes tokens tree)
