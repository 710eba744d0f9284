-- What silence says of contexts.
use Rattle.std.specs.Prelude.{◌≡◌, ℕ, ◌<◌, true, List, length}
use Rattle.vocabulary.specs.declared.class.Class.{Class}
use Rattle.vocabulary.specs.declared.class.Class.TheVariants.{Context}
use Rattle.vocabulary.specs.declared.node_kind.NodeKind.TheVariants.{FunctionDefinition}
use Rattle.meaning_text.specs.Tokens.{Tok}
use Rattle.meaning_tree.specs.Trees.{SyntaxTree}
use Rattle.meaning_derivation.specs.Actions.{act}
use Rattle.meaning_derivation.specs.Units.{DerivesTree}
use Rattle.meaning_preprocessing.specs.Unit.{UnitEnd}
use Rattle.meaning_warnings.specs.Listing.{is_on}
use Rattle.meaning_typing.specs.Rows.{Row}
use Rattle.meaning_typing.specs.Surroundings.{Surrounding, AreSurroundings}
use Rattle.meaning_typing.specs.Units.{UnitNodes, kind_at}
use Rattle.meaning_units.specs.WholeRows.{AreRows, facts_of}
use Rattle.meaning_contexts.specs.Laws.{IsBalanced}
use Rattle.meaning_contexts.specs.Units.{judged_of}
use Rattle.meaning_unit_nodes.specs.Numbered.{unit_nodes}
use Rattle.meaning_answer.specs.Answers.{IsCheckEnd}
use Rattle.meaning_answer.specs.Reply.{Reply, Clean}

-- each function that these nodes define is balanced, by what is known of them
abbrev pub HasBalancedFunctions : UnitNodes → List Surrounding → Type 0
HasBalancedFunctions nodes surroundings =
    (rows : List Row) × AreRows nodes surroundings rows
    × ((function : ℕ) → function < length nodes → kind_at nodes function ≡ FunctionDefinition
    → IsBalanced (judged_of nodes surroundings (facts_of rows)) function)

-- these tokens derive a tree, and each function in it is
abbrev pub AreBalancedTokens : List Tok → Type 0
AreBalancedTokens tokens =
    (tree : SyntaxTree) × (surroundings : List Surrounding)
    × DerivesTree act tokens tree × AreSurroundings (unit_nodes tokens tree) surroundings
    × HasBalancedFunctions (unit_nodes tokens tree) surroundings

-- so it is where nothing is told of a unit though the class of contexts is on
abbrev pub CleanChecksAreBalanced : Type 0
CleanChecksAreBalanced =
    (classes : List Class) (tokens : List Tok) (end : UnitEnd) (reply : Reply) → is_on classes Context ≡ true
    → IsCheckEnd classes tokens end reply → reply.ending ≡ Clean → AreBalancedTokens tokens
