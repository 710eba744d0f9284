-- What the judgement of units says of those that initialize nothing, and what silence says of units and trees of the first form.
use Rattle.std.specs.Prelude.{◌≡◌, ◌≢◌, ℕ, ◌<◌, true, false, List, [], take, length, Contains}
use Rattle.vocabulary.specs.Rules.{rule_class}
use Rattle.vocabulary.specs.declared.class.Class.{Class}
use Rattle.vocabulary.specs.declared.class.Class.TheVariants.{AddressSpace}
use Rattle.meaning_text.specs.Tokens.{Tok}
use Rattle.meaning_operands.specs.Failures.{Failure}
use Rattle.meaning_warnings.specs.Listing.{is_on, unit_lines}
use Rattle.meaning_warnings.specs.Places.{ShownUnit}
use Rattle.meaning_rules.specs.Rules.{Judgement, Holds}
use Rattle.meaning_tree.specs.Trees.{SyntaxTree}
use Rattle.meaning_unit_nodes.specs.Linked.{AreLinked}
use Rattle.meaning_unit_nodes.specs.Numbered.{unit_nodes}
use Rattle.meaning_syntax.specs.Items.{Item}
use Rattle.meaning_syntax.specs.Trees.{IsInFirstForm, unit_tree}
use Rattle.meaning_typing.specs.Rows.{Row}
use Rattle.meaning_typing.specs.Surroundings.{Surrounding, AreSurroundings}
use Rattle.meaning_typing.specs.Units.{UnitNodes}
use Rattle.meaning_typing.specs.laws.Surroundings.{IsLaidUnit}
use Rattle.meaning_judgements.specs.UnitRows.{unit_row_at}
use Rattle.meaning_judgements.specs.WholeFacts.{AreWholeFacts}
use Rattle.meaning_judgements.specs.WholeRules.{IsWholeJudgement}
use Rattle.meaning_units.specs.Laws.{AreAllNested}
use Rattle.meaning_units.specs.WholeRows.{AreRows, facts_of, row_at}
use Rattle.meaning_units.specs.WholeRules.{IsJudgement}
use Rattle.meaning_first_units.specs.Laws.{IsSilent}
use Rattle.meaning_first_units.specs.Trees.{AreNamesTold}
use Rattle.meaning_first_units.specs.Units.{IsFirstFormUnit, Renaming, without_links}
use Rattle.meaning_machine.specs.Runs.{IsSafe}
use Rattle.meaning_silence.specs.Initializing.{InitializesNothing}

-- Units that initialize nothing

-- the rows of such a unit are those by the rules that know of no initializers
abbrev pub RowsAreWhole : Type 0
RowsAreWhole =
    (nodes : UnitNodes) (surroundings : List Surrounding) (rows : List Row) → InitializesNothing nodes → AreRows nodes surroundings rows
    → AreWholeFacts nodes surroundings (facts_of rows)
    × ((handle : ℕ) → handle < length nodes → row_at rows handle ≡ unit_row_at nodes surroundings (take handle (facts_of rows)) handle)

-- and so is its judgement
abbrev pub JudgementsAreWhole : Type 0
JudgementsAreWhole = (nodes : UnitNodes) (judgement : Judgement) → InitializesNothing nodes → IsJudgement nodes judgement → IsWholeJudgement nodes judgement

-- the other way too, where the unit is laid and no structure or union lies in itself
abbrev pub WholeJudgementsAreJudgements : Type 0
WholeJudgementsAreJudgements =
    (nodes : UnitNodes) (judgement : Judgement) → IsLaidUnit nodes
    → ((surroundings : List Surrounding) → AreSurroundings nodes surroundings → AreAllNested nodes surroundings) → InitializesNothing nodes
    → IsWholeJudgement nodes judgement → IsJudgement nodes judgement

-- a unit of the first form initializes nothing
abbrev pub FirstFormsInitializeNothing : Type 0
FirstFormsInitializeNothing =
    (renaming : Renaming) (nodes : UnitNodes) (items : List Item) → IsLaidUnit nodes → IsFirstFormUnit renaming nodes items → InitializesNothing nodes

-- Silence

-- where no rule of the class of address spaces fails, no run meets a fault
abbrev pub SilentUnitsAreSafe : Type 0
SilentUnitsAreSafe =
    (renaming : Renaming) (nodes : UnitNodes) (items : List Item) → IsLaidUnit nodes → IsFirstFormUnit renaming nodes items → IsSilent nodes
    → IsSafe (unit_tree items)

-- each failure of the listing is of another class
abbrev pub AreOfOtherClasses : List Failure → Type 0
AreOfOtherClasses listing = (failure : Failure) → Contains listing failure → rule_class failure.rule ≢ AddressSpace

-- each is of a class that is off
abbrev pub AreOff : List Class → List Failure → Type 0
AreOff classes listing = (failure : Failure) → Contains listing failure → is_on classes (rule_class failure.rule) ≡ false

-- so it is where the class is on and no failure that is told is of a class that is on
abbrev pub JudgedUnitsAreSafe : Type 0
JudgedUnitsAreSafe =
    (renaming : Renaming) (nodes : UnitNodes) (items : List Item) (classes : List Class) (listing : List Failure) → IsLaidUnit nodes
    → IsFirstFormUnit renaming nodes items → IsJudgement nodes (Holds listing) → is_on classes AddressSpace ≡ true → AreOff classes listing
    → IsSafe (unit_tree items)

-- and where nothing is written of it
abbrev pub UntoldUnitsAreSafe : Type 0
UntoldUnitsAreSafe =
    (renaming : Renaming) (nodes : UnitNodes) (items : List Item) (shown : ShownUnit) (classes : List Class) (listing : List Failure) → IsLaidUnit nodes
    → IsFirstFormUnit renaming nodes items → IsJudgement nodes (Holds listing) → is_on classes AddressSpace ≡ true → unit_lines shown classes listing ≡ []
    → IsSafe (unit_tree items)

-- so is a tree that is in the form without the numbers that link its nodes, by the judgement of its nodes: its names are told by the tokens,
-- and each is linked with what declares it
abbrev pub JudgedTreesAreSafe : Type 0
JudgedTreesAreSafe =
    (tokens : List Tok) (tree : SyntaxTree) (listing : List Failure) → IsInFirstForm (without_links tree) → AreNamesTold tokens tree
    → AreLinked (unit_nodes tokens tree) → IsJudgement (unit_nodes tokens tree) (Holds listing) → AreOfOtherClasses listing
    → IsSafe (without_links tree)
