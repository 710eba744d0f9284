-- What is written of the tokens of a unit.
use Rattle.std.specs.Prelude.{◌≡◌, ◌⊎◌, ℕ, List}
use Rattle.vocabulary.specs.declared.limit.LimitKind.TheVariants.{ObjectSize}
use Rattle.sparse_model.specs.declared.ids.NameId.{NameId}
use Rattle.meaning_operands.specs.Failures.{Failure}
use Rattle.meaning_tree.specs.Nodes.{NodeList}
use Rattle.meaning_typing.specs.Rows.{Row}
use Rattle.meaning_typing.specs.Surroundings.{Surrounding, AreSurroundings}
use Rattle.meaning_typing.specs.Units.{UnitNodes}
use Rattle.meaning_rules.specs.Rules.{BreaksConstraint, Holds, PassesObjectSize}
use Rattle.meaning_units.specs.WholeRows.{AreRows, facts_of}
use Rattle.meaning_units.specs.WholeRules.{IsJudged, IsJudgement}
use Rattle.meaning_contexts.specs.Units.{judged_of}
use Rattle.meaning_answer.specs.Answers.{TellsRefusal}
use Rattle.meaning_answer.specs.Lines.{limit_reply}
use Rattle.meaning_answer.specs.Reply.{Reply}
use Rattle.c_tokens.specs.Seen.{toks_of}
use Rattle.c_preproc.specs.declared.unit.UnitTokens.{UnitTokens}
use Rattle.parse_state.specs.Finished.{spelled}
use Rattle.c_parse.specs.Answers.{DerivesUnit}
use Rattle.decl_judge.specs.Units.{nodes_of}
use Rattle.expression_rows.specs.declared.row.Broken.{Broken}
use Rattle.expression_rows.specs.Rows.{broken_seen}
use Rattle.ksparse.specs.Judged.{constraint_reply}
use Rattle.ksparse.specs.Written.{paths_of}
use Rattle.unit_commands.specs.FlowLines.{AreFlowLines}
use Rattle.unit_commands.specs.Replies.{shown_reply}

-- nothing is refused of these nodes, and these are the lines of their functions, by what is known of each node
pub record ShowsFlows (nodes : UnitNodes) (text : List ℕ) : Type 0 where
  pub surroundings : List Surrounding
  pub rows : List Row
  pub listing : List Failure
  pub are_surroundings : AreSurroundings nodes surroundings
  pub are_rows : AreRows nodes surroundings rows
  pub accepted : IsJudged nodes surroundings rows (Holds listing)
  pub lines : AreFlowLines (judged_of nodes surroundings (facts_of rows)) text

-- it shows the flows of these nodes, or the constraint that they break, or that an object of them is too large
abbrev pub TellsFlows : List (List ℕ) → UnitTokens → UnitNodes → Reply → Type 0
TellsFlows names toks nodes reply =
    ((text : List ℕ) × ShowsFlows nodes text × (reply ≡ shown_reply text))
    ⊎ ((broken : Broken) × IsJudgement nodes (BreaksConstraint (broken_seen broken)) × (reply ≡ constraint_reply names toks broken))
    ⊎ (IsJudgement nodes PassesObjectSize × (reply ≡ limit_reply ObjectSize))

-- of the nodes of the tree that the tokens derive; or the line of a refusal of parsing
abbrev pub IsFlowsReply : List (List ℕ) → UnitTokens → Reply → Type 0
IsFlowsReply names toks reply =
    ((list : NodeList NameId) × DerivesUnit (toks_of names toks.tokens) (spelled names list) × TellsFlows names toks (nodes_of list) reply)
    ⊎ TellsRefusal (paths_of names toks.files) (toks_of names toks.tokens) reply
