-- What each command writes of the tokens of a unit.
use Rattle.std.specs.Prelude.{ℕ, List}
use Rattle.meaning_answer.specs.Reply.{Reply}
use Rattle.c_preproc.specs.declared.unit.UnitTokens.{UnitTokens}
use Rattle.unit_commands.specs.declared.command.Command.{Command}
use Rattle.unit_commands.specs.declared.command.Command.TheVariants as commands
use Rattle.unit_commands.specs.Flows.{IsFlowsReply}
use Rattle.unit_commands.specs.Trees.{IsTreeReply}
use Rattle.unit_commands.specs.Types.{IsTypesReply}

abbrev pub IsReplyOf : Command → List (List ℕ) → UnitTokens → Reply → Type 0
IsReplyOf commands.Lowered names toks reply = IsFlowsReply names toks reply
IsReplyOf commands.Trees names toks reply = IsTreeReply names toks reply
IsReplyOf commands.Types names toks reply = IsTypesReply names toks reply
