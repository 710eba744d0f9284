-- The lines of the nodes before the next one are written.
use Rattle.std.proofs.Common.{List}
use Rattle.meaning_typing.specs.Surroundings.{Surrounding}
use Rattle.decl_judge.specs.Units.{nodes_of}
use Rattle.unit_commands.specs.Answers.{AreAnswers}
use Rattle.unit_commands.specs.Types.{AreLines, shown_of}
use Rattle.unit_commands.proofs.types.node_lines.Given as goal

abbrev pub invariant-loop-handle : goal.invariant-loop-handle
invariant-loop-handle l =
    (surroundings : List Surrounding) → AreAnswers (nodes_of l.unit) surroundings l.show.types.now l.answers
    → AreLines (nodes_of l.unit) surroundings (shown_of l.show) l.handle l.text.items
