-- Those that are left belong to the function, and with what the others break they come to all.
use Rattle.std.proofs.Common.{◌≡◌, List, option_map}
use Rattle.meaning_rules.specs.Rules.{least_broken, lesser}
use Rattle.meaning_statements.specs.Above.{expressions_around}
use Rattle.meaning_statements.specs.Jumps.{SeenGoto, gotos_before, labels_before}
use Rattle.meaning_statements.specs.StatementRows.{gotos_broken}
use Rattle.decl_judge.specs.Units.{nodes_of}
use Rattle.expression_rows.specs.Rows.{broken_seen}
use Rattle.node_surroundings.specs.Seen.{surroundings_seen}
use Rattle.statement_judge.specs.Gotos.{IsChain}
use Rattle.statement_judge.proofs.OwnerLemmas.{steps_from}
use Rattle.statement_judge.proofs.owners.gotos_broken.Given as goal

abbrev pub invariant-loop-next : goal.invariant-loop-next
invariant-loop-next l =
    record {
      left : List SeenGoto;
      on : IsChain (expressions_around (nodes_of l.unit) (surroundings_seen l.surroundings)) l.gotos.gotos.items l.owner l.next left;
      all :
          lesser (option_map broken_seen l.least)
          (least_broken (gotos_broken l.owner (labels_before (nodes_of l.unit) (surroundings_seen l.surroundings) l.owner) left))
          ≡ least_broken (gotos_broken l.owner (labels_before (nodes_of l.unit) (surroundings_seen l.surroundings) l.owner)
          (gotos_before (nodes_of l.unit) (surroundings_seen l.surroundings) l.owner));
    }

abbrev pub decreases-loop-next : goal.decreases-loop-next
decreases-loop-next l = steps_from l.next
