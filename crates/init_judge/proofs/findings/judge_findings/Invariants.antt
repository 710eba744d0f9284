-- What was found so far, with what is left behind it, is all.
use Rattle.std.proofs.Common.{◌≡◌, All, length}
use Rattle.decl_judge.specs.Units.{nodes_of}
use Rattle.node_facts.specs.Facts.{nodes_seen}
use Rattle.initializer_levels.specs.Met.{IsFindingIn, found_with}
use Rattle.initializer_levels.specs.Turns.{Found, nothing_found}
use Rattle.init_judge.specs.Said.{HasJudged}
use Rattle.init_judge.proofs.findings.judge_findings.Given as goal

abbrev pub invariant-findings : goal.invariant-findings
invariant-findings l =
    record {
      rest : All (IsFindingIn l.fn.types l.plan.paths) l.rest;
      judged : (found : Found)
          × HasJudged (nodes_of l.unit) (nodes_seen l.fn.types l.facts) l.fn.types l.types l.plan.paths l.fn.found l.found l.leaves.items l.broken found
          × (found_with (nodes_of l.unit) (nodes_seen l.fn.types l.facts) l.is_static l.fn.types l.plan.paths found l.rest
          ≡ found_with (nodes_of l.unit) (nodes_seen l.fn.types l.facts) l.is_static l.fn.types l.plan.paths nothing_found l.plan.findings.items);
    }

abbrev pub decreases-findings : goal.decreases-findings
decreases-findings l = length l.rest
