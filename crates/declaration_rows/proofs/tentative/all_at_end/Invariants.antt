-- The least so far, and that of the handles that are left, come to that of all.
use Rattle.std.proofs.Common.{◌≡◌, drop, option_map}
use Rattle.std.specs.List.{flat_map}
use Rattle.meaning_rules.specs.Rules.{least_broken, lesser}
use Rattle.c_types.specs.Layouts.{told_in}
use Rattle.decl_judge.specs.Units.{nodes_of}
use Rattle.expression_rows.specs.Rows.{broken_seen}
use Rattle.node_facts.specs.Facts.{nodes_seen}
use Rattle.node_surroundings.specs.Seen.{surroundings_seen}
use Rattle.declaration_rows.specs.Kept.{at_end}
use Rattle.declaration_rows.proofs.tentative.all_at_end.Given as goal

abbrev pub invariant-loop-handle : goal.invariant-loop-handle
invariant-loop-handle l =
    lesser (option_map broken_seen l.least)
    (least_broken
    (flat_map (at_end (told_in l.types) (nodes_of l.unit) (surroundings_seen l.surroundings) (nodes_seen l.types l.facts)) (drop l.handle-index l.handles)))
    ≡ least_broken (flat_map (at_end (told_in l.types) (nodes_of l.unit) (surroundings_seen l.surroundings) (nodes_seen l.types l.facts)) l.handles)
