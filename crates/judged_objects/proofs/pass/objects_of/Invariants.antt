-- So far the objects are those of the nodes so far.
use Rattle.std.proofs.Common.{take}
use Rattle.c_types.specs.Table.{TypeTable}
use Rattle.decl_judge.specs.Units.{nodes_of}
use Rattle.node_facts.specs.Facts.{nodes_seen}
use Rattle.node_surroundings.specs.Seen.{surroundings_seen}
use Rattle.judged_objects.specs.Kept.{AreObjects}
use Rattle.judged_objects.proofs.pass.objects_of.Given as goal

abbrev pub invariant-loop-handle : goal.invariant-loop-handle
invariant-loop-handle l =
    (table : TypeTable) → AreObjects (nodes_of l.unit) (surroundings_seen l.surroundings) (nodes_seen table (take l.handle l.facts)) l.objects
