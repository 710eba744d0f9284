-- What was taken stands for the enumerators before the children that are left.
use Rattle.std.proofs.Common.{◌≡◌, List, ◌++◌}
use Rattle.meaning_typing.specs.EnumRows.{SeenEnumerator, enumerators_among}
use Rattle.decl_judge.specs.Units.{handles_of, nodes_of}
use Rattle.enum_rows.specs.Enumerations.{StandsFor}
use Rattle.node_facts.specs.Facts.{nodes_seen}
use Rattle.specifier_judge.proofs.enumerators.enumerators_among.Given as goal

abbrev pub invariant-loop-child : goal.invariant-loop-child
invariant-loop-child l =
    (list : List SeenEnumerator) × StandsFor l.taken list
    × (list ++ enumerators_among (nodes_of l.unit) (nodes_seen l.types l.facts) (handles_of l.child-iterator)
    ≡ enumerators_among (nodes_of l.unit) (nodes_seen l.types l.facts) (handles_of l.children))
