-- The least so far, and those of the lists that are left, come to that of all.
use Rattle.std.proofs.Common.{◌≡◌, option_map}
use Rattle.meaning_typing.specs.Specifiers.{attributes_among}
use Rattle.expression_rows.specs.Rows.{broken_seen}
use Rattle.decl_judge.specs.Units.{handles_of, nodes_of}
use Rattle.tag_rows.specs.Attributes.{bitwise_over}
use Rattle.tag_rows.proofs.attributes.bitwise_in_lists.Given as goal

abbrev pub invariant-loop-child : goal.invariant-loop-child
invariant-loop-child l =
    bitwise_over (nodes_of l.unit) (option_map broken_seen l.found) (attributes_among (nodes_of l.unit) (handles_of l.child-iterator))
    ≡ bitwise_over (nodes_of l.unit) (option_map broken_seen l.fn.least) (attributes_among (nodes_of l.unit) (handles_of l.children))
