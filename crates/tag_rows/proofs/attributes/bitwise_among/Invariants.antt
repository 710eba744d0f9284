-- The least so far, and those at the attributes that are left, come to that of all.
use Rattle.std.proofs.Common.{◌≡◌, option_map}
use Rattle.expression_rows.specs.Rows.{broken_seen}
use Rattle.decl_judge.specs.Units.{handles_of, nodes_of}
use Rattle.tag_rows.specs.Attributes.{bitwise_over}
use Rattle.tag_rows.proofs.attributes.bitwise_among.Given as goal

abbrev pub invariant-loop-attribute : goal.invariant-loop-attribute
invariant-loop-attribute l =
    bitwise_over (nodes_of l.unit) (option_map broken_seen l.found) (handles_of l.attribute-iterator)
    ≡ bitwise_over (nodes_of l.unit) (option_map broken_seen l.fn.least) (handles_of l.attributes)
