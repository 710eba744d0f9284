-- The least so far, and those at the specifiers that are left, come to that of all.
use Rattle.std.proofs.Common.{◌≡◌, option_map}
use Rattle.meaning_rules.specs.Rules.{least_broken}
use Rattle.meaning_typing.specs.Tags.{attributes_of_specifiers, bitwise_words}
use Rattle.expression_rows.specs.Rows.{broken_seen}
use Rattle.decl_judge.specs.Units.{handles_of, nodes_of}
use Rattle.tag_rows.specs.Attributes.{bitwise_over}
use Rattle.tag_rows.proofs.attributes.bitwise_of_specifiers.Given as goal

abbrev pub invariant-loop-child : goal.invariant-loop-child
invariant-loop-child l =
    bitwise_over (nodes_of l.unit) (option_map broken_seen l.found) (attributes_of_specifiers (nodes_of l.unit) (handles_of l.child-iterator))
    ≡ least_broken (bitwise_words (nodes_of l.unit) (attributes_of_specifiers (nodes_of l.unit) (handles_of l.children)))
