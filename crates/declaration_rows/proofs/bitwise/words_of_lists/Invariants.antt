-- The least so far, and that of the lists that are left, come to that of all.
use Rattle.std.proofs.Common.{◌≡◌, option_map}
use Rattle.meaning_rules.specs.Rules.{least_broken, lesser}
use Rattle.meaning_typing.specs.Specifiers.{attributes_among}
use Rattle.meaning_typing.specs.Tags.{bitwise_words}
use Rattle.decl_judge.specs.Units.{handles_of, nodes_of}
use Rattle.expression_rows.specs.Rows.{broken_seen}
use Rattle.declaration_rows.proofs.bitwise.words_of_lists.Given as goal

abbrev pub invariant-loop-child : goal.invariant-loop-child
invariant-loop-child l =
    lesser (option_map broken_seen l.least)
    (least_broken (bitwise_words (nodes_of l.unit) (attributes_among (nodes_of l.unit) (handles_of l.child-iterator))))
    ≡ lesser (option_map broken_seen l.fn.least)
    (least_broken (bitwise_words (nodes_of l.unit) (attributes_among (nodes_of l.unit) (handles_of l.children))))
