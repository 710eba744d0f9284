-- The least so far, and that of the attributes that are left, come to that of all.
use Rattle.std.proofs.Common.{◌≡◌, option_map}
use Rattle.meaning_rules.specs.Rules.{least_broken, lesser}
use Rattle.meaning_typing.specs.Tags.{bitwise_words}
use Rattle.decl_judge.specs.Units.{handles_of, nodes_of}
use Rattle.expression_rows.specs.Rows.{broken_seen}
use Rattle.declaration_rows.proofs.bitwise.words_among.Given as goal

abbrev pub invariant-loop-attribute : goal.invariant-loop-attribute
invariant-loop-attribute l =
    lesser (option_map broken_seen l.least) (least_broken (bitwise_words (nodes_of l.unit) (handles_of l.attribute-iterator)))
    ≡ lesser (option_map broken_seen l.fn.least) (least_broken (bitwise_words (nodes_of l.unit) (handles_of l.attributes)))
