-- The least so far, and that of the lists from this place on, come to that of all directly behind the first place.
use Rattle.std.proofs.Common.{◌≡◌, ◌+◌, option_map}
use Rattle.meaning_rules.specs.Rules.{least_broken, lesser}
use Rattle.meaning_typing.specs.Specifiers.{attributes_among}
use Rattle.meaning_typing.specs.Tags.{bitwise_words}
use Rattle.decl_judge.specs.Seen.{lists_from}
use Rattle.decl_judge.specs.Units.{nodes_of}
use Rattle.expression_rows.specs.Rows.{broken_seen}
use Rattle.declaration_rows.proofs.bitwise.words_after.Given as goal

abbrev pub invariant-loop-next : goal.invariant-loop-next
invariant-loop-next l =
    lesser (option_map broken_seen l.least)
    (least_broken (bitwise_words (nodes_of l.unit) (attributes_among (nodes_of l.unit) (lists_from (nodes_of l.unit) l.children l.next))))
    ≡ lesser (option_map broken_seen l.fn.least)
    (least_broken (bitwise_words (nodes_of l.unit) (attributes_among (nodes_of l.unit) (lists_from (nodes_of l.unit) l.children (l.fn.place + 1)))))
