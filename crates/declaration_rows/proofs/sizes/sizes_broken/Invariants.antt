-- The least so far, and that of the sizes that are left, come to that of all.
use Rattle.std.proofs.Common.{◌≡◌, option_map}
use Rattle.meaning_rules.specs.Rules.{least_broken, lesser}
use Rattle.meaning_typing.specs.DeclarationRows as meaning
use Rattle.decl_judge.specs.Units.{handles_of, nodes_of}
use Rattle.expression_rows.specs.Rows.{broken_seen}
use Rattle.node_facts.specs.Facts.{nodes_seen}
use Rattle.declaration_rows.proofs.sizes.sizes_broken.Given as goal

abbrev pub invariant-loop-child : goal.invariant-loop-child
invariant-loop-child l =
    lesser (option_map broken_seen l.least)
    (least_broken (meaning.sizes_broken (nodes_of l.unit) (nodes_seen l.types l.facts) (handles_of l.child-iterator)))
    ≡ least_broken (meaning.sizes_broken (nodes_of l.unit) (nodes_seen l.types l.facts) (handles_of l.children))
