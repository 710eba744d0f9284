-- Few children stand for the children in the list.
use Rattle.std.proofs.Common.{option_map, ap, ◌∙◌}
use Rattle.const_fold.specs.Known.{part_at}
use Rattle.const_fold.specs.Outlined.{outlined_part, known_children}
use Rattle.const_fold.proofs.KnownLemmas.{known-few}
use Rattle.const_fold.proofs.known.facts_of.Goals as goal

pub returns : goal.returns
returns c =
    let known = part_at c.args.types.now c.args.nodes.now in
    let parts = c.parts_of.ensures ∙ ap (known_children (λ handle. option_map outlined_part (known handle))) c.children_of.ensures ∙ known-few known c.args.node.now.children in
    λ i. record {
      kind = c.args.node.now.kind;
      number = c.args.node.now.number;
      parts = parts i;
      enumerator = c.named_by.ensures i;
      offset = c.args.bytes;
    }
