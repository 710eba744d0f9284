-- A call changes counts where the function that it names has contexts.
use Rattle.std.proofs.Common.{option_map, ap, sym, ◌∙◌}
use Rattle.linear_code.specs.Changes.{has_contexts_noted}
use Rattle.linear_code.specs.Known.{function_note, judged_unit, named_at}
use Rattle.linear_code.proofs.NameLemmas.{call-changes}
use Rattle.linear_code.proofs.changes.changes.Goals as goal

pub returns-in-Call : goal.returns-in-Call
returns-in-Call g c =
    let known = g.J.ControlFacts.known c.args.facts.now in
    c.has_contexts.ensures
    ∙ ap has_contexts_noted
    (c.named_function.ensures ∙ ap (λ child. option_map (function_note known) (named_at (judged_unit c.args.unit.now known) child)) c.child_at.ensures)
    ∙ call-changes known c.args.unit.now c.args.handle c.requires c.each_node_stands_for_one_tree.ensures.order (sym c.kind_at.ensures ∙ c.in-Call.is)
