-- Parentheses name what stands in them.
use Rattle.std.proofs.Common.{◌≡◌, ◌<◌, length, option_map, ap, sym, subst, ◌∙◌}
use Rattle.meaning_typing.specs.Units.{child_at, kind_at}
use Rattle.decl_judge.specs.Units.{nodes_of}
use Rattle.vocabulary.specs.declared.node_kind.NodeKind.TheVariants as kinds
use Rattle.linear_code.specs.Known.{function_note, judged_unit, named_at}
use Rattle.linear_code.proofs.NameLemmas.{child-before, depth, depth-falls, kind-within, named-inside, named-note}
use Rattle.linear_code.proofs.callee.named_function.Goals as goal

pub parentheses-smaller : goal.parentheses-smaller
parentheses-smaller g c =
    let nodes = nodes_of c.args.unit.now in
    let inside = c.parentheses.inside in
    let is : kind_at nodes inside ≡ kinds.Parenthesized = sym c.kind_at.ensures ∙ c.in-Parenthesized.is in
    subst (λ child. depth (length nodes) child < depth (length nodes) inside) (sym c.child_at-inside.ensures)
    (depth-falls (length nodes) inside (child_at nodes inside 0) (kind-within nodes inside (λ empty. cc (sym is ∙ empty)))
    (child-before c.args.unit.now c.requires c.each_node_stands_for_one_tree.ensures.order inside 0))

pub parentheses-preserved : goal.parentheses-preserved
parentheses-preserved g c =
    let nodes = nodes_of c.args.unit.now in
    let judged = judged_unit c.args.unit.now (g.J.ControlFacts.known c.args.facts.now) in
    let inside = c.parentheses.inside in
    let is : kind_at nodes inside ≡ kinds.Parenthesized = sym c.kind_at.ensures ∙ c.in-Parenthesized.is in
    ap (named_at judged) c.child_at-inside.ensures
    ∙ sym (named-inside judged inside (child-before c.args.unit.now c.requires c.each_node_stands_for_one_tree.ensures.order inside 0) is)
    ∙ c.parentheses.invariant

pub returns : goal.returns
returns g c =
    let known = g.J.ControlFacts.known c.args.facts.now in
    c.function_of.ensures
    ∙ named-note known c.args.unit.now c.parentheses.inside (λ is. c.in_default.not-Parenthesized (c.kind_at.ensures ∙ is))
    ∙ ap (option_map (function_note known)) c.parentheses.invariant
