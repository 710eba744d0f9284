use Rattle.std.proofs.Common.{◌≡◌, ◌++◌, Some, false, option_map, sym, ap, ◌∙◌}
use Rattle.meaning_typing.specs.Declarators.{is_ellipsis}
use Rattle.meaning_typing.specs.Units.{kind_at}
use Rattle.decl_judge.specs.Asked.{kept_at, named_in, parameter_ids}
use Rattle.decl_judge.specs.Units.{handles_of, nodes_of}
use Rattle.decl_judge.proofs.ParameterLemmas.{one_more}
use Rattle.decl_judge.proofs.parameters.parameter_types.Goals as goal

pub loop-child-preserved : goal.loop-child-preserved
loop-child-preserved c =
    let nodes = nodes_of c.args.unit.now in
    let kept = c.args.facts.now in
    let child = c.in-Some.child in
    let front = c.loop-child.parameters in
    let of = c.in-Some-named_type_at.of in
    let rest = parameter_ids nodes kept (handles_of c.next.new.self) in
    let not_dots : is_ellipsis (kind_at nodes child) ≡ false =
    ap is_ellipsis (sym c.kind_at.ensures) ∙ sym c.is_ellipsis.ensures ∙ c.if-is_ellipsis.false in
    let named : named_in (kept_at kept child) ≡ Some of = sym c.named_type_at.ensures ∙ c.in-Some-named_type_at.is in
    ap (λ parameters. option_map (λ ids. parameters ++ ids) rest) c.in_default-push.ensures.ok
    ∙ one_more front of (kind_at nodes child) (kept_at kept child) rest not_dots named
    ∙ ap (λ children. option_map (λ ids. front ++ ids) (parameter_ids nodes kept (handles_of children))) (sym c.in-Some.ensures.steps)
    ∙ c.loop-child.invariant
