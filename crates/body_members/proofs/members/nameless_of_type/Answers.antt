use Rattle.std.proofs.Common.{◌≡◌, ℕ, None, [], false, sym, ap, ◌∙◌}
use Rattle.meaning_typing.specs.MemberDeclarations.{attributes_apart, member_alignment}
use Rattle.meaning_typing.specs.Units.{child_at, children_at}
use Rattle.c_types.specs.declared.bodies.Member.{Member}
use Rattle.decl_judge.specs.Units.{nodes_of}
use Rattle.body_members.proofs.AlignmentLemmas.{one_over}
use Rattle.body_members.proofs.members.nameless_of_type.Goals as goal

abbrev nameless : (align of : ℕ) → Member
nameless align of = record { name = None; of = record { 0 = of }; width = None; align = align }

pub returns : goal.returns
returns c =
    let nodes = nodes_of c.args.unit.now in
    let align : c.in_ok-align.align ≡ member_alignment nodes c.args.declaration [] =
    c.in_ok-align.ensures ∙ c.specified_alignment.ensures
    ∙ sym (one_over nodes (attributes_apart nodes false (children_at nodes (child_at nodes c.args.declaration 0)))) in
    ap (λ align. nameless align c.args.of.0) align
