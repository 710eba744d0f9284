-- Both layouts are those of the members.
use Rattle.std.proofs.Common.{length, ap, ◌∙◌}
use Rattle.c_types.specs.Layouts.{structure_kept, union_kept}
use Rattle.c_types.proofs.MemberLemmas.{both-narrow, structure-made, union-made}
use Rattle.c_types.proofs.laying.lay_out_members.Goals as goal

pub returns-clause-union : goal.returns-clause-union
returns-clause-union c =
    ap (union_kept (length c.args.members.now)) c.ok_or-2.ensures.value ∙ union-made c.args.members.now c.union_extent.result ∙ c.union_extent.ensures

pub returns-clause-narrow : goal.returns-clause-narrow
returns-clause-narrow c =
    both-narrow c.args.packed c.args.written c.args.members.now (record { structure = c.ok_or.result; union = c.ok_or-2.result; count = length c.args.members.now }) c.requires.members c.requires.written c.requires.narrow
    (ap structure_kept c.ok_or.ensures.value ∙ structure-made c.in_ok-structure.structure ∙ c.in_ok-structure.ensures)
    (ap (union_kept (length c.args.members.now)) c.ok_or-2.ensures.value ∙ union-made c.args.members.now c.union_extent.result ∙ c.union_extent.ensures)
