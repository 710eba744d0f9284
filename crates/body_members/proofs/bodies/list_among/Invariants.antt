-- So far none was a list of members.
use Rattle.std.proofs.Common.{◌≡◌}
use Rattle.std.specs.List.{flat_map}
use Rattle.meaning_typing.specs.MemberDeclarations.{member_list}
use Rattle.meaning_typing.specs.Units.{kind_at}
use Rattle.decl_judge.specs.Units.{handles_of, nodes_of}
use Rattle.body_members.proofs.bodies.list_among.Given as goal

abbrev pub invariant-loop-child : goal.invariant-loop-child
invariant-loop-child l =
    flat_map (λ child. member_list (kind_at (nodes_of l.unit) child) child) (handles_of l.child-iterator)
    ≡ flat_map (λ child. member_list (kind_at (nodes_of l.unit) child) child) (handles_of l.children)
