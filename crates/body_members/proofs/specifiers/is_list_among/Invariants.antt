-- So far none was one.
use Rattle.std.proofs.Common.{◌≡◌}
use Rattle.std.specs.List.{list_any}
use Rattle.meaning_typing.specs.MemberDeclarations.{is_member_list}
use Rattle.meaning_typing.specs.Units.{kind_at}
use Rattle.decl_judge.specs.Units.{handles_of, nodes_of}
use Rattle.body_members.proofs.specifiers.is_list_among.Given as goal

abbrev pub invariant-loop-child : goal.invariant-loop-child
invariant-loop-child l =
    list_any (λ child. is_member_list (kind_at (nodes_of l.unit) child)) (handles_of l.child-iterator)
    ≡ list_any (λ child. is_member_list (kind_at (nodes_of l.unit) child)) (handles_of l.children)
