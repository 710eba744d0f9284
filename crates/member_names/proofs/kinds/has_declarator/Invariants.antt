-- No declarator was found yet: one stands behind the first part where one is left.
use Rattle.std.proofs.Common.{◌≡◌, drop}
use Rattle.std.specs.List.{list_any}
use Rattle.meaning_typing.specs.MemberRows.{is_declarator_kind}
use Rattle.meaning_typing.specs.Units.{kind_at}
use Rattle.decl_judge.specs.Units.{handles_of, nodes_of}
use Rattle.member_names.proofs.kinds.has_declarator.Given as goal

abbrev pub invariant-loop-part : goal.invariant-loop-part
invariant-loop-part l =
    list_any (λ part. is_declarator_kind (kind_at (nodes_of l.unit) part)) (handles_of l.part-iterator)
    ≡ list_any (λ part. is_declarator_kind (kind_at (nodes_of l.unit) part)) (drop 1 (handles_of l.fn.parts))
