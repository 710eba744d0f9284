-- What holds of parentheses.
use Rattle.std.specs.Prelude.{◌≡◌, ℕ, true, false}
use Rattle.meaning_tree.specs.Nodes.{ChildrenStandBefore}
use Rattle.meaning_typing.specs.Units.{UnitNodes, kind_at, child_at, unit_list}
use Rattle.meaning_objects.specs.Callees.{is_parenthesized, without_parentheses}

-- where each part stands before the node above it, all parentheses are taken away
abbrev pub ParenthesesAreTakenAway : Type 0
ParenthesesAreTakenAway =
    (nodes : UnitNodes) (handle : ℕ) → ChildrenStandBefore (unit_list nodes) → is_parenthesized (kind_at nodes (without_parentheses nodes handle)) ≡ false

-- and an expression in parentheses is what it is without them
abbrev pub ParenthesesDontCount : Type 0
ParenthesesDontCount =
    (nodes : UnitNodes) (handle : ℕ) → ChildrenStandBefore (unit_list nodes) → is_parenthesized (kind_at nodes handle) ≡ true
    → without_parentheses nodes handle ≡ without_parentheses nodes (child_at nodes handle 0)
