-- What is known of a member's declarator, behind what its specifiers say.
use Rattle.std.specs.Prelude.{ℕ, Bool, true, false, List, Option, option_map}
use Rattle.vocabulary.specs.declared.node_kind.NodeKind.{NodeKind}
use Rattle.vocabulary.specs.declared.node_kind.NodeKind.TheVariants as kinds
use Rattle.meaning_tree.specs.Nodes.{TreeNode}
use Rattle.meaning_types.specs.Types.{TypeTree}
use Rattle.meaning_typing.specs.Declarators.{derived_by}
use Rattle.meaning_typing.specs.Facts.{Fact}
use Rattle.meaning_typing.specs.MemberDeclarations.{lists_of_member, member_declared_if}
use Rattle.meaning_typing.specs.Specifiers.{marks_among, with_marks}
use Rattle.meaning_typing.specs.Units.{UnitNodes, node_at}
use Rattle.decl_judge.specs.Units.{handles_of}

abbrev pub is_width : NodeKind → Bool
is_width kinds.BitFieldWidth = true
is_width kind = false

-- the type that these parts, and the attributes behind them, make of another one
abbrev pub member_type_behind : UnitNodes → List Fact → (parent place : ℕ) → (parts : List ℕ) → TypeTree → Option TypeTree
member_type_behind nodes facts parent place parts type_ =
    option_map (λ derived. with_marks (node_at nodes parent).token (marks_among nodes (lists_of_member nodes parent place)) derived)
    (derived_by nodes facts (node_at nodes parent).token parts type_)

abbrev pub member_behind : UnitNodes → List Fact → (parent place : ℕ) → TreeNode (List ℕ) → TypeTree → Fact
member_behind nodes facts parent place declarator type_ =
    member_declared_if declarator.name (member_type_behind nodes facts parent place (handles_of declarator.children) type_)
