-- The bodies of a specifier: one at most, where it has one list of members.
use Rattle.std.specs.Prelude.{◌≡◌, ◌≤◌, ℕ, Bool, true, false, List, length, Option}
use Rattle.vocabulary.specs.declared.node_kind.NodeKind.{NodeKind}
use Rattle.vocabulary.specs.declared.node_kind.NodeKind.TheVariants as kinds
use Rattle.meaning_layout.specs.Members.{DeclaredBody}
use Rattle.meaning_typing.specs.Facts.{Fact}
use Rattle.meaning_typing.specs.MemberDeclarations.{bodies_at, member_lists}
use Rattle.meaning_typing.specs.Surroundings.{Surrounding, surrounding_at}
use Rattle.meaning_typing.specs.Units.{UnitNodes, kind_at, node_at}
use Rattle.body_members.specs.Seen.{IsFirstBody, bodies_if}

-- it specifies a structure or a union
abbrev pub is_aggregate : NodeKind → Bool
is_aggregate kinds.StructSpecifier = true
is_aggregate kinds.UnionSpecifier = true
is_aggregate kind = false

-- the first body that is told is all that a specifier with one list of members has
abbrev pub FirstBodyIsAll : Type 0
FirstBodyIsAll =
    (nodes : UnitNodes) (surroundings : List Surrounding) (facts : List Fact) (handle : ℕ) (body : Option (DeclaredBody (List ℕ)))
    → is_aggregate (kind_at nodes handle) ≡ true → length (member_lists nodes handle) ≤ 1
    → IsFirstBody nodes facts handle (surrounding_at surroundings handle) body
    → bodies_if (node_at nodes handle).number body ≡ bodies_at nodes surroundings facts handle (kind_at nodes handle)
