-- Members among the parts of their declaration, by the places of their declarators and widths.
use Rattle.std.specs.Prelude.{◌≡◌, ℕ, zero, suc, get_or, slice_get, List, Option, Some, None}
use Rattle.vocabulary.specs.declared.node_kind.NodeKind.{NodeKind}
use Rattle.vocabulary.specs.declared.node_kind.NodeKind.TheVariants as kinds
use Rattle.meaning_typing.specs.Units.{UnitNodes, children_at, kind_at}
use Rattle.member_declarations.specs.declared.entries.MemberPart.{MemberPart}
use Rattle.member_declarations.specs.declared.entries.MemberPart.TheVariants as parts

abbrev pub member_part : NodeKind → MemberPart
member_part kinds.Declarator = parts.Declarator
member_part kinds.BitFieldWidth = parts.Width
member_part kind = parts.Other

abbrev pub declarator_by : MemberPart → (handle : ℕ) → (before : Option ℕ) → Option ℕ
declarator_by parts.Declarator handle before = Some handle
declarator_by parts.Width handle before = None
declarator_by parts.Other handle before = before

-- the last declarator before a place, but for the first part, unless a width stands between
abbrev pub declarator_before : UnitNodes → (handles : List ℕ) → (place : ℕ) → Option ℕ
declarator_before nodes handles zero = None
declarator_before nodes handles (suc zero) = None
declarator_before nodes handles (suc (suc place)) =
    declarator_by (member_part (kind_at nodes (get_or handles (suc place) 0))) (get_or handles (suc place) 0)
    (declarator_before nodes handles (suc place))

-- a node is a part of another one at this place, and at no other
pub record StandsOnce (nodes : UnitNodes) (handle parent place : ℕ) : Type 0 where
  pub there : slice_get (children_at nodes parent) place ≡ Some handle
  pub once : (other : ℕ) → slice_get (children_at nodes parent) other ≡ Some handle → other ≡ place
