-- What holds of every layout.
use Rattle.std.specs.Prelude.{◌≡◌, ℕ, ◌<◌, ◌≤◌, ◌+◌, ◌-◌, ◌*◌, ◌/◌, ◌%◌, Bool, true, false, Some, None, Ok, List, [], ◌∷◌, All, replicate, length}
use Rattle.meaning_layout.specs.Bodies.{LayoutMember, LayoutBody, member_align}
use Rattle.meaning_layout.specs.Placing.{bits_of, unit_of}
use Rattle.meaning_layout.specs.Layouts.{Layout, layout_of}

-- A member of the language: an alignment is at least 1, and a bit-field is no wider than its type, which isn't empty.
pub record IsMember (member : LayoutMember) : Type 0 where
  pub align : 0 < member.align
  pub written : 0 < member.written
  pub field : (width : ℕ) → member.width ≡ Some width → (0 < member.size) × (width ≤ unit_of member)

-- a body of such members
pub record IsBody (body : LayoutBody) : Type 0 where
  pub members : All IsMember body.members
  pub written : 0 < body.written

-- what holds of each member and its first bit
abbrev pub EachMember : (LayoutMember → ℕ → Type 0) → List LayoutMember → List ℕ → Type 0
EachMember P [] [] = Unit {0}
EachMember P [] (bit ∷ bits) = ⊥
EachMember P (member ∷ members) [] = ⊥
EachMember P (member ∷ members) (bit ∷ bits) = P member bit × EachMember P members bits

-- each member ends before the first bit of each later one
abbrev pub StandApart : List LayoutMember → List ℕ → Type 0
StandApart [] bits = Unit {0}
StandApart (member ∷ members) [] = Unit {0}
StandApart (member ∷ members) (bit ∷ bits) = EachMember (λ other later. bit + bits_of member ≤ later) members bits × StandApart members bits

-- a bit-field with a width lies in one unit of its declared type
abbrev pub IsInUnit : LayoutMember → ℕ → Type 0
IsInUnit member bit = (width : ℕ) → member.width ≡ Some width → 0 < width → bit / unit_of member ≡ (bit + (width - 1)) / unit_of member

-- a member that is no bit-field lies at a multiple of its alignment
abbrev pub IsAligned : (packed : Bool) → LayoutMember → ℕ → Type 0
IsAligned packed member bit = member.width ≡ None → bit % (8 * member_align packed member) ≡ 0

-- the size is a multiple of the alignment
abbrev pub SizesAreMultiples : Type 0
SizesAreMultiples = (body : LayoutBody) (layout : Layout) → IsBody body → layout_of body ≡ Ok layout → layout.size % layout.align ≡ 0

-- each member lies inside
abbrev pub MembersLieInside : Type 0
MembersLieInside =
    (body : LayoutBody) (layout : Layout) → IsBody body → layout_of body ≡ Ok layout
    → EachMember (λ member bit. bit + bits_of member ≤ 8 * layout.size) body.members layout.first_bits

-- two members of a structure share no bit, and stand in order
abbrev pub MembersStandApart : Type 0
MembersStandApart = (body : LayoutBody) (layout : Layout) → IsBody body → body.is_union ≡ false → layout_of body ≡ Ok layout → StandApart body.members layout.first_bits

-- bit-fields lie in units of their types
abbrev pub FieldsLieInUnits : Type 0
FieldsLieInUnits = (body : LayoutBody) (layout : Layout) → IsBody body → layout_of body ≡ Ok layout → EachMember IsInUnit body.members layout.first_bits

-- other members lie at multiples of their alignments
abbrev pub MembersAreAligned : Type 0
MembersAreAligned = (body : LayoutBody) (layout : Layout) → IsBody body → layout_of body ≡ Ok layout → EachMember (IsAligned body.packed) body.members layout.first_bits

-- in a union all begin with the first bit
abbrev pub UnionsBeginAtOnce : Type 0
UnionsBeginAtOnce = (body : LayoutBody) (layout : Layout) → body.is_union ≡ true → layout_of body ≡ Ok layout → layout.first_bits ≡ replicate (length body.members) 0
