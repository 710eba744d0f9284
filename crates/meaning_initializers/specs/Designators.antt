-- Where designators lead (C11 6.7.9 p6, p7, p17, p18): from an object down to a part, step by step.
use Rattle.std.specs.Prelude.{◌≡◌, ℕ, nat_lt, ℤ, pos, negsuc, Bool, is_some, List, [], ◌∷◌, slice_get, Option, Some, None, if◌then◌else◌}
use Rattle.std.specs.Str.{bytes_eq}
use Rattle.meaning_types.specs.Types.{TypeTree, Typed, ArrayTree, AggregateTree}
use Rattle.meaning_layout.specs.Members.{DeclaredMember, FoundMember, named_member}
use Rattle.meaning_typing.specs.Facts.{Fact, Expression}
use Rattle.meaning_initializers.specs.Items.{Target, MemberNamed, ElementAt, Designator}
use Rattle.meaning_initializers.specs.Parts.{Aggregates, Part, member_part}
use Rattle.meaning_initializers.specs.Plans.{Refusal, no_part}

-- what a designator names in an object
pub data Step : Type 0 where
  ToPart : Part → Step
  -- a member without a name, in which the name is sought (6.7.2.1 p13)
  Into : Part → Step
  NoPart : Step
  -- of an index of which nothing is known
  Unknown : Step

-- Members

abbrev pub step_into : (place : ℕ) → Option (DeclaredMember (List ℕ)) → Step
step_into place None = NoPart
step_into place (Some member) = if is_some member.name then ToPart (member_part place member) else Into (member_part place member)

abbrev pub step_to_member : List (DeclaredMember (List ℕ)) → Option FoundMember → Step
step_to_member members None = NoPart
step_to_member members (Some found) = step_into found.place (slice_get members found.place)

-- Elements: an index is a constant that isn't below 0, and below the length

-- an array without a length takes an index below 2^40, the bytes of the largest object (our choice)
abbrev pub most_elements : ℕ
most_elements = 1099511627776

abbrev pub is_index : ℕ → Option ℕ → Bool
is_index index None = nat_lt index most_elements
is_index index (Some length) = nat_lt index length

abbrev pub step_by_number : (element : TypeTree) → (length : Option ℕ) → Option ℤ → Step
step_by_number element length (Some (pos index)) = if is_index index length then ToPart (record { number = index; type_ = element }) else NoPart
step_by_number element length (Some (negsuc index)) = NoPart
step_by_number element length None = NoPart

abbrev pub step_to_element : (element : TypeTree) → (length : Option ℕ) → Fact → Step
step_to_element element length (Expression expression) = step_by_number element length expression.constant
step_to_element element length fact = Unknown

-- a name leads into a structure or a union, and an index into an array
abbrev pub step_of : Aggregates → TypeTree → Target → Step
step_of aggregates (Typed (AggregateTree number is_union) _ _) (MemberNamed name) =
    step_to_member (aggregates.members number) (named_member bytes_eq (aggregates.names number) name)
step_of aggregates (Typed (ArrayTree element length) _ _) (ElementAt fact) = step_to_element element length fact
step_of aggregates type_ target = NoPart

-- Ways

-- the parts on the way, from the outermost on, or that there is none
pub data Way : Type 0 where
  Along : List Part → Way
  Nowhere : List Refusal → Way

abbrev pub through : Part → Way → Way
through part (Along parts) = Along (part ∷ parts)
through part (Nowhere refusals) = Nowhere refusals

-- From an object of this type the designators lead this way.
pub data Leads (aggregates : Aggregates) : TypeTree → List Designator → Way → Type 0 where
  there : {type_ : TypeTree} → Leads aggregates type_ [] (Along [])
  to_part : {type_ : TypeTree} {designator : Designator} {designators : List Designator} {part : Part} {way : Way}
      → step_of aggregates type_ designator.target ≡ ToPart part → Leads aggregates part.type_ designators way
      → Leads aggregates type_ (designator ∷ designators) (through part way)
  into : {type_ : TypeTree} {designator : Designator} {designators : List Designator} {part : Part} {way : Way}
      → step_of aggregates type_ designator.target ≡ Into part → Leads aggregates part.type_ (designator ∷ designators) way
      → Leads aggregates type_ (designator ∷ designators) (through part way)
  to_none : {type_ : TypeTree} {designator : Designator} {designators : List Designator}
      → step_of aggregates type_ designator.target ≡ NoPart → Leads aggregates type_ (designator ∷ designators) (Nowhere (no_part designator))
  unknown : {type_ : TypeTree} {designator : Designator} {designators : List Designator}
      → step_of aggregates type_ designator.target ≡ Unknown → Leads aggregates type_ (designator ∷ designators) (Nowhere [])
