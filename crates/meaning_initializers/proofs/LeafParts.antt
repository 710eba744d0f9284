-- Each leaf is for a part of the object: part by part, down to it.
use Rattle.std.proofs.Common.{◌≡◌, ℕ, zero, suc, ◌+◌, ℤ, pos, negsuc, Bool, true, false, is_some, List, [], ◌∷◌, ◌++◌, Option, Some, None, drop, All, slice_get, refl, sym, ap, subst, ◌∙◌, arith, append_assoc, if◌then◌else◌}
use Rattle.std.proofs.lemmas.List.{append-nil}
use Rattle.std.proofs.lemmas.List.Elements.{All-append, All-cons, All-nil, All-weaker}
use Rattle.std.proofs.lemmas.Option.{same_Some}
use Rattle.std.specs.Str.{bytes_eq}
use Rattle.meaning_types.specs.Types.{TypeTree, Typed, VoidTree, IntegerTree, RestrictedTree, PointerTree, ArrayTree, FunctionTree, AggregateTree, Qualifiers, Flags}
use Rattle.meaning_layout.specs.Members.{DeclaredMember, FoundMember, named_member}
use Rattle.meaning_typing.specs.Facts.{Fact, Unknown, Expression, Specified, Declared, NamedType}
use Rattle.meaning_initializers.specs.Items.{Given, Target, MemberNamed, ElementAt, Designator, Initializer, Items}
use Rattle.meaning_initializers.specs.Parts.{Aggregates, Part, bounded, member_part, is_passed_over, first_member, is_within, member_from, part_from, path_to, is_string_for}
use Rattle.meaning_initializers.specs.Designators as ways
use Rattle.meaning_initializers.specs.Designators.{Step, ToPart, Into, NoPart, Unknown as UnknownStep, Way, Along, Nowhere, through, step_into, step_to_member, step_by_number, step_to_element, step_of, is_index, most_elements, Leads, to_part, into, to_none, unknown}
use Rattle.meaning_initializers.specs.Plans.{Leaf, leaf_of, Plan, Filled, value_plan, plan_of_elements, is_longer}
use Rattle.meaning_initializers.specs.Filling.{Outcome, Receives, a_value, a_string, a_list, Fills, whole, by_parts, FillsParts, stops, goes_on, is_over, FillsAlong, arrived, deeper, Ends, at_end, one_extra, designated, nowhere}
use Rattle.meaning_initializers.specs.laws.Parts.{IsPartOf, LeadsTo, LeavesArePartsOfObjects}

found_if : (test : Bool) (found : Option Part) (part : Part) → (if test then found else None) ≡ Some part → found ≡ Some part
found_if true found part is = is
found_if false found part is = absurd (cc is)

slice_get-drop : {X : Type 0} (count : ℕ) (xs : List X) (index : ℕ) → slice_get (drop count xs) index ≡ slice_get xs (count + index)
slice_get-drop zero xs index = let one : index ≡ 0 + index = omega arith in ap (slice_get xs) one
slice_get-drop (suc count) [] index = refl
slice_get-drop (suc count) (x ∷ xs) index =
    let one : suc (count + index) ≡ suc count + index = omega arith in
    slice_get-drop count xs index ∙ ap (slice_get (x ∷ xs)) one

-- Members

abbrev IsMemberAt : List (DeclaredMember (List ℕ)) → ℕ → Part → Type 0
IsMemberAt members index part = (member : DeclaredMember (List ℕ)) × (slice_get members index ≡ Some member) × (part.type_ ≡ bounded member.of)

abbrev IsAmong : (first : ℕ) → List (DeclaredMember (List ℕ)) → Part → Type 0
IsAmong first members part = (index : ℕ) × (part.number ≡ first + index) × IsMemberAt members index part

first_member-if : (number : ℕ) (member : DeclaredMember (List ℕ)) (members : List (DeclaredMember (List ℕ))) (part : Part)
    → (first_member (suc number) members ≡ Some part → IsAmong (suc number) members part) → (test : Bool)
    → (if test then first_member (suc number) members else Some (member_part number member)) ≡ Some part → IsAmong number (member ∷ members) part
first_member-if number member members part behind true is =
    let found = behind is in (suc found.0, omega (arith, found.1), found.2)
first_member-if number member members part behind false is =
    let one : member_part number member ≡ part = same_Some _ part is in
    (0, sym (ap (λ (k : Part). k.number) one) ∙ omega arith, (member, refl, sym (ap (λ (k : Part). k.type_) one)))

first_member-among : (number : ℕ) (members : List (DeclaredMember (List ℕ))) (part : Part) → first_member number members ≡ Some part → IsAmong number members part
first_member-among number [] part is = absurd (cc is)
first_member-among number (member ∷ members) part is =
    first_member-if number member members part (first_member-among (suc number) members part) (is_passed_over member) is

zero_behind : (n : ℕ) → 0 + n ≡ n
zero_behind n = omega arith

member_from-is : (number : ℕ) (is_union : Bool) (members : List (DeclaredMember (List ℕ))) (part : Part) → member_from members is_union number ≡ Some part
    → IsMemberAt members part.number part
member_from-is number false members part is =
    let found = first_member-among number (drop number members) part is in
    let place = sym (slice_get-drop number members found.0) in
    (found.2.0, ap (slice_get members) found.1 ∙ (place ∙ found.2.1), found.2.2)
member_from-is zero true members part is =
    let found = first_member-among 0 members part is in
    (found.2.0, ap (slice_get members) (found.1 ∙ zero_behind found.0) ∙ found.2.1, found.2.2)
member_from-is (suc number) true members part is = absurd (cc is)

element-is : (element : TypeTree) (number : ℕ) (count : Option ℕ) (test : Bool) (part : Part) → is_within number count ≡ test
    → (if test then Some (record { number = number; type_ = element }) else None) ≡ Some part → (is_within part.number count ≡ true) × (part.type_ ≡ element)
element-is element number count true part within is =
    let one = same_Some _ part is in
    (subst (λ (k : Part). is_within k.number count ≡ true) one within, sym (ap (λ (k : Part). k.type_) one))
element-is element number count false part within is = absurd (cc is)

module _ (aggregates : Aggregates) where
  -- where a leaf stands under an object that has this path
  abbrev IsUnder : TypeTree → List ℕ → Leaf → Type 0
  IsUnder type_ path leaf = (rest : List ℕ) × (leaf.path ≡ path ++ rest) × LeadsTo aggregates type_ rest leaf.type_

  abbrev AreUnder : TypeTree → List ℕ → List Leaf → Type 0
  AreUnder type_ path leaves = All (IsUnder type_ path) leaves

  -- what stands under a part stands under the whole
  part-under : (type_ : TypeTree) (path : List ℕ) (part : Part) → IsPartOf aggregates type_ part → (leaf : Leaf) → IsUnder part.type_ (path_to type_ path part) leaf
      → IsUnder type_ path leaf
  part-under (Typed (ArrayTree element count) qualifiers flags) path part is leaf under =
      (part.number ∷ under.0, under.1 ∙ append_assoc path (part.number ∷ []) under.0, (part, refl, is, under.2))
  part-under (Typed (AggregateTree number is_union) qualifiers flags) path part is leaf under =
      (part.number ∷ under.0, under.1 ∙ append_assoc path (part.number ∷ []) under.0, (part, refl, is, under.2))
  part-under (Typed VoidTree qualifiers flags) path part is leaf under = absurd is
  part-under (Typed (IntegerTree kind) qualifiers flags) path part is leaf under = absurd is
  part-under (Typed (RestrictedTree kind identity) qualifiers flags) path part is leaf under = absurd is
  part-under (Typed (PointerTree target) qualifiers flags) path part is leaf under = absurd is
  part-under (Typed (FunctionTree result parameters variadic) qualifiers flags) path part is leaf under = absurd is

  -- a scalar in braces is its own part
  own-under : (type_ : TypeTree) (path : List ℕ) (part : Part) → part.type_ ≡ type_ → (leaf : Leaf) → IsUnder part.type_ path leaf → IsUnder type_ path leaf
  own-under type_ path part is leaf under = (under.0, under.1, subst (λ (k : TypeTree). LeadsTo aggregates k under.0 leaf.type_) is under.2)

  own-is : (type_ : TypeTree) (part : Part) → Some (record { number = 0; type_ = type_ }) ≡ Some part → part.type_ ≡ type_
  own-is type_ part is = sym (ap (λ (k : Part). k.type_) (same_Some _ part is))

  next-under : (type_ : TypeTree) (path : List ℕ) (number : ℕ) (part : Part) → part_from aggregates type_ number ≡ Some part → (leaf : Leaf)
      → IsUnder part.type_ (path_to type_ path part) leaf → IsUnder type_ path leaf
  next-under (Typed (ArrayTree element count) qualifiers flags) path number part is leaf under =
      part-under (Typed (ArrayTree element count) qualifiers flags) path part (element-is element number count (is_within number count) part refl is) leaf under
  next-under (Typed (AggregateTree aggregate is_union) qualifiers flags) path number part is leaf under =
      part-under (Typed (AggregateTree aggregate is_union) qualifiers flags) path part (member_from-is number is_union (aggregates.members aggregate) part is) leaf under
  next-under (Typed VoidTree qualifiers flags) path zero part is leaf under = own-under _ path part (own-is _ part is) leaf under
  next-under (Typed (IntegerTree kind) qualifiers flags) path zero part is leaf under = own-under _ path part (own-is _ part is) leaf under
  next-under (Typed (RestrictedTree kind identity) qualifiers flags) path zero part is leaf under = own-under _ path part (own-is _ part is) leaf under
  next-under (Typed (PointerTree target) qualifiers flags) path zero part is leaf under = own-under _ path part (own-is _ part is) leaf under
  next-under (Typed (FunctionTree result parameters variadic) qualifiers flags) path zero part is leaf under = own-under _ path part (own-is _ part is) leaf under
  next-under (Typed VoidTree qualifiers flags) path (suc number) part is leaf under = absurd (cc is)
  next-under (Typed (IntegerTree kind) qualifiers flags) path (suc number) part is leaf under = absurd (cc is)
  next-under (Typed (RestrictedTree kind identity) qualifiers flags) path (suc number) part is leaf under = absurd (cc is)
  next-under (Typed (PointerTree target) qualifiers flags) path (suc number) part is leaf under = absurd (cc is)
  next-under (Typed (FunctionTree result parameters variadic) qualifiers flags) path (suc number) part is leaf under = absurd (cc is)

  -- Designators

  abbrev IsStep : TypeTree → Step → Type 0
  IsStep type_ (ToPart part) = IsPartOf aggregates type_ part
  IsStep type_ (Into part) = IsPartOf aggregates type_ part
  IsStep type_ NoPart = Unit {0}
  IsStep type_ UnknownStep = Unit {0}

  named-step : (number : ℕ) (is_union : Bool) (qualifiers : Qualifiers) (flags : Flags) (place : ℕ) (member : DeclaredMember (List ℕ)) (test : Bool)
      → slice_get (aggregates.members number) place ≡ Some member
      → IsStep (Typed (AggregateTree number is_union) qualifiers flags) (if test then ToPart (member_part place member) else Into (member_part place member))
  named-step number is_union qualifiers flags place member true is = (member, is, refl)
  named-step number is_union qualifiers flags place member false is = (member, is, refl)

  into-step : (number : ℕ) (is_union : Bool) (qualifiers : Qualifiers) (flags : Flags) (place : ℕ) (member : Option (DeclaredMember (List ℕ)))
      → slice_get (aggregates.members number) place ≡ member → IsStep (Typed (AggregateTree number is_union) qualifiers flags) (step_into place member)
  into-step number is_union qualifiers flags place None is = tt
  into-step number is_union qualifiers flags place (Some member) is = named-step number is_union qualifiers flags place member (is_some member.name) is

  member-step : (number : ℕ) (is_union : Bool) (qualifiers : Qualifiers) (flags : Flags) (found : Option FoundMember)
      → IsStep (Typed (AggregateTree number is_union) qualifiers flags) (step_to_member (aggregates.members number) found)
  member-step number is_union qualifiers flags None = tt
  member-step number is_union qualifiers flags (Some found) =
      into-step number is_union qualifiers flags found.place (slice_get (aggregates.members number) found.place) refl

  index_within : (index : ℕ) (count : Option ℕ) → is_index index count ≡ true → is_within index count ≡ true
  index_within index None is = refl
  index_within index (Some count) is = is

  index-step : (element : TypeTree) (count : Option ℕ) (qualifiers : Qualifiers) (flags : Flags) (index : ℕ) (test : Bool) → is_index index count ≡ test
      → IsStep (Typed (ArrayTree element count) qualifiers flags) (if test then ToPart (record { number = index; type_ = element }) else NoPart)
  index-step element count qualifiers flags index true is = (index_within index count is, refl)
  index-step element count qualifiers flags index false is = tt

  number-step : (element : TypeTree) (count : Option ℕ) (qualifiers : Qualifiers) (flags : Flags) (constant : Option ℤ)
      → IsStep (Typed (ArrayTree element count) qualifiers flags) (step_by_number element count constant)
  number-step element count qualifiers flags None = tt
  number-step element count qualifiers flags (Some (negsuc index)) = tt
  number-step element count qualifiers flags (Some (pos index)) = index-step element count qualifiers flags index (is_index index count) refl

  element-step : (element : TypeTree) (count : Option ℕ) (qualifiers : Qualifiers) (flags : Flags) (fact : Fact)
      → IsStep (Typed (ArrayTree element count) qualifiers flags) (step_to_element element count fact)
  element-step element count qualifiers flags (Expression expression) = number-step element count qualifiers flags expression.constant
  element-step element count qualifiers flags Unknown = tt
  element-step element count qualifiers flags (Specified fact) = tt
  element-step element count qualifiers flags (Declared fact) = tt
  element-step element count qualifiers flags (NamedType type_) = tt

  step-is : (type_ : TypeTree) (target : Target) → IsStep type_ (step_of aggregates type_ target)
  step-is (Typed VoidTree qualifiers flags) target = tt
  step-is (Typed (IntegerTree kind) qualifiers flags) target = tt
  step-is (Typed (RestrictedTree kind identity) qualifiers flags) target = tt
  step-is (Typed (PointerTree pointed) qualifiers flags) target = tt
  step-is (Typed (FunctionTree result parameters variadic) qualifiers flags) target = tt
  step-is (Typed (ArrayTree element count) qualifiers flags) (MemberNamed name) = tt
  step-is (Typed (ArrayTree element count) qualifiers flags) (ElementAt fact) = element-step element count qualifiers flags fact
  step-is (Typed (AggregateTree number is_union) qualifiers flags) (ElementAt fact) = tt
  step-is (Typed (AggregateTree number is_union) qualifiers flags) (MemberNamed name) =
      member-step number is_union qualifiers flags (named_member bytes_eq (aggregates.names number) name)

  -- each part lies in the one before it
  abbrev AreNestedIn : TypeTree → List Part → Type 0
  AreNestedIn type_ [] = Unit {0}
  AreNestedIn type_ (part ∷ parts) = IsPartOf aggregates type_ part × AreNestedIn part.type_ parts

  abbrev IsWayIn : TypeTree → Way → Type 0
  IsWayIn type_ (Along parts) = AreNestedIn type_ parts
  IsWayIn type_ (Nowhere refusals) = Unit {0}

  way-through : (type_ : TypeTree) (part : Part) (way : Way) → IsPartOf aggregates type_ part → IsWayIn part.type_ way → IsWayIn type_ (through part way)
  way-through type_ part (Along parts) is within = (is, within)
  way-through type_ part (Nowhere refusals) is within = tt

  way-is : {type_ : TypeTree} {designators : List Designator} {way : Way} → Leads aggregates type_ designators way → IsWayIn type_ way
  way-is ways.there = tt
  way-is {type_ = type_} (to_part {designator = designator} {part = part} {way = way} step leads) =
      way-through type_ part way (subst (IsStep type_) step (step-is type_ designator.target)) (way-is leads)
  way-is {type_ = type_} (into {designator = designator} {part = part} {way = way} step leads) =
      way-through type_ part way (subst (IsStep type_) step (step-is type_ designator.target)) (way-is leads)
  way-is (to_none step) = tt
  way-is (unknown step) = tt

  -- What is filled

  itself : (type_ : TypeTree) (path : List ℕ) (leaf : Leaf) → leaf.path ≡ path → leaf.type_ ≡ type_ → IsUnder type_ path leaf
  itself type_ path leaf is of = ([], is ∙ sym (append-nil path), of)

  string-under : (test : Bool) (plan other : Plan) (type_ : TypeTree) (path : List ℕ) → AreUnder type_ path plan.leaves → AreUnder type_ path other.leaves
      → AreUnder type_ path (if test then plan else other).leaves
  string-under true plan other type_ path one two = one
  string-under false plan other type_ path one two = two

  module _ (is_static : Bool) where
    elements-under : (elements : Option ℕ) (type_ : TypeTree) (path : List ℕ) (is_moved : Bool) (given : Given)
        → AreUnder type_ path (plan_of_elements is_static elements type_ path is_moved given).leaves
    elements-under None type_ path is_moved given = All-cons (IsUnder type_ path) (leaf_of type_ path is_moved given) [] (itself type_ path (leaf_of type_ path is_moved given) refl refl) (All-nil (IsUnder type_ path))
    elements-under (Some elements) type_ path is_moved given =
        string-under (is_longer elements type_) _ _ type_ path (All-nil (IsUnder type_ path))
        (All-cons (IsUnder type_ path) (leaf_of type_ path is_moved given) [] (itself type_ path (leaf_of type_ path is_moved given) refl refl) (All-nil (IsUnder type_ path)))

    value-under : (type_ : TypeTree) (path : List ℕ) (is_moved : Bool) (given : Given) → AreUnder type_ path (value_plan is_static type_ path is_moved given).leaves
    value-under type_ path is_moved given = elements-under (if is_string_for type_ given then given.elements else None) type_ path is_moved given

    joined : (type_ : TypeTree) (path : List ℕ) (first second : List Leaf) → AreUnder type_ path first → AreUnder type_ path second → AreUnder type_ path (first ++ second)
    joined type_ path first second one two = All-append (IsUnder type_ path) first second one two

    mutual
      received : {type_ : TypeTree} {path : List ℕ} {is_moved : Bool} {initializer : Initializer} {plan : Plan}
          → Receives aggregates is_static type_ path is_moved initializer plan → AreUnder type_ path plan.leaves
      received {type_ = type_} {path = path} {is_moved = is_moved} (a_value {given = given}) = value-under type_ path is_moved given
      received {type_ = type_} {path = path} {is_moved = is_moved} (a_string {string = string} is) =
          joined type_ path _ [] (value-under type_ path is_moved string) (All-nil (IsUnder type_ path))
      received {type_ = type_} {path = path} (a_list is parts end) = joined type_ path _ _ (parts_filled parts) (ended end)

      part_filled : {type_ : TypeTree} {path : List ℕ} {items : Items} {filled : Filled} → Fills aggregates is_static type_ path items filled
          → AreUnder type_ path filled.plan.leaves
      part_filled (whole takes plan) = received plan
      part_filled (by_parts takes parts) = parts_filled parts

      parts_filled : {type_ : TypeTree} {path : List ℕ} {number : ℕ} {items : Items} {filled : Filled} → FillsParts aggregates is_static type_ path number items filled
          → AreUnder type_ path filled.plan.leaves
      parts_filled {type_ = type_} {path = path} (stops is) = All-nil (IsUnder type_ path)
      parts_filled {type_ = type_} {path = path} {number = number} (goes_on {part = part} is fills on behind) =
          joined type_ path _ _
          (All-weaker (IsUnder part.type_ (path_to type_ path part)) (IsUnder type_ path) (next-under type_ path number part (found_if _ _ part is)) _ (part_filled fills))
          (parts_filled behind)
      parts_filled {type_ = type_} {path = path} {number = number} (is_over {part = part} is fills on) =
          All-weaker (IsUnder part.type_ (path_to type_ path part)) (IsUnder type_ path) (next-under type_ path number part (found_if _ _ part is)) _ (part_filled fills)

      along_filled : {type_ : TypeTree} {path : List ℕ} {way : List Part} {items : Items} {filled : Filled} → AreNestedIn type_ way
          → FillsAlong aggregates is_static type_ path way items filled → AreUnder type_ path filled.plan.leaves
      along_filled nested (arrived fills) = part_filled fills
      along_filled {type_ = type_} {path = path} nested (deeper {part = part} along behind) =
          joined type_ path _ _
          (All-weaker (IsUnder part.type_ (path_to type_ path part)) (IsUnder type_ path) (part-under type_ path part nested.0) _ (along_filled nested.1 along))
          (parts_filled behind)

      ended : {type_ : TypeTree} {path : List ℕ} {items : Items} {plan : Plan} → Ends aggregates is_static type_ path items plan → AreUnder type_ path plan.leaves
      ended {type_ = type_} {path = path} at_end = All-nil (IsUnder type_ path)
      ended (one_extra end) = ended end
      ended {type_ = type_} {path = path} (designated leads along end) = joined type_ path _ _ (along_filled (way-is leads) along) (ended end)
      ended (nowhere leads end) = ended end

pub leaves_are_parts : LeavesArePartsOfObjects
leaves_are_parts aggregates is_static object initializer outcome is =
    subst (λ (o : Outcome). All (λ (leaf : Leaf). LeadsTo aggregates object leaf.path leaf.type_) o.leaves) (sym is.2)
    (All-weaker (IsUnder aggregates object []) (λ (leaf : Leaf). LeadsTo aggregates object leaf.path leaf.type_)
    (λ leaf under. subst (λ (path : List ℕ). LeadsTo aggregates object path leaf.type_) (sym under.1) under.2) _ (received aggregates is_static is.1))
