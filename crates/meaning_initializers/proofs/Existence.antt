-- An object is initialized in some way: behind each step fewer items are left, or what is to be filled is less high.
use Rattle.std.proofs.Common.{◌≡◌, ◌⊎◌, ◌<◌, ◌≤◌, ℕ, zero, suc, ◌+◌, ℤ, pos, negsuc, Bool, true, false, not, ◌||◌, is_some, List, [], ◌∷◌, ◌++◌, Option, Some, None, length, drop, All, slice_get, refl, sym, ap, subst, inl, inr, ⊎_elim, arith, if◌then◌else◌}
use Rattle.std.specs.Str.{bytes_eq}
use Rattle.std.proofs.lemmas.Bool.{false≢true}
use Rattle.std.proofs.lemmas.List.{length-drop}
use Rattle.std.proofs.lemmas.List.Elements.{All-drop, All-get_or, All-head, All-tail}
use Rattle.std.proofs.lemmas.Option.{same_Some, slice_get_within, get_or_from_slice_get}
use Rattle.meaning_types.specs.Types.{TypeTree, Typed, VoidTree, IntegerTree, RestrictedTree, PointerTree, ArrayTree, FunctionTree, AggregateTree, Qualifiers, Flags}
use Rattle.meaning_layout.specs.Members.{DeclaredMember, FoundMember, named_member}
use Rattle.meaning_typing.specs.Facts.{Fact, Unknown, Expression, Specified, Declared, NamedType}
use Rattle.meaning_initializers.specs.Items.{Given, Target, MemberNamed, ElementAt, Designator, Initializer, Value, Braces, Items, NoItems, Item, begins_undesignated, from_designator, moved_with}
use Rattle.meaning_initializers.specs.Parts.{Aggregates, Part, bounded, member_part, is_passed_over, first_member, is_within, member_from, part_from, path_to, has_parts, takes_whole, string_before, is_string_for, is_value_of, is_array}
use Rattle.meaning_initializers.specs.Designators as ways
use Rattle.meaning_initializers.specs.Designators.{Step, ToPart, Into, NoPart, Unknown as UnknownStep, Way, Along, Nowhere, through, step_into, step_to_member, step_by_number, step_to_element, step_of, is_index, Leads, to_part, into, to_none, unknown}
use Rattle.meaning_initializers.specs.Plans.{Plan, Filled, no_part, string_alone, takes, takes_none, with_parts_behind}
use Rattle.meaning_initializers.specs.Filling.{part_for, fills_on, Receives, a_value, a_string, a_list, Fills, whole, by_parts, FillsParts, stops, goes_on, is_over, FillsAlong, arrived, deeper, Ends, at_end, one_extra, designated, nowhere, outcome_of}
use Rattle.meaning_initializers.specs.laws.Filling.{height_of, AreNested, OutcomesExist}

-- How many initializers and designators there are

abbrev mutual
  size_of : Initializer → ℕ
  size_of (Value given) = 1
  size_of (Braces handle token items) = 1 + sizes_of items

  sizes_of : Items → ℕ
  sizes_of NoItems = 0
  sizes_of (Item designators is_moved initializer items) = 1 + (length designators + (size_of initializer + sizes_of items))

moved_with-size : (is_moved : Bool) (items : Items) → sizes_of (moved_with is_moved items) ≡ sizes_of items
moved_with-size false items = refl
moved_with-size true NoItems = refl
moved_with-size true (Item designators is_moved initializer items) = refl

from_designator-size : (items : Items) → sizes_of (from_designator items) ≤ sizes_of items
from_designator-size NoItems = omega arith
from_designator-size (Item [] is_moved initializer items) = let fewer = from_designator-size items in omega (arith, fewer)
from_designator-size (Item (designator ∷ designators) is_moved initializer items) = omega arith

-- Items that a part leaves

abbrev Leaves : Items → Filled → Type 0
Leaves items filled = (sizes_of filled.left ≤ sizes_of items) × (filled.is_filled ≡ true → sizes_of filled.left < sizes_of items)

either : (a b : Bool) → (a || b) ≡ true → (a ≡ true) ⊎ (b ≡ true)
either true b is = inl refl
either false b is = inr is

leaves_behind : (items : Items) (number : ℕ) (filled behind : Filled) → Leaves items filled → Leaves filled.left behind → Leaves items (with_parts_behind number filled behind)
leaves_behind items number filled behind first second =
    (omega (arith, first.0, second.0), λ is. ⊎_elim (λ (one : filled.is_filled ≡ true). let fewer = first.1 one in omega (arith, fewer, second.0)) (λ (other : behind.is_filled ≡ true). let fewer = second.1 other in omega (arith, first.0, fewer)) (either filled.is_filled behind.is_filled is))

-- Parts

found_if : (test : Bool) (found : Option Part) (part : Part) → (if test then found else None) ≡ Some part → (test ≡ true) × (found ≡ Some part)
found_if true found part is = (refl, is)
found_if false found part is = absurd (cc is)

bounded-height : (heights : ℕ → ℕ) (type_ : TypeTree) → height_of heights (bounded type_) ≡ height_of heights type_
bounded-height heights (Typed VoidTree qualifiers flags) = refl
bounded-height heights (Typed (IntegerTree kind) qualifiers flags) = refl
bounded-height heights (Typed (RestrictedTree kind identity) qualifiers flags) = refl
bounded-height heights (Typed (PointerTree target) qualifiers flags) = refl
bounded-height heights (Typed (ArrayTree element None) qualifiers flags) = refl
bounded-height heights (Typed (ArrayTree element (Some count)) qualifiers flags) = refl
bounded-height heights (Typed (FunctionTree result parameters variadic) qualifiers flags) = refl
bounded-height heights (Typed (AggregateTree number is_union) qualifiers flags) = refl

abbrev IsLow : (ℕ → ℕ) → ℕ → DeclaredMember (List ℕ) → Type 0
IsLow heights most member = height_of heights member.of ≤ most

-- a member that is found among those from this number on
abbrev IsFound : (ℕ → ℕ) → (most first count : ℕ) → Part → Type 0
IsFound heights most first count part = (first ≤ part.number) × (part.number < first + count) × (height_of heights part.type_ ≤ most)

first_member-if : (heights : ℕ → ℕ) (most number : ℕ) (member : DeclaredMember (List ℕ)) (members : List (DeclaredMember (List ℕ))) (part : Part)
    → height_of heights member.of ≤ most → (first_member (suc number) members ≡ Some part → IsFound heights most (suc number) (length members) part) → (test : Bool)
    → (if test then first_member (suc number) members else Some (member_part number member)) ≡ Some part
    → IsFound heights most number (length (member ∷ members)) part
first_member-if heights most number member members part low behind true is =
    let found = behind is in (omega (arith, found.0), omega (arith, found.1), found.2)
first_member-if heights most number member members part low behind false is =
    let one : member_part number member ≡ part = same_Some _ part is in
    let place : number ≡ part.number = ap (λ (k : Part). k.number) one in
    let height : height_of heights (bounded member.of) ≡ height_of heights part.type_ = ap (λ (k : Part). height_of heights k.type_) one in
    let same = bounded-height heights member.of in
    (omega (arith, place), omega (arith, place), omega (arith, height, same, low))

first_member-found : (heights : ℕ → ℕ) (most number : ℕ) (members : List (DeclaredMember (List ℕ))) (part : Part) → All (IsLow heights most) members
    → first_member number members ≡ Some part → IsFound heights most number (length members) part
first_member-found heights most number [] part low is = absurd (cc is)
first_member-found heights most number (member ∷ members) part low is =
    first_member-if heights most number member members part (All-head (IsLow heights most) member members low)
    (first_member-found heights most (suc number) members part (All-tail (IsLow heights most) member members low)) (is_passed_over member) is

member_from-found : (heights : ℕ → ℕ) (most number : ℕ) (is_union : Bool) (members : List (DeclaredMember (List ℕ))) (part : Part) → All (IsLow heights most) members
    → member_from members is_union number ≡ Some part → (number ≤ part.number) × (part.number < length members) × (height_of heights part.type_ ≤ most)
member_from-found heights most number false members part low is =
    let found = first_member-found heights most number (drop number members) part (All-drop (IsLow heights most) number members low) is in
    let count = length-drop number members in
    (found.0, omega (arith, found.0, found.1, count), found.2)
member_from-found heights most zero true members part low is =
    let found = first_member-found heights most 0 members part low is in (found.0, omega (arith, found.1), found.2)
member_from-found heights most (suc number) true members part low is = absurd (cc is)

element-is : (element : TypeTree) (number : ℕ) (test : Bool) (part : Part)
    → (if test then Some (record { number = number; type_ = element }) else None) ≡ Some part → element ≡ part.type_
element-is element number true part is = ap (λ (k : Part). k.type_) (same_Some _ part is)
element-is element number false part is = absurd (cc is)

scalar_part : (aggregates : Aggregates) (type_ : TypeTree) (number : ℕ) (part : Part) → has_parts type_ ≡ false → part_from aggregates type_ number ≡ Some part
    → has_parts part.type_ ≡ false
scalar_part aggregates (Typed (ArrayTree element count) qualifiers flags) number part none is = absurd (cc none)
scalar_part aggregates (Typed (AggregateTree aggregate is_union) qualifiers flags) number part none is = absurd (cc none)
scalar_part aggregates (Typed VoidTree qualifiers flags) zero part none is = ap (λ (k : Part). has_parts k.type_) (sym (same_Some _ part is))
scalar_part aggregates (Typed (IntegerTree kind) qualifiers flags) zero part none is = ap (λ (k : Part). has_parts k.type_) (sym (same_Some _ part is))
scalar_part aggregates (Typed (RestrictedTree kind identity) qualifiers flags) zero part none is = ap (λ (k : Part). has_parts k.type_) (sym (same_Some _ part is))
scalar_part aggregates (Typed (PointerTree target) qualifiers flags) zero part none is = ap (λ (k : Part). has_parts k.type_) (sym (same_Some _ part is))
scalar_part aggregates (Typed (FunctionTree result parameters variadic) qualifiers flags) zero part none is =
    ap (λ (k : Part). has_parts k.type_) (sym (same_Some _ part is))
scalar_part aggregates (Typed VoidTree qualifiers flags) (suc number) part none is = absurd (cc is)
scalar_part aggregates (Typed (IntegerTree kind) qualifiers flags) (suc number) part none is = absurd (cc is)
scalar_part aggregates (Typed (RestrictedTree kind identity) qualifiers flags) (suc number) part none is = absurd (cc is)
scalar_part aggregates (Typed (PointerTree target) qualifiers flags) (suc number) part none is = absurd (cc is)
scalar_part aggregates (Typed (FunctionTree result parameters variadic) qualifiers flags) (suc number) part none is = absurd (cc is)

scalar_takes : (type_ : TypeTree) (initializer : Initializer) → has_parts type_ ≡ false → takes_whole type_ initializer ≡ true
scalar_takes type_ (Braces handle token items) none = refl
scalar_takes type_ (Value given) none = ap (λ (b : Bool). not b || (is_string_for type_ given || is_value_of type_ given.fact)) none

-- Designators

module _ (aggregates : Aggregates) (heights : ℕ → ℕ) (nested : AreNested aggregates heights) where
  -- what a step leads to is less high
  abbrev IsLower : TypeTree → Step → Type 0
  IsLower type_ (ToPart part) = height_of heights part.type_ < height_of heights type_
  IsLower type_ (Into part) = height_of heights part.type_ < height_of heights type_
  IsLower type_ NoPart = Unit {0}
  IsLower type_ UnknownStep = Unit {0}

  named-lower : (number : ℕ) (is_union : Bool) (qualifiers : Qualifiers) (flags : Flags) (place : ℕ) (member : DeclaredMember (List ℕ)) (test : Bool)
      → height_of heights member.of ≤ heights number
      → IsLower (Typed (AggregateTree number is_union) qualifiers flags) (if test then ToPart (member_part place member) else Into (member_part place member))
  named-lower number is_union qualifiers flags place member true low = let same = bounded-height heights member.of in omega (arith, low, same)
  named-lower number is_union qualifiers flags place member false low = let same = bounded-height heights member.of in omega (arith, low, same)

  into-lower : (number : ℕ) (is_union : Bool) (qualifiers : Qualifiers) (flags : Flags) (place : ℕ) (member : Option (DeclaredMember (List ℕ)))
      → slice_get (aggregates.members number) place ≡ member → IsLower (Typed (AggregateTree number is_union) qualifiers flags) (step_into place member)
  into-lower number is_union qualifiers flags place None is = tt
  into-lower number is_union qualifiers flags place (Some member) is =
      let within = slice_get_within (aggregates.members number) place member is in
      let low = All-get_or (IsLow heights (heights number)) (aggregates.members number) place member within (nested number) in
      named-lower number is_union qualifiers flags place member (is_some member.name)
      (subst (λ (m : DeclaredMember (List ℕ)). height_of heights m.of ≤ heights number) (get_or_from_slice_get (aggregates.members number) place member member is) low)

  member-lower : (number : ℕ) (is_union : Bool) (qualifiers : Qualifiers) (flags : Flags) (found : Option FoundMember)
      → IsLower (Typed (AggregateTree number is_union) qualifiers flags) (step_to_member (aggregates.members number) found)
  member-lower number is_union qualifiers flags None = tt
  member-lower number is_union qualifiers flags (Some found) =
      into-lower number is_union qualifiers flags found.place (slice_get (aggregates.members number) found.place) refl

  index-lower : (element : TypeTree) (count : Option ℕ) (qualifiers : Qualifiers) (flags : Flags) (index : ℕ) (test : Bool)
      → IsLower (Typed (ArrayTree element count) qualifiers flags) (if test then ToPart (record { number = index; type_ = element }) else NoPart)
  index-lower element count qualifiers flags index true = omega arith
  index-lower element count qualifiers flags index false = tt

  number-lower : (element : TypeTree) (count : Option ℕ) (qualifiers : Qualifiers) (flags : Flags) (constant : Option ℤ)
      → IsLower (Typed (ArrayTree element count) qualifiers flags) (step_by_number element count constant)
  number-lower element count qualifiers flags None = tt
  number-lower element count qualifiers flags (Some (negsuc index)) = tt
  number-lower element count qualifiers flags (Some (pos index)) = index-lower element count qualifiers flags index (is_index index count)

  element-lower : (element : TypeTree) (count : Option ℕ) (qualifiers : Qualifiers) (flags : Flags) (fact : Fact)
      → IsLower (Typed (ArrayTree element count) qualifiers flags) (step_to_element element count fact)
  element-lower element count qualifiers flags (Expression expression) = number-lower element count qualifiers flags expression.constant
  element-lower element count qualifiers flags Unknown = tt
  element-lower element count qualifiers flags (Specified fact) = tt
  element-lower element count qualifiers flags (Declared fact) = tt
  element-lower element count qualifiers flags (NamedType type_) = tt

  step-lower : (type_ : TypeTree) (target : Target) → IsLower type_ (step_of aggregates type_ target)
  step-lower (Typed VoidTree qualifiers flags) target = tt
  step-lower (Typed (IntegerTree kind) qualifiers flags) target = tt
  step-lower (Typed (RestrictedTree kind identity) qualifiers flags) target = tt
  step-lower (Typed (PointerTree pointed) qualifiers flags) target = tt
  step-lower (Typed (FunctionTree result parameters variadic) qualifiers flags) target = tt
  step-lower (Typed (ArrayTree element count) qualifiers flags) (MemberNamed name) = tt
  step-lower (Typed (ArrayTree element count) qualifiers flags) (ElementAt fact) = element-lower element count qualifiers flags fact
  step-lower (Typed (AggregateTree number is_union) qualifiers flags) (ElementAt fact) = tt
  step-lower (Typed (AggregateTree number is_union) qualifiers flags) (MemberNamed name) =
      member-lower number is_union qualifiers flags (named_member bytes_eq (aggregates.names number) name)

  abbrev HasWay : TypeTree → List Designator → Type 0
  HasWay type_ designators = (way : Way) × Leads aggregates type_ designators way

  way_by_step : (height : ℕ) (below : (type_ : TypeTree) (designators : List Designator) → height_of heights type_ < height → HasWay type_ designators)
      (type_ : TypeTree) (designator : Designator) (designators : List Designator) → height_of heights type_ < suc height → (step : Step)
      → step_of aggregates type_ designator.target ≡ step → IsLower type_ step → HasWay type_ (designator ∷ designators)
  way_by_step height below type_ designator designators low (ToPart part) is lower =
      let way = below part.type_ designators (omega (arith, low, lower)) in (through part way.0, to_part is way.1)
  way_by_step height below type_ designator designators low (Into part) is lower =
      let way = below part.type_ (designator ∷ designators) (omega (arith, low, lower)) in (through part way.0, into is way.1)
  way_by_step height below type_ designator designators low NoPart is lower = (Nowhere (no_part designator), to_none is)
  way_by_step height below type_ designator designators low UnknownStep is lower = (Nowhere [], unknown is)

  way_below : (height : ℕ) (type_ : TypeTree) (designators : List Designator) → height_of heights type_ < height → HasWay type_ designators
  way_below zero type_ designators low = absurd (omega (arith, low))
  way_below (suc height) type_ [] low = (Along [], ways.there)
  way_below (suc height) type_ (designator ∷ designators) low =
      way_by_step height (way_below height) type_ designator designators low (step_of aggregates type_ designator.target) refl (step-lower type_ designator.target)

  -- What is filled

  module _ (is_static : Bool) where
    abbrev HasReceived : TypeTree → List ℕ → Bool → Initializer → Type 0
    HasReceived type_ path is_moved initializer = (plan : Plan) × Receives aggregates is_static type_ path is_moved initializer plan

    abbrev HasFilled : TypeTree → List ℕ → Items → Type 0
    HasFilled type_ path items = (filled : Filled) × Leaves items filled × Fills aggregates is_static type_ path items filled

    abbrev HasParts : TypeTree → List ℕ → ℕ → Items → Type 0
    HasParts type_ path number items = (filled : Filled) × Leaves items filled × FillsParts aggregates is_static type_ path number items filled

    abbrev HasAlong : TypeTree → List ℕ → List Part → Items → Type 0
    HasAlong type_ path way items = (filled : Filled) × Leaves items filled × FillsAlong aggregates is_static type_ path way items filled

    abbrev HasEnd : TypeTree → List ℕ → Items → Type 0
    HasEnd type_ path items = (plan : Plan) × Ends aggregates is_static type_ path items plan

    -- for all that is no larger
    record UpTo (most : ℕ) : Type 0 where
      pub receive : (type_ : TypeTree) (path : List ℕ) (is_moved : Bool) (initializer : Initializer) → size_of initializer ≤ most → HasReceived type_ path is_moved initializer
      pub fill : (type_ : TypeTree) (path : List ℕ) (items : Items) → sizes_of items ≤ most → begins_undesignated items ≡ true → HasFilled type_ path items
      pub parts : (type_ : TypeTree) (path : List ℕ) (number : ℕ) (items : Items) → sizes_of items ≤ most → HasParts type_ path number items
      pub end : (type_ : TypeTree) (path : List ℕ) (items : Items) → sizes_of items ≤ most → HasEnd type_ path items

    none_left : (type_ : TypeTree) (path : List ℕ) (number : ℕ) (items : Items) → part_for aggregates type_ number items ≡ None → HasParts type_ path number items
    none_left type_ path number items is = (takes_none items, (omega arith, λ no. absurd (false≢true no)), stops is)

    -- one step more
    module _ (most : ℕ) (smaller : UpTo most) where
      braces_received : (type_ : TypeTree) (path : List ℕ) (is_moved : Bool) (handle token : ℕ) (items : Items) → sizes_of items ≤ most → (string : Option (Given × Items))
          → string_before type_ items ≡ string → HasReceived type_ path is_moved (Braces handle token items)
      braces_received type_ path is_moved handle token items few (Some string) is =
          (string_alone is_static type_ path is_moved string.0 string.1, a_string is)
      braces_received type_ path is_moved handle token items few None is =
          let same = moved_with-size is_moved items in
          let parts = smaller.parts type_ path 0 (moved_with is_moved items) (omega (arith, few, same)) in
          let end = smaller.end type_ path parts.0.left (omega (arith, few, same, parts.1.0)) in
          (_, a_list is parts.2 end.1)

      received : (type_ : TypeTree) (path : List ℕ) (is_moved : Bool) (initializer : Initializer) → size_of initializer ≤ suc most → HasReceived type_ path is_moved initializer
      received type_ path is_moved (Value given) few = (_, a_value)
      received type_ path is_moved (Braces handle token items) few =
          braces_received type_ path is_moved handle token items (omega (arith, few)) (string_before type_ items) refl

      along : (type_ : TypeTree) (path : List ℕ) (way : List Part) (items : Items) → sizes_of items ≤ most → begins_undesignated items ≡ true → HasAlong type_ path way items
      along type_ path [] items few begins = let filled = smaller.fill type_ path items few begins in (filled.0, filled.1, arrived filled.2)
      along type_ path (part ∷ way) items few begins =
          let filled = along part.type_ (path_to type_ path part) way items few begins in
          let behind = smaller.parts type_ path (suc part.number) filled.0.left (omega (arith, few, filled.1.0)) in
          (with_parts_behind part.number filled.0 behind.0, leaves_behind items part.number filled.0 behind.0 filled.1 behind.1, deeper filled.2 behind.2)

      ended_by : (type_ : TypeTree) (path : List ℕ) (designator : Designator) (designators : List Designator) (is_moved : Bool) (initializer : Initializer) (items : Items)
          → sizes_of (Item (designator ∷ designators) is_moved initializer items) ≤ suc most → (way : Way) → Leads aggregates type_ (designator ∷ designators) way
          → HasEnd type_ path (Item (designator ∷ designators) is_moved initializer items)
      ended_by type_ path designator designators is_moved initializer items few (Along way) leads =
          let filled = along type_ path way (Item [] true initializer items) (omega (arith, few)) refl in
          let end = smaller.end type_ path filled.0.left (omega (arith, few, filled.1.0)) in
          (_, designated leads filled.2 end.1)
      ended_by type_ path designator designators is_moved initializer items few (Nowhere refusals) leads =
          let fewer = from_designator-size items in
          let end = smaller.end type_ path (from_designator items) (omega (arith, few, fewer)) in
          (_, nowhere leads end.1)

      ended : (type_ : TypeTree) (path : List ℕ) (items : Items) → sizes_of items ≤ suc most → HasEnd type_ path items
      ended type_ path NoItems few = (_, at_end)
      ended type_ path (Item [] is_moved initializer items) few = let end = smaller.end type_ path items (omega (arith, few)) in (_, one_extra end.1)
      ended type_ path (Item (designator ∷ designators) is_moved initializer items) few =
          let way = way_below (suc (height_of heights type_)) type_ (designator ∷ designators) (omega arith) in
          ended_by type_ path designator designators is_moved initializer items few way.0 way.1

      -- a scalar takes the next initializer
      scalar_filled : (type_ : TypeTree) (path : List ℕ) (items : Items) → sizes_of items ≤ suc most → begins_undesignated items ≡ true → has_parts type_ ≡ false
          → (filled : HasFilled type_ path items) × (filled.0.is_filled ≡ true)
      scalar_filled type_ path NoItems few begins none = absurd (false≢true begins)
      scalar_filled type_ path (Item (designator ∷ designators) is_moved initializer items) few begins none = absurd (false≢true begins)
      scalar_filled type_ path (Item [] is_moved initializer items) few begins none =
          let plan = smaller.receive type_ path is_moved initializer (omega (arith, few)) in
          ((takes plan.0 items, (omega arith, λ is. omega arith), whole (scalar_takes type_ initializer none) plan.1), refl)

      -- behind a part that was found
      module _ (type_ : TypeTree) (path : List ℕ) (number : ℕ) (items : Items) (few : sizes_of items ≤ suc most) (part : Part)
          (found : part_for aggregates type_ number items ≡ Some part) (filled : HasFilled part.type_ (path_to type_ path part) items) where
        filled_goes_on : fills_on type_ filled.0 ≡ true → HasParts type_ path (suc part.number) filled.0.left → HasParts type_ path number items
        filled_goes_on on behind =
            (with_parts_behind part.number filled.0 behind.0, leaves_behind items part.number filled.0 behind.0 filled.1 behind.1, goes_on found filled.2 on behind.2)

        part_filled : (is : Bool) → filled.0.is_filled ≡ is → (filled.0.is_filled ≡ false → HasParts type_ path number items) → HasParts type_ path number items
        part_filled true is otherwise =
            let fewer = filled.1.1 is in
            filled_goes_on (ap (λ (b : Bool). b || not (is_array type_)) is) (smaller.parts type_ path (suc part.number) filled.0.left (omega (arith, few, fewer)))
        part_filled false is otherwise = otherwise is

      -- where parts are less high than this
      module _ (height : ℕ) (lower : (type_ : TypeTree) (path : List ℕ) (items : Items) → height_of heights type_ < height → sizes_of items ≤ suc most
          → begins_undesignated items ≡ true → HasFilled type_ path items) where
        array_parts : (element : TypeTree) (count : Option ℕ) (qualifiers : Qualifiers) (flags : Flags) (path : List ℕ) (number : ℕ) (items : Items)
            → height_of heights element < height → sizes_of items ≤ suc most → (next : Option Part)
            → part_for aggregates (Typed (ArrayTree element count) qualifiers flags) number items ≡ next
            → HasParts (Typed (ArrayTree element count) qualifiers flags) path number items
        array_parts element count qualifiers flags path number items low few None is = none_left _ path number items is
        array_parts element count qualifiers flags path number items low few (Some part) is =
            let found = found_if (begins_undesignated items) _ part is in
            let same : element ≡ part.type_ = element-is element number (is_within number count) part found.1 in
            let filled = lower part.type_ (path ++ part.number ∷ []) items (omega (arith, low, ap (height_of heights) same)) few found.0 in
            part_filled (Typed (ArrayTree element count) qualifiers flags) path number items few part is filled filled.0.is_filled refl
            (λ no. (filled.0, filled.1, is_over is filled.2 (ap (λ (b : Bool). b || false) no)))

        aggregate_parts : (left : ℕ) (aggregate : ℕ) (is_union : Bool) (qualifiers : Qualifiers) (flags : Flags) (path : List ℕ) (number : ℕ) (items : Items)
            → heights aggregate < height → sizes_of items ≤ suc most → length (aggregates.members aggregate) ≤ number + left → (next : Option Part)
            → part_for aggregates (Typed (AggregateTree aggregate is_union) qualifiers flags) number items ≡ next
            → HasParts (Typed (AggregateTree aggregate is_union) qualifiers flags) path number items
        aggregate_parts left aggregate is_union qualifiers flags path number items low few enough None is = none_left _ path number items is
        aggregate_parts zero aggregate is_union qualifiers flags path number items low few enough (Some part) is =
            let found = found_if (begins_undesignated items) _ part is in
            let member = member_from-found heights (heights aggregate) number is_union (aggregates.members aggregate) part (nested aggregate) found.1 in
            absurd (omega (arith, enough, member.0, member.1))
        aggregate_parts (suc left) aggregate is_union qualifiers flags path number items low few enough (Some part) is =
            let found = found_if (begins_undesignated items) _ part is in
            let member = member_from-found heights (heights aggregate) number is_union (aggregates.members aggregate) part (nested aggregate) found.1 in
            let filled = lower part.type_ (path ++ part.number ∷ []) items (omega (arith, low, member.2)) few found.0 in
            part_filled (Typed (AggregateTree aggregate is_union) qualifiers flags) path number items few part is filled filled.0.is_filled refl
            (λ no. filled_goes_on (Typed (AggregateTree aggregate is_union) qualifiers flags) path number items few part is filled (ap (λ (b : Bool). b || true) no)
            (aggregate_parts left aggregate is_union qualifiers flags path (suc part.number) filled.0.left low (omega (arith, few, filled.1.0)) (omega (arith, enough, member.0)) _ refl))

        scalar_parts : (type_ : TypeTree) (path : List ℕ) (number : ℕ) (items : Items) → has_parts type_ ≡ false → sizes_of items ≤ suc most → (next : Option Part)
            → part_for aggregates type_ number items ≡ next → HasParts type_ path number items
        scalar_parts type_ path number items none few None is = none_left type_ path number items is
        scalar_parts type_ path number items none few (Some part) is =
            let found = found_if (begins_undesignated items) _ part is in
            let scalar = scalar_part aggregates type_ number part none found.1 in
            let filled = scalar_filled part.type_ (path_to type_ path part) items few found.0 scalar in
            filled_goes_on type_ path number items few part is filled.0 (ap (λ (b : Bool). b || not (is_array type_)) filled.1)
            (smaller.parts type_ path (suc part.number) filled.0.0.left (let fewer = filled.0.1.1 filled.1 in omega (arith, few, fewer)))

        parts_of_type : (type_ : TypeTree) (path : List ℕ) (number : ℕ) (items : Items) → height_of heights type_ ≤ height → sizes_of items ≤ suc most
            → HasParts type_ path number items
        parts_of_type (Typed (ArrayTree element count) qualifiers flags) path number items low few =
            array_parts element count qualifiers flags path number items (omega (arith, low)) few _ refl
        parts_of_type (Typed (AggregateTree aggregate is_union) qualifiers flags) path number items low few =
            aggregate_parts (length (aggregates.members aggregate)) aggregate is_union qualifiers flags path number items (omega (arith, low)) few (omega arith) _ refl
        parts_of_type (Typed VoidTree qualifiers flags) path number items low few = scalar_parts _ path number items refl few _ refl
        parts_of_type (Typed (IntegerTree kind) qualifiers flags) path number items low few = scalar_parts _ path number items refl few _ refl
        parts_of_type (Typed (RestrictedTree kind identity) qualifiers flags) path number items low few = scalar_parts _ path number items refl few _ refl
        parts_of_type (Typed (PointerTree target) qualifiers flags) path number items low few = scalar_parts _ path number items refl few _ refl
        parts_of_type (Typed (FunctionTree result parameters variadic) qualifiers flags) path number items low few = scalar_parts _ path number items refl few _ refl

        filled_if : (type_ : TypeTree) (path : List ℕ) (is_moved : Bool) (initializer : Initializer) (items : Items) → height_of heights type_ ≤ height
            → sizes_of (Item [] is_moved initializer items) ≤ suc most → (test : Bool) → takes_whole type_ initializer ≡ test
            → HasFilled type_ path (Item [] is_moved initializer items)
        filled_if type_ path is_moved initializer items low few true is =
            let plan = smaller.receive type_ path is_moved initializer (omega (arith, few)) in
            (takes plan.0 items, (omega arith, λ one. omega arith), whole is plan.1)
        filled_if type_ path is_moved initializer items low few false is =
            let parts = parts_of_type type_ path 0 (Item [] is_moved initializer items) low few in (parts.0, parts.1, by_parts is parts.2)

        filled_here : (type_ : TypeTree) (path : List ℕ) (items : Items) → height_of heights type_ ≤ height → sizes_of items ≤ suc most
            → begins_undesignated items ≡ true → HasFilled type_ path items
        filled_here type_ path NoItems low few begins = absurd (false≢true begins)
        filled_here type_ path (Item (designator ∷ designators) is_moved initializer items) low few begins = absurd (false≢true begins)
        filled_here type_ path (Item [] is_moved initializer items) low few begins =
            filled_if type_ path is_moved initializer items low few (takes_whole type_ initializer) refl

      filled_below : (height : ℕ) (type_ : TypeTree) (path : List ℕ) (items : Items) → height_of heights type_ < height → sizes_of items ≤ suc most
          → begins_undesignated items ≡ true → HasFilled type_ path items
      filled_below zero type_ path items low few begins = absurd (omega (arith, low))
      filled_below (suc height) type_ path items low few begins = filled_here height (filled_below height) type_ path items (omega (arith, low)) few begins

      one_more : UpTo (suc most)
      one_more = record {
        receive = received;
        fill = λ type_ path items few begins. filled_below (suc (height_of heights type_)) type_ path items (omega arith) few begins;
        parts = λ type_ path number items few. parts_of_type (height_of heights type_) (filled_below (height_of heights type_)) type_ path number items (omega arith) few;
        end = ended;
      }

    -- without items
    no_initializer : (initializer : Initializer) → size_of initializer ≤ 0 → ⊥
    no_initializer (Value given) few = omega (arith, few)
    no_initializer (Braces handle token items) few = omega (arith, few)

    no_items_filled : (type_ : TypeTree) (path : List ℕ) (items : Items) → sizes_of items ≤ 0 → begins_undesignated items ≡ true → HasFilled type_ path items
    no_items_filled type_ path NoItems few begins = absurd (false≢true begins)
    no_items_filled type_ path (Item designators is_moved initializer items) few begins = absurd (omega (arith, few))

    no_parts_filled : (type_ : TypeTree) (path : List ℕ) (number : ℕ) (items : Items) → sizes_of items ≤ 0 → HasParts type_ path number items
    no_parts_filled type_ path number NoItems few = none_left type_ path number NoItems refl
    no_parts_filled type_ path number (Item designators is_moved initializer items) few = absurd (omega (arith, few))

    no_items_ended : (type_ : TypeTree) (path : List ℕ) (items : Items) → sizes_of items ≤ 0 → HasEnd type_ path items
    no_items_ended type_ path NoItems few = (_, at_end)
    no_items_ended type_ path (Item designators is_moved initializer items) few = absurd (omega (arith, few))

    up_to : (most : ℕ) → UpTo most
    up_to zero = record {
      receive = λ type_ path is_moved initializer few. absurd (no_initializer initializer few);
      fill = no_items_filled;
      parts = no_parts_filled;
      end = no_items_ended;
    }
    up_to (suc most) = one_more most (up_to most)

pub outcomes_exist : OutcomesExist
outcomes_exist aggregates heights nested is_static object initializer =
    let plan = (up_to aggregates heights nested is_static (size_of initializer)).receive object [] false initializer (omega arith) in
    (outcome_of object plan.0, (plan.0, plan.1, refl))
