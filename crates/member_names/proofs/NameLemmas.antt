-- Names that were kept of the nodes so far tell which member is declared twice.
use Rattle.std.proofs.Common.{◌≡◌, ℕ, zero, suc, ◌<◌, inl, inr, nat_eq, nat_lt, Bool, true, false, ◌&&◌, ◌||◌, not, bytes_eq, List, [], ◌∷◌, length, if◌then◌else◌, refl, sym, ap, ◌∙◌, arith}
use Rattle.std.specs.List.{list_any}
use Rattle.std.proofs.lemmas.Bool.{true≢false, and_parts}
use Rattle.std.proofs.lemmas.Bool.Decides.{eqb_tells, nat_tests}
use Rattle.sparse_model.specs.declared.ids.NameId.{NameId}
use Rattle.meaning_typing.specs.Units.{UnitNodes, node_at, kind_at}
use Rattle.meaning_typing.specs.Surroundings.{Surrounding, surrounding_at}
use Rattle.meaning_typing.specs.MemberDeclarations.{is_empty}
use Rattle.meaning_typing.specs.MemberRows.{is_declarator_kind, is_member_declarator, names_same_member}
use Rattle.meaning_typing.specs.Tags.{is_any_below}
use Rattle.node_facts.specs.Facts.{name_seen}
use Rattle.member_names.specs.Homes.{ParentsStandBehind, outermost_of}
use Rattle.member_names.specs.Kept.{AreSeen, AreTwice, AreTwiceBelow, is_declared_twice, is_key_among, is_member_so, is_named_member, same_key}
use Rattle.member_names.proofs.HomeLemmas.{homes_meet_at_their_ends, there_or_none}

-- Tests

or_false : (test : Bool) → test || false ≡ test
or_false true = refl
or_false false = refl

and_turned : (first second : Bool) → first && second ≡ second && first
and_turned true true = refl
and_turned true false = refl
and_turned false true = refl
and_turned false false = refl

pub not_turned : (test other : Bool) → other ≡ not test → test ≡ not other
not_turned true other is = ap not (sym is)
not_turned false other is = ap not (sym is)

any_same : (test other : ℕ → Bool) (count : ℕ) → ((handle : ℕ) → test handle ≡ other handle) → is_any_below test count ≡ is_any_below other count
any_same test other zero same = refl
any_same test other (suc count) same = λ i. any_same test other count same i || same count i

-- Names are seen alike where they have one number

same_by : (number other : ℕ) (first second : Bool) → nat_eq number 0 ≡ first → nat_eq other 0 ≡ second
    → bytes_eq (if first then [] else number ∷ []) (if second then [] else other ∷ []) ≡ nat_eq number other
same_by number other true true e f = grind (arith, nat_tests)
same_by number other true false e f = grind (arith, nat_tests)
same_by number other false true e f = grind (arith, nat_tests)
same_by number other false false e f = and_turned (nat_eq number other) true

name_same : (name other : NameId) → bytes_eq (name_seen name) (name_seen other) ≡ nat_eq name.0 other.0
name_same name other = same_by name.0 other.0 (nat_eq name.0 0) (nat_eq other.0 0) refl refl

turned : (first second : ℕ) → nat_eq first second ≡ nat_eq second first
turned first second = grind (arith, nat_tests)

empty_by : (number : ℕ) (test : Bool) → is_empty (if test then [] else number ∷ []) ≡ test
empty_by number true = refl
empty_by number false = refl

-- a number that isn't 0 is that of a name
is_zero : (number : ℕ) → number ≡ 0 → nat_eq number 0 ≡ true
is_zero number is = grind (arith, nat_tests)

is_none_zero : (number : ℕ) → (number ≡ 0 → ⊥) → nat_eq number 0 ≡ false
is_none_zero number is = elim (eqb_tells number 0) [
  | inl same ↦ absurd (is same.1)
  | inr other ↦ other.0
]

pub named : (name : NameId) → (name.0 ≡ 0 → ⊥) → not (is_empty (name_seen name)) ≡ true
named name is = ap not (empty_by name.0 (nat_eq name.0 0) ∙ is_none_zero name.0 is)

pub unnamed : (name : NameId) → name.0 ≡ 0 → not (is_empty (name_seen name)) ≡ false
unnamed name is = ap not (empty_by name.0 (nat_eq name.0 0) ∙ is_zero name.0 is)

-- no name is no other one
nameless_apart : (name other : List ℕ) → is_empty name ≡ true → is_empty other ≡ false → bytes_eq name other ≡ false
nameless_apart [] [] empty named = absurd (true≢false named)
nameless_apart [] (byte ∷ other) empty named = refl
nameless_apart (byte ∷ name) other empty named = absurd (true≢false (sym empty))

not_so : (is nameless same home : Bool) → (is && not nameless) ≡ false → (nameless ≡ true → same ≡ false) → (is && (same && home)) ≡ false
not_so true true same home none apart = ap (λ test. test && home) (apart refl)
not_so true false same home none apart = absurd (true≢false none)
not_so false nameless same home none apart = refl

-- Names of members

module _ (nodes : UnitNodes) (surroundings : List Surrounding) where
  -- it names the same member where its name was seen in its outermost home
  same_member : ParentsStandBehind nodes surroundings → 0 < length nodes → (handle other : ℕ)
      → is_member_so nodes surroundings (outermost_of nodes surroundings handle) (node_at nodes handle).name other
      ≡ names_same_member nodes surroundings handle other
  same_member above some handle other =
      ap (λ common. is_member_declarator nodes surroundings other && (bytes_eq (node_at nodes other).name (node_at nodes handle).name && common))
      (sym (homes_meet_at_their_ends nodes surroundings above some (surrounding_at surroundings handle).parent (surrounding_at surroundings other).parent))

  -- at first none are seen
  pub none_seen : (keys : List (ℕ × NameId)) → keys ≡ [] → AreSeen nodes surroundings 0 keys
  none_seen keys none = λ home name named. ap (is_key_among (home, name)) none

  -- a node that declares no member with a name
  pub seen_same : (count : ℕ) (keys : List (ℕ × NameId)) → is_named_member nodes surroundings count ≡ false → AreSeen nodes surroundings count keys
      → AreSeen nodes surroundings (suc count) keys
  seen_same count keys none are = λ home name named.
      are home name named
      ∙ sym (or_false _)
      ∙ ap (λ last. is_any_below (λ handle. is_member_so nodes surroundings home (name_seen name) handle) count || last)
      (sym (not_so (is_member_declarator nodes surroundings count) (is_empty (node_at nodes count).name) (bytes_eq (node_at nodes count).name (name_seen name))
      (nat_eq home (outermost_of nodes surroundings count)) none (λ empty. nameless_apart (node_at nodes count).name (name_seen name) empty named)))

  -- and one that does
  module _ (count : ℕ) (keys : List (ℕ × NameId)) (key : ℕ × NameId) (is : is_named_member nodes surroundings count ≡ true)
      (home : key.0 ≡ outermost_of nodes surroundings count) (name : name_seen key.1 ≡ (node_at nodes count).name) where
    abbrev parts : (is_member_declarator nodes surroundings count ≡ true) × (not (is_empty (node_at nodes count).name) ≡ true)
    parts = and_parts (is_member_declarator nodes surroundings count) (not (is_empty (node_at nodes count).name)) is

    key_so : (other : ℕ × NameId) → same_key other key ≡ is_member_so nodes surroundings other.0 (name_seen other.1) count
    key_so other =
        and_turned (nat_eq other.0 key.0) (nat_eq other.1.0 key.1.0)
        ∙ ap (λ same. same && nat_eq other.0 key.0) (turned other.1.0 key.1.0 ∙ sym (name_same key.1 other.1) ∙ ap (λ one. bytes_eq one (name_seen other.1)) name)
        ∙ ap (λ one. bytes_eq (node_at nodes count).name (name_seen other.1) && nat_eq other.0 one) home
        ∙ ap (λ test. test && (bytes_eq (node_at nodes count).name (name_seen other.1) && nat_eq other.0 (outermost_of nodes surroundings count))) (sym parts.0)

    pub seen_more : (new : List (ℕ × NameId)) → ((other : ℕ × NameId) → is_key_among other new ≡ is_key_among other keys || same_key other key)
        → AreSeen nodes surroundings count keys → AreSeen nodes surroundings (suc count) new
    seen_more new joins are = λ at other named.
        joins (at, other)
        ∙ (λ i. are at other named i || key_so (at, other) i)

    is_not_empty : (test : Bool) → not test ≡ true → test ≡ false
    is_not_empty true none = sym none
    is_not_empty false none = refl

    -- its name was seen where an earlier member has it
    pub seen_before : ParentsStandBehind nodes surroundings → 0 < length nodes → AreSeen nodes surroundings count keys
        → is_key_among key keys ≡ is_declared_twice nodes surroundings count
    seen_before above some are =
        are key.0 key.1 (ap is_empty name ∙ is_not_empty (is_empty (node_at nodes count).name) parts.1)
        ∙ any_same _ _ count (λ other.
        (λ i. is_member_so nodes surroundings (home i) (name i) other) ∙ same_member above some count other)
        ∙ ap (λ test. test && is_any_below (λ other. names_same_member nodes surroundings count other) count) (sym is)

  -- Members that are declared twice

  pub none_twice : (handles : List ℕ) → handles ≡ [] → AreTwiceBelow nodes surroundings 0 handles
  none_twice handles none = λ handle.
      ap (list_any (nat_eq handle)) none ∙ ap (λ test. test && is_declared_twice nodes surroundings handle) (none_below handle)
    where
      none_below : (handle : ℕ) → false ≡ nat_lt handle 0
      none_below handle = grind (arith, nat_tests)

  below_same : (handle count : ℕ) → nat_eq handle count ≡ false → nat_lt handle count ≡ nat_lt handle (suc count)
  below_same handle count other = grind (arith, nat_tests)

  at_end : (count : ℕ) → true ≡ nat_lt count (suc count)
  at_end count = grind (arith, nat_tests)

  not_below : (count : ℕ) → nat_lt count count ≡ false
  not_below count = grind (arith, nat_tests)

  pub twice_more : (count : ℕ) (old new : List ℕ) (twice : Bool) → twice ≡ is_declared_twice nodes surroundings count
      → ((handle : ℕ) → list_any (nat_eq handle) new ≡ list_any (nat_eq handle) old || (twice && nat_eq handle count))
      → AreTwiceBelow nodes surroundings count old → AreTwiceBelow nodes surroundings (suc count) new
  twice_more count old new twice told joins are = λ handle. elim (eqb_tells handle count) [
    | inl same ↦
        joins handle
        ∙ (λ i. are handle i || (twice && same.0 i))
        ∙ ap (λ handle. nat_lt handle count && is_declared_twice nodes surroundings handle || (twice && true)) same.1
        ∙ ap (λ below. below && is_declared_twice nodes surroundings count || (twice && true)) (not_below count)
        ∙ and_turned twice true
        ∙ told
        ∙ ap (λ below. below && is_declared_twice nodes surroundings count) (at_end count)
        ∙ ap (λ handle. nat_lt handle (suc count) && is_declared_twice nodes surroundings handle) (sym same.1)
    | inr other ↦
        joins handle
        ∙ (λ i. are handle i || (twice && other.0 i))
        ∙ ap (λ last. (nat_lt handle count && is_declared_twice nodes surroundings handle) || last) (and_turned twice false)
        ∙ or_false _
        ∙ ap (λ below. below && is_declared_twice nodes surroundings handle) (below_same handle count other.0)
  ]

  pub twice_same : (count : ℕ) (handles : List ℕ) → is_declared_twice nodes surroundings count ≡ false → AreTwiceBelow nodes surroundings count handles
      → AreTwiceBelow nodes surroundings (suc count) handles
  twice_same count handles none are = twice_more count handles handles false (sym none) (λ handle. sym (or_false _)) are

  pub unnamed_once : (count : ℕ) → is_named_member nodes surroundings count ≡ false → is_declared_twice nodes surroundings count ≡ false
  unnamed_once count none = ap (λ test. test && is_any_below (λ other. names_same_member nodes surroundings count other) count) none

  -- all nodes were asked
  pub all_twice : (handles : List ℕ) → AreTwiceBelow nodes surroundings (length nodes) handles → AreTwice nodes surroundings handles
  all_twice handles are = λ handle.
      are handle ∙ within (is_declared_twice nodes surroundings handle) handle refl
    where
      within : (twice : Bool) (handle : ℕ) → is_declared_twice nodes surroundings handle ≡ twice → nat_lt handle (length nodes) && twice ≡ twice
      within true handle is = ap (λ below. below && true) (below_length (declarator_within handle is))
        where
          below_length : handle < length nodes → nat_lt handle (length nodes) ≡ true
          below_length less = grind (arith, nat_tests)

          declarator_within : (handle : ℕ) → is_declared_twice nodes surroundings handle ≡ true → handle < length nodes
          declarator_within handle is =
              let named = (and_parts (is_named_member nodes surroundings handle) _ is).0 in
              let member = (and_parts (is_member_declarator nodes surroundings handle) _ named).0 in
              let declarator = (and_parts (is_declarator_kind (kind_at nodes handle)) _ member).0 in
              elim (there_or_none nodes handle) [
                | inl within ↦ within
                | inr none ↦ absurd (true≢false (sym declarator ∙ ap (λ node. is_declarator_kind node.kind) none))
              ]
      within false handle is = and_turned (nat_lt handle (length nodes)) false
