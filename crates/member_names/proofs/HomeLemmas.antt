-- Chains of aggregates that meet go on alike, and end: each aggregate stands behind the one that is its member.
use Rattle.std.proofs.Common.{◌≡◌, ℕ, zero, suc, ◌+◌, ◌<◌, ◌≤◌, ◌⊎◌, inl, inr, nat_eq, Bool, true, false, ◌||◌, List, [], ◌∷◌, length, if◌then◌else◌, refl, sym, ap, subst, ◌∙◌, arith}
use Rattle.std.specs.List.{list_any}
use Rattle.std.proofs.lemmas.Bool.{true≢false, and_parts, or_left, or_right}
use Rattle.std.proofs.lemmas.Bool.Decides.{eqb_tells, nat_tests}
use Rattle.vocabulary.specs.declared.node_kind.NodeKind.{NodeKind}
use Rattle.vocabulary.specs.declared.node_kind.NodeKind.TheVariants as kinds
use Rattle.meaning_typing.specs.Units.{UnitNodes, no_node, node_at, kind_at}
use Rattle.meaning_typing.specs.Surroundings.{Surrounding, surrounding_at}
use Rattle.meaning_typing.specs.MemberDeclarations.{is_tagless}
use Rattle.meaning_typing.specs.MemberRows.{declaration_around, have_common, homes, is_anonymous, is_member_declaration, specifier_around}
use Rattle.member_names.specs.Homes.{HomesGoOutwards, HomesMeetAtTheirEnds, ParentsStandBehind, last_or, outermost_home}

-- Nodes

-- where there is no node there is none of a kind
pub there_or_none : (nodes : UnitNodes) (handle : ℕ) → (handle < length nodes) ⊎ (node_at nodes handle ≡ no_node)
there_or_none [] handle = inr refl
there_or_none (node ∷ nodes) zero = inl (omega arith)
there_or_none (node ∷ nodes) (suc handle) = elim (there_or_none nodes handle) [
  | inl within ↦ inl (omega (arith, within))
  | inr none ↦ inr none
]

pub tagless_within : (nodes : UnitNodes) (handle : ℕ) → is_tagless nodes handle (kind_at nodes handle) ≡ true → handle < length nodes
tagless_within nodes handle is = elim (there_or_none nodes handle) [
  | inl within ↦ within
  | inr none ↦ absurd (true≢false (sym is ∙ ap (λ node. is_tagless nodes handle node.kind) none))
]

pub declaration_within : (nodes : UnitNodes) (handle : ℕ) → is_member_declaration (kind_at nodes handle) ≡ true → handle < length nodes
declaration_within nodes handle is = elim (there_or_none nodes handle) [
  | inl within ↦ within
  | inr none ↦ absurd (true≢false (sym is ∙ ap (λ node. is_member_declaration node.kind) none))
]

-- no specifier is a declaration
apart : (nodes : UnitNodes) (handle : ℕ) (kind : NodeKind) → is_tagless nodes handle kind ≡ true → is_member_declaration kind ≡ true → ⊥
apart nodes handle kinds.MemberDeclaration tagless is = true≢false (sym tagless)
apart nodes handle kind tagless is = cc

-- Lists

pub same_number : (number : ℕ) → nat_eq number number ≡ true
same_number number = grind (arith, nat_tests)

number_same : (one another : ℕ) → nat_eq one another ≡ true → one ≡ another
number_same one another is = grind (arith, nat_tests)

-- the last one is one of them
last_among : (handle : ℕ) (handles : List ℕ) → list_any (λ other. nat_eq (last_or handle handles) other) (handle ∷ handles) ≡ true
last_among handle [] = or_left (nat_eq handle handle) false (same_number handle)
last_among handle (other ∷ handles) = or_right (nat_eq (last_or other handles) handle) _ (last_among other handles)

-- what is among both is in common
common_by : (handles others : List ℕ) (both : ℕ) → list_any (λ handle. nat_eq both handle) handles ≡ true → list_any (λ other. nat_eq both other) others ≡ true
    → have_common handles others ≡ true
common_by [] others both is also = is
common_by (handle ∷ handles) others both is also = elim (eqb_tells both handle) [
  | inl same ↦
      or_left (list_any (λ other. nat_eq handle other) others) (have_common handles others)
      (subst (λ one. list_any (λ other. nat_eq one other) others ≡ true) same.1 also)
  | inr other ↦
      or_right (list_any (λ other. nat_eq handle other) others) (have_common handles others)
      (common_by handles others both (ap (λ test. test || list_any (λ handle. nat_eq both handle) handles) (sym other.0) ∙ is) also)
]

-- where something is in common, what is the same for all of one list and for all of the other is one
module _ (end : ℕ → ℕ) (one other : ℕ) where
  common_end :
      (handles others : List ℕ) → ((handle : ℕ) → list_any (λ one. nat_eq handle one) handles ≡ true → end handle ≡ one)
      → ((handle : ℕ) → list_any (λ one. nat_eq handle one) others ≡ true → end handle ≡ other)
      → have_common handles others ≡ true → one ≡ other
  common_end [] others ends also is = absurd (true≢false (sym is))
  common_end (handle ∷ handles) others ends also is =
      common_in (list_any (λ other. nat_eq handle other) others) refl
      (λ found. sym (ends handle (or_left (nat_eq handle handle) _ (same_number handle))) ∙ also handle found)
      (λ later. common_end handles others (λ another is. ends another (or_right (nat_eq another handle) _ is)) also later)
    where
      common_in : (found : Bool) → list_any (λ other. nat_eq handle other) others ≡ found
          → (list_any (λ other. nat_eq handle other) others ≡ true → one ≡ other) → (have_common handles others ≡ true → one ≡ other) → one ≡ other
      common_in true found here later = here found
      common_in false found here later = later (ap (λ test. test || have_common handles others) (sym found) ∙ is)

-- tests that say the same are one
one_test : (first second : Bool) → (first ≡ true → second ≡ true) → (second ≡ true → first ≡ true) → first ≡ second
one_test true second on back = sym (on refl)
one_test false true on back = back refl
one_test false false on back = refl

-- lists are the same by a test where they are where it passes
same_where : (test : Bool) (one other : List ℕ) → (test ≡ true → one ≡ other) → (if test then one else []) ≡ (if test then other else [])
same_where true one other same = same refl
same_where false one other same = refl

-- Chains

module _ (nodes : UnitNodes) (surroundings : List Surrounding) (above : ParentsStandBehind nodes surroundings) where
  abbrev around : (declaration : ℕ) → ℕ
  around declaration = specifier_around surroundings declaration

  abbrev outside : (specifier : ℕ) → ℕ
  outside specifier = declaration_around surroundings specifier

  abbrev is_inner : (specifier : ℕ) → Bool
  is_inner specifier = is_anonymous nodes surroundings specifier

  same_or_behind : (handle other : ℕ) → handle ≤ other → (handle ≡ other) ⊎ (handle < other)
  same_or_behind handle other order = grind arith

  -- two nodes above a node stand behind it
  twice_behind : (handle : ℕ) → handle < length nodes
      → (handle ≤ (surrounding_at surroundings (surrounding_at surroundings handle).parent).parent)
      × ((surrounding_at surroundings (surrounding_at surroundings handle).parent).parent < length nodes)
  twice_behind handle within =
      let parent = (surrounding_at surroundings handle).parent in
      let inside : parent < length nodes = above.within handle within in
      (omega (arith, above.behind handle within, above.behind parent inside), above.within parent inside)

  -- the declaration around a structure without a tag stands behind it
  pub outside_behind : (specifier : ℕ) → is_tagless nodes specifier (kind_at nodes specifier) ≡ true
      → is_member_declaration (kind_at nodes (outside specifier)) ≡ true → specifier < outside specifier
  outside_behind specifier tagless is = elim (same_or_behind specifier (outside specifier) (twice_behind specifier (tagless_within nodes specifier tagless)).0) [
    | inl same ↦
        absurd (apart nodes specifier (kind_at nodes specifier) tagless (subst (λ handle. is_member_declaration (kind_at nodes handle) ≡ true) (sym same) is))
    | inr behind ↦ behind
  ]

  -- and so it does behind a declaration in the body of that
  pub later_outside : (declaration : ℕ) → is_member_declaration (kind_at nodes declaration) ≡ true
      → is_tagless nodes (around declaration) (kind_at nodes (around declaration)) ≡ true → declaration < outside (around declaration)
  later_outside declaration is tagless =
      let specifier = around declaration in
      let far : specifier ≤ outside specifier = (twice_behind specifier (tagless_within nodes specifier tagless)).0 in
      elim (same_or_behind declaration specifier (twice_behind declaration (declaration_within nodes declaration is)).0) [
        | inl same ↦
            absurd (apart nodes specifier (kind_at nodes specifier) tagless (subst (λ handle. is_member_declaration (kind_at nodes handle) ≡ true) same is))
        | inr behind ↦ omega (arith, far, behind)
      ]

  inner_behind : (specifier : ℕ) → is_inner specifier ≡ true → specifier < outside specifier
  inner_behind specifier is =
      let parts = and_parts (is_tagless nodes specifier (kind_at nodes specifier)) _ is in
      outside_behind specifier parts.0 (and_parts (is_member_declaration (kind_at nodes (outside specifier))) _ parts.1).0

  inner_within : (specifier : ℕ) → is_inner specifier ≡ true → outside specifier < length nodes
  inner_within specifier is =
      let parts = and_parts (is_tagless nodes specifier (kind_at nodes specifier)) _ is in
      declaration_within nodes (outside specifier) (and_parts (is_member_declaration (kind_at nodes (outside specifier))) _ parts.1).0

  -- the next aggregate of a chain stands behind
  next_behind : (specifier : ℕ) → is_inner specifier ≡ true → specifier < around (outside specifier)
  next_behind specifier is =
      omega (arith, inner_behind specifier is, (twice_behind (outside specifier) (inner_within specifier is)).0)

  -- The bound

  -- so many steps are enough for the chain from a declaration
  abbrev Enough : (most declaration : ℕ) → Type 0
  Enough most declaration = (length nodes ≤ around declaration + most) × (0 < most)

  enough_next : (most declaration : ℕ) → Enough (suc most) declaration → is_inner (around declaration) ≡ true → Enough most (outside (around declaration))
  enough_next most declaration enough is =
      let specifier = around declaration in
      let far : length nodes ≤ specifier + suc most = enough.0 in
      let inside : outside specifier < length nodes = inner_within specifier is in
      (omega (arith, far, next_behind specifier is), omega (arith, far, inside, inner_behind specifier is))

  -- a longer bound changes nothing
  homes_same : (most others declaration : ℕ) → Enough most declaration → Enough others declaration
      → homes nodes surroundings most declaration ≡ homes nodes surroundings others declaration
  homes_same zero others declaration enough also = absurd (omega (arith, enough.1))
  homes_same (suc most) zero declaration enough also = absurd (omega (arith, also.1))
  homes_same (suc most) (suc others) declaration enough also =
      ap (λ rest. around declaration ∷ rest)
      (same_where (is_inner (around declaration)) _ _
      (λ is. homes_same most others (outside (around declaration)) (enough_next most declaration enough is) (enough_next others declaration also is)))

  abbrev all : (declaration : ℕ) → List ℕ
  all declaration = homes nodes surroundings (length nodes) declaration

  -- those behind the first
  abbrev others_from : (specifier : ℕ) → List ℕ
  others_from specifier = if is_inner specifier then all (outside specifier) else []

  all_enough : (declaration : ℕ) → 0 < length nodes → Enough (length nodes) declaration
  all_enough declaration some = (omega arith, some)

  rest_same : (most declaration : ℕ) → Enough (suc most) declaration
      → (if is_inner (around declaration) then homes nodes surroundings most (outside (around declaration)) else []) ≡ others_from (around declaration)
  rest_same most declaration enough =
      same_where (is_inner (around declaration)) _ _
      (λ is.
      homes_same most (length nodes) (outside (around declaration)) (enough_next most declaration enough is)
      (all_enough (outside (around declaration)) (omega (arith, inner_within (around declaration) is))))

  -- the chain from a declaration
  all_from : (declaration : ℕ) → 0 < length nodes → all declaration ≡ around declaration ∷ others_from (around declaration)
  all_from declaration some = by (length nodes) refl
    where
      by : (count : ℕ) → length nodes ≡ count → homes nodes surroundings count declaration ≡ around declaration ∷ others_from (around declaration)
      by zero is = absurd (omega (arith, is, some))
      by (suc most) is = ap (λ rest. around declaration ∷ rest) (rest_same most declaration (omega (arith, is), omega arith))

  -- Ends

  abbrev end : (specifier : ℕ) → ℕ
  end specifier = last_or specifier (others_from specifier)

  outermost_end : (declaration : ℕ) → 0 < length nodes → outermost_home nodes surroundings declaration ≡ end (around declaration)
  outermost_end declaration some = ap (last_or (around declaration)) (all_from declaration some)

  -- each aggregate of a chain has its end
  chain_end : (most declaration otherwise handle : ℕ) → Enough most declaration
      → list_any (λ one. nat_eq handle one) (homes nodes surroundings most declaration) ≡ true
      → end handle ≡ last_or otherwise (homes nodes surroundings most declaration)
  chain_end zero declaration otherwise handle enough is = absurd (true≢false (sym is))
  chain_end (suc most) declaration otherwise handle enough is = elim (eqb_tells handle (around declaration)) [
    | inl same ↦ ap end same.1 ∙ ap (last_or (around declaration)) (sym (rest_same most declaration enough))
    | inr other ↦
        end_behind (is_inner (around declaration)) (homes nodes surroundings most (outside (around declaration)))
        (λ inner. chain_end most (outside (around declaration)) (around declaration) handle (enough_next most declaration enough inner))
        (ap (λ test. test || list_any (λ one. nat_eq handle one) (if is_inner (around declaration) then homes nodes surroundings most (outside (around declaration)) else []))
        (sym other.0) ∙ is)
  ]
    where
      end_behind : (inner : Bool) (rest : List ℕ)
          → (inner ≡ true → list_any (λ one. nat_eq handle one) rest ≡ true → end handle ≡ last_or (around declaration) rest)
          → list_any (λ one. nat_eq handle one) (if inner then rest else []) ≡ true
          → end handle ≡ last_or (around declaration) (if inner then rest else [])
      end_behind true rest ends is = ends refl is
      end_behind false rest ends is = absurd (true≢false (sym is))

  last_in_all : (declaration : ℕ) → 0 < length nodes
      → list_any (λ one. nat_eq (outermost_home nodes surroundings declaration) one) (all declaration) ≡ true
  last_in_all declaration some =
      ap (λ last. list_any (λ one. nat_eq last one) (all declaration)) (outermost_end declaration some)
      ∙ ap (λ handles. list_any (λ one. nat_eq (end (around declaration)) one) handles) (all_from declaration some)
      ∙ last_among (around declaration) (others_from (around declaration))

  meet_at_ends : (declaration other : ℕ) → 0 < length nodes
      → have_common (all declaration) (all other) ≡ nat_eq (outermost_home nodes surroundings declaration) (outermost_home nodes surroundings other)
  meet_at_ends declaration other some =
      let one = outermost_home nodes surroundings declaration in
      let another = outermost_home nodes surroundings other in
      one_test (have_common (all declaration) (all other)) (nat_eq one another)
      (λ common.
      (λ (same : one ≡ another). ap (nat_eq one) (sym same) ∙ same_number one)
      (common_end end one another (all declaration) (all other)
      (λ handle is. chain_end (length nodes) declaration (around declaration) handle (all_enough declaration some) is)
      (λ handle is. chain_end (length nodes) other (around other) handle (all_enough other some) is) common))
      (λ same.
      common_by (all declaration) (all other) one (last_in_all declaration some)
      (subst (λ last. list_any (λ handle. nat_eq last handle) (all other) ≡ true) (sym (number_same one another same)) (last_in_all other some)))

  pub goes_outwards : (declaration : ℕ)
      → outermost_home nodes surroundings declaration
      ≡ (if is_inner (around declaration) then outermost_home nodes surroundings (outside (around declaration)) else around declaration)
  goes_outwards declaration = by (length nodes) refl
    where
      inner_or_not : (inner : Bool) → is_inner (around declaration) ≡ inner
          → last_or (around declaration) (if inner then all (outside (around declaration)) else [])
          ≡ (if inner then outermost_home nodes surroundings (outside (around declaration)) else around declaration)
      inner_or_not true is =
          let some : 0 < length nodes = omega (arith, inner_within (around declaration) is) in
          ap (last_or (around declaration)) (all_from (outside (around declaration)) some)
          ∙ sym (outermost_end (outside (around declaration)) some)
      inner_or_not false is = refl

      none_inner : (inner : Bool) → is_inner (around declaration) ≡ inner → length nodes ≡ 0
          → around declaration ≡ (if inner then outermost_home nodes surroundings (outside (around declaration)) else around declaration)
      none_inner true is none = absurd (omega (arith, none, inner_within (around declaration) is))
      none_inner false is none = refl

      by : (count : ℕ) → length nodes ≡ count
          → outermost_home nodes surroundings declaration
          ≡ (if is_inner (around declaration) then outermost_home nodes surroundings (outside (around declaration)) else around declaration)
      by zero none =
          ap (λ count. last_or (around declaration) (homes nodes surroundings count declaration)) none
          ∙ none_inner (is_inner (around declaration)) refl none
      by (suc most) some = outermost_end declaration (omega (arith, some)) ∙ inner_or_not (is_inner (around declaration)) refl

pub homes_meet_at_their_ends : HomesMeetAtTheirEnds
homes_meet_at_their_ends nodes surroundings above some declaration other = meet_at_ends nodes surroundings above declaration other some

pub homes_go_outwards : HomesGoOutwards
homes_go_outwards nodes surroundings above declaration = goes_outwards nodes surroundings above declaration
