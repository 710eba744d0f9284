-- Parts that fit slots fit others that allow more, and parts behind others fit slots behind others.
use Rattle.std.proofs.Common.{◌≡◌, Bool, true, false, ◌&&◌, ◌||◌, List, [], ◌∷◌, ◌++◌, Option, Some, None, nat_eq, refl, sym, ap, subst, ◌∙◌, if◌then◌else◌}
use Rattle.std.proofs.lemmas.Option.{same_Some}
use Rattle.std.proofs.lemmas.Bool.{eqb-true}
use Rattle.vocabulary.specs.declared.role.Role.{Role}
use Rattle.vocabulary.specs.declared.role.Role.TheVariants.{Evaluated, Condition, TypePart, Unevaluated}
use Rattle.vocabulary.specs.Roles.{role_tag, role_of}
use Rattle.meaning_tree.specs.Trees.{Tree, Parts, NoParts, Part, with_parts}
use Rattle.meaning_tree.specs.Forms.{PartSort, LeadingLists, ADeclarator, AnInitializer, AWidth, attribute_lists, sort_number, is_among_sorts, sort_of_kind, kind_of, IsOf, Slot, One, Perhaps, Each, DeclaratorSlots, MemberSlots, Fits, nothing, one, left_out, there, no_more, one_more, no_declarator, declarator, no_member, member}

-- Tests

pub both : (a b : Bool) → (a && b) ≡ true → (a ≡ true) × (b ≡ true)
both true b is = (refl, is)
both false b is = absurd (cc is)

-- a role is told by its tag
role-tagged : (role : Role) → role_of (role_tag role) ≡ role
role-tagged Evaluated = refl
role-tagged Condition = refl
role-tagged TypePart = refl
role-tagged Unevaluated = refl

same_role : (role other : Role) → nat_eq (role_tag role) (role_tag other) ≡ true → role ≡ other
same_role role other is = sym (role-tagged role) ∙ ap role_of (eqb-true (role_tag role) (role_tag other) is) ∙ role-tagged other

-- all of these sorts are among those
abbrev pub are_among : List PartSort → List PartSort → Bool
are_among [] sorts = true
are_among (other ∷ others) sorts = is_among_sorts other sorts && are_among others sorts

-- two sorts of one number are among the same ones
same_among : (sort other : PartSort) (sorts : List PartSort) → sort_number sort ≡ sort_number other → is_among_sorts other sorts ≡ is_among_sorts sort sorts
same_among sort other [] same = refl
same_among sort other (first ∷ sorts) same =
    let rest = same_among sort other sorts same in
    cc

more_by :
    (same : Bool) (sort other : PartSort) (others sorts : List PartSort) → nat_eq (sort_number sort) (sort_number other) ≡ same
    → (same || is_among_sorts sort others) ≡ true → is_among_sorts other sorts ≡ true → (is_among_sorts sort others ≡ true → is_among_sorts sort sorts ≡ true)
    → is_among_sorts sort sorts ≡ true
more_by true sort other others sorts same found first further =
    sym (same_among sort other sorts (eqb-true (sort_number sort) (sort_number other) same)) ∙ first
more_by false sort other others sorts same found first further = further found

among_more : (sort : PartSort) (others sorts : List PartSort) → is_among_sorts sort others ≡ true → are_among others sorts ≡ true → is_among_sorts sort sorts ≡ true
among_more sort [] sorts is are = absurd (cc is)
among_more sort (other ∷ others) sorts is are =
    let parts = both (is_among_sorts other sorts) (are_among others sorts) are in
    more_by (nat_eq (sort_number sort) (sort_number other)) sort other others sorts refl is parts.0 (λ found. among_more sort others sorts found parts.1)

pub IsOf-more : {Spelling : Type 0} (others sorts : List PartSort) (tree : Tree Spelling) → are_among others sorts ≡ true → IsOf others tree → IsOf sorts tree
IsOf-more others sorts tree are is = among_more (sort_of_kind (kind_of tree)) others sorts is are

-- One part

-- a part of that role, of one of those sorts, may stand here
abbrev pub may_stand : (role : Role) (sorts : List PartSort) (its_role : Role) (its_sorts : List PartSort) → Bool
may_stand role sorts its_role its_sorts = nat_eq (role_tag role) (role_tag its_role) && are_among its_sorts sorts

-- the slots behind such a part
abbrev pub step : List Slot → Role → List PartSort → Option (List Slot)
step [] role sorts = None
step (One its_role its_sorts ∷ slots) role sorts = if may_stand its_role its_sorts role sorts then Some slots else None
step (Perhaps its_role its_sorts ∷ slots) role sorts = if may_stand its_role its_sorts role sorts then Some slots else step slots role sorts
step (Each its_role its_sorts ∷ slots) role sorts =
    if may_stand its_role its_sorts role sorts then Some (Each its_role its_sorts ∷ slots) else step slots role sorts
step (DeclaratorSlots ∷ slots) role sorts =
    if may_stand TypePart (LeadingLists ∷ []) role sorts
    then Some (One Evaluated (ADeclarator ∷ []) ∷ Each TypePart attribute_lists ∷ Perhaps Evaluated (AnInitializer ∷ []) ∷ DeclaratorSlots ∷ slots)
    else (if may_stand Evaluated (ADeclarator ∷ []) role sorts
    then Some (Each TypePart attribute_lists ∷ Perhaps Evaluated (AnInitializer ∷ []) ∷ DeclaratorSlots ∷ slots)
    else step slots role sorts)
step (MemberSlots ∷ slots) role sorts =
    if may_stand TypePart (ADeclarator ∷ []) role sorts
    then Some (Perhaps Unevaluated (AWidth ∷ []) ∷ Each TypePart attribute_lists ∷ MemberSlots ∷ slots)
    else step slots role sorts

-- what follows where a test passes, and where it doesn't
chosen :
    {Goal : Type 0} (test : Bool) (first : List Slot) (other : Option (List Slot)) (left : List Slot) → (if test then Some first else other) ≡ Some left
    → (test ≡ true → first ≡ left → Goal) → (other ≡ Some left → Goal) → Goal
chosen true first other left is passes fails = passes refl (same_Some first left is)
chosen false first other left is passes fails = fails is

module _ {Spelling : Type 0} (tree : Tree Spelling) (parts : Parts Spelling) where
  -- a part that may stand here stands before parts that fit what is left
  stands :
      (its_role role : Role) (its_sorts sorts : List PartSort) (slots first left : List Slot) → may_stand its_role its_sorts role sorts ≡ true → first ≡ left
      → (IsOf its_sorts tree → Fits first parts → Fits slots (Part its_role tree parts)) → IsOf sorts tree → Fits left parts → Fits slots (Part role tree parts)
  stands its_role role its_sorts sorts slots first left may same how is fits =
      let tests = both (nat_eq (role_tag its_role) (role_tag role)) (are_among sorts its_sorts) may in
      subst (λ r. Fits slots (Part r tree parts)) (same_role its_role role tests.0)
      (how (IsOf-more sorts its_sorts tree tests.1 is) (subst (λ s. Fits s parts) (sym same) fits))

  pub step-fits :
      (slots : List Slot) (role : Role) (sorts : List PartSort) (left : List Slot) → step slots role sorts ≡ Some left → IsOf sorts tree → Fits left parts
      → Fits slots (Part role tree parts)
  step-fits [] role sorts left found is fits = absurd (cc found)
  step-fits (One its_role its_sorts ∷ slots) role sorts left found is fits =
      chosen (may_stand its_role its_sorts role sorts) slots None left found
      (λ may same. stands its_role role its_sorts sorts (One its_role its_sorts ∷ slots) slots left may same (λ i f. one i f) is fits)
      (λ clash. absurd (cc clash))
  step-fits (Perhaps its_role its_sorts ∷ slots) role sorts left found is fits =
      chosen (may_stand its_role its_sorts role sorts) slots (step slots role sorts) left found
      (λ may same. stands its_role role its_sorts sorts (Perhaps its_role its_sorts ∷ slots) slots left may same (λ i f. there i f) is fits)
      (λ further. left_out (step-fits slots role sorts left further is fits))
  step-fits (Each its_role its_sorts ∷ slots) role sorts left found is fits =
      chosen (may_stand its_role its_sorts role sorts) (Each its_role its_sorts ∷ slots) (step slots role sorts) left found
      (λ may same. stands its_role role its_sorts sorts (Each its_role its_sorts ∷ slots) (Each its_role its_sorts ∷ slots) left may same (λ i f. one_more i f) is fits)
      (λ further. no_more (step-fits slots role sorts left further is fits))
  step-fits (DeclaratorSlots ∷ slots) role sorts left found is fits =
      chosen (may_stand TypePart (LeadingLists ∷ []) role sorts) _ _ left found
      (λ may same. stands TypePart role (LeadingLists ∷ []) sorts (DeclaratorSlots ∷ slots) _ left may same (λ i f. declarator (there i f)) is fits)
      (λ others. chosen (may_stand Evaluated (ADeclarator ∷ []) role sorts) _ _ left others
      (λ may same. stands Evaluated role (ADeclarator ∷ []) sorts (DeclaratorSlots ∷ slots) _ left may same (λ i f. declarator (left_out (one i f))) is fits)
      (λ further. no_declarator (step-fits slots role sorts left further is fits)))
  step-fits (MemberSlots ∷ slots) role sorts left found is fits =
      chosen (may_stand TypePart (ADeclarator ∷ []) role sorts) _ _ left found
      (λ may same. stands TypePart role (ADeclarator ∷ []) sorts (MemberSlots ∷ slots) _ left may same (λ i f. member (one i f)) is fits)
      (λ further. no_member (step-fits slots role sorts left further is fits))

-- Slots that allow no more than others

-- nothing has to come
abbrev pub may_end : List Slot → Bool
may_end [] = true
may_end (One role sorts ∷ slots) = false
may_end (slot ∷ slots) = may_end slots

abbrev pub is_each : Role → List PartSort → Slot → Bool
is_each role sorts (Each its_role its_sorts) = may_stand its_role its_sorts role sorts
is_each role sorts slot = false

abbrev pub is_declarators : Slot → Bool
is_declarators DeclaratorSlots = true
is_declarators slot = false

abbrev pub is_members : Slot → Bool
is_members MemberSlots = true
is_members slot = false

-- the slots from the first such one on, where nothing before it has to come
abbrev pub from_first : (Slot → Bool) → List Slot → Option (List Slot)
from_first test [] = None
from_first test (One role sorts ∷ slots) = None
from_first test (slot ∷ slots) = if test slot then Some (slot ∷ slots) else from_first test slots

abbrev pub passes : (List Slot → Bool) → Option (List Slot) → Bool
passes test None = false
passes test (Some slots) = test slots

-- the slots behind one that may be left out, where it takes all that this one does
abbrev pub behind_perhaps : Role → List PartSort → List Slot → Option (List Slot)
behind_perhaps role sorts (Perhaps its_role its_sorts ∷ slots) = if may_stand its_role its_sorts role sorts then Some slots else None
behind_perhaps role sorts slots = None

-- what fits the first slots fits the others
abbrev pub is_within : List Slot → List Slot → Bool
is_within [] slots = may_end slots
is_within (One role sorts ∷ others) slots = passes (is_within others) (step slots role sorts)
is_within (Perhaps role sorts ∷ others) slots =
    passes (is_within others) (behind_perhaps role sorts slots) || (is_within others slots && passes (is_within others) (step slots role sorts))
is_within (Each role sorts ∷ others) slots = passes (is_within others) (from_first (is_each role sorts) slots)
is_within (DeclaratorSlots ∷ others) slots = passes (is_within others) (from_first is_declarators slots)
is_within (MemberSlots ∷ others) slots = passes (is_within others) (from_first is_members slots)

-- a test that is passed is passed by something
passed : (test : List Slot → Bool) (found : Option (List Slot)) → passes test found ≡ true → (slots : List Slot) × (found ≡ Some slots) × (test slots ≡ true)
passed test None is = absurd (cc is)
passed test (Some slots) is = (slots, refl, is)

module _ {Spelling : Type 0} where
  may_end-fits : (slots : List Slot) → may_end slots ≡ true → Fits {Spelling = Spelling} slots NoParts
  may_end-fits [] is = nothing
  may_end-fits (One role sorts ∷ slots) is = absurd (cc is)
  may_end-fits (Perhaps role sorts ∷ slots) is = left_out (may_end-fits slots is)
  may_end-fits (Each role sorts ∷ slots) is = no_more (may_end-fits slots is)
  may_end-fits (DeclaratorSlots ∷ slots) is = no_declarator (may_end-fits slots is)
  may_end-fits (MemberSlots ∷ slots) is = no_member (may_end-fits slots is)

  -- what fits there fits before it
  from_first-fits :
      (test : Slot → Bool) (slots left : List Slot) (parts : Parts Spelling) → from_first test slots ≡ Some left → Fits left parts → Fits slots parts
  from_first-fits test [] left parts found fits = absurd (cc found)
  from_first-fits test (One role sorts ∷ slots) left parts found fits = absurd (cc found)
  from_first-fits test (Perhaps role sorts ∷ slots) left parts found fits =
      chosen (test (Perhaps role sorts)) (Perhaps role sorts ∷ slots) (from_first test slots) left found
      (λ is same. subst (λ all. Fits all parts) (sym same) fits) (λ further. left_out (from_first-fits test slots left parts further fits))
  from_first-fits test (Each role sorts ∷ slots) left parts found fits =
      chosen (test (Each role sorts)) (Each role sorts ∷ slots) (from_first test slots) left found
      (λ is same. subst (λ all. Fits all parts) (sym same) fits) (λ further. no_more (from_first-fits test slots left parts further fits))
  from_first-fits test (DeclaratorSlots ∷ slots) left parts found fits =
      chosen (test DeclaratorSlots) (DeclaratorSlots ∷ slots) (from_first test slots) left found
      (λ is same. subst (λ all. Fits all parts) (sym same) fits) (λ further. no_declarator (from_first-fits test slots left parts further fits))
  from_first-fits test (MemberSlots ∷ slots) left parts found fits =
      chosen (test MemberSlots) (MemberSlots ∷ slots) (from_first test slots) left found
      (λ is same. subst (λ all. Fits all parts) (sym same) fits) (λ further. no_member (from_first-fits test slots left parts further fits))

first_of_found :
    (test : Slot → Bool) (slots left : List Slot) → from_first test slots ≡ Some left
    → (slot : Slot) × (rest : List Slot) × (left ≡ slot ∷ rest) × (test slot ≡ true)
first_of_found test [] left found = absurd (cc found)
first_of_found test (One role sorts ∷ slots) left found = absurd (cc found)
first_of_found test (slot ∷ slots) left found =
    chosen (test slot) (slot ∷ slots) (from_first test slots) left found (λ is same. (slot, slots, sym same, is)) (λ further. first_of_found test slots left further)

-- Slots again and again

module _ {Spelling : Type 0} (others slots : List Slot) (go_on : (parts : Parts Spelling) → Fits others parts → Fits (DeclaratorSlots ∷ slots) parts) where
  mutual
    -- declarators, and what stands behind each
    more_declarators : {parts : Parts Spelling} → Fits (DeclaratorSlots ∷ others) parts → Fits (DeclaratorSlots ∷ slots) parts
    more_declarators (no_declarator fits) = go_on _ fits
    more_declarators (declarator (left_out (one is fits))) = declarator (left_out (one is (behind_declarator fits)))
    more_declarators (declarator (there leads (one is fits))) = declarator (there leads (one is (behind_declarator fits)))

    behind_declarator :
        {parts : Parts Spelling} → Fits (Each TypePart attribute_lists ∷ Perhaps Evaluated (AnInitializer ∷ []) ∷ DeclaratorSlots ∷ others) parts
        → Fits (Each TypePart attribute_lists ∷ Perhaps Evaluated (AnInitializer ∷ []) ∷ DeclaratorSlots ∷ slots) parts
    behind_declarator (one_more is fits) = one_more is (behind_declarator fits)
    behind_declarator (no_more (left_out fits)) = no_more (left_out (more_declarators fits))
    behind_declarator (no_more (there is fits)) = no_more (there is (more_declarators fits))

module _ {Spelling : Type 0} (others slots : List Slot) (go_on : (parts : Parts Spelling) → Fits others parts → Fits (MemberSlots ∷ slots) parts) where
  mutual
    -- members, and what stands behind each
    more_members : {parts : Parts Spelling} → Fits (MemberSlots ∷ others) parts → Fits (MemberSlots ∷ slots) parts
    more_members (no_member fits) = go_on _ fits
    more_members (member (one is (left_out fits))) = member (one is (left_out (behind_member fits)))
    more_members (member (one is (there width fits))) = member (one is (there width (behind_member fits)))

    behind_member :
        {parts : Parts Spelling} → Fits (Each TypePart attribute_lists ∷ MemberSlots ∷ others) parts → Fits (Each TypePart attribute_lists ∷ MemberSlots ∷ slots) parts
    behind_member (one_more is fits) = one_more is (behind_member fits)
    behind_member (no_more fits) = no_more (more_members fits)

module _ {Spelling : Type 0} (others rest : List Slot) (role : Role) (sorts its_sorts : List PartSort) (are : are_among sorts its_sorts ≡ true)
    (go_on : (parts : Parts Spelling) → Fits others parts → Fits (Each role its_sorts ∷ rest) parts) where
  -- parts of one role
  more_of_each : {parts : Parts Spelling} → Fits (Each role sorts ∷ others) parts → Fits (Each role its_sorts ∷ rest) parts
  more_of_each (no_more fits) = go_on _ fits
  more_of_each (one_more {tree = tree} is fits) = one_more (IsOf-more sorts its_sorts tree are is) (more_of_each fits)

each_within :
    {Spelling : Type 0} (role : Role) (sorts : List PartSort) (others : List Slot) (slot : Slot) (rest : List Slot) → is_each role sorts slot ≡ true
    → ((parts : Parts Spelling) → Fits others parts → Fits (slot ∷ rest) parts) → (parts : Parts Spelling) → Fits (Each role sorts ∷ others) parts
    → Fits (slot ∷ rest) parts
each_within role sorts others (Each its_role its_sorts) rest is go_on parts fits =
    let tests = both (nat_eq (role_tag its_role) (role_tag role)) (are_among sorts its_sorts) is in
    let same = same_role its_role role tests.0 in
    subst (λ r. Fits (Each r its_sorts ∷ rest) parts) (sym same)
    (more_of_each others rest role sorts its_sorts tests.1 (λ p f. subst (λ r. Fits (Each r its_sorts ∷ rest) p) same (go_on p f)) fits)
each_within role sorts others (One its_role its_sorts) rest is go_on parts fits = absurd (cc is)
each_within role sorts others (Perhaps its_role its_sorts) rest is go_on parts fits = absurd (cc is)
each_within role sorts others DeclaratorSlots rest is go_on parts fits = absurd (cc is)
each_within role sorts others MemberSlots rest is go_on parts fits = absurd (cc is)

declarators_within :
    {Spelling : Type 0} (others : List Slot) (slot : Slot) (rest : List Slot) → is_declarators slot ≡ true
    → ((parts : Parts Spelling) → Fits others parts → Fits (slot ∷ rest) parts) → (parts : Parts Spelling) → Fits (DeclaratorSlots ∷ others) parts
    → Fits (slot ∷ rest) parts
declarators_within others DeclaratorSlots rest is go_on parts fits = more_declarators others rest go_on fits
declarators_within others (One role sorts) rest is go_on parts fits = absurd (cc is)
declarators_within others (Perhaps role sorts) rest is go_on parts fits = absurd (cc is)
declarators_within others (Each role sorts) rest is go_on parts fits = absurd (cc is)
declarators_within others MemberSlots rest is go_on parts fits = absurd (cc is)

members_within :
    {Spelling : Type 0} (others : List Slot) (slot : Slot) (rest : List Slot) → is_members slot ≡ true
    → ((parts : Parts Spelling) → Fits others parts → Fits (slot ∷ rest) parts) → (parts : Parts Spelling) → Fits (MemberSlots ∷ others) parts
    → Fits (slot ∷ rest) parts
members_within others MemberSlots rest is go_on parts fits = more_members others rest go_on fits
members_within others (One role sorts) rest is go_on parts fits = absurd (cc is)
members_within others (Perhaps role sorts) rest is go_on parts fits = absurd (cc is)
members_within others (Each role sorts) rest is go_on parts fits = absurd (cc is)
members_within others DeclaratorSlots rest is go_on parts fits = absurd (cc is)

module _ {Spelling : Type 0} where
  -- one part before parts that fit
  one_within :
      (role : Role) (sorts : List PartSort) (others slots : List Slot) (found : Option (List Slot)) → step slots role sorts ≡ found
      → passes (is_within others) found ≡ true
      → ((left : List Slot) → is_within others left ≡ true → (parts : Parts Spelling) → Fits others parts → Fits left parts)
      → (tree : Tree Spelling) (parts : Parts Spelling) → IsOf sorts tree → Fits others parts → Fits slots (Part role tree parts)
  one_within role sorts others slots None steps may within tree parts is fits = absurd (cc may)
  one_within role sorts others slots (Some left) steps may within tree parts is fits =
      step-fits tree parts slots role sorts left steps is (within left may parts fits)

  -- parts of a slot that may be left out, and of one that takes as much
  perhaps_by :
      (test : Bool) (role its_role : Role) (sorts its_sorts : List PartSort) (others slots : List Slot) → may_stand its_role its_sorts role sorts ≡ test
      → passes (is_within others) (if test then Some slots else None) ≡ true
      → ((left : List Slot) → is_within others left ≡ true → (parts : Parts Spelling) → Fits others parts → Fits left parts)
      → (parts : Parts Spelling) → Fits (Perhaps role sorts ∷ others) parts → Fits (Perhaps its_role its_sorts ∷ slots) parts
  perhaps_by false role its_role sorts its_sorts others slots stand may within parts fits = absurd (cc may)
  perhaps_by true role its_role sorts its_sorts others slots stand may within parts (left_out fits) = left_out (within slots may parts fits)
  perhaps_by true role its_role sorts its_sorts others slots stand may within parts (there {tree = tree} {parts = left} is fits) =
      stands tree left its_role role its_sorts sorts (Perhaps its_role its_sorts ∷ slots) slots slots stand refl (λ i f. there i f) is (within slots may left fits)

  perhaps_same :
      (role : Role) (sorts : List PartSort) (others slots : List Slot) → passes (is_within others) (behind_perhaps role sorts slots) ≡ true
      → ((left : List Slot) → is_within others left ≡ true → (parts : Parts Spelling) → Fits others parts → Fits left parts)
      → (parts : Parts Spelling) → Fits (Perhaps role sorts ∷ others) parts → Fits slots parts
  perhaps_same role sorts others (Perhaps its_role its_sorts ∷ slots) may within parts fits =
      perhaps_by (may_stand its_role its_sorts role sorts) role its_role sorts its_sorts others slots refl may within parts fits
  perhaps_same role sorts others [] may within parts fits = absurd (cc may)
  perhaps_same role sorts others (One its_role its_sorts ∷ slots) may within parts fits = absurd (cc may)
  perhaps_same role sorts others (Each its_role its_sorts ∷ slots) may within parts fits = absurd (cc may)
  perhaps_same role sorts others (DeclaratorSlots ∷ slots) may within parts fits = absurd (cc may)
  perhaps_same role sorts others (MemberSlots ∷ slots) may within parts fits = absurd (cc may)

  -- parts of one that may be left out: none, or one
  perhaps_within :
      (role : Role) (sorts : List PartSort) (others slots : List Slot) (same : Bool) → passes (is_within others) (behind_perhaps role sorts slots) ≡ same
      → (same || (is_within others slots && passes (is_within others) (step slots role sorts))) ≡ true
      → ((left : List Slot) → is_within others left ≡ true → (parts : Parts Spelling) → Fits others parts → Fits left parts)
      → (parts : Parts Spelling) → Fits (Perhaps role sorts ∷ others) parts → Fits slots parts
  perhaps_within role sorts others slots true same may within parts fits = perhaps_same role sorts others slots same within parts fits
  perhaps_within role sorts others slots false same may within parts (left_out fits) =
      within slots (both (is_within others slots) (passes (is_within others) (step slots role sorts)) may).0 parts fits
  perhaps_within role sorts others slots false same may within parts (there {tree = tree} {parts = left} is fits) =
      one_within role sorts others slots (step slots role sorts) refl (both (is_within others slots) (passes (is_within others) (step slots role sorts)) may).1 within tree
      left is fits

  -- parts of slots that stand again and again
  found_within :
      (test : Slot → Bool) (all others slots : List Slot) (found : Option (List Slot)) → from_first test slots ≡ found
      → passes (is_within others) found ≡ true
      → ((left : List Slot) → is_within others left ≡ true → (parts : Parts Spelling) → Fits others parts → Fits left parts)
      → ((slot : Slot) (rest : List Slot) → test slot ≡ true → ((parts : Parts Spelling) → Fits others parts → Fits (slot ∷ rest) parts)
      → (parts : Parts Spelling) → Fits all parts → Fits (slot ∷ rest) parts)
      → (parts : Parts Spelling) → Fits all parts → Fits slots parts
  found_within test all others slots None finds may within again parts fits = absurd (cc may)
  found_within test all others slots (Some left) finds may within again parts fits =
      let (slot, rest, is_left, is) = first_of_found test slots left finds in
      from_first-fits test slots left parts finds
      (subst (λ l. Fits l parts) (sym is_left)
      (again slot rest is (λ p f. subst (λ l. Fits l p) is_left (within left may p f)) parts fits))

  pub within-fits : (others slots : List Slot) → is_within others slots ≡ true → (parts : Parts Spelling) → Fits others parts → Fits slots parts
  within-fits [] slots is parts nothing = may_end-fits slots is
  within-fits (One role sorts ∷ others) slots may parts (one {tree = tree} {parts = left} is fits) =
      one_within role sorts others slots (step slots role sorts) refl may (within-fits others) tree left is fits
  within-fits (Perhaps role sorts ∷ others) slots may parts fits =
      perhaps_within role sorts others slots (passes (is_within others) (behind_perhaps role sorts slots)) refl may (within-fits others) parts fits
  within-fits (Each role sorts ∷ others) slots may parts fits =
      found_within (is_each role sorts) (Each role sorts ∷ others) others slots (from_first (is_each role sorts) slots) refl may (within-fits others) (each_within role sorts others) parts fits
  within-fits (DeclaratorSlots ∷ others) slots may parts fits =
      found_within is_declarators (DeclaratorSlots ∷ others) others slots (from_first is_declarators slots) refl may (within-fits others) (declarators_within others) parts fits
  within-fits (MemberSlots ∷ others) slots may parts fits =
      found_within is_members (MemberSlots ∷ others) others slots (from_first is_members slots) refl may (within-fits others) (members_within others) parts fits

  -- parts behind others fit slots behind others
  pub behind-fits : (first others : List Slot) (parts more : Parts Spelling) → Fits first parts → Fits others more → Fits (first ++ others) (with_parts parts more)
  behind-fits first others parts more nothing further = further
  behind-fits first others parts more (one is fits) further = one is (behind-fits _ others _ more fits further)
  behind-fits first others parts more (left_out fits) further = left_out (behind-fits _ others _ more fits further)
  behind-fits first others parts more (there is fits) further = there is (behind-fits _ others _ more fits further)
  behind-fits first others parts more (no_more fits) further = no_more (behind-fits _ others _ more fits further)
  behind-fits first others parts more (one_more is fits) further = one_more is (behind-fits _ others _ more fits further)
  behind-fits first others parts more (no_declarator fits) further = no_declarator (behind-fits _ others _ more fits further)
  behind-fits first others parts more (declarator fits) further = declarator (behind-fits _ others _ more fits further)
  behind-fits first others parts more (no_member fits) further = no_member (behind-fits _ others _ more fits further)
  behind-fits first others parts more (member fits) further = member (behind-fits _ others _ more fits further)
