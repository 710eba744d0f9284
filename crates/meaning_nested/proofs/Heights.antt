-- Where the members of each structure lie in structures that were told before it, none lies in itself: its place is a height.
use Rattle.std.proofs.Common.{◌≡◌, ℕ, suc, ◌≤◌, max, nat_eq, Bool, true, false, ◌||◌, List, [], ◌∷◌, ◌++◌, All, refl, sym, ap, subst, ◌∙◌, arith, if◌then◌else◌, append_assoc, append-nil}
use Rattle.std.proofs.lemmas.List.Elements.{All-cons, All-nil}
use Rattle.meaning_types.specs.Types.{TypeTree, Typed, BaseTree, VoidTree, IntegerTree, RestrictedTree, PointerTree, ArrayTree, FunctionTree, AggregateTree}
use Rattle.meaning_layout.specs.Members.{DeclaredBody, DeclaredMember}
use Rattle.meaning_typing.specs.Aggregates.{Bodies}
use Rattle.meaning_initializers.specs.Parts.{aggregates_told, members_told}
use Rattle.meaning_initializers.specs.laws.Filling.{AreNested, height_of}

abbrev pub Members : Type 0
Members = List (DeclaredMember (List ℕ))

-- one of these bodies is that of the structure with this number
abbrev pub is_told : Bodies → ℕ → Bool
is_told [] number = false
is_told (entry ∷ bodies) number = nat_eq entry.0 number || is_told bodies number

-- what lies in an object of this type is among these
abbrev pub LiesAmong : (ℕ → Bool) → TypeTree → Type 0
LiesAmong among (Typed (ArrayTree element length) qualifiers flags) = LiesAmong among element
LiesAmong among (Typed (AggregateTree number is_union) qualifiers flags) = among number ≡ true
LiesAmong among (Typed base qualifiers flags) = Unit {0}

abbrev pub LieAmong : (ℕ → Bool) → Members → Type 0
LieAmong among [] = Unit {0}
LieAmong among (member ∷ members) = LiesAmong among member.of × LieAmong among members

-- none is higher
abbrev AreUnder : (heights : ℕ → ℕ) → (most : ℕ) → Members → Type 0
AreUnder heights most [] = Unit {0}
AreUnder heights most (member ∷ members) = (height_of heights member.of ≤ most) × AreUnder heights most members

-- These bodies nest: with heights, and each member lies in what they tell.
pub record Nesting (bodies : Bodies) : Type 0 where
  pub heights : ℕ → ℕ
  pub under : (number : ℕ) → AreUnder heights (heights number) (members_told bodies number)
  pub closed : (number : ℕ) → LieAmong (is_told bodies) (members_told bodies number)

-- Among more

pub lies-more : (among others : ℕ → Bool) → ((number : ℕ) → among number ≡ true → others number ≡ true) → (type_ : TypeTree) → LiesAmong among type_ → LiesAmong others type_
lies-more among others more (Typed VoidTree qualifiers flags) lies = tt
lies-more among others more (Typed (IntegerTree kind) qualifiers flags) lies = tt
lies-more among others more (Typed (RestrictedTree kind identity) qualifiers flags) lies = tt
lies-more among others more (Typed (PointerTree target) qualifiers flags) lies = tt
lies-more among others more (Typed (ArrayTree element length) qualifiers flags) lies = lies-more among others more element lies
lies-more among others more (Typed (FunctionTree result parameters variadic) qualifiers flags) lies = tt
lies-more among others more (Typed (AggregateTree number is_union) qualifiers flags) lies = more number lies

pub lie-more : (among others : ℕ → Bool) → ((number : ℕ) → among number ≡ true → others number ≡ true) → (members : Members) → LieAmong among members → LieAmong others members
lie-more among others more [] lie = tt
lie-more among others more (member ∷ members) lie = (lies-more among others more member.of lie.0, lie-more among others more members lie.1)

-- Heights

-- heights that are the same of what lies in a type
same-height : (among : ℕ → Bool) (heights others : ℕ → ℕ) → ((number : ℕ) → among number ≡ true → others number ≡ heights number)
    → (type_ : TypeTree) → LiesAmong among type_ → height_of others type_ ≡ height_of heights type_
same-height among heights others same (Typed VoidTree qualifiers flags) lies = refl
same-height among heights others same (Typed (IntegerTree kind) qualifiers flags) lies = refl
same-height among heights others same (Typed (RestrictedTree kind identity) qualifiers flags) lies = refl
same-height among heights others same (Typed (PointerTree target) qualifiers flags) lies = refl
same-height among heights others same (Typed (ArrayTree element length) qualifiers flags) lies = ap suc (same-height among heights others same element lies)
same-height among heights others same (Typed (FunctionTree result parameters variadic) qualifiers flags) lies = refl
same-height among heights others same (Typed (AggregateTree number is_union) qualifiers flags) lies = ap suc (same number lies)

same-under : (among : ℕ → Bool) (heights others : ℕ → ℕ) (most : ℕ) → ((number : ℕ) → among number ≡ true → others number ≡ heights number)
    → (members : Members) → LieAmong among members → AreUnder heights most members → AreUnder others most members
same-under among heights others most same [] lie under = tt
same-under among heights others most same (member ∷ members) lie under = (
  subst (λ height. height ≤ most) (sym (same-height among heights others same member.of lie.0)) under.0,
  same-under among heights others most same members lie.1 under.1,
)

abbrev highest : (heights : ℕ → ℕ) → Members → ℕ
highest heights [] = 0
highest heights (member ∷ members) = max (height_of heights member.of) (highest heights members)

under-most : (heights : ℕ → ℕ) (members : Members) (most : ℕ) → highest heights members ≤ most → AreUnder heights most members
under-most heights [] most least = tt
under-most heights (member ∷ members) most least = (omega (arith, least), under-most heights members most (omega (arith, least)))

-- One body more

members-more : (bodies : Bodies) (entry : ℕ × DeclaredBody (List ℕ)) (number : ℕ)
    → members_told (bodies ++ entry ∷ []) number
    ≡ (if is_told bodies number then members_told bodies number else (if nat_eq entry.0 number then entry.1.members else []))
members-more [] entry number = refl
members-more (first ∷ bodies) entry number = by (nat_eq first.0 number) (is_told bodies number) _ _ _ (members-more bodies entry number)
  where
    by : (is told : Bool) (later rest last : Members)
        → later ≡ (if told then rest else last)
        → (if is then first.1.members else later) ≡ (if is || told then (if is then first.1.members else rest) else last)
    by true told later rest last same = refl
    by false told later rest last same = same

pub is_told-append : (bodies others : Bodies) (number : ℕ) → is_told (bodies ++ others) number ≡ (is_told bodies number || is_told others number)
is_told-append [] others number = refl
is_told-append (entry ∷ bodies) others number = by (nat_eq entry.0 number) _ (is_told bodies number) (is_told others number) (is_told-append bodies others number)
  where
    by : (is all one other : Bool) → all ≡ (one || other) → (is || all) ≡ ((is || one) || other)
    by true all one other same = refl
    by false all one other same = same

told-first : (bodies others : Bodies) (number : ℕ) → is_told bodies number ≡ true → is_told (bodies ++ others) number ≡ true
told-first bodies others number is = is_told-append bodies others number ∙ ap (λ one. one || is_told others number) is

module _ (bodies : Bodies) (nesting : Nesting bodies) (entry : ℕ × DeclaredBody (List ℕ)) (lie : LieAmong (is_told bodies) entry.1.members) where
  abbrev raised : ℕ → ℕ
  raised number = if is_told bodies number then nesting.heights number else (if nat_eq entry.0 number then highest nesting.heights entry.1.members else 0)

  raised-same : (number : ℕ) → is_told bodies number ≡ true → raised number ≡ nesting.heights number
  raised-same number is = ap (λ told. if told then nesting.heights number else (if nat_eq entry.0 number then highest nesting.heights entry.1.members else 0)) is

  under-by : (number : ℕ) (told is : Bool)
      → AreUnder raised (if told then nesting.heights number else (if is then highest nesting.heights entry.1.members else 0))
      (if told then members_told bodies number else (if is then entry.1.members else []))
  under-by number true is = same-under (is_told bodies) nesting.heights raised (nesting.heights number) raised-same (members_told bodies number) (nesting.closed number) (nesting.under number)
  under-by number false true =
      same-under (is_told bodies) nesting.heights raised (highest nesting.heights entry.1.members) raised-same entry.1.members lie
      (under-most nesting.heights entry.1.members (highest nesting.heights entry.1.members) (omega arith))
  under-by number false false = tt

  closed-by : (number : ℕ) (told is : Bool) → LieAmong (is_told bodies) (if told then members_told bodies number else (if is then entry.1.members else []))
  closed-by number true is = nesting.closed number
  closed-by number false true = lie
  closed-by number false false = tt

  one-more : Nesting (bodies ++ entry ∷ [])
  one-more =
      record {
        heights = raised;
        under = λ number. subst (AreUnder raised (raised number)) (sym (members-more bodies entry number)) (under-by number (is_told bodies number) (nat_eq entry.0 number));
        closed = λ number.
            lie-more (is_told bodies) (is_told (bodies ++ entry ∷ [])) (told-first bodies (entry ∷ [])) (members_told (bodies ++ entry ∷ []) number)
            (subst (LieAmong (is_told bodies)) (sym (members-more bodies entry number)) (closed-by number (is_told bodies number) (nat_eq entry.0 number)));
      }

-- Bodies more, whose members lie in what was told before all of them

abbrev pub AllLieAmong : (ℕ → Bool) → Bodies → Type 0
AllLieAmong among [] = Unit {0}
AllLieAmong among (entry ∷ bodies) = LieAmong among entry.1.members × AllLieAmong among bodies

pub all-lie-more : (among others : ℕ → Bool) → ((number : ℕ) → among number ≡ true → others number ≡ true) → (bodies : Bodies) → AllLieAmong among bodies → AllLieAmong others bodies
all-lie-more among others more [] lie = tt
all-lie-more among others more (entry ∷ bodies) lie = (lie-more among others more entry.1.members lie.0, all-lie-more among others more bodies lie.1)

pub nested-none : Nesting []
nested-none = record { heights = λ number. 0; under = λ number. tt; closed = λ number. tt }

pub nested-more : (bodies others : Bodies) → Nesting bodies → AllLieAmong (is_told bodies) others → Nesting (bodies ++ others)
nested-more bodies [] nesting lie = subst Nesting (sym (append-nil bodies)) nesting
nested-more bodies (entry ∷ others) nesting lie =
    subst Nesting (append_assoc bodies (entry ∷ []) others)
    (nested-more (bodies ++ entry ∷ []) others (one-more bodies nesting entry lie.0)
    (all-lie-more (is_told bodies) (is_told (bodies ++ entry ∷ [])) (told-first bodies (entry ∷ [])) others lie.1))

-- So they are nested

all-under : (heights : ℕ → ℕ) (most : ℕ) (members : Members) → AreUnder heights most members → All (λ (member : DeclaredMember (List ℕ)). height_of heights member.of ≤ most) members
all-under heights most [] under = All-nil (λ (member : DeclaredMember (List ℕ)). height_of heights member.of ≤ most)
all-under heights most (member ∷ members) under =
    All-cons (λ (member : DeclaredMember (List ℕ)). height_of heights member.of ≤ most) member members under.0 (all-under heights most members under.1)

pub are-nested : (bodies : Bodies) → Nesting bodies → (heights : ℕ → ℕ) × AreNested (aggregates_told bodies) heights
are-nested bodies nesting = (nesting.heights, λ number. all-under nesting.heights (nesting.heights number) (members_told bodies number) (nesting.under number))
