-- What a list of enumerators says, with one more at its end.
use Rattle.std.proofs.Common.{◌≡◌, ℕ, Bool, true, false, ◌&&◌, ◌||◌, not, List, [], ◌∷◌, ◌++◌, Option, Some, None, is_none, if◌then◌else◌, refl, sym, ap, ◌∙◌}
use Rattle.std.specs.Option.{option_or}
use Rattle.std.proofs.lemmas.Option.{none-some}
use Rattle.vocabulary.specs.declared.int_kind.IntKind.{IntKind}
use Rattle.meaning_types.specs.Types.{TypeTree}
use Rattle.meaning_constants.specs.Enumerators.{holds, holds_all}
use Rattle.meaning_typing.specs.Enumerations.{EnumeratorValue, all_join, first_restricted, has_identity, is_plain_zero, with_kind}
use Rattle.meaning_typing.specs.EnumRows.{SeenEnumerator, counts_too_far, first_apart, has_no_next, own_type, value_in, values_of, with_value}
use Rattle.enum_rows.specs.Enumerations.{first_not_zero, first_unlike, joins, last_value, numbers_of}

pub and-true : (test : Bool) → (test && true) ≡ test
and-true true = refl
and-true false = refl

and-through : (a b c : Bool) → (a && (b && c)) ≡ ((a && b) && c)
and-through true b c = refl
and-through false b c = refl

or-false : (test : Bool) → (test || false) ≡ test
or-false true = refl
or-false false = refl

or-through : (a b c : Bool) → (a || (b || c)) ≡ ((a || b) || c)
or-through true b c = refl
or-through false b c = refl

-- Numbers

pub numbers-snoc : (kind : IntKind) (values : List EnumeratorValue) (value : EnumeratorValue)
    → holds_all kind (numbers_of (values ++ value ∷ [])) ≡ (holds_all kind (numbers_of values) && holds kind value.constant.number)
numbers-snoc kind [] value = and-true (holds kind value.constant.number)
numbers-snoc kind (first ∷ values) value =
    ap (λ others. holds kind first.constant.number && others) (numbers-snoc kind values value)
    ∙ and-through (holds kind first.constant.number) (holds_all kind (numbers_of values)) (holds kind value.constant.number)

-- The first restricted one

or-kind : (kind : IntKind) (identity : Option ℕ) (others last : Option (IntKind × ℕ))
    → with_kind kind identity (option_or others last) ≡ option_or (with_kind kind identity others) last
or-kind kind None others last = refl
or-kind kind (Some identity) others last = refl

-- the type of one, if it is restricted
abbrev pub restricted_alone : EnumeratorValue → Option (IntKind × ℕ)
restricted_alone value = with_kind value.constant.kind value.identity None

pub restricted-snoc : (values : List EnumeratorValue) (value : EnumeratorValue)
    → first_restricted (values ++ value ∷ []) ≡ option_or (first_restricted values) (restricted_alone value)
restricted-snoc [] value = refl
restricted-snoc (first ∷ values) value =
    ap (with_kind first.constant.kind first.identity) (restricted-snoc values value)
    ∙ or-kind first.constant.kind first.identity (first_restricted values) (restricted_alone value)

-- The first that is apart

unless-or : (test : Bool) (of : TypeTree) (others last : Option TypeTree)
    → (if test then option_or others last else Some of) ≡ option_or (if test then others else Some of) last
unless-or true of others last = refl
unless-or false of others last = refl

-- one that doesn't join
abbrev pub apart_alone : (shared : Option (IntKind × ℕ)) → EnumeratorValue → Option TypeTree
apart_alone shared value = if joins shared value then None else Some (own_type value)

apart-snoc : (kind : IntKind) (identity : ℕ) (values : List EnumeratorValue) (value : EnumeratorValue)
    → first_apart identity (values ++ value ∷ []) ≡ option_or (first_apart identity values) (apart_alone (Some (kind, identity)) value)
apart-snoc kind identity [] value = refl
apart-snoc kind identity (first ∷ values) value =
    ap (λ others. if has_identity identity first.identity || is_plain_zero first then others else Some (own_type first)) (apart-snoc kind identity values value)
    ∙ unless-or (has_identity identity first.identity || is_plain_zero first) (own_type first) (first_apart identity values) (apart_alone (Some (kind, identity)) value)

not_zero-snoc : (values : List EnumeratorValue) (value : EnumeratorValue)
    → first_not_zero (values ++ value ∷ []) ≡ option_or (first_not_zero values) (apart_alone None value)
not_zero-snoc [] value = refl
not_zero-snoc (first ∷ values) value =
    ap (λ others. if is_plain_zero first then others else Some (own_type first)) (not_zero-snoc values value)
    ∙ unless-or (is_plain_zero first) (own_type first) (first_not_zero values) (apart_alone None value)

-- where none is restricted, the plain constants 0 alone join
all-plain : (identity : ℕ) (values : List EnumeratorValue) → first_restricted values ≡ None → first_apart identity values ≡ first_not_zero values
all-plain identity [] plain = refl
all-plain identity (first ∷ values) plain = by first.identity refl plain (all-plain identity values)
  where
    by : (found : Option ℕ) → first.identity ≡ found → with_kind first.constant.kind found (first_restricted values) ≡ None
        → (first_restricted values ≡ None → first_apart identity values ≡ first_not_zero values)
        → first_apart identity (first ∷ values) ≡ first_not_zero (first ∷ values)
    by None is others later = λ i. if has_identity identity (is i) || is_plain_zero first then later others i else Some (own_type first)
    by (Some other) is others later = absurd (none-some (first.constant.kind, other) (sym others))

-- with one that may be the first restricted one
unlike-first : (values : List EnumeratorValue) (value : EnumeratorValue) → first_restricted values ≡ None → (identity : Option ℕ)
    → first_unlike (with_kind value.constant.kind identity None) (values ++ value ∷ [])
    ≡ option_or (first_not_zero values) (apart_alone (with_kind value.constant.kind identity None) value)
unlike-first values value plain None = not_zero-snoc values value
unlike-first values value plain (Some identity) =
    apart-snoc value.constant.kind identity values value
    ∙ ap (λ others. option_or others (apart_alone (Some (value.constant.kind, identity)) value)) (all-plain identity values plain)

unlike-by : (values : List EnumeratorValue) (value : EnumeratorValue) (before : Option (IntKind × ℕ)) → first_restricted values ≡ before
    → first_unlike (option_or before (restricted_alone value)) (values ++ value ∷ [])
    ≡ option_or (first_unlike before values) (apart_alone (option_or before (restricted_alone value)) value)
unlike-by values value None is = unlike-first values value is value.identity
unlike-by values value (Some (kind, identity)) is = apart-snoc kind identity values value

pub unlike-snoc : (values : List EnumeratorValue) (value : EnumeratorValue)
    → first_unlike (first_restricted (values ++ value ∷ [])) (values ++ value ∷ [])
    ≡ option_or (first_unlike (first_restricted values) values) (apart_alone (option_or (first_restricted values) (restricted_alone value)) value)
unlike-snoc values value =
    ap (λ found. first_unlike found (values ++ value ∷ [])) (restricted-snoc values value)
    ∙ unlike-by values value (first_restricted values) refl

-- all join where none is apart
join-if : (test : Bool) (of : TypeTree) (others : Option TypeTree) → (test && is_none others) ≡ is_none (if test then others else Some of)
join-if true of others = refl
join-if false of others = refl

pub all_join-is : (identity : ℕ) (values : List EnumeratorValue) → all_join identity values ≡ is_none (first_apart identity values)
all_join-is identity [] = refl
all_join-is identity (first ∷ values) =
    ap (λ others. (has_identity identity first.identity || is_plain_zero first) && others) (all_join-is identity values)
    ∙ join-if (has_identity identity first.identity || is_plain_zero first) (own_type first) (first_apart identity values)

-- Enumerators as they are seen

pub last-snoc : (before : Option EnumeratorValue) (list : List SeenEnumerator) (enumerator : SeenEnumerator)
    → last_value before (list ++ enumerator ∷ []) ≡ value_in enumerator.fact
last-snoc before [] enumerator = refl
last-snoc before (first ∷ list) enumerator = last-snoc (value_in first.fact) list enumerator

pub counts-snoc : (before : Option EnumeratorValue) (list : List SeenEnumerator) (enumerator : SeenEnumerator)
    → counts_too_far before (list ++ enumerator ∷ [])
    ≡ (counts_too_far before list || (not enumerator.has_expression && has_no_next (last_value before list)))
counts-snoc before [] enumerator = or-false (not enumerator.has_expression && has_no_next before)
counts-snoc before (first ∷ list) enumerator =
    ap (λ others. (not first.has_expression && has_no_next before) || others) (counts-snoc (value_in first.fact) list enumerator)
    ∙ or-through (not first.has_expression && has_no_next before) (counts_too_far (value_in first.fact) list)
    (not enumerator.has_expression && has_no_next (last_value (value_in first.fact) list))

-- values with one more, if it is known
abbrev pub with_last : Option (List EnumeratorValue) → Option EnumeratorValue → Option (List EnumeratorValue)
with_last (Some values) (Some value) = Some (values ++ value ∷ [])
with_last values value = None

last-alone : (value : Option EnumeratorValue) → with_value value (Some []) ≡ with_last (Some []) value
last-alone None = refl
last-alone (Some value) = refl

last-through : (first : Option EnumeratorValue) (values : Option (List EnumeratorValue)) (last : Option EnumeratorValue)
    → with_value first (with_last values last) ≡ with_last (with_value first values) last
last-through None values last = refl
last-through (Some first) None last = refl
last-through (Some first) (Some values) None = refl
last-through (Some first) (Some values) (Some value) = refl

pub values-snoc : (list : List SeenEnumerator) (enumerator : SeenEnumerator)
    → values_of (list ++ enumerator ∷ []) ≡ with_last (values_of list) (value_in enumerator.fact)
values-snoc [] enumerator = last-alone (value_in enumerator.fact)
values-snoc (first ∷ list) enumerator =
    ap (with_value (value_in first.fact)) (values-snoc list enumerator)
    ∙ last-through (value_in first.fact) (values_of list) (value_in enumerator.fact)
