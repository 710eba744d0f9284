-- Failures of a class that are found are listed, or one of the same class is in their place.
use Rattle.std.proofs.Common.{◌≡◌, ℕ, Bool, true, false, ◌||◌, nat_eq, List, [], ◌∷◌, Contains, Some, if◌then◌else◌, ◌⊎◌, inl, inr, refl, sym, ap, subst, ◌∙◌, is_eq, Ordering, Less, Equal, Greater}
use Rattle.std.specs.Ordering.{ordering_then, nat_cmp}
use Rattle.std.proofs.lemmas.Cmp.{ranked, tied_itself}
use Rattle.std.proofs.lemmas.Option.{none-some, same_Some}
use Rattle.vocabulary.specs.Rules.{rule_class, rule_number}
use Rattle.vocabulary.specs.declared.class.Class.{Class}
use Rattle.vocabulary.specs.declared.class.Class.TheVariants.{AddressSpace}
use Rattle.vocabulary.specs.declared.rule.RuleCode.{RuleCode}
use Rattle.vocabulary.specs.declared.rule.RuleCode.TheVariants.{A1, A2, A3, A4, A5, A6, A7, B1, B2, B3, B4, B5, B6, B7, C1, C2, C3, N1, S1, S2, S3, S4, S5, S6, S7, S8}
use Rattle.meaning_operands.specs.Failures.{Failure}
use Rattle.meaning_warnings.specs.Listing.{IsListing, are_one, first_like, order_of}
use Rattle.meaning_warnings.proofs.Listings.{total}
use Rattle.meaning_first_rules.proofs.Elements.{Contains-nil, Contains-cons_cases, Contains-cons_head, Contains-cons_tail}

-- The class of a rule is known by its number

abbrev is_class_of_spaces : Class → Bool
is_class_of_spaces AddressSpace = true
is_class_of_spaces class_ = false

abbrev is_number_of_spaces : ℕ → Bool
is_number_of_spaces number =
    nat_eq number 1 || (nat_eq number 2 || (nat_eq number 3 || (nat_eq number 4 || (nat_eq number 5 || nat_eq number 7))))

by-number : (rule : RuleCode) → is_class_of_spaces (rule_class rule) ≡ is_number_of_spaces (rule_number rule)
by-number A1 = refl
by-number A2 = refl
by-number A3 = refl
by-number A4 = refl
by-number A5 = refl
by-number A6 = refl
by-number A7 = refl
by-number B1 = refl
by-number B2 = refl
by-number B3 = refl
by-number B4 = refl
by-number B5 = refl
by-number B6 = refl
by-number B7 = refl
by-number C1 = refl
by-number C2 = refl
by-number C3 = refl
by-number N1 = refl
by-number S1 = refl
by-number S2 = refl
by-number S3 = refl
by-number S4 = refl
by-number S5 = refl
by-number S6 = refl
by-number S7 = refl
by-number S8 = refl

class-is : (class_ : Class) → is_class_of_spaces class_ ≡ true → class_ ≡ AddressSpace
class-is AddressSpace is = refl
class-is class_ is = absurd (cc is)

same-class : (rule other : RuleCode) → rule_number rule ≡ rule_number other → rule_class rule ≡ AddressSpace → rule_class other ≡ AddressSpace
same-class rule other same is =
    class-is (rule_class other)
    (by-number other ∙ ap is_number_of_spaces (sym same) ∙ sym (by-number rule) ∙ ap is_class_of_spaces is)

-- Failures that are one

then-equal : (one other : Ordering) → ordering_then one other ≡ Equal → (one ≡ Equal) × (other ≡ Equal)
then-equal Less other is = absurd (cc is)
then-equal Greater other is = absurd (cc is)
then-equal Equal other is = (refl, is)

equal-is : (order : Ordering) → is_eq order ≡ true → order ≡ Equal
equal-is Equal is = refl
equal-is Less is = absurd (cc is)
equal-is Greater is = absurd (cc is)

same-rule : (failure other : Failure) → are_one failure other ≡ true → rule_number failure.rule ≡ rule_number other.rule
same-rule failure other one =
    let tokens = nat_cmp failure.token other.token in
    let rules = nat_cmp (rule_number failure.rule) (rule_number other.rule) in
    let parts = nat_cmp failure.part other.part in
    let both = then-equal (ordering_then tokens rules) parts (equal-is (order_of failure other) one) in
    ranked (rule_number failure.rule) (rule_number other.rule) Equal (sym (then-equal tokens rules both.0).1)

-- Lists of failures

-- a failure is found for each that is there
found-first : (failure : Failure) (failures : List Failure) → Contains failures failure → (other : Failure) × (first_like failure failures ≡ Some other)
found-first failure [] among = absurd (Contains-nil failure among)
found-first failure (first ∷ failures) among = by (are_one failure first) refl (Contains-cons_cases first failures failure among) (λ behind. found-first failure failures behind)
  where
    by : (one : Bool) → are_one failure first ≡ one → (first ≡ failure) ⊎ Contains failures failure
        → (Contains failures failure → (other : Failure) × (first_like failure failures ≡ Some other))
        → (other : Failure) × ((if one then Some first else first_like failure failures) ≡ Some other)
    by true is cases behind = (first, refl)
    by false is (inr later) behind = behind later
    by false is (inl same) behind =
        absurd (cc (sym is ∙ ap (are_one failure) same ∙ ap is_eq (tied_itself total failure)))

-- and is one of them
first-is : (failure other : Failure) (failures : List Failure) → first_like failure failures ≡ Some other → Contains failures other × (are_one failure other ≡ true)
first-is failure other [] is = absurd (none-some other is)
first-is failure other (first ∷ failures) is = by (are_one failure first) refl is (λ behind. first-is failure other failures behind)
  where
    by : (one : Bool) → are_one failure first ≡ one → (if one then Some first else first_like failure failures) ≡ Some other
        → (first_like failure failures ≡ Some other → Contains failures other × (are_one failure other ≡ true))
        → Contains (first ∷ failures) other × (are_one failure other ≡ true)
    by true one here behind =
        let same = same_Some first other here in
        (subst (Contains (first ∷ failures)) same (Contains-cons_head first failures), sym (ap (are_one failure) same) ∙ one)
    by false one later behind = let rest = behind later in (Contains-cons_tail first failures other rest.0, rest.1)

-- where one of the class is found, one of it is listed
pub listed :
    (found listing : List Failure) → IsListing found listing → (failure : Failure) → Contains found failure → rule_class failure.rule ≡ AddressSpace
    → (other : Failure) × Contains listing other × (rule_class other.rule ≡ AddressSpace)
listed found listing lists failure among is =
    let first = found-first failure found among in
    let other = first-is failure first.0 listing (lists.same failure ∙ first.1) in
    (first.0, other.0, same-class failure.rule first.0.rule (same-rule failure first.0 other.1) is)
