-- A rule of contexts that fails on a path is among what is listed, and its lines are written where the class is on.
use Rattle.std.proofs.Common.{◌≡◌, ℕ, ◌-◌, Bool, true, false, List, [], ◌∷◌, ◌++◌, map, slice_get, get_or, Some, if◌then◌else◌, refl, sym, ap, ◌∙◌, is_eq, Ordering, Less, Equal, Greater}
use Rattle.std.specs.Ordering.{ordering_then, nat_cmp}
use Rattle.std.proofs.lemmas.Cmp.{ranked, tied_itself}
use Rattle.std.proofs.lemmas.Option.{none-some}
use Rattle.vocabulary.specs.declared.class.Class.{Class}
use Rattle.vocabulary.specs.declared.class.Class.TheVariants.{Context}
use Rattle.vocabulary.specs.declared.rule.RuleCode.{RuleCode}
use Rattle.vocabulary.specs.declared.rule.RuleCode.TheVariants.{A1, A2, A3, A4, A5, A6, A7, B1, B2, B3, B4, B5, B6, B7, C1, C2, C3, N1, S1, S2, S3, S4, S5, S6, S7, S8}
use Rattle.vocabulary.specs.Rules.{all_rules, rule_class, rule_number}
use Rattle.meaning_operands.specs.Failures.{Failure}
use Rattle.meaning_warnings.specs.Listing.{are_one, first_like, is_on, lines_on, listing_lines, order_of}
use Rattle.meaning_warnings.specs.Places.{ShownUnit, begins_at, token_text}
use Rattle.meaning_warnings.specs.Warnings.{failure_lines, warning_of}
use Rattle.meaning_warnings.proofs.Listings.{total}
use Rattle.meaning_names.specs.Spelled.{spelled_failure}
use Rattle.meaning_answer.specs.Reply.{IsLine}
use Rattle.meaning_answer.proofs.ShapesOfReplies.{IsLine-told}

-- The class of a rule is known by its number

class_numbered : ℕ → Class
class_numbered number = get_or (map rule_class all_rules) (number - 1) Context

by-number : (rule : RuleCode) → rule_class rule ≡ class_numbered (rule_number rule)
unfolding class_numbered
by-number A1 = refl
by-number A2 = refl
by-number A3 = refl
by-number A4 = refl
by-number A5 = refl
by-number A6 = refl
by-number A7 = refl
by-number B1 = refl
by-number B2 = refl
by-number B3 = refl
by-number B4 = refl
by-number B5 = refl
by-number B6 = refl
by-number B7 = refl
by-number C1 = refl
by-number C2 = refl
by-number C3 = refl
by-number N1 = refl
by-number S1 = refl
by-number S2 = refl
by-number S3 = refl
by-number S4 = refl
by-number S5 = refl
by-number S6 = refl
by-number S7 = refl
by-number S8 = refl

-- so failures that are one are of one class

then-equal : (one other : Ordering) → ordering_then one other ≡ Equal → (one ≡ Equal) × (other ≡ Equal)
then-equal Less other is = absurd (cc is)
then-equal Greater other is = absurd (cc is)
then-equal Equal other is = (refl, is)

equal-is : (order : Ordering) → is_eq order ≡ true → order ≡ Equal
equal-is Equal is = refl
equal-is Less is = absurd (cc is)
equal-is Greater is = absurd (cc is)

same-class : (failure other : Failure) → are_one failure other ≡ true → rule_class failure.rule ≡ rule_class other.rule
same-class failure other one =
    let tokens = nat_cmp failure.token other.token in
    let rules = nat_cmp (rule_number failure.rule) (rule_number other.rule) in
    let both = then-equal (ordering_then tokens rules) (nat_cmp failure.part other.part) (equal-is (order_of failure other) one) in
    let same = ranked (rule_number failure.rule) (rule_number other.rule) Equal (sym (then-equal tokens rules both.0).1) in
    by-number failure.rule ∙ ap class_numbered same ∙ sym (by-number other.rule)

-- What is found

-- a failure that is one with this
abbrev pub IsLike : Failure → List Failure → Type 0
IsLike failure failures = (other : Failure) × (first_like failure failures ≡ Some other)

pub like-behind : (failure : Failure) (front back : List Failure) → IsLike failure (front ++ failure ∷ back)
like-behind failure [] back = (failure, rw (tied_itself total failure) refl)
like-behind failure (other ∷ front) back = by (are_one failure other) (like-behind failure front back)
  where
    by : (one : Bool) → IsLike failure (front ++ failure ∷ back)
        → (found : Failure) × ((if one then Some other else first_like failure (front ++ failure ∷ back)) ≡ Some found)
    by true behind = (other, refl)
    by false behind = behind

-- What is written

-- a text that ends with a line isn't empty
no-line : (text : List ℕ) → text ≡ [] → IsLine text → ⊥
no-line text none ([], is) = cc (none, is)
no-line text none (byte ∷ bytes, is) = cc (none, is)

no-line-if : (on : Bool) (text : List ℕ) → on ≡ true → IsLine text → (if on then text else []) ≡ [] → ⊥
no-line-if true text on line none = no-line text none line
no-line-if false text on line none = absurd (cc on)

pub both-empty : (front back : List ℕ) → front ++ back ≡ [] → (front ≡ []) × (back ≡ [])
both-empty [] back is = (refl, is)
both-empty (byte ∷ front) back is = absurd (cc is)

module _ (shown : ShownUnit) (classes : List Class) (names : List (List ℕ)) where
  abbrev lines_of : Failure → List ℕ
  lines_of failure = lines_on shown classes (slice_get shown.tokens failure.token) (spelled_failure names failure)

  -- of a class that is on
  line-written : (failure : Failure) → is_on classes (rule_class failure.rule) ≡ true → lines_of failure ≡ [] → ⊥
  line-written failure on none =
      let token = slice_get shown.tokens failure.token in
      let told = spelled_failure names failure in
      no-line-if (is_on classes (rule_class failure.rule)) (failure_lines shown token told) on
      (IsLine-told shown (begins_at token) told (warning_of shown (token_text token) told failure.rule)) none

  -- nothing is written, so none of the listing is like a failure of a class that is on
  pub none-listed : (failure : Failure) (listing : List Failure) → is_on classes (rule_class failure.rule) ≡ true
      → listing_lines shown classes (map (spelled_failure names) listing) ≡ [] → IsLike failure listing → ⊥
  none-listed failure [] on none (other, is) = none-some other is
  none-listed failure (first ∷ listing) on none (other, is) =
      let apart = both-empty (lines_of first) (listing_lines shown classes (map (spelled_failure names) listing)) none in
      by (are_one failure first) refl apart.0 is (λ behind. none-listed failure listing on apart.1 (other, behind))
    where
      by : (one : Bool) → are_one failure first ≡ one → lines_of first ≡ [] → (if one then Some first else first_like failure listing) ≡ Some other
          → (first_like failure listing ≡ Some other → ⊥) → ⊥
      by true one empty here behind = line-written first (ap (is_on classes) (sym (same-class failure first one)) ∙ on) empty
      by false one empty later behind = behind later
