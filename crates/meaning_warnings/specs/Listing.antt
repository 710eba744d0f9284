-- All failures of a unit: their order, and their text.
use Rattle.std.specs.Prelude.{◌≡◌, ℕ, Bool, nat_eq, List, [], ◌∷◌, ◌++◌, Option, Some, None, slice_get, if◌then◌else◌}
use Rattle.std.specs.List.{flat_map, list_any, AllByRecursion}
use Rattle.std.specs.declared.cmp.Ordering.{Ordering}
use Rattle.std.specs.declared.cmp.Ordering.TheVariants.{Less}
use Rattle.std.specs.Ordering.{ordering_then, nat_cmp, is_eq}
use Rattle.vocabulary.specs.declared.class.Class.{Class}
use Rattle.vocabulary.specs.declared.class.Class.TheVariants.{AddressSpace, Bitwise, Context, NonPointerNull, CastToAs, Decl, Shadow, Undef, ReturnVoid, DoWhile, StrictPrototypes, OneBitSignedBitfield, CastTruncate}
use Rattle.vocabulary.specs.Rules.{rule_class, rule_number}
use Rattle.meaning_text.specs.Tokens.{Tok}
use Rattle.meaning_operands.specs.Failures.{Failure}
use Rattle.meaning_warnings.specs.Places.{ShownUnit}
use Rattle.meaning_warnings.specs.Warnings.{failure_lines}

-- The order

-- which of two failures goes first: by the token, then by the number of the rule, then by the part
abbrev pub order_of : Failure → Failure → Ordering
order_of failure other =
    ordering_then (ordering_then (nat_cmp failure.token other.token) (nat_cmp (rule_number failure.rule) (rule_number other.rule)))
    (nat_cmp failure.part other.part)

-- they agree in all three, and so are one failure
abbrev pub are_one : Failure → Failure → Bool
are_one failure other = is_eq (order_of failure other)

-- the first of the failures that is one with this
abbrev pub first_like : Failure → List Failure → Option Failure
first_like failure [] = None
first_like failure (other ∷ failures) = if are_one failure other then Some other else first_like failure failures

-- each goes before all behind it
abbrev pub AreOrdered : List Failure → Type 0
AreOrdered [] = Unit {0}
AreOrdered (failure ∷ failures) = AllByRecursion (λ other. order_of failure other ≡ Less) failures × AreOrdered failures

-- the failures that were found, in order and each once: of those that are one the first is told
pub record IsListing (found listing : List Failure) : Type 0 where
  pub ordered : AreOrdered listing
  pub same : (failure : Failure) → first_like failure listing ≡ first_like failure found

-- The text

-- classes are told apart by their places in the list of all
abbrev pub class_index : Class → ℕ
class_index AddressSpace = 0
class_index Bitwise = 1
class_index Context = 2
class_index NonPointerNull = 3
class_index CastToAs = 4
class_index Decl = 5
class_index Shadow = 6
class_index Undef = 7
class_index ReturnVoid = 8
class_index DoWhile = 9
class_index StrictPrototypes = 10
class_index OneBitSignedBitfield = 11
class_index CastTruncate = 12

-- the class is among those that are on
abbrev pub is_on : List Class → Class → Bool
is_on classes class_ = list_any (λ other. nat_eq (class_index other) (class_index class_)) classes

-- the lines of a failure, if its class is on
abbrev pub lines_on : ShownUnit → List Class → Option Tok → Failure → List ℕ
lines_on shown classes token failure = if is_on classes (rule_class failure.rule) then failure_lines shown token failure else []

-- those of preprocessing, all of them in the order in which they were met: each stands at the token with its number
abbrev pub undefined_lines : ShownUnit → List Class → List Failure → List Tok → List ℕ
undefined_lines shown classes [] tokens = []
undefined_lines shown classes (failure ∷ failures) [] =
    lines_on shown classes None failure ++ undefined_lines shown classes failures []
undefined_lines shown classes (failure ∷ failures) (token ∷ tokens) =
    lines_on shown classes (Some token) failure ++ undefined_lines shown classes failures tokens

-- those of a listing
abbrev pub listing_lines : ShownUnit → List Class → List Failure → List ℕ
listing_lines shown classes failures = flat_map (λ failure. lines_on shown classes (slice_get shown.tokens failure.token) failure) failures

-- both
abbrev pub unit_lines : ShownUnit → List Class → (listing : List Failure) → List ℕ
unit_lines shown classes listing =
    undefined_lines shown classes shown.undefined shown.undefined_tokens ++ listing_lines shown classes listing

-- the text of a unit of which these failures were found
pub record IsUnitText (shown : ShownUnit) (classes : List Class) (found : List Failure) (text : List ℕ) : Type 0 where
  pub listing : List Failure
  pub lists : IsListing found listing
  pub tells : text ≡ unit_lines shown classes listing
