-- A unit of which nothing is refused has its listing.
use Rattle.std.proofs.Common.{◌≡◌, ℕ, List, Option, Some, None, Bool, true, false, nat_le, if◌then◌else◌, subst}
use Rattle.std.proofs.lemmas.Option.{none-some, same_Some}
use Rattle.meaning_operands.specs.Failures.{Broken, Failure}
use Rattle.meaning_warnings.specs.Listing.{IsListing}
use Rattle.meaning_typing.specs.Rows.{Row}
use Rattle.meaning_typing.specs.Surroundings.{Surrounding}
use Rattle.meaning_typing.specs.Units.{UnitNodes}
use Rattle.meaning_units.specs.WholeRules.{IsJudged, broken_in, failures_in, holds, passed_in, refused}
use Rattle.meaning_rules.specs.Rules.{BreaksConstraint, Holds, Judgement, PassesObjectSize, first_refusal, least_broken, least_token}

-- the failures of a judgement, where it has some, list what was found
abbrev pub Lists : List Failure → Judgement → Type 0
Lists found (Holds listing) = IsListing found listing
Lists found (BreaksConstraint broken) = Unit {0}
Lists found PassesObjectSize = Unit {0}

module _ (found : List Failure) where
  refusal-lists : (broken : Option Broken) (limit : Option ℕ) (judgement : Judgement) → first_refusal broken limit ≡ Some judgement → Lists found judgement
  refusal-lists None None judgement some = absurd (none-some judgement some)
  refusal-lists (Some broken) None judgement some = subst (Lists found) (same_Some _ _ some) tt
  refusal-lists None (Some token) judgement some = subst (Lists found) (same_Some _ _ some) tt
  refusal-lists (Some broken) (Some token) judgement some = first-of (nat_le broken.token token) some
    where
      first-of : (test : Bool) → (if test then Some (BreaksConstraint broken) else Some PassesObjectSize) ≡ Some judgement → Lists found judgement
      first-of true is = subst (Lists found) (same_Some _ _ is) tt
      first-of false is = subst (Lists found) (same_Some _ _ is) tt

pub judged-lists :
    (nodes : UnitNodes) (surroundings : List Surrounding) (rows : List Row) (judgement : Judgement)
    → IsJudged nodes surroundings rows judgement → Lists (failures_in nodes surroundings rows) judgement
judged-lists nodes surroundings rows _ (holds listing none lists) = lists
judged-lists nodes surroundings rows _ (refused judgement some) = refusal-lists (failures_in nodes surroundings rows) (least_broken (broken_in nodes rows)) (least_token (passed_in nodes rows)) judgement some
