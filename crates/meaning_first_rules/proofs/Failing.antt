-- Lists of failures that are just those of some accesses and conversions.
use Rattle.std.proofs.Common.{◌≡◌, true, List, [], ◌++◌, All, Contains, ◌⊎◌, inl, inr}
use Rattle.std.proofs.lemmas.List.Elements.{All-nil, All-append, All-weaker, Contains-append_cases, Contains-append_left, Contains-append_right}
use Rattle.meaning_types.specs.Types.{flags_of, has_flag}
use Rattle.meaning_types.specs.Spaces.{MixSpaces}
use Rattle.meaning_first_rules.specs.Evaluation.{Access, Conversion}
use Rattle.meaning_first_rules.specs.Failures.{Failure, access_failure, conversion_failure}
use Rattle.meaning_first_rules.proofs.Elements.{Contains-nil}

-- one of the accesses fails so
abbrev pub AccessFails : List Access → Failure → Type 0
AccessFails accesses failure =
    (access : Access) × Contains accesses access × (has_flag (flags_of access.place) ≡ true) × (failure ≡ access_failure access)

-- one of the conversions fails so
abbrev pub ConversionFails : List Conversion → Failure → Type 0
ConversionFails conversions failure =
    (conversion : Conversion) × Contains conversions conversion × MixSpaces conversion.to conversion.from × (failure ≡ conversion_failure conversion)

-- one of either fails so
abbrev pub EitherFails : List Access → List Conversion → Failure → Type 0
EitherFails accesses conversions failure = AccessFails accesses failure ⊎ ConversionFails conversions failure

-- The failures are just those of these accesses and conversions.
pub record AreThose (failures : List Failure) (accesses : List Access) (conversions : List Conversion) : Type 0 where
  pub sound : All (EitherFails accesses conversions) failures
  pub complete : (failure : Failure) → EitherFails accesses conversions failure → Contains failures failure

-- what fails goes on failing with more behind it
EitherFails-append_left :
    (accesses more : List Access) (conversions further : List Conversion) (failure : Failure) →
    EitherFails accesses conversions failure → EitherFails (accesses ++ more) (conversions ++ further) failure
EitherFails-append_left accesses more conversions further failure (inl h) = inl (h.0, Contains-append_left accesses more h.0 h.1, h.2, h.3)
EitherFails-append_left accesses more conversions further failure (inr h) = inr (h.0, Contains-append_left conversions further h.0 h.1, h.2, h.3)

-- and with more before it
EitherFails-append_right :
    (accesses more : List Access) (conversions further : List Conversion) (failure : Failure) →
    EitherFails more further failure → EitherFails (accesses ++ more) (conversions ++ further) failure
EitherFails-append_right accesses more conversions further failure (inl h) = inl (h.0, Contains-append_right accesses more h.0 h.1, h.2, h.3)
EitherFails-append_right accesses more conversions further failure (inr h) = inr (h.0, Contains-append_right conversions further h.0 h.1, h.2, h.3)

-- what fails in two parts fails in one of them
EitherFails-append_cases :
    (accesses more : List Access) (conversions further : List Conversion) (failure : Failure) →
    EitherFails (accesses ++ more) (conversions ++ further) failure → EitherFails accesses conversions failure ⊎ EitherFails more further failure
EitherFails-append_cases accesses more conversions further failure (inl h) =
    elim (Contains-append_cases accesses more h.0 h.1) [ inl k ↦ inl (inl (h.0, k, h.2, h.3)) | inr k ↦ inr (inl (h.0, k, h.2, h.3)) ]
EitherFails-append_cases accesses more conversions further failure (inr h) =
    elim (Contains-append_cases conversions further h.0 h.1) [ inl k ↦ inl (inr (h.0, k, h.2, h.3)) | inr k ↦ inr (inr (h.0, k, h.2, h.3)) ]

-- where nothing is accessed or converted nothing fails
pub AreThose-nil : AreThose [] [] []
AreThose-nil = record { sound = All-nil (EitherFails [] []); complete = none }
  where
    none : (failure : Failure) → EitherFails [] [] failure → Contains [] failure
    none failure (inl h) = absurd (Contains-nil h.0 h.1)
    none failure (inr h) = absurd (Contains-nil h.0 h.1)

-- the failures of two parts are those of the one, then those of the other
pub AreThose-append :
    (failures others : List Failure) (accesses more : List Access) (conversions further : List Conversion) →
    AreThose failures accesses conversions → AreThose others more further → AreThose (failures ++ others) (accesses ++ more) (conversions ++ further)
AreThose-append failures others accesses more conversions further h k = record {
  sound = All-append both failures others
      (All-weaker (EitherFails accesses conversions) both (EitherFails-append_left accesses more conversions further) failures h.sound)
      (All-weaker (EitherFails more further) both (EitherFails-append_right accesses more conversions further) others k.sound);
  complete = λ failure e. elim (EitherFails-append_cases accesses more conversions further failure e) [
    | inl l ↦ Contains-append_left failures others failure (h.complete failure l)
    | inr r ↦ Contains-append_right failures others failure (k.complete failure r)
  ];
}
  where
    both : Failure → Type 0
    both = EitherFails (accesses ++ more) (conversions ++ further)
