-- The failing rules of a unit, and their order.
use Rattle.std.specs.Prelude.{◌≡◌, ℕ, ◌<◌, true, List, [], ◌∷◌, All, Contains, ◌⊎◌}
use Rattle.vocabulary.specs.declared.rule.RuleCode.{RuleCode}
use Rattle.vocabulary.specs.declared.rule.RuleCode.TheVariants.{A1, A4}
use Rattle.vocabulary.specs.Rules.{rule_number}
use Rattle.meaning_types.specs.Types.{TypeTree, flags_of, has_flag}
use Rattle.meaning_types.specs.Spaces.{MixSpaces}
use Rattle.meaning_tree.specs.Trees.{SyntaxTree}
use Rattle.meaning_first_rules.specs.Evaluation.{Access, Conversion, Position, accesses_in, conversions_in}

-- a rule that fails, with what its text names
pub data Cause : Type 0 where
  -- a conversion between pointers mixes address spaces
  SpacesMixed : (position : Position) (expected got : TypeTree) → Cause
  -- a load from or a store to a place whose type has a flag
  FlaggedAccess : (place : TypeTree) → Cause

-- A failure stands at a token. Where several conversions stand at one token, the part tells them apart.
pub record Failure : Type 0 where
  pub token : ℕ
  pub part : ℕ
  pub cause : Cause

-- the rule that fails
abbrev pub code_of : Cause → RuleCode
code_of (SpacesMixed position expected got) = A1
code_of (FlaggedAccess place) = A4

-- its number, by which failures at one token are ordered
abbrev pub rule_of : Cause → ℕ
rule_of cause = rule_number (code_of cause)

-- the failure that an access is where the place has a flag
abbrev pub access_failure : Access → Failure
access_failure access = record { token = access.token; part = 0; cause = FlaggedAccess access.place }

-- the failure that a conversion is where it mixes spaces
abbrev pub conversion_failure : Conversion → Failure
conversion_failure conversion =
    record { token = conversion.token; part = 0; cause = SpacesMixed conversion.position conversion.to conversion.from }

-- an access of the unit fails so
abbrev pub FailsByAccess : SyntaxTree → Failure → Type 0
FailsByAccess unit failure =
    (access : Access) × Contains (accesses_in unit) access × (has_flag (flags_of access.place) ≡ true) × (failure ≡ access_failure access)

-- a conversion of the unit fails so
abbrev pub FailsByConversion : SyntaxTree → Failure → Type 0
FailsByConversion unit failure =
    (conversion : Conversion) × Contains (conversions_in unit) conversion × MixSpaces conversion.to conversion.from × (failure ≡ conversion_failure conversion)

-- a rule fails so in the unit
abbrev pub Fails : SyntaxTree → Failure → Type 0
Fails unit failure = FailsByAccess unit failure ⊎ FailsByConversion unit failure

-- by token, then by rule, then by part
abbrev pub IsBefore : Failure → Failure → Type 0
IsBefore f g =
    (f.token < g.token)
    ⊎ ((f.token ≡ g.token) × ((rule_of f.cause < rule_of g.cause) ⊎ ((rule_of f.cause ≡ rule_of g.cause) × (f.part < g.part))))

-- each stands before all that follow
abbrev pub AreOrdered : List Failure → Type 0
AreOrdered [] = Unit {0}
AreOrdered (failure ∷ failures) = All (IsBefore failure) failures × AreOrdered failures

-- These are the unit's failures, each once, in order.
pub record IsListing (unit : SyntaxTree) (failures : List Failure) : Type 0 where
  pub sound : All (Fails unit) failures
  pub complete : (failure : Failure) → Fails unit failure → Contains failures failure
  pub ordered : AreOrdered failures
