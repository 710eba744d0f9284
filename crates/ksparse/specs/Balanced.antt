-- What silence says of contexts: the functions of the unit that the words name are balanced.
use Rattle.std.specs.Prelude.{◌≡◌, ℕ, true, List}
use Rattle.vocabulary.specs.declared.class.Class.TheVariants.{Context}
use Rattle.meaning_outside.specs.Files.{FileMap}
use Rattle.meaning_outside.specs.Loads.{Loaded, AgreesWith}
use Rattle.meaning_warnings.specs.Listing.{is_on}
use Rattle.meaning_preprocessing.specs.Unit.{PreprocessedUnit, IsPreprocessedUnit}
use Rattle.meaning_answer.specs.Reply.{Ending, Clean}
use Rattle.meaning_answer.specs.Requests.{Request, BadWord, MissingFile, Check, Expand, request_of}
use Rattle.meaning_answer.specs.laws.Balance.{AreBalancedTokens}

-- The words ask to check a unit whose tokens derive balanced functions, if the class of contexts is on. The question for tokens promises
-- nothing of paths.
abbrev pub NamesBalancedUnit : Request → FileMap → Type 0
NamesBalancedUnit (BadWord position word) files = ⊥
NamesBalancedUnit MissingFile files = ⊥
NamesBalancedUnit (Check options path) files =
    is_on options.classes Context ≡ true
    → (unit : PreprocessedUnit) × IsPreprocessedUnit options.preprocessing files path unit × AreBalancedTokens unit.tokens
NamesBalancedUnit (Expand options path) files = Unit {0}

-- A clean ending says so, in each map that agrees with the loads.
abbrev pub IsBalancedIfClean : List (List ℕ) → List Loaded → Ending → Type 0
IsBalancedIfClean words loads ending = ending ≡ Clean → (files : FileMap) → AgreesWith files loads → NamesBalancedUnit (request_of words) files
