-- How the answers of `preprocess` are seen by the definitions of `meaning_preprocessing`.
use Rattle.std.specs.Prelude.{◌≡◌, ℕ, ◌+◌, List, [], ◌∷◌, map, All, None, IfSome, pos, codes}
use Rattle.vocabulary.specs.declared.rule.RuleCode.TheVariants.{S3}
use Rattle.meaning_outside.specs.Files.{FileMap, file_at}
use Rattle.meaning_preprocessing.specs.Groups.{Evaluation}
use Rattle.meaning_preprocessing.specs.Unit.{Setting, PreprocessedUnit, Ends, EndsEarly, IsPreprocessedUnit, unit_limits}
use Rattle.meaning_preprocessing.specs.Unit as unit
use Rattle.sparse_model.specs.declared.failure.Failure.{Failure}
use Rattle.sparse_model.specs.declared.options.Options.{Options}
use Rattle.c_tokens.specs.declared.token.Token.{Token}
use Rattle.c_tokens.specs.Seen.{IsKnown, text_of, toks_of}
use Rattle.c_directives.specs.Conditions.{AreKnown}
use Rattle.c_preproc.specs.States.{stop_of}
use Rattle.c_preproc.specs.declared.pre_fault.PreFault.{PreFault}
use Rattle.c_preproc.specs.declared.unit.UnitTokens.{UnitTokens}

abbrev pub options_seen : Options → unit.Options
options_seen options = record { directories = options.dirs; command = options.commands }

-- what holds for a unit over this map
abbrev pub setting_of : unit.Options → FileMap → Evaluation → Setting
setting_of options map value = record { options = options; files = file_at map; value = value; limits = unit_limits }

-- it is the preprocessed unit of the path
abbrev pub IsUnit : unit.Options → FileMap → List ℕ → List (List ℕ) → UnitTokens → Type 0
IsUnit options files path names found =
    (paths : List (List ℕ)) × (map (text_of names) found.files ≡ codes "<command>" ∷ paths)
    × IsPreprocessedUnit options files path (record { tokens = toks_of names found.tokens; end = Ends (toks_of names found.undef_tokens) paths })

-- the preprocessed unit of the path ends as the fault says
abbrev pub EndsEarlySo : unit.Options → FileMap → List ℕ → List (List ℕ) → PreFault → Type 0
EndsEarlySo options files path names fault =
    IfSome (stop_of names fault) (λ stop. (whole : PreprocessedUnit) × (whole.end ≡ EndsEarly stop) × IsPreprocessedUnit options files path whole)

-- a failure for each of these tokens, by their numbers from this one on
abbrev pub failures_from : ℕ → List Token → List Failure
failures_from number [] = []
failures_from number (t ∷ ts) =
    record { token = number; rule = S3; part = 0; first = None; second = None; name = t.name; number = pos 0; wanted = pos 0 }
    ∷ failures_from (number + 1) ts

-- each id of a unit is one of the table
pub record IsKnownUnit (names : List (List ℕ)) (found : UnitTokens) : Type 0 where
  pub tokens : AreKnown names found.tokens
  pub undef_tokens : AreKnown names found.undef_tokens
  pub files : All (IsKnown names) found.files
