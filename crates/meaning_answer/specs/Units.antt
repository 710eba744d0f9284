-- The reply to a unit that is parsed, by the judgement of its nodes.
use Rattle.std.specs.Prelude.{◌≡◌, ℕ, ◌+◌, pos, List, [], ◌∷◌, ◌++◌, map, None, option_map, slice_get}
use Rattle.vocabulary.specs.declared.class.Class.{Class}
use Rattle.vocabulary.specs.declared.limit.LimitKind.TheVariants.{ObjectSize}
use Rattle.vocabulary.specs.declared.rule.RuleCode.TheVariants.{S3}
use Rattle.meaning_text.specs.Tokens.{Tok}
use Rattle.meaning_operands.specs.Failures.{Failure, Broken}
use Rattle.meaning_warnings.specs.Places.{ShownUnit, begins_at, path_of}
use Rattle.meaning_warnings.specs.Listing.{IsListing, unit_lines}
use Rattle.meaning_typing.specs.Rows.{Row}
use Rattle.meaning_typing.specs.Surroundings.{Surrounding}
use Rattle.meaning_typing.specs.Units.{UnitNodes}
use Rattle.meaning_rules.specs.Rules.{Judgement, Holds, BreaksConstraint, PassesObjectSize}
use Rattle.meaning_units.specs.WholeRows.{AreRows, facts_of}
use Rattle.meaning_contexts.specs.Failures.{AreContextFailures}
use Rattle.meaning_contexts.specs.Units.{judged_of}
use Rattle.meaning_unit_nodes.specs.Numbered.{spellings_told, told_behind, with_told}
use Rattle.meaning_names.specs.Spelled.{spelled_failure, spelled_name}
use Rattle.meaning_names.specs.TypeNames.{identity_of, tag_of}
use Rattle.meaning_answer.specs.Reply.{Ending, Clean, Warned, Reply}
use Rattle.meaning_answer.specs.Lines.{error_reply, limit_reply}

-- A unit that is parsed: the paths of its files by their numbers, its tokens, the identifiers that were left in the lines of `#if`, its
-- nodes, in which names are numbers of the spellings of its tokens, and what these stand in.
pub record ParsedUnit : Type 0 where
  pub files : List (List ℕ)
  pub tokens : List Tok
  pub undefined : List Tok
  pub nodes : UnitNodes
  pub surroundings : List Surrounding

-- Spellings

-- these, and behind them each of those that isn't among them
abbrev pub with_all_told : List (List ℕ) → (spellings : List (List ℕ)) → List (List ℕ)
with_all_told told [] = told
with_all_told told (spelling ∷ spellings) = with_all_told (with_told told spelling) spellings

-- all that are told of a unit: those of its tokens, whose numbers are the names in its nodes, and behind them those of the identifiers that
-- were left in the lines of `#if`, and its paths
abbrev pub spellings_in : ParsedUnit → List (List ℕ)
spellings_in unit = with_all_told (told_behind (spellings_told unit.tokens) unit.undefined) unit.files

-- a name of the unit, as it is spelled
abbrev pub name_in : ParsedUnit → (name : List ℕ) → List ℕ
name_in unit name = spelled_name (spellings_in unit) name

-- The constraint that it breaks

-- the line stands at its token, with the path of that token's file and the name that its text has
abbrev pub broken_reply : ParsedUnit → Broken → Reply
broken_reply unit broken =
    let at = begins_at (slice_get unit.tokens broken.token) in
    error_reply broken.constraint (path_of unit.files at.file) at (name_in unit broken.name)

-- The rules that fail

-- an identifier was left in the line of an `#if` or `#elif`
abbrev pub undefined_failure : (number : ℕ) → Tok → Failure
undefined_failure number tok =
    record { token = number; rule = S3; part = 0; first = None; second = None; name = tok.text; number = pos 0; wanted = pos 0 }

-- of each such identifier, with its number among them
abbrev pub undefined_failures : (number : ℕ) → List Tok → List Failure
undefined_failures number [] = []
undefined_failures number (tok ∷ toks) = undefined_failure number tok ∷ undefined_failures (number + 1) toks

-- the unit as its texts need it
abbrev pub shown_unit : ParsedUnit → ShownUnit
shown_unit unit =
    record {
      files = unit.files;
      tokens = unit.tokens;
      undefined = undefined_failures 0 unit.undefined;
      undefined_tokens = unit.undefined;
      tags = λ number. option_map (name_in unit) (tag_of unit.nodes number);
      identities = λ token. option_map (name_in unit) (identity_of unit.nodes unit.surroundings token);
    }

-- the lines of a listing: of the classes that are on, identifiers left in `#if` first
abbrev pub warnings_of : List Class → ParsedUnit → (listing : List Failure) → List ℕ
warnings_of classes unit listing = unit_lines (shown_unit unit) classes (map (spelled_failure (spellings_in unit)) listing)

-- where nothing is written no rule that is on fails
abbrev pub ending_behind : (warnings : List ℕ) → Ending
ending_behind [] = Clean
ending_behind (byte ∷ bytes) = Warned

abbrev pub warned_reply : (warnings : List ℕ) → Reply
warned_reply warnings = record { out = []; err = warnings; ending = ending_behind warnings }

-- What is told

-- what fails on the control paths of the functions of these nodes, by what is known of them
abbrev pub ArePathFailures : UnitNodes → List Surrounding → List Failure → Type 0
ArePathFailures nodes surroundings failures =
    (rows : List Row) × AreRows nodes surroundings rows × AreContextFailures (judged_of nodes surroundings (facts_of rows)) failures

-- a listing with them, in order and each once
abbrev pub IsWholeListing : UnitNodes → List Surrounding → (listing whole : List Failure) → Type 0
IsWholeListing nodes surroundings listing whole =
    (paths : List Failure) × ArePathFailures nodes surroundings paths × IsListing (listing ++ paths) whole

-- of a unit of which nothing is refused
abbrev pub TellsWarnings : List Class → ParsedUnit → (listing : List Failure) → Reply → Type 0
TellsWarnings classes unit listing reply =
    (whole : List Failure) × IsWholeListing unit.nodes unit.surroundings listing whole
    × (reply ≡ warned_reply (warnings_of classes unit whole))

-- by the judgement
abbrev pub TellsJudged : List Class → ParsedUnit → Judgement → Reply → Type 0
TellsJudged classes unit (BreaksConstraint broken) reply = reply ≡ broken_reply unit broken
TellsJudged classes unit PassesObjectSize reply = reply ≡ limit_reply ObjectSize
TellsJudged classes unit (Holds listing) reply = TellsWarnings classes unit listing reply
