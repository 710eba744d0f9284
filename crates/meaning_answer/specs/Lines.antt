-- The line of each refusal.
use Rattle.std.specs.Prelude.{ℕ, ◌-◌, Bool, true, false, List, [], ◌++◌, codes, length, min, slice_get, if◌then◌else◌}
use Rattle.vocabulary.specs.declared.error_kind.ErrorKind.{ErrorKind}
use Rattle.vocabulary.specs.declared.error_kind.ErrorKind.TheVariants as errors
use Rattle.vocabulary.specs.declared.limit.LimitKind.{LimitKind}
use Rattle.vocabulary.specs.Limits.{limit_name}
use Rattle.meaning_text.specs.Places.{At}
use Rattle.meaning_text.specs.Tokens.{Tok}
use Rattle.meaning_derivation.specs.State.{Fault, IsError, PassesLimit}
use Rattle.meaning_preprocessing.specs.State.{Stop, Refuses, Passes}
use Rattle.meaning_warnings.specs.Errors.{error_lines}
use Rattle.meaning_warnings.specs.Places.{begins_at, path_of, token_text}
use Rattle.meaning_answer.specs.Reply.{Refused, Usage, Limit, Reply, line}

-- Refusals

-- the first word that no rule allows
abbrev pub bad_word_reply : List ℕ → Reply
bad_word_reply word = line Usage (codes "ksparse: bad word: " ++ word)

-- an operand is wanting
abbrev pub missing_file_reply : Reply
missing_file_reply = line Usage (codes "ksparse: missing file")

-- a quantity passed its number
abbrev pub limit_text : LimitKind → List ℕ
limit_text kind = codes "ksparse: limit: " ++ limit_name kind

abbrev pub limit_reply : LimitKind → Reply
limit_reply kind = line Limit (limit_text kind)

-- an error that names this word, or none
abbrev pub error_reply : ErrorKind → List ℕ → At → List ℕ → Reply
error_reply kind path at word = record { out = []; err = error_lines kind path at word; ending = Refused }

-- a unit that ends early
abbrev pub stop_reply : Stop → Reply
stop_reply (Refuses refusal) = error_reply refusal.kind refusal.path refusal.place refusal.word
stop_reply (Passes kind) = limit_reply kind

-- these errors of parsing name the token at which they stand
abbrev pub names_its_token : ErrorKind → Bool
names_its_token errors.SyntaxError = true
names_its_token errors.NotDeclared = true
names_its_token errors.Redeclared = true
names_its_token kind = false

-- the token as it is spelled, a digraph as its own; behind the last one there is none
abbrev pub named_word : ErrorKind → List Tok → (stands : ℕ) → List ℕ
named_word kind tokens stands = if names_its_token kind then token_text (slice_get tokens stands) else []

-- where the token stands; a file that ends too early is told at its last token
abbrev pub refusal_place : List Tok → (stands : ℕ) → At
refusal_place tokens stands = begins_at (slice_get tokens (min stands (length tokens - 1)))

-- tokens that parsing refuses for this, which stands there
abbrev pub refusal_reply : (files : List (List ℕ)) → List Tok → Fault → (stands : ℕ) → Reply
refusal_reply files tokens (IsError kind) stands =
    let at = refusal_place tokens stands in
    error_reply kind (path_of files at.file) at (named_word kind tokens stands)
refusal_reply files tokens (PassesLimit limit) stands = limit_reply limit
