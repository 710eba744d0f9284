-- The unit of the examples: three files, and names for some numbers.
use Rattle.std.specs.Prelude.{ℕ, ◌==◌, false, pos, List, [], ◌∷◌, codes, Option, Some, None, if◌then◌else◌}
use Rattle.vocabulary.specs.declared.token_kind.TokenKind.TheVariants.{Identifier}
use Rattle.vocabulary.specs.declared.rule.RuleCode.{RuleCode}
use Rattle.meaning_text.specs.Places.{At}
use Rattle.meaning_text.specs.Tokens.{Tok}
use Rattle.meaning_types.specs.Types.{TypeTree}
use Rattle.meaning_operands.specs.Failures.{Failure}
use Rattle.meaning_warnings.specs.Places.{ShownUnit}

abbrev pub place_in : ℕ → ℕ → ℕ → At
place_in file line column = record { file = file; line = line; column = column }

abbrev pub a_place : At
a_place = place_in 1 3 28

-- a token in the checked file, spelled so
abbrev pub token_at : List ℕ → At → Tok
token_at text at = record { kind = Identifier; text = text; at = at; space_before = false; line_start = false }

abbrev pub a_token : Tok
a_token = token_at (codes "x") a_place

-- two tags, and two identities
abbrev pub tag_of : ℕ → Option (List ℕ)
tag_of number = if number == 5 then Some (codes "s") else (if number == 6 then Some (codes "g") else None)

abbrev pub identity_named : ℕ → Option (List ℕ)
identity_named number = if number == 7 then Some (codes "le32") else (if number == 8 then Some (codes "te") else None)

-- with these tokens, and these failures of preprocessing at their own
abbrev pub unit_of : List Tok → List Failure → List Tok → ShownUnit
unit_of tokens undefined undefined_tokens =
    record {
      files = codes "<command>" ∷ codes "t.c" ∷ codes "t.h" ∷ [];
      tokens = tokens;
      undefined = undefined;
      undefined_tokens = undefined_tokens;
      tags = tag_of;
      identities = identity_named;
    }

abbrev pub a_unit : ShownUnit
a_unit = unit_of [] [] []

-- Failures

-- a failure of a rule at a token, with one or two types
abbrev pub failure_at : ℕ → ℕ → Option TypeTree → Option TypeTree → RuleCode → Failure
failure_at token part first second rule =
    record { token = token; rule = rule; part = part; first = first; second = second; name = codes "n"; number = pos 300; wanted = pos 44 }

abbrev pub bare_failure : RuleCode → Failure
bare_failure rule = failure_at 0 0 None None rule
