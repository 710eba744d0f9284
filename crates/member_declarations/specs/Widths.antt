-- Widths by what a type is, apart from the types in it.
use Rattle.std.specs.Prelude.{ℕ, pos, Bool, ◌&&◌, List, [], ◌∷◌, ◌++◌, None, if◌then◌else◌}
use Rattle.vocabulary.specs.declared.error_kind.ErrorKind.TheVariants.{BadBitField, RestrictedBitField}
use Rattle.vocabulary.specs.declared.rule.RuleCode.TheVariants.{S7}
use Rattle.sparse_model.specs.declared.failure.Failure as kept
use Rattle.meaning_types.specs.Conversions.{is_signed}
use Rattle.meaning_operands.specs.Failures.{Failure, Broken}
use Rattle.meaning_typing.specs.Facts.{Fact}
use Rattle.meaning_typing.specs.MemberRows.{is_one, kind_width_broken}
use Rattle.meaning_typing.specs.Rows.{breaks_at, fails_with}
use Rattle.c_types.specs.declared.outline.Outline.{Outline}
use Rattle.c_types.specs.declared.outline.Outline.TheVariants as outlines

abbrev pub broken_in : Outline → (token : ℕ) → (is_named : Bool) → (size : Fact) → List Broken
broken_in (outlines.Integer kind) token is_named size = kind_width_broken token is_named kind size
broken_in (outlines.Restricted kind identity) token is_named size =
    kind_width_broken token is_named kind size ++ breaks_at RestrictedBitField token
broken_in outline token is_named size = breaks_at BadBitField token

abbrev pub failures_in : Outline → (token : ℕ) → (size : Fact) → List Failure
failures_in (outlines.Integer kind) token size = if is_signed kind && is_one size then fails_with S7 token 0 None None [] ∷ [] else []
failures_in outline token size = []

-- as it is kept
abbrev pub one_bit_signed : (token : ℕ) → kept.Failure
one_bit_signed token =
    record { token = token; rule = S7; part = 0; first = None; second = None; name = record { 0 = 0 }; number = pos 0; wanted = pos 0 }
