-- Evaluations that are right are equal, and so are the units by them.
use Rattle.std.proofs.Common.{◌≡◌, ℕ, ◌≤◌, true, false, nat_lt, length, take, refl, ap, sym, ◌∙◌, arith, length-take}
use Rattle.std.proofs.lemmas.Bool.{ltb-false}
use Rattle.vocabulary.specs.declared.limit.LimitKind.TheVariants.{UnitTokens}
use Rattle.meaning_outside.specs.Files.{file_at}
use Rattle.meaning_conditions.proofs.Valuing.{answers_exist, answers_are_those}
use Rattle.meaning_conditions.specs.plain.Reading.{answer_of}
use Rattle.meaning_preprocessing.specs.State.{Passes, IsOver, Piece, and_then}
use Rattle.meaning_preprocessing.specs.Groups.{Evaluation}
use Rattle.meaning_preprocessing.specs.Unit.{Setting, first_state, command_piece, main_piece, capped, unit_limits, preprocessed, IsEvaluation}
use Rattle.meaning_preprocessing.specs.laws.Units.{UnitsExist, UnitsAreUnique, UnitsAreWithinTheLimit}

same_evaluations : (value other : Evaluation) → IsEvaluation value → IsEvaluation other → value ≡ other
same_evaluations value other h k i tokens =
    (answers_are_those tokens (value tokens) (h tokens) ∙ sym (answers_are_those tokens (other tokens) (k tokens))) i

pub units_are_unique : UnitsAreUnique
units_are_unique options files path unit other h k =
    sym h.2 ∙ ap (λ value. preprocessed value options files path) (same_evaluations h.0 k.0 h.1 k.1) ∙ k.2

pub units_exist : UnitsExist
units_exist options files path = (answer_of, answers_exist, refl)

pub capped_within : (most : ℕ) (piece : Piece) → length (capped most piece).tokens ≤ most
capped_within most piece =
    elim (nat_lt most (length piece.tokens)) as (λ v. nat_lt most (length piece.tokens) ≡ v
    → length (elim v as (λ _. Piece) [
      | true ↦ record { tokens = take most piece.tokens; ending = IsOver (Passes UnitTokens) }
      | false ↦ piece
    ]).tokens ≤ most) [
      | true ↦ λ e. omega (arith, length-take most piece.tokens)
      | false ↦ λ e. ltb-false most (length piece.tokens) e
    ] refl

pub units_are_within_the_limit : UnitsAreWithinTheLimit
unfolding preprocessed
units_are_within_the_limit value options files path =
    let setting : Setting = record { options = options; files = file_at files; value = value; limits = unit_limits } in
    capped_within unit_limits.unit_tokens
    (and_then (command_piece setting (first_state unit_limits path)) (main_piece setting path))
