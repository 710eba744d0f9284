-- Worked examples: failures side by side, in their order.
use Rattle.std.specs.Prelude.{◌≡◌, ℕ}
use Rattle.meaning_types.specs.Types.{no_flags}
use Rattle.meaning_first_rules.specs.Typing.{int_with}
use Rattle.meaning_first_rules.specs.Evaluation.{InAssignment}
use Rattle.meaning_first_rules.specs.Failures.{Cause, SpacesMixed, FlaggedAccess, Failure, rule_of, IsBefore}

abbrev pub mixed : Cause
mixed = SpacesMixed InAssignment (int_with no_flags) (int_with no_flags)

abbrev pub accessed : Cause
accessed = FlaggedAccess (int_with no_flags)

-- a failure at token 5
abbrev pub failing : Cause → ℕ → Failure
failing cause part = record { token = 5; part = part; cause = cause }

pub record OrderExamples : Type 0 where
  pub number_of_conversions : rule_of mixed ≡ 1
  pub number_of_accesses : rule_of accessed ≡ 4
  pub by_token : IsBefore (record { token = 4; part = 2; cause = accessed }) (failing mixed 1)
  -- at one token the rule counts before the part
  pub by_rule : IsBefore (failing mixed 2) (failing accessed 1)
  pub by_part : IsBefore (failing mixed 1) (failing mixed 2)
