-- How arms of `?:` are seen, before their condition is.
use Rattle.std.specs.Prelude.{Option, None, IfSome, [], option_map}
use Rattle.c_types.specs.Table.{TypeTable}
use Rattle.expression_rows.specs.declared.conditional.Arms.{Arms}
use Rattle.expression_rows.specs.declared.row.Broken.{Broken}
use Rattle.expression_rows.specs.Outcomes.{IsKnownType, given_fact}
use Rattle.expression_rows.specs.Rows.{Told, IsKnownFailure, broken_seen, failure_listed}

abbrev pub arms_seen : TypeTable → Arms → Told
arms_seen table arms =
    record {
      fact = given_fact table (option_map broken_seen arms.broken) arms.given;
      broken = option_map broken_seen arms.broken;
      failures = failure_listed table arms.failure;
      passed = [];
    }

pub record IsKnownArms (table : TypeTable) (arms : Arms) : Type 0 where
  pub given : IfSome arms.given (λ given. IsKnownType table given.of)
  pub failure : IfSome arms.failure (IsKnownFailure table)

-- nothing is known of them
abbrev pub no_arms : Option Broken → Arms
no_arms broken = record { given = None; broken = broken; failure = None }
