-- Tests of targets that there are.
use Rattle.std.specs.Prelude.{Bool, false, Option, Some}
use Rattle.meaning_types.specs.Types.{TypeTree}

-- both are there and pass
abbrev pub of_both_targets : (TypeTree → TypeTree → Bool) → Option TypeTree → Option TypeTree → Bool
of_both_targets test (Some target) (Some other) = test target other
of_both_targets test target other = false
