-- Failures whose texts speak of a name alone, and how those are listed that may be there.
use Rattle.std.specs.Prelude.{ℕ, zero, suc, pos, Bool, Option, Some, None, if◌then◌else◌}
use Rattle.vocabulary.specs.declared.rule.RuleCode.{RuleCode}
use Rattle.vocabulary.specs.declared.rule.RuleCode.TheVariants.{S2}
use Rattle.sparse_model.specs.declared.failure.Failure.{Failure}
use Rattle.sparse_model.specs.declared.ids.NameId.{NameId}

abbrev pub failure_with : RuleCode → (token : ℕ) → NameId → Failure
failure_with rule token name =
    record { token = token; rule = rule; part = 0; first = None; second = None; name = name; number = pos 0; wanted = pos 0 }

-- a name that hides another one, where its node has this number
abbrev pub hiding_with : (token number : ℕ) → NameId → (is_counted : Bool) → Option Failure
hiding_with token zero name is_counted = None
hiding_with token (suc hidden) name is_counted = if is_counted then Some (failure_with S2 token name) else None
