use Rattle.std.proofs.Common.{◌≡◌, ◌+◌, ◌-◌, ◌≤◌, length, drop}
use Rattle.meaning_answer.specs.Options.{name_length}
use Rattle.ksparse.proofs.option.name_length.Given as goal

abbrev pub invariant-bytes : goal.invariant-bytes
invariant-bytes l =
    record {
      counted : l.count + name_length (drop l.count l.value) ≡ name_length l.value;
      within : l.count ≤ length l.value;
    }

abbrev pub decreases-bytes : goal.decreases-bytes
decreases-bytes l = length l.value - l.count
