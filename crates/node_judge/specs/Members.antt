-- Failures that name no types: those of members and of widths.
use Rattle.std.specs.Prelude.{◌≡◌, List, All, None}
use Rattle.meaning_operands.specs.Failures.{Failure}

abbrev pub NameNoTypes : List Failure → Type 0
NameNoTypes failures = All (λ failure. (failure.first ≡ None) × (failure.second ≡ None)) failures
