-- The lower of two tokens that there may be.
use Rattle.std.specs.Prelude.{ℕ, Option, Some, None}
use Rattle.meaning_rules.specs.Rules.{lower}

abbrev pub lowest : Option ℕ → Option ℕ → Option ℕ
lowest None other = other
lowest (Some token) other = Some (lower token other)
