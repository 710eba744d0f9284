-- What holds of definitions that agree.
use Rattle.std.specs.Prelude.{◌≡◌, true}
use Rattle.meaning_macros.specs.Macros.{Macro}
use Rattle.meaning_macros.specs.Agreement.{agree}

-- a definition agrees with itself, each of two with the other, and two with a third with each other
pub record AgreementIsAnEquivalence : Type 0 where
  pub itself : (m : Macro) → agree m m ≡ true
  pub turned : (m n : Macro) → agree m n ≡ true → agree n m ≡ true
  pub further : (m n o : Macro) → agree m n ≡ true → agree n o ≡ true → agree m o ≡ true
