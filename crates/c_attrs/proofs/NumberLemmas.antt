-- A literal that is refused has no value.
use Rattle.std.proofs.Common.{◌≡◌, ℕ, None, Result, Err, List, refl}
use Rattle.sparse_model.specs.declared.int_const.IntConst.{IntConst}
use Rattle.meaning_literals.specs.Constants.{FloatingFault, BadDigitFault, BadSuffixFault, TooBigFault}
use Rattle.meaning_literals.specs.Integers.{integer_of}
use Rattle.meaning_attributes.specs.Tokens.{constant_value}
use Rattle.c_literals.specs.declared.fault.LiteralFault.{LiteralFault}
use Rattle.c_literals.specs.declared.fault.LiteralFault.TheVariants.{BadDigit, BadSuffix, TooBig, Floating, BadEscape, Empty, Wide, Universal, Memory}
use Rattle.c_literals.specs.Seen.{IsIntegerFault}

-- the answer of a literal
abbrev Answer : Type 0
Answer = Result IntConst LiteralFault

abbrev refused : LiteralFault → Answer
refused fault = Err fault

pub refused-none : (text : List ℕ) (fault : LiteralFault) → IsIntegerFault fault
    → (refused fault ≡ refused Floating → integer_of text ≡ Err FloatingFault) → (refused fault ≡ refused BadDigit → integer_of text ≡ Err BadDigitFault)
    → (refused fault ≡ refused BadSuffix → integer_of text ≡ Err BadSuffixFault) → (refused fault ≡ refused TooBig → integer_of text ≡ Err TooBigFault)
    → None ≡ constant_value (integer_of text)
refused-none text Floating is floating digit suffix big = rw (floating refl) refl
refused-none text BadDigit is floating digit suffix big = rw (digit refl) refl
refused-none text BadSuffix is floating digit suffix big = rw (suffix refl) refl
refused-none text TooBig is floating digit suffix big = rw (big refl) refl
refused-none text BadEscape is floating digit suffix big = absurd is
refused-none text Empty is floating digit suffix big = absurd is
refused-none text Wide is floating digit suffix big = absurd is
refused-none text Universal is floating digit suffix big = absurd is
refused-none text Memory is floating digit suffix big = absurd is
