-- What fails where a value is tested.
use Rattle.std.proofs.Common.{◌≡◌, ℕ, Bool, true, false, ◌||◌, [], ◌∷◌, Some, None, if◌then◌else◌, refl}
use Rattle.vocabulary.specs.declared.rule.RuleCode.TheVariants.{B5}
use Rattle.meaning_types.specs.Types.{TypeTree}
use Rattle.meaning_operands.specs.Operands.{is_restricted}
use Rattle.meaning_typing.specs.Facts.{ExpressionFact, type_of_value}
use Rattle.meaning_typing.specs.Operators.{condition_failures, tested_failures}
use Rattle.meaning_typing.specs.Rows.{fails_with}

-- of two equal types either is told
either-told : (token : ℕ) (type_ : TypeTree) (restricted : Bool)
    → fails_with B5 token 0 (Some (if restricted then type_ else type_)) None [] ∷ [] ≡ fails_with B5 token 0 (Some type_) None [] ∷ []
either-told token type_ true = refl
either-told token type_ false = refl

by-mark : (token : ℕ) (type_ : TypeTree) (fouled : Bool)
    → tested_failures token type_ type_ (fouled || fouled) ≡ (if fouled then fails_with B5 token 0 (Some type_) None [] ∷ [] else [])
by-mark token type_ true = either-told token type_ (is_restricted type_)
by-mark token type_ false = refl

-- a fouled value is told with its type
pub tested_told : (token : ℕ) (of : ExpressionFact)
    → condition_failures token of ≡ (if of.is_fouled then fails_with B5 token 0 (Some (type_of_value of)) None [] ∷ [] else [])
tested_told token of = by-mark token (type_of_value of) of.is_fouled
