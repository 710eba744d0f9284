-- `return` of a void value from a void function.
use Rattle.std.proofs.Common.{◌≡◌, ℕ, Bool, true, false, ◌&&◌, [], ◌∷◌, ◌++◌, Option, Some, None, if◌then◌else◌, refl, ap}
use Rattle.std.proofs.lemmas.List.{append-nil}
use Rattle.vocabulary.specs.declared.rule.RuleCode.TheVariants.{S4}
use Rattle.meaning_types.specs.Types.{TypeTree}
use Rattle.meaning_types.specs.Spaces.{is_void}
use Rattle.meaning_typing.specs.Facts.{Fact, Unknown, Expression, Specified, Declared, NamedType, ExpressionFact, type_of_value}
use Rattle.meaning_typing.specs.Rows.{Row, breaks, breaks_at, fails_with, nothing}
use Rattle.vocabulary.specs.declared.error_kind.ErrorKind.TheVariants.{ValueReturnedFromVoid}
use Rattle.meaning_typing.specs.Statements.{return_row, returned}
use Rattle.meaning_statements.specs.Statements.{hands_void_on, says, whole_return_row}

-- of a void value from a void function nothing else is said
nothing-else : (of result : Bool) (other : Row) (token : ℕ) → (result && of) ≡ true
    → (if result then (if of then nothing else breaks (breaks_at ValueReturnedFromVoid token)) else other) ≡ nothing
nothing-else true true other token both = refl
nothing-else false true other token both = absurd (cc both)
nothing-else of false other token both = absurd (cc both)

returned-void : (token value : ℕ) (expression : ExpressionFact) (result : TypeTree) → (is_void result && is_void (type_of_value expression)) ≡ true
    → returned token value expression result ≡ nothing
returned-void token value expression result both = nothing-else (is_void (type_of_value expression)) (is_void result) _ token both

with-one : (token : ℕ) (row : Row) → row ≡ nothing
    → record row { failures = row.failures ++ fails_with S4 token 0 None None [] ∷ [] } ≡ says [] (fails_with S4 token 0 None None [] ∷ [])
with-one token row is = ap (λ (row : Row). record row { failures = row.failures ++ fails_with S4 token 0 None None [] ∷ [] }) is

handed : (token value : ℕ) (fact : Option Fact) (result : Option TypeTree) → hands_void_on fact result ≡ true → return_row token value fact result ≡ nothing
handed token value fact None on = refl
handed token value None (Some result) on = absurd (cc on)
handed token value (Some (Expression expression)) (Some result) on = returned-void token value expression result on
handed token value (Some Unknown) (Some result) on = refl
handed token value (Some (Specified fact)) (Some result) on = refl
handed token value (Some (Declared fact)) (Some result) on = refl
handed token value (Some (NamedType type_)) (Some result) on = refl

pub void_on : (token value : ℕ) (fact : Option Fact) (result : Option TypeTree) → hands_void_on fact result ≡ true
    → whole_return_row token value fact result ≡ says [] (fails_with S4 token 0 None None [] ∷ [])
void_on token value fact result on = rw on (with-one token (return_row token value fact result) (handed token value fact result on))

with-none : (row : Row) → record row { failures = row.failures ++ [] } ≡ row
with-none row = ap (λ failures. record row { failures = failures }) (append-nil row.failures)

pub not_on : (token value : ℕ) (fact : Option Fact) (result : Option TypeTree) → hands_void_on fact result ≡ false
    → whole_return_row token value fact result ≡ return_row token value fact result
not_on token value fact result off = rw off (with-none (return_row token value fact result))
