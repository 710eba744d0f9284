-- What a declarator declares, and what a name stands for.
use Rattle.std.proofs.Common.{◌≡◌, ◌<◌, ◌≤◌, ℕ, nat_lt, true, false, Option, Some, None, refl, arith}
use Rattle.std.proofs.lemmas.Bool.Decides.{nat_tests}
use Rattle.meaning_types.specs.Types.{TypeTree}
use Rattle.meaning_typing.specs.Facts as meaning
use Rattle.meaning_typing.specs.Statements.{result_declared, result_in}
use Rattle.expression_rows.specs.Names.{declared_by}

-- the result of the function that is declared, if one is
abbrev pub result_of_declaration : Option meaning.DeclaredFact → Option TypeTree
result_of_declaration None = None
result_of_declaration (Some declaration) = result_in declaration.type_

pub result_declared-by : (fact : meaning.Fact) → result_of_declaration (declared_by fact) ≡ result_declared fact
result_declared-by meaning.Unknown = refl
result_declared-by (meaning.Expression expression) = refl
result_declared-by (meaning.Specified specifiers) = refl
result_declared-by (meaning.Declared declaration) = refl
result_declared-by (meaning.NamedType type_) = refl

-- Tests

pub lt_true : (one other : ℕ) → one < other → nat_lt one other ≡ true
lt_true one other below = grind (arith, nat_tests)

pub lt_false : (one other : ℕ) → other ≤ one → nat_lt one other ≡ false
lt_false one other behind = grind (arith, nat_tests)
