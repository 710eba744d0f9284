-- What is asked of what is known of a declarator is what the definitions ask.
use Rattle.std.proofs.Common.{◌≡◌, Option, Some, None, refl}
use Rattle.meaning_types.specs.Types.{TypeTree}
use Rattle.meaning_typing.specs.Facts as meaning
use Rattle.meaning_typing.specs.Statements as statements
use Rattle.expression_rows.specs.Names.{declared_by}

abbrev pub result_of_declaration : Option meaning.DeclaredFact → Option TypeTree
result_of_declaration None = None
result_of_declaration (Some declaration) = statements.result_in declaration.type_

pub result_declared-by : (fact : meaning.Fact) → result_of_declaration (declared_by fact) ≡ statements.result_declared fact
result_declared-by meaning.Unknown = refl
result_declared-by (meaning.Expression expression) = refl
result_declared-by (meaning.Specified specifiers) = refl
result_declared-by (meaning.Declared declaration) = refl
result_declared-by (meaning.NamedType type_) = refl
