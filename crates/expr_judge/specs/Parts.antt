-- What is asked of what is known of a node.
use Rattle.std.specs.Prelude.{ℕ, List, Option, Some, None, get_or, map}
use Rattle.meaning_typing.specs.Expressions.{Argument}
use Rattle.meaning_typing.specs.Facts as meaning
use Rattle.node_facts.specs.declared.expression.ExpressionFact.{ExpressionFact}
use Rattle.node_facts.specs.declared.declared.DeclaredFact.{DeclaredFact}
use Rattle.node_facts.specs.declared.fact.NodeFact.{NodeFact}
use Rattle.node_facts.specs.declared.fact.NodeFact.TheVariants as facts

abbrev pub kept_at : List NodeFact → (handle : ℕ) → NodeFact
kept_at kept handle = get_or kept handle facts.Unknown

-- of an expression, if it is one
abbrev pub expression_in : NodeFact → Option ExpressionFact
expression_in (facts.Expression expression) = Some expression
expression_in fact = None

-- of a declarator
abbrev pub declaration_in : NodeFact → Option DeclaredFact
declaration_in (facts.Declared declaration) = Some declaration
declaration_in fact = None

-- an expression, or nothing
abbrev pub only_expression : meaning.Fact → meaning.Fact
only_expression (meaning.Expression expression) = meaning.Expression expression
only_expression fact = meaning.Unknown

-- arguments, each as an expression or nothing
abbrev pub only_arguments : List Argument → List Argument
only_arguments arguments = map (λ argument. record { token = argument.token; fact = only_expression argument.fact }) arguments
