-- Statements that are drawn as trees, for the examples, and what is said of the units in which they stand.
use Rattle.std.specs.Prelude.{ℕ, zero, suc, ◌+◌, List, [], ◌∷◌, ◌++◌, length, take, codes}
use Rattle.vocabulary.specs.declared.node_kind.NodeKind.{NodeKind}
use Rattle.vocabulary.specs.declared.node_kind.NodeKind.TheVariants as kinds
use Rattle.vocabulary.specs.declared.role.Role.TheVariants.{Condition, Evaluated, Unevaluated}
use Rattle.meaning_tree.specs.Trees.{SyntaxTree, Node, NoParts, Part}
use Rattle.meaning_operands.specs.Failures.{Broken}
use Rattle.meaning_typing.specs.Units.{UnitNodes}
use Rattle.meaning_typing.specs.Surroundings.{Surrounding}
use Rattle.meaning_typing.specs.Facts.{Fact}
use Rattle.meaning_typing.specs.Building.{facts_of, surroundings_of}
use Rattle.meaning_typing.specs.examples.Drawn.{declaration, declarator, in_body, leaf, named, nodes_of, number, over}
use Rattle.meaning_statements.specs.StatementRows.{statement_row_at}

-- Statements, each at its token

-- behind a condition
abbrev pub under : NodeKind → (token : ℕ) → (condition : SyntaxTree) → (body : SyntaxTree) → SyntaxTree
under kind token condition body = Node kind token [] 0 (Part Condition condition (Part Evaluated body NoParts))

abbrev pub while_loop : (token : ℕ) → (condition body : SyntaxTree) → SyntaxTree
while_loop token condition body = under kinds.WhileStatement token condition body

abbrev pub switch : (token : ℕ) → (value body : SyntaxTree) → SyntaxTree
switch token value body = under kinds.SwitchStatement token value body

abbrev pub do_loop : (token : ℕ) → (body condition : SyntaxTree) → SyntaxTree
do_loop token body condition = Node kinds.DoStatement token [] 0 (Part Evaluated body (Part Condition condition NoParts))

-- `for (;; step) body`, whose `;`s stand at this token
abbrev pub endless : (token : ℕ) → (step body : SyntaxTree) → SyntaxTree
endless token step body =
    Node kinds.ForStatement token [] 0
    (Part Evaluated (leaf kinds.OmittedExpression token)
    (Part Condition (leaf kinds.OmittedExpression token) (Part Evaluated step (Part Evaluated body NoParts))))

abbrev pub omitted : (token : ℕ) → SyntaxTree
omitted token = leaf kinds.OmittedExpression token

-- whose label stands at the token behind
abbrev pub case : (token : ℕ) → (label : ℕ) → (statement : SyntaxTree) → SyntaxTree
case token label statement = Node kinds.CaseStatement token [] 0 (Part Unevaluated (number (token + 1) label) (Part Evaluated statement NoParts))

abbrev pub default : (token : ℕ) → (statement : SyntaxTree) → SyntaxTree
default token statement = over kinds.DefaultStatement token (statement ∷ [])

abbrev pub labelled : (token : ℕ) → (name : List ℕ) → (statement : SyntaxTree) → SyntaxTree
labelled token name statement = Node kinds.LabelStatement token name 0 (Part Evaluated statement NoParts)

abbrev pub goto : (token : ℕ) → (name : List ℕ) → SyntaxTree
goto token name = named kinds.GotoStatement token name 0

abbrev pub break : (token : ℕ) → SyntaxTree
break token = leaf kinds.BreakStatement token

abbrev pub continue : (token : ℕ) → SyntaxTree
continue token = leaf kinds.ContinueStatement token

abbrev pub return : (token : ℕ) → (value : List SyntaxTree) → SyntaxTree
return token value = over kinds.ReturnStatement token value

abbrev pub empty : (token : ℕ) → SyntaxTree
empty token = over kinds.ExpressionStatement token []

abbrev pub expression : (token : ℕ) → SyntaxTree → SyntaxTree
expression token value = over kinds.ExpressionStatement token (value ∷ [])

abbrev pub braces : (token : ℕ) → (statements : List SyntaxTree) → SyntaxTree
braces token statements = over kinds.CompoundStatement token statements

-- `({ .. })`
abbrev pub inner : (token : ℕ) → (statements : List SyntaxTree) → SyntaxTree
inner token statements = over kinds.StatementExpression token (braces (token + 1) statements ∷ [])

-- and as a statement
abbrev pub inner_statement : (token : ℕ) → (statements : List SyntaxTree) → SyntaxTree
inner_statement token statements = expression token (inner token statements)

-- Units

-- `typeof(({ .. })) k;` at file scope, whose statements begin at token 4
abbrev pub outside : List SyntaxTree → UnitNodes
outside statements =
    nodes_of
    (declaration 0 (Node kinds.TypeofExpression 0 [] 0 (Part Unevaluated (inner 2 statements) NoParts) ∷ []) (declarator 30 (codes "k") [] ∷ []) ∷ [])

-- what the first so many nodes break as statements
abbrev pub broken_before : UnitNodes → List Surrounding → List Fact → (count : ℕ) → List Broken
broken_before nodes surroundings facts zero = []
broken_before nodes surroundings facts (suc count) =
    broken_before nodes surroundings facts count ++ (statement_row_at nodes surroundings (take count facts) count).broken

abbrev pub broken_of : UnitNodes → List Broken
broken_of nodes = broken_before nodes (surroundings_of nodes) (facts_of nodes (surroundings_of nodes)) (length nodes)

-- in the body of f, which begins at token 33
abbrev pub breaking : List SyntaxTree → List Broken
breaking statements = broken_of (in_body statements)
