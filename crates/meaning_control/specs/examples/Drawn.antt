-- Small functions that are drawn as trees. Behind
--   int f(int) __attribute__((context(l,0,1))); void die(void) __attribute__((noreturn));
-- each is the body of int t(int a, int b) { .. }, whose `{` is token 0.
use Rattle.std.specs.Prelude.{ℕ, ◌-◌, ◌^◌, ℤ, pos, Bool, true, false, nat_eq, List, [], ◌∷◌, codes, map, drop, length, Option, Some, None, if◌then◌else◌}
use Rattle.std.specs.Str.{bytes_eq}
use Rattle.vocabulary.specs.declared.node_kind.NodeKind.{NodeKind}
use Rattle.vocabulary.specs.declared.node_kind.NodeKind.TheVariants as kinds
use Rattle.vocabulary.specs.declared.role.Role.TheVariants.{Evaluated, Condition, Unevaluated}
use Rattle.meaning_types.specs.Types.{TypeTree, FunctionTree, NoTypes}
use Rattle.meaning_paths.specs.Steps.{Step, Point, Add, Call, End}
use Rattle.meaning_tree.specs.Trees.{SyntaxTree, Node, NoParts, Part, parts_of}
use Rattle.meaning_tree.specs.Nodes.{TreeNode}
use Rattle.meaning_typing.specs.Units.{UnitNodes, node_at, kind_at, child_at}
use Rattle.meaning_typing.specs.Facts.{Fact, Unknown, Declared}
use Rattle.meaning_typing.specs.Specifiers.{plain_type}
use Rattle.meaning_typing.specs.examples.Drawn as drawn
use Rattle.meaning_control.specs.Nodes.{JudgedUnit}
use Rattle.meaning_control.specs.plain.Paths.{paths_of}

-- Steps

abbrev pub at : ℕ → Step
at token = Point token false

abbrev pub moment : ℕ → Step
moment token = Point token true

abbrev pub adds : ℕ → ℤ → Step
adds token by = Add token 0 by

-- a call of f
abbrev pub calls : ℕ → Step
calls token = Call token 0 (pos 0) (pos 1)

abbrev pub ends : ℕ → Step
ends token = End token

-- Expressions

abbrev pub number : (token value : ℕ) → SyntaxTree
number = drawn.number

-- an object: no handle of a function
abbrev pub object : (token : ℕ) → SyntaxTree
object token = drawn.named kinds.Name token (codes "a") 2

-- f and die are declared at handles 0 and 1
abbrev pub f : (token : ℕ) → SyntaxTree
f token = drawn.named kinds.Name token (codes "f") 0

abbrev pub die : (token : ℕ) → SyntaxTree
die token = drawn.named kinds.Name token (codes "die") 1

abbrev pub over : NodeKind → (token : ℕ) → List SyntaxTree → SyntaxTree
over = drawn.over

-- one whose first part is a condition
abbrev pub deciding : NodeKind → (token : ℕ) → (condition : SyntaxTree) → List SyntaxTree → SyntaxTree
deciding kind token condition parts = Node kind token [] 0 (Part Condition condition (parts_of Evaluated parts))

-- `f(a)`, with its `(` at this token
abbrev pub call_f : (token : ℕ) → SyntaxTree
call_f token = over kinds.Call token (f (token - 1) ∷ object token ∷ [])

abbrev pub call_die : (token : ℕ) → SyntaxTree
call_die token = over kinds.Call token (die (token - 1) ∷ [])

-- a compound statement, with its `}`
abbrev pub block : (token brace : ℕ) → List SyntaxTree → SyntaxTree
block token brace items = Node kinds.CompoundStatement token [] brace (parts_of Evaluated items)

abbrev pub statement_expression : (token : ℕ) → List SyntaxTree → SyntaxTree
statement_expression token items = over kinds.StatementExpression token (block token token items ∷ [])

-- Statements

abbrev pub empty : (token : ℕ) → SyntaxTree
empty token = over kinds.ExpressionStatement token []

abbrev pub expression : (token : ℕ) → SyntaxTree → SyntaxTree
expression token value = over kinds.ExpressionStatement token (value ∷ [])

-- a context statement that adds so many, or that takes so many away
abbrev pub context : (token by : ℕ) → SyntaxTree
context token by = Node kinds.ContextStatement token [] by NoParts

abbrev pub takes : (token by : ℕ) → SyntaxTree
takes token by = context token (2 ^ 64 - by)

abbrev pub case : (token number : ℕ) → SyntaxTree → SyntaxTree
case token value statement = Node kinds.CaseStatement token [] 0 (Part Unevaluated (number token value) (Part Evaluated statement NoParts))

abbrev pub do_loop : (token while_token : ℕ) → (body condition : SyntaxTree) → SyntaxTree
do_loop token while_token body condition = Node kinds.DoStatement token [] while_token (Part Evaluated body (Part Condition condition NoParts))

abbrev pub for_loop : (token : ℕ) → (first condition last body : SyntaxTree) → SyntaxTree
for_loop token first condition last body =
    Node kinds.ForStatement token [] 0 (Part Evaluated first (Part Condition condition (Part Evaluated last (Part Evaluated body NoParts))))

abbrev pub omitted : SyntaxTree
omitted = drawn.leaf kinds.OmittedExpression 0

abbrev pub label : (token : ℕ) → (name : List ℕ) → SyntaxTree → SyntaxTree
label token name statement = Node kinds.LabelStatement token name 0 (Part Evaluated statement NoParts)

abbrev pub goto : (token : ℕ) → (name : List ℕ) → SyntaxTree
goto token name = Node kinds.GotoStatement token name 0 NoParts

-- `int NAME = ..`, with its `=` at this token
abbrev pub initialized : (token : ℕ) → (name : List ℕ) → SyntaxTree → SyntaxTree
initialized token name value =
    drawn.declaration token (drawn.leaf kinds.IntSpecifier token ∷ [])
    (drawn.declarator token name [] ∷ over kinds.Initializer token (value ∷ []) ∷ [])

abbrev pub declaration : (token : ℕ) → SyntaxTree → SyntaxTree
declaration token value = initialized token (codes "d") value

-- `[INDEX] = ..`
abbrev pub item : (token : ℕ) → SyntaxTree → SyntaxTree
item token value = Node kinds.InitializerItem token [] 0 (Part Unevaluated (over kinds.IndexDesignator token []) (Part Evaluated value NoParts))

-- Units

abbrev pub declared : TypeTree → (is_static : Bool) → Fact
declared type_ is_static =
    Declared
    (record {
      name = [];
      type_ = type_;
      is_typedef = false;
      has_linkage = false;
      is_static = is_static;
      is_register = false;
    })

-- what a drawn declarator declares: s is static
abbrev pub fact_of : TreeNode (List ℕ) → NodeKind → Fact
fact_of node kinds.Declarator = declared drawn.int (bytes_eq node.name (codes "s"))
fact_of node kind = Unknown

abbrev pub function_type : TypeTree
function_type = plain_type (FunctionTree drawn.int NoTypes false)

-- the body of t
abbrev pub nodes_with : (brace : ℕ) → List SyntaxTree → UnitNodes
nodes_with brace items =
    drawn.nodes_of
    (drawn.declarator 0 (codes "f") [] ∷ drawn.declarator 0 (codes "die") []
    ∷ over kinds.FunctionDefinition 0 (block 0 brace items ∷ []) ∷ [])

-- the number of the node at this token, among constants by their tokens
abbrev pub constant_at : List (ℕ × ℤ) → (token : ℕ) → Option ℤ
constant_at [] token = None
constant_at (constant ∷ constants) token = if nat_eq constant.0 token then Some constant.1 else constant_at constants token

abbrev pub constant_of : List (ℕ × ℤ) → TreeNode (List ℕ) → NodeKind → Option ℤ
constant_of constants node (kinds.IntegerConstant kind) = Some (pos node.number)
constant_of constants node kind = constant_at constants node.token

abbrev pub unit_of : List (ℕ × ℤ) → UnitNodes → JudgedUnit
unit_of constants nodes =
    record {
      nodes = nodes;
      facts = declared function_type false ∷ declared function_type false ∷ map (λ node. fact_of node node.kind) (drop 2 nodes);
      constant = λ handle. constant_of constants (node_at nodes handle) (kind_at nodes handle);
      case_number = λ handle. pos (node_at nodes (child_at nodes handle 0)).number;
      contexts = λ handle. if nat_eq handle 0 then Some (record { enters = 0; leaves = 1 }) else None;
      is_noreturn = λ handle. nat_eq handle 1;
    }

-- the paths of t, over so many states, where these are its items and its `}`
abbrev pub paths_with : List (ℕ × ℤ) → (turns brace : ℕ) → List SyntaxTree → List (List Step)
paths_with constants turns brace items =
    paths_of turns (unit_of constants (nodes_with brace items)) (length (nodes_with brace items) - 2)

abbrev pub paths : (brace : ℕ) → List SyntaxTree → List (List Step)
paths brace items = paths_with [] 40 brace items
