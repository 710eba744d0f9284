-- Units that are drawn as trees, for the examples: their nodes, as a parser lays them.
use Rattle.std.specs.Prelude.{ℕ, ◌+◌, ◌-◌, true, List, [], ◌∷◌, ◌++◌, codes}
use Rattle.vocabulary.specs.declared.node_kind.NodeKind.{NodeKind}
use Rattle.vocabulary.specs.declared.node_kind.NodeKind.TheVariants as kinds
use Rattle.vocabulary.specs.declared.int_kind.IntKind.TheVariants as integers
use Rattle.vocabulary.specs.declared.role.Role.TheVariants.{Evaluated, TypePart, Unevaluated}
use Rattle.vocabulary.specs.Roles.{role_tag}
use Rattle.meaning_types.specs.Types.{TypeTree, Typed, IntegerTree, Flags, NamedSpace, no_qualifiers}
use Rattle.meaning_tree.specs.Trees.{SyntaxTree, Node, Parts, NoParts, Part, parts_of, with_parts}
use Rattle.meaning_tree.specs.Laid.{size_of}
use Rattle.meaning_typing.specs.Units.{UnitNodes}
use Rattle.meaning_typing.specs.Specifiers.{plain_type}

-- Nodes

abbrev mutual
  -- the nodes of a tree, behind those of its parts, where the first one has this handle
  pub nodes_from : (first : ℕ) → SyntaxTree → UnitNodes
  nodes_from first (Node kind token name number parts) =
      part_nodes first parts
      ++ record { kind = kind; token = token; name = name; number = number; children = part_handles first parts } ∷ []

  pub part_nodes : (first : ℕ) → Parts (List ℕ) → UnitNodes
  part_nodes first NoParts = []
  part_nodes first (Part role tree parts) = nodes_from first tree ++ part_nodes (first + size_of tree) parts

  pub part_handles : (first : ℕ) → Parts (List ℕ) → List (ℕ × ℕ)
  part_handles first NoParts = []
  part_handles first (Part role tree parts) = (first + size_of tree - 1, role_tag role) ∷ part_handles (first + size_of tree) parts

abbrev pub nodes_of : List SyntaxTree → UnitNodes
nodes_of declarations = nodes_from 0 (Node kinds.TranslationUnit 0 [] 0 (parts_of Evaluated declarations))

-- Trees, each at its token

abbrev pub leaf : NodeKind → (token : ℕ) → SyntaxTree
leaf kind token = Node kind token [] 0 NoParts

abbrev pub over : NodeKind → (token : ℕ) → List SyntaxTree → SyntaxTree
over kind token parts = Node kind token [] 0 (parts_of Evaluated parts)

-- a type, or part of one
abbrev pub type_over : NodeKind → (token : ℕ) → List SyntaxTree → SyntaxTree
type_over kind token parts = Node kind token [] 0 (parts_of TypePart parts)

-- a use of what is declared at this handle
abbrev pub named : NodeKind → (token : ℕ) → (name : List ℕ) → (declarator : ℕ) → SyntaxTree
named kind token name declarator = Node kind token name declarator NoParts

abbrev pub number : (token value : ℕ) → SyntaxTree
number token value = Node (kinds.IntegerConstant integers.Int) token [] value NoParts

abbrev pub declarator : (token : ℕ) → (name : List ℕ) → List SyntaxTree → SyntaxTree
declarator token name parts = Node kinds.Declarator token name 0 (parts_of TypePart parts)

abbrev pub declaration : (token : ℕ) → (specifiers declarators : List SyntaxTree) → SyntaxTree
declaration token specifiers declarators =
    Node kinds.Declaration token [] 0 (Part TypePart (type_over kinds.Specifiers token specifiers) (parts_of Evaluated declarators))

-- an array of this length, which isn't evaluated
abbrev pub array : (token length : ℕ) → SyntaxTree
array token length = Node kinds.ArrayDeclarator token [] 0 (Part Unevaluated (number (token + 1) length) NoParts)

abbrev pub parameter : (token : ℕ) → (specifiers declarators : List SyntaxTree) → SyntaxTree
parameter token specifiers declarators = type_over kinds.Parameter token (type_over kinds.Specifiers token specifiers ∷ declarators)

abbrev pub function : (token : ℕ) → (specifiers : List SyntaxTree) → SyntaxTree → (body : SyntaxTree) → SyntaxTree
function token specifiers declared body =
    Node kinds.FunctionDefinition token [] 0
    (with_parts (parts_of TypePart (type_over kinds.Specifiers token specifiers ∷ declared ∷ [])) (Part Evaluated body NoParts))

-- `USER`, at one token, and what it adds
abbrev pub user : (token : ℕ) → SyntaxTree
user token =
    type_over kinds.AttributeList token
    (leaf kinds.NoderefAttribute token ∷ named kinds.AddressSpaceAttribute token (codes "__user") 0 ∷ [])

abbrev pub user_flags : Flags
user_flags = record { noderef = true; space = NamedSpace (codes "__user") }

-- Types

abbrev pub int : TypeTree
int = plain_type (IntegerTree integers.Int)

abbrev pub user_int : TypeTree
user_int = Typed (IntegerTree integers.Int) no_qualifiers user_flags

-- The file on which most examples stand:
--   extern int *p; extern int USER *u; extern int i; int one(int); void none(void); void f(void) { .. }
-- its tokens are counted from 0, and what stands in the body of f begins at token 33

abbrev pub stands_before : List SyntaxTree
stands_before =
    declaration 0 (leaf kinds.ExternSpecifier 0 ∷ leaf kinds.IntSpecifier 1 ∷ []) (declarator 3 (codes "p") (leaf kinds.PointerDeclarator 2 ∷ []) ∷ [])
    ∷ declaration 5 (leaf kinds.ExternSpecifier 5 ∷ leaf kinds.IntSpecifier 6 ∷ user 7 ∷ []) (declarator 9 (codes "u") (leaf kinds.PointerDeclarator 8 ∷ []) ∷ [])
    ∷ declaration 11 (leaf kinds.ExternSpecifier 11 ∷ leaf kinds.IntSpecifier 12 ∷ []) (declarator 13 (codes "i") [] ∷ [])
    ∷ declaration 15 (leaf kinds.IntSpecifier 15 ∷ [])
    (declarator 16 (codes "one") (type_over kinds.FunctionDeclarator 17 (parameter 18 (leaf kinds.IntSpecifier 18 ∷ []) [] ∷ []) ∷ []) ∷ [])
    ∷ declaration 21 (leaf kinds.VoidSpecifier 21 ∷ [])
    (declarator 22 (codes "none") (type_over kinds.FunctionDeclarator 23 (parameter 24 (leaf kinds.VoidSpecifier 24 ∷ []) [] ∷ []) ∷ []) ∷ [])
    ∷ []

abbrev pub in_body : List SyntaxTree → UnitNodes
in_body statements =
    nodes_of
    (stands_before
    ++ function 27 (leaf kinds.VoidSpecifier 27 ∷ [])
    (declarator 28 (codes "f") (type_over kinds.FunctionDeclarator 29 (parameter 30 (leaf kinds.VoidSpecifier 30 ∷ []) [] ∷ []) ∷ []))
    (over kinds.CompoundStatement 32 statements) ∷ [])

-- uses of its names, whose declarators have these handles
abbrev pub p : (token : ℕ) → SyntaxTree
p token = named kinds.Name token (codes "p") 4

abbrev pub u : (token : ℕ) → SyntaxTree
u token = named kinds.Name token (codes "u") 13

abbrev pub i : (token : ℕ) → SyntaxTree
i token = named kinds.Name token (codes "i") 18

abbrev pub one : (token : ℕ) → SyntaxTree
one token = named kinds.Name token (codes "one") 26

abbrev pub none : (token : ℕ) → SyntaxTree
none token = named kinds.Name token (codes "none") 34

-- expressions and statements
abbrev pub statement : SyntaxTree → SyntaxTree
statement expression = over kinds.ExpressionStatement 33 (expression ∷ [])

abbrev pub star : (token : ℕ) → SyntaxTree → SyntaxTree
star token operand = over kinds.Indirection token (operand ∷ [])

abbrev pub address : (token : ℕ) → SyntaxTree → SyntaxTree
address token operand = over kinds.Address token (operand ∷ [])

abbrev pub assignment : (token : ℕ) → (left right : SyntaxTree) → SyntaxTree
assignment token left right = over kinds.Assignment token (left ∷ right ∷ [])

abbrev pub call : (token : ℕ) → (callee : SyntaxTree) → (arguments : List SyntaxTree) → SyntaxTree
call token callee arguments = over kinds.Call token (callee ∷ arguments)

abbrev pub parenthesized : (token : ℕ) → SyntaxTree → SyntaxTree
parenthesized token expression = over kinds.Parenthesized token (expression ∷ [])

abbrev pub subscript : (token : ℕ) → (left right : SyntaxTree) → SyntaxTree
subscript token left right = over kinds.Subscript token (left ∷ right ∷ [])
