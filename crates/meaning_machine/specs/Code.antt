-- The code that the machine runs: what is to be evaluated, each node with the token at which it stands.
use Rattle.std.specs.Prelude.{ℕ, List, [], ◌∷◌, Option, Some, None}
use Rattle.vocabulary.specs.declared.node_kind.NodeKind.{NodeKind}
use Rattle.vocabulary.specs.declared.node_kind.NodeKind.TheVariants.{FunctionDefinition, CompoundStatement, ExpressionStatement, Name, Indirection, Address}
use Rattle.vocabulary.specs.declared.node_kind.NodeKind.TheVariants as kinds
use Rattle.meaning_tree.specs.Trees.{SyntaxTree, Node, NoParts, Part}
use Rattle.meaning_syntax.specs.Trees.{SyntaxParts}

-- lvalues, and expressions whose value is wanted (C11 6.3.2.1 p1, 6.5)
mutual
  -- an expression, for the place that it designates
  pub data LvalueCode : Type 0 where
    -- the object of this name
    Named : (token : ℕ) (name : List ℕ) → LvalueCode
    -- `*`: the place to which a pointer points (6.5.3.2 p4)
    Behind : (token : ℕ) → ValueCode → LvalueCode
    -- a node that designates no place, or for which the machine has no row: to enter it is a fault
    NoLvalue : (token : ℕ) → LvalueCode

  -- an expression, for its value
  pub data ValueCode : Type 0 where
    -- the value of a place
    ValueOf : LvalueCode → ValueCode
    -- `&`: a pointer to a place (6.5.3.2 p3)
    AddressOf : (token : ℕ) → LvalueCode → ValueCode
    -- `=` (6.5.16)
    Assignment : (token : ℕ) → LvalueCode → ValueCode → ValueCode

-- where the place's node stands
abbrev pub lvalue_token : LvalueCode → ℕ
lvalue_token (Named token name) = token
lvalue_token (Behind token value) = token
lvalue_token (NoLvalue token) = token

-- A node of the tree, as a place and as a value
pub record Code : Type 0 where
  pub place : LvalueCode
  pub value : ValueCode

-- of a node that designates a place: its value is that of the place
abbrev pub lvalue_code : LvalueCode → Code
lvalue_code place = record { place = place; value = ValueOf place }

-- of a node at this token that has a value and designates no place
abbrev pub value_code : ℕ → ValueCode → Code
value_code token value = record { place = NoLvalue token; value = value }

-- by its kind, its token, its name and the code of its parts
abbrev pub code_row : NodeKind → ℕ → List ℕ → List Code → Code
code_row Name token name parts = lvalue_code (Named token name)
code_row Indirection token name (pointer ∷ []) = lvalue_code (Behind token pointer.value)
code_row Address token name (operand ∷ []) = value_code token (AddressOf token operand.place)
code_row kinds.Assignment token name (left ∷ right ∷ []) = value_code token (Assignment token left.place right.value)
code_row kind token name parts = lvalue_code (NoLvalue token)

abbrev mutual
  -- the code of a node, by its row
  pub code_of : SyntaxTree → Code
  code_of (Node kind token name number parts) = code_row kind token name (parts_code parts)

  -- the code of each part, in order
  pub parts_code : SyntaxParts → List Code
  parts_code NoParts = []
  parts_code (Part role tree parts) = code_of tree ∷ parts_code parts

-- an expression statement is the value of its expression (6.8.3)
abbrev pub statement_row : NodeKind → ℕ → List Code → ValueCode
statement_row ExpressionStatement token (expression ∷ []) = expression.value
statement_row kind token parts = ValueOf (NoLvalue token)

-- the code of a statement, by its row
abbrev pub statement_code : SyntaxTree → ValueCode
statement_code (Node kind token name number parts) = statement_row kind token (parts_code parts)

-- the code of each statement of a body, in order
abbrev pub statements_code : SyntaxParts → List ValueCode
statements_code NoParts = []
statements_code (Part role statement statements) = statement_code statement ∷ statements_code statements

-- the statements of a body (6.8.2)
abbrev pub compound_code : NodeKind → SyntaxParts → Option (List ValueCode)
compound_code CompoundStatement statements = Some (statements_code statements)
compound_code kind statements = None

-- of a function: its last part is the body (6.9.1)
abbrev pub last_code : SyntaxParts → Option (List ValueCode)
last_code NoParts = None
last_code (Part role (Node kind token name number statements) NoParts) = compound_code kind statements
last_code (Part role tree (Part other next parts)) = last_code (Part other next parts)

-- the code of a function's body; no other node has one
abbrev pub function_code : NodeKind → SyntaxParts → Option (List ValueCode)
function_code FunctionDefinition parts = last_code parts
function_code kind parts = None

-- what a call of the node runs, if it is a function with a body
abbrev pub body_code : SyntaxTree → Option (List ValueCode)
body_code (Node kind token name number parts) = function_code kind parts
