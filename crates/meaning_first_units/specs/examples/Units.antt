-- Worked examples: the nodes of a small file, each behind its parts and with numbers for names, and the nearest lists that are not of
-- its items.
use Rattle.std.specs.Prelude.{ℕ, List, [], ◌∷◌, ◌++◌, codes}
use Rattle.vocabulary.specs.declared.node_kind.NodeKind.{NodeKind}
use Rattle.vocabulary.specs.declared.node_kind.NodeKind.TheVariants.{TranslationUnit, Declaration, FunctionDefinition, Specifiers, ExternSpecifier, IntSpecifier, VoidSpecifier, Declarator, FunctionDeclarator, Parameter, CompoundStatement, ExpressionStatement, Assignment, Name}
use Rattle.meaning_tree.specs.Nodes.{TreeNode}
use Rattle.meaning_unit_nodes.specs.Numbered.{number_told}
use Rattle.meaning_syntax.specs.Items.{Item, Object, Function, Assign}
use Rattle.meaning_typing.specs.Units.{UnitNodes}
use Rattle.meaning_first_units.specs.Units.{IsFirstFormUnit, Renaming}

-- "x" has the number 1 and "f" the number 2; any other name would have the number 3
abbrev pub number_of_name : Renaming
number_of_name = number_told ([] ∷ codes "x" ∷ codes "f" ∷ [])

-- all names have one number
abbrev pub one_number : Renaming
one_number = number_told ([] ∷ [])

-- a node, with the handles and the tags of its children: 0 of an evaluated one, 2 of a part of a type
abbrev pub node : NodeKind → (token : ℕ) → (name : List ℕ) → (number : ℕ) → (children : List (ℕ × ℕ)) → TreeNode (List ℕ)
node kind token name number children = record { kind = kind; token = token; name = name; number = number; children = children }

abbrev pub leaf : NodeKind → (token : ℕ) → TreeNode (List ℕ)
leaf kind token = node kind token [] 0 []

-- `extern int x;` has the tokens 0 to 3 and the handles 0 to 4: the name's declarator has handle 3
abbrev pub object_nodes : UnitNodes
object_nodes =
    leaf ExternSpecifier 0
    ∷ leaf IntSpecifier 1
    ∷ node Specifiers 0 [] 2 ((0, 2) ∷ (1, 2) ∷ [])
    ∷ node Declarator 2 (1 ∷ []) 0 []
    ∷ node Declaration 0 [] 0 ((2, 2) ∷ (3, 0) ∷ [])
    ∷ []

-- `void f(void) { x = x; }` has the tokens 4 to 14 and the handles 5 to 17, where names are linked with these handles
abbrev pub function_nodes : (target source : ℕ) → UnitNodes
function_nodes target source =
    leaf VoidSpecifier 4
    ∷ node Specifiers 4 [] 0 ((5, 2) ∷ [])
    ∷ leaf VoidSpecifier 7
    ∷ node Specifiers 7 [] 0 ((7, 2) ∷ [])
    ∷ node Parameter 7 [] 0 ((8, 2) ∷ [])
    ∷ node FunctionDeclarator 6 [] 0 ((9, 2) ∷ [])
    ∷ node Declarator 5 (2 ∷ []) 0 ((10, 2) ∷ [])
    ∷ node Name 10 (1 ∷ []) target []
    ∷ node Name 12 (1 ∷ []) source []
    ∷ node Assignment 11 [] 0 ((12, 0) ∷ (13, 0) ∷ [])
    ∷ node ExpressionStatement 10 [] 0 ((14, 0) ∷ [])
    ∷ node CompoundStatement 9 [] 14 ((15, 0) ∷ [])
    ∷ node FunctionDefinition 4 [] 0 ((6, 2) ∷ (11, 2) ∷ (16, 0) ∷ [])
    ∷ []

-- both lines
abbrev pub file_nodes : (target source : ℕ) → UnitNodes
file_nodes target source = object_nodes ++ function_nodes target source ++ node TranslationUnit 0 [] 0 ((4, 0) ∷ (17, 0) ∷ []) ∷ []

-- with another name
abbrev pub items_of : (name : List ℕ) → List Item
items_of name = Object [] 0 name ∷ Function (codes "f") (Assign name name ∷ []) ∷ []

pub record UnitExamples : Type 0 where
  -- the names are linked with the declarator of the object
  pub file : IsFirstFormUnit number_of_name (file_nodes 3 3) (items_of (codes "x"))
  -- they aren't those of another object
  pub other_name : IsFirstFormUnit number_of_name (file_nodes 3 3) (items_of (codes "y")) → ⊥
  -- a name isn't linked with the declarator of the function, nor left without a link
  pub to_function : IsFirstFormUnit number_of_name (file_nodes 3 11) (items_of (codes "x")) → ⊥
  pub to_nothing : IsFirstFormUnit number_of_name (file_nodes 3 0) (items_of (codes "x")) → ⊥
  -- one number for both names tells nothing apart, whatever the nodes are
  pub not_apart : (nodes : UnitNodes) → IsFirstFormUnit one_number nodes (items_of (codes "x")) → ⊥
