-- Worked examples: the trees of small units, node by node.
use Rattle.std.specs.Prelude.{◌≡◌, List, [], ◌∷◌, codes}
use Rattle.vocabulary.specs.declared.node_kind.NodeKind.TheVariants.{TranslationUnit, Declaration, FunctionDefinition, Specifiers, ExternSpecifier, IntSpecifier, VoidSpecifier, AttributeList, NoderefAttribute, AddressSpaceAttribute, Declarator, PointerDeclarator, FunctionDeclarator, Parameter, CompoundStatement, ExpressionStatement, Assignment, Indirection, Address, Name}
use Rattle.vocabulary.specs.declared.role.Role.TheVariants.{Evaluated, TypePart}
use Rattle.meaning_tree.specs.Trees.{SyntaxTree, Node, NoParts, Part, parts_of}
use Rattle.meaning_syntax.specs.Items.{Item, Object, Function, Noderef, AddressSpace, Assign, AssignThrough, AssignAddress}
use Rattle.meaning_syntax.specs.Trees.{SyntaxParts, word_trees, statement_tree, statement_trees, unit_tree}

-- evaluated parts, and parts of a type
abbrev pub evaluated : List SyntaxTree → SyntaxParts
evaluated trees = parts_of Evaluated trees

abbrev pub types : List SyntaxTree → SyntaxParts
types trees = parts_of TypePart trees

-- `extern int *p;` has the tokens 0 to 4
abbrev pub plain_pointer : SyntaxTree
plain_pointer =
    Node Declaration 0 [] 0
    (Part TypePart
    (Node Specifiers 0 [] 0 (types (Node ExternSpecifier 0 [] 0 NoParts ∷ Node IntSpecifier 1 [] 0 NoParts ∷ [])))
    (evaluated (Node Declarator 3 (codes "p") 0 (types (Node PointerDeclarator 2 [] 0 NoParts ∷ [])) ∷ [])))

-- `extern int __attribute__((noderef, address_space(__user))) *u;` has the tokens 5 to 20
abbrev pub user_pointer : SyntaxTree
user_pointer =
    Node Declaration 5 [] 0
    (Part TypePart
    (Node Specifiers 5 [] 0
    (types
    (Node ExternSpecifier 5 [] 0 NoParts
    ∷ Node IntSpecifier 6 [] 0 NoParts
    ∷ Node AttributeList 7 [] 0 (types (Node NoderefAttribute 10 [] 0 NoParts ∷ Node AddressSpaceAttribute 12 (codes "__user") 0 NoParts ∷ []))
    ∷ [])))
    (evaluated (Node Declarator 19 (codes "u") 0 (types (Node PointerDeclarator 18 [] 0 NoParts ∷ [])) ∷ [])))

-- `p = u;` has the tokens 27 to 30
abbrev pub copy : SyntaxTree
copy =
    Node ExpressionStatement 27 [] 0
    (evaluated (Node Assignment 28 [] 0 (evaluated (Node Name 27 (codes "p") 0 NoParts ∷ Node Name 29 (codes "u") 0 NoParts ∷ [])) ∷ []))

-- `void f(void) { p = u; }` has the tokens 21 to 31
abbrev pub copying_function : SyntaxTree
copying_function =
    Node FunctionDefinition 21 [] 0
    (Part TypePart
    (Node Specifiers 21 [] 0 (types (Node VoidSpecifier 21 [] 0 NoParts ∷ [])))
    (Part TypePart
    (Node Declarator 22 (codes "f") 0
    (types
    (Node FunctionDeclarator 23 [] 0
    (types (Node Parameter 24 [] 0 (types (Node Specifiers 24 [] 0 (types (Node VoidSpecifier 24 [] 0 NoParts ∷ [])) ∷ [])) ∷ []))
    ∷ [])))
    (evaluated (Node CompoundStatement 26 [] 0 (evaluated (copy ∷ [])) ∷ []))))

-- the items of these three lines
abbrev pub three_lines : List Item
three_lines =
    Object [] 1 (codes "p")
    ∷ Object (Noderef ∷ AddressSpace (codes "__user") ∷ []) 1 (codes "u")
    ∷ Function (codes "f") (Assign (codes "p") (codes "u") ∷ [])
    ∷ []

-- small units
pub record TreeExamples : Type 0 where
  pub empty : unit_tree [] ≡ Node TranslationUnit 0 [] 0 NoParts
  pub whole : unit_tree three_lines ≡ Node TranslationUnit 0 [] 0 (evaluated (plain_pointer ∷ user_pointer ∷ copying_function ∷ []))
  -- `extern int __attribute__((address_space(4))) x;`
  pub numbered_space :
      unit_tree (Object (AddressSpace (codes "4") ∷ []) 0 (codes "x") ∷ [])
      ≡ Node TranslationUnit 0 [] 0
      (evaluated
      (Node Declaration 0 [] 0
      (Part TypePart
      (Node Specifiers 0 [] 0
      (types
      (Node ExternSpecifier 0 [] 0 NoParts
      ∷ Node IntSpecifier 1 [] 0 NoParts
      ∷ Node AttributeList 2 [] 0 (types (Node AddressSpaceAttribute 5 [] 4 NoParts ∷ []))
      ∷ [])))
      (evaluated (Node Declarator 11 (codes "x") 0 NoParts ∷ [])))
      ∷ []))
  -- `*p = x;` from token 6 on
  pub through :
      statement_tree 6 (AssignThrough (codes "p") (codes "x"))
      ≡ Node ExpressionStatement 6 [] 0
      (evaluated
      (Node Assignment 8 [] 0
      (evaluated
      (Node Indirection 6 [] 0 (evaluated (Node Name 7 (codes "p") 0 NoParts ∷ []))
      ∷ Node Name 9 (codes "x") 0 NoParts
      ∷ []))
      ∷ []))
  -- `p = &x;` from token 6 on
  pub address :
      statement_tree 6 (AssignAddress (codes "p") (codes "x"))
      ≡ Node ExpressionStatement 6 [] 0
      (evaluated
      (Node Assignment 7 [] 0
      (evaluated
      (Node Name 6 (codes "p") 0 NoParts
      ∷ Node Address 8 [] 0 (evaluated (Node Name 9 (codes "x") 0 NoParts ∷ []))
      ∷ []))
      ∷ []))
  -- `extern int * * p ;`: each star has a token of its own
  pub two_stars :
      unit_tree (Object [] 2 (codes "p") ∷ [])
      ≡ Node TranslationUnit 0 [] 0
      (evaluated
      (Node Declaration 0 [] 0
      (Part TypePart
      (Node Specifiers 0 [] 0 (types (Node ExternSpecifier 0 [] 0 NoParts ∷ Node IntSpecifier 1 [] 0 NoParts ∷ [])))
      (evaluated
      (Node Declarator 4 (codes "p") 0 (types (Node PointerDeclarator 2 [] 0 NoParts ∷ Node PointerDeclarator 3 [] 0 NoParts ∷ []))
      ∷ [])))
      ∷ []))
  -- `address_space ( 4 ) , noderef` from token 5 on
  pub word_behind_space :
      word_trees 5 (AddressSpace (codes "4") ∷ Noderef ∷ [])
      ≡ Node AddressSpaceAttribute 5 [] 4 NoParts ∷ Node NoderefAttribute 10 [] 0 NoParts ∷ []
  -- `* p = x ; p = & x ; x = x ;` from token 6 on
  pub statements :
      statement_trees 6 (AssignThrough (codes "p") (codes "x") ∷ AssignAddress (codes "p") (codes "x") ∷ Assign (codes "x") (codes "x") ∷ [])
      ≡ statement_tree 6 (AssignThrough (codes "p") (codes "x"))
      ∷ statement_tree 11 (AssignAddress (codes "p") (codes "x"))
      ∷ statement_tree 16 (Assign (codes "x") (codes "x"))
      ∷ []
