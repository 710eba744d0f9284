-- Worked examples: small trees, with their nodes written out.
use Rattle.std.specs.Prelude.{◌≡◌, ℕ, true, false, List, [], ◌∷◌, codes}
use Rattle.vocabulary.specs.declared.int_kind.IntKind.TheVariants.{Int}
use Rattle.vocabulary.specs.declared.node_kind.NodeKind.{NodeKind}
use Rattle.vocabulary.specs.declared.node_kind.NodeKind.TheVariants.{TranslationUnit, Declaration, Specifiers, IntSpecifier, VoidSpecifier, Declarator, PointerDeclarator, ArrayDeclarator, FunctionDeclarator, Parameter, IntegerConstant}
use Rattle.vocabulary.specs.declared.role.Role.TheVariants.{Evaluated, TypePart, Unevaluated}
use Rattle.vocabulary.specs.declared.token_kind.TokenKind.TheVariants.{Identifier}
use Rattle.meaning_text.specs.Tokens.{Tok}
use Rattle.meaning_tree.specs.Trees.{SyntaxTree, Node, Parts, NoParts, Part}
use Rattle.meaning_tree.specs.Nodes.{TreeNode}
use Rattle.meaning_unit_nodes.specs.Written.{nodes_in}
use Rattle.meaning_unit_nodes.specs.Numbered.{spellings_told, number_told, unit_nodes}

abbrev pub tree : NodeKind → (token : ℕ) → Parts (List ℕ) → SyntaxTree
tree kind token parts = Node kind token [] 0 parts

abbrev pub node : NodeKind → (token : ℕ) → (name : List ℕ) → List (ℕ × ℕ) → TreeNode (List ℕ)
node kind token name children = record { kind = kind; token = token; name = name; number = 0; children = children }

-- a token that is spelled so, wherever it stands
abbrev pub word : List ℕ → Tok
word text = record { kind = Identifier; text = text; at = record { file = 0; line = 1; column = 1 }; space_before = true; line_start = false }

-- `int a ;`
abbrev pub int_a : SyntaxTree
int_a =
    tree TranslationUnit 0
    (Part Evaluated
    (tree Declaration 0
    (Part TypePart (tree Specifiers 0 (Part TypePart (tree IntSpecifier 0 NoParts) NoParts))
    (Part Evaluated (Node Declarator 1 (codes "a") 0 NoParts) NoParts)))
    NoParts)

-- the nodes of `int a ;` with this for the name
abbrev pub int_a_nodes : List ℕ → List (TreeNode (List ℕ))
int_a_nodes name =
    node IntSpecifier 0 [] [] ∷ node Specifiers 0 [] ((0, 2) ∷ []) ∷ node Declarator 1 name []
    ∷ node Declaration 0 [] ((1, 2) ∷ (2, 0) ∷ []) ∷ node TranslationUnit 0 [] ((3, 0) ∷ []) ∷ []

-- The declarator of `int * ( * f [ 2 ] ) ( void )`, where `f` is an array of two pointers to functions that return a pointer
abbrev pub f_declarator : SyntaxTree
f_declarator =
    Node Declarator 4 (codes "f") 0
    (Part TypePart (tree PointerDeclarator 1 NoParts)
    (Part TypePart (tree FunctionDeclarator 9 (Part TypePart void_parameter NoParts))
    (Part TypePart (tree PointerDeclarator 3 NoParts)
    (Part TypePart (tree ArrayDeclarator 5 (Part Unevaluated (Node (IntegerConstant Int) 6 [] 2 NoParts) NoParts)) NoParts))))
  where
    void_parameter : SyntaxTree
    void_parameter = tree Parameter 10 (Part TypePart (tree Specifiers 10 (Part TypePart (tree VoidSpecifier 10 NoParts) NoParts)) NoParts)

-- both pointers, the size that is nearer to the name, and the parameter list
abbrev pub f_nodes : List (TreeNode (List ℕ))
f_nodes =
    node PointerDeclarator 1 [] [] ∷ node PointerDeclarator 3 [] []
    ∷ record { kind = IntegerConstant Int; token = 6; name = []; number = 2; children = [] } ∷ node ArrayDeclarator 5 [] ((2, 3) ∷ [])
    ∷ node VoidSpecifier 10 [] [] ∷ node Specifiers 10 [] ((4, 2) ∷ []) ∷ node Parameter 10 [] ((5, 2) ∷ [])
    ∷ node FunctionDeclarator 9 [] ((6, 2) ∷ []) ∷ node Declarator 4 (codes "f") ((0, 2) ∷ (7, 2) ∷ (1, 2) ∷ (3, 2) ∷ []) ∷ []

-- `int a ;` and `a`
abbrev pub some_tokens : List Tok
some_tokens = word (codes "int") ∷ word (codes "a") ∷ word (codes ";") ∷ word (codes "a") ∷ []

pub record UnitExamples : Type 0 where
  pub declaration : nodes_in int_a ≡ int_a_nodes (codes "a")
  pub declarator : nodes_in f_declarator ≡ f_nodes
  -- each spelling once, behind the empty one
  pub told : spellings_told some_tokens ≡ [] ∷ codes "int" ∷ codes "a" ∷ codes ";" ∷ []
  pub second : number_told (spellings_told some_tokens) (codes "a") ≡ 2 ∷ []
  pub no_name : number_told (spellings_told some_tokens) [] ≡ []
  -- what no token spells
  pub another : number_told (spellings_told some_tokens) (codes "b") ≡ 4 ∷ []
  pub numbered : unit_nodes some_tokens int_a ≡ int_a_nodes (2 ∷ [])
