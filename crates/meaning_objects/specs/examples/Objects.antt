-- Worked examples: objects, callees, definitions and parameters. Units are drawn as trees; their nodes are counted from 0, each behind its
-- parts.
use Rattle.std.specs.Prelude.{◌≡◌, ℕ, true, false, List, [], ◌∷◌, map, codes, Option, Some, None}
use Rattle.vocabulary.specs.declared.node_kind.NodeKind.TheVariants as kinds
use Rattle.meaning_tree.specs.Trees.{SyntaxTree}
use Rattle.meaning_typing.specs.Units.{UnitNodes}
use Rattle.meaning_typing.specs.Facts.{Fact, Unknown, fact_at}
use Rattle.meaning_typing.specs.Building.{facts_of, surroundings_of}
use Rattle.meaning_typing.specs.examples.Drawn.{call, declaration, declarator, function, leaf, named, nodes_of, number, over, parameter, parenthesized, star, type_over}
use Rattle.meaning_typing.specs.examples.Declared.{called, int_at}
use Rattle.meaning_typing.specs.examples.DeclarationRows.{extern_at, k, void_at, void_list}
use Rattle.meaning_objects.specs.Objects.{is_function_declaration, object_of}
use Rattle.meaning_objects.specs.Callees.{named_callee}
use Rattle.meaning_objects.specs.Definitions.{definition_of, parameters_of}

abbrev pub facts_in : UnitNodes → List Fact
facts_in nodes = facts_of nodes (surroundings_of nodes)

abbrev pub object_found : UnitNodes → (declarator : ℕ) → ℕ
object_found nodes declarator = object_of (facts_in nodes) declarator

abbrev pub callee_in : UnitNodes → (node : ℕ) → Option ℕ
callee_in nodes node = named_callee nodes (facts_in nodes) node

abbrev pub definition_in : UnitNodes → (object : ℕ) → Option ℕ
definition_in nodes object = definition_of nodes (surroundings_of nodes) (facts_in nodes) object

abbrev pub parameters_declared : UnitNodes → (declarator : ℕ) → List ℕ
parameters_declared nodes declarator = parameters_of nodes (facts_in nodes) declarator

-- `extern int k; void f(void); int k; void f(void) { extern int k; { int k; } }`: the declarators of k are nodes 3, 15, 27 and 31, those of
-- f are 11 and 23
abbrev pub redeclaring : UnitNodes
redeclaring =
    nodes_of
    (declaration 0 (extern_at 0 (int_at 1)) (called 2 k ∷ [])
    ∷ declaration 4 (void_at 4) (declarator 5 (codes "f") (void_list 6 ∷ []) ∷ [])
    ∷ declaration 10 (int_at 10) (called 11 k ∷ [])
    ∷ function 13 (void_at 13) (declarator 14 (codes "f") (void_list 15 ∷ []))
    (over kinds.CompoundStatement 18
    (declaration 19 (extern_at 19 (int_at 20)) (called 21 k ∷ []) ∷ over kinds.CompoundStatement 23 (declaration 24 (int_at 24) (called 25 k ∷ []) ∷ []) ∷ [])) ∷ [])

-- `typedef int F(void); extern F g;`: the declarators are nodes 7 and 12
abbrev pub named_type_of_function : UnitNodes
named_type_of_function =
    nodes_of
    (declaration 0 (leaf kinds.TypedefSpecifier 0 ∷ int_at 1) (declarator 2 (codes "F") (void_list 3 ∷ []) ∷ [])
    ∷ declaration 7 (leaf kinds.ExternSpecifier 7 ∷ named kinds.TypedefName 8 (codes "F") 7 ∷ []) (called 9 (codes "g") ∷ []) ∷ [])

pub record ObjectExamples : Type 0 where
  -- of one name with linkage, in a block too
  pub shared : map (object_found redeclaring) (3 ∷ 15 ∷ 27 ∷ []) ≡ 3 ∷ 3 ∷ 3 ∷ []
  pub of_functions : map (object_found redeclaring) (11 ∷ 23 ∷ []) ≡ 11 ∷ 11 ∷ []
  -- without linkage, and where nothing is declared
  pub apart : map (object_found redeclaring) (31 ∷ 4 ∷ []) ≡ 31 ∷ 4 ∷ []
  -- k, f, the inner k, and what isn't known
  pub functions :
      map is_function_declaration (fact_at (facts_in redeclaring) 3 ∷ fact_at (facts_in redeclaring) 11 ∷ fact_at (facts_in redeclaring) 31 ∷ Unknown ∷ [])
      ≡ false ∷ true ∷ false ∷ false ∷ []
  -- F is a typedef, and g a function
  pub by_typedef :
      map (λ handle. is_function_declaration (fact_at (facts_in named_type_of_function) handle)) (7 ∷ 12 ∷ []) ≡ false ∷ true ∷ []

-- Callees

-- `void f(void); void (*p)(void); void g(void) { CALL; }`, where f is node 6, p node 15, and the nodes of CALL begin with 24
abbrev pub with_call : SyntaxTree → UnitNodes
with_call expression =
    nodes_of
    (declaration 0 (void_at 0) (declarator 1 (codes "f") (void_list 2 ∷ []) ∷ [])
    ∷ declaration 6 (void_at 6) (declarator 9 (codes "p") (void_list 11 ∷ leaf kinds.PointerDeclarator 8 ∷ []) ∷ [])
    ∷ function 15 (void_at 15) (declarator 16 (codes "g") (void_list 17 ∷ []))
    (over kinds.CompoundStatement 20 (over kinds.ExpressionStatement 21 (expression ∷ []) ∷ [])) ∷ [])

abbrev pub f : SyntaxTree
f = named kinds.Name 22 (codes "f") 6

pub record CalleeExamples : Type 0 where
  -- `f()`, and `((f))()`
  pub by_name : callee_in (with_call (call 23 f [])) 25 ≡ Some 6
  pub in_parentheses : callee_in (with_call (call 26 (parenthesized 21 (parenthesized 22 f)) [])) 27 ≡ Some 6
  -- `p()`, `(*f)()`
  pub by_pointer : callee_in (with_call (call 23 (named kinds.Name 22 (codes "p") 15) [])) 25 ≡ None
  pub through_star : callee_in (with_call (call 25 (parenthesized 21 (star 22 f)) [])) 27 ≡ None

-- Definitions

-- `extern int m; int m = 1;`, where the declarators are nodes 3 and 7, and the first of them alone
abbrev pub defined_behind : UnitNodes
defined_behind =
    nodes_of
    (declaration 0 (extern_at 0 (int_at 1)) (called 2 (codes "m") ∷ [])
    ∷ declaration 4 (int_at 4) (called 5 (codes "m") ∷ over kinds.Initializer 7 (number 7 1 ∷ []) ∷ []) ∷ [])

abbrev pub declared_only : UnitNodes
declared_only = nodes_of (declaration 0 (extern_at 0 (int_at 1)) (called 2 (codes "m") ∷ []) ∷ [])

pub record DefinitionExamples : Type 0 where
  -- of f, asked of both declarations
  pub of_functions : map (definition_in redeclaring) (11 ∷ 23 ∷ []) ≡ Some 23 ∷ Some 23 ∷ []
  -- of k, which none of its declarations defines
  pub tentative : definition_in redeclaring 3 ≡ None
  pub of_objects : map (definition_in defined_behind) (3 ∷ 7 ∷ []) ≡ Some 7 ∷ Some 7 ∷ []
  pub undefined : definition_in declared_only 3 ≡ None

-- Parameters

-- `int f PARTS;`, whose parts begin with node 2
abbrev pub int_with : List SyntaxTree → UnitNodes
int_with parts = nodes_of (declaration 0 (int_at 0) (declarator 1 (codes "f") parts ∷ []) ∷ [])

abbrev pub list_at : (token : ℕ) → List SyntaxTree → SyntaxTree
list_at token parameters = type_over kinds.FunctionDeclarator token parameters

pub record ParameterExamples : Type 0 where
  -- `f(int a, int, int *, ...)`, with a at node 4, the second parameter at 8 and the third one's declarator at 12
  pub listed :
      parameters_declared
      (int_with
      (list_at 2
      (parameter 3 (int_at 3) (called 4 (codes "a") ∷ []) ∷ parameter 6 (int_at 6) [] ∷ parameter 8 (int_at 8) (declarator 9 [] (leaf kinds.PointerDeclarator 9 ∷ []) ∷ [])
      ∷ leaf kinds.Ellipsis 11 ∷ []) ∷ [])) 16
      ≡ 4 ∷ 8 ∷ 12 ∷ []
  -- `f(void)`, and `f()`
  pub of_void : parameters_declared (int_with (void_list 2 ∷ [])) 6 ≡ []
  pub of_nothing : parameters_declared (int_with (list_at 2 [] ∷ [])) 3 ≡ []
  -- `(*f(int a))(int b)`, whose list is that of a, node 10
  pub directly_behind :
      parameters_declared
      (int_with
      (list_at 9 (parameter 10 (int_at 10) (called 11 (codes "b") ∷ []) ∷ []) ∷ leaf kinds.PointerDeclarator 2
      ∷ list_at 4 (parameter 5 (int_at 5) (called 6 (codes "a") ∷ []) ∷ []) ∷ [])) 13
      ≡ 10 ∷ []
  -- `(ATTRIBUTES f)(int a)`, where a is node 4
  pub behind_attributes :
      parameters_declared
      (int_with
      (list_at 12 (parameter 13 (int_at 13) (called 14 (codes "a") ∷ []) ∷ []) ∷ type_over kinds.ParenthesizedAttributes 2 (leaf kinds.NoreturnAttribute 5 ∷ []) ∷ [])) 9
      ≡ 4 ∷ []
  -- of g, which has no list
  pub by_typedef : parameters_declared named_type_of_function 12 ≡ []
