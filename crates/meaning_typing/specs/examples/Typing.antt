-- Worked examples: what nodes stand in and what is known of them, as one can tell by eye.
use Rattle.std.specs.Prelude.{◌≡◌, ℕ, Bool, true, false, List, [], ◌∷◌, map, codes, Option, Some, None}
use Rattle.vocabulary.specs.declared.node_kind.NodeKind.TheVariants as kinds
use Rattle.meaning_types.specs.Types.{TypeTree, Typed, IntegerTree, no_flags, pointer_to}
use Rattle.vocabulary.specs.declared.int_kind.IntKind.TheVariants as integers
use Rattle.vocabulary.specs.declared.role.Role.TheVariants.{Evaluated}
use Rattle.meaning_tree.specs.Trees.{SyntaxTree, Node, NoParts, Part}
use Rattle.meaning_typing.specs.Units.{UnitNodes, node_at}
use Rattle.meaning_typing.specs.Surroundings.{Surrounding, Want, ForValue, ForStore, ForPlace, ForEffect, ForNothing, surrounding_at}
use Rattle.meaning_typing.specs.Facts.{Fact, Expression, Declared, fact_at}
use Rattle.meaning_typing.specs.Declarators.{array_type}
use Rattle.meaning_typing.specs.Typing.{is_accessed}
use Rattle.meaning_typing.specs.Evaluation.{evaluated_parts}
use Rattle.meaning_typing.specs.Building.{surroundings_of, facts_of}
use Rattle.meaning_typing.specs.examples.Drawn.{nodes_of, leaf, over, type_over, named, declarator, array, declaration, parameter, function, in_body, int, user_int, u, i, none, statement, star, address, assignment, parenthesized}
use Rattle.meaning_typing.specs.examples.Values.{char, nothing_from_nothing}

abbrev pub fact_in : UnitNodes → (handle : ℕ) → Fact
fact_in nodes handle = fact_at (facts_of nodes (surroundings_of nodes)) handle

-- the types of what these nodes designate or declare
abbrev pub type_in : Fact → Option TypeTree
type_in (Expression expression) = Some expression.type_
type_in (Declared declaration) = Some declaration.type_
type_in fact = None

abbrev pub types_at : UnitNodes → (handles : List ℕ) → List (Option TypeTree)
types_at nodes handles = map (λ handle. type_in (fact_in nodes handle)) handles

abbrev pub standing_at : UnitNodes → (handle : ℕ) → Surrounding
standing_at nodes handle = surrounding_at (surroundings_of nodes) handle

abbrev pub wants_at : UnitNodes → (handles : List ℕ) → List Want
wants_at nodes handles = map (λ handle. (standing_at nodes handle).want) handles

-- which of these are loaded or stored to
abbrev pub accessed_as : Surrounding → Fact → Bool
accessed_as surrounding (Expression expression) = is_accessed surrounding expression
accessed_as surrounding fact = false

abbrev pub accessed_at : UnitNodes → (handles : List ℕ) → List Bool
accessed_at nodes handles = map (λ handle. accessed_as (standing_at nodes handle) (fact_in nodes handle)) handles

abbrev pub evaluated_at : UnitNodes → (handle : ℕ) → List ℕ
evaluated_at nodes handle = evaluated_parts nodes (facts_of nodes (surroundings_of nodes)) handle

-- In the body of f the first node has handle 43

-- `&*u;`
abbrev pub around_user : UnitNodes
around_user = in_body (statement (address 33 (star 34 (u 35))) ∷ [])

-- `(*u) = i;`
abbrev pub stored : UnitNodes
stored = in_body (statement (assignment 37 (parenthesized 33 (star 34 (u 35))) (i 38)) ∷ [])

pub record SurroundingExamples : Type 0 where
  -- u, `*u`, `&*u` and the statement
  pub under_address : wants_at around_user (43 ∷ 44 ∷ 45 ∷ 46 ∷ []) ≡ ForValue ∷ ForPlace ∷ ForValue ∷ ForEffect ∷ []
  -- u, `*u`, `(*u)`, i and the assignment
  pub on_the_left : wants_at stored (43 ∷ 44 ∷ 45 ∷ 46 ∷ 47 ∷ []) ≡ ForValue ∷ ForPlace ∷ ForStore ∷ ForValue ∷ ForValue ∷ []
  -- the function around a statement, and none around what it declares
  pub functions : map (λ handle. (standing_at around_user handle).around.function) (46 ∷ 42 ∷ 4 ∷ []) ≡ Some 48 ∷ None ∷ None ∷ []
  -- the unit opens the scope of f, and its parameter list that of its parameter
  pub scopes : map (λ handle. (standing_at around_user handle).around.scope) (42 ∷ 40 ∷ 46 ∷ []) ≡ 49 ∷ 41 ∷ 47 ∷ []
  pub unit : (standing_at around_user 49).want ≡ ForNothing
  -- `&*&*u` loads u alone
  pub loads : accessed_at (in_body (statement (address 33 (star 34 (address 35 (star 36 (u 37))))) ∷ [])) (43 ∷ 44 ∷ 45 ∷ 46 ∷ 47 ∷ []) ≡ true ∷ false ∷ false ∷ false ∷ false ∷ []
  -- a place in parentheses is stored to, and not the one in them
  pub stores : accessed_at stored (43 ∷ 44 ∷ 45 ∷ 46 ∷ 47 ∷ []) ≡ true ∷ false ∷ true ∷ true ∷ false ∷ []
  -- of `&*u` u alone is evaluated, of `(*u) = i` both sides
  pub evaluated : evaluated_at around_user 45 ≡ 43 ∷ []
  pub both_sides : evaluated_at stored 47 ≡ 45 ∷ 46 ∷ []

-- `void g(int *b) { { int b; b; } b; }`
abbrev pub hidden : UnitNodes
hidden =
    nodes_of
    (function 0 (leaf kinds.VoidSpecifier 0 ∷ [])
    (declarator 1 (codes "g")
    (type_over kinds.FunctionDeclarator 2
    (parameter 3 (leaf kinds.IntSpecifier 3 ∷ []) (declarator 5 (codes "b") (leaf kinds.PointerDeclarator 4 ∷ []) ∷ []) ∷ []) ∷ []))
    (over kinds.CompoundStatement 7
    (over kinds.CompoundStatement 8
    (declaration 9 (leaf kinds.IntSpecifier 9 ∷ []) (declarator 10 (codes "b") [] ∷ []) ∷ statement (named kinds.Name 12 (codes "b") 11) ∷ [])
    ∷ statement (named kinds.Name 15 (codes "b") 5) ∷ [])) ∷ [])

-- `extern int a[]; void g(void) { &a; { extern int a[4]; } &a; }`
abbrev pub lengthened : UnitNodes
lengthened =
    nodes_of
    (declaration 0 (leaf kinds.ExternSpecifier 0 ∷ leaf kinds.IntSpecifier 1 ∷ []) (declarator 2 (codes "a") (leaf kinds.ArrayDeclarator 3 ∷ []) ∷ [])
    ∷ function 6 (leaf kinds.VoidSpecifier 6 ∷ [])
    (declarator 7 (codes "g") (type_over kinds.FunctionDeclarator 8 (parameter 9 (leaf kinds.VoidSpecifier 9 ∷ []) [] ∷ []) ∷ []))
    (over kinds.CompoundStatement 11
    (statement (address 12 (named kinds.Name 13 (codes "a") 4))
    ∷ over kinds.CompoundStatement 15
    (declaration 16 (leaf kinds.ExternSpecifier 16 ∷ leaf kinds.IntSpecifier 17 ∷ []) (declarator 18 (codes "a") (array 19 4 ∷ []) ∷ []) ∷ [])
    ∷ statement (address 24 (named kinds.Name 25 (codes "a") 4)) ∷ [])) ∷ [])

-- `extern int i; extern const int i; void g(void) { i; }`
abbrev pub twice_declared : UnitNodes
twice_declared =
    nodes_of
    (declaration 0 (leaf kinds.ExternSpecifier 0 ∷ leaf kinds.IntSpecifier 1 ∷ []) (declarator 2 (codes "i") [] ∷ [])
    ∷ declaration 4 (leaf kinds.ExternSpecifier 4 ∷ leaf kinds.ConstQualifier 5 ∷ leaf kinds.IntSpecifier 6 ∷ []) (declarator 7 (codes "i") [] ∷ [])
    ∷ function 9 (leaf kinds.VoidSpecifier 9 ∷ [])
    (declarator 10 (codes "g") (type_over kinds.FunctionDeclarator 11 (parameter 12 (leaf kinds.VoidSpecifier 12 ∷ []) [] ∷ []) ∷ []))
    (over kinds.CompoundStatement 14 (statement (named kinds.Name 15 (codes "i") 9) ∷ []))
    ∷ [])

-- the type of such an expression statement, and whether it is a place
abbrev pub stated : SyntaxTree → (handle : ℕ) → List (Option TypeTree)
stated expression handle = types_at (in_body (statement expression ∷ [])) (handle ∷ [])

abbrev pub is_place_in : Fact → Bool
is_place_in (Expression expression) = expression.is_place
is_place_in fact = false

abbrev pub is_stated_place : SyntaxTree → (handle : ℕ) → Bool
is_stated_place expression handle = is_place_in (fact_in (in_body (statement expression ∷ [])) handle)

-- `"ab"`
abbrev pub two_characters : SyntaxTree
two_characters = Node kinds.StringLiteral 33 [] 3 (Part Evaluated (named kinds.StringPiece 33 (codes "\"ab\"") 0) NoParts)

pub record FactExamples : Type 0 where
  -- the names of what is declared stand where their uses say
  pub names : map (λ handle. (node_at (in_body []) handle).name) (4 ∷ 13 ∷ 18 ∷ 26 ∷ 34 ∷ 42 ∷ []) ≡ map codes ("p" ∷ "u" ∷ "i" ∷ "one" ∷ "none" ∷ "f" ∷ [])
  -- u, `*u` and `&*u`
  pub through : types_at around_user (43 ∷ 44 ∷ 45 ∷ []) ≡ Some (pointer_to user_int) ∷ Some user_int ∷ Some (pointer_to user_int) ∷ []
  -- `*i` breaks a constraint, so nothing is known of it; `i = *i` has the type of i
  pub unknown : types_at (in_body (statement (assignment 34 (i 33) (star 35 (i 36))) ∷ [])) (43 ∷ 44 ∷ 45 ∷ 46 ∷ []) ≡ Some int ∷ Some int ∷ None ∷ Some int ∷ []
  -- `'a'`, `"ab"`, `*none`, `&none`
  pub character : stated (Node (kinds.CharacterConstant integers.Int) 33 [] 97 NoParts) 43 ≡ Some int ∷ []
  pub string : stated two_characters 44 ≡ Some (array_type char (Some 3)) ∷ []
  pub string_place : is_stated_place two_characters 44 ≡ true
  pub through_function : stated (star 33 (none 34)) 44 ≡ Some nothing_from_nothing ∷ []
  pub function_place : is_stated_place (star 33 (none 34)) 44 ≡ true
  pub function_address : stated (address 33 (none 34)) 44 ≡ Some (pointer_to nothing_from_nothing) ∷ []
  pub no_place : map (λ expression. is_stated_place expression 44) (address 33 (none 34) ∷ over kinds.Negation 33 (i 34 ∷ []) ∷ []) ≡ false ∷ false ∷ []
  -- a local object hides a parameter up to the end of its block
  pub inner : types_at hidden (13 ∷ 16 ∷ []) ≡ Some int ∷ Some (pointer_to int) ∷ []
  -- a length counts for the uses behind it, in whatever scope it stands
  pub lengths : types_at lengthened (13 ∷ 24 ∷ []) ≡ Some (array_type int None) ∷ Some (array_type int (Some 4)) ∷ []
  -- the first declaration gives the type, though the use is bound to the last one
  pub first : types_at twice_declared (9 ∷ 18 ∷ []) ≡ Some (Typed (IntegerTree integers.Int) (record { is_const = true; is_volatile = false }) no_flags) ∷ Some int ∷ []
  -- an object of a block is made where it is declared, but for one with linkage
  pub automatic : map (evaluated_at hidden) (12 ∷ []) ≡ (11 ∷ []) ∷ []
  pub linked : evaluated_at lengthened 22 ≡ []
