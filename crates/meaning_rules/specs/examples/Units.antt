-- Worked examples: what fails in short units and what they break, as one can tell by eye.
use Rattle.std.specs.Prelude.{◌≡◌, ℕ, true, false, List, [], ◌∷◌, codes, length, Option, Some, None, ◌+◌}
use Rattle.vocabulary.specs.declared.error_kind.ErrorKind.{ErrorKind}
use Rattle.vocabulary.specs.declared.error_kind.ErrorKind.TheVariants.{CannotDereference, NotModifiable, CalledObjectIsNoFunction, WrongNumberOfArguments, TypedefHasAnotherType}
use Rattle.vocabulary.specs.declared.int_kind.IntKind.TheVariants as integers
use Rattle.vocabulary.specs.declared.node_kind.NodeKind.TheVariants as kinds
use Rattle.vocabulary.specs.declared.rule.RuleCode.TheVariants.{A1, A4, A7}
use Rattle.meaning_typing.specs.Types.{TypeTree, Typed, IntegerTree, no_flags, pointer_to}
use Rattle.vocabulary.specs.declared.role.Role.TheVariants.{Unevaluated}
use Rattle.meaning_typing.specs.Trees.{SyntaxTree, Node, NoParts, Part}
use Rattle.meaning_typing.specs.Failures.{Failure, Broken}
use Rattle.meaning_typing.specs.Units.{UnitNodes}
use Rattle.meaning_typing.specs.Specifiers.{plain_type}
use Rattle.meaning_typing.specs.Declarators.{array_type}
use Rattle.meaning_typing.specs.Rows.{fails_with}
use Rattle.meaning_typing.specs.Building.{surroundings_of, facts_of}
use Rattle.meaning_typing.specs.examples.Drawn.{nodes_of, leaf, over, type_over, named, number, declarator, array, declaration, parameter, function, user, in_body, int, user_int, p, u, i, one, statement, star, assignment, call, parenthesized, subscript}
use Rattle.meaning_typing.specs.Typing.{failures_at, broken_at, passed_at}
use Rattle.meaning_rules.specs.Rules.{gathered, least_broken, BreaksConstraint, PassesObjectSize, first_refusal}

abbrev pub failures_of : UnitNodes → List Failure
failures_of nodes = gathered (failures_at nodes (surroundings_of nodes) (facts_of nodes (surroundings_of nodes))) (length nodes)

abbrev pub broken_of : UnitNodes → List Broken
broken_of nodes = gathered (broken_at nodes (surroundings_of nodes) (facts_of nodes (surroundings_of nodes))) (length nodes)

abbrev pub passed_of : UnitNodes → List ℕ
passed_of nodes = gathered (passed_at nodes (surroundings_of nodes) (facts_of nodes (surroundings_of nodes))) (length nodes)

abbrev pub told_of : UnitNodes → Option Broken
told_of nodes = least_broken (broken_of nodes)

-- what is told

abbrev pub at : (token : ℕ) → ErrorKind → Broken
at token constraint = record { constraint = constraint; token = token; name = [] }

abbrev pub long : TypeTree
long = plain_type (IntegerTree integers.Long)

abbrev pub const_int : TypeTree
const_int = Typed (IntegerTree integers.Int) (record { is_const = true; is_volatile = false }) no_flags

-- `int g(int USER a[3]) { return a[1]; }`
abbrev pub array_parameter : UnitNodes
array_parameter =
    nodes_of
    (function 0 (leaf kinds.IntSpecifier 0 ∷ [])
    (declarator 1 (codes "g")
    (type_over kinds.FunctionDeclarator 2
    (parameter 3 (leaf kinds.IntSpecifier 3 ∷ user 4 ∷ []) (declarator 5 (codes "a") (array 6 3 ∷ []) ∷ []) ∷ []) ∷ []))
    (over kinds.CompoundStatement 10
    (over kinds.ReturnStatement 11 (subscript 13 (named kinds.Name 12 (codes "a") 9) (number 14 1) ∷ []) ∷ [])) ∷ [])

-- the body of f is this statement
abbrev pub stating : SyntaxTree → UnitNodes
stating expression = in_body (statement expression ∷ [])

pub record StatementExamples : Type 0 where
  -- `p = u;` mixes spaces, and nothing is broken
  pub mixed : failures_of (stating (assignment 34 (p 33) (u 35))) ≡ fails_with A1 34 0 (Some (pointer_to int)) (Some (pointer_to user_int)) [] ∷ []
  pub none_broken : told_of (stating (assignment 34 (p 33) (u 35))) ≡ None
  -- an element of an array parameter has the flags
  pub elements : failures_of array_parameter ≡ fails_with A4 13 0 (Some user_int) None [] ∷ []
  -- `5 = *i` and `one(1, *i)`: what is asked without the type of `*i`, at the earlier token
  pub no_place : told_of (stating (assignment 34 (number 33 5) (star 35 (i 36)))) ≡ Some (at 34 NotModifiable)
  pub too_many : told_of (stating (call 34 (one 33) (number 35 1 ∷ star 37 (i 38) ∷ []))) ≡ Some (at 34 WrongNumberOfArguments)
  -- `one(*i)` and `*(i = *i)`: an assignment has a type though its right side has none
  pub in_argument : told_of (stating (call 34 (one 33) (star 35 (i 36) ∷ []))) ≡ Some (at 35 CannotDereference)
  pub around : told_of (stating (star 33 (parenthesized 34 (assignment 36 (i 35) (star 37 (i 38)))))) ≡ Some (at 33 CannotDereference)
  -- `p(); *i;`: the earlier token goes before the lower number
  pub earlier : told_of (in_body (statement (call 34 (p 33) []) ∷ statement (star 37 (i 38)) ∷ [])) ≡ Some (at 34 CalledObjectIsNoFunction)

pub record RefusalExamples : Type 0 where
  -- a limit stands behind a constraint at its token, and before one at a later token
  pub together : first_refusal (Some (at 10 CannotDereference)) (Some 10) ≡ Some (BreaksConstraint (at 10 CannotDereference))
  pub later : first_refusal (Some (at 11 CannotDereference)) (Some 10) ≡ Some PassesObjectSize
  pub alone : first_refusal None (Some 10) ≡ Some PassesObjectSize
  pub neither : first_refusal None None ≡ None

-- `extern int i; extern long i; extern const int i;`
abbrev pub three_types : UnitNodes
three_types =
    nodes_of
    (declaration 0 (leaf kinds.ExternSpecifier 0 ∷ leaf kinds.IntSpecifier 1 ∷ []) (declarator 2 (codes "i") [] ∷ [])
    ∷ declaration 4 (leaf kinds.ExternSpecifier 4 ∷ leaf kinds.LongSpecifier 5 ∷ []) (declarator 6 (codes "i") [] ∷ [])
    ∷ declaration 8 (leaf kinds.ExternSpecifier 8 ∷ leaf kinds.ConstQualifier 9 ∷ leaf kinds.IntSpecifier 10 ∷ []) (declarator 11 (codes "i") [] ∷ [])
    ∷ [])

-- `extern int a[]; extern int a[4]; extern int a[5];`
abbrev pub three_lengths : UnitNodes
three_lengths =
    nodes_of
    (declaration 0 (leaf kinds.ExternSpecifier 0 ∷ leaf kinds.IntSpecifier 1 ∷ []) (declarator 2 (codes "a") (leaf kinds.ArrayDeclarator 3 ∷ []) ∷ [])
    ∷ declaration 6 (leaf kinds.ExternSpecifier 6 ∷ leaf kinds.IntSpecifier 7 ∷ []) (declarator 8 (codes "a") (array 9 4 ∷ []) ∷ [])
    ∷ declaration 13 (leaf kinds.ExternSpecifier 13 ∷ leaf kinds.IntSpecifier 14 ∷ []) (declarator 15 (codes "a") (array 16 5 ∷ []) ∷ [])
    ∷ [])

-- `typedef int T; typedef int T;`
abbrev pub same_typedefs : UnitNodes
same_typedefs =
    nodes_of
    (declaration 0 (leaf kinds.TypedefSpecifier 0 ∷ leaf kinds.IntSpecifier 1 ∷ []) (declarator 2 (codes "T") [] ∷ [])
    ∷ declaration 4 (leaf kinds.TypedefSpecifier 4 ∷ leaf kinds.IntSpecifier 5 ∷ []) (declarator 6 (codes "T") [] ∷ [])
    ∷ [])

-- `typedef int T; typedef int *T; extern T x; void g(void) { *x; }`
abbrev pub other_typedef : UnitNodes
other_typedef =
    nodes_of
    (declaration 0 (leaf kinds.TypedefSpecifier 0 ∷ leaf kinds.IntSpecifier 1 ∷ []) (declarator 2 (codes "T") [] ∷ [])
    ∷ declaration 4 (leaf kinds.TypedefSpecifier 4 ∷ leaf kinds.IntSpecifier 5 ∷ []) (declarator 7 (codes "T") (leaf kinds.PointerDeclarator 6 ∷ []) ∷ [])
    ∷ declaration 9 (leaf kinds.ExternSpecifier 9 ∷ named kinds.TypedefName 10 (codes "T") 9 ∷ []) (declarator 11 (codes "x") [] ∷ [])
    ∷ function 13 (leaf kinds.VoidSpecifier 13 ∷ [])
    (declarator 14 (codes "g") (type_over kinds.FunctionDeclarator 15 (parameter 16 (leaf kinds.VoidSpecifier 16 ∷ []) [] ∷ []) ∷ []))
    (over kinds.CompoundStatement 18 (statement (star 19 (named kinds.Name 20 (codes "x") 14)) ∷ []))
    ∷ [])

-- an array whose length is written as a long
abbrev pub long_array : (token length : ℕ) → SyntaxTree
long_array token length =
    Node kinds.ArrayDeclarator token [] 0 (Part Unevaluated (Node (kinds.IntegerConstant integers.Long) (token + 1) [] length NoParts) NoParts)

-- `extern char a[1099511627776]; extern char b[1099511627777];`
abbrev pub large : UnitNodes
large =
    nodes_of
    (declaration 0 (leaf kinds.ExternSpecifier 0 ∷ leaf kinds.CharSpecifier 1 ∷ []) (declarator 2 (codes "a") (long_array 3 1099511627776 ∷ []) ∷ [])
    ∷ declaration 7 (leaf kinds.ExternSpecifier 7 ∷ leaf kinds.CharSpecifier 8 ∷ []) (declarator 9 (codes "b") (long_array 10 1099511627777 ∷ []) ∷ [])
    ∷ [])

pub record DeclarationExamples : Type 0 where
  -- the first of the earlier types that differs is told, and const makes no difference
  pub types :
      failures_of three_types
      ≡ fails_with A7 6 0 (Some int) (Some long) (codes "i") ∷ fails_with A7 11 0 (Some long) (Some const_int) (codes "i") ∷ []
  -- a length that came before counts, and none is no other length
  pub lengths : failures_of three_lengths ≡ fails_with A7 15 0 (Some (array_type int (Some 4))) (Some (array_type int (Some 5))) (codes "a") ∷ []
  -- a typedef stands again with the same type, and with no other one
  pub same : broken_of same_typedefs ≡ []
  -- and then names no type at all
  pub other : broken_of other_typedef ≡ record { constraint = TypedefHasAnotherType; token = 7; name = codes "T" } ∷ []
  -- an object of 2^40 bytes isn't too large
  pub sizes : passed_of large ≡ 10 ∷ []
