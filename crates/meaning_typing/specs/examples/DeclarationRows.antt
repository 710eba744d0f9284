-- Worked examples: declarations, by what they break and what fails at them. Units are drawn as trees, and tokens are counted from 0.
use Rattle.std.specs.Prelude.{◌≡◌, ℕ, ◌+◌, pos, negsuc, true, false, List, [], ◌∷◌, ◌++◌, map, replicate, codes, Option, Some, None}
use Rattle.vocabulary.specs.declared.error_kind.ErrorKind.TheVariants.{BadElementType, BadResultType, BitwiseOnNoInteger, DefinedTwice, IncompleteType, NegativeArraySize, VariableLengthArray, VoidValueUsed}
use Rattle.vocabulary.specs.declared.int_kind.IntKind.TheVariants as integers
use Rattle.vocabulary.specs.declared.node_kind.NodeKind.TheVariants as kinds
use Rattle.vocabulary.specs.declared.role.Role.TheVariants.{TypePart}
use Rattle.vocabulary.specs.declared.rule.RuleCode.{RuleCode}
use Rattle.vocabulary.specs.declared.rule.RuleCode.TheVariants.{A7, S1, S2, S6}
use Rattle.meaning_types.specs.Types.{TypeTree, pointer_to}
use Rattle.meaning_tree.specs.Trees.{SyntaxTree, Node, parts_of}
use Rattle.meaning_operands.specs.Failures.{Failure}
use Rattle.meaning_typing.specs.Units.{UnitNodes}
use Rattle.meaning_typing.specs.Surroundings.{surrounding_at}
use Rattle.meaning_typing.specs.Building.{surroundings_of}
use Rattle.meaning_typing.specs.Facts.{Fact, Unknown, Declared, DeclaredFact, Expression, value}
use Rattle.meaning_typing.specs.Declarators.{array_type}
use Rattle.meaning_typing.specs.Names.{declared_behind, linked_types}
use Rattle.meaning_typing.specs.ContextSums.{ContextSums, LinkedDeclaration, contexts_of, first_differing, redeclared_otherwise}
use Rattle.meaning_typing.specs.WholeTyping.{first_whole_facts}
use Rattle.meaning_typing.specs.Rows.{breaks_at, breaks_named, fails_with}
use Rattle.meaning_typing.specs.DeclarationRows.{fact_of_declarator, size_broken}
use Rattle.meaning_typing.specs.examples.Drawn.{array, declaration, declarator, function, int, leaf, nodes_of, number as one_number, over, parameter, type_over}
use Rattle.meaning_typing.specs.examples.Values.{i, long, nothing_from_nothing, number, void_value, zero}
use Rattle.meaning_typing.specs.examples.Declared.{aggregate, breaking, called, failing, int_at, ints, long_array, passing, tagged, word}

-- Sizes, at token 4

pub record SizeExamples : Type 0 where
  -- `[i]`, `[p == q]`, `[-1]`, `[1 - 1]`, `[4294967296L]`, `[1 + *3]`, `[none()]`
  pub sizes :
      map (size_broken 4)
      (Expression i ∷ Expression (value int) ∷ Expression (number (negsuc 0)) ∷ Expression zero ∷ Expression (number (pos 4294967296)) ∷ Unknown ∷ Expression void_value ∷ [])
      ≡ breaks_at VariableLengthArray 4 ∷ breaks_at VariableLengthArray 4 ∷ breaks_at NegativeArraySize 4 ∷ [] ∷ [] ∷ []
      ∷ (breaks_at VoidValueUsed 4 ++ breaks_at VariableLengthArray 4) ∷ []

-- Declarators of k, in declarations that begin at token 0

abbrev pub fails_at : RuleCode → (token : ℕ) → (name : List ℕ) → List Failure
fails_at rule token name = fails_with rule token 0 None None name ∷ []

abbrev pub k : List ℕ
k = codes "k"

abbrev pub void_at : (token : ℕ) → List SyntaxTree
void_at token = leaf kinds.VoidSpecifier token ∷ []

abbrev pub void_list : (token : ℕ) → SyntaxTree
void_list token = type_over kinds.FunctionDeclarator token (parameter (token + 1) (void_at (token + 1)) [] ∷ [])

abbrev pub no_length : (token : ℕ) → SyntaxTree
no_length token = leaf kinds.ArrayDeclarator token

-- `static SPECIFIERS k PARTS;`, so that it isn't told that k is new
abbrev pub static_one : (specifiers parts : List SyntaxTree) → UnitNodes
static_one specifiers parts = nodes_of (declaration 0 (leaf kinds.StaticSpecifier 0 ∷ specifiers) (declarator 3 k parts ∷ []) ∷ [])

abbrev pub unknown_at : (token : ℕ) → List SyntaxTree
unknown_at token = tagged kinds.StructSpecifier token (codes "unknown") token ∷ []

pub record PartExamples : Type 0 where
  -- `void k[3]`, `int k[3](void)`, `struct unknown k[3]`, `int k[3][]`
  pub elements :
      map breaking
      (static_one (void_at 1) (array 4 3 ∷ []) ∷ static_one (int_at 1) (void_list 7 ∷ array 4 3 ∷ []) ∷ static_one (unknown_at 1) (array 4 3 ∷ [])
      ∷ static_one (int_at 1) (no_length 7 ∷ array 4 3 ∷ []) ∷ [])
      ≡ replicate 4 (breaks_at BadElementType 4)
  -- `int k[][3]`, `void (*k[3])(void)`, `int *k[3][2]`
  pub good_elements :
      map breaking
      (static_one (int_at 1) (array 6 3 ∷ no_length 4 ∷ []) ∷ static_one (void_at 1) (void_list 7 ∷ leaf kinds.PointerDeclarator 2 ∷ array 4 3 ∷ [])
      ∷ static_one (int_at 1) (leaf kinds.PointerDeclarator 2 ∷ array 7 2 ∷ array 4 3 ∷ []) ∷ [])
      ≡ replicate 3 []
  -- `int k(void)[3]`, `int k(void)(void)`, and `int (*k(void))[3]`
  pub results :
      map breaking
      (static_one (int_at 1) (array 7 3 ∷ void_list 4 ∷ []) ∷ static_one (int_at 1) (void_list 7 ∷ void_list 4 ∷ [])
      ∷ static_one (int_at 1) (array 9 3 ∷ leaf kinds.PointerDeclarator 2 ∷ void_list 4 ∷ []) ∷ [])
      ≡ breaks_at BadResultType 4 ∷ breaks_at BadResultType 4 ∷ [] ∷ []
  -- `int k(void)(void)[3]` and `int k[3](void)[2]`, of which the part behind the one that is told makes no type
  pub behind_bad_ones :
      map breaking
      (static_one (int_at 1) (array 10 3 ∷ void_list 7 ∷ void_list 4 ∷ []) ∷ static_one (int_at 1) (array 10 2 ∷ void_list 7 ∷ array 4 3 ∷ []) ∷ [])
      ≡ replicate 2 (breaks_at BadResultType 7)
  -- `void k[3] BITWISE`, and `int (*k[1099511627776])(void)[3]`, whose array isn't measured
  pub no_type_behind :
      breaking (nodes_of (declaration 0 (leaf kinds.StaticSpecifier 0 ∷ void_at 1) (declarator 3 k (array 4 3 ∷ []) ∷ word kinds.BitwiseAttribute 7 0 ∷ []) ∷ []))
      ≡ breaks_at BadElementType 4
  pub unmeasured :
      passing (static_one (int_at 1) (array 13 3 ∷ void_list 9 ∷ leaf kinds.PointerDeclarator 2 ∷ long_array 4 1099511627776 ∷ [])) ≡ []
  -- `int *BITWISE k`, `int k[2] BITWISE`, `unsigned int k BITWISE`
  pub bitwise :
      map breaking
      (static_one (int_at 1) (type_over kinds.PointerDeclarator 2 (word kinds.BitwiseAttribute 6 0 ∷ []) ∷ [])
      ∷ nodes_of (declaration 0 (leaf kinds.StaticSpecifier 0 ∷ int_at 1) (declarator 3 k (array 4 2 ∷ []) ∷ word kinds.BitwiseAttribute 6 0 ∷ []) ∷ [])
      ∷ nodes_of (declaration 0 (leaf kinds.StaticSpecifier 0 ∷ int_at 1) (declarator 3 k [] ∷ word kinds.BitwiseAttribute 6 0 ∷ []) ∷ []) ∷ [])
      ≡ breaks_at BitwiseOnNoInteger 9 ∷ breaks_at BitwiseOnNoInteger 9 ∷ [] ∷ []
  -- `int k();`
  pub empty_list : failing (static_one (int_at 1) (leaf kinds.FunctionDeclarator 4 ∷ [])) ≡ fails_at S6 4 []

-- Complete types

-- `static void f(void) { .. }`, whose body begins at token 7
abbrev pub in_function : List SyntaxTree → UnitNodes
in_function items =
    nodes_of (function 0 (leaf kinds.StaticSpecifier 0 ∷ void_at 1) (declarator 2 (codes "f") (void_list 3 ∷ [])) (over kinds.CompoundStatement 6 items) ∷ [])

abbrev pub extern_at : (token : ℕ) → List SyntaxTree → List SyntaxTree
extern_at token specifiers = leaf kinds.ExternSpecifier token ∷ specifiers

pub record CompletenessExamples : Type 0 where
  -- in a block: `struct unknown k;`, `void k;`, `int k[];`, and `extern struct unknown k;`
  pub in_block :
      map breaking
      (in_function (declaration 7 (unknown_at 7) (called 9 k ∷ []) ∷ []) ∷ in_function (declaration 7 (void_at 7) (called 9 k ∷ []) ∷ [])
      ∷ in_function (declaration 7 (int_at 7) (declarator 9 k (no_length 10 ∷ []) ∷ []) ∷ []) ∷ in_function (declaration 7 (extern_at 7 (unknown_at 8)) (called 10 k ∷ []) ∷ []) ∷ [])
      ≡ breaks_at IncompleteType 9 ∷ breaks_at IncompleteType 9 ∷ breaks_at IncompleteType 9 ∷ [] ∷ []
  -- in a block: `void k[2];`, which has no type that could be incomplete
  pub array_in_block :
      breaking (in_function (declaration 7 (void_at 7) (declarator 8 k (array 9 2 ∷ []) ∷ []) ∷ [])) ≡ breaks_at BadElementType 9
  -- at file scope: `static struct unknown k;`, `static void k;`, `static int k[];`
  pub in_file : map breaking (static_one (unknown_at 1) [] ∷ static_one (void_at 1) [] ∷ static_one (int_at 1) (no_length 4 ∷ []) ∷ []) ≡ breaks_at IncompleteType 3 ∷ breaks_at IncompleteType 3 ∷ [] ∷ []
  -- `extern void k;`, and `struct later k; struct later { int a; };`
  pub told_later :
      map breaking
      (nodes_of (declaration 0 (extern_at 0 (void_at 1)) (called 3 k ∷ []) ∷ [])
      ∷ nodes_of
      (declaration 0 (tagged kinds.StructSpecifier 0 (codes "later") 0 ∷ []) (called 2 k ∷ [])
      ∷ declaration 4 (aggregate kinds.StructSpecifier 4 (codes "later") 0 6 (ints 7 (called 8 (codes "a") ∷ []) ∷ []) ∷ []) [] ∷ []) ∷ [])
      ≡ [] ∷ [] ∷ []
  -- `void k(void); int k;`, `void k(void); struct unknown k;`, and `struct unknown k; void k(void);`
  pub behind_function :
      map breaking
      (nodes_of (declaration 0 (void_at 0) (declarator 1 k (void_list 2 ∷ []) ∷ []) ∷ declaration 6 (int_at 6) (called 7 k ∷ []) ∷ [])
      ∷ nodes_of (declaration 0 (void_at 0) (declarator 1 k (void_list 2 ∷ []) ∷ []) ∷ declaration 6 (unknown_at 6) (called 8 k ∷ []) ∷ [])
      ∷ nodes_of (declaration 0 (unknown_at 0) (called 2 k ∷ []) ∷ declaration 4 (void_at 4) (declarator 5 k (void_list 6 ∷ []) ∷ []) ∷ []) ∷ [])
      ≡ [] ∷ [] ∷ breaks_at IncompleteType 2 ∷ []
  -- `struct unknown f(void) { }`, `void f(struct unknown k) { }`, and its prototype
  pub definitions :
      map breaking
      (nodes_of (function 0 (unknown_at 0) (declarator 2 (codes "f") (void_list 3 ∷ [])) (over kinds.CompoundStatement 6 []) ∷ [])
      ∷ nodes_of (function 0 (void_at 0) (declarator 1 (codes "f") (type_over kinds.FunctionDeclarator 2 (parameter 3 (unknown_at 3) (called 5 k ∷ []) ∷ []) ∷ [])) (over kinds.CompoundStatement 7 []) ∷ [])
      ∷ nodes_of (declaration 0 (void_at 0) (declarator 1 (codes "f") (type_over kinds.FunctionDeclarator 2 (parameter 3 (unknown_at 3) (called 5 k ∷ []) ∷ []) ∷ []) ∷ []) ∷ []) ∷ [])
      ≡ breaks_at IncompleteType 2 ∷ breaks_at IncompleteType 5 ∷ [] ∷ []
  -- `void f(int, void);`
  pub void_parameter :
      breaking (nodes_of (declaration 0 (void_at 0) (declarator 1 (codes "f") (type_over kinds.FunctionDeclarator 2 (parameter 3 (int_at 3) [] ∷ parameter 5 (void_at 5) [] ∷ []) ∷ []) ∷ []) ∷ []))
      ≡ breaks_at IncompleteType 5
  -- `static void f(void) { } static void f(void) { }`
  pub twice :
      breaking
      (nodes_of
      (function 0 (leaf kinds.StaticSpecifier 0 ∷ void_at 1) (declarator 2 (codes "f") (void_list 3 ∷ [])) (over kinds.CompoundStatement 6 [])
      ∷ function 8 (leaf kinds.StaticSpecifier 8 ∷ void_at 9) (declarator 10 (codes "f") (void_list 11 ∷ [])) (over kinds.CompoundStatement 14 []) ∷ []))
      ≡ breaks_named DefinedTwice 10 (codes "f")
  -- `static void f(void) { } static int f(void)(void) { }`, whose name is asked though it has no type
  pub twice_without_type :
      breaking
      (nodes_of
      (function 0 (leaf kinds.StaticSpecifier 0 ∷ void_at 1) (declarator 2 (codes "f") (void_list 3 ∷ [])) (over kinds.CompoundStatement 6 [])
      ∷ function 8 (leaf kinds.StaticSpecifier 8 ∷ int_at 9) (declarator 10 (codes "f") (void_list 14 ∷ void_list 11 ∷ [])) (over kinds.CompoundStatement 17 []) ∷ []))
      ≡ breaks_at BadResultType 11 ++ breaks_named DefinedTwice 10 (codes "f")

-- Rules at names

abbrev pub void_function : (token : ℕ) → (specifiers lists : List SyntaxTree) → SyntaxTree
void_function token specifiers lists = declaration token specifiers (declarator (token + 1) k (void_list (token + 2) ∷ []) ∷ lists)

-- `context(ENTERS, LEAVES)`, in a list at this token
abbrev pub context : (token enters leaves : ℕ) → SyntaxTree
context token enters leaves =
    type_over kinds.AttributeList token
    (type_over kinds.ContextAttribute (token + 3)
    (Node (kinds.IntegerConstant integers.Int) (token + 5) [] enters (parts_of TypePart []) ∷ Node (kinds.IntegerConstant integers.Int) (token + 7) [] leaves (parts_of TypePart []) ∷ []) ∷ [])

pub record DeclarationFailures : Type 0 where
  -- `int k;`, `extern int k;`, `static int k;`, `int k(void);`, `typedef int k;`
  pub new_ones :
      map failing
      (nodes_of (declaration 0 (int_at 0) (called 1 k ∷ []) ∷ []) ∷ nodes_of (declaration 0 (extern_at 0 (int_at 1)) (called 2 k ∷ []) ∷ []) ∷ static_one (int_at 1) []
      ∷ nodes_of (declaration 0 (int_at 0) (declarator 1 k (void_list 2 ∷ []) ∷ []) ∷ []) ∷ nodes_of (declaration 0 (leaf kinds.TypedefSpecifier 0 ∷ int_at 1) (called 2 k ∷ []) ∷ []) ∷ [])
      ≡ fails_at S1 1 k ∷ [] ∷ [] ∷ [] ∷ [] ∷ []
  -- `extern int k; int k;`, `int k; int k;`, `void k(void) { }`
  pub declared_before :
      failing (nodes_of (declaration 0 (extern_at 0 (int_at 1)) (called 2 k ∷ []) ∷ declaration 4 (int_at 4) (called 5 k ∷ []) ∷ [])) ≡ []
  pub tentative_twice : failing (nodes_of (declaration 0 (int_at 0) (called 1 k ∷ []) ∷ declaration 3 (int_at 3) (called 4 k ∷ []) ∷ [])) ≡ fails_at S1 1 k
  pub new_function : failing (nodes_of (function 0 (void_at 0) (declarator 1 k (void_list 2 ∷ [])) (over kinds.CompoundStatement 5 []) ∷ [])) ≡ fails_at S1 1 k
  -- in a block, each with a number: `int k;`, an enumerator, and `extern int k;` behind a `extern int k;` of the file
  pub hidden :
      map failing
      (in_function (declaration 7 (int_at 7) (Node kinds.Declarator 8 k 1 (parts_of TypePart []) ∷ []) ∷ [])
      ∷ in_function (declaration 7 (Node kinds.EnumSpecifier 7 [] 7 (parts_of TypePart (Node kinds.Enumerator 9 k 1 (parts_of TypePart []) ∷ [])) ∷ []) [] ∷ [])
      ∷ nodes_of
      (declaration 0 (extern_at 0 (int_at 1)) (called 2 k ∷ [])
      ∷ function 4 (leaf kinds.StaticSpecifier 4 ∷ void_at 5) (declarator 6 (codes "f") (void_list 7 ∷ []))
      (over kinds.CompoundStatement 10 (declaration 11 (extern_at 11 (int_at 12)) (Node kinds.Declarator 13 k 4 (parts_of TypePart []) ∷ []) ∷ [])) ∷ []) ∷ [])
      ≡ fails_at S2 8 k ∷ fails_at S2 9 k ∷ [] ∷ []
  -- a parameter of a body that hides its function's name, and one of a prototype
  pub hiding_parameters :
      map failing
      (nodes_of
      (function 0 (leaf kinds.StaticSpecifier 0 ∷ void_at 1)
      (declarator 2 k (type_over kinds.FunctionDeclarator 3 (parameter 4 (int_at 4) (Node kinds.Declarator 5 k 9 (parts_of TypePart []) ∷ []) ∷ []) ∷ []))
      (over kinds.CompoundStatement 7 []) ∷ [])
      ∷ static_one (int_at 1) (type_over kinds.FunctionDeclarator 4 (parameter 5 (int_at 5) (Node kinds.Declarator 6 k 1 (parts_of TypePart []) ∷ []) ∷ []) ∷ []) ∷ [])
      ≡ fails_at S2 5 k ∷ [] ∷ []
  -- `void k(void) CONTEXT(0, 1); void k(void); void k(void) CONTEXT(1, 1);`
  pub other_contexts :
      failing (nodes_of (void_function 0 (void_at 0) (context 6 0 1 ∷ []) ∷ void_function 20 (void_at 20) [] ∷ void_function 30 (void_at 30) (context 36 1 1 ∷ []) ∷ []))
      ≡ fails_with A7 31 0 (Some nothing_from_nothing) (Some nothing_from_nothing) k ∷ []
  -- `void k(void) CONTEXT(0, 1) CONTEXT(1, 0); void k(void) CONTEXT(1, 1);`
  pub same_sums :
      failing (nodes_of (void_function 0 (void_at 0) (context 6 0 1 ∷ context 16 1 0 ∷ []) ∷ void_function 30 (void_at 30) (context 36 1 1 ∷ []) ∷ [])) ≡ []
  -- `CONTEXT(0, 1) void k(void); void k(void) CONTEXT(1, 0);`
  pub among_specifiers :
      failing (nodes_of (void_function 20 (context 0 0 1 ∷ void_at 20) [] ∷ void_function 30 (void_at 30) (context 36 1 0 ∷ []) ∷ []))
      ≡ fails_with A7 31 0 (Some nothing_from_nothing) (Some nothing_from_nothing) k ∷ []

-- Initializers

-- `CONTEXT(0, 1) static int k[] = 1;`, whose declarator is node 8, and its initializer node 10
abbrev pub initialized_array : SyntaxTree
initialized_array =
    declaration 0 (context 0 0 1 ∷ leaf kinds.StaticSpecifier 10 ∷ int_at 11) (declarator 12 k (no_length 13 ∷ []) ∷ over kinds.Initializer 15 (one_number 16 1 ∷ []) ∷ [])

abbrev pub initialized : UnitNodes
initialized = nodes_of (initialized_array ∷ [])

abbrev pub k_declared : TypeTree → DeclaredFact
k_declared type_ = record { name = k; type_ = type_; is_typedef = false; has_linkage = true; is_static = true; is_register = false }

abbrev pub array_declared : (length : Option ℕ) → Fact
array_declared length = Declared (k_declared (array_type int length))

-- before its initializer, and with it
abbrev pub facts_within : List Fact
facts_within = first_whole_facts initialized (surroundings_of initialized) 10

abbrev pub facts_behind : List Fact
facts_behind = facts_within ++ array_declared (Some 2) ∷ []

abbrev pub declared_at : List Fact → Fact
declared_at facts = declared_behind initialized (surroundings_of initialized) facts 8

abbrev pub contexts_at : (handle : ℕ) → Option ContextSums
contexts_at handle = contexts_of initialized handle (surrounding_at (surroundings_of initialized) handle)

-- and behind it `int *k;`, whose declarator is node 15
abbrev pub declared_again : UnitNodes
declared_again = nodes_of (initialized_array ∷ declaration 18 (int_at 18) (declarator 20 k (leaf kinds.PointerDeclarator 19 ∷ []) ∷ []) ∷ [])

abbrev pub otherwise_behind : List Fact → List Failure
otherwise_behind facts =
    redeclared_otherwise declared_again (surroundings_of declared_again) facts 15 (surrounding_at (surroundings_of declared_again) 15) (k_declared (pointer_to int))

abbrev pub expects_array : (length : Option ℕ) → List Failure
expects_array length = fails_with A7 20 0 (Some (array_type int length)) (Some (pointer_to int)) k ∷ []

abbrev pub of_type : TypeTree → LinkedDeclaration
of_type type_ = record { type_ = type_; contexts = None }

pub record InitializerExamples : Type 0 where
  -- a name within it has the declared type, one behind it the completed type
  pub within : declared_at facts_within ≡ array_declared None
  pub behind : declared_at facts_behind ≡ array_declared (Some 2)
  -- what is linked has the completed length, and that is no declaration with contexts of its own
  pub linked : linked_types k facts_behind ≡ array_type int None ∷ array_type int (Some 2) ∷ []
  pub contexts : map contexts_at (8 ∷ 10 ∷ []) ≡ Some (record { enters = 0; leaves = 1 }) ∷ None ∷ []
  -- `int *k` is told the completed type; where the initializer isn't known yet, the declared type
  pub otherwise : map otherwise_behind (facts_behind ∷ facts_within ∷ []) ≡ expects_array (Some 2) ∷ expects_array None ∷ []
  -- of `extern int *k; extern long k;` within it the second one differs from both, and the array is the first of them
  pub first_of_two : first_differing (of_type long) (8 ∷ 12 ∷ []) (of_type (array_type int None) ∷ of_type (pointer_to int) ∷ []) ≡ Some 8
  -- nor does it define an object at file scope
  pub declarators : map (fact_of_declarator initialized facts_behind) (8 ∷ 10 ∷ []) ≡ array_declared None ∷ Unknown ∷ []
