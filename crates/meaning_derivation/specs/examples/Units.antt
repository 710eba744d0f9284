-- Worked examples: short units, and the trees that they derive or what is told of them.
use Rattle.std.specs.Prelude.{◌≡◌, ℕ, Bool, true, false, Option, Some, None, List, [], ◌∷◌, ◌++◌, codes}
use Rattle.vocabulary.specs.declared.int_kind.IntKind.TheVariants.{Int}
use Rattle.vocabulary.specs.declared.error_kind.ErrorKind.TheVariants.{SyntaxError, NotDeclared, Redeclared, FloatingType, NestedFunction, ComputedGoto}
use Rattle.vocabulary.specs.declared.limit.LimitKind.TheVariants.{ParseStack}
use Rattle.vocabulary.specs.declared.role.Role.{Role}
use Rattle.vocabulary.specs.declared.role.Role.TheVariants.{Evaluated, Condition, TypePart, Unevaluated}
use Rattle.vocabulary.specs.declared.node_kind.NodeKind.{NodeKind}
use Rattle.vocabulary.specs.declared.node_kind.NodeKind.TheVariants as kinds
use Rattle.vocabulary.specs.declared.symbol.Symbol.TheVariants.{Expression}
use Rattle.vocabulary.specs.declared.token_class.TokenClass.TheVariants.{Semicolon}
use Rattle.vocabulary.specs.declared.production_item.ProductionItem.TheVariants.{Nonterminal}
use Rattle.vocabulary.specs.declared.production_item.ProductionItem.TheVariants as items
use Rattle.meaning_text.specs.Places.{main_file}
use Rattle.meaning_text.specs.Tokens.{Tok}
use Rattle.meaning_text.specs.Lexing.{Lexed, Tokens, Refused, lexed_file}
use Rattle.meaning_tree.specs.Trees.{SyntaxTree, Node, Parts, NoParts, Part}
use Rattle.meaning_grammar.specs.Terminals.{terminals}
use Rattle.meaning_derivation.specs.Values.{Value, TreeValue, plain_tree, named_tree}
use Rattle.meaning_derivation.specs.Scoping.{own_parameters}
use Rattle.meaning_derivation.specs.State.{Fault, IsError, PassesLimit, Outcome, Done, Fails}
use Rattle.meaning_derivation.specs.Units.{state_before}
use Rattle.meaning_derivation.specs.Actions.{act}
use Rattle.meaning_derivation.specs.plain.Deriving.{derive_all, derived_outcome}

abbrev pub tokens_or_none : Lexed → List Tok
tokens_or_none (Tokens tokens) = tokens
tokens_or_none (Refused fault) = []

-- the tokens of a text
abbrev pub tokens_of : List ℕ → List Tok
tokens_of text = tokens_or_none (lexed_file main_file text)

-- what a reader of a row compares: the values that are left, or the refusal
pub data Shown : Type 0 where
  IsLeft : List Value → Shown
  IsTold : Fault → (decided stands : ℕ) → Shown
  NoOutcome : Shown

abbrev pub shown : Option Outcome → Shown
shown None = NoOutcome
shown (Some (Done state terminals)) = IsLeft state.values
shown (Some (Fails fault decided stands)) = IsTold fault decided stands

-- what comes of the tokens of a text
abbrev pub unit : List ℕ → Shown
unit text = shown (derived_outcome act 400 (tokens_of text))

-- a unit with these parts
abbrev pub tree : Parts (List ℕ) → Shown
tree parts = IsLeft (TreeValue (plain_tree kinds.TranslationUnit 0 parts) ∷ [])

-- a part of a type, an evaluated part, and parts behind them

abbrev pub typed : SyntaxTree → Parts (List ℕ) → Parts (List ℕ)
typed tree parts = Part TypePart tree parts

abbrev pub evaluated : SyntaxTree → Parts (List ℕ) → Parts (List ℕ)
evaluated tree parts = Part Evaluated tree parts

-- `int` at a token, as specifiers
abbrev pub int_at : ℕ → SyntaxTree
int_at token = plain_tree kinds.Specifiers token (typed (plain_tree kinds.IntSpecifier token NoParts) NoParts)

-- `int NAME;` from this token on
abbrev pub declared_int : ℕ → ℕ → List ℕ → SyntaxTree
declared_int token name_token name =
    plain_tree kinds.Declaration token (typed (int_at token) (evaluated (named_tree kinds.Declarator name_token name NoParts) NoParts))

-- `(void)` at this token
abbrev pub void_parameters : ℕ → ℕ → SyntaxTree
void_parameters token void_token =
    plain_tree kinds.FunctionDeclarator token
    (typed
    (plain_tree kinds.Parameter void_token
    (typed (plain_tree kinds.Specifiers void_token (typed (plain_tree kinds.VoidSpecifier void_token NoParts) NoParts)) NoParts))
    NoParts)

-- Parts that stand at the name
pub record NameExamples : Type 0 where
  -- `f(void)` and `(__attribute__((x)) f)(void)`
  pub function : own_parameters (typed (void_parameters 5 6) NoParts) ≡ Some 5
  pub in_parentheses : own_parameters (typed (void_parameters 5 6) (typed (plain_tree kinds.ParenthesizedAttributes 1 NoParts) NoParts)) ≡ Some 5
  -- `(__attribute__((x)) *f)(void)` and `(*(__attribute__((x)) f))(void)`
  pub pointer :
      own_parameters
      (typed (void_parameters 5 6)
      (typed (plain_tree kinds.ParenthesizedAttributes 1 NoParts) (typed (plain_tree kinds.PointerDeclarator 2 NoParts) NoParts)))
      ≡ None
  pub pointer_before :
      own_parameters
      (typed (void_parameters 5 6)
      (typed (plain_tree kinds.PointerDeclarator 2 NoParts) (typed (plain_tree kinds.ParenthesizedAttributes 3 NoParts) NoParts)))
      ≡ None

pub record TreeExamples : Type 0 where
  pub empty : unit [] ≡ tree NoParts
  pub declaration : unit (codes "int x;") ≡ tree (evaluated (declared_int 0 1 (codes "x")) NoParts)
  -- a name of a type, by the handle of its declarator: the fourth node
  pub typedef_name :
      unit (codes "typedef int x; x;")
      ≡ tree
      (evaluated
      (plain_tree kinds.Declaration 0
      (typed
      (Node kinds.Specifiers 0 [] 1
      (typed (plain_tree kinds.TypedefSpecifier 0 NoParts) (typed (plain_tree kinds.IntSpecifier 1 NoParts) NoParts)))
      (evaluated (named_tree kinds.Declarator 2 (codes "x") NoParts) NoParts)))
      (evaluated
      (plain_tree kinds.Declaration 4
      (typed (plain_tree kinds.Specifiers 4 (typed (Node kinds.TypedefName 4 (codes "x") 3 NoParts) NoParts)) NoParts))
      NoParts))
  -- specifiers have the number of their storage class
  pub external :
      unit (codes "extern int x;")
      ≡ tree
      (evaluated
      (plain_tree kinds.Declaration 0
      (typed
      (Node kinds.Specifiers 0 [] 2
      (typed (plain_tree kinds.ExternSpecifier 0 NoParts) (typed (plain_tree kinds.IntSpecifier 1 NoParts) NoParts)))
      (evaluated (named_tree kinds.Declarator 2 (codes "x") NoParts) NoParts)))
      NoParts)
  -- a name stands for the third node, the declarator of `y`
  pub function :
      unit (codes "int y; int f(void) { return y + 1; }")
      ≡ tree
      (evaluated (declared_int 0 1 (codes "y"))
      (evaluated
      (plain_tree kinds.FunctionDefinition 3
      (typed (int_at 3)
      (typed (named_tree kinds.Declarator 4 (codes "f") (typed (void_parameters 5 6) NoParts))
      (evaluated
      (Node kinds.CompoundStatement 8 [] 14
      (evaluated
      (plain_tree kinds.ReturnStatement 9
      (evaluated
      (plain_tree kinds.Addition 11
      (evaluated (Node kinds.Name 10 (codes "y") 2 NoParts)
      (evaluated (Node (kinds.IntegerConstant Int) 12 [] 1 NoParts) NoParts)))
      NoParts))
      NoParts))
      NoParts))))
      NoParts))
  -- parts of a declarator stand from the specified type outwards: a pointer, a function, a pointer, an array
  pub declarator :
      unit (codes "int *(*f[2])(void);")
      ≡ tree
      (evaluated
      (plain_tree kinds.Declaration 0
      (typed (int_at 0)
      (evaluated
      (named_tree kinds.Declarator 4 (codes "f")
      (typed (plain_tree kinds.PointerDeclarator 1 NoParts)
      (typed (void_parameters 9 10)
      (typed (plain_tree kinds.PointerDeclarator 3 NoParts)
      (typed
      (plain_tree kinds.ArrayDeclarator 5 (Part Unevaluated (Node (kinds.IntegerConstant Int) 6 [] 2 NoParts) NoParts))
      NoParts)))))
      NoParts)))
      NoParts)

-- a unit is read
abbrev pub is_read : Shown → Bool
is_read (IsLeft values) = true
is_read told = false

-- Parameters are in scope in their function's body and nowhere else (6.2.1 p4).
pub record BodyExamples : Type 0 where
  -- they are declared there
  pub parameter : is_read (unit (codes "void f(int a) { a = a; }")) ≡ true
  -- in the outermost block, where no other declaration has that name
  pub redeclared : unit (codes "void f(int a) { int a; }") ≡ IsTold (IsError Redeclared) 8 8
  pub hidden : is_read (unit (codes "void f(int a) { { int a; } }")) ≡ true
  -- of two lists the one at the name is the function's
  pub own : is_read (unit (codes "int (*f(int a))(int b) { return a; }")) ≡ true
  pub other : unit (codes "int (*f(int a))(int b) { return b; }") ≡ IsTold (IsError NotDeclared) 15 15
  -- a list within another one isn't, and one of an earlier declaration isn't either
  pub inner : unit (codes "void f(int g(int a)) { a; }") ≡ IsTold (IsError NotDeclared) 11 11
  pub earlier : unit (codes "void f(int a); void g(void) { a; }") ≡ IsTold (IsError NotDeclared) 13 13
  -- a name of a type is hidden by a parameter
  pub hides : is_read (unit (codes "typedef int t; void f(int t) { t = 1; }")) ≡ true
  -- a body that is no function's opens a scope of its own
  pub own_scope : unit (codes "void f(int a) { { int b; } b; }") ≡ IsTold (IsError NotDeclared) 12 12

-- What a name is bound as, as its redeclaration shows (6.2.2, 6.7 p3)
pub record BindExamples : Type 0 where
  -- at file scope an object may be declared twice, in a block it may not
  pub file : is_read (unit (codes "int x; int x;")) ≡ true
  pub block : unit (codes "void f(void) { int x; int x; }") ≡ IsTold (IsError Redeclared) 10 10
  -- but where both say `extern`, or declare a function
  pub external : is_read (unit (codes "void f(void) { extern int x; extern int x; }")) ≡ true
  pub functions : is_read (unit (codes "void f(void) { int g(void); int g(void); }")) ≡ true
  pub one_external : unit (codes "void f(void) { int x; extern int x; }") ≡ IsTold (IsError Redeclared) 11 11
  -- each declarator behind the specifiers is bound as they say
  pub further : is_read (unit (codes "typedef int t, u; u x;")) ≡ true
  pub further_block : unit (codes "void f(void) { int x, x; }") ≡ IsTold (IsError Redeclared) 9 9
  -- an enumerator is no object, and a parameter has no linkage
  pub enumerator : unit (codes "enum { A }; int A;") ≡ IsTold (IsError Redeclared) 6 6
  pub enumerators : unit (codes "enum { A, A };") ≡ IsTold (IsError Redeclared) 4 4
  pub parameters : unit (codes "int f(int a, int a);") ≡ IsTold (IsError Redeclared) 7 7
  -- parameters without a name bind nothing
  pub nameless : is_read (unit (codes "int f(int *, int *);")) ≡ true

-- What names of inner scopes hide (6.2.1 p4): the number of each declarator and enumerator

abbrev mutual
  pub numbers_of : SyntaxTree → List ℕ
  numbers_of (Node kinds.Declarator token name number parts) = number ∷ numbers_in parts
  numbers_of (Node kinds.Enumerator token name number parts) = number ∷ numbers_in parts
  numbers_of (Node kind token name number parts) = numbers_in parts

  pub numbers_in : Parts (List ℕ) → List ℕ
  numbers_in NoParts = []
  numbers_in (Part role tree parts) = numbers_of tree ++ numbers_in parts

abbrev pub hiding_numbers : Shown → List ℕ
hiding_numbers (IsLeft (TreeValue tree ∷ [])) = numbers_of tree
hiding_numbers told = []

abbrev pub hiding : List ℕ → List ℕ
hiding text = hiding_numbers (unit text)

pub record HidingExamples : Type 0 where
  -- the declarator of the file's `x` has handle 2
  pub object : hiding (codes "int x; void f(void) { int x; }") ≡ 0 ∷ 0 ∷ 3 ∷ []
  pub typedef : hiding (codes "int x; void f(void) { typedef int x; }") ≡ 0 ∷ 0 ∷ 3 ∷ []
  pub enumerator : hiding (codes "int x; void f(void) { enum { x }; }") ≡ 0 ∷ 0 ∷ 3 ∷ []
  pub linked : hiding (codes "int x; void f(void) { extern int x; }") ≡ 0 ∷ 0 ∷ 3 ∷ []
  pub parameter : hiding (codes "int x; void f(int x) { }") ≡ 0 ∷ 0 ∷ 3 ∷ []
  -- an enumerator is hidden as an object is
  pub hidden_enumerator : hiding (codes "enum { x }; void f(void) { int x; }") ≡ 0 ∷ 0 ∷ 1 ∷ []
  -- a parameter by an object of a block within the body, and that by one further in
  pub blocks : hiding (codes "void f(int x) { { int x; { int x; } } }") ≡ 0 ∷ 0 ∷ 5 ∷ 11 ∷ []
  -- the outer name is visible again behind the block, and so are no names of other blocks
  pub behind : hiding (codes "int x; void f(void) { { int x; int y; } int x; int y; }") ≡ 0 ∷ 0 ∷ 3 ∷ 0 ∷ 3 ∷ 0 ∷ []
  -- nothing is hidden in the file, nor by what is declared again in its scope
  pub file : hiding (codes "int x; int x;") ≡ 0 ∷ 0 ∷ []
  pub again : hiding (codes "int x; void f(void) { extern int x; extern int x; }") ≡ 0 ∷ 0 ∷ 3 ∷ 0 ∷ []
  -- a parameter hides its function where that has a body, by the declarator in front of the body
  pub own_name : hiding (codes "void f(int f) { }") ≡ 0 ∷ 8 ∷ []
  pub nested_list : hiding (codes "void f(int g(int f), int f) { }") ≡ 0 ∷ 0 ∷ 0 ∷ 17 ∷ []
  pub own_prototype : hiding (codes "void f(int f);") ≡ 0 ∷ 0 ∷ []
  pub later_body : hiding (codes "void f(int a); void f(int f) { }") ≡ 0 ∷ 0 ∷ 0 ∷ 17 ∷ []
  -- tags, members and labels are other names
  pub tag : hiding (codes "struct x { int y; }; int y; void f(void) { int x; struct t { int y; }; y: ; }") ≡ 0 ∷ 0 ∷ 0 ∷ 0 ∷ 0 ∷ []

-- Operators of one level, one behind the other (C11 6.5.5 to 6.5.14)

-- `int x = 1 OPERATOR 2 OPERATOR 3;`
abbrev pub chained : List ℕ → Shown
chained operator = unit (codes "int x = 1" ++ operator ++ codes "2" ++ operator ++ codes "3;")

abbrev pub constant_at : (token number : ℕ) → SyntaxTree
constant_at token number = Node (kinds.IntegerConstant Int) token [] number NoParts

-- an operator at a token, between two operands
abbrev pub joined_at : NodeKind → Role → (token : ℕ) → (left right : SyntaxTree) → SyntaxTree
joined_at kind role token left right = plain_tree kind token (Part role left (Part role right NoParts))

-- the first two operands are joined first
abbrev pub from_the_left : NodeKind → Role → Shown
from_the_left kind role =
    tree
    (evaluated
    (plain_tree kinds.Declaration 0
    (typed (int_at 0)
    (evaluated (named_tree kinds.Declarator 1 (codes "x") NoParts)
    (evaluated
    (plain_tree kinds.Initializer 2
    (evaluated (joined_at kind role 6 (joined_at kind role 4 (constant_at 3 1) (constant_at 5 2)) (constant_at 7 3)) NoParts))
    NoParts))))
    NoParts)

pub record ChainExamples : Type 0 where
  pub multiplied : chained (codes "*") ≡ from_the_left kinds.Multiplication Evaluated
  pub subtracted : chained (codes "-") ≡ from_the_left kinds.Subtraction Evaluated
  pub shifted : chained (codes "<<") ≡ from_the_left kinds.LeftShift Evaluated
  pub ordered : chained (codes "<") ≡ from_the_left kinds.Less Evaluated
  pub compared : chained (codes "==") ≡ from_the_left kinds.Equal Evaluated
  pub anded : chained (codes "&") ≡ from_the_left kinds.BitwiseAnd Evaluated
  pub exclusive : chained (codes "^") ≡ from_the_left kinds.BitwiseExclusiveOr Evaluated
  pub inclusive : chained (codes "|") ≡ from_the_left kinds.BitwiseOr Evaluated
  pub both : chained (codes "&&") ≡ from_the_left kinds.LogicalAnd Condition
  pub either : chained (codes "||") ≡ from_the_left kinds.LogicalOr Condition

-- what comes of an expression and a semicolon where so many symbols wait
abbrev pub waiting : ℕ → List ℕ → Shown
waiting pending text =
    let tokens = tokens_of text in
    shown (derive_all act 100 (Nonterminal Expression ∷ items.Passed Semicolon ∷ []) pending (state_before tokens) (terminals tokens))

pub record RefusalExamples : Type 0 where
  -- one of each kind: a word, an action, a syntax error, a limit
  pub word : unit (codes "double d;") ≡ IsTold (IsError FloatingType) 0 0
  pub action : unit (codes "int x; typedef int x;") ≡ IsTold (IsError Redeclared) 5 5
  pub syntax : unit (codes "int x int") ≡ IsTold (IsError SyntaxError) 2 2
  pub limit : waiting 65521 (codes "1;") ≡ IsTold (PassesLimit ParseStack) 0 0
  -- with one symbol less the limit is reached and not passed
  pub no_limit : waiting 65520 (codes "1;") ≡ IsLeft (TreeValue (Node (kinds.IntegerConstant Int) 0 [] 1 NoParts) ∷ [])
  -- what is wrong at the terminal that passes the limit goes before it, what is wrong behind that doesn't
  pub action_at_limit : waiting 65521 (codes "y;") ≡ IsTold (IsError NotDeclared) 0 0
  pub syntax_behind_limit : waiting 65521 (codes "(;") ≡ IsTold (PassesLimit ParseStack) 0 0
  -- at the end of the file it stands behind the last token, which the grammar needn't see
  pub end : unit (codes "int x") ≡ IsTold (IsError SyntaxError) 2 2
  pub behind_extension : unit (codes "int x __extension__") ≡ IsTold (IsError SyntaxError) 2 3
  -- a name that isn't declared is told ahead of what can't follow it
  pub action_first : unit (codes "int x = y y") ≡ IsTold (IsError NotDeclared) 3 3
  -- and an unsupported word ahead of what could be wrong there
  pub word_first : unit (codes "int double") ≡ IsTold (IsError FloatingType) 1 1
  -- forms that are told by what was expected
  pub expected : unit (codes "void f(void) { goto *p; }") ≡ IsTold (IsError ComputedGoto) 7 7
  pub nested : unit (codes "void f(void) { int g(void) { } }") ≡ IsTold (IsError NestedFunction) 11 11
