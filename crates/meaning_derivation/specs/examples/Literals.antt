-- Worked examples: what is told of a literal without a value, and the changes of context statements.
use Rattle.std.specs.Prelude.{◌≡◌, ℕ, List, [], ◌++◌, codes}
use Rattle.vocabulary.specs.declared.error_kind.ErrorKind.TheVariants.{SyntaxError, BadAttribute, BadNumber, NumberTooLarge, BadEscape, EmptyCharacterConstant, FloatingType, WideOrUtfLiteral, UniversalCharacterName}
use Rattle.vocabulary.specs.declared.int_kind.IntKind.TheVariants.{Int, ULong}
use Rattle.vocabulary.specs.declared.limit.LimitKind.TheVariants.{ContextStep}
use Rattle.vocabulary.specs.declared.node_kind.NodeKind.TheVariants as kinds
use Rattle.meaning_tree.specs.Trees.{SyntaxTree, Node, NoParts}
use Rattle.meaning_derivation.specs.Values.{plain_tree, named_tree}
use Rattle.meaning_derivation.specs.State.{IsError, PassesLimit}
use Rattle.meaning_derivation.specs.examples.Units.{Shown, IsTold, unit, tree, typed, evaluated, int_at, void_parameters}

-- `int x = TEXT;`, whose text begins at the fourth token
abbrev pub initialized : List ℕ → Shown
initialized text = unit (codes "int x = " ++ text ++ codes ";")

-- and its tree with one literal
abbrev pub initialized_by : SyntaxTree → Shown
initialized_by literal =
    tree
    (evaluated
    (plain_tree kinds.Declaration 0
    (typed (int_at 0)
    (evaluated (named_tree kinds.Declarator 1 (codes "x") NoParts)
    (evaluated (plain_tree kinds.Initializer 2 (evaluated literal NoParts)) NoParts))))
    NoParts)

-- Literals (6.4.4, 6.4.5)
pub record LiteralExamples : Type 0 where
  -- a node has the kind and the bits of its constant
  pub unsigned_long : initialized (codes "0x8000000000000000") ≡ initialized_by (Node (kinds.IntegerConstant ULong) 3 [] 9223372036854775808 NoParts)
  pub character : initialized (codes "'\\377'") ≡ initialized_by (Node (kinds.CharacterConstant Int) 3 [] 18446744073709551615 NoParts)
  -- a string counts its last zero, and has its pieces as they are spelled
  pub string :
      initialized (codes "\"ab\" \"\\0\"")
      ≡ initialized_by
      (Node kinds.StringLiteral 3 [] 4
      (evaluated (named_tree kinds.StringPiece 3 (codes "\"ab\"") NoParts) (evaluated (named_tree kinds.StringPiece 4 (codes "\"\\0\"") NoParts) NoParts)))
  pub bad_digit : initialized (codes "09") ≡ IsTold (IsError BadNumber) 3 3
  pub bad_suffix : initialized (codes "1uu") ≡ IsTold (IsError BadNumber) 3 3
  pub too_large : initialized (codes "18446744073709551616") ≡ IsTold (IsError NumberTooLarge) 3 3
  -- without a suffix a decimal constant is signed
  pub too_large_signed : initialized (codes "9223372036854775808") ≡ IsTold (IsError NumberTooLarge) 3 3
  pub empty : initialized (codes "''") ≡ IsTold (IsError EmptyCharacterConstant) 3 3
  pub two_characters : initialized (codes "'ab'") ≡ IsTold (IsError BadEscape) 3 3
  pub above_a_byte : initialized (codes "'\\777'") ≡ IsTold (IsError BadEscape) 3 3
  -- of literals beside each other the leftmost bad one is told, behind the last one
  pub leftmost : initialized (codes "\"a\" \"\\q\" \"\\z\"") ≡ IsTold (IsError BadEscape) 5 4
  -- one that isn't supported is told first, where it stands in that row
  pub unsupported_first : initialized (codes "\"\\q\" L\"b\"") ≡ IsTold (IsError WideOrUtfLiteral) 4 4
  pub not_in_the_row : initialized (codes "\"\\q\" L'a'") ≡ IsTold (IsError BadEscape) 3 3
  pub floating : initialized (codes "1e3") ≡ IsTold (IsError FloatingType) 3 3
  pub universal : initialized (codes "\"\\u00e9\"") ≡ IsTold (IsError UniversalCharacterName) 3 3
  -- a bad literal goes before what stands behind it
  pub literal_first : initialized (codes "09 1.5") ≡ IsTold (IsError BadNumber) 3 3

-- a function with this text in its body, which begins at the seventh token
abbrev pub in_body : List ℕ → Shown
in_body text = unit (codes "void f(void) {" ++ text ++ codes "}")

-- the tree of a function whose body has this statement alone
abbrev pub body_of : (end : ℕ) → SyntaxTree → Shown
body_of end statement =
    tree
    (evaluated
    (plain_tree kinds.FunctionDefinition 0
    (typed (plain_tree kinds.Specifiers 0 (typed (plain_tree kinds.VoidSpecifier 0 NoParts) NoParts))
    (typed (named_tree kinds.Declarator 1 (codes "f") (typed (void_parameters 2 3) NoParts))
    (evaluated (Node kinds.CompoundStatement 5 [] end (evaluated statement NoParts)) NoParts))))
    NoParts)

-- a context statement with this number
abbrev pub context_at : (token number : ℕ) → SyntaxTree
context_at token number = Node kinds.ContextStatement token [] number NoParts

-- Context statements: words that aren't looked up, and a change
pub record ContextExamples : Type 0 where
  pub alone : in_body (codes "__context__(1);") ≡ body_of 11 (context_at 6 1)
  pub with_words : in_body (codes "__context__(a, 1);") ≡ body_of 13 (context_at 6 1)
  -- a change below 0 is kept modulo 2^64
  pub down : in_body (codes "__context__((a, b), -2);") ≡ body_of 18 (context_at 6 18446744073709551614)
  pub up : in_body (codes "__context__(a, +2);") ≡ body_of 14 (context_at 6 2)
  -- what isn't a change is told at the word, behind the statement
  pub empty : in_body (codes "__context__();") ≡ IsTold (IsError BadAttribute) 9 6
  pub words_alone : in_body (codes "__context__(a, b);") ≡ IsTold (IsError BadAttribute) 12 6
  pub bad_number : in_body (codes "__context__(a, 09);") ≡ IsTold (IsError BadAttribute) 12 6
  -- a statement that doesn't end has none
  pub unended : in_body (codes "__context__(a, b)") ≡ IsTold (IsError SyntaxError) 12 12
  -- changes up to 1,000,000
  pub greatest : in_body (codes "__context__(1000000);") ≡ body_of 11 (context_at 6 1000000)
  pub too_great : in_body (codes "__context__(a, 1000001);") ≡ IsTold (PassesLimit ContextStep) 12 6
  pub too_far_down : in_body (codes "__context__(-1000001);") ≡ IsTold (PassesLimit ContextStep) 11 6
