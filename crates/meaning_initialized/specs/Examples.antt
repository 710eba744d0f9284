-- Worked examples: initializers of declarations, and compound literals. Units are drawn as trees, and tokens are counted from 0.
use Rattle.std.specs.Prelude.{◌≡◌, ℕ, true, false, List, [], ◌∷◌, codes, option_map, Option, Some, None}
use Rattle.vocabulary.specs.declared.error_kind.ErrorKind.TheVariants.{ExtraInitializer, IncompleteType}
use Rattle.vocabulary.specs.declared.node_kind.NodeKind.TheVariants as kinds
use Rattle.vocabulary.specs.declared.role.Role.TheVariants.{Evaluated, TypePart}
use Rattle.vocabulary.specs.declared.rule.RuleCode.TheVariants.{A7}
use Rattle.meaning_tree.specs.Trees.{SyntaxTree, Node, NoParts, Part}
use Rattle.meaning_typing.specs.Building.{surroundings_of}
use Rattle.meaning_typing.specs.Declarators.{array_type, nothing_told}
use Rattle.meaning_typing.specs.Facts.{Fact, Declared, Expression, ConstantPlace, place}
use Rattle.meaning_typing.specs.Rows.{Row, breaks, breaks_at, fails_with}
use Rattle.meaning_typing.specs.Units.{UnitNodes}
use Rattle.meaning_typing.specs.WholeTyping.{first_whole_facts}
use Rattle.meaning_typing.specs.examples.Declared.{called, int_at, tagged}
use Rattle.meaning_typing.specs.examples.Drawn.{array, declaration, declarator, int, leaf, nodes_of, number, over, type_over}
use Rattle.meaning_initialized.specs.Initialized.{Initialized, initialized_at}
use Rattle.meaning_initialized.specs.Plain.{row_found}

abbrev pub facts_before : UnitNodes → (handle : ℕ) → List Fact
facts_before nodes handle = first_whole_facts nodes (surroundings_of nodes) handle

-- no structure is told
abbrev pub row_in : UnitNodes → (handle : ℕ) → Option Row
row_in nodes handle = row_found 20 nothing_told nodes (surroundings_of nodes) (facts_before nodes handle) handle

abbrev pub initialized_in : UnitNodes → (handle : ℕ) → Initialized
initialized_in nodes handle = initialized_at nothing_told nodes (surroundings_of nodes) (facts_before nodes handle) handle

-- `{ .. }`, an item at each token behind the brace, and an initializer at `=`
abbrev pub item : (token value : ℕ) → SyntaxTree
item token value = over kinds.InitializerItem token (number token value ∷ [])

abbrev pub braces : (token : ℕ) → List SyntaxTree → SyntaxTree
braces token items = over kinds.BracedInitializer token items

abbrev pub begins : (token : ℕ) → SyntaxTree → SyntaxTree
begins token with = over kinds.Initializer token (with ∷ [])

abbrev pub a : List ℕ
a = codes "a"

-- `static int a[] = { 1, 2 };`, whose declarator is node 4, and its initializer node 10
abbrev pub of_two : UnitNodes
of_two =
    nodes_of
    (declaration 0 (leaf kinds.StaticSpecifier 0 ∷ int_at 1)
    (declarator 2 a (leaf kinds.ArrayDeclarator 3 ∷ []) ∷ begins 5 (braces 6 (item 7 1 ∷ item 9 2 ∷ [])) ∷ []) ∷ [])

abbrev pub array_declared : (length : Option ℕ) → Fact
array_declared length =
    Declared
    (record { name = a; type_ = array_type int length; is_typedef = false; has_linkage = true; is_static = true; is_register = false })

-- `typedef int a = 1;`, whose initializer is node 5
abbrev pub of_typedef : UnitNodes
of_typedef = nodes_of (declaration 0 (leaf kinds.TypedefSpecifier 0 ∷ int_at 1) (called 2 a ∷ begins 3 (number 4 1) ∷ []) ∷ [])

-- `extern int a[2]; int a[] = { 1 };`, whose second declarator is node 10, and its initializer node 14
abbrev pub of_another_length : UnitNodes
of_another_length =
    nodes_of
    (declaration 0 (leaf kinds.ExternSpecifier 0 ∷ int_at 1) (declarator 2 a (array 3 2 ∷ []) ∷ [])
    ∷ declaration 7 (int_at 7) (declarator 8 a (leaf kinds.ArrayDeclarator 9 ∷ []) ∷ begins 11 (braces 12 (item 13 1 ∷ [])) ∷ []) ∷ [])

-- `static int a = { 1, 2 };`, whose initializer is node 9
abbrev pub of_too_many : UnitNodes
of_too_many =
    nodes_of (declaration 0 (leaf kinds.StaticSpecifier 0 ∷ int_at 1) (called 2 a ∷ begins 3 (braces 4 (item 5 1 ∷ item 7 2 ∷ [])) ∷ []) ∷ [])

pub record DeclarationExamples : Type 0 where
  pub completed : option_map (λ row. row.fact) (row_in of_two 10) ≡ Some (array_declared (Some 2))
  pub typedef_ : row_in of_typedef 5 ≡ Some (breaks (breaks_at ExtraInitializer 4))
  pub otherwise : option_map (λ row. row.failures) (row_in of_another_length 14)
      ≡ Some (fails_with A7 8 0 (Some (array_type int (Some 2))) (Some (array_type int (Some 1))) a ∷ [])
  pub extra : option_map (λ row. row.broken) (row_in of_too_many 9) ≡ Some (breaks_at ExtraInitializer 7)

-- `(int[]){ 1, 2 }` outside of functions, at token 0: its node is the one before the unit
abbrev pub literal : (specifiers declarators : List SyntaxTree) → (token : ℕ) → List SyntaxTree → SyntaxTree
literal specifiers declarators token items =
    Node kinds.CompoundLiteral 0 [] 0
    (Part TypePart (type_over kinds.TypeName 1 (type_over kinds.Specifiers 1 specifiers ∷ declarators)) (Part Evaluated (braces token items) NoParts))

abbrev pub of_ints : UnitNodes
of_ints = nodes_of (literal (int_at 1) (declarator 2 [] (leaf kinds.ArrayDeclarator 2 ∷ []) ∷ []) 5 (item 6 1 ∷ item 8 2 ∷ []) ∷ [])

-- `(struct unknown){ 0 }`
abbrev pub of_unknown : UnitNodes
of_unknown = nodes_of (literal (tagged kinds.StructSpecifier 1 (codes "unknown") 1 ∷ []) [] 4 (item 5 0 ∷ []) ∷ [])

pub record LiteralExamples : Type 0 where
  pub completed : option_map (λ row. row.fact) (row_in of_ints 10) ≡ Some (Expression (record (place (array_type int (Some 2))) { address = ConstantPlace }))
  pub incomplete : row_in of_unknown 6 ≡ Some (breaks (breaks_at IncompleteType 0))
