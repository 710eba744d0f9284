-- Worked examples: what bodies declare, and what is broken in them. Units are drawn as trees, and tokens are counted from 0.
use Rattle.std.specs.Prelude.{◌≡◌, ℕ, zero, suc, ◌+◌, pos, negsuc, Bool, true, false, List, [], ◌∷◌, ◌++◌, map, replicate, length, codes, Option, Some, None, Result, Ok}
use Rattle.vocabulary.specs.declared.error_kind.ErrorKind.TheVariants.{BadBitField, BadElementType, BitwiseOnNoInteger, IncompleteType, MemberDeclaredTwice, NoSuchMember, RestrictedBitField, StaticAssertionFailed, TagRedeclared}
use Rattle.vocabulary.specs.declared.int_kind.IntKind.TheVariants as integers
use Rattle.vocabulary.specs.declared.node_kind.NodeKind.{NodeKind}
use Rattle.vocabulary.specs.declared.node_kind.NodeKind.TheVariants as kinds
use Rattle.vocabulary.specs.declared.role.Role.TheVariants.{TypePart, Unevaluated}
use Rattle.vocabulary.specs.declared.rule.RuleCode.TheVariants.{S7}
use Rattle.meaning_types.specs.Types.{TypeTree, pointer_to}
use Rattle.meaning_tree.specs.Trees.{SyntaxTree, Node, Part, NoParts, parts_of}
use Rattle.meaning_layout.specs.Layouts.{Layout, LayoutFault}
use Rattle.meaning_operands.specs.Failures.{Failure, Broken}
use Rattle.meaning_typing.specs.Surroundings.{Surrounding}
use Rattle.meaning_typing.specs.Units.{UnitNodes}
use Rattle.meaning_typing.specs.Facts.{Fact, Unknown, Expression, ExpressionFact, fact_at}
use Rattle.meaning_typing.specs.Declarators.{array_type}
use Rattle.meaning_typing.specs.Rows.{Row, breaks_at, breaks_named, fails_with}
use Rattle.meaning_typing.specs.Operators.{integer}
use Rattle.meaning_typing.specs.Building.{surroundings_of}
use Rattle.meaning_typing.specs.MemberDeclarations.{type_of_entry}
use Rattle.meaning_typing.specs.MemberRows.{aggregates_before, member_broken, width_row}
use Rattle.meaning_typing.specs.WholeTyping.{assertion_row, whole_facts_of, whole_row_at}
use Rattle.meaning_typing.specs.examples.Drawn.{array, declaration, declarator, function, int, leaf, named, nodes_of, number as number_tree, over, parameter, type_over}
use Rattle.meaning_typing.specs.examples.Typing.{type_in}
use Rattle.meaning_typing.specs.examples.Values.{char, i, le32, long, number, nothing_from_nothing, to_int, unknown_length, unsigned_int, void}
use Rattle.meaning_typing.specs.examples.Told.{known, structure_at}

-- Widths and members by their facts: a member stands at token 4

abbrev pub named_width : TypeTree → ExpressionFact → Row
named_width type_ size = width_row 4 true (Some type_) (Expression size)

abbrev pub nameless_width : TypeTree → ExpressionFact → Row
nameless_width type_ size = width_row 4 false (Some type_) (Expression size)

abbrev pub bool : TypeTree
bool = integer integers.Bool

abbrev pub width_of : ℕ → ExpressionFact
width_of bits = number (pos bits)

pub record WidthExamples : Type 0 where
  -- `int *a : 3`, `int a : 33`, `int a : -1`, `int a : 0`, `int a : i`, `_Bool a : 2`, `int : 40`
  pub bad :
      map (λ row. row.broken)
      (named_width to_int (width_of 3) ∷ named_width int (width_of 33) ∷ named_width int (number (negsuc 0)) ∷ named_width int (number (pos 0)) ∷ named_width int i
      ∷ named_width bool (width_of 2) ∷ nameless_width int (width_of 40) ∷ [])
      ≡ replicate 7 (breaks_at BadBitField 4)
  -- `int a : 32`, `int : 0`, `int : 5`, `long b : 64`, `char d : 8`, `_Bool g : 1`
  pub good :
      map (λ row. row.broken)
      (named_width int (width_of 32) ∷ nameless_width int (number (pos 0)) ∷ nameless_width int (width_of 5) ∷ named_width long (width_of 64) ∷ named_width char (width_of 8)
      ∷ named_width bool (width_of 1) ∷ [])
      ≡ replicate 6 []
  -- `le32 a : 3`, and `le32 a : 33`, of which two are told
  pub restricted_ones :
      map (λ row. row.broken) (named_width le32 (width_of 3) ∷ named_width le32 (width_of 33) ∷ [])
      ≡ breaks_at RestrictedBitField 4 ∷ (breaks_at BadBitField 4 ++ breaks_at RestrictedBitField 4) ∷ []
  -- `int a : 1`, `char g : 1`, `int : 1`, `long k : 1`; `unsigned b : 1`, `_Bool d : 1`, `int e : 2`
  pub one_bit :
      map (λ row. row.failures)
      (named_width int (width_of 1) ∷ named_width char (width_of 1) ∷ nameless_width int (width_of 1) ∷ named_width long (width_of 1) ∷ [])
      ≡ replicate 4 (fails_with S7 4 0 None None [] ∷ [])
  pub more_bits :
      map (λ row. row.failures) (named_width unsigned_int (width_of 1) ∷ named_width bool (width_of 1) ∷ named_width int (width_of 2) ∷ []) ≡ replicate 3 []
  -- of an expression that isn't known
  pub unknown : (width_row 4 true (Some int) Unknown).broken ≡ []

pub record CompleteMemberExamples : Type 0 where
  -- `struct unknown k`, `void k`, `int k(void)`, `int k[]`, which isn't the last
  pub incomplete :
      map (member_broken known.told 4 true false) (structure_at 11 ∷ void ∷ nothing_from_nothing ∷ unknown_length ∷ []) ≡ replicate 4 (breaks_at IncompleteType 4)
  pub complete : map (member_broken known.told 4 true false) (structure_at 9 ∷ array_type int (Some 2) ∷ pointer_to (structure_at 11) ∷ []) ≡ replicate 3 []
  pub flexible : member_broken known.told 4 true true unknown_length ≡ []
  -- `struct unknown k[]`, and the last
  pub flexible_incomplete : member_broken known.told 4 true true (array_type (structure_at 11) None) ≡ breaks_at IncompleteType 4
  -- `struct unknown : 3`
  pub nameless : member_broken known.told 4 false false (structure_at 11) ≡ []
  -- with a name, and without one
  pub named_type : map (type_of_entry (codes "k")) (Some int ∷ Some (structure_at 9) ∷ None ∷ []) ≡ Some int ∷ Some (structure_at 9) ∷ None ∷ []
  pub nameless_type : map (type_of_entry []) (Some int ∷ Some (structure_at 9) ∷ None ∷ []) ≡ Some int ∷ None ∷ None ∷ []

-- Units

-- what is known of nodes and what is told of them, node by node
pub record Judged : Type 0 where
  pub facts : List Fact
  pub broken : List Broken
  pub failures : List Failure
  pub passed : List ℕ

abbrev pub nothing_judged : Judged
nothing_judged = record { facts = []; broken = []; failures = []; passed = [] }

abbrev pub judged_with : Judged → Row → Judged
judged_with judged row =
    record {
      facts = judged.facts ++ row.fact ∷ [];
      broken = judged.broken ++ row.broken;
      failures = judged.failures ++ row.failures;
      passed = judged.passed ++ row.passed;
    }

abbrev pub judged_next : UnitNodes → List Surrounding → (handle : ℕ) → Judged → Judged
judged_next nodes surroundings handle judged = judged_with judged (whole_row_at nodes surroundings judged.facts handle)

abbrev pub judged_first : UnitNodes → List Surrounding → (count : ℕ) → Judged
judged_first nodes surroundings zero = nothing_judged
judged_first nodes surroundings (suc count) = judged_next nodes surroundings count (judged_first nodes surroundings count)

abbrev pub judged_in : UnitNodes → Judged
judged_in nodes = judged_first nodes (surroundings_of nodes) (length nodes)

abbrev pub breaking : UnitNodes → List Broken
breaking nodes = (judged_in nodes).broken

abbrev pub failing : UnitNodes → List Failure
failing nodes = (judged_in nodes).failures

abbrev pub passing : UnitNodes → List ℕ
passing nodes = (judged_in nodes).passed

abbrev pub layout_in : UnitNodes → (number : ℕ) → (is_union : Bool) → Option (Result Layout LayoutFault)
layout_in nodes number is_union = (aggregates_before nodes (surroundings_of nodes) (whole_facts_of nodes (surroundings_of nodes))).told number is_union

abbrev pub laid : List ℕ → (size align : ℕ) → Option (Result Layout LayoutFault)
laid first_bits size align = Some (Ok (record { first_bits = first_bits; size = size; align = align }))

-- `KEYWORD TAG { .. }`, whose brace stands at this token, and without a body
abbrev pub aggregate : NodeKind → (token : ℕ) → (tag : List ℕ) → (number brace : ℕ) → (members : List SyntaxTree) → SyntaxTree
aggregate kind token tag number brace members = Node kind token tag number (parts_of TypePart (type_over kinds.MemberList brace members ∷ []))

abbrev pub tagged : NodeKind → (token : ℕ) → (tag : List ℕ) → (number : ℕ) → SyntaxTree
tagged kind token tag number = Node kind token tag number NoParts

-- members of specifiers, each with its width or its attributes behind it
abbrev pub members : (token : ℕ) → (specifiers entries : List SyntaxTree) → SyntaxTree
members token specifiers entries = type_over kinds.MemberDeclaration token (type_over kinds.Specifiers token specifiers ∷ entries)

abbrev pub int_at : (token : ℕ) → List SyntaxTree
int_at token = leaf kinds.IntSpecifier token ∷ []

abbrev pub ints : (token : ℕ) → List SyntaxTree → SyntaxTree
ints token entries = members token (int_at token) entries

abbrev pub called : (token : ℕ) → (name : List ℕ) → SyntaxTree
called token name = declarator token name []

abbrev pub bits : (token width : ℕ) → SyntaxTree
bits token width = Node kinds.BitFieldWidth token [] 0 (Part Unevaluated (number_tree (token + 1) width) NoParts)

abbrev pub unbounded : SyntaxTree
unbounded = leaf kinds.ArrayDeclarator 5

-- an array whose length is a long
abbrev pub long_array : (token length : ℕ) → SyntaxTree
long_array token length =
    Node kinds.ArrayDeclarator token [] 0 (Part Unevaluated (Node (kinds.IntegerConstant integers.Long) (token + 1) [] length NoParts) NoParts)

-- `__attribute__((WORD))`, and behind it a token
abbrev pub word : NodeKind → (token number : ℕ) → SyntaxTree
word kind token number = Node kinds.AttributeList token [] (token + 6) (parts_of TypePart (Node kind (token + 3) [] number NoParts ∷ []))

-- `__attribute__((WORD(NUMBER)))`
abbrev pub numbered_word : NodeKind → (token number : ℕ) → SyntaxTree
numbered_word kind token number = Node kinds.AttributeList token [] (token + 9) (parts_of TypePart (Node kind (token + 3) [] number NoParts ∷ []))

-- `struct m { .. };` or `union m { .. };`, whose members begin at token 3
abbrev pub body_of : NodeKind → List SyntaxTree → UnitNodes
body_of kind parts = nodes_of (declaration 0 (aggregate kind 0 (codes "m") 0 2 parts ∷ []) [] ∷ [])

abbrev pub structure_of : List SyntaxTree → UnitNodes
structure_of parts = body_of kinds.StructSpecifier parts

-- `struct { int NAME; }` at this token, as a member
abbrev pub within : (token : ℕ) → (name : List ℕ) → List SyntaxTree → SyntaxTree
within token name entries =
    members token (aggregate kinds.StructSpecifier token [] token (token + 1) (ints (token + 2) (called (token + 3) name ∷ []) ∷ []) ∷ []) entries

pub record MemberListExamples : Type 0 where
  -- `{ int a; int a; }`
  pub twice : breaking (structure_of (ints 3 (called 4 (codes "a") ∷ []) ∷ ints 6 (called 7 (codes "a") ∷ []) ∷ [])) ≡ breaks_named MemberDeclaredTwice 7 (codes "a")
  -- `{ struct { int a; }; int a; }`
  pub twice_by_nameless :
      breaking (structure_of (within 3 (codes "a") [] ∷ ints 9 (called 10 (codes "a") ∷ []) ∷ [])) ≡ breaks_named MemberDeclaredTwice 10 (codes "a")
  -- `{ int a; struct { int b; union { int d; int a; }; }; }`
  pub twice_deeper :
      breaking
      (structure_of
      (ints 3 (called 4 (codes "a") ∷ [])
      ∷ members 6
      (aggregate kinds.StructSpecifier 6 [] 6 7
      (ints 8 (called 9 (codes "b") ∷ [])
      ∷ members 11 (aggregate kinds.UnionSpecifier 11 [] 11 12 (ints 13 (called 14 (codes "d") ∷ []) ∷ ints 16 (called 17 (codes "a") ∷ []) ∷ []) ∷ []) [] ∷ []) ∷ []) []
      ∷ []))
      ≡ breaks_named MemberDeclaredTwice 17 (codes "a")
  -- `{ int a; struct { int a; } b; struct { int d; }; }`
  pub apart :
      breaking (structure_of (ints 3 (called 4 (codes "a") ∷ []) ∷ within 6 (codes "a") (called 11 (codes "b") ∷ []) ∷ within 13 (codes "d") [] ∷ [])) ≡ []
  -- `{ struct m k; }`
  pub itself : breaking (structure_of (members 3 (tagged kinds.StructSpecifier 3 (codes "m") 0 ∷ []) (called 5 (codes "k") ∷ []) ∷ [])) ≡ breaks_at IncompleteType 5
  -- `{ struct m *k; }`
  pub pointer_to_itself :
      breaking (structure_of (members 3 (tagged kinds.StructSpecifier 3 (codes "m") 0 ∷ []) (declarator 6 (codes "k") (leaf kinds.PointerDeclarator 5 ∷ []) ∷ []) ∷ [])) ≡ []
  -- `{ int k[]; int n; }`, `{ int k[]; }` and `{ int n; int k[]; }` of a union
  pub not_last : breaking (structure_of (ints 3 (declarator 4 (codes "k") (unbounded ∷ []) ∷ []) ∷ ints 8 (called 9 (codes "n") ∷ []) ∷ [])) ≡ breaks_at IncompleteType 4
  pub alone : breaking (structure_of (ints 3 (declarator 4 (codes "k") (unbounded ∷ []) ∷ []) ∷ [])) ≡ breaks_at IncompleteType 4
  pub in_union :
      breaking (body_of kinds.UnionSpecifier (ints 3 (called 4 (codes "n") ∷ []) ∷ ints 6 (declarator 7 (codes "k") (unbounded ∷ []) ∷ []) ∷ [])) ≡ breaks_at IncompleteType 7
  -- `{ int n; int k[]; }`, and `{ int n, k[]; }`
  pub last : breaking (structure_of (ints 3 (called 4 (codes "n") ∷ []) ∷ ints 6 (declarator 7 (codes "k") (unbounded ∷ []) ∷ []) ∷ [])) ≡ []
  pub last_of_two : breaking (structure_of (ints 3 (called 4 (codes "n") ∷ declarator 6 (codes "k") (unbounded ∷ []) ∷ []) ∷ [])) ≡ []
  -- `{ int a : 33; int : 40; int b : 0; }`
  pub widths :
      breaking (structure_of (ints 3 (called 4 (codes "a") ∷ bits 5 33 ∷ []) ∷ ints 8 (called 9 [] ∷ bits 9 40 ∷ []) ∷ ints 12 (called 13 (codes "b") ∷ bits 14 0 ∷ []) ∷ []))
      ≡ breaks_at BadBitField 4 ++ breaks_at BadBitField 9 ++ breaks_at BadBitField 13
  -- `{ int a; int a : 33; }`, `{ int a; int a : 3; }` and `{ int a; int a : 0; }`, whose widths are judged though the name stands twice
  pub width_of_twice :
      map (λ wide. breaking (structure_of (ints 3 (called 4 (codes "a") ∷ []) ∷ ints 6 (called 7 (codes "a") ∷ bits 8 wide ∷ []) ∷ []))) (33 ∷ 3 ∷ 0 ∷ [])
      ≡ (breaks_named MemberDeclaredTwice 7 (codes "a") ++ breaks_at BadBitField 7) ∷ breaks_named MemberDeclaredTwice 7 (codes "a")
      ∷ (breaks_named MemberDeclaredTwice 7 (codes "a") ++ breaks_at BadBitField 7) ∷ []
  -- `{ int a, : 3; }`, whose width is none of a's, and `{ int : 3, : 3; }`, whose members have no name twice
  pub width_of_another : breaking (structure_of (members 3 (leaf kinds.CharSpecifier 3 ∷ []) (called 4 (codes "a") ∷ called 6 [] ∷ bits 6 9 ∷ []) ∷ [])) ≡ breaks_at BadBitField 6
  pub nameless_twice : breaking (structure_of (ints 3 (called 4 [] ∷ bits 4 3 ∷ called 7 [] ∷ bits 7 3 ∷ []) ∷ [])) ≡ []
  -- `{ struct m k : 3; }`, `{ void k : 3; }`, `{ int k[] : 3; int n; }`
  pub incomplete_fields :
      breaking (structure_of (members 3 (tagged kinds.StructSpecifier 3 (codes "m") 0 ∷ []) (called 5 (codes "k") ∷ bits 6 3 ∷ []) ∷ []))
      ∷ breaking (structure_of (members 3 (leaf kinds.VoidSpecifier 3 ∷ []) (called 4 (codes "k") ∷ bits 6 3 ∷ []) ∷ []))
      ∷ breaking (structure_of (ints 3 (declarator 4 (codes "k") (unbounded ∷ []) ∷ bits 7 3 ∷ []) ∷ ints 10 (called 11 (codes "n") ∷ []) ∷ [])) ∷ []
      ≡ breaks_at IncompleteType 5 ∷ breaks_at IncompleteType 4 ∷ breaks_at IncompleteType 4 ∷ []
  -- `{ void k[2]; }`, `{ struct m k[2]; }`, and `{ int k; void k[2]; }`, whose name is asked though it has no type
  pub bad_elements :
      breaking (structure_of (members 3 (leaf kinds.VoidSpecifier 3 ∷ []) (declarator 4 (codes "k") (array 5 2 ∷ []) ∷ []) ∷ []))
      ∷ breaking (structure_of (members 3 (tagged kinds.StructSpecifier 3 (codes "m") 0 ∷ []) (declarator 5 (codes "k") (array 6 2 ∷ []) ∷ []) ∷ []))
      ∷ breaking
      (structure_of (ints 3 (called 4 (codes "k") ∷ []) ∷ members 6 (leaf kinds.VoidSpecifier 6 ∷ []) (declarator 7 (codes "k") (array 8 2 ∷ []) ∷ []) ∷ [])) ∷ []
      ≡ breaks_at BadElementType 5 ∷ breaks_at BadElementType 6 ∷ (breaks_at BadElementType 8 ++ breaks_named MemberDeclaredTwice 7 (codes "k")) ∷ []
  -- `{ struct m : 3; }`, where no member is incomplete
  pub nameless_structure :
      breaking (structure_of (members 3 (tagged kinds.StructSpecifier 3 (codes "m") 0 ∷ []) (called 5 [] ∷ bits 5 3 ∷ []) ∷ [])) ≡ breaks_at BadBitField 5

-- Layouts of bodies

pub record BodyExamples : Type 0 where
  -- `{ int a : 32, : 0, : 5; int b; }`
  pub fields :
      layout_in (structure_of (ints 3 (called 4 (codes "a") ∷ bits 5 32 ∷ called 8 [] ∷ bits 8 0 ∷ called 11 [] ∷ bits 11 5 ∷ []) ∷ ints 14 (called 15 (codes "b") ∷ []) ∷ [])) 0 false
      ≡ laid (0 ∷ 32 ∷ 32 ∷ 64 ∷ []) 12 4
  -- `{ char c; int a __attribute__((aligned(8))); }`, and an alignment behind a width
  pub aligned_member :
      layout_in (structure_of (members 3 (leaf kinds.CharSpecifier 3 ∷ []) (called 4 (codes "c") ∷ []) ∷ ints 6 (called 7 (codes "a") ∷ numbered_word kinds.AlignedAttribute 8 8 ∷ []) ∷ [])) 0 false
      ≡ laid (0 ∷ 64 ∷ []) 16 8
  pub aligned_field :
      layout_in (structure_of (members 3 (leaf kinds.CharSpecifier 3 ∷ []) (called 4 (codes "c") ∷ []) ∷ ints 6 (called 7 (codes "a") ∷ bits 8 3 ∷ numbered_word kinds.AlignedAttribute 10 8 ∷ []) ∷ [])) 0 false
      ≡ laid (0 ∷ 64 ∷ []) 16 8
  -- `struct s { char a; }; struct m { char c; struct __attribute__((aligned(8))) s k; };`
  pub aligned_before_tag :
      layout_in
      (nodes_of
      (declaration 0 (aggregate kinds.StructSpecifier 0 (codes "s") 0 2 (members 3 (leaf kinds.CharSpecifier 3 ∷ []) (called 4 (codes "a") ∷ []) ∷ []) ∷ []) []
      ∷ declaration 8
      (aggregate kinds.StructSpecifier 8 (codes "m") 8 10
      (members 11 (leaf kinds.CharSpecifier 11 ∷ []) (called 12 (codes "c") ∷ [])
      ∷ members 14 (Node kinds.StructSpecifier 14 (codes "s") 0 (parts_of TypePart (numbered_word kinds.AlignedAttribute 15 8 ∷ [])) ∷ []) (called 25 (codes "k") ∷ []) ∷ []) ∷ []) []
      ∷ []))
      8 false
      ≡ laid (0 ∷ 8 ∷ []) 2 1
  -- `struct m { char c; int a; } __attribute__((packed));`, and `struct __attribute__((packed)) m { char c; int a; };`
  pub packed_behind :
      layout_in
      (nodes_of
      (declaration 0
      (aggregate kinds.StructSpecifier 0 (codes "m") 0 2
      (members 3 (leaf kinds.CharSpecifier 3 ∷ []) (called 4 (codes "c") ∷ []) ∷ ints 6 (called 7 (codes "a") ∷ []) ∷ []) ∷ word kinds.PackedAttribute 10 0 ∷ []) [] ∷ []))
      0 false
      ≡ laid (0 ∷ 8 ∷ []) 5 1
  pub packed_before :
      layout_in
      (nodes_of
      (declaration 0
      (Node kinds.StructSpecifier 0 (codes "m") 0
      (parts_of TypePart
      (word kinds.PackedAttribute 1 0
      ∷ type_over kinds.MemberList 8 (members 9 (leaf kinds.CharSpecifier 9 ∷ []) (called 10 (codes "c") ∷ []) ∷ ints 12 (called 13 (codes "a") ∷ []) ∷ []) ∷ [])) ∷ []) [] ∷ []))
      0 false
      ≡ laid (0 ∷ 32 ∷ []) 8 4
  -- `{ char c; struct { int a; }; }`, and a bare `int;` and `struct t { int a; };`, which declare no member
  pub nameless :
      layout_in (structure_of (members 3 (leaf kinds.CharSpecifier 3 ∷ []) (called 4 (codes "c") ∷ []) ∷ within 6 (codes "a") [] ∷ [])) 0 false ≡ laid (0 ∷ 32 ∷ []) 8 4
  pub no_members :
      layout_in
      (structure_of
      (ints 3 [] ∷ members 5 (aggregate kinds.StructSpecifier 5 (codes "t") 5 7 (ints 8 (called 9 (codes "a") ∷ []) ∷ []) ∷ []) [] ∷ ints 12 (called 13 (codes "b") ∷ []) ∷ [])) 0 false
      ≡ laid (0 ∷ []) 4 4
  -- `struct m { char a[1099511627776]; char b; };`, and without b
  pub too_large :
      passing
      (structure_of
      (members 3 (leaf kinds.CharSpecifier 3 ∷ []) (declarator 4 (codes "a") (long_array 5 1099511627776 ∷ []) ∷ []) ∷ members 9 (leaf kinds.CharSpecifier 9 ∷ []) (called 10 (codes "b") ∷ []) ∷ []))
      ≡ 0 ∷ []
  pub largest : passing (structure_of (members 3 (leaf kinds.CharSpecifier 3 ∷ []) (declarator 4 (codes "a") (long_array 5 1099511627776 ∷ []) ∷ []) ∷ [])) ≡ []

-- Tags

-- `struct pair { int a; };` and one more declaration, which begins at token 7
abbrev pub behind_pair : SyntaxTree → UnitNodes
behind_pair specifier = nodes_of (declaration 0 (aggregate kinds.StructSpecifier 0 (codes "pair") 0 2 (ints 3 (called 4 (codes "a") ∷ []) ∷ []) ∷ []) [] ∷ declaration 7 (specifier ∷ []) [] ∷ [])

abbrev pub enumerator : (token : ℕ) → (name : List ℕ) → SyntaxTree
enumerator token name = Node kinds.Enumerator token name 0 NoParts

abbrev pub enumeration : (token : ℕ) → (tag : List ℕ) → (number : ℕ) → List SyntaxTree → SyntaxTree
enumeration token tag number parts = Node kinds.EnumSpecifier token tag number (parts_of TypePart parts)

-- `enum e *p1; enum e { E };`, where the declarator of p1 is node 3
abbrev pub early_enumeration : UnitNodes
early_enumeration =
    nodes_of
    (declaration 0 (tagged kinds.EnumSpecifier 0 (codes "e") 0 ∷ []) (declarator 3 (codes "p1") (leaf kinds.PointerDeclarator 2 ∷ []) ∷ [])
    ∷ declaration 5 (enumeration 5 (codes "e") 0 (enumerator 8 (codes "E") ∷ []) ∷ []) [] ∷ [])

pub record TagExamples : Type 0 where
  -- `union pair`, `struct pair { int a; }`, `enum pair { E }`, and `struct pair`
  pub other_kind : breaking (behind_pair (tagged kinds.UnionSpecifier 7 (codes "pair") 0)) ≡ breaks_named TagRedeclared 8 (codes "pair")
  pub again :
      breaking (behind_pair (aggregate kinds.StructSpecifier 7 (codes "pair") 0 9 (ints 10 (called 11 (codes "a") ∷ []) ∷ []))) ≡ breaks_named TagRedeclared 8 (codes "pair")
  pub enumeration_of_it : breaking (behind_pair (enumeration 7 (codes "pair") 0 (enumerator 10 (codes "E") ∷ []))) ≡ breaks_named TagRedeclared 8 (codes "pair")
  pub named_again : breaking (behind_pair (tagged kinds.StructSpecifier 7 (codes "pair") 0)) ≡ []
  -- `struct pair { int a; }` in an inner scope, where its tag has a number of its own
  pub in_other_scope : breaking (behind_pair (aggregate kinds.StructSpecifier 7 (codes "pair") 7 9 (ints 10 (called 11 (codes "a") ∷ []) ∷ []))) ≡ []
  -- `struct __attribute__((aligned(8))) pair { int a; }`, and `union __attribute__((packed)) __attribute__((packed)) pair`
  pub behind_attributes :
      breaking (behind_pair (Node kinds.StructSpecifier 7 (codes "pair") 0 (parts_of TypePart (numbered_word kinds.AlignedAttribute 8 8 ∷ type_over kinds.MemberList 18 [] ∷ []))))
      ≡ breaks_named TagRedeclared 17 (codes "pair")
  pub behind_more_attributes :
      breaking (behind_pair (Node kinds.UnionSpecifier 7 (codes "pair") 0 (parts_of TypePart (word kinds.PackedAttribute 8 0 ∷ word kinds.PackedAttribute 14 0 ∷ []))))
      ≡ breaks_named TagRedeclared 20 (codes "pair")
  -- `struct m { int a; } BITWISE;` and `enum BITWISE e { E };`
  pub bitwise_structure :
      breaking (nodes_of (declaration 0 (aggregate kinds.StructSpecifier 0 (codes "m") 0 2 (ints 3 (called 4 (codes "a") ∷ []) ∷ []) ∷ word kinds.BitwiseAttribute 7 0 ∷ []) [] ∷ []))
      ≡ breaks_at BitwiseOnNoInteger 10
  pub bitwise_enumeration : breaking (nodes_of (declaration 0 (enumeration 0 (codes "e") 0 (word kinds.BitwiseAttribute 1 0 ∷ enumerator 9 (codes "E") ∷ []) ∷ []) [] ∷ [])) ≡ []
  -- `enum e *p1; enum e { E };`: the pointer leads to an int
  pub named_before :
      type_in (fact_at (whole_facts_of early_enumeration (surroundings_of early_enumeration)) 3) ≡ Some (pointer_to int)
  -- `_Static_assert(0, "a")`, of an i, of 1, and of what isn't known
  pub assertions :
      map (λ row. row.broken) (assertion_row 2 (Expression (number (pos 0))) ∷ assertion_row 2 (Expression i) ∷ assertion_row 2 (Expression (number (pos 1))) ∷ assertion_row 2 Unknown ∷ [])
      ≡ breaks_at StaticAssertionFailed 2 ∷ breaks_at StaticAssertionFailed 2 ∷ [] ∷ [] ∷ []

-- `struct m { int a; } k; void f(void) { k.NAME; }`, where the declarator of k is node 7 and `.` is token 17
abbrev pub using : List ℕ → UnitNodes
using name =
    nodes_of
    (declaration 0 (aggregate kinds.StructSpecifier 0 (codes "m") 0 2 (ints 3 (called 4 (codes "a") ∷ []) ∷ []) ∷ []) (called 7 (codes "k") ∷ [])
    ∷ function 9 (leaf kinds.VoidSpecifier 9 ∷ [])
    (declarator 10 (codes "f") (type_over kinds.FunctionDeclarator 11 (parameter 12 (leaf kinds.VoidSpecifier 12 ∷ []) [] ∷ []) ∷ []))
    (over kinds.CompoundStatement 14 (over kinds.ExpressionStatement 16 (Node kinds.Member 17 name 0 (parts_of TypePart (named kinds.Name 16 (codes "k") 7 ∷ [])) ∷ []) ∷ [])) ∷ [])

pub record UseExamples : Type 0 where
  pub found : breaking (using (codes "a")) ≡ []
  pub missing : breaking (using (codes "b")) ≡ breaks_named NoSuchMember 17 (codes "b")
