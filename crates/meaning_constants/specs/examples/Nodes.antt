-- Worked examples: what nodes come to by what is known of their parts.
use Rattle.std.specs.Prelude.{◌≡◌, ℕ, ℤ, pos, negsuc, false, List, [], ◌∷◌, map, replicate, Option, Some, None, Err, Ok, nat_eq, if◌then◌else◌}
use Rattle.vocabulary.specs.declared.int_kind.IntKind.TheVariants as kinds
use Rattle.vocabulary.specs.declared.node_kind.NodeKind.{NodeKind}
use Rattle.vocabulary.specs.declared.node_kind.NodeKind.TheVariants as nodes
use Rattle.meaning_types.specs.Types.{TypeTree, pointer_to}
use Rattle.meaning_types.specs.examples.Types.{plain}
use Rattle.meaning_types.specs.examples.Derived.{void, array_of, function_type, structure_at}
use Rattle.meaning_layout.specs.Layouts.{Layout, TooLarge}
use Rattle.meaning_layout.specs.Members.{DeclaredMember, Names, names_of_members, no_names}
use Rattle.meaning_layout.specs.Sizes.{Told}
use Rattle.meaning_constants.specs.Constants.{Constant, Part}
use Rattle.meaning_constants.specs.Bits.{bits_of_number, number_of_bits}
use Rattle.meaning_constants.specs.Nodes.{NodeFacts, loaded_type, node_constant}
use Rattle.meaning_constants.specs.Sizes.{Sizes, Members, Designator, NamedMember, ElementAt, members_by, sizes_by, offset_along}
use Rattle.meaning_constants.specs.examples.Constants.{is, le16}

-- What is known

-- `struct pair { int a; int b[2]; }` is told as the first aggregate, and a structure of too many bytes as the second
abbrev pub pair_layout : Layout
pair_layout = record { first_bits = 0 ∷ 32 ∷ []; size = 12; align = 4 }

abbrev pub told : Told
told number is_union = if nat_eq number 1 then Some (Ok pair_layout) else (if nat_eq number 2 then Some (Err TooLarge) else None)

-- their members, whose names are numbers here
abbrev pub member_called : ℕ → TypeTree → DeclaredMember ℕ
member_called name of = record { name = Some name; of = of; width = None }

abbrev pub names : ℕ → Names ℕ
names aggregate = names_of_members told no_names 0 (member_called 0 (plain kinds.Int) ∷ member_called 1 (array_of (plain kinds.Int) (Some 2)) ∷ [])

abbrev pub members : Members ℕ
members = members_by told nat_eq names

abbrev pub pair : TypeTree
pair = structure_at 1

abbrev pub sizes : Sizes
sizes = sizes_by told

-- something of this type that is no constant, and an int that is one
abbrev pub typed_part : TypeTree → Option Part
typed_part of = Some (record { of = of; fouled = false; number = None })

abbrev pub constant_in : TypeTree → ℤ → Option Part
constant_in of number = Some (record { of = of; fouled = false; number = Some number })

abbrev pub int : ℤ → Option Part
int number = constant_in (plain kinds.Int) number

-- a node with these parts, and one with a number or something else in their place
abbrev pub with_parts : NodeKind → List (Option Part) → NodeFacts
with_parts kind parts = record { kind = kind; number = 0; parts = parts; enumerator = None; offset = None }

abbrev pub literal_node : NodeKind → ℕ → NodeFacts
literal_node kind number = record (with_parts kind []) { number = number }

abbrev pub naming : Option Part → NodeFacts
naming enumerator = record (with_parts nodes.Name []) { enumerator = enumerator }

abbrev pub offset_in_pair : List (Designator ℕ) → NodeFacts
offset_in_pair designators =
    record (with_parts nodes.BuiltinOffsetof (typed_part pair ∷ [])) { offset = offset_along told members pair designators }

abbrev pub constants_at : List NodeFacts → List (Option Constant)
constants_at facts = map (node_constant sizes) facts

abbrev pub HaveNoConstant : List NodeFacts → Type 0
HaveNoConstant facts = constants_at facts ≡ map (λ node. None) facts

-- nodes of these kinds with these parts
abbrev pub each_with : List (Option Part) → List NodeKind → List NodeFacts
each_with parts all_kinds = map (λ kind. with_parts kind parts) all_kinds

-- What they come to

pub record NodeExamples : Type 0 where
  pub literals :
      constants_at
      (literal_node (nodes.IntegerConstant kinds.UInt) 5 ∷ literal_node (nodes.CharacterConstant kinds.Int) 97
      ∷ literal_node (nodes.CharacterConstant kinds.Int) 18446744073709551615 ∷ [])
      ≡ is kinds.UInt (pos 5) ∷ is kinds.Int (pos 97) ∷ is kinds.Int (negsuc 0) ∷ []
  pub names : constants_at (naming (int (pos 6)) ∷ naming (typed_part (plain kinds.Int)) ∷ naming None ∷ []) ≡ is kinds.Int (pos 6) ∷ None ∷ None ∷ []
  pub parentheses : constants_at (with_parts nodes.Parenthesized (int (pos 1) ∷ []) ∷ []) ≡ is kinds.Int (pos 1) ∷ []
  pub operators :
      constants_at
      (with_parts nodes.Negation (int (pos 1) ∷ []) ∷ with_parts nodes.Subtraction (int (pos 5) ∷ int (pos 7) ∷ [])
      ∷ with_parts nodes.Greater (int (negsuc 0) ∷ constant_in (plain kinds.UInt) (pos 0) ∷ []) ∷ [])
      ≡ is kinds.Int (negsuc 0) ∷ is kinds.Int (negsuc 1) ∷ is kinds.Int (pos 1) ∷ []
  pub casts :
      constants_at
      (with_parts nodes.Cast (typed_part (plain kinds.Char) ∷ int (pos 300) ∷ []) ∷ with_parts nodes.Cast (typed_part le16 ∷ int (negsuc 1) ∷ []) ∷ [])
      ≡ is kinds.Char (pos 44) ∷ is kinds.UShort (pos 65534) ∷ []
  -- a part that isn't evaluated is typed_part, and no more is asked of it
  pub unevaluated :
      constants_at
      (with_parts nodes.LogicalAnd (int (pos 0) ∷ typed_part (plain kinds.Int) ∷ []) ∷ with_parts nodes.LogicalOr (int (pos 1) ∷ typed_part (plain kinds.Int) ∷ [])
      ∷ with_parts nodes.Conditional (int (pos 1) ∷ int (pos 2) ∷ typed_part (plain kinds.Int) ∷ [])
      ∷ with_parts nodes.Conditional (int (pos 0) ∷ int (pos 5) ∷ []) ∷ [])
      ≡ is kinds.Int (pos 0) ∷ is kinds.Int (pos 1) ∷ is kinds.Int (pos 2) ∷ is kinds.Int (pos 5) ∷ []
  pub untyped : HaveNoConstant (with_parts nodes.LogicalAnd (int (pos 0) ∷ None ∷ []) ∷ with_parts nodes.Conditional (int (pos 1) ∷ int (pos 2) ∷ None ∷ []) ∷ [])
  pub never :
      HaveNoConstant
      (each_with (int (pos 1) ∷ int (pos 2) ∷ []) (nodes.Comma ∷ nodes.Call ∷ nodes.BuiltinExpect ∷ nodes.Subscript ∷ nodes.Assignment ∷ nodes.AdditionAssignment ∷ []))
  pub never_alone :
      HaveNoConstant
      (each_with (int (pos 1) ∷ []) (nodes.StatementExpression ∷ nodes.Call ∷ nodes.Member ∷ nodes.PostIncrement ∷ nodes.PreDecrement ∷ nodes.Address ∷ nodes.Indirection ∷ nodes.Enumerator ∷ []))
  pub pointers :
      HaveNoConstant
      (with_parts nodes.Cast (typed_part (pointer_to void) ∷ int (pos 0) ∷ []) ∷ with_parts nodes.Cast (typed_part (plain kinds.Int) ∷ typed_part (pointer_to void) ∷ [])
      ∷ with_parts nodes.LogicalNot (typed_part (pointer_to (plain kinds.Int)) ∷ []) ∷ with_parts nodes.Equal (typed_part (pointer_to (plain kinds.Char)) ∷ int (pos 0) ∷ []) ∷ [])

-- the size of something of this type, and of the type
abbrev pub size_in : TypeTree → NodeFacts
size_in of = with_parts nodes.SizeofExpression (typed_part of ∷ [])

abbrev pub align_in : TypeTree → NodeFacts
align_in of = with_parts nodes.AlignofType (typed_part of ∷ [])

-- so many byte_count
abbrev pub byte_count : ℕ → Option Constant
byte_count count = is kinds.ULong (pos count)

pub record SizeExamples : Type 0 where
  pub integers : constants_at (map size_in (plain kinds.Int ∷ plain kinds.Char ∷ plain kinds.Long ∷ le16 ∷ [])) ≡ byte_count 4 ∷ byte_count 1 ∷ byte_count 8 ∷ byte_count 2 ∷ []
  -- an operand isn't evaluated, so it may have a constant or none; a character constant is an int
  pub operands : constants_at (with_parts nodes.SizeofExpression (int (pos 97) ∷ []) ∷ size_in (plain kinds.Int) ∷ []) ≡ replicate 2 (byte_count 4)
  pub of_types : constants_at (with_parts nodes.SizeofType (typed_part (plain kinds.Short) ∷ []) ∷ []) ≡ byte_count 2 ∷ []
  pub one : constants_at (map size_in (void ∷ function_type void [] ∷ [])) ≡ replicate 2 (byte_count 1)
  pub arrays :
      constants_at (map size_in (array_of (plain kinds.Char) (Some 4) ∷ array_of (plain kinds.Int) (Some 5) ∷ array_of (plain kinds.Int) (Some 2) ∷ []))
      ≡ byte_count 4 ∷ byte_count 20 ∷ byte_count 8 ∷ []
  pub pointers : constants_at (map size_in (pointer_to void ∷ pair ∷ [])) ≡ byte_count 8 ∷ byte_count 12 ∷ []
  pub alignments :
      constants_at (map align_in (array_of (plain kinds.Int) (Some 3) ∷ plain kinds.Long ∷ void ∷ pair ∷ []))
      ≡ byte_count 4 ∷ byte_count 8 ∷ byte_count 1 ∷ byte_count 4 ∷ []
  pub greatest : constants_at (size_in (array_of (plain kinds.Char) (Some 1099511627776)) ∷ []) ≡ byte_count 1099511627776 ∷ []
  pub no_size :
      HaveNoConstant
      (map size_in (array_of (plain kinds.Char) (Some 1099511627777) ∷ array_of (plain kinds.Int) None ∷ structure_at 2 ∷ structure_at 3 ∷ []))
  pub offsets :
      constants_at (map offset_in_pair ((NamedMember 1 ∷ ElementAt (Some (pos 1)) ∷ []) ∷ (NamedMember 1 ∷ ElementAt (Some (pos 7)) ∷ []) ∷ (NamedMember 0 ∷ []) ∷ []))
      ≡ byte_count 8 ∷ byte_count 32 ∷ byte_count 0 ∷ []
  -- a member of an element lies behind the elements before it
  pub offset_of_element : offset_along told members (array_of pair (Some 3)) (ElementAt (Some (pos 2)) ∷ NamedMember 1 ∷ []) ≡ Some 28
  -- where an aggregate has no layout, its members lie nowhere
  pub no_layout : map (λ of. offset_along told members of (NamedMember 0 ∷ [])) (structure_at 2 ∷ structure_at 3 ∷ []) ≡ None ∷ None ∷ []
  pub no_offset :
      HaveNoConstant
      (map offset_in_pair
      ((NamedMember 2 ∷ []) ∷ (NamedMember 1 ∷ ElementAt (Some (negsuc 0)) ∷ []) ∷ (NamedMember 1 ∷ ElementAt None ∷ [])
      ∷ (NamedMember 1 ∷ ElementAt (Some (pos 1099511627776)) ∷ []) ∷ (NamedMember 0 ∷ NamedMember 0 ∷ []) ∷ []))

pub record KeptExamples : Type 0 where
  -- a bit-field of fewer bits than an int has is an int once it is loaded, and an unsigned int where it has as many; one of a wider type
  -- keeps it
  pub bit_fields :
      map (λ bits. loaded_type bits (plain kinds.UInt)) (Some 3 ∷ Some 31 ∷ Some 32 ∷ None ∷ [])
      ≡ plain kinds.Int ∷ plain kinds.Int ∷ plain kinds.UInt ∷ plain kinds.UInt ∷ []
  pub narrow_fields :
      map (λ kind. loaded_type (Some 1) (plain kind)) (kinds.Bool ∷ kinds.Char ∷ kinds.SChar ∷ kinds.UChar ∷ kinds.Short ∷ kinds.UShort ∷ kinds.Int ∷ [])
      ≡ replicate 7 (plain kinds.Int)
  pub whole_fields :
      loaded_type (Some 8) (plain kinds.UChar) ∷ loaded_type (Some 16) (plain kinds.UShort) ∷ loaded_type (Some 32) (plain kinds.Int) ∷ []
      ≡ replicate 3 (plain kinds.Int)
  pub wide_fields :
      map (λ kind. loaded_type (Some 3) (plain kind)) (kinds.Long ∷ kinds.ULong ∷ kinds.LLong ∷ kinds.ULLong ∷ [])
      ≡ map plain (kinds.Long ∷ kinds.ULong ∷ kinds.LLong ∷ kinds.ULLong ∷ [])
  -- what is no bit-field stays as it is
  pub other_fields : loaded_type None (plain kinds.UChar) ∷ loaded_type (Some 3) le16 ∷ [] ≡ plain kinds.UChar ∷ le16 ∷ []
  pub bits : map bits_of_number (pos 5 ∷ negsuc 0 ∷ negsuc 1 ∷ []) ≡ 5 ∷ 18446744073709551615 ∷ 18446744073709551614 ∷ []
  -- a fouled unsigned short keeps the bits above its own
  pub numbers :
      map (λ kind. number_of_bits kind 18446744073709551614) (kinds.UShort ∷ kinds.Int ∷ kinds.Long ∷ kinds.ULong ∷ [])
      ≡ negsuc 1 ∷ negsuc 1 ∷ negsuc 1 ∷ pos 18446744073709551614 ∷ []
