-- The type that specifiers say, with what attributes among them add (C11 6.7.1 to 6.7.3).
use Rattle.std.specs.Prelude.{ℕ, ◌+◌, nat_lt, Bool, true, false, List, [], ◌∷◌, Option, Some, None, if◌then◌else◌}
use Rattle.std.specs.List.{flat_map}
use Rattle.vocabulary.specs.declared.int_kind.IntKind.{IntKind}
use Rattle.vocabulary.specs.declared.int_kind.IntKind.TheVariants as integers
use Rattle.vocabulary.specs.declared.node_kind.NodeKind.{NodeKind}
use Rattle.vocabulary.specs.declared.node_kind.NodeKind.TheVariants as kinds
use Rattle.meaning_types.specs.Types.{Space, NumberedSpace, NamedSpace, Qualifiers, Flags, TypeTree, Typed, BaseTree, VoidTree, IntegerTree, RestrictedTree, no_qualifiers, no_flags}
use Rattle.meaning_types.specs.Marks.{marked}
use Rattle.meaning_tree.specs.Nodes.{TreeNode}
use Rattle.meaning_typing.specs.Units.{UnitNodes, node_at, kind_at, children_at}
use Rattle.meaning_typing.specs.Facts.{Fact, Unknown, Specified, NamedType, StorageFact, fact_at}

-- Words

-- which words stand among specifiers; `long` may stand twice
pub record Words : Type 0 where
  pub has_void : Bool
  pub has_bool : Bool
  pub has_char : Bool
  pub has_short : Bool
  pub longs : ℕ
  pub has_signed : Bool
  pub has_unsigned : Bool
  pub qualifiers : Qualifiers
  pub storage : StorageFact

abbrev pub no_words : Words
no_words =
    record {
      has_void = false;
      has_bool = false;
      has_char = false;
      has_short = false;
      longs = 0;
      has_signed = false;
      has_unsigned = false;
      qualifiers = no_qualifiers;
      storage = record { is_typedef = false; is_extern = false; is_static = false; is_register = false };
    }

-- these words and one more; in whatever order they stand, they come to the same
abbrev pub with_word : NodeKind → Words → Words
with_word kinds.VoidSpecifier words = record words { has_void = true }
with_word kinds.BoolSpecifier words = record words { has_bool = true }
with_word kinds.CharSpecifier words = record words { has_char = true }
with_word kinds.ShortSpecifier words = record words { has_short = true }
with_word kinds.LongSpecifier words = record words { longs = words.longs + 1 }
with_word kinds.SignedSpecifier words = record words { has_signed = true }
with_word kinds.UnsignedSpecifier words = record words { has_unsigned = true }
with_word kinds.ConstQualifier words = record words { qualifiers = record words.qualifiers { is_const = true } }
with_word kinds.VolatileQualifier words = record words { qualifiers = record words.qualifiers { is_volatile = true } }
with_word kinds.TypedefSpecifier words = record words { storage = record words.storage { is_typedef = true } }
with_word kinds.ExternSpecifier words = record words { storage = record words.storage { is_extern = true } }
with_word kinds.StaticSpecifier words = record words { storage = record words.storage { is_static = true } }
with_word kinds.RegisterSpecifier words = record words { storage = record words.storage { is_register = true } }
with_word kind words = words

abbrev pub words_of : UnitNodes → List ℕ → Words
words_of nodes [] = no_words
words_of nodes (handle ∷ handles) = with_word (kind_at nodes handle) (words_of nodes handles)

-- the kind of an integer by its words (6.7.2 p2, p5); `char` is a kind of its own
abbrev pub kind_of_char : Words → IntKind
kind_of_char words = if words.has_unsigned then integers.UChar else (if words.has_signed then integers.SChar else integers.Char)

abbrev pub kind_of_words : Words → IntKind
kind_of_words words =
    if words.has_bool then integers.Bool
    else (if words.has_char then kind_of_char words
    else (if words.has_short then (if words.has_unsigned then integers.UShort else integers.Short)
    else (if nat_lt 1 words.longs then (if words.has_unsigned then integers.ULLong else integers.LLong)
    else (if nat_lt 0 words.longs then (if words.has_unsigned then integers.ULong else integers.Long)
    else (if words.has_unsigned then integers.UInt else integers.Int)))))

abbrev pub plain_type : BaseTree → TypeTree
plain_type base = Typed base no_qualifiers no_flags

abbrev pub type_of_words : Words → TypeTree
type_of_words words = plain_type (if words.has_void then VoidTree else IntegerTree (kind_of_words words))

-- Attributes

-- the space with this name, or with this number where it has none
abbrev pub space_named : List ℕ → ℕ → Space
space_named [] number = NumberedSpace number
space_named (byte ∷ name) number = NamedSpace (byte ∷ name)

-- what attributes add to a type
pub record Marks : Type 0 where
  pub flags : Flags
  pub is_bitwise : Bool

abbrev pub no_marks : Marks
no_marks = record { flags = no_flags; is_bitwise = false }

-- a later space replaces an earlier one
abbrev pub marked_by : TreeNode (List ℕ) → NodeKind → Marks → Marks
marked_by node kinds.NoderefAttribute marks = record marks { flags = record marks.flags { noderef = true } }
marked_by node kinds.AddressSpaceAttribute marks = record marks { flags = record marks.flags { space = space_named node.name node.number } }
marked_by node kinds.BitwiseAttribute marks = record marks { is_bitwise = true }
marked_by node kind marks = marks

abbrev pub marks_behind : UnitNodes → Marks → (attributes : List ℕ) → Marks
marks_behind nodes marks [] = marks
marks_behind nodes marks (handle ∷ handles) = marks_behind nodes (marked_by (node_at nodes handle) (kind_at nodes handle) marks) handles

-- the attributes of a node, if it is a list of them
abbrev pub attributes_of : NodeKind → (children : List ℕ) → List ℕ
attributes_of kinds.AttributeList children = children
attributes_of kind children = []

-- those of all lists among these nodes, in order
abbrev pub attributes_among : UnitNodes → List ℕ → List ℕ
attributes_among nodes handles = flat_map (λ handle. attributes_of (kind_at nodes handle) (children_at nodes handle)) handles

abbrev pub marks_among : UnitNodes → List ℕ → Marks
marks_among nodes handles = marks_behind nodes no_marks (attributes_among nodes handles)

-- an integer type becomes one of its own, which is told by the token at which its declaration begins
abbrev pub restricted_base : (identity : ℕ) → BaseTree → BaseTree
restricted_base identity (IntegerTree kind) = RestrictedTree kind identity
restricted_base identity (RestrictedTree kind other) = RestrictedTree kind identity
restricted_base identity base = base

abbrev pub restricted : (identity : ℕ) → TypeTree → TypeTree
restricted identity (Typed base qualifiers flags) = Typed (restricted_base identity base) qualifiers flags

-- a type with what attributes add in a declaration that begins at this token
abbrev pub with_marks : (identity : ℕ) → Marks → TypeTree → TypeTree
with_marks identity marks type_ =
    marked no_qualifiers marks.flags (if marks.is_bitwise then restricted identity type_ else type_)

-- Specifiers

-- the type that one of them names
abbrev pub type_named : Fact → Option TypeTree
type_named (NamedType type_) = Some type_
type_named fact = None

-- a specifier of this kind names a type, so that no words do (6.7.2 p2)
abbrev pub names_type : NodeKind → Bool
names_type kinds.TypedefName = true
names_type kinds.TypeofType = true
names_type kinds.TypeofExpression = true
names_type kind = false

-- the type by what one of them names, or else by the words; where the named one isn't known, none is
abbrev pub type_said : UnitNodes → List Fact → Words → (handles : List ℕ) → Option TypeTree
type_said nodes facts words [] = Some (type_of_words words)
type_said nodes facts words (handle ∷ handles) =
    if names_type (kind_at nodes handle) then type_named (fact_at facts handle) else type_said nodes facts words handles

-- what they say of this type in a declaration that begins at this token
abbrev pub specified_as : UnitNodes → (token : ℕ) → (handles : List ℕ) → Words → Option TypeTree → Fact
specified_as nodes token handles words None = Unknown
specified_as nodes token handles words (Some type_) =
    Specified
    (record { type_ = with_marks token (marks_among nodes handles) (marked words.qualifiers no_flags type_); storage = words.storage })

abbrev pub specified : UnitNodes → List Fact → (token : ℕ) → (handles : List ℕ) → Fact
specified nodes facts token handles =
    specified_as nodes token handles (words_of nodes handles) (type_said nodes facts (words_of nodes handles) handles)
