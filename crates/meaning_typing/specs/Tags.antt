-- Structures, unions and enumerations by their tags (C11 6.7.2.3), and specifiers among which they stand. The number of such a
-- specifier is the token of the keyword that first names its tag in its scope, its own without a tag.
use Rattle.std.specs.Prelude.{ℕ, zero, suc, ◌+◌, ◌-◌, nat_eq, nat_lt, Bool, true, false, ◌&&◌, ◌||◌, not, List, [], ◌∷◌, length, Option, Some, None, if◌then◌else◌}
use Rattle.std.specs.List.{flat_map, list_any}
use Rattle.vocabulary.specs.declared.error_kind.ErrorKind.TheVariants.{BitwiseOnNoInteger, TagRedeclared}
use Rattle.vocabulary.specs.declared.int_kind.IntKind.TheVariants as integers
use Rattle.vocabulary.specs.declared.node_kind.NodeKind.{NodeKind}
use Rattle.vocabulary.specs.declared.node_kind.NodeKind.TheVariants as kinds
use Rattle.meaning_types.specs.Types.{TypeTree, IntegerTree, no_flags}
use Rattle.meaning_types.specs.Marks.{marked}
use Rattle.meaning_operands.specs.Failures.{Broken}
use Rattle.meaning_operands.specs.Operands.{is_integer}
use Rattle.meaning_typing.specs.Units.{UnitNodes, node_at, kind_at, children_at}
use Rattle.meaning_typing.specs.Facts.{Fact, NamedType, Specified, fact_at}
use Rattle.meaning_typing.specs.Specifiers.{Words, attributes_among, marks_behind, no_marks, plain_type, names_type, type_named, type_of_words, with_marks, words_of}
use Rattle.meaning_typing.specs.Rows.{Row, nothing, breaks_at, breaks_named, unless_broken}

-- Kinds of tags

pub data TagKind : Type 0 where
  StructureTag : TagKind
  UnionTag : TagKind
  EnumerationTag : TagKind

abbrev pub tag_kind : NodeKind → Option TagKind
tag_kind kinds.StructSpecifier = Some StructureTag
tag_kind kinds.UnionSpecifier = Some UnionTag
tag_kind kinds.EnumSpecifier = Some EnumerationTag
tag_kind kind = None

abbrev pub is_tagged : NodeKind → Bool
is_tagged kinds.StructSpecifier = true
is_tagged kinds.UnionSpecifier = true
is_tagged kinds.EnumSpecifier = true
is_tagged kind = false

abbrev pub are_one_kind : Option TagKind → Option TagKind → Bool
are_one_kind (Some StructureTag) (Some StructureTag) = true
are_one_kind (Some UnionTag) (Some UnionTag) = true
are_one_kind (Some EnumerationTag) (Some EnumerationTag) = true
are_one_kind kind other = false

-- Bodies

abbrev pub is_body : NodeKind → Bool
is_body kinds.MemberList = true
is_body kinds.Enumerator = true
is_body kind = false

-- members or enumerators stand between braces
abbrev pub has_body : UnitNodes → (handle : ℕ) → Bool
has_body nodes handle = list_any (λ child. is_body (kind_at nodes child)) (children_at nodes handle)

-- Tags again (p1, p2)

-- the kind of the specifier at this token, where the first node of these has this handle
abbrev pub kind_at_token : (token : ℕ) → UnitNodes → Option TagKind
kind_at_token token [] = None
kind_at_token token (node ∷ nodes) =
    if is_tagged node.kind && nat_eq node.token token then tag_kind node.kind else kind_at_token token nodes

-- a tag is of the kind with which it is named first
abbrev pub is_other_kind : UnitNodes → (handle : ℕ) → Bool
is_other_kind nodes handle = not (are_one_kind (kind_at_token (node_at nodes handle).number nodes) (tag_kind (kind_at nodes handle)))

-- its body begins at an earlier token than that of this one
abbrev pub is_earlier_body : UnitNodes → (handle other : ℕ) → Bool
is_earlier_body nodes handle other =
    is_tagged (kind_at nodes other)
    && (nat_eq (node_at nodes other).number (node_at nodes handle).number
    && (has_body nodes other && nat_lt (node_at nodes other).token (node_at nodes handle).token))

-- one of the first so many handles passes
abbrev pub is_any_below : (ℕ → Bool) → (count : ℕ) → Bool
is_any_below test zero = false
is_any_below test (suc count) = is_any_below test count || test count

-- and has one body
abbrev pub is_defined_again : UnitNodes → (handle : ℕ) → Bool
is_defined_again nodes handle = has_body nodes handle && is_any_below (λ other. is_earlier_body nodes handle other) (length nodes)

-- The token of the tag is the one behind the keyword, or behind the last list of attributes that stands between.
abbrev pub is_list : NodeKind → Bool
is_list kinds.AttributeList = true
is_list kind = false

abbrev pub behind_lists : UnitNodes → (before : ℕ) → (handles : List ℕ) → ℕ
behind_lists nodes before [] = before
behind_lists nodes before (handle ∷ handles) =
    if is_list (kind_at nodes handle) then behind_lists nodes (node_at nodes handle).number handles else before

abbrev pub tag_token : UnitNodes → (handle : ℕ) → ℕ
tag_token nodes handle = behind_lists nodes ((node_at nodes handle).token + 1) (children_at nodes handle)

abbrev pub tag_broken : UnitNodes → (handle : ℕ) → List Broken
tag_broken nodes handle =
    if is_other_kind nodes handle || is_defined_again nodes handle
    then breaks_named TagRedeclared (tag_token nodes handle) (node_at nodes handle).name
    else []

-- Specifiers: attributes between the keyword and the tag are among them

abbrev pub tag_attributes : UnitNodes → NodeKind → (children : List ℕ) → List ℕ
tag_attributes nodes kinds.AttributeList children = children
tag_attributes nodes kind children = if is_tagged kind then attributes_among nodes children else []

abbrev pub attributes_of_specifiers : UnitNodes → List ℕ → List ℕ
attributes_of_specifiers nodes handles = flat_map (λ handle. tag_attributes nodes (kind_at nodes handle) (children_at nodes handle)) handles

abbrev pub names_any_type : NodeKind → Bool
names_any_type kind = names_type kind || is_tagged kind

-- the type that one of them names, else that of the words
abbrev pub any_type_said : UnitNodes → List Fact → Words → (handles : List ℕ) → Option TypeTree
any_type_said nodes facts words [] = Some (type_of_words words)
any_type_said nodes facts words (handle ∷ handles) =
    if names_any_type (kind_at nodes handle) then type_named (fact_at facts handle) else any_type_said nodes facts words handles

-- `bitwise` is of integers alone, and is told at its word
abbrev pub is_bitwise_word : NodeKind → Bool
is_bitwise_word kinds.BitwiseAttribute = true
is_bitwise_word kind = false

abbrev pub bitwise_words : UnitNodes → (attributes : List ℕ) → List Broken
bitwise_words nodes attributes =
    flat_map (λ handle. if is_bitwise_word (kind_at nodes handle) then breaks_at BitwiseOnNoInteger (node_at nodes handle).token else []) attributes

abbrev pub bitwise_broken : UnitNodes → (attributes : List ℕ) → TypeTree → List Broken
bitwise_broken nodes attributes type_ = if is_integer type_ then [] else bitwise_words nodes attributes

-- what they say of this type in a declaration that begins at this token
abbrev pub specifiers_by : UnitNodes → (token : ℕ) → (attributes : List ℕ) → Words → Option TypeTree → Row
specifiers_by nodes token attributes words None = nothing
specifiers_by nodes token attributes words (Some type_) =
    record nothing {
      fact =
          unless_broken (bitwise_broken nodes attributes type_)
          (Specified
          (record { type_ = with_marks token (marks_behind nodes no_marks attributes) (marked words.qualifiers no_flags type_); storage = words.storage }));
      broken = bitwise_broken nodes attributes type_;
    }

abbrev pub specifiers_row : UnitNodes → List Fact → (handle : ℕ) → Row
specifiers_row nodes facts handle =
    specifiers_by nodes (node_at nodes handle).token (attributes_of_specifiers nodes (children_at nodes handle)) (words_of nodes (children_at nodes handle))
    (any_type_said nodes facts (words_of nodes (children_at nodes handle)) (children_at nodes handle))

-- Enumerations that are named: the type of the body that was told before, or int (our choice)

abbrev pub is_enumeration_told : UnitNodes → (number other : ℕ) → Bool
is_enumeration_told nodes number other =
    are_one_kind (tag_kind (kind_at nodes other)) (Some EnumerationTag) && (nat_eq (node_at nodes other).number number && has_body nodes other)

abbrev pub option_or : Option Fact → Option Fact → Option Fact
option_or None other = other
option_or (Some fact) other = Some fact

abbrev pub enumeration_told : UnitNodes → List Fact → (number count : ℕ) → Option Fact
enumeration_told nodes facts number zero = None
enumeration_told nodes facts number (suc count) =
    option_or (enumeration_told nodes facts number count) (if is_enumeration_told nodes number count then Some (fact_at facts count) else None)

abbrev pub fact_or_int : Option Fact → Fact
fact_or_int None = NamedType (plain_type (IntegerTree integers.Int))
fact_or_int (Some fact) = fact

-- by its number, behind these facts
abbrev pub enumeration_named : UnitNodes → List Fact → (number : ℕ) → Fact
enumeration_named nodes facts number = fact_or_int (enumeration_told nodes facts number (length facts))
