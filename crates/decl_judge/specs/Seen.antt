-- How words, and what attributes add, are seen by the definitions.
use Rattle.std.specs.Prelude.{ℕ, Bool, true, false, List, [], ◌∷◌, Option, Some, None, drop, if◌then◌else◌}
use Rattle.vocabulary.specs.declared.int_kind.IntKind.{IntKind}
use Rattle.vocabulary.specs.declared.node_kind.NodeKind.{NodeKind}
use Rattle.vocabulary.specs.declared.node_kind.NodeKind.TheVariants as kinds
use Rattle.meaning_typing.specs.Declarators.{lists_in_front}
use Rattle.meaning_typing.specs.Specifiers as meaning
use Rattle.meaning_typing.specs.Units.{UnitNodes, kind_at, children_at}
use Rattle.c_types.specs.declared.shapes.ShapeBase.{ShapeBase}
use Rattle.c_types.specs.declared.shapes.ShapeBase.TheVariants as shapes
use Rattle.c_types.specs.Table.{space_of}
use Rattle.node_facts.specs.Facts.{storage_seen}
use Rattle.decl_judge.specs.declared.marks.Marks.{Marks}
use Rattle.decl_judge.specs.declared.words.Words.{Words}
use Rattle.decl_judge.specs.Units.{handles_of}

-- Words

abbrev pub words_seen : Words → meaning.Words
words_seen words =
    record {
      has_void = words.has_void;
      has_bool = words.has_bool;
      has_char = words.has_char;
      has_short = words.has_short;
      longs = words.longs;
      has_signed = words.has_signed;
      has_unsigned = words.has_unsigned;
      qualifiers = record { is_const = words.is_const; is_volatile = words.is_volatile };
      storage = storage_seen words.storage;
    }

-- of two kinds the one by its sign
abbrev pub kind_with_sign : meaning.Words → IntKind → IntKind → IntKind
kind_with_sign words signed unsigned = if words.has_unsigned then unsigned else signed

-- words, and those of nodes in front of them
abbrev pub words_before : UnitNodes → List ℕ → meaning.Words → meaning.Words
words_before nodes [] words = words
words_before nodes (handle ∷ handles) words = meaning.with_word (kind_at nodes handle) (words_before nodes handles words)

-- Attributes

abbrev pub marks_seen : Marks → meaning.Marks
marks_seen marks = record { flags = record { noderef = marks.noderef; space = space_of marks.space }; is_bitwise = marks.is_bitwise }

abbrev pub is_list : NodeKind → Bool
is_list kinds.AttributeList = true
is_list kind = false

abbrev pub handles_or_none : Option (List (ℕ × ℕ)) → List ℕ
handles_or_none None = []
handles_or_none (Some children) = handles_of children

-- marks, and what the attributes of a node add, if it is a list of them
abbrev pub list_marks : UnitNodes → meaning.Marks → (handle : ℕ) → meaning.Marks
list_marks nodes marks handle = meaning.marks_behind nodes marks (meaning.attributes_of (kind_at nodes handle) (children_at nodes handle))

-- marks, and what those of all lists among nodes add
abbrev pub marks_over : UnitNodes → meaning.Marks → List ℕ → meaning.Marks
marks_over nodes marks handles = meaning.marks_behind nodes marks (meaning.attributes_among nodes handles)

-- the lists that stand one behind the other from this place on
abbrev pub lists_from : UnitNodes → List (ℕ × ℕ) → (place : ℕ) → List ℕ
lists_from nodes children place = lists_in_front nodes (drop place (handles_of children))

-- what the type is that words name
abbrev pub base_of_words : meaning.Words → ShapeBase
base_of_words words = if words.has_void then shapes.Void else shapes.Integer (meaning.kind_of_words words) None
