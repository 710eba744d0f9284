-- Specifiers, by the kinds of their nodes.
use Rattle.std.specs.Prelude.{ℕ, List, map, Option, Some, None}
use Rattle.vocabulary.specs.declared.node_kind.NodeKind.{NodeKind}
use Rattle.vocabulary.specs.declared.node_kind.NodeKind.TheVariants.{AttributeList}
use Rattle.meaning_tree.specs.Nodes.{TreeNode, NodeList}
use Rattle.meaning_tree.specs.LookUps.{node_at}
use Rattle.meaning_derivation.specs.Specifiers as meaning
use Rattle.sparse_model.specs.declared.ids.NameId.{NameId}
use Rattle.parse_state.specs.declared.specified.SpecifierWord.{SpecifierWord}
use Rattle.parse_state.specs.declared.specified.SpecifierWord.TheVariants as words
use Rattle.parse_state.specs.declared.specified.IntegerSize.{IntegerSize}
use Rattle.parse_state.specs.declared.specified.IntegerSize.TheVariants as sizes
use Rattle.parse_state.specs.declared.specified.TypeWords.{TypeWords}
use Rattle.parse_state.specs.declared.specified.TypeWords.TheVariants as types
use Rattle.parse_state.specs.declared.specified.StorageWords.{StorageWords}
use Rattle.parse_state.specs.declared.specified.StorageWords.TheVariants as storages
use Rattle.parse_state.specs.declared.specified.Specified.{Specified}

-- how a word is seen
abbrev pub word_seen : SpecifierWord → meaning.SpecifierWord
word_seen words.Whole = meaning.WholeWord
word_seen words.Char = meaning.CharWord
word_seen words.Sign = meaning.SignWord
word_seen words.Short = meaning.ShortWord
word_seen words.Long = meaning.LongWord
word_seen words.Int = meaning.IntWord
word_seen words.Storage = meaning.StorageWord
word_seen words.Auto = meaning.AutoWord
word_seen words.Register = meaning.RegisterWord
word_seen words.Function = meaning.FunctionWord
word_seen words.Qualifier = meaning.QualifierWord
word_seen words.Attributes = meaning.AttributesWord

abbrev pub size_seen : IntegerSize → meaning.IntegerSize
size_seen sizes.Plain = meaning.PlainSize
size_seen sizes.Short = meaning.ShortSize
size_seen sizes.Long = meaning.LongSize
size_seen sizes.LongLong = meaning.LongLongSize

abbrev pub type_seen : TypeWords → meaning.TypeWords
type_seen types.Nothing = meaning.NoType
type_seen types.Whole = meaning.WholeType
type_seen (types.Char has_sign) = meaning.CharType has_sign
type_seen (types.Integer size has_sign has_int) = meaning.IntegerType (size_seen size) has_sign has_int
type_seen types.Bad = meaning.BadType

abbrev pub storage_seen : StorageWords → meaning.StorageWords
storage_seen storages.Nothing = meaning.NoStorage
storage_seen storages.Usual = meaning.UsualStorage
storage_seen storages.Auto = meaning.AutoStorage
storage_seen storages.Register = meaning.RegisterStorage
storage_seen storages.Bad = meaning.BadStorage

abbrev pub specified_seen : Specified → meaning.Specified
specified_seen specified =
    record {
      type_words = type_seen specified.type_words;
      storage = storage_seen specified.storage;
      is_function = specified.is_function;
      is_qualified = specified.is_qualified;
    }

-- the kind of a node that was looked up
abbrev pub kind_seen : Option (TreeNode NameId) → NodeKind
kind_seen None = AttributeList
kind_seen (Some node) = node.kind

-- the kinds of children, in order
abbrev pub child_kinds : NodeList NameId → List (ℕ × ℕ) → List NodeKind
child_kinds list children = map (λ child. kind_seen (node_at list child.0)) children
