-- Which specifiers stand together (C11 6.7.1, 6.7.2 p2, 6.7.4, 6.7.6.3 p2). They are looked at where their list ends; what is
-- wrong with them is held, and told when the token behind them is taken.
use Rattle.std.specs.Prelude.{ℕ, Bool, true, false, ◌||◌, List, [], ◌∷◌, Some, if◌then◌else◌}
use Rattle.vocabulary.specs.declared.error_kind.ErrorKind.{ErrorKind}
use Rattle.vocabulary.specs.declared.error_kind.ErrorKind.TheVariants.{BadDeclaration, ParameterWithoutType}
use Rattle.vocabulary.specs.declared.node_kind.NodeKind.{NodeKind}
use Rattle.vocabulary.specs.declared.node_kind.NodeKind.TheVariants as kinds
use Rattle.meaning_tree.specs.Trees.{Node, Parts, NoParts, Part}
use Rattle.meaning_derivation.specs.State.{State}

-- Words

-- what a specifier is, as far as it says which others may stand beside it
pub data SpecifierWord : Type 0 where
  -- a type by itself: `void`, `_Bool`, a typedef name, a structure, a union, an enumeration, `typeof`
  WholeWord : SpecifierWord
  CharWord : SpecifierWord
  -- `signed` or `unsigned`
  SignWord : SpecifierWord
  ShortWord : SpecifierWord
  LongWord : SpecifierWord
  IntWord : SpecifierWord
  -- `typedef`, `extern` or `static`
  StorageWord : SpecifierWord
  AutoWord : SpecifierWord
  RegisterWord : SpecifierWord
  -- `inline` or `_Noreturn`
  FunctionWord : SpecifierWord
  -- `const`, `volatile` or `restrict`
  QualifierWord : SpecifierWord
  -- a list of attributes
  AttributesWord : SpecifierWord

abbrev pub word_of : NodeKind → SpecifierWord
word_of kinds.VoidSpecifier = WholeWord
word_of kinds.BoolSpecifier = WholeWord
word_of kinds.TypedefName = WholeWord
word_of kinds.StructSpecifier = WholeWord
word_of kinds.UnionSpecifier = WholeWord
word_of kinds.EnumSpecifier = WholeWord
word_of kinds.TypeofType = WholeWord
word_of kinds.TypeofExpression = WholeWord
word_of kinds.CharSpecifier = CharWord
word_of kinds.SignedSpecifier = SignWord
word_of kinds.UnsignedSpecifier = SignWord
word_of kinds.ShortSpecifier = ShortWord
word_of kinds.LongSpecifier = LongWord
word_of kinds.IntSpecifier = IntWord
word_of kinds.TypedefSpecifier = StorageWord
word_of kinds.ExternSpecifier = StorageWord
word_of kinds.StaticSpecifier = StorageWord
word_of kinds.AutoSpecifier = AutoWord
word_of kinds.RegisterSpecifier = RegisterWord
word_of kinds.InlineSpecifier = FunctionWord
word_of kinds.NoreturnSpecifier = FunctionWord
word_of kinds.ConstQualifier = QualifierWord
word_of kinds.VolatileQualifier = QualifierWord
word_of kinds.RestrictQualifier = QualifierWord
word_of kind = AttributesWord

-- Types (6.7.2 p2)

-- how long an integer is, by its words
pub data IntegerSize : Type 0 where
  PlainSize : IntegerSize
  ShortSize : IntegerSize
  LongSize : IntegerSize
  LongLongSize : IntegerSize

-- What the words of a type come to. Each good set of them is one of the middle three, in whatever order they stand.
pub data TypeWords : Type 0 where
  NoType : TypeWords
  WholeType : TypeWords
  -- `char`, with a sign or without
  CharType : (has_sign : Bool) → TypeWords
  -- an integer of this size, with a sign or without, with the word `int` or without; a plain one has one of the two
  IntegerType : IntegerSize → (has_sign has_int : Bool) → TypeWords
  -- no type has these words
  BadType : TypeWords

-- one word more
abbrev pub with_whole : TypeWords → TypeWords
with_whole NoType = WholeType
with_whole words = BadType

abbrev pub with_char : TypeWords → TypeWords
with_char NoType = CharType false
with_char (IntegerType PlainSize true false) = CharType true
with_char words = BadType

abbrev pub with_sign : TypeWords → TypeWords
with_sign NoType = IntegerType PlainSize true false
with_sign (CharType false) = CharType true
with_sign (IntegerType size false has_int) = IntegerType size true has_int
with_sign words = BadType

abbrev pub with_int : TypeWords → TypeWords
with_int NoType = IntegerType PlainSize false true
with_int (IntegerType size has_sign false) = IntegerType size has_sign true
with_int words = BadType

abbrev pub with_short : TypeWords → TypeWords
with_short NoType = IntegerType ShortSize false false
with_short (IntegerType PlainSize has_sign has_int) = IntegerType ShortSize has_sign has_int
with_short words = BadType

abbrev pub with_long : TypeWords → TypeWords
with_long NoType = IntegerType LongSize false false
with_long (IntegerType PlainSize has_sign has_int) = IntegerType LongSize has_sign has_int
with_long (IntegerType LongSize has_sign has_int) = IntegerType LongLongSize has_sign has_int
with_long words = BadType

abbrev pub type_with : SpecifierWord → TypeWords → TypeWords
type_with WholeWord words = with_whole words
type_with CharWord words = with_char words
type_with SignWord words = with_sign words
type_with IntWord words = with_int words
type_with ShortWord words = with_short words
type_with LongWord words = with_long words
type_with word words = words

-- Storage classes (6.7.1 p2)

pub data StorageWords : Type 0 where
  NoStorage : StorageWords
  -- `typedef`, `extern` or `static`
  UsualStorage : StorageWords
  AutoStorage : StorageWords
  RegisterStorage : StorageWords
  -- more than one
  BadStorage : StorageWords

-- the first one, or one too many
abbrev pub storage_or_bad : (first : StorageWords) → StorageWords → StorageWords
storage_or_bad first NoStorage = first
storage_or_bad first words = BadStorage

abbrev pub storage_with : SpecifierWord → StorageWords → StorageWords
storage_with StorageWord words = storage_or_bad UsualStorage words
storage_with AutoWord words = storage_or_bad AutoStorage words
storage_with RegisterWord words = storage_or_bad RegisterStorage words
storage_with word words = words

-- Specifiers

-- what specifiers come to
pub record Specified : Type 0 where
  pub type_words : TypeWords
  pub storage : StorageWords
  -- `inline` or `_Noreturn` is among them
  pub is_function : Bool
  -- some qualifier is
  pub is_qualified : Bool

abbrev pub nothing_specified : Specified
nothing_specified = record { type_words = NoType; storage = NoStorage; is_function = false; is_qualified = false }

abbrev pub is_function_word : SpecifierWord → Bool
is_function_word FunctionWord = true
is_function_word word = false

abbrev pub is_qualifier_word : SpecifierWord → Bool
is_qualifier_word QualifierWord = true
is_qualifier_word word = false

abbrev pub specified_with : SpecifierWord → Specified → Specified
specified_with word specified =
    record {
      type_words = type_with word specified.type_words;
      storage = storage_with word specified.storage;
      is_function = specified.is_function || is_function_word word;
      is_qualified = specified.is_qualified || is_qualifier_word word;
    }

-- the kinds of parts, in order
abbrev pub kinds_of : Parts (List ℕ) → List NodeKind
kinds_of NoParts = []
kinds_of (Part role (Node kind token name number parts) others) = kind ∷ kinds_of others

-- what comes of more specifiers, one behind the other
abbrev pub specified_from : Specified → List NodeKind → Specified
specified_from specified [] = specified
specified_from specified (kind ∷ kinds) = specified_from (specified_with (word_of kind) specified) kinds

abbrev pub specified_by : Parts (List ℕ) → Specified
specified_by parts = specified_from nothing_specified (kinds_of parts)

-- What is bad

abbrev pub is_bad_type : TypeWords → Bool
is_bad_type BadType = true
is_bad_type words = false

abbrev pub is_no_type : TypeWords → Bool
is_no_type NoType = true
is_no_type words = false

abbrev pub is_bad_storage : StorageWords → Bool
is_bad_storage BadStorage = true
is_bad_storage words = false

-- at file scope neither `auto` nor `register` stands (6.9 p2)
abbrev pub is_bad_file_storage : StorageWords → Bool
is_bad_file_storage AutoStorage = true
is_bad_file_storage RegisterStorage = true
is_bad_file_storage words = is_bad_storage words

-- in a parameter none but `register` (6.7.6.3 p2)
abbrev pub is_bad_parameter_storage : StorageWords → Bool
is_bad_parameter_storage NoStorage = false
is_bad_parameter_storage RegisterStorage = false
is_bad_parameter_storage words = true

-- in a member or a type name none (6.7.2.1 p1, 6.7.7 p1)
abbrev pub is_some_storage : StorageWords → Bool
is_some_storage NoStorage = false
is_some_storage words = true

abbrev pub is_bad_in_file : Specified → Bool
is_bad_in_file specified = is_bad_type specified.type_words || is_bad_file_storage specified.storage

abbrev pub is_bad_in_block : Specified → Bool
is_bad_in_block specified = is_bad_type specified.type_words || is_bad_storage specified.storage

abbrev pub is_bad_parameter : Specified → Bool
is_bad_parameter specified = is_bad_type specified.type_words || (is_bad_parameter_storage specified.storage || specified.is_function)

abbrev pub is_bad_member : Specified → Bool
is_bad_member specified = is_bad_type specified.type_words || (is_some_storage specified.storage || specified.is_function)

-- nothing is told of a type
abbrev pub lacks_type : Specified → Bool
lacks_type specified = is_no_type specified.type_words

-- and there is more than attributes, which may stand alone
abbrev pub lacks_type_or_attributes : Specified → Bool
lacks_type_or_attributes specified =
    if is_no_type specified.type_words then is_some_storage specified.storage || (specified.is_function || specified.is_qualified) else false

-- a parameter without a type isn't read, whatever else is bad
abbrev pub parameter_error : Specified → ErrorKind
parameter_error specified = if lacks_type specified then ParameterWithoutType else BadDeclaration

abbrev pub is_refused_parameter : Specified → Bool
is_refused_parameter specified = lacks_type specified || is_bad_parameter specified

-- What is held

-- where the test holds, an error at this token is told when the next terminal is taken
abbrev pub held_where : (test : Bool) → ErrorKind → (token : ℕ) → State → State
held_where test kind token s = record s { held = if test then Some (record { kind = kind; token = token }) else s.held }
