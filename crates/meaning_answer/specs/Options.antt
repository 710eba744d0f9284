-- What one word of a command is: an option, an operand, or a word that no rule allows.
use Rattle.std.specs.Prelude.{ℕ, ◌+◌, Bool, true, false, not, ◌&&◌, ◌||◌, ◌==◌, List, [], ◌∷◌, ◌++◌, Option, Some, None, codes, take, drop, if◌then◌else◌}
use Rattle.std.specs.List.{list_any}
use Rattle.std.specs.Str.{bytes_eq}
use Rattle.vocabulary.specs.declared.class.Class.{Class}
use Rattle.vocabulary.specs.declared.class.Class.TheVariants.{AddressSpace, Bitwise, Context, NonPointerNull, CastToAs, Decl, Shadow, Undef, ReturnVoid, DoWhile, StrictPrototypes, OneBitSignedBitfield, CastTruncate}
use Rattle.vocabulary.specs.Rules.{all_classes}
use Rattle.meaning_text.specs.Bytes.{new_line}
use Rattle.meaning_text.specs.Words.{is_identifier}

-- Classes by name

-- how a class is named
abbrev pub class_name : Class → List ℕ
class_name AddressSpace = codes "address-space"
class_name Bitwise = codes "bitwise"
class_name Context = codes "context"
class_name NonPointerNull = codes "non-pointer-null"
class_name CastToAs = codes "cast-to-as"
class_name Decl = codes "decl"
class_name Shadow = codes "shadow"
class_name Undef = codes "undef"
class_name ReturnVoid = codes "return-void"
class_name DoWhile = codes "do-while"
class_name StrictPrototypes = codes "strict-prototypes"
class_name OneBitSignedBitfield = codes "one-bit-signed-bitfield"
class_name CastTruncate = codes "cast-truncate"

-- the first of the classes with this name
abbrev pub named_among : List Class → List ℕ → Option Class
named_among [] name = None
named_among (class_ ∷ classes) name = if bytes_eq name (class_name class_) then Some class_ else named_among classes name

-- the class with this name
abbrev pub class_named : List ℕ → Option Class
class_named name = named_among all_classes name

-- both are one class, since no two have one name
abbrev pub is_class : Class → Class → Bool
is_class class_ other = bytes_eq (class_name other) (class_name class_)

-- Words

-- a class is switched on or off
pub record Switch : Type 0 where
  pub class_ : Class
  pub on : Bool

-- what a word is
pub data Word : Type 0 where
  -- `-E`: the tokens are asked for
  AsksForTokens : Word
  -- `-IDIR`: headers are looked for in the directory
  AddsDirectory : (directory : List ℕ) → Word
  -- `-DNAME`, `-DNAME=TEXT` and `-UNAME`: a line of the file `<command>`, with its new-line
  AddsLine : (text : List ℕ) → Word
  -- `-WCLASS` and `-Wno-CLASS`
  Switches : (switch : Switch) → Word
  -- a path
  IsOperand : Word
  -- no rule allows it
  IsStrange : Word

-- the hyphen, with which an option begins
abbrev pub hyphen : ℕ
hyphen = 45

-- the sign `=`, with which a text begins
abbrev pub equals_sign : ℕ
equals_sign = 61

abbrev pub has_new_line : List ℕ → Bool
has_new_line [] = false
has_new_line (b ∷ bytes) = b == new_line || has_new_line bytes

-- how many bytes stand before the first `=`
abbrev pub name_length : List ℕ → ℕ
name_length [] = 0
name_length (b ∷ bytes) = if b == equals_sign then 0 else name_length bytes + 1

-- the text of a macro: `1` where none is given
abbrev pub macro_text : List ℕ → List ℕ
macro_text [] = codes "1"
macro_text (sign ∷ text) = text

-- the line that defines this name so
abbrev pub define_line : List ℕ → List ℕ → List ℕ
define_line name text = codes "#define " ++ name ++ codes " " ++ text ++ codes "\n"

-- the line that takes a definition away
abbrev pub undef_line : List ℕ → List ℕ
undef_line name = codes "#undef " ++ name ++ codes "\n"

-- behind `-D`, by its name and what follows that: a text has no new-line
abbrev pub define_parts : List ℕ → List ℕ → Word
define_parts name behind =
    if is_identifier name && not (has_new_line (macro_text behind)) then AddsLine (define_line name (macro_text behind)) else IsStrange

-- behind `-D`
abbrev pub define_word : List ℕ → Word
define_word bytes = define_parts (take (name_length bytes) bytes) (drop (name_length bytes) bytes)

-- behind `-U`
abbrev pub undef_word : List ℕ → Word
undef_word name = if is_identifier name then AddsLine (undef_line name) else IsStrange

-- behind `-I`: a directory isn't empty
abbrev pub directory_word : List ℕ → Word
directory_word [] = IsStrange
directory_word (b ∷ bytes) = AddsDirectory (b ∷ bytes)

-- a class is switched, if there is one
abbrev pub switch_of : Bool → Option Class → Word
switch_of on None = IsStrange
switch_of on (Some class_) = Switches (record { class_ = class_; on = on })

-- the text begins with `no-`
abbrev pub begins_with_no : List ℕ → Bool
begins_with_no bytes = bytes_eq (take 3 bytes) (codes "no-")

-- behind `-W`
abbrev pub class_word : List ℕ → Word
class_word bytes = if begins_with_no bytes then switch_of false (class_named (drop 3 bytes)) else switch_of true (class_named bytes)

-- behind `-E` nothing stands
abbrev pub tokens_word : List ℕ → Word
tokens_word [] = AsksForTokens
tokens_word (b ∷ bytes) = IsStrange

-- the letters of the options
abbrev pub letter_e : ℕ
letter_e = 69

abbrev pub letter_i : ℕ
letter_i = 73

abbrev pub letter_d : ℕ
letter_d = 68

abbrev pub letter_u : ℕ
letter_u = 85

abbrev pub letter_w : ℕ
letter_w = 87

-- an option by its letter
abbrev pub lettered_word : ℕ → List ℕ → Word
lettered_word letter bytes =
    if letter == letter_e then tokens_word bytes
    else (if letter == letter_i then directory_word bytes
    else (if letter == letter_d then define_word bytes
    else (if letter == letter_u then undef_word bytes
    else (if letter == letter_w then class_word bytes else IsStrange))))

-- behind the hyphen
abbrev pub option_word : List ℕ → Word
option_word [] = IsStrange
option_word (letter ∷ bytes) = lettered_word letter bytes

-- what a word is
abbrev pub word_of : List ℕ → Word
word_of [] = IsOperand
word_of (b ∷ bytes) = if b == hyphen then option_word bytes else IsOperand

-- words that stand for other commands where they are the first
abbrev pub is_command : List ℕ → Bool
is_command word =
    list_any (bytes_eq word) (codes "eval" ∷ codes "gen" ∷ codes "link" ∷ codes "index" ∷ codes "annotate" ∷ [])
