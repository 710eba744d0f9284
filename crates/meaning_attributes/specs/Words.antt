-- The words of attributes.
use Rattle.std.specs.Prelude.{ℕ, Bool, ◌||◌, List, ◌++◌, codes, if◌then◌else◌}
use Rattle.std.specs.Str.{bytes_eq}

-- the attributes that have no arguments
pub data Flag : Type 0 where
  NoderefFlag : Flag
  BitwiseFlag : Flag
  ForceFlag : Flag
  PackedFlag : Flag
  NoreturnFlag : Flag

-- what an item is of, by its word
pub data Word : Type 0 where
  AddressSpaceWord : Word
  ContextWord : Word
  AlignedWord : Word
  FlagWord : Flag → Word
  -- another word means nothing
  OtherWord : Word

-- spelled so, or with `__` before and behind it
abbrev pub is_named : List ℕ → List ℕ → Bool
is_named word text = bytes_eq text word || bytes_eq text (codes "__" ++ word ++ codes "__")

-- by the words of flags
abbrev pub flag_word : List ℕ → Word
flag_word text =
    if is_named (codes "noderef") text then FlagWord NoderefFlag
    else (if is_named (codes "bitwise") text then FlagWord BitwiseFlag
    else (if is_named (codes "force") text then FlagWord ForceFlag
    else (if is_named (codes "packed") text then FlagWord PackedFlag
    else (if is_named (codes "noreturn") text then FlagWord NoreturnFlag
    else OtherWord))))

-- the word that is spelled so
abbrev pub attribute_word : List ℕ → Word
attribute_word text =
    if is_named (codes "address_space") text then AddressSpaceWord
    else (if is_named (codes "context") text then ContextWord
    else (if is_named (codes "aligned") text then AlignedWord
    else flag_word text))
