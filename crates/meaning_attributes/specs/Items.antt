-- The items of an attribute list: what each means.
use Rattle.std.specs.Prelude.{ℕ, ◌==◌, Bool, nat_le, Option, Some, None, List, [], ◌∷◌, if◌then◌else◌}
use Rattle.std.specs.List.{list_any}
use Rattle.meaning_text.specs.Tokens.{Tok}
use Rattle.meaning_types.specs.Types.{NumberedSpace, NamedSpace}
use Rattle.meaning_attributes.specs.Tokens.{is_identifier_kind, is_opening, is_closing, number_at, lone_number, without_extensions}
use Rattle.meaning_attributes.specs.Pieces.{comma_pieces}
use Rattle.meaning_attributes.specs.Words.{Word, AddressSpaceWord, ContextWord, AlignedWord, FlagWord, OtherWord, attribute_word}
use Rattle.meaning_attributes.specs.Attributes.{Attribute, HasSpace, HasAlign, HasFlag}
use Rattle.meaning_attributes.specs.Meanings.{Meaning, Means, MeansNothing, IsBad, PassesLimit, BadSpace, BadContext, BadAlign}
use Rattle.meaning_attributes.specs.Contexts.{context_in}

-- what stands behind the word of an item
pub data ItemArguments : Type 0 where
  NoArguments : ItemArguments
  -- the tokens between the parentheses
  Between : List Tok → ItemArguments
  -- what the grammar doesn't derive there
  OtherTokens : ItemArguments

-- the token before those between parentheses, if there are parentheses
abbrev pub before_arguments : Tok → ItemArguments → ItemArguments
before_arguments token (Between tokens) = Between (token ∷ tokens)
before_arguments token NoArguments = OtherTokens
before_arguments token OtherTokens = OtherTokens

-- what stands behind an opening parenthesis: tokens, and a closing one as the last
abbrev pub arguments_inside : List Tok → ItemArguments
arguments_inside [] = OtherTokens
arguments_inside (token ∷ []) = if is_closing token.kind then Between [] else OtherTokens
arguments_inside (token ∷ other ∷ tokens) = before_arguments token (arguments_inside (other ∷ tokens))

-- what the tokens behind a word are
abbrev pub arguments_of : List Tok → ItemArguments
arguments_of [] = NoArguments
arguments_of (token ∷ tokens) = if is_opening token.kind then arguments_inside tokens else OtherTokens

-- Address spaces

-- the greatest number of an address space
abbrev pub greatest_space : ℕ
greatest_space = 4294967295

-- the space with a number
abbrev pub space_numbered : Option ℕ → Meaning
space_numbered (Some number) = if nat_le number greatest_space then Means (HasSpace (NumberedSpace number)) else IsBad BadSpace
space_numbered None = IsBad BadSpace

-- the space that a token names or numbers; a keyword is a name too
abbrev pub space_at : Tok → Meaning
space_at token =
    if is_identifier_kind token.kind then Means (HasSpace (NamedSpace token.text))
    else space_numbered (number_at token)

-- one token
abbrev pub space_of : ItemArguments → Meaning
space_of (Between (token ∷ [])) = space_at token
space_of _ = IsBad BadSpace

-- Alignments

-- the powers of 2 up to 65536
abbrev pub alignments : List ℕ
alignments = 1 ∷ 2 ∷ 4 ∷ 8 ∷ 16 ∷ 32 ∷ 64 ∷ 128 ∷ 256 ∷ 512 ∷ 1024 ∷ 2048 ∷ 4096 ∷ 8192 ∷ 16384 ∷ 32768 ∷ 65536 ∷ []

-- the number is one of them
abbrev pub is_alignment : ℕ → Bool
is_alignment number = list_any (λ alignment. alignment == number) alignments

-- the alignment that is written so
abbrev pub align_numbered : Option ℕ → Meaning
align_numbered (Some number) = if is_alignment number then Means (HasAlign number) else IsBad BadAlign
align_numbered None = IsBad BadAlign

-- one integer, or no arguments, which means 16
abbrev pub align_of : ItemArguments → Meaning
align_of NoArguments = Means (HasAlign 16)
align_of (Between tokens) = align_numbered (lone_number tokens)
align_of OtherTokens = IsBad BadAlign

-- Items

-- what a context has between its parentheses
abbrev pub context_with : ItemArguments → Meaning
context_with (Between tokens) = context_in (comma_pieces tokens)
context_with NoArguments = IsBad BadContext
context_with OtherTokens = IsBad BadContext

-- what a word with these arguments means; flags and other words don't look at theirs
abbrev pub meaning_with : Word → ItemArguments → Meaning
meaning_with AddressSpaceWord arguments = space_of arguments
meaning_with ContextWord arguments = context_with arguments
meaning_with AlignedWord arguments = align_of arguments
meaning_with (FlagWord flag) _ = Means (HasFlag flag)
meaning_with OtherWord _ = MeansNothing

-- an item is empty, or begins with its word
abbrev pub item_meaning : List Tok → Meaning
item_meaning [] = MeansNothing
item_meaning (word ∷ tokens) = meaning_with (attribute_word word.text) (arguments_of tokens)

-- what an item of these tokens means
abbrev pub meaning_of : List Tok → Meaning
meaning_of tokens = item_meaning (without_extensions tokens)

-- the attribute that a meaning is
abbrev pub attribute_meant : Meaning → Option Attribute
attribute_meant (Means attribute) = Some attribute
attribute_meant MeansNothing = None
attribute_meant (IsBad bad) = None
attribute_meant PassesLimit = None

-- the attribute of an item of these tokens
abbrev pub attribute_of : List Tok → Option Attribute
attribute_of tokens = attribute_meant (meaning_of tokens)
