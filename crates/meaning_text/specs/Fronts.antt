-- The plain function beside the relation `Lexes`, first half: what stands at the front of a text of bytes. Each length
-- is found from the left, by looking at the next few bytes.
use Rattle.std.specs.Prelude.{ℕ, suc, ◌+◌, Bool, true, false, not, ◌==◌, ◌&&◌, nat_le, List, [], ◌∷◌, length, take, drop, Option, Some, None, if◌then◌else◌}
use Rattle.meaning_text.specs.Bytes.{new_line, double_quote, single_quote, star, slash, less, greater, backslash, is_blank}
use Rattle.meaning_text.specs.Words.{word_goes_on, begins_identifier, begins_number, number_goes_on, universal_left, sign_behind}
use Rattle.meaning_text.specs.Quoted.{character_prefix, string_prefix}
use Rattle.meaning_text.specs.Comments.{begins_block_comment, begins_line_comment}
use Rattle.meaning_text.specs.Punctuators.{punctuator_of}
use Rattle.vocabulary.specs.declared.token_kind.TokenKind.{TokenKind}
use Rattle.vocabulary.specs.declared.token_kind.TokenKind.TheVariants.{Identifier, Number, Character, String, HeaderName, Stray}
use Rattle.meaning_text.specs.Kinds.{is_stray_byte}

-- what may stand at the front of a text
pub data Front : Type 0 where
  AtEnd : Front
  AtNewLine : Front
  AtBlank : Front
  -- a comment of so many bytes
  AtComment : ℕ → Front
  -- a token of this kind and of so many bytes
  AtToken : TokenKind → ℕ → Front
  AtOpenComment : Front
  AtOpenLiteral : Front

-- a length with this many bytes more before it
abbrev pub longer_by : ℕ → Option ℕ → Option ℕ
longer_by more None = None
longer_by more (Some count) = Some (more + count)

-- Words

-- how many bytes go on with an identifier
abbrev pub word_length : List ℕ → ℕ
word_length [] = 0
word_length (b ∷ text) = if word_goes_on (b ∷ text) then suc (word_length text) else 0

-- how many bytes go on with a number
abbrev pub number_tail_length : (sign_may_stand : Bool) → (universal_left : ℕ) → List ℕ → ℕ
number_tail_length sign left [] = 0
number_tail_length sign left (b ∷ text) =
    if number_goes_on sign (b ∷ text) then suc (number_tail_length (sign_behind left b) (universal_left left (b ∷ text)) text)
    else 0

-- Literals and header names

-- how many bytes there are from behind an opening quotation mark to the one that closes it, both in one line
abbrev pub quoted_tail_length : (quote : ℕ) → (behind_backslash : Bool) → List ℕ → Option ℕ
quoted_tail_length quote escaped [] = None
quoted_tail_length quote escaped (b ∷ text) =
    if b == new_line then None
    else (if b == quote && not escaped then Some 1
    else longer_by 1 (quoted_tail_length quote (b == backslash && not escaped) text))

-- how many bytes there are from an opening quotation mark here to the one that closes it, with both
abbrev pub quoted_length : ℕ → List ℕ → Option ℕ
quoted_length quote [] = None
quoted_length quote (b ∷ text) = if b == quote then longer_by 1 (quoted_tail_length quote false text) else None

-- how many bytes a character constant has that begins here, with its prefix (6.4.4.4)
abbrev pub character_length : List ℕ → Option ℕ
character_length text = longer_by (character_prefix text) (quoted_length single_quote (drop (character_prefix text) text))

-- how many bytes a string literal has that begins here, with its prefix (6.4.5)
abbrev pub string_length : List ℕ → Option ℕ
string_length text = longer_by (string_prefix text) (quoted_length double_quote (drop (string_prefix text) text))

-- how many bytes there are from behind the opening of a header name to the byte that closes it
abbrev pub name_tail_length : (closing : ℕ) → List ℕ → Option ℕ
name_tail_length closing [] = None
name_tail_length closing (b ∷ text) =
    if b == new_line then None
    else (if b == closing then Some 1 else longer_by 1 (name_tail_length closing text))

-- with at least one byte before that
abbrev pub name_length : ℕ → List ℕ → Option ℕ
name_length closing [] = None
name_length closing (b ∷ text) = if b == closing then None else name_tail_length closing (b ∷ text)

-- how many bytes a header name has that begins here (6.4.7)
abbrev pub header_name_length : List ℕ → Option ℕ
header_name_length [] = None
header_name_length (b ∷ text) =
    if b == less then longer_by 1 (name_length greater text)
    else (if b == double_quote then longer_by 1 (name_length double_quote text) else None)

-- Comments

-- how many bytes there are before the end of the line
abbrev pub line_length : List ℕ → ℕ
line_length [] = 0
line_length (b ∷ text) = if b == new_line then 0 else suc (line_length text)

-- how many bytes there are from behind `/*` to the end of the first `*/`
abbrev pub block_tail_length : (behind_star : Bool) → List ℕ → Option ℕ
block_tail_length behind_star [] = None
block_tail_length behind_star (b ∷ text) =
    if b == slash && behind_star then Some 1 else longer_by 1 (block_tail_length (b == star) text)

-- the front at a `/*`, by how many bytes the comment has behind that, if it ends
abbrev pub block_front : Option ℕ → Front
block_front None = AtOpenComment
block_front (Some count) = AtComment (2 + count)

-- What token begins here, and how long it is

-- a kind with a number of bytes, or no token
abbrev pub Found : Type 0
Found = Option (TokenKind × ℕ)

-- the second where the first finds nothing
abbrev pub or_else : Found → Found → Found
or_else None other = other
or_else (Some found) other = Some found

-- a token of this kind and of so many bytes, if the condition holds
abbrev pub found_where : Bool → TokenKind → ℕ → Found
found_where holds kind count = if holds then Some (kind, count) else None

-- a token of this kind, if there is a length
abbrev pub found_of : TokenKind → Option ℕ → Found
found_of kind None = None
found_of kind (Some count) = Some (kind, count)

-- a header name, unless a string literal that begins here is longer
abbrev pub header_name_over : Option ℕ → Option ℕ → Found
header_name_over None other = None
header_name_over (Some count) None = Some (HeaderName, count)
header_name_over (Some count) (Some other) = found_where (nat_le other count) HeaderName count

-- a header name that begins here, where header names are allowed
abbrev pub found_header_name : Bool → List ℕ → Found
found_header_name false text = None
found_header_name true text = header_name_over (header_name_length text) (string_length text)

-- a token with this spelling, if there is a kind for it
abbrev pub found_spelling : Option TokenKind → List ℕ → Found
found_spelling None spelling = None
found_spelling (Some kind) spelling = Some (kind, length spelling)

-- the punctuator that is spelled by the first bytes, so many of them
abbrev pub found_punctuator_of : ℕ → List ℕ → Found
found_punctuator_of count text = found_spelling (punctuator_of (take count text)) (take count text)

-- the longest one; none has more than four bytes
abbrev pub found_punctuator : List ℕ → Found
found_punctuator text =
    or_else (found_punctuator_of 4 text)
    (or_else (found_punctuator_of 3 text)
    (or_else (found_punctuator_of 2 text) (found_punctuator_of 1 text)))

-- the first byte by itself, if it can be a token
abbrev pub found_stray : List ℕ → Found
found_stray [] = None
found_stray (b ∷ text) = found_where (is_stray_byte b) Stray 1

-- a number has its first byte before those that go on with it
abbrev pub found_number : List ℕ → Found
found_number [] = None
found_number (b ∷ text) = found_where (begins_number (b ∷ text)) Number (suc (number_tail_length false 0 text))

-- a literal with a prefix goes before the identifier that the prefix would be, a number before the dot that it may begin with
abbrev pub found_token : Bool → List ℕ → Found
found_token allowed text =
    or_else (found_header_name allowed text)
    (or_else (found_of String (string_length text))
    (or_else (found_of Character (character_length text))
    (or_else (found_where (begins_identifier text) Identifier (word_length text))
    (or_else (found_number text)
    (or_else (found_punctuator text) (found_stray text))))))

-- nothing is found at a quotation mark that opens no literal, and there alone
abbrev pub token_front : Found → Front
token_front None = AtOpenLiteral
token_front (Some found) = AtToken found.0 found.1

-- what stands at the front of a text of bytes
unfoldable pub front_of : (header_names_allowed : Bool) → List ℕ → Front
front_of allowed [] = AtEnd
front_of allowed (b ∷ text) =
    if b == new_line then AtNewLine
    else (if is_blank b then AtBlank
    else (if begins_line_comment (b ∷ text) then AtComment (line_length (b ∷ text))
    else (if begins_block_comment (b ∷ text) then block_front (block_tail_length false (drop 2 (b ∷ text)))
    else token_front (found_token allowed (b ∷ text)))))
