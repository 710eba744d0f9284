-- How the front of a text is seen.
use Rattle.std.specs.Prelude.{ℕ, Bool, not, ◌==◌, ◌&&◌, ◌||◌, length, get_or, nat_lt}
use Rattle.std.specs.List.{list_all}
use Rattle.meaning_text.specs.Bytes.{double_quote, single_quote, less, dot, backslash, is_word_byte}
use Rattle.meaning_text.specs.Punctuators.{PunctuatorRow, punctuators}
use Rattle.meaning_text.specs.Fronts as fronts
use Rattle.c_tokens.specs.declared.front.Front.{Front}
use Rattle.c_tokens.specs.declared.front.Front.TheVariants.{End, NewLine, Blank, Comment, Token, OpenComment, OpenLiteral}

abbrev pub front_seen : Front → fronts.Front
front_seen End = fronts.AtEnd
front_seen NewLine = fronts.AtNewLine
front_seen Blank = fronts.AtBlank
front_seen (Comment count) = fronts.AtComment count
front_seen (Token kind count) = fronts.AtToken kind count
front_seen OpenComment = fronts.AtOpenComment
front_seen OpenLiteral = fronts.AtOpenLiteral

-- no token but a punctuator or a byte by itself begins with the byte
abbrev pub opens_mark : ℕ → Bool
opens_mark b = not (is_word_byte b) && not (b == double_quote || b == single_quote || b == less || b == dot || b == backslash)

-- each punctuator that begins with the byte has fewer bytes than this
abbrev pub are_shorter : ℕ → ℕ → Bool
are_shorter count b = list_all (λ (row : PunctuatorRow). nat_lt (length row.spelling) count || not (get_or row.spelling 0 0 == b)) punctuators
