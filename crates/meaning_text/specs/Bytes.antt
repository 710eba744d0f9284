-- The bytes that the tokens of C11 tell apart. A character is a byte.
use Rattle.std.specs.Prelude.{ℕ, Bool, ◌==◌, ◌||◌}
use Rattle.std.specs.Char.{is_ascii_alphabetic, is_ascii_digit}

-- the byte of a horizontal tab
abbrev pub tab : ℕ
tab = 9

-- the byte of a new-line
abbrev pub new_line : ℕ
new_line = 10

-- the byte of a vertical tab
abbrev pub vertical_tab : ℕ
vertical_tab = 11

-- the byte of a form feed
abbrev pub form_feed : ℕ
form_feed = 12

-- the byte of a space
abbrev pub space : ℕ
space = 32

-- the byte of `"`
abbrev pub double_quote : ℕ
double_quote = 34

-- the byte of `'`
abbrev pub single_quote : ℕ
single_quote = 39

-- the byte of `*`
abbrev pub star : ℕ
star = 42

-- the byte of `+`
abbrev pub plus : ℕ
plus = 43

-- the byte of `-`
abbrev pub minus : ℕ
minus = 45

-- the byte of `.`
abbrev pub dot : ℕ
dot = 46

-- the byte of `/`
abbrev pub slash : ℕ
slash = 47

-- the byte of `8`
abbrev pub digit_8 : ℕ
digit_8 = 56

-- the byte of `<`
abbrev pub less : ℕ
less = 60

-- the byte of `>`
abbrev pub greater : ℕ
greater = 62

-- the byte of `E`
abbrev pub upper_e : ℕ
upper_e = 69

-- the byte of `L`
abbrev pub upper_l : ℕ
upper_l = 76

-- the byte of `P`
abbrev pub upper_p : ℕ
upper_p = 80

-- the byte of `U`
abbrev pub upper_u : ℕ
upper_u = 85

-- the byte of `\`
abbrev pub backslash : ℕ
backslash = 92

-- the byte of `_`
abbrev pub underscore : ℕ
underscore = 95

-- the byte of `e`
abbrev pub lower_e : ℕ
lower_e = 101

-- the byte of `p`
abbrev pub lower_p : ℕ
lower_p = 112

-- the byte of `u`
abbrev pub lower_u : ℕ
lower_u = 117

-- white space inside a line (C11 6.4 p3)
abbrev pub is_blank : ℕ → Bool
is_blank b = b == space || b == tab || b == vertical_tab || b == form_feed

-- white space between tokens (6.4 p3)
abbrev pub is_white : ℕ → Bool
is_white b = is_blank b || b == new_line

-- a letter or an underscore, with which an identifier begins (6.4.2.1)
abbrev pub is_nondigit : ℕ → Bool
is_nondigit b = is_ascii_alphabetic b || b == underscore

-- a byte of identifiers and numbers (6.4.2.1, 6.4.8)
abbrev pub is_word_byte : ℕ → Bool
is_word_byte b = is_nondigit b || is_ascii_digit b

-- the letters behind which a sign goes on with a number (6.4.8)
abbrev pub is_exponent : ℕ → Bool
is_exponent b = b == lower_e || b == upper_e || b == lower_p || b == upper_p

-- the signs that may stand in a number (6.4.8)
abbrev pub is_sign : ℕ → Bool
is_sign b = b == plus || b == minus

-- what a character constant or a string literal opens with (6.4.4.4, 6.4.5)
abbrev pub is_quotation_mark : ℕ → Bool
is_quotation_mark b = b == single_quote || b == double_quote

-- a prefix of character constants and string literals that is one letter (6.4.4.4, 6.4.5)
abbrev pub is_prefix_letter : ℕ → Bool
is_prefix_letter b = b == upper_l || b == lower_u || b == upper_u
