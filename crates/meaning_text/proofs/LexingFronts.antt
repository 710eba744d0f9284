-- What the front of a text is, and that it is found.
use Rattle.std.proofs.Common.{◌≡◌, ℕ, ◌+◌, ◌-◌, ◌<◌, ◌≤◌, Bool, true, false, ◌==◌, ◌&&◌, List, [], ◌∷◌, ◌++◌, length, take, drop, Option, Some, None, ◌⊎◌, inl, inr, ⊎_elim, refl, sym, ap, ◌∙◌, subst, arith}
use Rattle.std.proofs.lemmas.Bool.{cases_Bool, cases_order, both_ways, and_parts, and_right, or_parts, or_from}
use Rattle.std.proofs.lemmas.Bool.Decides.{nat_tests}
use Rattle.std.proofs.lemmas.List.{take_at, length-append}
use Rattle.std.proofs.Math.Seq.{take-append-add}
use Rattle.meaning_text.specs.Bytes.{new_line, star, slash, is_blank, is_white, is_quotation_mark}
use Rattle.meaning_text.specs.Comments.{begins_slash_and, begins_comment, begins_block_comment, begins_line_comment, is_block_comment, is_line_comment, is_line_end}
use Rattle.vocabulary.specs.declared.token_kind.TokenKind.{TokenKind}
use Rattle.meaning_text.specs.Kinds.{kind_in}
use Rattle.meaning_text.specs.Fronts.{Front, AtEnd, AtNewLine, AtBlank, AtComment, AtToken, AtOpenComment, AtOpenLiteral, line_length, block_tail_length, block_front, Found, found_token, token_front, front_of}
use Rattle.meaning_text.specs.Tokens.{IsLongest}
use Rattle.meaning_text.proofs.FrontFacts.{IsLongestFront, found_token-IsLongestFront, found_token-none, kind_in-nil, kind_in-white, block_comment-found, block_comment-only, block_comment-none, line_comment-found, line_comment-only}

-- so many bytes at the front are a comment
pub record IsCommentFront (text : List ℕ) (count : ℕ) : Type 0 where
  pub some : 0 < count
  pub within : count ≤ length text
  pub comment :
      ((is_line_comment (take count text) ≡ true) × (is_line_end (drop count text) ≡ true)) ⊎ (is_block_comment (take count text) ≡ true)

-- what such a front means of the text that begins with this byte
abbrev pub IsFront : Bool → ℕ → List ℕ → Front → Type 0
IsFront allowed b text AtEnd = ⊥
IsFront allowed b text AtNewLine = (b == new_line) ≡ true
IsFront allowed b text AtBlank = ((b == new_line) ≡ false) × (is_blank b ≡ true)
IsFront allowed b text (AtComment count) = IsCommentFront (b ∷ text) count
IsFront allowed b text (AtToken kind count) = (begins_comment (b ∷ text) ≡ false) × IsLongestFront allowed (b ∷ text) kind count
IsFront allowed b text AtOpenComment =
    (begins_block_comment (b ∷ text) ≡ true) × ((k : ℕ) → is_block_comment (take k (b ∷ text)) ≡ false)
IsFront allowed b text AtOpenLiteral =
    (is_quotation_mark b ≡ true) × ((k : ℕ) → kind_in allowed (take k (b ∷ text)) ≡ None)

-- Which way the function takes

pub front_of-new_line : (allowed : Bool) (b : ℕ) (text : List ℕ) → (b == new_line) ≡ true → front_of allowed (b ∷ text) ≡ AtNewLine
unfolding front_of
front_of-new_line allowed b text new = rw new refl

pub front_of-blank : (allowed : Bool) (b : ℕ) (text : List ℕ) → (b == new_line) ≡ false → is_blank b ≡ true → front_of allowed (b ∷ text) ≡ AtBlank
unfolding front_of
front_of-blank allowed b text same blank = rw (same, blank) refl

front_of-line_comment :
    (allowed : Bool) (b : ℕ) (text : List ℕ) → is_white b ≡ false → begins_line_comment (b ∷ text) ≡ true →
    front_of allowed (b ∷ text) ≡ AtComment (line_length (b ∷ text))
unfolding front_of
front_of-line_comment allowed b text black line =
    let parts = or_parts (is_blank b) (b == new_line) black in
    rw (parts.1, parts.0, line) refl

front_of-block_comment :
    (allowed : Bool) (b : ℕ) (text : List ℕ) → is_white b ≡ false → begins_line_comment (b ∷ text) ≡ false →
    begins_block_comment (b ∷ text) ≡ true →
    front_of allowed (b ∷ text) ≡ block_front (block_tail_length false (drop 2 (b ∷ text)))
unfolding front_of
front_of-block_comment allowed b text black line block =
    let parts = or_parts (is_blank b) (b == new_line) black in
    rw (parts.1, parts.0, line, block) refl

front_of-token :
    (allowed : Bool) (b : ℕ) (text : List ℕ) → is_white b ≡ false → begins_comment (b ∷ text) ≡ false →
    front_of allowed (b ∷ text) ≡ token_front (found_token allowed (b ∷ text))
unfolding front_of
front_of-token allowed b text black none =
    let parts = or_parts (is_blank b) (b == new_line) black in
    let comments = or_parts (begins_block_comment (b ∷ text)) (begins_line_comment (b ∷ text)) none in
    rw (parts.1, parts.0, comments.1, comments.0) refl

-- What is found is so

line_comment-IsFront :
    (allowed : Bool) (b : ℕ) (text : List ℕ) → begins_line_comment (b ∷ text) ≡ true → IsFront allowed b text (AtComment (line_length (b ∷ text)))
line_comment-IsFront allowed b text line =
    let found = line_comment-found (b ∷ text) line in
    record { some = found.0; within = found.1; comment = inl (found.2, found.3) }

block_front-IsFront :
    (allowed : Bool) (b : ℕ) (text : List ℕ) (found : Option ℕ) → begins_block_comment (b ∷ text) ≡ true →
    block_tail_length false (drop 2 (b ∷ text)) ≡ found → IsFront allowed b text (block_front found)
block_front-IsFront allowed b text None block is = (block, block_comment-none (b ∷ text) is)
block_front-IsFront allowed b text (Some count) block is =
    let found = block_comment-found (b ∷ text) count block is in
    record { some = omega arith; within = found.0; comment = inr found.1 }

token_front-IsFront :
    (allowed : Bool) (b : ℕ) (text : List ℕ) (found : Found) → is_white b ≡ false → begins_comment (b ∷ text) ≡ false →
    found_token allowed (b ∷ text) ≡ found → IsFront allowed b text (token_front found)
token_front-IsFront allowed b text None black none is = found_token-none allowed b text black is
token_front-IsFront allowed b text (Some found) black none is =
    (none, found_token-IsLongestFront allowed (b ∷ text) found.0 found.1 is)

front_of-IsFront_black : (allowed : Bool) (b : ℕ) (text : List ℕ) → is_white b ≡ false → IsFront allowed b text (front_of allowed (b ∷ text))
front_of-IsFront_black allowed b text black =
    ⊎_elim
    (λ line. subst (IsFront allowed b text) (sym (front_of-line_comment allowed b text black line)) (line_comment-IsFront allowed b text line))
    (λ line. ⊎_elim
    (λ block. subst (IsFront allowed b text) (sym (front_of-block_comment allowed b text black line block)) (block_front-IsFront allowed b text _ block refl))
    (λ block.
    let none = or_from _ _ block line in
    subst (IsFront allowed b text) (sym (front_of-token allowed b text black none)) (token_front-IsFront allowed b text _ black none refl))
    (cases_Bool (begins_block_comment (b ∷ text))))
    (cases_Bool (begins_line_comment (b ∷ text)))

pub front_of-IsFront : (allowed : Bool) (b : ℕ) (text : List ℕ) → IsFront allowed b text (front_of allowed (b ∷ text))
front_of-IsFront allowed b text =
    ⊎_elim
    (λ new. subst (IsFront allowed b text) (sym (front_of-new_line allowed b text new)) new)
    (λ same. ⊎_elim
    (λ blank. subst (IsFront allowed b text) (sym (front_of-blank allowed b text same blank)) (same, blank))
    (λ visible. front_of-IsFront_black allowed b text (or_from _ _ visible same))
    (cases_Bool (is_blank b)))
    (cases_Bool (b == new_line))

-- And what is so is found

slash_first : (second b : ℕ) (text : List ℕ) → begins_slash_and second (b ∷ text) ≡ true → (b == slash) ≡ true
slash_first second b [] begins = cc
slash_first second b (c ∷ text) begins = (and_parts (b == slash) (c == second) begins).0

slash_then : (second b c : ℕ) (text : List ℕ) → begins_slash_and second (b ∷ c ∷ text) ≡ true → (c == second) ≡ true
slash_then second b c text begins = (and_parts (b == slash) (c == second) begins).1

is_white-slash : (b : ℕ) → (b == slash) ≡ true → is_white b ≡ false
is_white-slash b is = grind (arith, nat_tests)

-- a comment is of one kind alone
line_comment-block : (b : ℕ) (text : List ℕ) → begins_block_comment (b ∷ text) ≡ true → begins_line_comment (b ∷ text) ≡ false
line_comment-block b [] block = refl
line_comment-block b (c ∷ text) block =
    let second : (c == star) ≡ true = slash_then star b c text block in
    let other : (c == slash) ≡ false = grind (arith, nat_tests) in
    and_right (b == slash) (c == slash) other

pub front_of-only_line_comment :
    (allowed : Bool) (text rest : List ℕ) → is_line_comment text ≡ true → is_line_end rest ≡ true → front_of allowed (text ++ rest) ≡ AtComment (length text)
front_of-only_line_comment allowed [] rest is ends = cc
front_of-only_line_comment allowed (b ∷ text) rest is ends =
    let only = line_comment-only (b ∷ text) rest is ends in
    front_of-line_comment allowed b (text ++ rest) (is_white-slash b (slash_first slash b (text ++ rest) only.1)) only.1 ∙ ap AtComment only.2

-- the comment opens here and has this tail, or none
only_block_front :
    (allowed : Bool) (b : ℕ) (text : List ℕ) (found : Option ℕ) → begins_block_comment (b ∷ text) ≡ true → block_tail_length false (drop 2 (b ∷ text)) ≡ found →
    front_of allowed (b ∷ text) ≡ block_front found
only_block_front allowed b text found block is =
    front_of-block_comment allowed b text (is_white-slash b (slash_first star b text block)) (line_comment-block b text block) block ∙ ap block_front is

pub front_of-only_block_comment :
    (allowed : Bool) (text rest : List ℕ) → is_block_comment text ≡ true → front_of allowed (text ++ rest) ≡ AtComment (length text)
front_of-only_block_comment allowed [] rest is = cc
front_of-only_block_comment allowed (b ∷ text) rest is =
    let only = block_comment-only (b ∷ text) rest is in
    let long : 2 + (length (b ∷ text) - 2) ≡ length (b ∷ text) = omega (arith, only.0) in
    only_block_front allowed b (text ++ rest) _ only.1 only.2 ∙ ap AtComment long

open_block_front :
    (text : List ℕ) (found : Option ℕ) → begins_block_comment text ≡ true → ((k : ℕ) → is_block_comment (take k text) ≡ false) →
    block_tail_length false (drop 2 text) ≡ found → block_front found ≡ AtOpenComment
open_block_front text None block none is = refl
open_block_front text (Some count) block none is =
    absurd (both_ways _ (none (2 + count)) (block_comment-found text count block is).1)

pub front_of-open_comment :
    (allowed : Bool) (b : ℕ) (text : List ℕ) → begins_block_comment (b ∷ text) ≡ true → ((k : ℕ) → is_block_comment (take k (b ∷ text)) ≡ false) →
    front_of allowed (b ∷ text) ≡ AtOpenComment
front_of-open_comment allowed b text block none =
    only_block_front allowed b text _ block refl ∙ open_block_front (b ∷ text) _ block none refl

-- a quotation mark is neither white space nor the beginning of a comment
is_white-quotation_mark : (b : ℕ) → is_quotation_mark b ≡ true → is_white b ≡ false
is_white-quotation_mark b quote = grind (arith, nat_tests)

begins_slash_and-quotation_mark : (second b : ℕ) (text : List ℕ) → is_quotation_mark b ≡ true → begins_slash_and second (b ∷ text) ≡ false
begins_slash_and-quotation_mark second b [] quote = refl
begins_slash_and-quotation_mark second b (c ∷ text) quote =
    let other : (b == slash) ≡ false = grind (arith, nat_tests) in
    ap (λ x. x && (c == second)) other

open_literal_front :
    (allowed : Bool) (text : List ℕ) (found : Found) → ((k : ℕ) → kind_in allowed (take k text) ≡ None) →
    found_token allowed text ≡ found → token_front found ≡ AtOpenLiteral
open_literal_front allowed text None none is = refl
open_literal_front allowed text (Some found) none is =
    let kind = (found_token-IsLongestFront allowed text found.0 found.1 is).is_kind in
    let no_kind = none found.1 in cc

pub front_of-open_literal :
    (allowed : Bool) (b : ℕ) (text : List ℕ) → is_quotation_mark b ≡ true → ((k : ℕ) → kind_in allowed (take k (b ∷ text)) ≡ None) →
    front_of allowed (b ∷ text) ≡ AtOpenLiteral
front_of-open_literal allowed b text quote none =
    front_of-token allowed b text (is_white-quotation_mark b quote)
    (or_from _ _ (begins_slash_and-quotation_mark star b text quote) (begins_slash_and-quotation_mark slash b text quote))
    ∙ open_literal_front allowed (b ∷ text) _ none refl

-- Tokens

-- a longest front, where it is cut from what follows
pub IsLongestFront-IsLongest :
    (allowed : Bool) (spelled rest : List ℕ) (kind : TokenKind) → IsLongestFront allowed (spelled ++ rest) kind (length spelled) →
    (kind_in allowed spelled ≡ Some kind) × IsLongest allowed spelled rest
IsLongestFront-IsLongest allowed spelled rest kind front = (
  ap (kind_in allowed) (sym (take_at spelled rest (length spelled) refl)) ∙ front.is_kind,
  λ k some within.
      ap (kind_in allowed) (sym (take-append-add spelled rest k))
      ∙ front.longest (length spelled + k) (omega arith) (omega (arith, length-append spelled rest)),
)

-- no front of another length is the longest
only_count :
    (allowed : Bool) (spelled rest : List ℕ) (kind other : TokenKind) (count : ℕ) → kind_in allowed spelled ≡ Some kind → IsLongest allowed spelled rest →
    IsLongestFront allowed (spelled ++ rest) other count → count ≡ length spelled
only_count allowed spelled rest kind other count is longest front =
    ⊎_elim
    (λ same. same)
    (λ differ. ⊎_elim
    (λ shorter.
    let none = front.longest (length spelled) shorter (omega (arith, length-append spelled rest)) in
    let whole = take_at spelled rest (length spelled) refl in
    absurd (cc))
    (λ longer.
    let none = longest (count - length spelled) (omega arith) (omega (arith, length-append spelled rest, front.within)) in
    let is_kind = front.is_kind in
    let taken = take-append-add spelled rest (count - length spelled) in
    let sum : length spelled + (count - length spelled) ≡ count = omega arith in
    absurd (cc))
    differ)
    (cases_order count (length spelled))

only_token :
    (allowed : Bool) (b : ℕ) (spelled rest : List ℕ) (kind : TokenKind) (found : Found) → is_white b ≡ false → kind_in allowed (b ∷ spelled) ≡ Some kind →
    IsLongest allowed (b ∷ spelled) rest → found_token allowed (b ∷ spelled ++ rest) ≡ found →
    token_front found ≡ AtToken kind (length (b ∷ spelled))
only_token allowed b spelled rest kind None black is longest found =
    let none = (found_token-none allowed b (spelled ++ rest) black found).1 (length (b ∷ spelled)) in
    let whole = take_at (b ∷ spelled) rest (length (b ∷ spelled)) refl in
    absurd (cc)
only_token allowed b spelled rest kind (Some other) black is longest found =
    let front = found_token-IsLongestFront allowed (b ∷ spelled ++ rest) other.0 other.1 found in
    let same = only_count allowed (b ∷ spelled) rest kind other.0 other.1 is longest front in
    let other_is = front.is_kind in
    let whole = take_at (b ∷ spelled) rest other.1 (sym same) in
    cc

pub front_of-only_token :
    (allowed : Bool) (spelled rest : List ℕ) (kind : TokenKind) → begins_comment (spelled ++ rest) ≡ false → kind_in allowed spelled ≡ Some kind →
    IsLongest allowed spelled rest → front_of allowed (spelled ++ rest) ≡ AtToken kind (length spelled)
front_of-only_token allowed [] rest kind none is longest =
    let empty = kind_in-nil allowed in cc
front_of-only_token allowed (b ∷ spelled) rest kind none is longest =
    let black : is_white b ≡ false = ⊎_elim (λ white. let no_kind = kind_in-white allowed b spelled white in cc) (λ is_black. is_black) (cases_Bool (is_white b)) in
    front_of-token allowed b (spelled ++ rest) black none ∙ only_token allowed b spelled rest kind _ black is longest refl
