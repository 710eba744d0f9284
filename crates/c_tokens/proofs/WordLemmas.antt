-- What the next bytes say of identifiers and numbers.
use Rattle.std.proofs.Common.{◌≡◌, ◌==◌, ℕ, zero, suc, pred, nat_lt, ◌+◌, ◌-◌, ◌<◌, ◌≤◌, Bool, true, false, not, ◌&&◌, ◌||◌, if◌then◌else◌, List, [], ◌∷◌, length, drop, get_or, refl, sym, ap, ◌∙◌, ⊎_elim, arith}
use Rattle.std.proofs.lemmas.Bool.{cases_Bool, eqb-true, true≢false}
use Rattle.meaning_text.specs.Places.{At, behind_byte}
use Rattle.meaning_text.specs.Logical.{bytes_of, logical_from}
use Rattle.meaning_text.specs.Fronts.{word_length}
use Rattle.c_tokens.specs.Remaining.{plain_word_length, begins_splice}
use Rattle.c_tokens.proofs.RemainingLemmas.{logical_from-byte}
use Rattle.std.proofs.lemmas.Bool.Decides.{nat_tests}
use Rattle.std.specs.Char.{is_ascii_hexdigit}
use Rattle.meaning_text.specs.Bytes.{new_line, backslash, is_word_byte}
use Rattle.meaning_text.specs.Words.{begins_hexadecimal, universal_length, universal_left, word_goes_on, begins_universal}

-- one digit more
pub begins_hexadecimal-step :
    (left : ℕ) (text : List ℕ) → 0 < left → is_ascii_hexdigit (get_or text 0 new_line) ≡ true →
    begins_hexadecimal (left - 1) (drop 1 text) ≡ begins_hexadecimal left text
begins_hexadecimal-step zero text some digit = absurd (omega arith)
begins_hexadecimal-step (suc left) [] some digit = absurd (grind (arith, digit))
begins_hexadecimal-step (suc left) (b ∷ text) some digit =
    let fewer : suc left - 1 ≡ left = omega arith in
    ap (λ n. begins_hexadecimal n text) fewer ∙ ap (λ is_digit. is_digit && begins_hexadecimal left text) (sym digit)

-- inside of a universal character name so many bytes are left
pub universal_left-inside : (left count : ℕ) (text : List ℕ) → count ≡ universal_length text → 0 < count → count - 1 ≡ universal_left left text
universal_left-inside left zero text is some = absurd (omega arith)
universal_left-inside left (suc count) text is some =
    let fewer : suc count - 1 ≡ count = omega arith in
    let positive : nat_lt 0 (suc count) ≡ true = grind (arith, nat_tests) in
    fewer ∙ ap (λ some_left. if some_left then pred (suc count) else pred left) (sym positive) ∙ ap (λ n. if nat_lt 0 n then pred n else pred left) is

-- Words that stand side by side

-- one byte of the word more
pub plain_word_length-more :
    (bytes : List ℕ) (count : ℕ) → count < length bytes → is_word_byte (get_or bytes count 0) ≡ true →
    count + 1 + plain_word_length (drop (count + 1) bytes) ≡ count + plain_word_length (drop count bytes)
plain_word_length-more [] count within is = absurd (omega arith)
plain_word_length-more (b ∷ bytes) zero within is =
    let next : suc (plain_word_length bytes) ≡ plain_word_length (b ∷ bytes) = ap (λ (word : Bool). if word then suc (plain_word_length bytes) else 0) (sym is) in
    omega (arith, next)
plain_word_length-more (b ∷ bytes) (suc count) within is =
    let later = plain_word_length-more bytes count (omega arith) is in
    let behind : suc count + 1 ≡ suc (count + 1) = omega arith in
    let same : plain_word_length (drop (suc count + 1) (b ∷ bytes)) ≡ plain_word_length (drop (count + 1) bytes) = ap (λ n. plain_word_length (drop n (b ∷ bytes))) behind in
    let here : plain_word_length (drop (suc count) (b ∷ bytes)) ≡ plain_word_length (drop count bytes) = refl in
    omega (arith, later, same, here)

-- another byte, or none, ends it
pub plain_word_length-other : (bytes : List ℕ) (count : ℕ) → count < length bytes → is_word_byte (get_or bytes count 0) ≡ false → plain_word_length (drop count bytes) ≡ 0
plain_word_length-other [] count within other = absurd (omega arith)
plain_word_length-other (b ∷ bytes) zero within other = ap (λ (word : Bool). if word then suc (plain_word_length bytes) else 0) other
plain_word_length-other (b ∷ bytes) (suc count) within other = plain_word_length-other bytes count (omega arith) other

pub plain_word_length-end : (bytes : List ℕ) (count : ℕ) → length bytes ≤ count → plain_word_length (drop count bytes) ≡ 0
plain_word_length-end [] zero behind = refl
plain_word_length-end [] (suc count) behind = refl
plain_word_length-end (b ∷ bytes) zero behind = absurd (omega arith)
plain_word_length-end (b ∷ bytes) (suc count) behind = plain_word_length-end bytes count (omega arith)

-- a backslash is no byte of a word
word_byte-plain : (b : ℕ) → is_word_byte b ≡ true → (b == backslash) ≡ false
word_byte-plain b is =
    ⊎_elim
    (λ same. absurd (true≢false (sym is ∙ ap is_word_byte (eqb-true b backslash same))))
    (λ other. other)
    (cases_Bool (b == backslash))

-- where neither a byte of a word nor a backslash stands, no word goes on
word_goes_on-other : (b : ℕ) (text : List ℕ) → is_word_byte b ≡ false → (b == backslash) ≡ false → word_goes_on (b ∷ text) ≡ false
word_goes_on-other b [] word other = ap (λ here. here || false) word
word_goes_on-other b (c ∷ text) word other = rw (word, other) refl

-- In front of anything but a backslash the word of the file is that of the logical text.
pub word_length-plain :
    (open_line : Bool) (at : At) (bytes : List ℕ) → (get_or bytes (plain_word_length bytes) 0 == backslash) ≡ false →
    word_length (bytes_of (logical_from open_line at bytes)) ≡ plain_word_length bytes
word_length-plain true at [] other = refl
word_length-plain false at [] other = refl
word_length-plain open_line at (b ∷ bytes) other =
    ⊎_elim
    (λ is.
    let settled = no_splice bytes (word_byte-plain b is) in
    let later = word_length-plain (not (b == new_line)) (behind_byte at b) bytes (ap (λ (word : Bool). get_or (b ∷ bytes) (if word then suc (plain_word_length bytes) else 0) 0 == backslash) (sym is) ∙ other) in
    ap (λ text. word_length (bytes_of text)) (logical_from-byte open_line at b bytes settled)
    ∙ ap (λ (word : Bool). if word || begins_universal (b ∷ rest) then suc (word_length rest) else 0) is
    ∙ ap suc later
    ∙ sym (ap (λ (word : Bool). if word then suc (plain_word_length bytes) else 0) is))
    (λ none.
    let differs : (b == backslash) ≡ false = ap (λ (word : Bool). get_or (b ∷ bytes) (if word then suc (plain_word_length bytes) else 0) 0 == backslash) (sym none) ∙ other in
    ap (λ text. word_length (bytes_of text)) (logical_from-byte open_line at b bytes (no_splice bytes differs))
    ∙ ap (λ (goes_on : Bool). if goes_on then suc (word_length rest) else 0) (word_goes_on-other b rest none differs)
    ∙ sym (ap (λ (word : Bool). if word then suc (plain_word_length bytes) else 0) none))
    (cases_Bool (is_word_byte b))
  where
    rest : List ℕ
    rest = bytes_of (logical_from (not (b == new_line)) (behind_byte at b) bytes)

    no_splice : (more : List ℕ) → (b == backslash) ≡ false → begins_splice (b ∷ more) ≡ false
    no_splice [] differs = refl
    no_splice (c ∷ more) differs = ap (λ here. here && c == new_line) differs
