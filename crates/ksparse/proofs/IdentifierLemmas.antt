-- The digits of universal character names.
use Rattle.std.proofs.Common.{◌≡◌, ℕ, zero, suc, ◌<◌, ◌-◌, ◌&&◌, true, false, List, ◌∷◌, sym, ◌∙◌, ap, arith}
use Rattle.std.specs.Char.{is_ascii_hexdigit}
use Rattle.meaning_text.specs.Words.{begins_hexadecimal}

-- one digit more
pub hexadecimal_behind :
    (wanted : ℕ) (left others : List ℕ) (b : ℕ) → left ≡ b ∷ others → 0 < wanted → is_ascii_hexdigit b ≡ true
    → begins_hexadecimal (wanted - 1) others ≡ begins_hexadecimal wanted left
hexadecimal_behind zero left others b front some digit = absurd (omega arith)
hexadecimal_behind (suc wanted) left others b front some digit =
    let fewer : suc wanted - 1 ≡ wanted = omega arith in
    ap (λ n. begins_hexadecimal n others) fewer ∙ ap (λ is_digit. is_digit && begins_hexadecimal wanted others) (sym digit)
    ∙ ap (begins_hexadecimal (suc wanted)) (sym front)

-- another byte
pub no_digit :
    (wanted : ℕ) (left others : List ℕ) (b : ℕ) → left ≡ b ∷ others → 0 < wanted → is_ascii_hexdigit b ≡ false → begins_hexadecimal wanted left ≡ false
no_digit zero left others b front some digit = absurd (omega arith)
no_digit (suc wanted) left others b front some digit =
    ap (begins_hexadecimal (suc wanted)) front ∙ ap (λ is_digit. is_digit && begins_hexadecimal wanted others) digit
