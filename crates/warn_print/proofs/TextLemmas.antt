-- Texts that grow by parts.
use Rattle.std.proofs.Common.{◌≡◌, ℕ, List, ◌++◌, codes, true, false, Option, refl, append_assoc}
use Rattle.meaning_types.specs.Types.{TypeTree}
use Rattle.meaning_warnings.specs.Places.{ShownUnit}
use Rattle.meaning_warnings.specs.Warnings.{cast_text, is_restricted_type, of_type, restricted_name}
use Rattle.meaning_types.specs.Spelling.{space_mark, space_spelling}
use Rattle.sparse_model.specs.declared.space.Space.{Space}
use Rattle.sparse_model.specs.declared.space.Space.TheVariants as spaces
use Rattle.c_types.specs.Table.{space_of}
use Rattle.warn_print.specs.Seen.{named_space}

-- a space has a mark where there is one
pub space_mark-some :
    (names : List (List ℕ)) (space : Space) → (space ≡ spaces.None → ⊥)
    → space_mark (named_space names (space_of space)) ≡ codes " address_space(" ++ space_spelling (named_space names (space_of space)) ++ codes ")"
space_mark-some names spaces.None some = absurd (some refl)
space_mark-some names (spaces.Number number) some = refl
space_mark-some names (spaces.Named id) some = refl

-- a text to which three parts were appended
pub appended_thrice : (text first second third a b c : List ℕ) → first ≡ text ++ a → second ≡ first ++ b → third ≡ second ++ c → third ≡ text ++ (a ++ b ++ c)
appended_thrice text first second third a b c is_first is_second is_third =
    rw (is_third, is_second, is_first) (simp append_assoc)

-- and five
pub appended_five :
    (text first second third fourth fifth a b c d e : List ℕ) → first ≡ text ++ a → second ≡ first ++ b → third ≡ second ++ c → fourth ≡ third ++ d
    → fifth ≡ fourth ++ e → fifth ≡ text ++ (a ++ b ++ c ++ d ++ e)
appended_five text first second third fourth fifth a b c d e is_first is_second is_third is_fourth is_fifth =
    rw (is_fifth, is_fourth, is_third, is_second, is_first) (simp append_assoc)

-- two numbers behind the last of four texts
pub counted :
    (text first second k n m w a i b p : List ℕ) → first ≡ text ++ (k ++ n ++ m ++ w) → second ≡ first ++ a ++ i ++ b ++ p
    → second ≡ text ++ (k ++ n ++ m ++ (w ++ a ++ i ++ b ++ p))
counted text first second k n m w a i b p is_first is_second = rw (is_second, is_first) (simp append_assoc)

pub appended_twice : (text first second a b : List ℕ) → first ≡ text ++ a → second ≡ first ++ b → second ≡ text ++ (a ++ b)
appended_twice text first second a b is_first is_second = rw (is_second, is_first) (simp append_assoc)

-- two numbers behind a text
pub counted_behind :
    (text first second w a i b p : List ℕ) → first ≡ text ++ w → second ≡ first ++ a ++ i ++ b ++ p → second ≡ text ++ (w ++ a ++ i ++ b ++ p)
counted_behind text first second w a i b p is_first is_second = rw (is_second, is_first) (simp append_assoc)
