-- The lengths of comments are those of the fronts that are comments.
use Rattle.std.proofs.Common.{◌≡◌, ℕ, suc, ◌+◌, ◌-◌, ◌<◌, ◌≤◌, Bool, true, false, not, ◌&&◌, ◌==◌, List, [], ◌∷◌, ◌++◌, length, take, drop, Some, None, refl, sym, ap, ◌∙◌, subst, inl, inr, true≢false, arith, take-append-drop}
use Rattle.std.specs.List.{list_all}
use Rattle.std.proofs.lemmas.Bool.{cases_Bool, cond-true, cond-false, and_parts, and_from, not-true, not_from_false}
use Rattle.std.proofs.lemmas.Bool.Decides.{nat_tests}
use Rattle.std.proofs.lemmas.Option.{none-some}
use Rattle.meaning_text.specs.Bytes.{new_line, star, slash}
use Rattle.meaning_text.specs.Comments.{begins_block_comment, begins_line_comment, is_block_comment, is_line_comment, is_line_end, ends_block}
use Rattle.meaning_text.specs.Fronts.{line_length, block_tail_length}
use Rattle.meaning_text.proofs.Scans.{MeasuresFronts, scan_measures}

-- From `/*` to `*/`

-- what is found behind `/*` is what ends a comment
block_tail_measures : (behind_star : Bool) → MeasuresFronts (block_tail_length behind_star) (ends_block behind_star)
block_tail_measures =
    scan_measures (λ b. false) (λ behind_star b. b == slash && behind_star) (λ behind_star b. b == star)
    block_tail_length ends_block (λ behind_star. refl) (λ behind_star b text. refl) (λ behind_star. refl) (λ behind_star b text. refl)

-- where a comment is closed, its front is a comment
pub block_comment-found :
    (text : List ℕ) (count : ℕ) → begins_block_comment text ≡ true → block_tail_length false (drop 2 text) ≡ Some count →
    (2 + count ≤ length text) × (is_block_comment (take (2 + count) text) ≡ true)
block_comment-found [] count begins found = absurd (true≢false (sym begins))
block_comment-found (b ∷ []) count begins found = absurd (true≢false (sym begins))
block_comment-found (b ∷ c ∷ text) count begins found =
    let tail = (block_tail_measures false).passes text count found in
    let two : suc (suc count) ≡ 2 + count = omega arith in
    (omega (arith, tail.within), subst (λ (n : ℕ). is_block_comment (take n (b ∷ c ∷ text)) ≡ true) two (and_from _ _ begins tail.is_one))

-- a front that is a comment is found
pub block_comment-only :
    (text rest : List ℕ) → is_block_comment text ≡ true →
    (2 ≤ length text) × (begins_block_comment (text ++ rest) ≡ true) × (block_tail_length false (drop 2 (text ++ rest)) ≡ Some (length text - 2))
block_comment-only [] rest is = absurd (true≢false (sym is))
block_comment-only (b ∷ []) rest is = absurd (true≢false (sym is))
block_comment-only (b ∷ c ∷ text) rest is =
    let parts = and_parts (begins_block_comment (b ∷ c ∷ text)) (ends_block false text) is in
    let behind : length text ≡ length (b ∷ c ∷ text) - 2 = omega arith in
    (omega arith, parts.0, (block_tail_measures false).finds text rest parts.1 ∙ ap Some behind)

-- where none is closed, no front is a comment
pub block_comment-none : (text : List ℕ) → block_tail_length false (drop 2 text) ≡ None → (k : ℕ) → is_block_comment (take k text) ≡ false
block_comment-none text none k =
    elim (cases_Bool (is_block_comment (take k text))) [
      | inl is ↦
          let only = block_comment-only (take k text) (drop k text) is in
          absurd (none-some _ (sym none ∙ ap (λ (t : List ℕ). block_tail_length false (drop 2 t)) (sym (take-append-drop k text)) ∙ only.2))
      | inr none_here ↦ none_here
    ]

-- From `//` to the end of the line

-- a byte of the line counts
line_length-more : (b : ℕ) (text : List ℕ) → (b == new_line) ≡ false → line_length (b ∷ text) ≡ suc (line_length text)
line_length-more b text inside = cond-false (b == new_line) 0 (suc (line_length text)) inside

-- a new-line ends it
line_length-none : (b : ℕ) (text : List ℕ) → (b == new_line) ≡ true → line_length (b ∷ text) ≡ 0
line_length-none b text ends = cond-true (b == new_line) 0 (suc (line_length text)) ends

-- these bytes are in one line
abbrev is_in_line : List ℕ → Bool
is_in_line text = list_all (λ b. not (b == new_line)) text

-- what is found of a line is its bytes up to its end
record IsLine (text : List ℕ) (count : ℕ) : Type 0 where
  within : count ≤ length text
  in_line : is_in_line (take count text) ≡ true
  ends : is_line_end (drop count text) ≡ true

-- so is what the length tells
line_length-IsLine : (text : List ℕ) → IsLine text (line_length text)
line_length-IsLine [] = record { within = omega arith; in_line = refl; ends = refl }
line_length-IsLine (b ∷ text) =
    elim (cases_Bool (b == new_line)) [
      | inl ends ↦ subst (IsLine (b ∷ text)) (sym (line_length-none b text ends)) (record { within = omega arith; in_line = refl; ends = ends })
      | inr inside ↦
          let behind = line_length-IsLine text in
          subst (IsLine (b ∷ text)) (sym (line_length-more b text inside))
          (record { within = omega (arith, behind.within); in_line = and_from _ _ (not_from_false _ inside) behind.in_line; ends = behind.ends })
    ]

-- a line ends where its bytes end
line_length-append : (text rest : List ℕ) → is_in_line text ≡ true → is_line_end rest ≡ true → line_length (text ++ rest) ≡ length text
line_length-append [] [] in_line ends = refl
line_length-append [] (b ∷ rest) in_line ends = line_length-none b rest ends
line_length-append (b ∷ text) rest in_line ends =
    let parts = and_parts (not (b == new_line)) (is_in_line text) in_line in
    line_length-more b (text ++ rest) (not-true _ parts.0) ∙ ap suc (line_length-append text rest parts.1 ends)

-- a slash is no new-line
no_new_line-slash : (b : ℕ) → (b == slash) ≡ true → (b == new_line) ≡ false
no_new_line-slash b is = grind (arith, nat_tests)

-- where a comment begins, its line is one
pub line_comment-found :
    (text : List ℕ) → begins_line_comment text ≡ true →
    (0 < line_length text) × (line_length text ≤ length text)
    × (is_line_comment (take (line_length text) text) ≡ true) × (is_line_end (drop (line_length text) text) ≡ true)
line_comment-found [] begins = absurd (true≢false (sym begins))
line_comment-found (b ∷ []) begins = absurd (true≢false (sym begins))
line_comment-found (b ∷ c ∷ text) begins =
    let slashes = and_parts (b == slash) (c == slash) begins in
    let first = line_length-more b (c ∷ text) (no_new_line-slash b slashes.0) in
    let second = line_length-more c text (no_new_line-slash c slashes.1) in
    let line = line_length-IsLine (b ∷ c ∷ text) in
    let BeginsComment : ℕ → Type 0 = λ count. begins_line_comment (take count (b ∷ c ∷ text)) ≡ true in
    (omega (arith, first), line.within, and_from _ _ (subst BeginsComment (sym (first ∙ ap suc second)) begins) line.in_line, line.ends)

-- a front that is a comment is found, where its line ends behind it
pub line_comment-only :
    (text rest : List ℕ) → is_line_comment text ≡ true → is_line_end rest ≡ true →
    (0 < length text) × (begins_line_comment (text ++ rest) ≡ true) × (line_length (text ++ rest) ≡ length text)
line_comment-only [] rest is ends = absurd (true≢false (sym is))
line_comment-only (b ∷ []) rest is ends = absurd (true≢false (sym is))
line_comment-only (b ∷ c ∷ text) rest is ends =
    let parts = and_parts (begins_line_comment (b ∷ c ∷ text)) (is_in_line (b ∷ c ∷ text)) is in
    (omega arith, parts.0, line_length-append (b ∷ c ∷ text) rest parts.1 ends)
