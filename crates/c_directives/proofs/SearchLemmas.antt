-- The directory of a path, byte by byte.
use Rattle.std.proofs.Common.{◌≡◌, ℕ, ◌+◌, ◌==◌, Bool, true, false, ◌||◌, not, List, [], ◌∷◌, ◌++◌, length, take, if◌then◌else◌, refl, sym, ap, ◌∙◌, arith}
use Rattle.std.specs.List.{list_any}
use Rattle.meaning_text.specs.Bytes.{slash}
use Rattle.meaning_preprocessing.specs.Search.{directory_of, wants_slash}
use Rattle.c_directives.specs.Headers.{end_from}

-- it has a `/`
abbrev has_slash : List ℕ → Bool
has_slash path = list_any (λ c. c == slash) path

-- without one the directory is empty
no_directory : (path : List ℕ) → has_slash path ≡ false → directory_of path ≡ []
no_directory [] none = refl
no_directory (b ∷ path) none = ap (λ any. elim any as (λ _. List ℕ) [ true ↦ b ∷ directory_of path | false ↦ [] ]) none

-- one byte before others
front-slash : (b : ℕ) (path : List ℕ) (any : Bool) → has_slash (b ∷ path) ≡ any → directory_of (b ∷ path) ≡ (if any then b ∷ directory_of path else [])
front-slash b path true is = ap (λ any. elim any as (λ _. List ℕ) [ true ↦ b ∷ directory_of path | false ↦ [] ]) is
front-slash b path false is = ap (λ any. elim any as (λ _. List ℕ) [ true ↦ b ∷ directory_of path | false ↦ [] ]) is

-- where no `/` is left, the end stays; otherwise it is behind the last
end_from-is : (count end : ℕ) (path : List ℕ) → end_from count end path ≡ (if has_slash path then count + length (directory_of path) else end)
end_from-is count end [] = refl
end_from-is count end (b ∷ path) = by (b == slash) (has_slash path) refl refl (end_from-is (count + 1) (count + 1) path) (end_from-is (count + 1) end path)
  where
    by : (here later : Bool) → (b == slash) ≡ here → has_slash path ≡ later
        → end_from (count + 1) (count + 1) path ≡ (if has_slash path then count + 1 + length (directory_of path) else count + 1)
        → end_from (count + 1) end path ≡ (if has_slash path then count + 1 + length (directory_of path) else end)
        → (if here then end_from (count + 1) (count + 1) path else end_from (count + 1) end path)
        ≡ (if here || later then count + length (directory_of (b ∷ path)) else end)
    by true true here_is later_is first after =
        first ∙ ap (λ any. if any then count + 1 + length (directory_of path) else count + 1) later_is
        ∙ omega (arith, ap length (front-slash b path true (λ i. here_is i || later_is i)))
    by true false here_is later_is first after =
        first ∙ ap (λ any. if any then count + 1 + length (directory_of path) else count + 1) later_is
        ∙ omega (arith, ap length (front-slash b path true (λ i. here_is i || later_is i)), ap length (no_directory path later_is))
    by false true here_is later_is first after =
        after ∙ ap (λ any. if any then count + 1 + length (directory_of path) else end) later_is
        ∙ omega (arith, ap length (front-slash b path true (λ i. here_is i || later_is i)))
    by false false here_is later_is first after = after ∙ ap (λ any. if any then count + 1 + length (directory_of path) else end) later_is

-- a directory is a front of its path
front-directory : (path : List ℕ) → take (length (directory_of path)) path ≡ directory_of path
front-directory [] = refl
front-directory (b ∷ path) = by (has_slash (b ∷ path)) refl (front-directory path)
  where
    by : (any : Bool) → has_slash (b ∷ path) ≡ any → take (length (directory_of path)) path ≡ directory_of path → take (length (directory_of (b ∷ path))) (b ∷ path) ≡ directory_of (b ∷ path)
    by true is later = ap (λ front. take (length front) (b ∷ path)) (front-slash b path true is) ∙ ap (λ front. b ∷ front) later ∙ sym (front-slash b path true is)
    by false is later = ap (λ front. take (length front) (b ∷ path)) (front-slash b path false is) ∙ sym (front-slash b path false is)

-- the bytes up to that end are the directory
pub directory_taken : (path : List ℕ) (end : ℕ) → end ≡ end_from 0 0 path → take end path ≡ directory_of path
directory_taken path end is = ap (λ n. take n path) (is ∙ end_from-is 0 0 path ∙ by (has_slash path) refl) ∙ front-directory path
  where
    by : (any : Bool) → has_slash path ≡ any → (if any then 0 + length (directory_of path) else 0) ≡ length (directory_of path)
    by true is_any = omega arith
    by false is_any = ap length (sym (no_directory path is_any))

-- the last byte decides
pub wants-last : (front : List ℕ) (last : ℕ) → wants_slash (front ++ last ∷ []) ≡ not (last == slash)
wants-last [] last = refl
wants-last (b ∷ []) last = refl
wants-last (b ∷ c ∷ front) last = wants-last (c ∷ front) last
