-- What is asked of a macro before it is defined (C11 6.10.3, 6.10.3.2, 6.10.3.3).
use Rattle.std.specs.Prelude.{◌≡◌, ◌<◌, ℕ, Bool, true, false, not, ◌&&◌, ◌||◌, List, [], ◌∷◌, length, is_some}
use Rattle.std.specs.List.{list_any}
use Rattle.std.specs.Str.{bytes_eq}
use Rattle.meaning_text.specs.Tokens.{Tok, is_hash}
use Rattle.meaning_macros.specs.Signs.{is_hash_hash}
use Rattle.meaning_macros.specs.Macros.{Macro, is_function_like, parameters_of}
use Rattle.meaning_macros.specs.Bodies.{parameter_of}

-- no name stands twice
abbrev pub are_different : List (List ℕ) → Bool
are_different [] = true
are_different (name ∷ names) = not (list_any (bytes_eq name) names) && are_different names

abbrev pub begins_with_paste : List Tok → Bool
begins_with_paste [] = false
begins_with_paste (t ∷ ts) = is_hash_hash t.kind

abbrev pub ends_with_paste : List Tok → Bool
ends_with_paste [] = false
ends_with_paste (t ∷ []) = is_hash_hash t.kind
ends_with_paste (t ∷ u ∷ ts) = ends_with_paste (u ∷ ts)

-- a parameter of these names stands behind each `#`
abbrev pub hashes_are_followed : List (List ℕ) → List Tok → Bool
hashes_are_followed names [] = true
hashes_are_followed names (t ∷ []) = not (is_hash t.kind)
hashes_are_followed names (t ∷ u ∷ ts) =
    (not (is_hash t.kind) || is_some (parameter_of names u)) && hashes_are_followed names (u ∷ ts)

-- the macro is one that can be defined
pub record IsWellFormed (m : Macro) : Type 0 where
  -- 6.10.3 p6
  pub different : are_different (parameters_of m) ≡ true
  -- the variable parameter is the last (6.10.3 p12)
  pub last : m.variadic ≡ true → 0 < length (parameters_of m)
  -- 6.10.3.3 p1
  pub begins : begins_with_paste m.body ≡ false
  pub ends : ends_with_paste m.body ≡ false
  -- 6.10.3.2 p1; in an object-like macro `#` is a token like any other
  pub followed : is_function_like m ≡ true → hashes_are_followed (parameters_of m) m.body ≡ true
