-- The keys of the table of names, seen as their spellings.
use Rattle.std.proofs.Common.{◌≡◌, ℕ, zero, suc, ◌<◌, Bool, true, false, ◌||◌, if◌then◌else◌, List, [], ◌∷◌, ◌++◌, length, map, slice_get, position, get_or, Some, refl, sym, ap, ◌∙◌, subst, ⊎_elim, arith}
use Rattle.std.specs.List.{list_any}
use Rattle.std.specs.Str.{bytes_eq}
use Rattle.std.specs.Option.{option_map}
use Rattle.std.specs.List.{IsDistinct}
use Rattle.std.proofs.lemmas.Bool.{cases_order, both_ways}
use Rattle.std.proofs.lemmas.List.Quantifiers.{position-Some}
use Rattle.std.proofs.lemmas.List.{length-map, map-append}
use Rattle.indexmap.specs.IndexSet.{insert_key}
use Rattle.std.proofs.lemmas.Map.Keys.{apart_from_distinct}
use Rattle.std.proofs.lemmas.Option.{slice_get-map, slice_get-get_or, slice_get_within, same_Some, none-some}
use Rattle.std.proofs.lemmas.Slice.Eq.{bytes_eq-Decides}
use Rattle.c_tokens.specs.Spellings.{AreApart, is_among, with_spelling, with_spellings}

-- equal bytes are one spelling
same_bytes : (a b : List ℕ) → bytes_eq a b ≡ true → a ≡ b
same_bytes a b equal = (bytes_eq-Decides a b).0 equal

module _ {K : Type 0} (items : K → List ℕ) where
  -- a text is a key exactly where it is a spelling
  pub is_among-keys : (text : List ℕ) (keys : List K) → list_any (λ key. bytes_eq text (items key)) keys ≡ is_among text (map items keys)
  is_among-keys text [] = refl
  is_among-keys text (key ∷ keys) = ap (λ found. bytes_eq text (items key) || found) (is_among-keys text keys)

  -- what a search among the keys found holds of the spellings
  pub is_among-found : (text : List ℕ) (keys : List K) (names : List (List ℕ)) (found : Bool) → map items keys ≡ names → found ≡ list_any (λ key. bytes_eq text (items key)) keys → is_among text names ≡ found
  is_among-found text keys names found seen is = ap (is_among text) (sym seen) ∙ sym (is_among-keys text keys) ∙ sym is

  -- the spelling of the key at its index
  spelling_at : (keys : List K) (i : ℕ) (other : K) → i < length keys → slice_get (map items keys) i ≡ Some (items (get_or keys i other))
  spelling_at keys i other within = slice_get-map items keys i ∙ ap (option_map items) (slice_get-get_or keys i other within)

  -- the index at which a text was found has it as its spelling
  pub slice_get-position : (text : List ℕ) (keys : List K) (i : ℕ) → position (λ key. bytes_eq text (items key)) keys ≡ Some i → slice_get (map items keys) i ≡ Some text
  slice_get-position text [] i found = absurd (none-some i found)
  slice_get-position text (key ∷ keys) i found =
      let at = position-Some (λ key. bytes_eq text (items key)) (key ∷ keys) i key found in
      spelling_at (key ∷ keys) i key at.0 ∙ ap Some (sym (same_bytes text _ at.1))

  -- of two places with one spelling the first isn't before the other
  apart_below : (keys : List K) (i j : ℕ) (text : List ℕ) → IsDistinct (λ a b. bytes_eq (items a) (items b)) keys → i < j → slice_get (map items keys) i ≡ Some text → slice_get (map items keys) j ≡ Some text → ⊥
  apart_below [] i j text distinct below first second = none-some text first
  apart_below (key ∷ keys) i j text distinct below first second =
      let within : j < length (key ∷ keys) = omega (arith, slice_get_within (map items (key ∷ keys)) j text second, length-map (key ∷ keys) items) in
      let differ = apart_from_distinct (λ a b. bytes_eq (items a) (items b)) (key ∷ keys) i j key distinct below within in
      let left = same_Some _ _ (sym (spelling_at (key ∷ keys) i key (omega arith)) ∙ first) in
      let right = same_Some _ _ (sym (spelling_at (key ∷ keys) j key within) ∙ second) in
      both_ways _ differ ((bytes_eq-Decides _ _).1 (left ∙ sym right))

  -- keys that differ have different spellings
  pub AreApart-keys : (keys : List K) → IsDistinct (λ a b. bytes_eq (items a) (items b)) keys → AreApart (map items keys)
  AreApart-keys keys distinct i j text first second =
      ⊎_elim
      (λ same. same)
      (λ differ. absurd (⊎_elim (λ below. apart_below keys i j text distinct below first second) (λ above. apart_below keys j i text distinct above second first) differ))
      (cases_order i j)

  -- a new key goes last, with its spelling
  pub spellings-insert_key : (text : List ℕ) (keys new : List K) (key : K) → items key ≡ text → list_any (λ other. bytes_eq text (items other)) keys ≡ false → new ≡ insert_key (λ a b. bytes_eq (items a) (items b)) keys key → map items new ≡ map items keys ++ text ∷ []
  spellings-insert_key text keys new key spelled absent inserted =
      let absent_key : list_any (λ other. bytes_eq (items key) (items other)) keys ≡ false = subst (λ word. list_any (λ other. bytes_eq word (items other)) keys ≡ false) (sym spelled) absent in
      ap (map items) (inserted ∙ ap (λ found. if found then keys else keys ++ key ∷ []) absent_key) ∙ map-append items keys (key ∷ []) ∙ ap (λ word. map items keys ++ word ∷ []) spelled

-- what stands in the table is a spelling of it
pub is_among-stands : (text : List ℕ) (names : List (List ℕ)) (i : ℕ) → slice_get names i ≡ Some text → is_among text names ≡ true
is_among-stands text [] i stands = absurd (none-some text stands)
is_among-stands text (name ∷ names) zero stands =
    ap (λ found. found || is_among text names) ((bytes_eq-Decides text name).1 (sym (same_Some _ _ stands)))
is_among-stands text (name ∷ names) (suc i) stands =
    ap (λ found. bytes_eq text name || found) (is_among-stands text names i stands) ∙ or_true (bytes_eq text name)
  where
    or_true : (a : Bool) → (a || true) ≡ true
    or_true true = refl
    or_true false = refl

-- a spelling of the table leaves it as it is
pub with_spelling-known : (names : List (List ℕ)) (text : List ℕ) → is_among text names ≡ true → with_spelling names text ≡ names
with_spelling-known names text among = ap (λ found. if found then names else names ++ text ∷ []) among

-- a new spelling goes last
pub with_spelling-new : (names : List (List ℕ)) (text : List ℕ) → is_among text names ≡ false → with_spelling names text ≡ names ++ text ∷ []
with_spelling-new names text absent = ap (λ found. if found then names else names ++ text ∷ []) absent

-- a further text joins the table behind the others
pub with_spellings-push : (names texts : List (List ℕ)) (text : List ℕ) → with_spellings names (texts ++ text ∷ []) ≡ with_spelling (with_spellings names texts) text
with_spellings-push names [] text = refl
with_spellings-push names (first ∷ texts) text = with_spellings-push (with_spelling names first) texts text

-- the last of the spellings
pub slice_get-last : (names : List (List ℕ)) (text : List ℕ) → slice_get (names ++ text ∷ []) (length names) ≡ Some text
slice_get-last [] text = refl
slice_get-last (name ∷ names) text = slice_get-last names text
