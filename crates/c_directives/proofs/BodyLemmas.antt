-- Names by their ids, and what is asked of bodies, token by token.
use Rattle.std.proofs.Common.{◌≡◌, ℕ, ◌+◌, nat_eq, append_assoc, true≢false, Bool, true, false, not, ◌&&◌, ◌||◌, List, [], ◌∷◌, ◌++◌, map, Option, None, Some, All, is_some, option_map, slice_get, unwrap_or, if◌then◌else◌, refl, sym, ap, ◌∙◌, ⊎_elim}
use Rattle.std.specs.List.{list_any}
use Rattle.std.specs.Str.{bytes_eq}
use Rattle.std.specs.Cmp.{nat_eq_equiv}
use Rattle.std.proofs.lemmas.Bool.{cases_Bool}
use Rattle.std.proofs.lemmas.Bool.Decides.{eqb_tells}
use Rattle.std.proofs.lemmas.List.Elements.{All-head, All-tail}
use Rattle.std.proofs.lemmas.List.Folds.{list_any-append}
use Rattle.std.proofs.lemmas.Slice.Eq.{bytes_eq-Decides}
use Rattle.meaning_text.specs.Tokens.{Tok, is_hash}
use Rattle.meaning_macros.specs.Signs.{is_hash_hash}
use Rattle.meaning_macros.specs.Bodies.{number_of_name}
use Rattle.meaning_macros.specs.Macros.{names_in, is_function_like, parameters_of}
use Rattle.meaning_macros.specs.WellFormed.{are_different, begins_with_paste, ends_with_paste, hashes_are_followed}
use Rattle.meaning_preprocessing.specs.DefinitionLines.{can_be_defined, has_rest_name_rightly, is_spelled, rest_name}
use Rattle.sparse_model.specs.declared.ids.NameId.{NameId}
use Rattle.c_tokens.specs.declared.token.Token.{Token}
use Rattle.c_tokens.specs.Spellings.{AreApart}
use Rattle.c_tokens.specs.Seen.{IsKnown, text_of, toks_of}
use Rattle.c_tokens.proofs.SeenLemmas.{text_of-injective}
use Rattle.c_macros.specs.Parameters.{params_in}
use Rattle.c_macros.specs.declared.definition.Macro.{Macro}
use Rattle.c_macros.specs.Seen.{macro_of, params_by}
use Rattle.c_directives.specs.Definitions.{begins_with_parameter, is_body_right}

-- two ids are one
abbrev pub same_id : NameId → NameId → Bool
same_id i j = nat_eq i.0 j.0

-- the names of the parameters, spelled
pub params_in-spelled : (s : NameId → List ℕ) (params : Option (List NameId)) → map s (params_in params) ≡ names_in (params_by s params)
params_in-spelled s None = refl
params_in-spelled s (Some names) = refl

-- Names that differ

-- none of the names stands among those before it
abbrev pub are_new : List NameId → List NameId → Bool
are_new before [] = true
are_new before (i ∷ ids) = not (list_any (same_id i) before) && are_new (before ++ i ∷ []) ids

-- none of the names stands among these
abbrev none_in : List NameId → List NameId → Bool
none_in before [] = true
none_in before (i ∷ ids) = not (list_any (same_id i) before) && none_in before ids

abbrev ids_differ : List NameId → Bool
ids_differ [] = true
ids_differ (i ∷ ids) = not (list_any (same_id i) ids) && ids_differ ids

none_in-snoc : (before : List NameId) (i : NameId) (ids : List NameId) → none_in (before ++ i ∷ []) ids ≡ (not (list_any (same_id i) ids) && none_in before ids)
none_in-snoc before i [] = refl
none_in-snoc before i (j ∷ ids) =
    (λ k. not ((list_any-append (same_id j) before (i ∷ []) ∙ ap (λ found. list_any (same_id j) before || (found || false)) (nat_eq_equiv.symm j.0 i.0)) k) && none_in-snoc before i ids k)
    ∙ by (list_any (same_id j) before) (same_id i j) (list_any (same_id i) ids) (none_in before ids)
  where
    by : (a b c d : Bool) → (not (a || (b || false)) && (not c && d)) ≡ (not (b || c) && (not a && d))
    by true true c d = refl
    by true false true d = refl
    by true false false d = refl
    by false true c d = refl
    by false false true d = refl
    by false false false d = refl

none_in-nil : (ids : List NameId) → none_in [] ids ≡ true
none_in-nil [] = refl
none_in-nil (i ∷ ids) = none_in-nil ids

are_new-is : (before ids : List NameId) → are_new before ids ≡ (none_in before ids && ids_differ ids)
are_new-is before [] = refl
are_new-is before (i ∷ ids) =
    (λ k. not (list_any (same_id i) before) && (are_new-is (before ++ i ∷ []) ids ∙ ap (λ none. none && ids_differ ids) (none_in-snoc before i ids)) k)
    ∙ by (list_any (same_id i) before) (list_any (same_id i) ids) (none_in before ids) (ids_differ ids)
  where
    by : (a b c d : Bool) → (not a && ((not b && c) && d)) ≡ ((not a && c) && (not b && d))
    by true b c d = refl
    by false true true d = refl
    by false true false d = refl
    by false false true d = refl
    by false false false d = refl

-- a name that isn't among those before it goes on
pub new_goes_on : (before left all : List NameId) (name : NameId) (others new : List NameId) (added : Bool) → left ≡ name ∷ others → added ≡ not (list_any (same_id name) before) → added ≡ true
    → new ≡ (if list_any (same_id name) before then before else before ++ name ∷ []) → are_new before left ≡ are_new [] all → are_new new others ≡ are_new [] all
new_goes_on before left all name others new added front is holds inserted given = by (list_any (same_id name) before) refl
  where
    by : (among : Bool) → list_any (same_id name) before ≡ among → are_new new others ≡ are_new [] all
    by true found = absurd (true≢false (sym holds ∙ is ∙ ap not found))
    by false found =
        ap (λ ids. are_new ids others) (inserted ∙ ap (λ among. if among then before else before ++ name ∷ []) found)
        ∙ ap (λ among. not among && are_new (before ++ name ∷ []) others) (sym found)
        ∙ ap (are_new before) (sym front) ∙ given

pub keys_go_on : (before left all : List NameId) (name : NameId) (others new : List NameId) (added : Bool) → left ≡ name ∷ others → added ≡ not (list_any (same_id name) before) → added ≡ true
    → new ≡ (if list_any (same_id name) before then before else before ++ name ∷ []) → before ++ left ≡ all → new ++ others ≡ all
keys_go_on before left all name others new added front is holds inserted given = by (list_any (same_id name) before) refl
  where
    by : (among : Bool) → list_any (same_id name) before ≡ among → new ++ others ≡ all
    by true found = absurd (true≢false (sym holds ∙ is ∙ ap not found))
    by false found =
        ap (λ ids. ids ++ others) (inserted ∙ ap (λ among. if among then before else before ++ name ∷ []) found)
        ∙ append_assoc before (name ∷ []) others ∙ ap (λ ids. before ++ ids) (sym front) ∙ given

-- one that is among them stops
pub old_stops : (before left all : List NameId) (name : NameId) (others : List NameId) (added : Bool) → left ≡ name ∷ others → added ≡ not (list_any (same_id name) before) → added ≡ false
    → are_new before left ≡ are_new [] all → false ≡ are_new [] all
old_stops before left all name others added front is holds given =
    (λ k. (sym holds ∙ is) k && are_new (before ++ name ∷ []) others) ∙ ap (are_new before) (sym front) ∙ given

module _ (names : List (List ℕ)) (apart : AreApart names) where
  -- known ids are one where their spellings are
  pub equal-known : (i j : NameId) → IsKnown names i → IsKnown names j → bytes_eq (text_of names i) (text_of names j) ≡ same_id i j
  equal-known i j first second = ⊎_elim
      (λ same. (bytes_eq-Decides _ _).1 (ap (λ k. unwrap_or (slice_get names k) []) same.1) ∙ sym same.0)
      (λ other. ⊎_elim
      (λ equal. absurd (other.1 (ap (λ id. id.0) (text_of-injective names apart i j first second ((bytes_eq-Decides _ _).0 equal)))))
      (λ unequal. unequal ∙ sym other.0)
      (cases_Bool (bytes_eq (text_of names i) (text_of names j))))
      (eqb_tells i.0 j.0)

  among-known : (i : NameId) (ids : List NameId) → IsKnown names i → All (IsKnown names) ids → list_any (same_id i) ids ≡ list_any (bytes_eq (text_of names i)) (map (text_of names) ids)
  among-known i [] here known = refl
  among-known i (j ∷ ids) here known = λ k.
      sym (equal-known i j here (All-head (IsKnown names) j ids known)) k || among-known i ids here (All-tail (IsKnown names) j ids known) k

  ids_differ-known : (ids : List NameId) → All (IsKnown names) ids → ids_differ ids ≡ are_different (map (text_of names) ids)
  ids_differ-known [] known = refl
  ids_differ-known (i ∷ ids) known = λ k.
      not (among-known i ids (All-head (IsKnown names) i ids known) (All-tail (IsKnown names) i ids known) k)
      && ids_differ-known ids (All-tail (IsKnown names) i ids known) k

  -- names that are new one by one are different
  pub are_new-known : (ids : List NameId) → All (IsKnown names) ids → are_new [] ids ≡ are_different (map (text_of names) ids)
  are_new-known ids known = are_new-is [] ids ∙ ap (λ none. none && ids_differ ids) (none_in-nil ids) ∙ ids_differ-known ids known

  pub number-known : (id : NameId) (ids : List NameId) → IsKnown names id → All (IsKnown names) ids → list_any (same_id id) ids ≡ is_some (number_of_name (text_of names id) (map (text_of names) ids))
  number-known id [] here known = refl
  number-known id (i ∷ ids) here known =
      (λ k. (nat_eq_equiv.symm id.0 i.0 ∙ sym (equal-known i id (All-head (IsKnown names) i ids known) here)) k || number-known id ids here (All-tail (IsKnown names) i ids known) k)
      ∙ by (bytes_eq (text_of names i) (text_of names id)) (number_of_name (text_of names id) (map (text_of names) ids))
    where
      by : (this : Bool) (later : Option ℕ) → (this || is_some later) ≡ is_some (if this then Some 0 else option_map (λ k. k + 1) later)
      by true later = refl
      by false None = refl
      by false (Some k) = refl

-- Bodies

-- the last token ends a body
pub ends-last : (names : List (List ℕ)) (others : List Token) (token : Token) → ends_with_paste (toks_of names (others ++ token ∷ [])) ≡ is_hash_hash token.kind
ends-last names [] token = refl
ends-last names (t ∷ []) token = refl
ends-last names (t ∷ u ∷ others) token = ends-last names (u ∷ others) token

-- one token, and the others
pub hashes-front : (params : List (List ℕ)) (t : Tok) (ts : List Tok) → hashes_are_followed params (t ∷ ts) ≡ ((not (is_hash t.kind) || begins_with_parameter params ts) && hashes_are_followed params ts)
hashes-front params t [] = by (is_hash t.kind)
  where
    by : (hash : Bool) → not hash ≡ ((not hash || false) && true)
    by true = refl
    by false = refl
hashes-front params t (u ∷ ts) = refl

-- a token that is no `#`, or is followed
pub goes_on : (params : List (List ℕ)) (t : Tok) (ts left : List Tok) (unfollowed all : Bool) → left ≡ t ∷ ts → unfollowed ≡ (is_hash t.kind && not (begins_with_parameter params ts)) → unfollowed ≡ false
    → hashes_are_followed params left ≡ all → hashes_are_followed params ts ≡ all
goes_on params t ts left unfollowed all front is holds given =
    by (is_hash t.kind) (begins_with_parameter params ts) (sym is ∙ holds) ∙ sym (hashes-front params t ts) ∙ ap (hashes_are_followed params) (sym front) ∙ given
  where
    by : (hash next : Bool) → (hash && not next) ≡ false → hashes_are_followed params ts ≡ ((not hash || next) && hashes_are_followed params ts)
    by true true told = refl
    by true false told = absurd (true≢false told)
    by false next told = refl

-- a `#` that isn't followed
pub breaks_off : (params : List (List ℕ)) (t : Tok) (ts left : List Tok) (unfollowed all : Bool) → left ≡ t ∷ ts → unfollowed ≡ (is_hash t.kind && not (begins_with_parameter params ts)) → unfollowed ≡ true
    → hashes_are_followed params left ≡ all → false ≡ all
breaks_off params t ts left unfollowed all front is holds given =
    by (is_hash t.kind) (begins_with_parameter params ts) (sym is ∙ holds) ∙ sym (hashes-front params t ts) ∙ ap (hashes_are_followed params) (sym front) ∙ given
  where
    by : (hash next : Bool) → (hash && not next) ≡ true → false ≡ ((not hash || next) && hashes_are_followed params ts)
    by true true told = absurd (true≢false (sym told))
    by true false told = refl
    by false next told = absurd (true≢false (sym told))

-- a macro that can be defined, by its three questions
can-is : (different rest called : Bool) (params : List (List ℕ)) (body : List Tok) → true ≡ different
    → (is_body_right called params body && rest) ≡ (different && not (begins_with_paste body) && not (ends_with_paste body) && (not called || hashes_are_followed params body) && rest)
can-is different rest called params body differ =
    by (not (begins_with_paste body)) (not (ends_with_paste body)) (not called || hashes_are_followed params body)
    ∙ ap (λ d. d && not (begins_with_paste body) && not (ends_with_paste body) && (not called || hashes_are_followed params body) && rest) differ
  where
    by : (x y z : Bool) → ((x && y && z) && rest) ≡ (true && x && y && z && rest)
    by true true true = refl
    by true true false = refl
    by true false z = refl
    by false y z = refl

called-is : (s : NameId → List ℕ) (params : Option (List NameId)) → is_some params ≡ is_some (params_by s params)
called-is s None = refl
called-is s (Some names) = refl

pub macro-can : (names : List (List ℕ)) (m : Macro) (params keys : List NameId) (body : List Token) (called right rest : Bool) → params ≡ params_in m.params → body ≡ m.body → keys ≡ params → called ≡ is_some m.params
    → true ≡ are_different (map (text_of names) params) → right ≡ is_body_right called (map (text_of names) keys) (toks_of names body)
    → rest ≡ (list_any (bytes_eq rest_name) (map (text_of names) params) || not (list_any (is_spelled rest_name) (toks_of names body)))
    → (right && rest) ≡ can_be_defined (macro_of names m)
macro-can names m params keys body called right rest params_are body_is keys_are called_is differ right_is rest_is =
    let spelled : map (text_of names) params ≡ parameters_of (macro_of names m) = ap (map (text_of names)) params_are ∙ params_in-spelled (text_of names) m.params in
    let right_of : right ≡ is_body_right (is_function_like (macro_of names m)) (parameters_of (macro_of names m)) (toks_of names m.body) =
    right_is ∙ (λ i. is_body_right ((called_is ∙ called-is (text_of names) m.params) i) ((ap (map (text_of names)) keys_are ∙ spelled) i) (toks_of names (body_is i))) in
    let rest_of : rest ≡ has_rest_name_rightly (macro_of names m) =
    rest_is ∙ (λ i. list_any (bytes_eq rest_name) (spelled i) || not (list_any (is_spelled rest_name) (toks_of names (body_is i)))) in
    (λ i. right_of i && rest_of i)
    ∙ can-is (are_different (parameters_of (macro_of names m))) (has_rest_name_rightly (macro_of names m)) (is_function_like (macro_of names m)) (parameters_of (macro_of names m))
    (toks_of names m.body) (differ ∙ ap are_different spelled)

-- one whose body isn't right can't
pub macro-cannot : (names : List (List ℕ)) (m : Macro) (params keys : List NameId) (body : List Token) (called right : Bool) → params ≡ params_in m.params → body ≡ m.body → keys ≡ params → called ≡ is_some m.params
    → true ≡ are_different (map (text_of names) params) → right ≡ is_body_right called (map (text_of names) keys) (toks_of names body) → right ≡ false
    → false ≡ can_be_defined (macro_of names m)
macro-cannot names m params keys body called right params_are body_is keys_are called_is differ right_is fails =
    let rest : Bool = list_any (bytes_eq rest_name) (map (text_of names) params) || not (list_any (is_spelled rest_name) (toks_of names body)) in
    ap (λ r. r && rest) (sym fails) ∙ macro-can names m params keys body called right rest params_are body_is keys_are called_is differ right_is refl
