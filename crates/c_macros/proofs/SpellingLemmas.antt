-- Macros spelled in two ways that keep different ids apart.
use Rattle.std.proofs.Common.{◌≡◌, ◌<◌, true, not, ◌&&◌, ◌||◌, if◌then◌else◌, List, [], ◌∷◌, length, map, Option, None, Some, is_some, refl, sym, ap, subst, ◌∙◌}
use Rattle.std.specs.List.{list_any}
use Rattle.std.specs.Str.{bytes_eq}
use Rattle.std.proofs.lemmas.List.{length-map}
use Rattle.meaning_text.specs.Tokens.{is_hash}
use Rattle.meaning_macros.specs.Signs.{is_identifier_kind}
use Rattle.meaning_macros.specs.Agreement.{agree, both_or_neither, same_names, same_parameters, same_tokens}
use Rattle.meaning_macros.specs.Bodies.{parameter_of}
use Rattle.meaning_macros.specs.Macros.{without_first_space}
use Rattle.meaning_macros.specs.WellFormed.{IsWellFormed, are_different, begins_with_paste, ends_with_paste, hashes_are_followed}
use Rattle.sparse_model.specs.declared.ids.NameId.{NameId}
use Rattle.c_tokens.specs.declared.token.Token.{Token}
use Rattle.c_macros.specs.declared.definition.Macro.{Macro}
use Rattle.c_macros.specs.Parameters.{params_in}
use Rattle.c_macros.specs.Seen.{KeepsApart, Spelling, macro_by, params_by, token_by}
use Rattle.c_macros.proofs.BodyLemmas.{params_in-by}
use Rattle.c_macros.proofs.ParameterLemmas.{number_of_name-position}

module _ (s t : Spelling) (s_apart : KeepsApart s) (t_apart : KeepsApart t) where
  equal-by : (i j : NameId) → bytes_eq (s i) (s j) ≡ bytes_eq (t i) (t j)
  equal-by i j = s_apart i j ∙ sym (t_apart i j)

  same_names-by : (names others : List NameId) → same_names (map s names) (map s others) ≡ same_names (map t names) (map t others)
  same_names-by [] [] = refl
  same_names-by [] (j ∷ others) = refl
  same_names-by (i ∷ names) [] = refl
  same_names-by (i ∷ names) (j ∷ others) = λ k. equal-by i j k && same_names-by names others k

  same_parameters-by : (params others : Option (List NameId)) → same_parameters (params_by s params) (params_by s others) ≡ same_parameters (params_by t params) (params_by t others)
  same_parameters-by None None = refl
  same_parameters-by None (Some others) = refl
  same_parameters-by (Some names) None = refl
  same_parameters-by (Some names) (Some others) = same_names-by names others

  same_tokens-by : (tokens others : List Token) → same_tokens (map (token_by s) tokens) (map (token_by s) others) ≡ same_tokens (map (token_by t) tokens) (map (token_by t) others)
  same_tokens-by [] [] = refl
  same_tokens-by [] (b ∷ others) = refl
  same_tokens-by (a ∷ tokens) [] = refl
  same_tokens-by (a ∷ tokens) (b ∷ others) = λ k. (equal-by a.name b.name k && both_or_neither a.space_before b.space_before) && same_tokens-by tokens others k

  same_bodies-by : (tokens others : List Token) → same_tokens (without_first_space (map (token_by s) tokens)) (without_first_space (map (token_by s) others))
      ≡ same_tokens (without_first_space (map (token_by t) tokens)) (without_first_space (map (token_by t) others))
  same_bodies-by [] [] = refl
  same_bodies-by [] (b ∷ others) = refl
  same_bodies-by (a ∷ tokens) [] = refl
  same_bodies-by (a ∷ tokens) (b ∷ others) = λ k. (equal-by a.name b.name k && true) && same_tokens-by tokens others k

  -- they agree in one spelling exactly where they agree in the other
  pub agree-by : (m n : Macro) → agree (macro_by s m) (macro_by s n) ≡ agree (macro_by t m) (macro_by t n)
  agree-by m n = λ k. same_parameters-by m.params n.params k && both_or_neither m.variadic n.variadic && same_bodies-by m.body n.body k

  among-by : (i : NameId) (names : List NameId) → list_any (bytes_eq (s i)) (map s names) ≡ list_any (bytes_eq (t i)) (map t names)
  among-by i [] = refl
  among-by i (j ∷ names) = λ k. equal-by i j k || among-by i names k

  are_different-by : (names : List NameId) → are_different (map s names) ≡ are_different (map t names)
  are_different-by [] = refl
  are_different-by (i ∷ names) = λ k. not (among-by i names k) && are_different-by names k

  parameter_of-by : (names : List NameId) (token : Token) → parameter_of (map s names) (token_by s token) ≡ parameter_of (map t names) (token_by t token)
  parameter_of-by names token = λ k.
      if is_identifier_kind token.kind
      then (sym (number_of_name-position s s_apart names token.name) ∙ number_of_name-position t t_apart names token.name) k
      else None

  begins-by : (tokens : List Token) → begins_with_paste (map (token_by s) tokens) ≡ begins_with_paste (map (token_by t) tokens)
  begins-by [] = refl
  begins-by (a ∷ tokens) = refl

  ends-by : (tokens : List Token) → ends_with_paste (map (token_by s) tokens) ≡ ends_with_paste (map (token_by t) tokens)
  ends-by [] = refl
  ends-by (a ∷ []) = refl
  ends-by (a ∷ b ∷ tokens) = ends-by (b ∷ tokens)

  hashes_are_followed-by : (names : List NameId) (tokens : List Token) → hashes_are_followed (map s names) (map (token_by s) tokens) ≡ hashes_are_followed (map t names) (map (token_by t) tokens)
  hashes_are_followed-by names [] = refl
  hashes_are_followed-by names (a ∷ []) = refl
  hashes_are_followed-by names (a ∷ b ∷ tokens) = λ k. (not (is_hash a.kind) || is_some (parameter_of-by names b k)) && hashes_are_followed-by names (b ∷ tokens) k

  is_function_like-by : (params : Option (List NameId)) → is_some (params_by s params) ≡ is_some (params_by t params)
  is_function_like-by None = refl
  is_function_like-by (Some names) = refl

  -- a macro that is well formed in one spelling is so in the other
  pub IsWellFormed-by : (m : Macro) → IsWellFormed (macro_by s m) → IsWellFormed (macro_by t m)
  IsWellFormed-by m formed =
      let first = params_in-by s m.params in
      let other = params_in-by t m.params in
      record {
        different = ap are_different (sym other) ∙ sym (are_different-by (params_in m.params)) ∙ ap are_different first ∙ formed.different;
        last = λ variadic. subst (λ n. 0 < n) (ap length (sym first) ∙ length-map (params_in m.params) s ∙ sym (length-map (params_in m.params) t) ∙ ap length other) (formed.last variadic);
        begins = sym (begins-by m.body) ∙ formed.begins;
        ends = sym (ends-by m.body) ∙ formed.ends;
        followed = λ called.
            ap (λ names. hashes_are_followed names (map (token_by t) m.body)) (sym other) ∙ sym (hashes_are_followed-by (params_in m.params) m.body)
            ∙ ap (λ names. hashes_are_followed names (map (token_by s) m.body)) first
            ∙ formed.followed (is_function_like-by m.params ∙ called);
      }
