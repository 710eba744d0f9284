-- A body without # and ## is one that can be defined.
use Rattle.std.proofs.Common.{◌≡◌, ◌<◌, ℕ, Bool, true, false, not, ◌&&◌, ◌||◌, List, [], ◌∷◌, length, map, is_some, refl, sym, ap, subst, ◌∙◌}
use Rattle.std.specs.List.{list_all}
use Rattle.std.proofs.lemmas.Bool.{and_parts, not-true, or_parts}
use Rattle.std.proofs.lemmas.List.{length-map}
use Rattle.meaning_text.specs.Tokens.{is_hash}
use Rattle.meaning_macros.specs.Signs.{is_hash_hash}
use Rattle.meaning_macros.specs.Bodies.{parameter_of}
use Rattle.meaning_macros.specs.WellFormed.{IsWellFormed, are_different, begins_with_paste, ends_with_paste, hashes_are_followed}
use Rattle.c_tokens.specs.declared.token.Token.{Token}
use Rattle.c_macros.specs.declared.definition.Macro.{Macro}
use Rattle.c_macros.specs.Parameters.{params_in}
use Rattle.c_macros.specs.Seen.{by_ids, own_text, token_by}
use Rattle.c_macros.proofs.BodyLemmas.{params_in-by}

-- neither # nor ##
abbrev plain : Token → Bool
plain token = not (is_hash token.kind || is_hash_hash token.kind)

signs : (token : Token) → plain token ≡ true → (is_hash token.kind ≡ false) × (is_hash_hash token.kind ≡ false)
signs token here = or_parts _ _ (not-true _ here)

begins : (tokens : List Token) → list_all plain tokens ≡ true → begins_with_paste (map (token_by own_text) tokens) ≡ false
begins [] all = refl
begins (a ∷ tokens) all = (signs a (and_parts _ _ all).0).1

ends : (tokens : List Token) → list_all plain tokens ≡ true → ends_with_paste (map (token_by own_text) tokens) ≡ false
ends [] all = refl
ends (a ∷ []) all = (signs a (and_parts _ _ all).0).1
ends (a ∷ b ∷ tokens) all = ends (b ∷ tokens) (and_parts (plain a) _ all).1

followed : (names : List (List ℕ)) (tokens : List Token) → list_all plain tokens ≡ true → hashes_are_followed names (map (token_by own_text) tokens) ≡ true
followed names [] all = refl
followed names (a ∷ []) all = ap not (signs a (and_parts _ _ all).0).0
followed names (a ∷ b ∷ tokens) all =
    (λ k. (not ((signs a (and_parts _ _ all).0).0 k) || is_some (parameter_of names (token_by own_text b))) && hashes_are_followed names (map (token_by own_text) (b ∷ tokens)))
    ∙ followed names (b ∷ tokens) (and_parts (plain a) _ all).1
