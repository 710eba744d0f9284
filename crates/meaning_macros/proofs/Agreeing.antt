-- Agreement is an equivalence, part by part.
use Rattle.std.proofs.Common.{◌≡◌, ℕ, Bool, true, false, ◌&&◌, List, [], ◌∷◌, Option, Some, None, bytes_eq, refl, sym, ◌∙◌, true≢false}
use Rattle.std.proofs.lemmas.Bool.{and_parts, and_from}
use Rattle.std.proofs.lemmas.Slice.Eq.{bytes_eq-Decides}
use Rattle.meaning_text.specs.Tokens.{Tok}
use Rattle.meaning_macros.specs.Macros.{Macro, inner_body}
use Rattle.meaning_macros.specs.Agreement.{both_or_neither, same_names, same_parameters, same_token, same_tokens}
use Rattle.meaning_macros.specs.laws.Agreement.{AgreementIsAnEquivalence}

-- both of two tests hold again where something follows from each
and_with : (p q r s : Bool) → (p ≡ true → r ≡ true) → (q ≡ true → s ≡ true) → (p && q) ≡ true → (r && s) ≡ true
and_with p q r s f g h = and_from r s (f (and_parts p q h).0) (g (and_parts p q h).1)

-- the same of two facts
and_with_two : (p q r s t u : Bool) → (p ≡ true → r ≡ true → t ≡ true) → (q ≡ true → s ≡ true → u ≡ true)
    → (p && q) ≡ true → (r && s) ≡ true → (t && u) ≡ true
and_with_two p q r s t u f g h k = and_from t u (f (and_parts p q h).0 (and_parts r s k).0) (g (and_parts p q h).1 (and_parts r s k).1)

bytes_eq-itself : (a : List ℕ) → bytes_eq a a ≡ true
bytes_eq-itself a = (bytes_eq-Decides a a).1 refl

bytes_eq-turned : (a b : List ℕ) → bytes_eq a b ≡ true → bytes_eq b a ≡ true
bytes_eq-turned a b h = (bytes_eq-Decides b a).1 (sym ((bytes_eq-Decides a b).0 h))

bytes_eq-further : (a b c : List ℕ) → bytes_eq a b ≡ true → bytes_eq b c ≡ true → bytes_eq a c ≡ true
bytes_eq-further a b c h k = (bytes_eq-Decides a c).1 ((bytes_eq-Decides a b).0 h ∙ (bytes_eq-Decides b c).0 k)

both_or_neither-itself : (a : Bool) → both_or_neither a a ≡ true
both_or_neither-itself true = refl
both_or_neither-itself false = refl

both_or_neither-turned : (a b : Bool) → both_or_neither a b ≡ true → both_or_neither b a ≡ true
both_or_neither-turned true true h = refl
both_or_neither-turned true false h = h
both_or_neither-turned false true h = h
both_or_neither-turned false false h = refl

both_or_neither-further : (a b c : Bool) → both_or_neither a b ≡ true → both_or_neither b c ≡ true → both_or_neither a c ≡ true
both_or_neither-further true true c h k = k
both_or_neither-further true false c h k = absurd (true≢false (sym h))
both_or_neither-further false true c h k = absurd (true≢false (sym h))
both_or_neither-further false false c h k = k

same_names-itself : (a : List (List ℕ)) → same_names a a ≡ true
same_names-itself [] = refl
same_names-itself (a ∷ names) = and_from (bytes_eq a a) (same_names names names) (bytes_eq-itself a) (same_names-itself names)

same_names-turned : (a b : List (List ℕ)) → same_names a b ≡ true → same_names b a ≡ true
same_names-turned [] [] h = refl
same_names-turned [] (b ∷ others) h = h
same_names-turned (a ∷ names) [] h = h
same_names-turned (a ∷ names) (b ∷ others) h =
    and_with (bytes_eq a b) (same_names names others) (bytes_eq b a) (same_names others names)
    (bytes_eq-turned a b) (same_names-turned names others) h

same_names-further : (a b c : List (List ℕ)) → same_names a b ≡ true → same_names b c ≡ true → same_names a c ≡ true
same_names-further [] [] c h k = k
same_names-further [] (b ∷ others) c h k = absurd (true≢false (sym h))
same_names-further (a ∷ names) [] c h k = absurd (true≢false (sym h))
same_names-further (a ∷ names) (b ∷ others) [] h k = k
same_names-further (a ∷ names) (b ∷ others) (c ∷ those) h k =
    and_with_two (bytes_eq a b) (same_names names others) (bytes_eq b c) (same_names others those) (bytes_eq a c) (same_names names those)
    (bytes_eq-further a b c) (same_names-further names others those) h k

same_parameters-itself : (a : Option (List (List ℕ))) → same_parameters a a ≡ true
same_parameters-itself None = refl
same_parameters-itself (Some names) = same_names-itself names

same_parameters-turned : (a b : Option (List (List ℕ))) → same_parameters a b ≡ true → same_parameters b a ≡ true
same_parameters-turned None None h = refl
same_parameters-turned None (Some others) h = h
same_parameters-turned (Some names) None h = h
same_parameters-turned (Some names) (Some others) h = same_names-turned names others h

same_parameters-further : (a b c : Option (List (List ℕ))) → same_parameters a b ≡ true → same_parameters b c ≡ true
    → same_parameters a c ≡ true
same_parameters-further None None c h k = k
same_parameters-further None (Some others) c h k = absurd (true≢false (sym h))
same_parameters-further (Some names) None c h k = absurd (true≢false (sym h))
same_parameters-further (Some names) (Some others) None h k = k
same_parameters-further (Some names) (Some others) (Some those) h k = same_names-further names others those h k

same_token-itself : (a : Tok) → same_token a a ≡ true
same_token-itself a =
    and_from (bytes_eq a.text a.text) (both_or_neither a.space_before a.space_before) (bytes_eq-itself a.text) (both_or_neither-itself a.space_before)

same_token-turned : (a b : Tok) → same_token a b ≡ true → same_token b a ≡ true
same_token-turned a b h =
    and_with (bytes_eq a.text b.text) (both_or_neither a.space_before b.space_before) (bytes_eq b.text a.text) (both_or_neither b.space_before a.space_before)
    (bytes_eq-turned a.text b.text) (both_or_neither-turned a.space_before b.space_before) h

same_token-further : (a b c : Tok) → same_token a b ≡ true → same_token b c ≡ true → same_token a c ≡ true
same_token-further a b c h k =
    and_with_two (bytes_eq a.text b.text) (both_or_neither a.space_before b.space_before) (bytes_eq b.text c.text)
    (both_or_neither b.space_before c.space_before) (bytes_eq a.text c.text) (both_or_neither a.space_before c.space_before)
    (bytes_eq-further a.text b.text c.text) (both_or_neither-further a.space_before b.space_before c.space_before) h k

same_tokens-itself : (a : List Tok) → same_tokens a a ≡ true
same_tokens-itself [] = refl
same_tokens-itself (a ∷ tokens) = and_from (same_token a a) (same_tokens tokens tokens) (same_token-itself a) (same_tokens-itself tokens)

same_tokens-turned : (a b : List Tok) → same_tokens a b ≡ true → same_tokens b a ≡ true
same_tokens-turned [] [] h = refl
same_tokens-turned [] (b ∷ others) h = h
same_tokens-turned (a ∷ tokens) [] h = h
same_tokens-turned (a ∷ tokens) (b ∷ others) h =
    and_with (same_token a b) (same_tokens tokens others) (same_token b a) (same_tokens others tokens)
    (same_token-turned a b) (same_tokens-turned tokens others) h

same_tokens-further : (a b c : List Tok) → same_tokens a b ≡ true → same_tokens b c ≡ true → same_tokens a c ≡ true
same_tokens-further [] [] c h k = k
same_tokens-further [] (b ∷ others) c h k = absurd (true≢false (sym h))
same_tokens-further (a ∷ tokens) [] c h k = absurd (true≢false (sym h))
same_tokens-further (a ∷ tokens) (b ∷ others) [] h k = k
same_tokens-further (a ∷ tokens) (b ∷ others) (c ∷ those) h k =
    and_with_two (same_token a b) (same_tokens tokens others) (same_token b c) (same_tokens others those) (same_token a c)
    (same_tokens tokens those) (same_token-further a b c) (same_tokens-further tokens others those) h k

-- the parameters and the variadic marks
abbrev heads_agree : Macro → Macro → Bool
heads_agree m n = same_parameters m.parameters n.parameters && both_or_neither m.variadic n.variadic

heads_agree-itself : (m : Macro) → heads_agree m m ≡ true
heads_agree-itself m =
    and_from (same_parameters m.parameters m.parameters) (both_or_neither m.variadic m.variadic)
    (same_parameters-itself m.parameters) (both_or_neither-itself m.variadic)

heads_agree-turned : (m n : Macro) → heads_agree m n ≡ true → heads_agree n m ≡ true
heads_agree-turned m n h =
    and_with (same_parameters m.parameters n.parameters) (both_or_neither m.variadic n.variadic) (same_parameters n.parameters m.parameters)
    (both_or_neither n.variadic m.variadic) (same_parameters-turned m.parameters n.parameters) (both_or_neither-turned m.variadic n.variadic) h

heads_agree-further : (m n o : Macro) → heads_agree m n ≡ true → heads_agree n o ≡ true → heads_agree m o ≡ true
heads_agree-further m n o h k =
    and_with_two (same_parameters m.parameters n.parameters) (both_or_neither m.variadic n.variadic) (same_parameters n.parameters o.parameters)
    (both_or_neither n.variadic o.variadic) (same_parameters m.parameters o.parameters) (both_or_neither m.variadic o.variadic)
    (same_parameters-further m.parameters n.parameters o.parameters) (both_or_neither-further m.variadic n.variadic o.variadic) h k

pub agree-equivalence : AgreementIsAnEquivalence
agree-equivalence = record {
  itself = λ m.
      and_from (heads_agree m m) (same_tokens (inner_body m) (inner_body m)) (heads_agree-itself m) (same_tokens-itself (inner_body m));
  turned = λ m n h.
      and_with (heads_agree m n) (same_tokens (inner_body m) (inner_body n)) (heads_agree n m) (same_tokens (inner_body n) (inner_body m))
      (heads_agree-turned m n) (same_tokens-turned (inner_body m) (inner_body n)) h;
  further = λ m n o h k.
      and_with_two (heads_agree m n) (same_tokens (inner_body m) (inner_body n)) (heads_agree n o) (same_tokens (inner_body n) (inner_body o))
      (heads_agree m o) (same_tokens (inner_body m) (inner_body o)) (heads_agree-further m n o)
      (same_tokens-further (inner_body m) (inner_body n) (inner_body o)) h k;
}
