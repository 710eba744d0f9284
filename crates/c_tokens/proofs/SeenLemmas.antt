-- Tokens seen through a table that grows.
use Rattle.std.proofs.Common.{◌≡◌, ℕ, suc, zero, ◌<◌, List, [], ◌∷◌, ◌++◌, length, slice_get, Some, unwrap_or, All, refl, sym, ap, ◌∙◌, append_assoc, arith, length-append}
use Rattle.std.proofs.lemmas.List.{map-append}
use Rattle.std.proofs.lemmas.Option.{slice_get-get_or, unwrap_or-slice_get}
use Rattle.std.proofs.lemmas.List.Elements.{All-head, All-tail, All-push, All-weaker}
use Rattle.sparse_model.specs.declared.ids.NameId.{NameId}
use Rattle.c_tokens.specs.declared.token.Token.{Token}
use Rattle.c_tokens.specs.Spellings.{AreApart}
use Rattle.c_tokens.specs.Seen.{text_of, tok_of, toks_of, IsKnown, Extends}

-- an element of a list stays where more come behind it
pub slice_get-append : {X : Type 0} (xs ys : List X) (i : ℕ) → i < length xs → slice_get (xs ++ ys) i ≡ slice_get xs i
slice_get-append [] ys i within = absurd (omega arith)
slice_get-append (x ∷ xs) ys zero within = refl
slice_get-append (x ∷ xs) ys (suc i) within = slice_get-append xs ys i (omega arith)

-- a table that grew twice grew
pub Extends-Extends : (old mid new : List (List ℕ)) → Extends old mid → Extends mid new → Extends old new
Extends-Extends old mid new first then = (first.0 ++ then.0, then.1 ∙ ap (λ names. names ++ then.0) first.1 ∙ append_assoc old first.0 then.0)

-- the spelling of a known id stands at its number
slice_get-text_of : (names : List (List ℕ)) (id : NameId) → IsKnown names id → slice_get names id.0 ≡ Some (text_of names id)
slice_get-text_of names id known =
    slice_get-get_or names id.0 [] known ∙ ap Some (sym (unwrap_or-slice_get names id.0 []))

-- a known id keeps its spelling where the table grew
pub text_of-Extends : (old new : List (List ℕ)) → Extends old new → (id : NameId) → IsKnown old id → text_of new id ≡ text_of old id
text_of-Extends old new extends id known =
    ap (λ names. text_of names id) extends.1 ∙ ap (λ found. unwrap_or found []) (slice_get-append old extends.0 id.0 known)

-- two known ids with one spelling are one id
pub text_of-injective : (names : List (List ℕ)) → AreApart names → (i j : NameId) → IsKnown names i → IsKnown names j → text_of names i ≡ text_of names j → i ≡ j
text_of-injective names apart i j first second same =
    let number : i.0 ≡ j.0 = apart i.0 j.0 (text_of names j) (slice_get-text_of names i first ∙ ap Some same) (slice_get-text_of names j second) in
    λ k. record { 0 = number k }

-- a known id stays known
pub IsKnown-Extends : (old new : List (List ℕ)) → Extends old new → (id : NameId) → IsKnown old id → IsKnown new id
IsKnown-Extends old new extends id known = omega (arith, ap length extends.1, length-append old extends.0)

-- known tokens are seen the same through a table that grew
pub toks_of-Extends : (old new : List (List ℕ)) → Extends old new → (tokens : List Token) → All (λ token. IsKnown old token.name) tokens → toks_of new tokens ≡ toks_of old tokens
toks_of-Extends old new extends [] known = refl
toks_of-Extends old new extends (token ∷ tokens) known =
    let here = text_of-Extends old new extends token.name (All-head (λ (t : Token). IsKnown old t.name) token tokens known) in
    let later = toks_of-Extends old new extends tokens (All-tail (λ (t : Token). IsKnown old t.name) token tokens known) in
    λ i. record (tok_of old token) { text = here i } ∷ later i

-- a pushed token is seen behind the others, with the spelling that its id has
pub toks_of-push : (old new : List (List ℕ)) (tokens : List Token) (token : Token) (spelling : List ℕ) → Extends old new → All (λ t. IsKnown old t.name) tokens → slice_get new token.name.0 ≡ Some spelling → toks_of new (tokens ++ token ∷ []) ≡ toks_of old tokens ++ record (tok_of new token) { text = spelling } ∷ []
toks_of-push old new tokens token spelling extends known stands =
    let spelled : text_of new token.name ≡ spelling = ap (λ found. unwrap_or found []) stands in
    let before = toks_of-Extends old new extends tokens known in
    map-append (tok_of new) tokens (token ∷ []) ∙ (λ i. before i ++ record (tok_of new token) { text = spelled i } ∷ [])

-- known ids stay known, and the pushed one joins them
pub AreKnown-push : (old new : List (List ℕ)) (tokens : List Token) (token : Token) → Extends old new → All (λ t. IsKnown old t.name) tokens → IsKnown new token.name → All (λ t. IsKnown new t.name) (tokens ++ token ∷ [])
AreKnown-push old new tokens token extends known here =
    All-push (λ (t : Token). IsKnown new t.name) tokens token
    (All-weaker (λ (t : Token). IsKnown old t.name) (λ (t : Token). IsKnown new t.name) (λ t. IsKnown-Extends old new extends t.name) tokens known)
    here
