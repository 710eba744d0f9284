-- Tokens and paths under new ids, one behind the other.
use Rattle.std.proofs.Common.{◌≡◌, ℕ, List, [], ◌∷◌, ◌++◌, slice_get, Some, unwrap_or, false, length, get_or, take, ◌+◌, ◌<◌, All, refl, sym, ap, ap₂, subst, ◌∙◌}
use Rattle.std.proofs.lemmas.List.{map-append, take_more}
use Rattle.std.proofs.lemmas.List.Elements.{All-head, All-tail, All-push, All-weaker}
use Rattle.vocabulary.specs.declared.token_kind.TokenKind.TheVariants.{Identifier}
use Rattle.sparse_model.specs.declared.ids.NameId.{NameId}
use Rattle.c_tokens.specs.declared.token.Token.{Token}
use Rattle.c_tokens.specs.Seen.{Extends, IsKnown, spellings_of, text_of, tok_of, toks_of}
use Rattle.c_tokens.specs.Spellings.{with_spelling, with_spellings}
use Rattle.c_tokens.proofs.SeenLemmas.{AreKnown-push, IsKnown-Extends, text_of-Extends, toks_of-push}
use Rattle.c_tokens.proofs.TableLemmas.{with_spellings-push}
use Rattle.unit_names.specs.Numbering.{spelled}

-- a token more is seen as before
pub toks-more : (names old new : List (List ℕ)) (front list : List Token) (token : Token) (name : NameId) → Extends old new
    → All (λ (one : Token). IsKnown old one.name) list → slice_get new name.0 ≡ Some (text_of names token.name) → toks_of old list ≡ toks_of names front
    → toks_of new (list ++ record token { name = name } ∷ []) ≡ toks_of names (front ++ token ∷ [])
toks-more names old new front list token name extends known stands same =
    toks_of-push old new list (record token { name = name }) (text_of names token.name) extends known stands
    ∙ ap (λ toks. toks ++ tok_of names token ∷ []) same ∙ sym (map-append (tok_of names) front (token ∷ []))

-- and its spelling joins the table behind the others
pub table-more : (names start old new : List (List ℕ)) (front : List Token) (token : Token) → new ≡ with_spelling old (text_of names token.name)
    → old ≡ with_spellings start (spellings_of (toks_of names front)) → new ≡ with_spellings start (spellings_of (toks_of names (front ++ token ∷ [])))
table-more names start old new front token joins before =
    joins ∙ ap (λ table. with_spelling table (text_of names token.name)) before
    ∙ sym (with_spellings-push start (spellings_of (toks_of names front)) (text_of names token.name))
    ∙ sym (ap (with_spellings start) spelled_behind)
  where
    spelled_behind : spellings_of (toks_of names (front ++ token ∷ [])) ≡ spellings_of (toks_of names front) ++ text_of names token.name ∷ []
    spelled_behind = ap spellings_of (map-append (tok_of names) front (token ∷ [])) ∙ map-append (λ tok. tok.text) (toks_of names front) (tok_of names token ∷ [])

spelled-Extends : (old new : List (List ℕ)) (ids : List NameId) → Extends old new → All (IsKnown old) ids → spelled new ids ≡ spelled old ids
spelled-Extends old new [] extends known = refl
spelled-Extends old new (id ∷ ids) extends known =
    ap₂ (λ text texts. text ∷ texts) (text_of-Extends old new extends id (All-head (IsKnown old) id ids known))
    (spelled-Extends old new ids extends (All-tail (IsKnown old) id ids known))

-- a path more is spelled as before
pub paths-more : (names old new : List (List ℕ)) (front list : List NameId) (path name : NameId) → Extends old new → All (IsKnown old) list
    → slice_get new name.0 ≡ Some (text_of names path) → spelled old list ≡ spelled names front
    → spelled new (list ++ name ∷ []) ≡ spelled names (front ++ path ∷ [])
paths-more names old new front list path name extends known stands same =
    map-append (text_of new) list (name ∷ [])
    ∙ ap₂ (λ texts text. texts ++ text ∷ []) (spelled-Extends old new list extends known ∙ same) (ap (λ found. unwrap_or found []) stands)
    ∙ sym (map-append (text_of names) front (path ∷ []))

-- what a loop tells of a token that isn't there
abbrev pub no_token : Token
no_token =
    record {
      kind = Identifier;
      space_before = false;
      line_start = false;
      name = record { 0 = 0 };
      place = record { file = 0; line = 0; column = 0 };
    }

-- the tokens up to the next one
pub toks-next : (names old new : List (List ℕ)) (tokens list later : List Token) (index : ℕ) (name : NameId) → index < length tokens
    → later ≡ list ++ record (get_or tokens index no_token) { name = name } ∷ [] → Extends old new → All (λ (one : Token). IsKnown old one.name) list
    → slice_get new name.0 ≡ Some (text_of names (get_or tokens index no_token).name) → toks_of old list ≡ toks_of names (take index tokens)
    → toks_of new later ≡ toks_of names (take (index + 1) tokens)
toks-next names old new tokens list later index name within pushed extends known stands same =
    ap (toks_of new) pushed ∙ toks-more names old new (take index tokens) list (get_or tokens index no_token) name extends known stands same
    ∙ ap (toks_of names) (sym (take_more tokens index no_token within))

pub table-next : (names start old new : List (List ℕ)) (tokens : List Token) (index : ℕ) → index < length tokens
    → new ≡ with_spelling old (text_of names (get_or tokens index no_token).name)
    → old ≡ with_spellings start (spellings_of (toks_of names (take index tokens))) → new ≡ with_spellings start (spellings_of (toks_of names (take (index + 1) tokens)))
table-next names start old new tokens index within joins before =
    table-more names start old new (take index tokens) (get_or tokens index no_token) joins before
    ∙ ap (λ (front : List Token). with_spellings start (spellings_of (toks_of names front))) (sym (take_more tokens index no_token within))

-- the paths up to the next one
pub paths-next : (names old new : List (List ℕ)) (paths list later : List NameId) (index : ℕ) (name : NameId) → index < length paths
    → later ≡ list ++ name ∷ [] → Extends old new → All (IsKnown old) list
    → slice_get new name.0 ≡ Some (text_of names (get_or paths index (record { 0 = 0 }))) → spelled old list ≡ spelled names (take index paths)
    → spelled new later ≡ spelled names (take (index + 1) paths)
paths-next names old new paths list later index name within pushed extends known stands same =
    ap (spelled new) pushed ∙ paths-more names old new (take index paths) list (get_or paths index (record { 0 = 0 })) name extends known stands same
    ∙ ap (spelled names) (sym (take_more paths index (record { 0 = 0 }) within))

-- and their spellings join the table
pub paths-table-next : (names start old new : List (List ℕ)) (paths : List NameId) (index : ℕ) → index < length paths
    → new ≡ with_spelling old (text_of names (get_or paths index (record { 0 = 0 }))) → old ≡ with_spellings start (spelled names (take index paths))
    → new ≡ with_spellings start (spelled names (take (index + 1) paths))
paths-table-next names start old new paths index within joins before =
    let path : NameId = get_or paths index (record { 0 = 0 }) in
    joins ∙ ap (λ (table : List (List ℕ)). with_spelling table (text_of names path)) before
    ∙ sym (with_spellings-push start (spelled names (take index paths)) (text_of names path))
    ∙ ap (with_spellings start) (sym (map-append (text_of names) (take index paths) (path ∷ [])))
    ∙ ap (λ (front : List NameId). with_spellings start (spelled names front)) (sym (take_more paths index (record { 0 = 0 }) within))

pub paths-known : (old new : List (List ℕ)) (list later : List NameId) (name : NameId) → later ≡ list ++ name ∷ [] → Extends old new → All (IsKnown old) list → IsKnown new name
    → All (IsKnown new) later
paths-known old new list later name pushed extends known here =
    subst (All (IsKnown new)) (sym pushed)
    (All-push (IsKnown new) list name (All-weaker (IsKnown old) (IsKnown new) (IsKnown-Extends old new extends) list known) here)

pub tokens-known : (old new : List (List ℕ)) (list later : List Token) (token : Token) → later ≡ list ++ token ∷ [] → Extends old new
    → All (λ (one : Token). IsKnown old one.name) list → IsKnown new token.name → All (λ (one : Token). IsKnown new one.name) later
tokens-known old new list later token pushed extends known here =
    subst (All (λ (one : Token). IsKnown new one.name)) (sym pushed) (AreKnown-push old new list token extends known here)
