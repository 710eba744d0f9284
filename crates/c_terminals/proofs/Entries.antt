-- The table of readings by ids, and the terminals that it gives.
use Rattle.std.proofs.Common.{◌≡◌, ℕ, ◌+◌, ◌<◌, Bool, true, false, List, [], ◌∷◌, ◌++◌, map, take, get_or, length, slice_get, unwrap_or, Option, Some, None, option_map, refl, sym, ap, subst, ◌∙◌, if◌then◌else◌}
use Rattle.std.specs.List.{All}
use Rattle.std.specs.Str.{bytes_eq}
use Rattle.std.proofs.lemmas.List.{map-append, take_more}
use Rattle.std.proofs.lemmas.List.Elements.{All-head, All-rest}
use Rattle.std.proofs.lemmas.Option.{same_Some, slice_get-map, slice_get-get_or, slice_get_within, get_or_from_slice_get}
use Rattle.meaning_text.specs.Tokens.{Tok}
use Rattle.meaning_grammar.specs.Words.{extension, word_reading}
use Rattle.meaning_grammar.specs.Words as words
use Rattle.meaning_grammar.specs.Terminals.{reading_of, terminal_at, terminals_from}
use Rattle.meaning_grammar.specs.Terminals as grammar
use Rattle.sparse_model.specs.declared.ids.NameId.{NameId}
use Rattle.c_tokens.specs.Seen.{IsKnown, text_of, tok_of}
use Rattle.c_tokens.specs.declared.token.Token.{Token}
use Rattle.c_terminals.specs.Seen.{reading_seen, terminal_of, entry_seen, word_entry}
use Rattle.c_terminals.specs.Left.{AreKnown}
use Rattle.c_terminals.specs.declared.reading.Reading.{Reading}

-- The table

-- one more spelling was read
pub entries-more : (names : List (List ℕ)) (entries more : List (Option Reading)) (id : ℕ) (text : List ℕ) (entry : Option Reading)
    → map entry_seen entries ≡ map word_entry (take id names) → slice_get names id ≡ Some text → entry_seen entry ≡ word_entry text
    → more ≡ entries ++ entry ∷ [] → map entry_seen more ≡ map word_entry (take (id + 1) names)
entries-more names entries more id text entry so_far is_text is_entry is_more =
    let longer : take (id + 1) names ≡ take id names ++ text ∷ [] =
    take_more names id [] (slice_get_within names id text is_text) ∙ ap (λ one. take id names ++ one ∷ []) (get_or_from_slice_get names id text [] is_text) in
    ap (map entry_seen) is_more
    ∙ map-append entry_seen entries (entry ∷ [])
    ∙ ap (λ front. front ++ entry_seen entry ∷ []) so_far
    ∙ ap (λ one. map word_entry (take id names) ++ one ∷ []) is_entry
    ∙ sym (ap (map word_entry) longer ∙ map-append word_entry (take id names) (text ∷ []))

entry-at : (names : List (List ℕ)) (entries : List (Option Reading)) (id : ℕ) (found : Option (List ℕ)) (entry : Option Reading)
    → option_map word_entry found ≡ Some (entry_seen entry) → entry_seen entry ≡ word_entry (unwrap_or found [])
entry-at names entries id None entry is = absurd (cc is)
entry-at names entries id (Some text) entry is = sym (same_Some (word_entry text) (entry_seen entry) is)

-- the entry of an id is that of its spelling
pub entry_of-name : (names : List (List ℕ)) (entries : List (Option Reading)) (id : NameId) (other : Option Reading)
    → map entry_seen entries ≡ map word_entry names → id.0 < length entries → entry_seen (get_or entries id.0 other) ≡ word_entry (text_of names id)
entry_of-name names entries id other are within =
    entry-at names entries id.0 (slice_get names id.0) (get_or entries id.0 other)
    (sym (slice_get-map word_entry names id.0) ∙ ap (λ all. slice_get all id.0) (sym are) ∙ slice_get-map entry_seen entries id.0
    ∙ ap (option_map entry_seen) (slice_get-get_or entries id.0 other within))

-- Terminals

none_if : (test : Bool) (reading : words.Reading) → (if test then None else Some reading) ≡ None → test ≡ true
none_if true reading is = refl
none_if false reading is = absurd (cc is)

some_if : (test : Bool) (reading word : words.Reading) → (if test then None else Some reading) ≡ Some word → (test ≡ false) × (word ≡ reading)
some_if true reading word is = absurd (cc is)
some_if false reading word is = (refl, sym (same_Some reading word is))

pub entry-reading : (text : List ℕ) (entry : Option Reading) (word : Reading) → entry_seen entry ≡ word_entry text → entry ≡ Some word → reading_seen word ≡ word_reading text
entry-reading text entry word is at =
    (some_if (bytes_eq text extension) (word_reading text) (reading_seen word) (sym is ∙ ap entry_seen at)).1

-- a token that is read over
pub terminals-over : (index : ℕ) (tok : Tok) (entry : Option Reading) (toks : List Tok) → entry_seen entry ≡ word_entry tok.text → entry ≡ None
    → terminals_from index (tok ∷ toks) ≡ terminals_from (index + 1) toks
terminals-over index tok entry toks is at =
    let over = none_if (bytes_eq tok.text extension) (word_reading tok.text) (sym is ∙ ap entry_seen at) in
    ap (λ (test : Bool). if test then terminals_from (index + 1) toks else terminal_at index tok ∷ terminals_from (index + 1) toks) over

abbrev terminal_with : ℕ → List ℕ → words.Reading → grammar.Terminal
terminal_with index text reading = record { index = index; class_ = reading.class_; text = text; refusal = reading.refusal }

-- and one that isn't
pub terminals-one : (names : List (List ℕ)) (index : ℕ) (token : Token) (entry : Option Reading) (word reading : Reading) (toks : List Tok)
    → entry_seen entry ≡ word_entry (text_of names token.name) → entry ≡ Some word
    → reading_seen reading ≡ reading_of token.kind (text_of names token.name)
    → terminals_from index (tok_of names token ∷ toks)
    ≡ terminal_of names (record { index = index; class = reading.class; name = token.name; refusal = reading.refusal }) ∷ terminals_from (index + 1) toks
terminals-one names index token entry word reading toks is at read =
    let kept = (some_if (bytes_eq (text_of names token.name) extension) (word_reading (text_of names token.name)) (reading_seen word) (sym is ∙ ap entry_seen at)).0 in
    ap (λ (test : Bool). if test then terminals_from (index + 1) toks else terminal_at index (tok_of names token) ∷ terminals_from (index + 1) toks) kept
    ∙ ap (λ one. terminal_with index (text_of names token.name) one ∷ terminals_from (index + 1) toks) (sym read)

-- what stands behind known tokens is known
pub known-parts : (names : List (List ℕ)) (tokens : List Token) (first : Token) (rest : List Token) → tokens ≡ first ∷ rest → AreKnown names tokens
    → IsKnown names first.name × AreKnown names rest
known-parts names tokens first rest at known =
    let IsKnownToken : Token → Type 0 = λ token. IsKnown names token.name in
    (All-head IsKnownToken first rest (subst (All IsKnownToken) at known), All-rest IsKnownToken first rest tokens at known)
