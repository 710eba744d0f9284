-- The parts of a file by the lengths of its lines and texts.
use Rattle.std.proofs.Common.{◌≡◌, ◌-◌, ℕ, suc, Bool, true, false, ◌&&◌, List, [], ◌∷◌, ◌++◌, length, take, drop, take-append-drop, refl, sym, ap, subst, ◌∙◌, if◌then◌else◌, append_assoc, arith, length-append}
use Rattle.std.proofs.Math.Seq.{drop-append_seam}
use Rattle.std.specs.Bool.{⊤}
use Rattle.std.proofs.lemmas.List.{append-nil}
use Rattle.meaning_text.specs.Tokens.{Tok, is_hash}
use Rattle.meaning_preprocessing.specs.Lines.{Line, FileParts, LastText, DirectiveBehind, before_lines, lines_of, file_parts, text_before}
use Rattle.c_tokens.specs.declared.token.Token.{Token}
use Rattle.c_tokens.specs.Seen.{tok_of, toks_of}
use Rattle.c_directives.specs.Lines.{parts_of, line_length, text_behind, text_length}

-- a text before parts
abbrev texts_before : List Tok → FileParts → FileParts
texts_before text (LastText more) = LastText (text ++ more)
texts_before text (DirectiveBehind more hash rest parts) = DirectiveBehind (text ++ more) hash rest parts

texts_before-line : (line : Line) (parts : FileParts) → text_before line parts ≡ texts_before (line.first ∷ line.rest) parts
texts_before-line line (LastText text) = refl
texts_before-line line (DirectiveBehind text hash rest parts) = refl

texts_before-nil : (parts : FileParts) → texts_before [] parts ≡ parts
texts_before-nil (LastText text) = refl
texts_before-nil (DirectiveBehind text hash rest parts) = refl

texts_before-cons : (t : Tok) (text : List Tok) (parts : FileParts) → texts_before (t ∷ []) (texts_before text parts) ≡ texts_before (t ∷ text) parts
texts_before-cons t text (LastText more) = refl
texts_before-cons t text (DirectiveBehind more hash rest parts) = refl

module _ (names : List (List ℕ)) where
  -- the line that a token begins
  abbrev line_from : Token → List Token → Line
  line_from t ts = record { first = tok_of names t; rest = toks_of names (take (line_length ts) ts) }

  -- the tokens behind the first line
  abbrev behind_line : List Token → List Token
  behind_line ts = drop (line_length ts) ts

  lines-front : (t : Token) (ts : List Token) → lines_of (toks_of names (t ∷ ts)) ≡ line_from t ts ∷ lines_of (toks_of names (behind_line ts))
  lines-front t [] = refl
  lines-front t (u ∷ us) = ap (before_lines (tok_of names t)) (lines-front u us) ∙ by (lines-front u us) u.line_start
    where
      by : lines_of (toks_of names (u ∷ us)) ≡ line_from u us ∷ lines_of (toks_of names (behind_line us)) → (begins : Bool) →
          (elim begins as (λ _. List Line) [
            | true ↦ record { first = tok_of names t; rest = [] } ∷ line_from u us ∷ lines_of (toks_of names (behind_line us))
            | false ↦ record { first = tok_of names t; rest = tok_of names u ∷ toks_of names (take (line_length us) us) } ∷ lines_of (toks_of names (behind_line us))
          ])
          ≡ record { first = tok_of names t; rest = toks_of names (take (if begins then 0 else suc (line_length us)) (u ∷ us)) }
          ∷ lines_of (toks_of names (drop (if begins then 0 else suc (line_length us)) (u ∷ us)))
      by later true = ap (λ lines. record { first = tok_of names t; rest = [] } ∷ lines) (sym later)
      by later false = refl

  abbrev parts_by : Bool → Token → List Token → FileParts
  parts_by hash t ts = elim hash as (λ _. FileParts) [
    | true ↦ DirectiveBehind [] (tok_of names t) (toks_of names (take (line_length ts) ts)) (parts_of names (behind_line ts))
    | false ↦ text_before (line_from t ts) (parts_of names (behind_line ts))
  ]

  -- a line whose first token is a `#` is a directive, and others are text
  parts-front : (t : Token) (ts : List Token) (hash : Bool) → is_hash t.kind ≡ hash → parts_of names (t ∷ ts) ≡ parts_by hash t ts
  parts-front t ts hash is = ap file_parts (lines-front t ts) ∙ ap (λ h. parts_by h t ts) is

  -- a line of text and the text behind it
  text-front : (t : Token) (ts : List Token) → text_before (line_from t ts) (parts_of names (behind_line ts))
      ≡ texts_before (toks_of names (t ∷ take (text_behind ts) ts)) (parts_of names (drop (text_behind ts) ts))
  text-front t [] = refl
  text-front t (v ∷ vs) = by (text-front v vs) v.line_start (is_hash v.kind) refl
    where
      by : text_before (line_from v vs) (parts_of names (behind_line vs)) ≡ texts_before (toks_of names (v ∷ take (text_behind vs) vs)) (parts_of names (drop (text_behind vs) vs)) → (begins hash : Bool) → is_hash v.kind ≡ hash →
          text_before (record { first = tok_of names t; rest = toks_of names (take (if begins then 0 else suc (line_length vs)) (v ∷ vs)) })
          (parts_of names (drop (if begins then 0 else suc (line_length vs)) (v ∷ vs)))
          ≡ texts_before (toks_of names (t ∷ take (if begins && hash then 0 else suc (text_behind vs)) (v ∷ vs)))
          (parts_of names (drop (if begins && hash then 0 else suc (text_behind vs)) (v ∷ vs)))
      by later true true is = texts_before-line (record { first = tok_of names t; rest = [] }) (parts_of names (v ∷ vs))
      by later true false is =
          texts_before-line (record { first = tok_of names t; rest = [] }) (parts_of names (v ∷ vs))
          ∙ ap (texts_before (tok_of names t ∷ [])) (parts-front v vs false is ∙ later)
          ∙ texts_before-cons (tok_of names t) (toks_of names (v ∷ take (text_behind vs) vs)) (parts_of names (drop (text_behind vs) vs))
      by later false hash is =
          texts_before-line (record { first = tok_of names t; rest = tok_of names v ∷ toks_of names (take (line_length vs) vs) }) (parts_of names (behind_line vs))
          ∙ sym (texts_before-cons (tok_of names t) (tok_of names v ∷ toks_of names (take (line_length vs) vs)) (parts_of names (behind_line vs)))
          ∙ ap (texts_before (tok_of names t ∷ [])) (sym (texts_before-line (line_from v vs) (parts_of names (behind_line vs))) ∙ later)
          ∙ texts_before-cons (tok_of names t) (toks_of names (v ∷ take (text_behind vs) vs)) (parts_of names (drop (text_behind vs) vs))

  -- the text before the first directive
  text-all : (ts : List Token) → parts_of names ts ≡ texts_before (toks_of names (take (text_length ts) ts)) (parts_of names (drop (text_length ts) ts))
  text-all [] = refl
  text-all (t ∷ ts) = by (is_hash t.kind) refl
    where
      by : (hash : Bool) → is_hash t.kind ≡ hash →
          parts_of names (t ∷ ts)
          ≡ texts_before (toks_of names (take (if hash then 0 else suc (text_behind ts)) (t ∷ ts))) (parts_of names (drop (if hash then 0 else suc (text_behind ts)) (t ∷ ts)))
      by true is = sym (texts_before-nil (parts_of names (t ∷ ts)))
      by false is = parts-front t ts false is ∙ text-front t ts

  -- where nothing is behind the text, it is the last
  pub last_text : (ts : List Token) → drop (text_length ts) ts ≡ [] → parts_of names ts ≡ LastText (toks_of names (take (text_length ts) ts))
  last_text ts none =
      text-all ts ∙ ap (λ left. texts_before (toks_of names (take (text_length ts) ts)) (parts_of names left)) none
      ∙ ap LastText (append-nil (toks_of names (take (text_length ts) ts)))

-- the list has no token, or begins with a `#`
abbrev BeginsWithHash : List Token → Type 0
BeginsWithHash [] = ⊤
BeginsWithHash (t ∷ ts) = is_hash t.kind ≡ true

hash-behind : (ts : List Token) → BeginsWithHash (drop (text_behind ts) ts)
hash-behind [] = tt
hash-behind (v ∷ vs) = by (hash-behind vs) v.line_start (is_hash v.kind) refl
  where
    by : BeginsWithHash (drop (text_behind vs) vs) → (begins hash : Bool) → is_hash v.kind ≡ hash → BeginsWithHash (drop (if begins && hash then 0 else suc (text_behind vs)) (v ∷ vs))
    by later true true is = is
    by later true false is = later
    by later false hash is = later

hash-first : (ts : List Token) → BeginsWithHash (drop (text_length ts) ts)
hash-first [] = tt
hash-first (t ∷ ts) = by (is_hash t.kind) refl
  where
    by : (hash : Bool) → is_hash t.kind ≡ hash → BeginsWithHash (drop (if hash then 0 else suc (text_behind ts)) (t ∷ ts))
    by true is = is
    by false is = hash-behind ts

-- otherwise a directive is behind it
pub directive_behind : (names : List (List ℕ)) (ts : List Token) (hash : Token) (others : List Token) → drop (text_length ts) ts ≡ hash ∷ others
    → parts_of names ts ≡ DirectiveBehind (toks_of names (take (text_length ts) ts)) (tok_of names hash) (toks_of names (take (line_length others) others)) (parts_of names (drop (line_length others) others))
directive_behind names ts hash others found =
    let begins : is_hash hash.kind ≡ true = subst BeginsWithHash found (hash-first ts) in
    text-all names ts
    ∙ ap (texts_before (toks_of names (take (text_length ts) ts))) (ap (parts_of names) found ∙ parts-front names hash others true begins)
    ∙ ap (λ text. DirectiveBehind text (tok_of names hash) (toks_of names (take (line_length others) others)) (parts_of names (drop (line_length others) others)))
    (append-nil (toks_of names (take (text_length ts) ts)))

-- the same of tokens that were split
pub last_seen : (names : List (List ℕ)) (ts text left : List Token) (n : ℕ) → n ≡ text_length ts → text ≡ take n ts → left ≡ drop n ts → left ≡ []
    → parts_of names ts ≡ LastText (toks_of names text)
last_seen names ts text left n is front back none =
    last_text names ts (ap (λ k. drop k ts) (sym is) ∙ sym back ∙ none)
    ∙ ap (λ tokens. LastText (toks_of names tokens)) (sym (front ∙ ap (λ k. take k ts) is))

pub directive_seen : (names : List (List ℕ)) (ts text left : List Token) (n : ℕ) (hash : Token) (others rest behind : List Token) (m : ℕ)
    → n ≡ text_length ts → text ≡ take n ts → left ≡ drop n ts → left ≡ hash ∷ others → m ≡ line_length others → rest ≡ take m others → behind ≡ drop m others
    → parts_of names ts ≡ DirectiveBehind (toks_of names text) (tok_of names hash) (toks_of names rest) (parts_of names behind)
directive_seen names ts text left n hash others rest behind m is front back found line first after =
    directive_behind names ts hash others (ap (λ k. drop k ts) (sym is) ∙ sym back ∙ found)
    ∙ (λ i. DirectiveBehind (toks_of names (sym (front ∙ ap (λ k. take k ts) is) i)) (tok_of names hash)
    (toks_of names (sym (first ∙ ap (λ k. take k others) line) i)) (parts_of names (sym (after ∙ ap (λ k. drop k others) line) i)))

-- and of those from its `#` on
pub from_hash_seen : (names : List (List ℕ)) (ts left : List Token) (n : ℕ) (hash : Token) (others rest behind : List Token) (m : ℕ)
    → n ≡ text_length ts → left ≡ drop n ts → left ≡ hash ∷ others → m ≡ line_length others → rest ≡ take m others → behind ≡ drop m others
    → parts_of names (hash ∷ rest ++ behind) ≡ DirectiveBehind [] (tok_of names hash) (toks_of names rest) (parts_of names behind)
from_hash_seen names ts left n hash others rest behind m is back found line first after =
    let begins : is_hash hash.kind ≡ true = subst BeginsWithHash (ap (λ k. drop k ts) (sym is) ∙ sym back ∙ found) (hash-first ts) in
    let all : rest ++ behind ≡ others = (λ i. first i ++ after i) ∙ take-append-drop m others in
    ap (λ tokens. parts_of names (hash ∷ tokens)) all
    ∙ parts-front names hash others true begins
    ∙ (λ i. DirectiveBehind [] (tok_of names hash)
    (toks_of names (sym (first ∙ ap (λ k. take k others) line) i)) (parts_of names (sym (after ∙ ap (λ k. drop k others) line) i)))

-- where what is left is read up to its end, that end is left
pub left-behind : (tokens before behind : List Token) (left now : ℕ) → before ++ behind ≡ drop (length tokens - left) tokens → now ≡ length behind → drop (length tokens - now) tokens ≡ behind
left-behind tokens before behind left now is same =
    let skipped = length tokens - left in
    let all : tokens ≡ (take skipped tokens ++ before) ++ behind =
    sym (take-append-drop skipped tokens) ∙ ap (λ (ts : List Token). take skipped tokens ++ ts) (sym is) ∙ sym (append_assoc (take skipped tokens) before behind) in
    let count : length tokens - now ≡ length (take skipped tokens ++ before) = omega (arith, same, ap length all, length-append (take skipped tokens ++ before) behind) in
    ap (λ n. drop n tokens) count ∙ ap (drop (length (take skipped tokens ++ before))) all ∙ drop-append_seam (take skipped tokens ++ before) behind
