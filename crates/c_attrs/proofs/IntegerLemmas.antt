-- The integer constants of tokens, from their end.
use Rattle.std.proofs.Common.{◌≡◌, ℕ, ◌+◌, Option, Some, None, option_map, Result, Ok, Err, List, [], ◌∷◌, ◌++◌, length, refl, sym, ap, ◌∙◌, arith}
use Rattle.std.proofs.lemmas.List.{append-nil, map-append, length-map}
use Rattle.vocabulary.specs.declared.token_kind.TokenKind.{TokenKind}
use Rattle.vocabulary.specs.declared.token_kind.TokenKind.TheVariants.{Number}
use Rattle.sparse_model.specs.declared.int_const.IntConst.{IntConst}
use Rattle.meaning_text.specs.Tokens.{Tok}
use Rattle.meaning_literals.specs.Constants.{Constant, Fault}
use Rattle.meaning_literals.specs.Integers.{integer_of}
use Rattle.meaning_attributes.specs.Integers.{PlacedConstant, before_constants, constants_from}
use Rattle.c_literals.specs.Seen.{constant_seen}
use Rattle.c_tokens.specs.declared.token.Token.{Token}
use Rattle.c_tokens.specs.Seen.{tok_of, toks_of}
use Rattle.c_attrs.specs.Integers.{value_of, before_others}

-- the constant of a token before those of others is that of the token alone, and theirs behind it
before-append :
    (kind : TokenKind) (value : Result Constant Fault) (index : ℕ) (first second : List PlacedConstant)
    → before_constants kind value index (first ++ second) ≡ before_constants kind value index first ++ second
before-append Number (Ok constant) index first second = refl
before-append Number (Err fault) index first second = refl
before-append kind value index first second = refl

constants-append :
    (start : ℕ) (first second : List Tok) → constants_from start (first ++ second) ≡ constants_from start first ++ constants_from (start + length first) second
constants-append start [] second = ap (λ from. constants_from from second) (omega arith)
constants-append start (token ∷ first) second =
    let behind : start + 1 + length first ≡ start + length (token ∷ first) = omega arith in
    ap (before_constants token.kind (integer_of token.text) start) (constants-append (start + 1) first second)
    ∙ before-append token.kind (integer_of token.text) start (constants_from (start + 1) first) (constants_from (start + 1 + length first) second)
    ∙ ap (λ from. constants_from start (token ∷ first) ++ constants_from from second) behind

-- a token's constant is the one that was read
pub number-before :
    (value : Result Constant Fault) (found : Option IntConst) → option_map constant_seen found ≡ value_of value
    → (index : ℕ) (others : List PlacedConstant) → before_constants Number value index others ≡ before_others found index others
number-before (Ok constant) (Some read) is index others = ap (λ one. before_others_seen index others one) (sym is)
  where
    before_others_seen : ℕ → List PlacedConstant → Option Constant → List PlacedConstant
    before_others_seen place rest None = rest
    before_others_seen place rest (Some one) = record { index = place; constant = one } ∷ rest
number-before (Ok constant) None is index others = cc
number-before (Err fault) (Some read) is index others = cc
number-before (Err fault) None is index others = refl

-- the last token's constant is the last one
pub constants-last :
    (names : List (List ℕ)) (front : List Token) (token : Token) (found : Option IntConst)
    → ((index : ℕ) (others : List PlacedConstant)
    → before_constants (tok_of names token).kind (integer_of (tok_of names token).text) index others ≡ before_others found index others)
    → (start : ℕ) → constants_from start (toks_of names (front ++ token ∷ [])) ≡ constants_from start (toks_of names front) ++ before_others found (start + length front) []
constants-last names front token found is start =
    ap (constants_from start) (map-append (tok_of names) front (token ∷ []))
    ∙ constants-append start (toks_of names front) (tok_of names token ∷ [])
    ∙ ap (λ last. constants_from start (toks_of names front) ++ last) (is (start + length (toks_of names front)) [])
    ∙ ap (λ many. constants_from start (toks_of names front) ++ before_others found (start + many) []) (length-map front (tok_of names))

pub no_last : (constants : List PlacedConstant) (index : ℕ) → constants ++ before_others None index [] ≡ constants
no_last constants index = append-nil constants
