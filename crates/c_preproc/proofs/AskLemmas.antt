-- What the line of an `#include` asks for.
use Rattle.std.proofs.Common.{◌≡◌, ◌<◌, ℕ, Bool, true, false, List, [], ◌∷◌, length, ap, ◌∙◌, arith}
use Rattle.std.proofs.lemmas.List.{nil_from_length}
use Rattle.vocabulary.specs.declared.error_kind.ErrorKind.TheVariants.{MalformedDirective}
use Rattle.meaning_text.specs.Tokens.{Tok}
use Rattle.meaning_preprocessing.specs.Directives.{asked, asked_if, include_turn}
use Rattle.meaning_preprocessing.specs.Groups.{Turn, Halts, turn_of_ending, with_expanded}
use Rattle.meaning_preprocessing.specs.Search.{header_of, header_spelled, is_header_kind}
use Rattle.meaning_preprocessing.specs.State.{UnitState, Continues, Piece, expanded_in, refused}
use Rattle.c_tokens.specs.declared.token.Token.{Token}
use Rattle.c_tokens.specs.Seen.{text_of, tok_of, toks_of}

abbrev by_kind : Bool → Turn → Turn → Turn
by_kind name first second = elim name as (λ _. Turn) [ true ↦ first | false ↦ second ]

module _ (hash first : Tok) (s : UnitState) where
  abbrev goes : List Tok → UnitState → Turn
  goes = λ tokens u. asked_if hash first (header_of tokens) u

  -- a header name alone
  pub asks-name : is_header_kind first.kind ≡ true → include_turn hash (first ∷ []) s ≡ asked hash first (header_spelled first.text) s
  asks-name is = ap (λ b. by_kind b (asked hash first (header_spelled first.text) s) (with_expanded s (first ∷ []) goes)) is

  -- with something behind it
  pub asks-more : (other : Tok) (rest : List Tok) → is_header_kind first.kind ≡ true → include_turn hash (first ∷ other ∷ rest) s ≡ Halts (refused s MalformedDirective hash.at [])
  asks-more other rest is = ap (λ b. by_kind b (Halts (refused s MalformedDirective hash.at [])) (with_expanded s (first ∷ other ∷ rest) goes)) is

  -- which became these
  pub expanded-asks : (tokens left : List Tok) (u : UnitState) → expanded_in s tokens ≡ record { tokens = left; ending = Continues u } → with_expanded s tokens goes ≡ asked_if hash first (header_of left) u
  expanded-asks tokens left u is = ap (λ (p : Piece). turn_of_ending p.tokens p.ending goes) is

-- The tokens of a line

module _ (names : List (List ℕ)) (hash : Tok) (s : UnitState) (first : Token) (others line : List Token) (is : line ≡ first ∷ others) where
  pub line-asks : length others ≡ 0 → is_header_kind first.kind ≡ true → include_turn hash (toks_of names line) s ≡ asked hash (tok_of names first) (header_spelled (text_of names first.name)) s
  line-asks none name =
      ap (λ ts. include_turn hash (toks_of names ts) s) is ∙ ap (λ ts. include_turn hash (tok_of names first ∷ toks_of names ts) s) (nil_from_length others none)
      ∙ asks-name hash (tok_of names first) s name

  pub line-goes-on : 0 < length others → is_header_kind first.kind ≡ true → include_turn hash (toks_of names line) s ≡ Halts (refused s MalformedDirective hash.at [])
  line-goes-on some name = ap (λ ts. include_turn hash (toks_of names ts) s) is ∙ by others some
    where
      by : (rest : List Token) → 0 < length rest → include_turn hash (tok_of names first ∷ toks_of names rest) s ≡ Halts (refused s MalformedDirective hash.at [])
      by [] none = absurd (omega (arith, none))
      by (other ∷ rest) more = asks-more hash (tok_of names first) s (tok_of names other) (toks_of names rest) name
