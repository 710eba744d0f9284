-- What stands between parentheses, and behind more than one comma.
use Rattle.std.proofs.Common.{◌≡◌, ℕ, Bool, true, false, cond, Option, Some, None, Err, Bor, List, [], ◌∷◌, ◌++◌, refl, sym, ap, ◌∙◌}
use Rattle.meaning_text.specs.Tokens.{Tok}
use Rattle.meaning_attributes.specs.Tokens.{is_closing}
use Rattle.meaning_attributes.specs.Meanings.{IsBad, BadContext}
use Rattle.meaning_attributes.specs.Items.{Between, OtherTokens, arguments_inside, before_arguments, space_at, space_of}
use Rattle.std.specs.Option.{is_some}
use Rattle.meaning_attributes.specs.Contexts.{BadChange, change_in, context_in}
use Rattle.c_tokens.specs.declared.token.Token.{Token}
use Rattle.c_attrs.specs.Fronts.{has_no_tokens, only_token}
use Rattle.c_attrs.specs.Cuts.{significant_pieces_in}
use Rattle.c_attrs.proofs.CutLemmas.{significant-is_cut}

before-either : (token : Tok) (closes : Bool) (tokens : List Tok) → before_arguments token (cond closes (Between tokens) OtherTokens) ≡ cond closes (Between (token ∷ tokens)) OtherTokens
before-either token true tokens = refl
before-either token false tokens = refl

-- the last token closes what was opened, or nothing does
pub arguments_inside_last : (tokens : List Tok) (token : Tok) → arguments_inside (tokens ++ token ∷ []) ≡ cond (is_closing token.kind) (Between tokens) OtherTokens
arguments_inside_last [] token = refl
arguments_inside_last (first ∷ []) token = before-either first (is_closing token.kind) []
arguments_inside_last (first ∷ second ∷ tokens) token =
    ap (before_arguments first) (arguments_inside_last (second ∷ tokens) token) ∙ before-either first (is_closing token.kind) (second ∷ tokens)

-- more than three pieces are no context
pub context_in-more : (first second third fourth : List Tok) (pieces : List (List Tok)) → context_in (first ∷ second ∷ third ∷ fourth ∷ pieces) ≡ IsBad BadContext
context_in-more [] second third fourth pieces = refl
context_in-more (word ∷ words) second third fourth pieces = refl

-- the one token tells the space
pub space_of-only : (tokens : List Tok) (token : Tok) → Some token ≡ only_token tokens → space_of (Between tokens) ≡ space_at token
space_of-only [] token is = cc
space_of-only (only ∷ []) token is = let same : token ≡ only = cc in ap space_at (sym same)
space_of-only (first ∷ second ∷ tokens) token is = cc

-- more than two pieces are no change
change_in-more : (first second third : List Tok) (pieces : List (List Tok)) → change_in (first ∷ second ∷ third ∷ pieces) ≡ Err BadChange
change_in-more [] second third pieces = refl
change_in-more (word ∷ words) second third pieces = refl

-- nor is any where something is left behind them
pub context_in-further : (names : List (List ℕ)) (first second third : List Tok) (left : Option (Bor (List Token))) → is_some left ≡ true → context_in (first ∷ second ∷ third ∷ significant_pieces_in names left) ≡ IsBad BadContext
context_in-further names first second third None some = cc
context_in-further names first second third (Some further) some =
    ap (λ pieces. context_in (first ∷ second ∷ third ∷ pieces)) (significant-is_cut names 0 further.now) ∙ context_in-more first second third _ _

pub change_in-further : (names : List (List ℕ)) (first second : List Tok) (left : Option (Bor (List Token))) → is_some left ≡ true → change_in (first ∷ second ∷ significant_pieces_in names left) ≡ Err BadChange
change_in-further names first second None some = cc
change_in-further names first second (Some further) some =
    ap (λ pieces. change_in (first ∷ second ∷ pieces)) (significant-is_cut names 0 further.now) ∙ change_in-more first second _ _

-- nor where no words stand before the first comma
pub context_in-unworded : (first second third : List Tok) (pieces : List (List Tok)) → has_no_tokens first ≡ true → context_in (first ∷ second ∷ third ∷ pieces) ≡ IsBad BadContext
context_in-unworded [] second third [] none = refl
context_in-unworded [] second third (piece ∷ pieces) none = refl
context_in-unworded (word ∷ words) second third pieces none = cc

pub change_in-unworded : (first second : List Tok) (pieces : List (List Tok)) → has_no_tokens first ≡ true → change_in (first ∷ second ∷ pieces) ≡ Err BadChange
change_in-unworded [] second [] none = refl
change_in-unworded [] second (piece ∷ pieces) none = refl
change_in-unworded (word ∷ words) second pieces none = cc
