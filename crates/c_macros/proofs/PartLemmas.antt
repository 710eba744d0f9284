-- The operands of a body have no ids but those of the body.
use Rattle.std.proofs.Common.{◌≡◌, ◌<◌, ℕ, Bool, true, false, nat_eq, ◌+◌, ◌&&◌, List, [], ◌∷◌, length, map, All, Option, Some, None, if◌then◌else◌, refl, sym, ap, subst}
use Rattle.std.specs.Bool.{⊤}
use Rattle.std.specs.List.{AllByRecursion as ByRecursion}
use Rattle.std.proofs.lemmas.List.Elements.{All-from_recursion, All-head, All-tail}
use Rattle.meaning_text.specs.Tokens.{Tok}
use Rattle.meaning_macros.specs.Signs.{is_hash_hash, is_comma}
use Rattle.meaning_macros.specs.Macros.{parameters_of, without_first_space}
use Rattle.meaning_macros.specs.Bodies.{Operand, OwnToken, Argument, Stringized, CommaAndRest, BodyPiece, PasteSign, OneOperand, Chain, chains, chains_of, hung_before, with_rests, pieces_of, piece_of, argument_or_own, parameter_of, stringized_by}
use Rattle.c_tokens.specs.declared.token.Token.{Token}
use Rattle.c_tokens.specs.Seen.{IsKnown}
use Rattle.c_macros.specs.declared.definition.Macro.{Macro}
use Rattle.c_macros.specs.declared.operand.Operand as rust
use Rattle.c_macros.specs.declared.operand.Operand.TheVariants as kinds
use Rattle.c_macros.specs.declared.operand.Part.{Part}
use Rattle.c_macros.specs.Operands.{begins_next, grouped, part_by, operand_by}
use Rattle.c_macros.specs.Seen.{IsKnownMacro, KeepsApart, Spelling, macro_by, own_text, token_by}
use Rattle.c_macros.proofs.ParameterLemmas.{own_text-KeepsApart}
use Rattle.c_macros.specs.Substitution.{AreKnownParts, IsKnownOperand}

-- the id by which the token is told is one of the table
abbrev Told : List (List ℕ) → Tok → Type 0
Told names t = (n : ℕ) → t.text ≡ n ∷ [] → n < length names

abbrev OfOperand : List (List ℕ) → Operand → Type 0
OfOperand names (OwnToken t) = Told names t
OfOperand names (Argument space k) = ⊤
OfOperand names (Stringized space k) = ⊤
OfOperand names (CommaAndRest t space k) = Told names t

abbrev OfPiece : List (List ℕ) → BodyPiece → Type 0
OfPiece names PasteSign = ⊤
OfPiece names (OneOperand o) = OfOperand names o

abbrev EachToken : List (List ℕ) → List Tok → Type 0
EachToken names [] = ⊤
EachToken names (t ∷ ts) = Told names t × EachToken names ts

abbrev EachPiece : List (List ℕ) → List BodyPiece → Type 0
EachPiece names [] = ⊤
EachPiece names (p ∷ ps) = OfPiece names p × EachPiece names ps

abbrev EachOperand : List (List ℕ) → List Operand → Type 0
EachOperand names [] = ⊤
EachOperand names (o ∷ os) = OfOperand names o × EachOperand names os

abbrev EachChain : List (List ℕ) → List Chain → Type 0
EachChain names [] = ⊤
EachChain names (c ∷ cs) = EachOperand names c × EachChain names cs

piece-each : (names : List (List ℕ)) (params : List (List ℕ)) (t : Tok) → Told names t → OfPiece names (piece_of params t)
piece-each names params t told = by (is_hash_hash t.kind) (parameter_of params t)
  where
    by : (sign : Bool) (parameter : Option ℕ) → OfPiece names (if sign then PasteSign else OneOperand (argument_or_own t parameter))
    by true parameter = tt
    by false None = told
    by false (Some k) = tt

pieces-each : (names params : List (List ℕ)) (ts : List Tok) → EachToken names ts → EachPiece names (pieces_of params ts)
pieces-each names params [] told = tt
pieces-each names params (a ∷ []) told = (piece-each names params a told.0, tt)
pieces-each names params (a ∷ b ∷ body) told =
    elim (stringized_by params a b) as (λ found. EachPiece names (elim found as (λ _. List BodyPiece) [
      | Some k ↦ OneOperand (Stringized a.space_before k) ∷ pieces_of params body
      | None ↦ piece_of params a ∷ pieces_of params (b ∷ body)
    ])) [
      | Some k ↦ (tt, pieces-each names params body told.1.1)
      | None ↦ (piece-each names params a told.0, pieces-each names params (b ∷ body) told.1)
    ]

rests-each : (names : List (List ℕ)) (variadic : Bool) (count : ℕ) (ps : List BodyPiece) → EachPiece names ps → EachPiece names (with_rests variadic count ps)
rests-each names variadic count [] told = tt
rests-each names variadic count (PasteSign ∷ ps) told = (tt, rests-each names variadic count ps told.1)
rests-each names variadic count (OneOperand (Argument space k) ∷ ps) told = (tt, rests-each names variadic count ps told.1)
rests-each names variadic count (OneOperand (Stringized space k) ∷ ps) told = (tt, rests-each names variadic count ps told.1)
rests-each names variadic count (OneOperand (CommaAndRest t space k) ∷ ps) told = (told.0, rests-each names variadic count ps told.1)
rests-each names variadic count (OneOperand (OwnToken t) ∷ []) told = (told.0, tt)
rests-each names variadic count (OneOperand (OwnToken t) ∷ OneOperand o ∷ ps) told = (told.0, rests-each names variadic count (OneOperand o ∷ ps) told.1)
rests-each names variadic count (OneOperand (OwnToken t) ∷ PasteSign ∷ []) told = (told.0, (tt, tt))
rests-each names variadic count (OneOperand (OwnToken t) ∷ PasteSign ∷ PasteSign ∷ ps) told = (told.0, rests-each names variadic count (PasteSign ∷ PasteSign ∷ ps) told.1)
rests-each names variadic count (OneOperand (OwnToken t) ∷ PasteSign ∷ OneOperand (OwnToken u) ∷ ps) told = (told.0, rests-each names variadic count (PasteSign ∷ OneOperand (OwnToken u) ∷ ps) told.1)
rests-each names variadic count (OneOperand (OwnToken t) ∷ PasteSign ∷ OneOperand (Stringized space k) ∷ ps) told = (told.0, rests-each names variadic count (PasteSign ∷ OneOperand (Stringized space k) ∷ ps) told.1)
rests-each names variadic count (OneOperand (OwnToken t) ∷ PasteSign ∷ OneOperand (CommaAndRest u space k) ∷ ps) told = (told.0, rests-each names variadic count (PasteSign ∷ OneOperand (CommaAndRest u space k) ∷ ps) told.1)
rests-each names variadic count (OneOperand (OwnToken t) ∷ PasteSign ∷ OneOperand (Argument space k) ∷ ps) told =
    elim (variadic && is_comma t.kind && nat_eq (k + 1) count) as (λ rest. EachPiece names (elim rest as (λ _. List BodyPiece) [
      | true ↦ OneOperand (CommaAndRest t space k) ∷ with_rests variadic count ps
      | false ↦ OneOperand (OwnToken t) ∷ PasteSign ∷ OneOperand (Argument space k) ∷ with_rests variadic count ps
    ])) [
      | true ↦ (told.0, rests-each names variadic count ps told.1.1.1)
      | false ↦ (told.0, (tt, (tt, rests-each names variadic count ps told.1.1.1)))
    ]

hung-each : (names : List (List ℕ)) (o : Operand) (cs : List Chain) → OfOperand names o → EachChain names cs → EachChain names (hung_before o cs)
hung-each names o [] told all = ((told, tt), tt)
hung-each names o (c ∷ cs) told all = ((told, all.0), all.1)

chains-each : (names : List (List ℕ)) (ps : List BodyPiece) → EachPiece names ps → EachChain names (chains_of ps)
chains-each names [] told = tt
chains-each names (PasteSign ∷ ps) told = chains-each names ps told.1
chains-each names (OneOperand o ∷ []) told = ((told.0, tt), tt)
chains-each names (OneOperand o ∷ PasteSign ∷ ps) told = hung-each names o (chains_of ps) told.0 (chains-each names ps told.1.1)
chains-each names (OneOperand o ∷ OneOperand p ∷ ps) told = ((told.0, tt), chains-each names (OneOperand p ∷ ps) told.1)

unhung-each : (names : List (List ℕ)) (o : Operand) (cs : List Chain) → EachChain names (hung_before o cs) → OfOperand names o × EachChain names cs
unhung-each names o [] all = (all.0.0, tt)
unhung-each names o (c ∷ cs) all = (all.0.0, (all.0.1, all.1))

flat-each : (names : List (List ℕ)) (parts : List Part) → EachChain names (grouped (map (part_by own_text) parts)) → ByRecursion (λ (part : Part). IsKnownOperand names part.operand) parts
flat-each names [] all = tt
flat-each names (part ∷ parts) all = by (flat-each names parts) (begins_next (map (part_by own_text) parts)) all
  where
    known : (o : rust.Operand) → OfOperand names (operand_by own_text o) → IsKnownOperand names o
    known (kinds.Own token) told = told token.name.0 refl
    known (kinds.Argument space parameter) told = tt
    known (kinds.Stringized space parameter) told = tt
    known (kinds.CommaAndRest comma space parameter) told = told comma.name.0 refl

    by : (EachChain names (grouped (map (part_by own_text) parts)) → ByRecursion (λ (part : Part). IsKnownOperand names part.operand) parts) → (begins : Bool) → EachChain names (if begins then (operand_by own_text part.operand ∷ []) ∷ grouped (map (part_by own_text) parts) else hung_before (operand_by own_text part.operand) (grouped (map (part_by own_text) parts)))
        → ByRecursion (λ (part : Part). IsKnownOperand names part.operand) (part ∷ parts)
    by others true all = (known part.operand all.0.0, others all.1)
    by others false all =
        let both = unhung-each names (operand_by own_text part.operand) (grouped (map (part_by own_text) parts)) all in
        (known part.operand both.0, others both.1)

one_text : (names : List (List ℕ)) (token : Token) → IsKnown names token.name → Told names (token_by own_text token)
one_text names token known = λ n same. subst (λ k. k < length names) (ap first_or_none same) known
  where
    first_or_none : List ℕ → ℕ
    first_or_none [] = 0
    first_or_none (k ∷ ks) = k

tokens-each : (names : List (List ℕ)) (tokens : List Token) → All (λ (token : Token). IsKnown names token.name) tokens → EachToken names (map (token_by own_text) tokens)
tokens-each names [] known = tt
tokens-each names (token ∷ tokens) known = (
  one_text names token (All-head (λ (t : Token). IsKnown names t.name) token tokens known),
  tokens-each names tokens (All-tail (λ (t : Token). IsKnown names t.name) token tokens known),
)

inner-each : (names : List (List ℕ)) (ts : List Tok) → EachToken names ts → EachToken names (without_first_space ts)
inner-each names [] told = tt
inner-each names (t ∷ ts) told = (told.0, told.1)

-- the operands of a macro
pub parts-known : (names : List (List ℕ)) (m : Macro) (parts : List Part) → ((s : Spelling) → KeepsApart s → grouped (map (part_by s) parts) ≡ chains (macro_by s m)) → IsKnownMacro names m → AreKnownParts names parts
parts-known names m parts are known =
    All-from_recursion (λ (part : Part). IsKnownOperand names part.operand) parts
    (flat-each names parts (subst (EachChain names) (sym (are own_text own_text-KeepsApart))
    (chains-each names _ (rests-each names m.variadic (length (parameters_of (macro_by own_text m))) _
    (pieces-each names (parameters_of (macro_by own_text m)) _ (inner-each names _ (tokens-each names m.body known.body)))))))
