-- A unit under the table that its parts are numbered by, one part behind the other.
use Rattle.std.proofs.Common.{◌≡◌, ℕ, zero, suc, ◌+◌, ◌<◌, List, [], ◌∷◌, ◌++◌, length, get_or, take, All, None, pos, refl, sym, ap, ap₂, subst, ◌∙◌, arith}
use Rattle.std.proofs.lemmas.List.{length-map, length-take, take_more}
use Rattle.std.proofs.lemmas.List.Elements.{All-weaker}
use Rattle.vocabulary.specs.declared.rule.RuleCode.TheVariants.{S3}
use Rattle.sparse_model.specs.declared.failure.Failure.{Failure}
use Rattle.c_tokens.specs.declared.token.Token.{Token}
use Rattle.c_tokens.specs.Seen.{Extends, IsKnown, spellings_of, tok_of, toks_of}
use Rattle.c_tokens.specs.Spellings.{with_spellings}
use Rattle.c_tokens.proofs.SeenLemmas.{Extends-Extends, IsKnown-Extends, toks_of-Extends}
use Rattle.meaning_text.specs.Tokens.{Tok}
use Rattle.meaning_unit_nodes.specs.Numbered.{spellings_told, told_behind, with_told}
use Rattle.c_directives.specs.Conditions.{AreKnown}
use Rattle.c_preproc.specs.Units.{failures_from}
use Rattle.unit_names.specs.Same.{BeginsWithTokens, HasSpellings, IsSameUnit}
use Rattle.unit_names.specs.Numbering.{spelled}
use Rattle.c_preproc.specs.declared.unit.UnitTokens.{UnitTokens}
use Rattle.unit_names.proofs.ListLemmas.{no_token}

-- Failures

abbrev failure_for : ℕ → Token → Failure
failure_for number token = record { token = number; rule = S3; part = 0; first = None; second = None; name = token.name; number = pos 0; wanted = pos 0 }

failures-at : (number : ℕ) (tokens : List Token) (index : ℕ) (other : Failure) → index < length tokens
    → get_or (failures_from number tokens) index other ≡ failure_for (number + index) (get_or tokens index no_token)
failures-at number [] index other within = absurd (omega (arith, within))
failures-at number (token ∷ tokens) zero other within = ap (λ n. failure_for n token) (omega arith)
failures-at number (token ∷ tokens) (suc index) other within =
    failures-at (number + 1) tokens index other (omega (arith, within)) ∙ ap (λ n. failure_for n (get_or tokens index no_token)) (omega arith)

pub failures-long : (number : ℕ) (tokens : List Token) → length (failures_from number tokens) ≡ length tokens
failures-long number [] = refl
failures-long number (token ∷ tokens) = ap suc (failures-long (number + 1) tokens)

failures-more : (number : ℕ) (front : List Token) (token : Token)
    → failures_from number (front ++ token ∷ []) ≡ failures_from number front ++ failure_for (number + length front) token ∷ []
failures-more number [] token = ap (λ n. failure_for n token ∷ []) (omega arith)
failures-more number (first ∷ front) token =
    ap (λ rest. failure_for number first ∷ rest) (failures-more (number + 1) front token ∙ ap (λ n. failures_from (number + 1) front ++ failure_for n token ∷ []) (omega arith))

-- the failures of the tokens up to the next one
pub failures-next : (failures list later : List Failure) (tokens others : List Token) (index : ℕ) (other : Failure) → length failures ≡ length tokens
    → index < length tokens → later ≡ list ++ record (get_or failures index other) { name = (get_or tokens index no_token).name } ∷ []
    → failures ≡ failures_from 0 others → list ≡ failures_from 0 (take index tokens) → later ≡ failures_from 0 (take (index + 1) tokens)
failures-next failures list later tokens others index other long within pushed are before =
    let token = get_or tokens index no_token in
    let many = ap length are ∙ failures-long 0 others in
    let found : get_or failures index other ≡ failure_for (0 + index) (get_or others index no_token) =
    ap (λ (all : List Failure). get_or all index other) are ∙ failures-at 0 others index other (omega (arith, within, long, many)) in
    let front : 0 + length (take index tokens) ≡ 0 + index = omega (arith, length-take index tokens, within) in
    pushed ∙ ap₂ (λ (all : List Failure) (one : Failure). all ++ record one { name = token.name } ∷ []) before found
    ∙ sym
    (ap (failures_from 0) (take_more tokens index no_token within) ∙ failures-more 0 (take index tokens) token
    ∙ ap (λ n. failures_from 0 (take index tokens) ++ failure_for n token ∷ []) front)

-- as many tokens as before
pub same_long : (names others : List (List ℕ)) (tokens now : List Token) → toks_of others now ≡ toks_of names tokens → length now ≡ length tokens
same_long names others tokens now same = sym (length-map now (tok_of others)) ∙ ap length same ∙ length-map tokens (tok_of names)

-- The unit

known-later : (old new : List (List ℕ)) (tokens : List Token) → Extends old new → AreKnown old tokens → AreKnown new tokens
known-later old new tokens extends known =
    All-weaker (λ (t : Token). IsKnown old t.name) (λ (t : Token). IsKnown new t.name) (λ t. IsKnown-Extends old new extends t.name) tokens known

-- its parts as they were numbered
pub record AreNumbered (names : List (List ℕ)) (unit other : UnitTokens) (first second third : List (List ℕ)) : Type 0 where
  pub next : Extends first second
  pub last : Extends second third
  pub tokens_known : AreKnown first other.tokens
  pub tokens : toks_of first other.tokens ≡ toks_of names unit.tokens
  pub undef_tokens_known : AreKnown second other.undef_tokens
  pub undef_tokens : toks_of second other.undef_tokens ≡ toks_of names unit.undef_tokens
  pub undefs : other.undefs ≡ failures_from 0 other.undef_tokens
  pub files_known : All (IsKnown third) other.files
  pub files : spelled third other.files ≡ spelled names unit.files

pub numbered-same : (names : List (List ℕ)) (unit other : UnitTokens) (first second third : List (List ℕ)) → AreNumbered names unit other first second third
    → IsSameUnit names third unit other
numbered-same names unit other first second third are =
    let whole = Extends-Extends first second third are.next are.last in
    record {
      known = record {
        tokens = known-later first third other.tokens whole are.tokens_known;
        undef_tokens = known-later second third other.undef_tokens are.last are.undef_tokens_known;
        files = are.files_known;
      };
      tokens = toks_of-Extends first third whole other.tokens are.tokens_known ∙ are.tokens;
      undef_tokens = toks_of-Extends second third are.last other.undef_tokens are.undef_tokens_known ∙ are.undef_tokens;
      undefs = are.undefs;
      files = are.files;
    }

-- The table

told-with : (told : List (List ℕ)) (toks : List Tok) → told_behind told toks ≡ with_spellings told (spellings_of toks)
told-with told [] = refl
told-with told (tok ∷ toks) = told-with (with_told told tok.text) toks

pub numbered-begins : (toks : List Tok) (start first second third : List (List ℕ)) (count : ℕ) → start ≡ [] ∷ [] → first ≡ with_spellings start (spellings_of toks)
    → Extends first second → Extends second third → count ≡ length first → BeginsWithTokens third count toks
numbered-begins toks start first second third count begins joins next last counted =
    let told : first ≡ spellings_told toks = joins ∙ ap (λ table. with_spellings table (spellings_of toks)) begins ∙ sym (told-with ([] ∷ []) toks) in
    record {
      extends = subst (λ (table : List (List ℕ)). Extends table third) told (Extends-Extends first second third next last);
      count = counted ∙ ap length told;
    }

-- the whole table
pub numbered-table : (toks undefined : List Tok) (paths start first second third : List (List ℕ)) → start ≡ [] ∷ [] → first ≡ with_spellings start (spellings_of toks)
    → second ≡ with_spellings first (spellings_of undefined) → third ≡ with_spellings second paths → HasSpellings third toks undefined paths
numbered-table toks undefined paths start first second third begins joins next last =
    let told : first ≡ spellings_told toks = joins ∙ ap (λ table. with_spellings table (spellings_of toks)) begins ∙ sym (told-with ([] ∷ []) toks) in
    last ∙ ap (λ (table : List (List ℕ)). with_spellings table paths) (next ∙ ap (λ (table : List (List ℕ)). with_spellings table (spellings_of undefined)) told)
