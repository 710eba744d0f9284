-- A unit that was renumbered has the table by which the answer tells its names.
use Rattle.std.proofs.Common.{◌≡◌, ℕ, List, [], ◌∷◌, Some, length, slice_get, refl, sym, ap, subst, ◌∙◌}
use Rattle.meaning_text.specs.Tokens.{Tok}
use Rattle.meaning_unit_nodes.specs.Numbered.{spellings_told, told_behind, with_told}
use Rattle.meaning_answer.specs.Units.{with_all_told}
use Rattle.c_tokens.specs.Seen.{Extends, spellings_of, toks_of}
use Rattle.c_tokens.specs.Spellings.{with_spellings}
use Rattle.c_preproc.specs.declared.unit.UnitTokens.{UnitTokens}
use Rattle.unit_names.specs.Same.{BeginsWithTokens, HasSpellings, IsSameUnit}
use Rattle.ksparse.specs.Judged.{IsNumberedUnit}
use Rattle.ksparse.specs.Written.{paths_of}

behind-tokens : (told : List (List ℕ)) (toks : List Tok) → with_spellings told (spellings_of toks) ≡ told_behind told toks
behind-tokens told [] = refl
behind-tokens told (tok ∷ toks) = behind-tokens (with_told told tok.text) toks

behind-paths : (told paths : List (List ℕ)) → with_spellings told paths ≡ with_all_told told paths
behind-paths told [] = refl
behind-paths told (path ∷ paths) = behind-paths (with_told told path) paths

module _ (names table : List (List ℕ)) (toks unit : UnitTokens) (told : ℕ) (same : IsSameUnit names table toks unit)
    (begins : BeginsWithTokens table told (toks_of names toks.tokens)) where
  pub told-count : told ≡ length (spellings_told (toks_of table unit.tokens))
  told-count = begins.count ∙ ap (λ (tokens : List Tok). length (spellings_told tokens)) (sym same.tokens)

  table-as : HasSpellings table (toks_of names toks.tokens) (toks_of names toks.undef_tokens) (paths_of names toks.files)
      → table ≡ with_all_told (told_behind (spellings_told (toks_of table unit.tokens)) (toks_of table unit.undef_tokens)) (paths_of table unit.files)
  table-as has =
      subst (λ (paths : List (List ℕ)). table ≡ with_all_told (told_behind (spellings_told (toks_of table unit.tokens)) (toks_of table unit.undef_tokens)) paths)
      (sym same.files)
      (subst (λ (undefined : List Tok). table ≡ with_all_told (told_behind (spellings_told (toks_of table unit.tokens)) undefined) (paths_of names toks.files))
      (sym same.undef_tokens)
      (subst (λ (tokens : List Tok). table ≡ with_all_told (told_behind (spellings_told tokens) (toks_of names toks.undef_tokens)) (paths_of names toks.files))
      (sym same.tokens)
      (has
      ∙ ap (λ (front : List (List ℕ)). with_spellings front (paths_of names toks.files)) (behind-tokens (spellings_told (toks_of names toks.tokens)) (toks_of names toks.undef_tokens))
      ∙ behind-paths (told_behind (spellings_told (toks_of names toks.tokens)) (toks_of names toks.undef_tokens)) (paths_of names toks.files))))

  pub numbered-unit : HasSpellings table (toks_of names toks.tokens) (toks_of names toks.undef_tokens) (paths_of names toks.files)
      → slice_get table 0 ≡ Some [] → IsNumberedUnit table unit
  numbered-unit has empty = record {
    known = same.known;
    undefs = same.undefs;
    table = table-as has;
    begins = subst (λ (tokens : List Tok). Extends (spellings_told tokens) table) (sym same.tokens) begins.extends;
    empty = empty;
  }
