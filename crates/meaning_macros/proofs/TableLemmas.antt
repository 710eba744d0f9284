-- An expansion asks its table for nothing but the macros of names and the spellings of files.
use Rattle.std.proofs.Common.{◌≡◌, ℕ, zero, suc, true, false, not, ◌&&◌, List, [], ◌∷◌, Option, refl, ap, ◌∙◌}
use Rattle.vocabulary.specs.declared.token_kind.TokenKind.TheVariants.{String}
use Rattle.meaning_text.specs.Tokens.{Tok}
use Rattle.meaning_macros.specs.Signs.{is_identifier_kind}
use Rattle.meaning_macros.specs.Macros.{Macro, MacroTable, Predefined, FileName, LineNumber, CounterNumber}
use Rattle.meaning_macros.specs.Hiding.{Hiding}
use Rattle.meaning_macros.specs.Expansion.{Budget, Failed, Expanded, ends, put, Use, Stays, Replaces, Wrong, Predefines, use_of_name, use_of, Expander, spending_one, replaced, in_place_of, predefined_token, counter_behind, predefined, expand_by, within, expansion}
use Rattle.meaning_macros.specs.laws.Expansion.{HaveSameMacros, TablesAreWhatTheySay}
use Rattle.meaning_macros.proofs.Cases.{nothing_left}

module _ (table other : MacroTable) (same : HaveSameMacros table other) where
  use_of-table : (t : Hiding) (rest : List Hiding) → use_of table.definitions t rest ≡ use_of other.definitions t rest
  use_of-table t rest =
      ap (λ (found : Option Macro). elim (is_identifier_kind t.token.kind && not (t.hides t.token.text)) as (λ _. Use) [
        | true ↦ use_of_name t rest found
        | false ↦ Stays
      ]) (same.macros t.token.text)

  predefined_token-table : (counter : ℕ) (t : Tok) (name : Predefined) → predefined_token table counter t name ≡ predefined_token other counter t name
  predefined_token-table counter t FileName = λ k. record t { kind = String; text = same.files t.at.file k; line_start = false }
  predefined_token-table counter t LineNumber = refl
  predefined_token-table counter t CounterNumber = refl

  predefined-table : (again : Expander) (b : Budget) (t : Hiding) (name : Predefined) (rest : List Hiding) → predefined again table b t name rest ≡ predefined again other b t name rest
  predefined-table again b t name rest =
      ap (λ (made : Tok). spending_one b (λ left.
      put (in_place_of t made) (again (record left { counter = counter_behind name b.counter }) rest))) (predefined_token-table b.counter t.token name)

  -- the five cases, whatever goes on behind a replacement
  pub expand_by-table : (again : Expander) (b : Budget) (ts : List Hiding) → expand_by again table b ts ≡ expand_by again other b ts
  expand_by-table again b [] = refl
  expand_by-table again b (t ∷ ts) =
      λ k. elim (use_of-table t ts k) as (λ _. Expanded) [
        | Stays ↦ put t (expand_by-table again b ts k)
        | Replaces m arguments hides rest ↦ replaced again b t m arguments hides rest
        | Wrong fault ↦ ends (Failed fault t.token.at)
        | Predefines name ↦ predefined-table again b t name ts k
      ]

  within-table : (n : ℕ) (b : Budget) (ts : List Hiding) → within n table b ts ≡ within n other b ts
  unfolding within
  within-table zero b ts = expand_by-table nothing_left b ts
  within-table (suc n) b ts =
      (λ k. expand_by (λ left rest. within-table n left rest k) table b ts) ∙ expand_by-table (within n other) b ts

pub expansion-table : TablesAreWhatTheySay
unfolding expansion
expansion-table table other same b ts = within-table table other same b.replacements b ts
