-- Tokens that name nothing stay, and two tokens join as they are spelled.
use Rattle.std.proofs.Common.{◌≡◌, ℕ, zero, suc, true, false, not, ◌&&◌, List, [], ◌∷◌, ◌++◌, Option, Some, None, refl, ap, ◌∙◌}
use Rattle.std.proofs.lemmas.Bool.{and_parts}
use Rattle.vocabulary.specs.declared.token_kind.TokenKind.{TokenKind}
use Rattle.meaning_text.specs.Kinds.{kind_in}
use Rattle.meaning_macros.specs.Signs.{is_identifier_kind}
use Rattle.meaning_macros.specs.Macros.{macro_of, MacroTable}
use Rattle.meaning_macros.specs.Hiding.{Hiding, no_names}
use Rattle.meaning_macros.specs.Substitution.{pasted}
use Rattle.meaning_macros.specs.Expansion.{Budget, Finished, Failed, Expanded, ends, put, Use, Stays, Replaces, Wrong, Predefines, use_of_predefined, use_of_name, use_of, Expander, replaced, predefined, expand_by, within, expansion}
use Rattle.meaning_macros.specs.laws.Expansion.{NamesNothing, NameNothing, PlainTokensStay, PastesTo}
use Rattle.meaning_macros.proofs.Cases.{nothing_left}

use_of-Stays : (table : MacroTable) (t : Hiding) (rest : List Hiding) → NamesNothing table t → use_of table.definitions t rest ≡ Stays
use_of-Stays table t rest h =
    elim (is_identifier_kind t.token.kind && not (t.hides t.token.text)) as (λ v.
    (is_identifier_kind t.token.kind && not (t.hides t.token.text)) ≡ v
    → (elim v as (λ _. Use) [ true ↦ use_of_name t rest (macro_of table.definitions t.token.text) | false ↦ Stays ]) ≡ Stays) [
      | true ↦ λ e.
          let name : is_identifier_kind t.token.kind ≡ true = (and_parts (is_identifier_kind t.token.kind) (not (t.hides t.token.text)) e).0 in
          ap (use_of_name t rest) (h.no_macro name) ∙ ap use_of_predefined (h.no_predefined name)
      | false ↦ λ e. refl
    ] refl

-- whatever goes on behind a replacement
expand_by-plain : (f : Expander) (table : MacroTable) (b : Budget) (ts : List Hiding) → NameNothing table ts
    → expand_by f table b ts ≡ record { tokens = ts; end = Finished b }
expand_by-plain f table b [] h = refl
expand_by-plain f table b (t ∷ ts) h =
    ap (λ (u : Use). elim u as (λ _. Expanded) [
      | Stays ↦ put t (expand_by f table b ts)
      | Replaces m arguments hides rest ↦ replaced f b t m arguments hides rest
      | Wrong fault ↦ ends (Failed fault t.token.at)
      | Predefines name ↦ predefined f table b t name ts
    ]) (use_of-Stays table t ts h.0)
    ∙ ap (put t) (expand_by-plain f table b ts h.1)

within-plain : (n : ℕ) (table : MacroTable) (b : Budget) (ts : List Hiding) → NameNothing table ts
    → within n table b ts ≡ record { tokens = ts; end = Finished b }
unfolding within
within-plain zero table b ts h = expand_by-plain nothing_left table b ts h
within-plain (suc n) table b ts h = expand_by-plain (within n table) table b ts h

pub expansion-plain : PlainTokensStay
unfolding expansion
expansion-plain table b ts h = within-plain b.replacements table b ts h

pub paste-kind : (left right : Hiding) (kind : Option TokenKind) → kind_in false (left.token.text ++ right.token.text) ≡ kind
    → PastesTo left right kind
paste-kind left right None e = ap (λ k. pasted left k (left.token.text ++ right.token.text) []) e
paste-kind left right (Some kind) e = (
  record { token = record left.token { kind = kind; text = left.token.text ++ right.token.text }; hides = no_names },
  ap (λ k. pasted left k (left.token.text ++ right.token.text) []) e,
  refl,
  refl,
)
