-- What is told of a list is told of the tokens between its double parentheses.
use Rattle.std.proofs.Common.{◌≡◌, ℕ, ◌+◌, List, Some, option_map, sym, ap, ap₂, subst, ◌∙◌}
use Rattle.meaning_text.specs.Tokens.{Tok}
use Rattle.meaning_attributes.specs.Attributes.{no_attributes}
use Rattle.meaning_attributes.specs.Pieces.{in_parentheses, length_to_inside}
use Rattle.meaning_attributes.specs.Reading.{attributes_read}
use Rattle.meaning_derivation.specs.Values.{Value, token_of, value_at}
use Rattle.meaning_derivation.specs.Attributes.{listed_tokens, list_start, tokens_from}
use Rattle.c_tokens.specs.Seen.{toks_of}
use Rattle.c_attrs.specs.Parts.{refusal_in}
use Rattle.c_attrs.specs.Seen.{fault_telling}
use Rattle.parse_state.specs.Seen.{state_of}
use Rattle.c_decl.specs.Attributes.{IsRefusal}
use Rattle.c_decl.proofs.Appending.{refusal_told}
use Rattle.c_decl.proofs.attributes.refuse_bad_list.Goals as goal

pub returns-clause-told : goal.returns-clause-told
returns-clause-told c =
    let s = state_of c.args.state.now in
    let names = c.args.state.now.names in
    let word : Value = value_at s.values 1 in
    let tokens : toks_of names c.tokens_from-tokens.result.now ≡ tokens_from s word = c.tokens_from-tokens.ensures in
    let inside : toks_of names c.in_parentheses-inside.result.now ≡ in_parentheses (tokens_from s word) = c.in_parentheses-inside.ensures names ∙ ap in_parentheses tokens in
    let list : toks_of names c.in_parentheses-list.result.now ≡ listed_tokens s word = c.in_parentheses-list.ensures names ∙ ap in_parentheses inside in
    let refused : Some c.in-Some.fault ≡ option_map fault_telling (refusal_in (attributes_read no_attributes (listed_tokens s word))) =
    sym c.in-Some.is ∙ c.list_refusal.ensures no_attributes
    ∙ ap (λ (table : List (List ℕ)). option_map fault_telling (refusal_in (attributes_read no_attributes (toks_of table c.in_parentheses-list.result.now)))) c.names.ensures
    ∙ ap (λ (listed : List Tok). option_map fault_telling (refusal_in (attributes_read no_attributes listed))) list in
    let first : c.length_to_inside.result ≡ length_to_inside (tokens_from s word) = c.length_to_inside.ensures.count names ∙ ap length_to_inside tokens in
    let second : c.length_to_inside-2.result ≡ length_to_inside (in_parentheses (tokens_from s word)) = c.length_to_inside-2.ensures.count names ∙ ap length_to_inside inside in
    let start : c.in_ok-start.start ≡ list_start s word =
    c.in_ok-start.ensures.there
    ∙ ap (λ (behind : ℕ). behind + c.length_to_inside-2.result) (c.in_ok-behind.ensures.there ∙ ap₂ (λ (at count : ℕ). at + count) c.token-word.ensures first)
    ∙ ap (λ (count : ℕ). token_of word + length_to_inside (tokens_from s word) + count) second in
    subst (λ (at : ℕ). IsRefusal (token_of word) at (refusal_in (attributes_read no_attributes (listed_tokens s word))) c.told.result) start
    (subst (λ (at : ℕ). IsRefusal at c.in_ok-start.start (refusal_in (attributes_read no_attributes (listed_tokens s word))) c.told.result) c.token-word.ensures
    (refusal_told (refusal_in (attributes_read no_attributes (listed_tokens s word))) c.in-Some.fault c.token-word.result c.in_ok-start.start c.told.result refused c.told.ensures))
