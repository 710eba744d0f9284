-- Spelling out tokens and leaving some of them out go in any order.
use Rattle.std.proofs.Common.{◌≡◌, ℕ, ◌-◌, List, drop, take, sym, ap, ◌∙◌}
use Rattle.std.proofs.lemmas.List.{drop-map, take-map}
use Rattle.c_tokens.specs.declared.token.Token.{Token}
use Rattle.c_tokens.specs.Seen.{tok_of, toks_of}
use Rattle.parse_state.specs.Seen.{Read}
use Rattle.parse_state.proofs.state.ParseState.tokens_from.Goals as goal

cut-seen : (names : List (List ℕ)) (tokens front behind : List Token) (from count : ℕ) → front ≡ take count behind → behind ≡ drop from tokens
    → toks_of names front ≡ take count (drop from (toks_of names tokens))
cut-seen names tokens front behind from count cut left =
    ap (toks_of names) (cut ∙ ap (take count) left) ∙ sym (take-map (tok_of names) count (drop from tokens)) ∙ ap (take count) (sym (drop-map (tok_of names) from tokens))

pub returns : goal.returns
returns c =
    cut-seen c.args.self.now.names c.self.inside.tokens.now c.front.result.now c.behind.result.now c.token-from.result c.saturating_sub-count.result c.front.ensures c.behind.ensures
    ∙ ap (λ count. take count (drop c.token-from.result (toks_of c.args.self.now.names c.self.inside.tokens.now))) c.saturating_sub-count.ensures
    ∙ ap (λ (seen : Read). take (seen.next_token - c.token-from.result) (drop c.token-from.result (toks_of c.args.self.now.names seen.tokens))) c.self.view_is
    ∙ ap (λ from. take (c.args.self.now.next_token - from) (drop from (toks_of c.args.self.now.names c.args.self.now.tokens))) c.token-from.ensures
