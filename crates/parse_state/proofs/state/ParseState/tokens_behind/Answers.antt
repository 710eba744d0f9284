-- Spelling out tokens and leaving some of them out go in any order.
use Rattle.std.proofs.Common.{◌≡◌, ℕ, ◌+◌, List, drop, sym, ap, ◌∙◌}
use Rattle.std.proofs.lemmas.List.{drop-map}
use Rattle.c_tokens.specs.declared.token.Token.{Token}
use Rattle.c_tokens.specs.Seen.{tok_of, toks_of}
use Rattle.parse_state.specs.Seen.{Read}
use Rattle.parse_state.proofs.state.ParseState.tokens_behind.Goals as goal

behind-seen : (names : List (List ℕ)) (inside now behind : List Token) (from word : ℕ) → behind ≡ drop (from + 1) inside → inside ≡ now → from ≡ word
    → toks_of names behind ≡ drop (word + 1) (toks_of names now)
behind-seen names inside now behind from word left same equal =
    ap (toks_of names) left ∙ sym (drop-map (tok_of names) (from + 1) inside)
    ∙ ap (λ tokens. drop (from + 1) (toks_of names tokens)) same
    ∙ ap (λ at. drop (at + 1) (toks_of names now)) equal

pub returns-then-from-self : goal.returns-then-from-self
returns-then-from-self c =
    behind-seen c.args.self.now.names c.self.inside.tokens.now c.args.self.now.tokens _ c.token.result _ c.split_at.ensures.back
    (ap (λ (seen : Read). seen.tokens) c.self.view_is) c.token.ensures
