use Rattle.std.proofs.Common.{◌++◌, List, ℕ, ap, sym, ◌∙◌, append_assoc}
use Rattle.c_tokens.specs.declared.token.Token.{Token}
use Rattle.c_tokens.specs.Seen.{IsKnown, at_of, tok_of, toks_of}
use Rattle.meaning_answer.specs.Tokens.{token_behind, tokens_behind}
use Rattle.ksparse.proofs.FrontLemmas.{all_behind}
use Rattle.ksparse.proofs.expand.write_behind.Goals as goal

pub tokens-preserved : goal.tokens-preserved
tokens-preserved c =
    let names = c.args.names.now in
    let at = at_of c.tokens.before in
    let token = c.in-Some.token.now in
    let rest = tokens_behind (at_of token.place) (toks_of names c.in-Some.others.now) in
    record {
      text =
          ap (λ (t : List ℕ). t ++ rest) c.in_ok-write_token.ensures
          ∙ append_assoc c.tokens.text.items (token_behind at (tok_of names token)) rest
          ∙ ap (λ (ts : List Token). c.tokens.text.items ++ tokens_behind at (toks_of names ts)) (sym c.in-Some.ensures.cases.0)
          ∙ c.tokens.invariant.text;
      known = all_behind (λ (t : Token). IsKnown names t.name) c.tokens.left.now c.in-Some.others.now token c.in-Some.ensures.cases.0 c.tokens.invariant.known;
    }
