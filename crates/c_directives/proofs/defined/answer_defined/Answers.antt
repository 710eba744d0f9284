use Rattle.std.proofs.Common.{ap, sym, subst, ◌∙◌}
use Rattle.std.proofs.lemmas.List.Elements.{All-push}
use Rattle.meaning_preprocessing.specs.ConditionLines.{answered}
use Rattle.c_tokens.specs.declared.token.Token.{Token}
use Rattle.c_tokens.specs.Seen.{IsKnown, toks_of}
use Rattle.c_directives.specs.Conditions.{AreKnown, waiting_seen}
use Rattle.c_directives.proofs.ConditionLemmas.{answer_put, answers_before}
use Rattle.c_directives.proofs.FrontLemmas.{all_behind}
use Rattle.c_directives.proofs.defined.answer_defined.Goals as goal

pub tokens-preserved-in-Puts : goal.tokens-preserved-in-Puts
tokens-preserved-in-Puts c =
    let names = c.args.names.now in
    record {
      same = λ definitions has.
          answer_put names c.tokens.done.items c.push.new.self.items c.in-Puts.put _ _ _ c.in_ok-push-in-Puts.ensures.items
          (c.in-Puts.ensures.step definitions (toks_of names c.in-Some.others.now) has
          ∙ ap (λ tokens. answered definitions (waiting_seen names c.tokens.waiting) (toks_of names tokens)) (sym c.in-Some.ensures.cases.0))
          (c.tokens.invariant.same definitions has);
      done = subst (AreKnown names) (sym c.in_ok-push-in-Puts.ensures.items) (All-push (λ (t : Token). IsKnown names t.name) c.tokens.done.items c.in-Puts.put c.tokens.invariant.done c.in-Puts.ensures.known);
      left = all_behind (λ (t : Token). IsKnown names t.name) c.tokens.left.now c.in-Some.others.now c.in-Some.token.now c.in-Some.ensures.cases.0 c.tokens.invariant.left;
      waiting = tt;
    }

pub tokens-preserved : goal.tokens-preserved
tokens-preserved c =
    let names = c.args.names.now in
    record {
      same = λ definitions has.
          ap (answers_before (toks_of names c.tokens.done.items))
          (c.in-Waits.ensures.step definitions (toks_of names c.in-Some.others.now) has
          ∙ ap (λ tokens. answered definitions (waiting_seen names c.tokens.waiting) (toks_of names tokens)) (sym c.in-Some.ensures.cases.0))
          ∙ c.tokens.invariant.same definitions has;
      done = c.tokens.invariant.done;
      left = all_behind (λ (t : Token). IsKnown names t.name) c.tokens.left.now c.in-Some.others.now c.in-Some.token.now c.in-Some.ensures.cases.0 c.tokens.invariant.left;
      waiting = c.in-Waits.ensures.known;
    }

pub returns-in-Breaks-clause-answered : goal.returns-in-Breaks-clause-answered
returns-in-Breaks-clause-answered c = λ definitions has.
    let names = c.args.names.now in
    ap (answers_before (toks_of names c.tokens.done.items))
    (c.in-Breaks.ensures.step definitions (toks_of names c.in-Some.others.now) has
    ∙ ap (λ tokens. answered definitions (waiting_seen names c.tokens.waiting) (toks_of names tokens)) (sym c.in-Some.ensures.cases.0))
    ∙ c.tokens.invariant.same definitions has
