use Rattle.std.proofs.Common.{◌≡◌, ◌++◌, filter, Ok, Err, List, subst, ◌∙◌}
use Rattle.meaning_preprocessing.specs.ConditionLines.{with_undefined}
use Rattle.meaning_preprocessing.specs.Groups.{by_answer}
use Rattle.meaning_preprocessing.specs.State.{expanded_in}
use Rattle.c_tokens.specs.declared.token.Token.{Token}
use Rattle.c_tokens.specs.Seen.{tok_of, toks_of}
use Rattle.c_directives.specs.Conditions.{is_left_identifier}
use Rattle.c_preproc.specs.Texts.{IsJudged}
use Rattle.c_directives.specs.declared.fault.LineFault.TheVariants.{Refused}
use Rattle.c_preproc.specs.Texts.{before_in}
use Rattle.c_preproc.proofs.StateLemmas.{with-left}
use Rattle.c_preproc.proofs.TaskLemmas.{halts-told}
use Rattle.c_preproc.proofs.TextLemmas.{line-judged, line-stops}
use Rattle.c_preproc.proofs.state.State.judge_line.Goals as goal

pub returns-in-Err-clause-judged : goal.returns-in-Err-clause-judged
returns-in-Err-clause-judged c = λ value path s next is holds.
    let hash = tok_of c.args.names.now c.args.hash.now in
    let piece = expanded_in s (toks_of c.args.names.now c.args.line.now) in
    line-stops c.expanded.new.names piece (before_in c.in-Err.fault) c.fault_of.result (λ left u. by_answer hash (value left) (with_undefined left u) next)
    (c.fault_of.ensures.stops path s piece (c.in-Err.ensures.still path s holds) (c.in-Err.ensures.stops path s holds))

pub returns-in-Err-clause-known : goal.returns-in-Err-clause-known
returns-in-Err-clause-known c =
    let held = c.requires.held in
    c.fault_of.ensures.known held.0 held.1 (c.in-Err.ensures.still held.0 held.1 held.2)

pub returns-in-Ok-condition_holds-clause-judged : goal.returns-in-Ok-condition_holds-clause-judged
returns-in-Ok-condition_holds-clause-judged c = λ value path s next is holds.
    let later = c.expanded.new.names in
    let hash = tok_of c.args.names.now c.args.hash.now in
    let done = c.in-Ok.ensures.done path s holds in
    let left = toks_of later c.in-Ok.left.items in
    let u = with_undefined left done.0 in (
      u,
      with-left later path c.expanded.new.self done.0 c.keep_undefined.new.undefined c.in-Ok.left.items
          (subst (λ (ts : List Token). c.keep_undefined.new.undefined.items ≡ c.expanded.new.self.undefined.items ++ filter is_left_identifier ts) c.as_slice.ensures.value c.in_ok-keep_undefined.ensures)
          c.in-Ok.ensures.made done.1,
      line-judged value hash (toks_of c.args.names.now c.args.line.now) left s done.0 next done.2
          ∙ subst (λ (ts : List Token). by_answer hash (value (toks_of later ts)) u next ≡ next c.in-Ok-condition_holds.holds u) c.as_slice-2.ensures.value
          (c.in-Ok-condition_holds.ensures value hash u next is),
    )

pub returns-in-Err-Refused-clause-judged : goal.returns-in-Err-Refused-clause-judged
returns-in-Err-Refused-clause-judged c = λ value path s next is holds.
    let later = c.expanded.new.names in
    let hash = tok_of c.args.names.now c.args.hash.now in
    let done = c.in-Ok.ensures.done path s holds in
    let left = toks_of later c.in-Ok.left.items in
    let u = with_undefined left done.0 in
    let told = c.line_error.ensures.stop path u
    (with-left later path c.expanded.new.self done.0 c.keep_undefined.new.undefined c.in-Ok.left.items
    (subst (λ (ts : List Token). c.keep_undefined.new.undefined.items ≡ c.expanded.new.self.undefined.items ++ filter is_left_identifier ts) c.as_slice.ensures.value c.in_ok-keep_undefined.ensures)
    c.in-Ok.ensures.made done.1) in
    halts-told later c.line_error.result _ _ told
    (line-judged value hash (toks_of c.args.names.now c.args.line.now) left s done.0 next done.2
    ∙ subst (λ (ts : List Token). IsJudged later u hash next (Err (Refused c.in-Err-Refused.kind c.in-Err-Refused.word)) (by_answer hash (value (toks_of later ts)) u next)) c.as_slice-2.ensures.value
    (subst (λ fault. IsJudged later u hash next (Err fault) (by_answer hash (value (toks_of later c.as_slice-2.result.now)) u next)) c.in-Err-Refused.field-0-is
    (c.in-Err-Refused.ensures value hash u next is)))

pub returns-in-Err-Refused-clause-known : goal.returns-in-Err-Refused-clause-known
returns-in-Err-Refused-clause-known c =
    let later = c.expanded.new.names in
    let held = c.requires.held in
    let done = c.in-Ok.ensures.done held.0 held.1 held.2 in
    c.line_error.ensures.known held.0 (with_undefined (toks_of later c.in-Ok.left.items) done.0)
    (with-left later held.0 c.expanded.new.self done.0 c.keep_undefined.new.undefined c.in-Ok.left.items
    (subst (λ (ts : List Token). c.keep_undefined.new.undefined.items ≡ c.expanded.new.self.undefined.items ++ filter is_left_identifier ts) c.as_slice.ensures.value c.in_ok-keep_undefined.ensures)
    c.in-Ok.ensures.made done.1)
