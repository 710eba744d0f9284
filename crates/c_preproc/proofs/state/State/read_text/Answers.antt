use Rattle.std.proofs.Common.{OnOk, IfErr, [], sym, ap, subst, ◌∙◌}
use Rattle.meaning_preprocessing.specs.State.{and_then, tokens_before}
use Rattle.c_tokens.specs.Seen.{toks_of}
use Rattle.c_directives.specs.Groups.{groups_seen}
use Rattle.c_preproc.specs.States.{EndsUnit, GoesOn, put_of}
use Rattle.c_preproc.proofs.TextLemmas.{text-read, text-skipped}
use Rattle.c_preproc.proofs.state.State.read_text.Goals as goal

pub returns-then-are_read-clause-goes : goal.returns-then-are_read-clause-goes
returns-then-are_read-clause-goes c = λ path s next holds.
    subst (λ piece. OnOk c.put_text.result (GoesOn c.put_text.new.names path c.put_text.new.self (tokens_before (put_of c.args.names.now c.args.self.now) (and_then piece next)) next))
    (sym (text-read (groups_seen c.args.groups.now.items) (toks_of c.args.names.now c.args.text.now) s (sym c.are_read.ensures ∙ c.if-are_read.true)))
    (c.put_text.ensures.goes path s next holds)

pub returns-then-are_read-clause-ends : goal.returns-then-are_read-clause-ends
returns-then-are_read-clause-ends c = λ path s next holds.
    subst (λ piece. IfErr c.put_text.result (EndsUnit c.put_text.new.names (tokens_before (put_of c.args.names.now c.args.self.now) (and_then piece next))))
    (sym (text-read (groups_seen c.args.groups.now.items) (toks_of c.args.names.now c.args.text.now) s (sym c.are_read.ensures ∙ c.if-are_read.true)))
    (c.put_text.ensures.ends path s next holds)

pub returns-clause-goes : goal.returns-clause-goes
returns-clause-goes c = λ path s next holds. (
  s,
  holds,
  ap (λ piece. tokens_before (put_of c.args.names.now c.args.self.now) (and_then piece next))
      (sym (text-skipped (groups_seen c.args.groups.now.items) (toks_of c.args.names.now c.args.text.now) s (sym c.are_read.ensures ∙ c.if-are_read.false))),
)
