use Rattle.std.proofs.Common.{sym, ◌∙◌}
use Rattle.c_attrs.proofs.WordLemmas.{named-between}
use Rattle.c_attrs.proofs.word.is_named.Goals as goal

pub returns-in-Some : goal.returns-in-Some
returns-in-Some c =
    named-between c.args.text.now c.in-Some.plain.now c.args.word.now _ (sym c.eq.ensures ∙ c.if-eq.false) c.in-Some.ensures c.eq-in-Some.ensures
