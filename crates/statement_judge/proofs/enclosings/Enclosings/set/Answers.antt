-- One number is another, and those that stay stand for what they stood for.
use Rattle.std.proofs.Common.{length, ◌∙◌}
use Rattle.std.proofs.lemmas.Option.{slice_get_within}
use Rattle.statement_judge.proofs.KeptLemmas.{AreWithin-set, length-longer, set_kept}
use Rattle.statement_judge.proofs.enclosings.Enclosings.set.Goals as goal

pub invariant_of-self-2 : goal.invariant_of-self-2
invariant_of-self-2 c =
    let settings = c.self.inside.settings.items in
    let later = c.number_of.new.settings.items in
    AreWithin-set (length settings) (length later) c.self.inside.numbers.items c.args.handle c.in_ok-number.number
    (length-longer settings later c.number_of.ensures.grows) c.self.invariant
    (slice_get_within later c.in_ok-number.number c.args.enclosing c.in_ok-number.ensures.stands)

pub returns-clause-ok : goal.returns-clause-ok
returns-clause-ok c =
    let later = c.number_of.new.settings.items in
    set_kept c.self.inside.settings.items later c.self.inside.numbers.items c.args.self.now c.args.handle c.in_ok-number.number c.args.enclosing
    c.number_of.ensures.grows c.self.invariant c.self.view_is c.in_ok-number.ensures.stands
