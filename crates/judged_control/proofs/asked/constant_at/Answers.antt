use Rattle.std.proofs.Common.{sym, subst, ap, ◌∙◌}
use Rattle.decl_judge.proofs.AskedLemmas.{known_at, seen_at}
use Rattle.node_facts.specs.Facts.{IsKnownNodeFact, node_seen}
use Rattle.meaning_contexts.specs.Units.{constant_known}
use Rattle.judged_control.proofs.asked.constant_at.Goals as goal

pub constant_in-requires : goal.constant_in-requires
constant_in-requires c =
    let table = c.args.types.now in
    subst (IsKnownNodeFact table) (sym c.at.ensures) (known_at table c.args.facts.now c.args.expression c.requires)

pub returns : goal.returns
returns c =
    let table = c.args.types.now in
    c.constant_in.ensures ∙ ap constant_known (ap (node_seen table) c.at.ensures ∙ seen_at table c.args.facts.now c.args.expression)
