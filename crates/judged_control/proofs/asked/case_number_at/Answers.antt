use Rattle.std.proofs.Common.{sym, subst, ap, ap₂, ◌∙◌}
use Rattle.std.specs.Int.{w128}
use Rattle.std.proofs.lemmas.Int.{to_z-of_z}
use Rattle.meaning_typing.specs.Facts.{fact_at}
use Rattle.meaning_statements.specs.Statements.{number_of_label}
use Rattle.decl_judge.proofs.AskedLemmas.{known_at, seen_at}
use Rattle.node_facts.specs.Facts.{IsKnownNodeFact, node_seen, nodes_seen}
use Rattle.meaning_contexts.specs.Units.{number_or_zero}
use Rattle.judged_control.proofs.asked.case_number_at.Goals as goal

pub number_of_label-requires-clause-switched : goal.number_of_label-requires-clause-switched
number_of_label-requires-clause-switched c = c.switched-around.ensures.known c.args.types.now c.requires.ids

pub number_of_label-requires-clause-label : goal.number_of_label-requires-clause-label
number_of_label-requires-clause-label c =
    let table = c.args.types.now in
    subst (IsKnownNodeFact table) (sym c.at-label.ensures) (known_at table c.args.facts.now c.child_at.result c.requires.ids)

pub returns : goal.returns
returns c = λ surroundings kept.
    let table = c.args.types.now in
    to_z-of_z w128 c.number_of_label.result (record { sfits = c.number_of_label.type_inv })
    ∙ c.number_of_label.ensures
    ∙ ap number_or_zero
    (ap₂ number_of_label (c.switched-around.ensures.seen table surroundings kept)
    (ap (node_seen table) c.at-label.ensures
    ∙ seen_at table c.args.facts.now c.child_at.result
    ∙ ap (fact_at (nodes_seen table c.args.facts.now)) c.child_at.ensures))
