-- By whether it declares a function.
use Rattle.std.proofs.Common.{Some, None, if◌then◌else◌, sym, subst, ap, ◌∙◌}
use Rattle.meaning_control.specs.Nodes.{declares_function}
use Rattle.decl_judge.proofs.AskedLemmas.{known_at, seen_at}
use Rattle.node_facts.specs.Facts.{IsKnownNodeFact, node_seen, nodes_seen}
use Rattle.linear_code.specs.Known.{function_note}
use Rattle.judged_control.specs.Judged.{function_noted, known_of}
use Rattle.judged_control.proofs.asked.function_of.Goals as goal

pub declares_function-requires : goal.declares_function-requires
declares_function-requires c =
    let table = c.args.types.now in
    subst (IsKnownNodeFact table) (sym c.at.ensures) (known_at table c.args.facts.now c.args.declarator c.requires)

pub returns-then-not-declares_function : goal.returns-then-not-declares_function
returns-then-not-declares_function c = λ nodes surroundings kept.
    let table = c.args.types.now in
    ap (λ test. if test then Some (function_note (known_of nodes surroundings (nodes_seen table c.args.facts.now)) c.args.declarator) else None)
    (sym c.if-not-declares_function.true
    ∙ c.declares_function.ensures
    ∙ ap declares_function (ap (node_seen table) c.at.ensures ∙ seen_at table c.args.facts.now c.args.declarator))

pub returns : goal.returns
returns c = λ nodes surroundings kept.
    let table = c.args.types.now in
    ap Some (c.function_noted.ensures ∙ ap function_noted (c.note_of.ensures table nodes surroundings kept))
    ∙ ap (λ test. if test then Some (function_note (known_of nodes surroundings (nodes_seen table c.args.facts.now)) c.args.declarator) else None)
    (sym c.if-not-declares_function.false
    ∙ c.declares_function.ensures
    ∙ ap declares_function (ap (node_seen table) c.at.ensures ∙ seen_at table c.args.facts.now c.args.declarator))
