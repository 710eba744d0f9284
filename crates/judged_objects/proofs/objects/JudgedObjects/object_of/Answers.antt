-- By what is known of the declarator.
use Rattle.std.proofs.Common.{sym, ap, ◌∙◌}
use Rattle.meaning_objects.specs.Objects.{object_declared}
use Rattle.decl_judge.proofs.AskedLemmas.{seen_at}
use Rattle.node_facts.specs.Facts.{node_seen, nodes_seen}
use Rattle.judged_objects.proofs.objects.JudgedObjects.object_of.Goals as goal

pub returns-in-Declared : goal.returns-in-Declared
returns-in-Declared c = λ table nodes surroundings kept.
    let facts = nodes_seen table c.args.known.now in
    c.object_declared.ensures table nodes surroundings facts kept
    ∙ ap (object_declared facts c.args.declarator) (ap (node_seen table) (sym c.in-Declared.is ∙ c.at.ensures) ∙ seen_at table c.args.known.now c.args.declarator)

pub returns-in-Unknown : goal.returns-in-Unknown
returns-in-Unknown c = λ table nodes surroundings kept.
    ap (object_declared (nodes_seen table c.args.known.now) c.args.declarator)
    (ap (node_seen table) (sym c.in-Unknown.is ∙ c.at.ensures) ∙ seen_at table c.args.known.now c.args.declarator)

pub returns-in-Expression : goal.returns-in-Expression
returns-in-Expression c = λ table nodes surroundings kept.
    ap (object_declared (nodes_seen table c.args.known.now) c.args.declarator)
    (ap (node_seen table) (sym c.in-Expression.is ∙ c.at.ensures) ∙ seen_at table c.args.known.now c.args.declarator)

pub returns-in-Specified : goal.returns-in-Specified
returns-in-Specified c = λ table nodes surroundings kept.
    ap (object_declared (nodes_seen table c.args.known.now) c.args.declarator)
    (ap (node_seen table) (sym c.in-Specified.is ∙ c.at.ensures) ∙ seen_at table c.args.known.now c.args.declarator)

pub returns-in-NamedType : goal.returns-in-NamedType
returns-in-NamedType c = λ table nodes surroundings kept.
    ap (object_declared (nodes_seen table c.args.known.now) c.args.declarator)
    (ap (node_seen table) (sym c.in-NamedType.is ∙ c.at.ensures) ∙ seen_at table c.args.known.now c.args.declarator)
