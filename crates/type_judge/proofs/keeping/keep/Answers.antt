-- The node is kept among the statements, and then known.
use Rattle.std.proofs.Common.{◌+◌, ◌++◌, ◌∷◌, [], List, ap₂, subst, arith}
use Rattle.std.proofs.lemmas.Result.{IfOk-weaker}
use Rattle.decl_judge.specs.Units.{nodes_of}
use Rattle.expr_judge.proofs.NodeLemmas.{end-nodes}
use Rattle.linked_names.proofs.GrowthLemmas.{Extends-twice}
use Rattle.node_facts.proofs.GrowthLemmas.{node_known, node_later}
use Rattle.meaning_typing.specs.Facts.{Fact}
use Rattle.node_facts.specs.Facts.{node_seen}
use Rattle.node_judge.specs.Known.{IsKnownOf, table_of}
use Rattle.node_surroundings.specs.Seen.{surroundings_seen}
use Rattle.type_judge.proofs.FactLemmas.{known_itself}
use Rattle.type_judge.proofs.KeepingLemmas.{kept_next}
use Rattle.type_judge.proofs.keeping.keep.Goals as goal

pub add-requires-clause-ids : goal.add-requires-clause-ids
add-requires-clause-ids c =
    node_known (table_of c.args.known.now) (table_of c.keep_statement.new.known) c.in_ok-keep_statement.ensures.types c.args.fact c.requires.ids

pub add-requires-clause-known : goal.add-requires-clause-known
add-requires-clause-known c =
    known_itself (nodes_of c.args.unit.now) (surroundings_seen c.args.surroundings.now) c.args.handle c.keep_statement.new.known
    c.in_ok-keep_statement.ensures.known

pub returns-clause-types : goal.returns-clause-types
returns-clause-types c =
    IfOk-weaker c.add.result _ _
    (λ _ extends.
    Extends-twice (table_of c.args.known.now) (table_of c.keep_statement.new.known) (table_of c.add.new.self)
    c.in_ok-keep_statement.ensures.types.extends extends)
    c.add.ensures.types

pub returns-clause-known : goal.returns-clause-known
returns-clause-known c =
    let nodes = nodes_of c.args.unit.now in
    let surroundings = surroundings_seen c.args.surroundings.now in
    IfOk-weaker c.add.result _ _
    (λ _ known.
    subst (λ (facts : List Fact). IsKnownOf nodes surroundings (c.args.handle + 1) facts c.add.new.self)
    (ap₂ (λ front last. front ++ last ∷ []) c.in_ok-keep_statement.ensures.known.facts
    (node_later (table_of c.args.known.now) (table_of c.keep_statement.new.known) c.in_ok-keep_statement.ensures.types c.args.fact c.requires.ids))
    known)
    c.add.ensures.known

pub returns-clause-kept : goal.returns-clause-kept
returns-clause-kept c =
    IfOk-weaker c.add.result _ _
    (λ _ extends.
    kept_next (nodes_of c.args.unit.now) (surroundings_seen c.args.surroundings.now) c.args.handle c.args.known.now c.requires.known
    (omega (arith, c.requires.node, end-nodes c.args.unit.now c.requires.whole)) c.keep_statement.new.statements
    (node_seen (table_of c.args.known.now) c.args.fact) c.in_ok-keep_statement.ensures.kept)
    c.add.ensures.types
