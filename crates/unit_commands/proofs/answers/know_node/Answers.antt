-- The node is known by its row.
use Rattle.std.proofs.Common.{List, sym, ap, subst}
use Rattle.std.proofs.lemmas.Result.{on_ok_weaker}
use Rattle.linked_names.proofs.GrowthLemmas.{Extends-twice}
use Rattle.expr_judge.specs.Rows.{KeptRow}
use Rattle.meaning_typing.specs.Facts.{Fact}
use Rattle.decl_judge.specs.Units.{nodes_of}
use Rattle.node_facts.specs.Facts.{node_seen}
use Rattle.node_surroundings.specs.Seen.{surroundings_seen}
use Rattle.node_judge.specs.Known.{IsKnownOf, table_of}
use Rattle.unit_commands.proofs.AnswerLemmas.{first_next, over_itself}
use Rattle.unit_commands.proofs.answers.know_node.Goals as goal

pub add-requires-clause-ids : goal.add-requires-clause-ids
add-requires-clause-ids c = c.in_ok-row.ensures.says.ids

pub judge_node-requires-clause-known : goal.judge_node-requires-clause-known
judge_node-requires-clause-known c =
    over_itself (nodes_of c.args.unit.now) (surroundings_seen c.args.surroundings.now) c.args.handle c.args.known.now c.requires.known

pub add-requires-clause-known : goal.add-requires-clause-known
add-requires-clause-known c =
    let stays = c.in_ok-row.ensures.keeps in
    subst
    (λ (facts : List Fact).
    IsKnownOf (nodes_of c.args.unit.now) (surroundings_seen c.args.surroundings.now) c.args.handle facts c.judge_node.new.known)
    (sym stays.facts) stays

pub returns-clause-known : goal.returns-clause-known
returns-clause-known c =
    let nodes = nodes_of c.args.unit.now in
    let surroundings = surroundings_seen c.args.surroundings.now in
    on_ok_weaker c.add.result
    (λ known.
    first_next nodes surroundings c.args.handle c.args.known.now c.requires.known c.judge_node.new.known c.add.new.self
    (node_seen (table_of c.judge_node.new.known) c.in_ok-row.row.fact) c.in_ok-row.ensures.keeps
    (ap (λ (kept : KeptRow). kept.fact) c.in_ok-row.ensures.says.row) known)
    c.add.ensures.known

pub returns-clause-types : goal.returns-clause-types
returns-clause-types c =
    on_ok_weaker c.add.result
    (λ extends. Extends-twice (table_of c.args.known.now) (table_of c.judge_node.new.known) (table_of c.add.new.self) c.in_ok-row.ensures.says.keeps.extends extends)
    c.add.ensures.types
