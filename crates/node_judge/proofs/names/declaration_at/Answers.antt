use Rattle.std.proofs.Common.{ap, ◌∙◌, arith}
use Rattle.meaning_typing.specs.Names.{declared_behind}
use Rattle.decl_judge.specs.Units.{nodes_of}
use Rattle.node_facts.specs.Facts.{nodes_seen}
use Rattle.node_surroundings.specs.Seen.{surroundings_seen}
use Rattle.expression_rows.specs.Names.{declared_by}
use Rattle.declaration_judge.proofs.BehindLemmas.{undeclared-past}
use Rattle.node_judge.proofs.names.declaration_at.Goals as goal

pub returns-in-Some-clause-found : goal.returns-in-Some-clause-found
returns-in-Some-clause-found c =
    c.declaration_behind.ensures.found
    ∙ ap
    (λ handle. declared_by (declared_behind (nodes_of c.args.unit.now) (surroundings_seen c.args.surroundings.now) (nodes_seen c.args.types.now c.args.facts.now) handle))
    c.in-Some.ensures.one

pub returns-in-None-clause-found : goal.returns-in-None-clause-found
returns-in-None-clause-found c =
    undeclared-past c.args.types.now c.args.facts.now c.args.number (nodes_of c.args.unit.now) (surroundings_seen c.args.surroundings.now)
    (omega (arith, c.requires.few, c.in-None.ensures.none))
