-- By the kind of the node.
use Rattle.std.proofs.lemmas.Result.{IfOk-weaker}
use Rattle.decl_judge.specs.Units.{nodes_of}
use Rattle.expr_judge.proofs.NodeLemmas.{kind-is}
use Rattle.node_judge.specs.Known.{facts_seen}
use Rattle.node_surroundings.specs.Seen.{surroundings_seen}
use Rattle.type_judge.proofs.RowLemmas.{both_rows, initializer_row, literal_row, return_alone}
use Rattle.type_judge.proofs.rows.row_of_node.Goals as goal

pub returns-in-ReturnStatement-clause-says : goal.returns-in-ReturnStatement-clause-says
returns-in-ReturnStatement-clause-says c =
    let kind = kind-is c.args.unit.now c.requires.whole c.args.handle c.kind.ensures.0 c.kind.result c.kind.ensures.1 c.kind.ensures.2 in
    IfOk-weaker c.statement_row.result _ _
    (λ row tells. (
      _,
      return_alone (nodes_of c.args.unit.now) (surroundings_seen c.args.surroundings.now) (facts_seen c.args.known.now) c.args.handle c.kind.result kind
          c.in-ReturnStatement.is,
      tells,
    ))
    c.statement_row.ensures.says

pub returns-in-CompoundLiteral-clause-says : goal.returns-in-CompoundLiteral-clause-says
returns-in-CompoundLiteral-clause-says c =
    let kind = kind-is c.args.unit.now c.requires.whole c.args.handle c.kind.ensures.0 c.kind.result c.kind.ensures.1 c.kind.ensures.2 in
    IfOk-weaker c.initialized_row.result _ _
    (λ row tells. (
      tells.0,
      literal_row (nodes_of c.args.unit.now) (surroundings_seen c.args.surroundings.now) (facts_seen c.args.known.now) c.args.handle c.kind.result kind
          c.in-CompoundLiteral.is tells.0 tells.1,
      tells.2,
    ))
    c.initialized_row.ensures.says

pub returns-in-Initializer-clause-says : goal.returns-in-Initializer-clause-says
returns-in-Initializer-clause-says c =
    let kind = kind-is c.args.unit.now c.requires.whole c.args.handle c.kind.ensures.0 c.kind.result c.kind.ensures.1 c.kind.ensures.2 in
    IfOk-weaker c.initialized_row-in-Initializer.result _ _
    (λ row tells. (
      tells.0,
      initializer_row (nodes_of c.args.unit.now) (surroundings_seen c.args.surroundings.now) (facts_seen c.args.known.now) c.args.handle c.kind.result kind
          c.in-Initializer.is tells.0 tells.1,
      tells.2,
    ))
    c.initialized_row-in-Initializer.ensures.says

pub returns-in_default-clause-says : goal.returns-in_default-clause-says
returns-in_default-clause-says c =
    let kind = kind-is c.args.unit.now c.requires.whole c.args.handle c.kind.ensures.0 c.kind.result c.kind.ensures.1 c.kind.ensures.2 in
    IfOk-weaker c.row_besides.result _ _
    (λ row tells. (
      _,
      both_rows (nodes_of c.args.unit.now) (surroundings_seen c.args.surroundings.now) (facts_seen c.args.known.now) c.args.handle c.kind.result kind
          c.in_default.not-ReturnStatement c.in_default.not-CompoundLiteral c.in_default.not-Initializer,
      tells,
    ))
    c.row_besides.ensures.says
