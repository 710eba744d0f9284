-- A `goto` is kept as it is seen.
use Rattle.std.proofs.Common.{◌≡◌, ◌∷◌, ◌++◌, Some, sym, subst}
use Rattle.vocabulary.specs.declared.node_kind.NodeKind.{NodeKind}
use Rattle.meaning_statements.specs.Above.{expressions_around}
use Rattle.meaning_statements.specs.Jumps.{SeenGoto, gotos_if}
use Rattle.decl_judge.specs.Units.{nodes_of}
use Rattle.statement_judge.specs.Gotos.{StandsForGotos}
use Rattle.statement_judge.proofs.keeping.keep_jump.Goals as goal

pub returns-in_ok-add-in-GotoStatement : goal.returns-in_ok-add-in-GotoStatement
returns-in_ok-add-in-GotoStatement c = λ surroundings read stands.
    let nodes = nodes_of c.args.unit.now in
    let around = expressions_around nodes surroundings in
    subst (λ (kind : NodeKind). StandsForGotos around c.add.new.self (gotos_if nodes surroundings c.args.handle kind (Some c.args.owner) ++ read))
    (sym c.in-GotoStatement.is)
    (subst (λ (goto : SeenGoto). StandsForGotos around c.add.new.self (goto ∷ read))
    (λ i. record {
      handle = c.args.handle;
      token = c.token_at.ensures i;
      name = c.name_at.ensures i;
      owner = c.args.owner;
      within = around c.args.handle;
    })
    (c.in_ok-add-in-GotoStatement.ensures around read stands))
