-- A label is kept as it is seen.
use Rattle.std.proofs.Common.{◌≡◌, ◌∷◌, ◌++◌, Some, sym, subst}
use Rattle.vocabulary.specs.declared.node_kind.NodeKind.{NodeKind}
use Rattle.meaning_statements.specs.Jumps.{SeenLabel, labels_if}
use Rattle.decl_judge.specs.Units.{nodes_of}
use Rattle.statement_rows.specs.Labels.{StandsForNamed}
use Rattle.statement_judge.proofs.keeping.keep_in_function.Goals as goal

pub returns-in_ok-add-in-LabelStatement : goal.returns-in_ok-add-in-LabelStatement
returns-in_ok-add-in-LabelStatement c = λ surroundings inside read stands.
    subst (λ (kind : NodeKind). StandsForNamed c.add.new.self (labels_if (nodes_of c.args.unit.now) surroundings c.args.handle kind (Some c.args.owner) ++ read))
    (sym c.in-LabelStatement.is)
    (subst (λ (label : SeenLabel). StandsForNamed c.add.new.self (label ∷ read))
    (λ i. record {
      handle = c.args.handle;
      token = c.token_at-token.ensures i;
      name = c.name_at.ensures i;
      owner = c.args.owner;
      inside = sym inside i;
    })
    (c.in_ok-add-in-LabelStatement.ensures.joins read stands))
