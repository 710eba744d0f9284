use Rattle.std.proofs.Common.{◌≡◌, option_map, sym, ◌∙◌}
use Rattle.meaning_statements.specs.Jumps.{SeenLabel, label_in, labels_before}
use Rattle.meaning_statements.specs.Statements.{label_row}
use Rattle.meaning_typing.specs.Typing.{token_at}
use Rattle.meaning_typing.specs.Units.{node_at}
use Rattle.decl_judge.specs.Units.{nodes_of}
use Rattle.expression_rows.specs.Rows.{told}
use Rattle.node_facts.specs.Facts.{name_seen}
use Rattle.node_facts.proofs.GrowthLemmas.{joins_none}
use Rattle.statement_judge.proofs.jumps.label_statement.Goals as goal

pub returns : goal.returns
returns c = λ table surroundings owner stands.
    let nodes = nodes_of c.args.unit.now in
    let handle = c.args.handle in
    let read = labels_before nodes surroundings handle in
    let named : name_seen c.name_at-name.result ≡ (node_at nodes handle).name = c.name_at-name.ensures in
    let earliest =
    c.first_token-earliest.ensures read stands
    ∙ (λ i. option_map (λ (label : SeenLabel). label.token) (label_in read (sym owner i) (named i))) in
    record {
      row = c.judge_label.ensures.row table ∙ (λ i. told (label_row (c.token_at.ensures i) (named i) (earliest i)));
      known = c.judge_label.ensures.known table;
      keeps = joins_none table;
    }
