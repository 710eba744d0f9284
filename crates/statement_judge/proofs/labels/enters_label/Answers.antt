use Rattle.std.proofs.Common.{◌≡◌, ℕ, Option, sym, ap, ◌∙◌}
use Rattle.meaning_statements.specs.Above.{expressions_around, leads_into}
use Rattle.meaning_statements.specs.StatementRows.{enters_label}
use Rattle.decl_judge.specs.Units.{nodes_of}
use Rattle.node_surroundings.specs.Seen.{surroundings_seen}
use Rattle.statement_judge.specs.declared.enclosing.Enclosing.{Enclosing}
use Rattle.statement_judge.proofs.labels.enters_label.Goals as goal

pub returns-in-Some : goal.returns-in-Some
returns-in-Some c =
    let nodes = nodes_of c.args.unit.now in
    let surroundings = surroundings_seen c.args.surroundings.now in
    c.leads_into.ensures c.args.surroundings.now c.requires.surroundings c.requires.nesting
    ∙ ap (λ (above : Enclosing). leads_into (expressions_around nodes surroundings c.in-Some.switch) above.innermost)
    (c.above.ensures nodes surroundings c.requires.nesting)
    ∙ ap (λ (of : Option ℕ). enters_label nodes surroundings of c.args.label) (sym c.in-Some.is)
