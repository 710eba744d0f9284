use Rattle.std.proofs.Common.{◌≡◌, Some, option_map, sym, ap, ◌∙◌}
use Rattle.meaning_statements.specs.Above.{expressions_around, leads_into}
use Rattle.decl_judge.specs.Units.{nodes_of}
use Rattle.node_surroundings.specs.Seen.{surroundings_seen}
use Rattle.statement_rows.specs.declared.named_labels.FunctionLabel.{FunctionLabel}
use Rattle.statement_judge.proofs.owners.enters.Goals as goal

pub returns-in-Some : goal.returns-in-Some
returns-in-Some c =
    let within = expressions_around (nodes_of c.args.unit.now) (surroundings_seen c.args.surroundings.now) c.args.goto.handle in
    ap Some (c.leads_into.ensures c.args.surroundings.now c.requires.surroundings c.requires.nesting)
    ∙ ap (option_map (λ (label : FunctionLabel). leads_into within label.inside)) (sym c.in-Some.is)
