use Rattle.std.proofs.Common.{◌≡◌, Bool, Option, option_map, ap, ◌∙◌}
use Rattle.meaning_rules.specs.Rules.{least_broken}
use Rattle.meaning_statements.specs.Above.{expressions_around, leads_into}
use Rattle.meaning_statements.specs.Jumps.{first_named}
use Rattle.meaning_statements.specs.StatementRows.{jump_to}
use Rattle.decl_judge.specs.Units.{nodes_of}
use Rattle.node_facts.specs.Facts.{name_seen}
use Rattle.node_surroundings.specs.Seen.{surroundings_seen}
use Rattle.statement_rows.specs.declared.named_labels.FunctionLabel.{FunctionLabel}
use Rattle.statement_judge.proofs.OwnerLemmas.{enters_kept}
use Rattle.statement_judge.proofs.owners.goto_broken.Goals as goal

pub returns : goal.returns
returns c = λ read stands.
    let nodes = nodes_of c.args.unit.now in
    let surroundings = surroundings_seen c.args.surroundings.now in
    let goto = c.args.goto in
    let within = expressions_around nodes surroundings goto.handle in
    let label = c.first-label.ensures read stands in
    let found = first_named c.args.owner (name_seen goto.name) read in
    c.judge_goto.ensures
    ∙ ap (λ (enters : Option Bool). least_broken (jump_to goto.token (name_seen goto.name) enters))
    (c.enters-enters.ensures ∙ ap (option_map (λ (kept : FunctionLabel). leads_into within kept.inside)) label ∙ enters_kept within found)
