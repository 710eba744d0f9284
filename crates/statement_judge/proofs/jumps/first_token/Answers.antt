use Rattle.std.proofs.Common.{◌≡◌, ℕ, Option, option_map, sym, ap, ◌∙◌}
use Rattle.meaning_statements.specs.Jumps.{SeenLabel, first_named, label_in}
use Rattle.node_facts.specs.Facts.{name_seen}
use Rattle.statement_rows.specs.declared.named_labels.FunctionLabel.{FunctionLabel}
use Rattle.statement_judge.proofs.OwnerLemmas.{token_kept}
use Rattle.statement_judge.proofs.jumps.first_token.Goals as goal

pub returns-in-Some : goal.returns-in-Some
returns-in-Some c = λ read stands.
    c.token_of_label.ensures ∙ ap (option_map (λ (label : FunctionLabel). label.token)) (c.first.ensures read stands)
    ∙ token_kept (first_named c.in-Some.owner (name_seen c.args.name) read)
    ∙ ap (λ (of : Option ℕ). option_map (λ (label : SeenLabel). label.token) (label_in read of (name_seen c.args.name))) (sym c.in-Some.is)
