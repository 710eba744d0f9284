use Rattle.std.proofs.Common.{ap, ◌∙◌}
use Rattle.meaning_rules.specs.Rules.{least_broken}
use Rattle.meaning_typing.specs.DeclarationRows as meaning
use Rattle.decl_judge.proofs.AskedLemmas.{seen_at}
use Rattle.node_facts.specs.Facts.{node_seen}
use Rattle.declaration_rows.proofs.sizes.size_broken_at.Goals as goal

pub returns : goal.returns
returns c =
    let table = c.args.types.now in
    let fact = ap (node_seen table) c.at.ensures ∙ seen_at table c.args.facts.now c.args.size in
    c.size_broken.ensures ∙ (λ i. least_broken (meaning.size_broken (c.token_at.ensures i) (fact i)))
