-- Either target may have no size.
use Rattle.std.proofs.Common.{◌≡◌, ◌++◌, option_map, sym, ap, ◌∙◌}
use Rattle.vocabulary.specs.declared.int_kind.IntKind.TheVariants.{Long}
use Rattle.meaning_typing.specs.Facts.{type_of_value, value}
use Rattle.meaning_typing.specs.Operators.{integer, target_broken}
use Rattle.meaning_rules.specs.Rules.{least_broken, lesser}
use Rattle.c_types.specs.Layouts.{told_in}
use Rattle.expression_rows.specs.Facts.{valued_seen}
use Rattle.expression_rows.specs.Outcomes.{given_seen, outcome_seen}
use Rattle.expression_rows.specs.Rows.{broken_seen, failure_listed, failures_seen}
use Rattle.expression_rows.proofs.LeastLemmas.{least_both}
use Rattle.expression_rows.proofs.OutcomeLemmas.{gives_told, only_told}
use Rattle.expression_rows.proofs.binary.distance.Goals as goal

pub returns-clause-row : goal.returns-clause-row
returns-clause-row c =
    let table = c.args.types.now in
    let first = target_broken (told_in table) c.args.token (type_of_value (valued_seen table c.args.left)) in
    let second = target_broken (told_in table) c.args.token (type_of_value (valued_seen table c.args.right)) in
    let least : option_map broken_seen c.lesser-broken.result ≡ least_broken (first ++ second) =
    c.lesser-broken.ensures ∙ (λ i. lesser (c.target_broken.ensures i) (c.target_broken-2.ensures i)) ∙ sym (least_both first second) in
    let fails : failures_seen table c.only.result ≡ failure_listed table c.args.failure =
    ap (failures_seen table) c.only.ensures ∙ only_told table c.args.failure (failure_listed table c.args.failure) (λ i. failure_listed table c.args.failure) in
    ap (outcome_seen table) c.gives.ensures
    ∙ gives_told table c.value.result c.lesser-broken.result c.only.result (value (integer Long)) (first ++ second) (failure_listed table c.args.failure)
    (ap (given_seen table) c.value.ensures) least fails
