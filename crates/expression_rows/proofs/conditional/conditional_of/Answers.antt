-- The condition breaks and fails besides what the arms do.
use Rattle.std.proofs.Common.{◌≡◌, ℤ, Option, [], ◌++◌, option_map, sym, ap, ◌∙◌}
use Rattle.meaning_typing.specs.Operators.{condition_broken, condition_failures, value_sort}
use Rattle.meaning_typing.specs.Conditionals.{arms_row}
use Rattle.meaning_rules.specs.Rules.{least_broken, lesser}
use Rattle.meaning_typing.specs.Rows.{Row, unless_broken}
use Rattle.expression_rows.specs.Arms.{arms_seen}
use Rattle.expression_rows.specs.Facts.{valued_part, valued_seen}
use Rattle.expression_rows.specs.Outcomes.{given_fact}
use Rattle.expression_rows.specs.Rows.{broken_seen, failure_listed, told}
use Rattle.expression_rows.proofs.ArmLemmas.{arms_fact}
use Rattle.expression_rows.proofs.LeastLemmas.{least_both}
use Rattle.expression_rows.proofs.conditional.conditional_of.Goals as goal

pub returns-clause-row : goal.returns-clause-row
returns-clause-row c =
    let table = c.args.types.now in
    let condition = valued_seen table c.args.condition in
    let tested = condition_broken c.args.at.first (value_sort condition) in
    let arms = c.arms_if-arms.result in
    let row_by : Option ℤ → Row = λ number. arms_row number c.args.at.token c.args.at.second c.args.at.third (valued_part table c.args.left) (valued_part table c.args.right) in
    let row = row_by condition.constant in
    let seen : arms_seen table arms ≡ told row = c.arms_if-arms.ensures.arms ∙ ap (λ number. told (row_by number)) c.number_of.ensures in
    let broken : option_map broken_seen c.lesser.result ≡ lesser (least_broken tested) (option_map broken_seen arms.broken) =
    c.lesser.ensures ∙ (λ i. lesser (c.condition_broken.ensures i) (option_map broken_seen arms.broken)) in
    (λ i. record {
      fact = given_fact table (broken i) arms.given;
      broken = broken i;
      failures = failure_listed table arms.failure ++ c.condition_failure.ensures.failure i;
      passed = [];
    })
    ∙ (λ i. record {
      fact = arms_fact table tested (option_map broken_seen arms.broken) arms.given i;
      broken = lesser (least_broken tested) (option_map broken_seen arms.broken);
      failures = failure_listed table arms.failure ++ condition_failures c.args.at.token condition;
      passed = [];
    })
    ∙ (λ i. record {
      fact = unless_broken tested (seen i).fact;
      broken = lesser (least_broken tested) (seen i).broken;
      failures = (seen i).failures ++ condition_failures c.args.at.token condition;
      passed = (seen i).passed;
    })
    ∙ (λ i. record {
      fact = unless_broken tested row.fact;
      broken = sym (least_both tested row.broken) i;
      failures = row.failures ++ condition_failures c.args.at.token condition;
      passed = row.passed;
    })
