-- The least of three constraints.
use Rattle.std.proofs.Common.{◌≡◌, [], ◌++◌, Some, option_map, sym, ◌∙◌}
use Rattle.vocabulary.specs.declared.error_kind.ErrorKind.TheVariants.{CannotDereference}
use Rattle.meaning_typing.specs.Facts.{Unknown}
use Rattle.meaning_typing.specs.Rows.{void_used}
use Rattle.meaning_rules.specs.Rules.{least_broken, lesser}
use Rattle.expression_rows.specs.Facts.{valued_seen}
use Rattle.expression_rows.specs.Rows.{broken_at, broken_seen, failures_seen, row_seen}
use Rattle.expression_rows.proofs.LeastLemmas.{least_both}
use Rattle.expression_rows.proofs.subscript.no_element.Goals as goal

pub returns-clause-row : goal.returns-clause-row
returns-clause-row c =
    let table = c.args.types.now in
    let first = void_used c.args.at.first (valued_seen table c.args.left) in
    let second = void_used c.args.at.second (valued_seen table c.args.right) in
    let used : option_map broken_seen c.lesser-used.result ≡ least_broken (first ++ second) =
    c.lesser-used.ensures ∙ (λ i. lesser (c.void_used.ensures i) (c.void_used-2.ensures i)) ∙ sym (least_both first second) in
    let broken : option_map broken_seen c.lesser.result ≡ lesser (Some (broken_seen (broken_at CannotDereference c.args.at.token))) (least_broken (first ++ second)) =
    c.lesser.ensures ∙ (λ i. lesser (option_map broken_seen (c.broken_at.ensures i)) (used i)) in
    (λ i. row_seen table (c.breaks.ensures i))
    ∙ (λ i. record { fact = Unknown; broken = broken i; failures = failures_seen table (c.none.ensures i); passed = [] })
