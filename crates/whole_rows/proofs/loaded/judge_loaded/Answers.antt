-- What a load breaks is asked of what the row knows.
use Rattle.std.proofs.Common.{◌∙◌, ap, sym}
use Rattle.meaning_rules.specs.Rules.{least_broken}
use Rattle.meaning_typing.specs.Wholes.{loaded_broken}
use Rattle.c_types.specs.Layouts.{told_in}
use Rattle.expression_rows.specs.Rows.{told}
use Rattle.whole_rows.specs.Rows.{loaded_if, told_and}
use Rattle.whole_rows.proofs.RowLemmas.{and_told, loaded_told}
use Rattle.whole_rows.proofs.loaded.judge_loaded.Goals as goal

pub returns-clause-row : goal.returns-clause-row
returns-clause-row c want stands wanted seen =
    let table = c.args.types.now in
    let token = c.args.token in
    c.and_breaks.ensures.seen table
    ∙ (λ i. told_and (seen i) (c.loaded_broken-broken.ensures i))
    ∙ (λ i. told_and (told stands) (least_broken (loaded_if (told_in table) token (sym wanted i) (seen i).fact)))
    ∙ ap (λ broken. told_and (told stands) (least_broken broken)) (loaded_told (told_in table) token stands.fact want)
    ∙ and_told stands (loaded_broken (told_in table) token want stands.fact)
