-- Of a place that can be written the move alone may break something.
use Rattle.std.proofs.Common.{◌≡◌, true, [], ◌++◌, if◌then◌else◌, sym, ap, ◌∙◌}
use Rattle.vocabulary.specs.declared.error_kind.ErrorKind.TheVariants.{NotModifiable}
use Rattle.meaning_typing.specs.Facts.{type_of_value, value}
use Rattle.meaning_typing.specs.Rows.{breaks_at, gives}
use Rattle.meaning_typing.specs.Expressions.{is_modifiable}
use Rattle.meaning_typing.specs.Changes.{place_broken}
use Rattle.c_types.specs.Layouts.{told_in}
use Rattle.expression_rows.specs.Changes.{moved_broken, written_type}
use Rattle.expression_rows.specs.Facts.{valued_seen}
use Rattle.expression_rows.specs.Outcomes.{outcome_seen}
use Rattle.expression_rows.specs.Rows.{failure_listed, failures_seen, told}
use Rattle.expression_rows.proofs.OutcomeLemmas.{gives_told, only_told}
use Rattle.expression_rows.proofs.change.stored.Goals as goal

pub returns-then-is_modifiable-clause-row : goal.returns-then-is_modifiable-clause-row
returns-then-is_modifiable-clause-row c =
    let table = c.args.types.now in
    let place = valued_seen table c.args.place in
    let moves = moved_broken (told_in table) c.args.token (type_of_value place) c.args.moves in
    let failing = failure_listed table c.args.failure in
    let modifiable : is_modifiable place ≡ true = sym c.is_modifiable.ensures ∙ c.if-is_modifiable.true in
    let written : place_broken c.args.token place ≡ [] = λ i. if modifiable i then [] else breaks_at NotModifiable c.args.token in
    let fails : failures_seen table c.only.result ≡ failing =
    ap (failures_seen table) c.only.ensures ∙ only_told table c.args.failure failing (λ i. failing) in
    ap (outcome_seen table) c.gives.ensures
    ∙ gives_told table c.written-given.result c.moved_broken-moved.result c.only.result (value (written_type place c.args.before)) moves failing
    c.written-given.ensures.given c.moved_broken-moved.ensures fails
    ∙ ap (λ broken. told (gives (value (written_type place c.args.before)) (broken ++ moves) failing)) (sym written)
