-- By whether members stand between braces.
use Rattle.std.proofs.Common.{◌≡◌, ℕ, Bool, true, false, List, if◌then◌else◌, sym, ap, subst, ◌∙◌, arith}
use Rattle.std.proofs.lemmas.List.{length-map}
use Rattle.std.proofs.lemmas.Result.{IfOk-weaker}
use Rattle.meaning_typing.specs.EnumRows.{SeenEnumerator, enumeration_row, enumerators_of}
use Rattle.meaning_typing.specs.Facts.{Fact}
use Rattle.meaning_typing.specs.Rows.{Row, known}
use Rattle.meaning_typing.specs.Tags.{enumeration_named, has_body}
use Rattle.meaning_typing.specs.Typing.{token_at}
use Rattle.meaning_typing.specs.Units.{UnitNodes, node_at}
use Rattle.decl_judge.specs.Units.{named_node, nodes_of}
use Rattle.enum_rows.specs.Enumerations.{StandsFor}
use Rattle.enum_rows.specs.Rows.{IsKnownRow, row_seen}
use Rattle.expression_rows.specs.Rows.{told}
use Rattle.node_facts.specs.Facts.{nodes_seen}
use Rattle.specifier_judge.proofs.enumeration.enumeration_row.Goals as goal

abbrev row_by : UnitNodes → List Fact → ℕ → Bool → Row
row_by nodes facts handle test =
    if test then enumeration_row (token_at nodes handle) (enumerators_of nodes facts handle) else known (enumeration_named nodes facts (node_at nodes handle).number)

pub returns-then-has_body-clause-row : goal.returns-then-has_body-clause-row
returns-then-has_body-clause-row c =
    let nodes = nodes_of c.args.unit.now in
    let facts = nodes_seen c.args.types.now c.args.facts.now in
    let handle = c.args.handle in
    let new = c.judge_enumeration.new.types in
    let is : true ≡ has_body nodes handle = sym c.if-has_body.true ∙ c.has_body.ensures in
    IfOk-weaker c.judge_enumeration.result
    (λ row. (list : List SeenEnumerator) → StandsFor c.enumerators_of-enumerators.result list → row_seen new row ≡ told (enumeration_row c.token_at.result list)) _
    (λ row says.
    says (enumerators_of nodes facts handle) c.enumerators_of-enumerators.ensures
    ∙ ap (λ token. told (enumeration_row token (enumerators_of nodes facts handle))) c.token_at.ensures
    ∙ ap (λ test. told (row_by nodes facts handle test)) is)
    c.judge_enumeration.ensures.row

pub enumeration_named-requires-clause-before : goal.enumeration_named-requires-clause-before
enumeration_named-requires-clause-before c =
    omega (arith, c.requires.next, c.requires.node, c.requires.whole, length-map c.args.unit.now.nodes named_node)

pub returns-clause-row : goal.returns-clause-row
returns-clause-row c =
    let nodes = nodes_of c.args.unit.now in
    let facts = nodes_seen c.args.types.now c.args.facts.now in
    let handle = c.args.handle in
    let new = c.enumeration_named.new.types in
    let is : false ≡ has_body nodes handle = sym c.if-has_body.false ∙ c.has_body.ensures in
    ap (row_seen new) c.known.ensures
    ∙ ap (λ fact. told (known fact)) c.in_ok-fact.ensures.fact
    ∙ ap (λ test. told (row_by nodes facts handle test)) is

pub returns-clause-known : goal.returns-clause-known
returns-clause-known c =
    subst (IsKnownRow c.enumeration_named.new.types) (sym c.known.ensures) (record { fact = c.in_ok-fact.ensures.known; failure = tt })
