use Rattle.std.proofs.Common.{◌≡◌, ◌+◌, ◌<◌, [], None, refl, ap, sym, subst, ◌∙◌}
use Rattle.meaning_rules.specs.Rules.{least_broken}
use Rattle.meaning_tree.specs.Nodes.{end_of}
use Rattle.meaning_typing.specs.Declarators.{type_declared}
use Rattle.meaning_typing.specs.MemberRows.{may_be_flexible, typed_member_broken}
use Rattle.meaning_typing.specs.Rows.{Row, nothing, unless_broken}
use Rattle.meaning_typing.specs.Surroundings.{Surrounding, surrounding_at}
use Rattle.meaning_typing.specs.Units.{kind_at}
use Rattle.c_types.specs.Layouts.{told_in}
use Rattle.node_facts.specs.Facts.{node_seen}
use Rattle.expression_rows.specs.Rows.{told}
use Rattle.expression_rows.proofs.LeastLemmas.{least_both}
use Rattle.decl_judge.specs.Units.{nodes_of}
use Rattle.node_surroundings.specs.Seen.{surroundings_seen}
use Rattle.member_declarations.specs.Flexible.{IsToldOf}
use Rattle.member_declarations.specs.Members.{type_broken}
use Rattle.member_declarations.specs.Seen.{row_breaking, row_seen}
use Rattle.member_declarations.proofs.MemberLemmas.{typed_told}
use Rattle.member_declarations.proofs.RowLemmas.{row_told}
use Rattle.member_declarations.proofs.StandingLemmas.{part_within}
use Rattle.member_declarations.proofs.members.member_row.Goals as goal

pub get-declaration-requires : goal.get-declaration-requires
get-declaration-requires c = part_within c.args.unit.now c.args.surroundings.now c.requires.whole c.requires.surroundings c.args.handle c.requires.part

pub may_be_flexible-flexible-requires-clause-part : goal.may_be_flexible-flexible-requires-clause-part
may_be_flexible-flexible-requires-clause-part c =
    subst (λ (standing : Surrounding). standing.parent + 1 < end_of c.args.unit.now) (sym c.get-declaration.ensures.seen) c.requires.declaration

pub may_be_flexible-flexible-requires-clause-kind : goal.may_be_flexible-flexible-requires-clause-kind
may_be_flexible-flexible-requires-clause-kind c =
    ap (λ (standing : Surrounding). kind_at (nodes_of c.args.unit.now) standing.parent) c.get-declaration.ensures.seen ∙ c.requires.member

pub may_be_flexible-flexible-requires-clause-body : goal.may_be_flexible-flexible-requires-clause-body
may_be_flexible-flexible-requires-clause-body c =
    let seen = surroundings_seen c.args.surroundings.now in
    subst (λ (standing : Surrounding). IsToldOf (nodes_of c.args.unit.now) (surrounding_at seen standing.parent).parent c.args.body) (sym c.get-declaration.ensures.seen)
    c.requires.body

pub returns-clause-row : goal.returns-clause-row
returns-clause-row c = λ names twice.
    let table = c.args.types.now in
    let nodes = nodes_of c.args.unit.now in
    let seen = surroundings_seen c.args.surroundings.now in
    let handle = c.args.handle in
    let declaration = (surrounding_at seen handle).parent in
    let of = type_declared (node_seen table c.args.fact) in
    let typed = typed_member_broken nodes seen (told_in table) handle declaration of in
    let flexible = c.may_be_flexible-flexible.ensures ∙ ap (λ (standing : Surrounding). may_be_flexible nodes seen handle standing.parent) c.get-declaration.ensures.seen in
    let broken =
    c.fact_broken-broken.ensures
    ∙ (λ i. least_broken (type_broken (told_in table) (c.token_at.ensures i) (c.has_name-is_named.ensures i) (flexible i) of))
    ∙ ap least_broken (typed_told nodes seen (told_in table) handle declaration of) in
    let by_type : Row = record nothing { fact = unless_broken typed (node_seen table c.args.fact); broken = typed } in
    let known : row_seen table c.unless.result ≡ told by_type =
    ap (row_seen table) c.unless.ensures ∙ row_told table c.fact_broken-broken.result c.args.fact None typed [] broken refl in
    c.breaking.ensures.row table
    ∙ (λ i. row_breaking (known i) (twice i))
    ∙ ap (λ least. record (told by_type) { broken = least }) (sym (least_both typed names))
