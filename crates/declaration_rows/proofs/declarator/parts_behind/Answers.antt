use Rattle.std.proofs.Common.{Some, ◌++◌, ap, ◌∙◌}
use Rattle.meaning_rules.specs.Rules.{least_broken, least_token, lesser}
use Rattle.meaning_typing.specs.DeclarationRows.{large_parts_of, made_by_parts, own_bitwise_broken, parts_broken}
use Rattle.c_types.specs.Layouts.{told_in}
use Rattle.c_types.specs.Table.{type_at}
use Rattle.decl_judge.specs.Units.{handles_of, nodes_of}
use Rattle.node_facts.specs.Facts.{nodes_seen}
use Rattle.declaration_rows.proofs.LeastLemmas.{least_two}
use Rattle.declaration_rows.proofs.declarator.parts_behind.Goals as goal

pub returns-clause-broken : goal.returns-clause-broken
returns-clause-broken c =
    let old = c.args.types.now in
    let nodes = nodes_of c.args.unit.now in
    let facts = nodes_seen old c.args.facts.now in
    let parts = handles_of c.args.parts.now in
    let parent = c.args.surrounding.parent in
    let place = c.args.surrounding.place in
    let of = type_at old c.args.specifiers.of in
    let token = c.token_at-token.result in
    let broken = parts_broken (told_in old) nodes facts token parts (Some of) in
    c.lesser.ensures
    ∙ (λ i. lesser (c.in_ok-judged.ensures.broken i) (c.own_bitwise_broken-own.ensures i))
    ∙ ap (λ made. lesser (least_broken broken) (least_broken (own_bitwise_broken nodes parent place made))) c.in_ok-judged.ensures.made
    ∙ least_two broken (own_bitwise_broken nodes parent place (made_by_parts (told_in old) nodes facts token parts (Some of)))
    ∙ ap
    (λ token. least_broken
    (parts_broken (told_in old) nodes facts token parts (Some of) ++ own_bitwise_broken nodes parent place (made_by_parts (told_in old) nodes facts token parts (Some of))))
    c.token_at-token.ensures

pub returns-clause-passed : goal.returns-clause-passed
returns-clause-passed c =
    let old = c.args.types.now in
    c.in_ok-judged.ensures.passed
    ∙ ap
    (λ token. least_token
    (large_parts_of (told_in old) (nodes_of c.args.unit.now) (nodes_seen old c.args.facts.now) token (handles_of c.args.parts.now)
    (Some (type_at old c.args.specifiers.of))))
    c.token_at-token.ensures
