use Rattle.std.proofs.Common.{◌≡◌, List, option_map, ap, ◌∙◌}
use Rattle.meaning_operands.specs.Failures.{Broken}
use Rattle.meaning_rules.specs.Rules.{least_broken, least_token}
use Rattle.meaning_typing.specs.DeclarationRows as meaning
use Rattle.meaning_typing.specs.Units.{kind_at}
use Rattle.c_types.specs.Layouts.{told_in}
use Rattle.c_types.specs.Table.{type_at}
use Rattle.decl_judge.specs.Units.{nodes_of}
use Rattle.expression_rows.specs.Rows.{broken_seen}
use Rattle.node_facts.specs.Facts.{nodes_seen}
use Rattle.node_facts.proofs.GrowthLemmas.{id_later, type_later}
use Rattle.declaration_rows.specs.Parts.{large_at}
use Rattle.declaration_rows.proofs.parts.judge_part.Goals as goal

pub part_broken_by-broken-requires-clause-of : goal.part_broken_by-broken-requires-clause-of
part_broken_by-broken-requires-clause-of c = id_later c.args.types.now c.derived.new.types c.in_ok-type_made.ensures.keeps c.args.of c.requires.of

pub returns-clause-broken : goal.returns-clause-broken
returns-clause-broken c =
    let old = c.args.types.now in
    let new = c.derived.new.types in
    let nodes = nodes_of c.args.unit.now in
    let part = c.args.part in
    let join = c.in_ok-type_made.ensures.keeps in
    c.part_broken_by-broken.ensures
    ∙ (λ i. least_broken
    (meaning.part_broken (join.layouts i) nodes part (kind_at nodes part) (type_later old new join c.args.of c.requires.of i)
    (meaning.made_or (type_later old new join c.args.of c.requires.of i) (c.in_ok-type_made.ensures.made i))))

pub returns-clause-made : goal.returns-clause-made
returns-clause-made c =
    let old = c.args.types.now in
    let new = c.derived.new.types in
    let nodes = nodes_of c.args.unit.now in
    let part = c.args.part in
    let join = c.in_ok-type_made.ensures.keeps in
    let own : List Broken = meaning.one_part_broken (told_in old) nodes (nodes_seen old c.args.facts.now) c.args.token part (type_at old c.args.of) in
    let is : option_map broken_seen c.part_broken_by-broken.result ≡ least_broken own =
    c.part_broken_by-broken.ensures
    ∙ (λ i. least_broken
    (meaning.part_broken (join.layouts i) nodes part (kind_at nodes part) (type_later old new join c.args.of c.requires.of i)
    (meaning.made_or (type_later old new join c.args.of c.requires.of i) (c.in_ok-type_made.ensures.made i)))) in
    c.type_unless-made.ensures.made new own is ∙ ap (meaning.type_unless own) c.in_ok-type_made.ensures.made

pub returns-clause-passed : goal.returns-clause-passed
returns-clause-passed c =
    c.large_part.ensures
    ∙ ap (λ told. least_token (large_at told (nodes_of c.args.unit.now) c.args.part (option_map (type_at c.derived.new.types) c.type_unless-made.result)))
    c.in_ok-type_made.ensures.keeps.layouts

pub large_part-requires-clause-made : goal.large_part-requires-clause-made
large_part-requires-clause-made c = c.type_unless-made.ensures.known c.derived.new.types c.in_ok-type_made.ensures.known

pub returns-clause-known : goal.returns-clause-known
returns-clause-known c = c.type_unless-made.ensures.known c.derived.new.types c.in_ok-type_made.ensures.known
