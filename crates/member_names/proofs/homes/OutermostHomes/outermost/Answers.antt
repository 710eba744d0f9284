use Rattle.std.proofs.Common.{◌≡◌, ◌<◌, true, Some, None, nat_eq, ap, sym, ◌∙◌}
use Rattle.indexmap.specs.IndexMap.{get}
use Rattle.meaning_typing.specs.MemberDeclarations.{is_tagless}
use Rattle.meaning_typing.specs.MemberRows.{declaration_around, specifier_around}
use Rattle.meaning_typing.specs.Units.{kind_at}
use Rattle.decl_judge.specs.Units.{nodes_of}
use Rattle.node_surroundings.specs.Seen.{surroundings_seen}
use Rattle.member_names.proofs.HomeLemmas.{later_outside}
use Rattle.member_names.proofs.KeptLemmas.{home_found, home_here}
use Rattle.member_names.proofs.homes.OutermostHomes.outermost.Goals as goal

pub returns-then-not-is_tagless : goal.returns-then-not-is_tagless
returns-then-not-is_tagless c =
    let nodes = nodes_of c.args.unit.now in
    let surroundings = surroundings_seen c.args.surroundings.now in
    c.above_parent-specifier.ensures.specifier
    ∙ home_here nodes surroundings c.requires.order.parents c.args.declaration
    (ap (λ handle. is_tagless nodes handle (kind_at nodes handle)) (sym c.above_parent-specifier.ensures.specifier)
    ∙ sym c.is_tagless.ensures ∙ c.if-not-is_tagless.true)

pub returns-in-Some : goal.returns-in-Some
returns-in-Some c =
    let nodes = nodes_of c.args.unit.now in
    let surroundings = surroundings_seen c.args.surroundings.now in
    let declaration = c.args.declaration in
    let specifier = specifier_around surroundings declaration in
    let outside = declaration_around surroundings specifier in
    let tagless : is_tagless nodes specifier (kind_at nodes specifier) ≡ true =
    ap (λ handle. is_tagless nodes handle (kind_at nodes handle)) (sym c.above_parent-specifier.ensures.specifier)
    ∙ sym c.is_tagless.ensures ∙ c.if-not-is_tagless.false in
    let there : c.above_parent.result ≡ outside =
    c.above_parent.ensures.declaration ∙ ap (declaration_around surroundings) c.above_parent-specifier.ensures.specifier in
    let later : declaration < outside = later_outside nodes surroundings c.requires.order.parents declaration c.requires.member tagless in
    home_found nodes surroundings c.requires.order.parents declaration (Some c.in-Some.home.now) tagless
    (c.in-Some.ensures.value ∙ ap (get nat_eq c.args.self.now.kept) there ∙ c.requires.behind outside later)

pub returns-in-None : goal.returns-in-None
returns-in-None c =
    let nodes = nodes_of c.args.unit.now in
    let surroundings = surroundings_seen c.args.surroundings.now in
    let declaration = c.args.declaration in
    let specifier = specifier_around surroundings declaration in
    let outside = declaration_around surroundings specifier in
    let tagless : is_tagless nodes specifier (kind_at nodes specifier) ≡ true =
    ap (λ handle. is_tagless nodes handle (kind_at nodes handle)) (sym c.above_parent-specifier.ensures.specifier)
    ∙ sym c.is_tagless.ensures ∙ c.if-not-is_tagless.false in
    let there : c.above_parent.result ≡ outside =
    c.above_parent.ensures.declaration ∙ ap (declaration_around surroundings) c.above_parent-specifier.ensures.specifier in
    let later : declaration < outside = later_outside nodes surroundings c.requires.order.parents declaration c.requires.member tagless in
    c.above_parent-specifier.ensures.specifier
    ∙ home_found nodes surroundings c.requires.order.parents declaration None tagless
    (c.in-None.ensures.value ∙ ap (get nat_eq c.args.self.now.kept) there ∙ c.requires.behind outside later)
