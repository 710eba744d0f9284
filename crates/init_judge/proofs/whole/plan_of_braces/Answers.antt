-- By what stands first in the braces.
use Rattle.std.proofs.Common.{◌≡◌, [], false, Some, option_map, ap, sym, ◌∙◌}
use Rattle.std.proofs.lemmas.Result.{IfOk-weaker}
use Rattle.meaning_typing.specs.Units.{children_at}
use Rattle.meaning_initializers.specs.Items.{Items}
use Rattle.meaning_initializers.specs.Parts.{string_before}
use Rattle.meaning_initializers.specs.Reading.{given_at, initializer_at, items_of}
use Rattle.c_types.specs.Table.{type_at}
use Rattle.decl_judge.specs.Units.{nodes_of}
use Rattle.node_facts.specs.Facts.{nodes_seen}
use Rattle.initializer_levels.specs.Items.{items_left}
use Rattle.initializer_levels.specs.Reading.{string_told}
use Rattle.init_judge.proofs.WholeLemmas.{both_ok, list_received, string_received}
use Rattle.init_judge.proofs.whole.plan_of_braces.Goals as goal

pub returns-in-Some-clause-received : goal.returns-in-Some-clause-received
returns-in-Some-clause-received c = λ aggregates is_static known.
    let table = c.args.types.now in
    let nodes = nodes_of c.args.unit.now in
    let facts = nodes_seen table c.args.facts.now in
    let type_ = type_at table c.args.object in
    let parts = c.parts_of-parts.ensures.parts in
    let before : string_before type_ (items_of nodes facts (initializer_at nodes facts) (children_at nodes c.args.init))
    ≡ Some (given_at nodes facts c.in-Some.string, items_left nodes facts c.behind.result) =
    ap (string_before type_) (sym (c.in_ok-items.ensures facts))
    ∙ (c.string_in.ensures facts type_ parts
    ∙ (ap (option_map (string_told nodes facts c.in_ok-items.items)) c.in-Some.is
    ∙ ap (λ (items : Items). Some (given_at nodes facts c.in-Some.string, items)) (sym (c.behind.ensures.behind nodes facts)))) in
    both_ok c.plan_met.result _ _ _ (c.plan_met.ensures.found facts is_static table) c.plan_met.ensures.length
    (λ plan found len.
    string_received c.initializers_are_of_parts.ensures aggregates is_static table nodes facts c.requires.order c.args.object c.args.init plan c.requires.braced
    (given_at nodes facts c.in-Some.string) (items_left nodes facts c.behind.result) before found
    (len ∙ c.length_of-length.ensures facts is_static type_ [] false parts))

pub returns-in-Some-clause-known : goal.returns-in-Some-clause-known
returns-in-Some-clause-known c = c.plan_met.ensures.known c.args.types.now (c.requires.object, tt)

pub returns-in-None-clause-received : goal.returns-in-None-clause-received
returns-in-None-clause-received c = λ aggregates is_static known.
    let table = c.args.types.now in
    let nodes = nodes_of c.args.unit.now in
    let facts = nodes_seen table c.args.facts.now in
    let type_ = type_at table c.args.object in
    IfOk-weaker c.walk_items.result _ _
    (λ plan comes.
    list_received c.initializers_are_of_parts.ensures aggregates is_static table nodes facts c.requires.order c.args.object c.args.init plan c.walks_come_to_plans.ensures c.requires.braced
    (items_left nodes facts c.in_ok-items.items) (c.in_ok-items.ensures facts)
    (c.string_in.ensures facts type_ c.parts_of-parts.ensures.parts ∙ ap (option_map (string_told nodes facts c.in_ok-items.items)) c.in-None.is) comes)
    (c.walk_items.ensures.comes aggregates is_static known)
