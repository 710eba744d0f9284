-- By what stands first in the braces.
use Rattle.std.proofs.Common.{◌≡◌, ◌∙◌, ap, sym, Option, Some, None, option_map}
use Rattle.initializer_levels.proofs.GoingLemmas.{goes_as}
use Rattle.meaning_typing.specs.Units.{children_at, node_at}
use Rattle.meaning_initializers.specs.Items.{Given, Items, moved_with}
use Rattle.meaning_initializers.specs.Parts.{string_before}
use Rattle.meaning_initializers.specs.Reading.{given_at, initializer_at, items_of}
use Rattle.decl_judge.specs.Units.{nodes_of}
use Rattle.initializer_levels.specs.Items.{items_left}
use Rattle.initializer_levels.specs.Kept.{level_seen}
use Rattle.initializer_levels.specs.Levels.{opened}
use Rattle.initializer_levels.specs.Parts.{type_seen}
use Rattle.initializer_levels.specs.Paths.{path_at}
use Rattle.initializer_levels.specs.Reading.{string_told}
use Rattle.initializer_levels.specs.Walks.{inner_walk, levels_seen}
use Rattle.initializer_levels.proofs.ReadingLemmas.{braces_at, braces_received}
use Rattle.initializer_levels.proofs.fill.receive_braces.Goals as goal

pub returns-in-Some-clause-walk : goal.returns-in-Some-clause-walk
returns-in-Some-clause-walk c = λ facts paths known.
    let nodes = nodes_of c.args.unit.now in
    let handle = c.args.placed.initializer in
    let type_ = type_seen c.args.types.now c.args.placed.of in
    let told : string_before type_ (moved_with c.args.placed.is_moved (items_of nodes facts (initializer_at nodes facts) (children_at nodes handle)))
    ≡ Some (given_at nodes facts c.in-Some.string, _) =
    ap (string_before type_) (sym (c.in_ok-inner.ensures facts))
    ∙ (c.string_in.ensures facts type_ c.parts_of.ensures.parts
    ∙ (ap (option_map (string_told nodes facts c.in_ok-inner.inner)) c.in-Some.is
    ∙ ap (λ (items : Items). Some (given_at nodes facts c.in-Some.string, items)) (sym (c.behind.ensures.behind nodes facts)))) in
    goes_as nodes facts c.args.types.now paths _ _ _ (c.behind_placed.ensures.walk nodes facts c.args.types.now paths known)
    (λ is_static found. sym (braces_received is_static found type_ _ _ _ c.args.placed.is_moved _ _ handle (node_at nodes handle).token _ _
    (braces_at nodes facts c.requires.order handle c.requires.braced) told))

pub returns-in-None-clause-walk : goal.returns-in-None-clause-walk
returns-in-None-clause-walk c = λ facts paths known.
    let nodes = nodes_of c.args.unit.now in
    let handle = c.args.placed.initializer in
    let type_ = type_seen c.args.types.now c.args.placed.of in
    let told : string_before type_ (moved_with c.args.placed.is_moved (items_of nodes facts (initializer_at nodes facts) (children_at nodes handle))) ≡ None =
    ap (string_before type_) (sym (c.in_ok-inner.ensures facts))
    ∙ (c.string_in.ensures facts type_ c.parts_of.ensures.parts ∙ ap (option_map (string_told nodes facts c.in_ok-inner.inner)) c.in-None.is) in
    goes_as nodes facts c.args.types.now paths _ _ _ (c.open_placed.ensures.walk nodes facts paths)
    (λ is_static found. (ap (λ (items : Items). inner_walk found (opened type_ (path_at paths c.args.placed.path) (Some (items_left nodes facts c.args.walk.items)))
    (level_seen c.args.types.now paths (items_left nodes facts) c.args.walk.level)
    (levels_seen c.args.types.now paths (items_left nodes facts) c.args.walk.levels.items) items) (c.in_ok-inner.ensures facts)
    ∙ sym (braces_received is_static found type_ _ _ _ c.args.placed.is_moved _ _ handle (node_at nodes handle).token _ _
    (braces_at nodes facts c.requires.order handle c.requires.braced) told)))
