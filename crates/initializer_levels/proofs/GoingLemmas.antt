-- Walks that go on: what is met is found, and levels stay where paths are added.
use Rattle.std.proofs.Common.{◌≡◌, ℕ, ◌<◌, Bool, true, false, List, [], ◌∷◌, ◌++◌, All, length, map, reverse, Option, Some, None, refl, sym, ap, subst, ◌∙◌, arith, option_map, IfOk, Result}
use Rattle.std.proofs.lemmas.Result.{IfOk-weaker}
use Rattle.std.proofs.lemmas.List.{append-nil, length-append}
use Rattle.std.proofs.lemmas.List.Elements.{All-head, All-tail}
use Rattle.meaning_types.specs.Types.{TypeTree}
use Rattle.meaning_typing.specs.Facts.{Fact}
use Rattle.meaning_typing.specs.Units.{UnitNodes}
use Rattle.meaning_initializers.specs.Items.{Given, Initializer, Items, Item}
use Rattle.meaning_initializers.specs.Parts as meaning
use Rattle.meaning_initializers.specs.Parts.{path_to, takes_whole}
use Rattle.meaning_initializers.specs.Plans.{Leaf, no_plan}
use Rattle.meaning_initializers.specs.Reading.{initializer_at}
use Rattle.c_types.specs.Table.{IsLonger, TypeTable}
use Rattle.initializer_levels.specs.declared.going.Going.{Going}
use Rattle.initializer_levels.specs.declared.items.ItemList.{ItemList}
use Rattle.initializer_levels.specs.declared.level.Level as kept
use Rattle.initializer_levels.specs.declared.met.Finding.{Finding}
use Rattle.initializer_levels.specs.declared.met.Finding.TheVariants as findings
use Rattle.initializer_levels.specs.declared.met.Met.{Met}
use Rattle.initializer_levels.specs.declared.met.Met.TheVariants as mets
use Rattle.initializer_levels.specs.declared.met.Placed.{Placed}
use Rattle.initializer_levels.specs.declared.parts.Part.{Part}
use Rattle.initializer_levels.specs.declared.paths.PathId.{PathId}
use Rattle.initializer_levels.specs.declared.walk.Walk as kept_walk
use Rattle.initializer_levels.specs.Going.{GoesTo, IsKnownGoing, filled_seen, received_seen}
use Rattle.initializer_levels.specs.Items.{items_behind, items_left}
use Rattle.initializer_levels.specs.Kept.{IsKnownLevel, level_seen}
use Rattle.initializer_levels.specs.Levels.{Level, opened}
use Rattle.initializer_levels.specs.Met.{IsFindingIn, IsMetIn, met_plan}
use Rattle.initializer_levels.specs.Parts.{part_seen, type_seen}
use Rattle.initializer_levels.specs.Paths.{IsPathIn, path_at}
use Rattle.initializer_levels.specs.Turns.{Found, Walk, filled, filled_if, found_behind, received}
use Rattle.initializer_levels.specs.Walks.{IsKnownWalk, inner_walk, levels_seen, walk_seen}
use Rattle.initializer_levels.proofs.PathLemmas.{levels_stay}

pub nothing_found : (found : Found) → found_behind found no_plan ≡ found
nothing_found found = ap (λ (l : List Leaf). record { leaves = l; told = found.told }) (append-nil found.leaves)

-- Where more paths are added

pub path_longer : (old new : List (List ℕ)) (path : Option PathId) → IsLonger old new → IsPathIn old path → IsPathIn new path
path_longer old new None longer known = tt
path_longer old new (Some id) longer known = let count = ap length longer.1 ∙ length-append old longer.0 in omega (arith, count, known)

pub known_longer : (table : TypeTable) (old new : List (List ℕ)) (level : kept.Level) → IsLonger old new → IsKnownLevel table old level → IsKnownLevel table new level
known_longer table old new level longer known =
    record { type_ = known.type_; parts = known.parts; element = known.element; path = path_longer old new level.path longer known.path }

pub all_longer : (table : TypeTable) (old new : List (List ℕ)) (levels : List kept.Level) → IsLonger old new → All (IsKnownLevel table old) levels
    → All (IsKnownLevel table new) levels
all_longer table old new levels longer known i e within = known_longer table old new _ longer (known i e within)

pub walk_longer : (table : TypeTable) (old new : List (List ℕ)) (walk : kept_walk.Walk) → IsLonger old new → IsKnownWalk table old walk → IsKnownWalk table new walk
walk_longer table old new walk longer known =
    record { level = known_longer table old new walk.level longer known.level; levels = all_longer table old new walk.levels.items longer known.levels }

pub level_stays : (table : TypeTable) (old new : List (List ℕ)) (read : ItemList → Items) (level : kept.Level) → IsLonger old new → IsKnownLevel table old level
    → level_seen table new read level ≡ level_seen table old read level
level_stays table old new read level longer known = levels_stay table old new read level longer known.path

mapped_stay : (table : TypeTable) (old new : List (List ℕ)) (read : ItemList → Items) (levels : List kept.Level) → IsLonger old new → All (IsKnownLevel table old) levels
    → map (level_seen table new read) levels ≡ map (level_seen table old read) levels
mapped_stay table old new read [] longer known = refl
mapped_stay table old new read (level ∷ levels) longer known =
    ap (λ (l : Level). l ∷ map (level_seen table new read) levels)
    (level_stays table old new read level longer (All-head (IsKnownLevel table old) level levels known))
    ∙ ap (λ (ls : List Level). level_seen table old read level ∷ ls)
    (mapped_stay table old new read levels longer (All-tail (IsKnownLevel table old) level levels known))

pub all_stay : (table : TypeTable) (old new : List (List ℕ)) (read : ItemList → Items) (levels : List kept.Level) → IsLonger old new → All (IsKnownLevel table old) levels
    → levels_seen table new read levels ≡ levels_seen table old read levels
all_stay table old new read levels longer known = ap (reverse {A = Level}) (mapped_stay table old new read levels longer known)

-- What goes one way goes another way that is the same

pub goes_as : {E : Type 0} (nodes : UnitNodes) (facts : List Fact) (table : TypeTable) (paths : List (List ℕ)) (result : Result Going E)
    (one other : Bool → Found → Walk) → IfOk result (λ going. GoesTo nodes facts table paths going one)
    → ((is_static : Bool) (found : Found) → one is_static found ≡ other is_static found) → IfOk result (λ going. GoesTo nodes facts table paths going other)
goes_as nodes facts table paths result one other goes same =
    IfOk-weaker result (λ (going : Going). GoesTo nodes facts table paths going one) (λ (going : Going). GoesTo nodes facts table paths going other)
    (λ (going : Going) (so : GoesTo nodes facts table paths going one) is_static found. so is_static found ∙ same is_static found) goes

-- A level that is opened

module _ (nodes : UnitNodes) (facts : List Fact) (table : TypeTable) (paths : List (List ℕ)) where
  pub opened_goes : (inner : kept_walk.Walk) (level : kept.Level) (is outer : Level) (levels : List Level) (items : Items)
      → ((found : Found) → walk_seen table paths (items_left nodes facts) found inner ≡ inner_walk found (level_seen table paths (items_left nodes facts) level) outer levels items)
      → level_seen table paths (items_left nodes facts) level ≡ is
      → GoesTo nodes facts table paths (record { walk = inner; met = mets.Nothing }) (λ is_static found. inner_walk found is outer levels items)
  opened_goes inner level is outer levels items goes same is_static found =
      ap (λ (f : Found). walk_seen table paths (items_left nodes facts) f inner) (nothing_found found)
      ∙ (goes found ∙ ap (λ (l : Level). inner_walk found l outer levels items) same)

-- A part that takes the next item

abbrev filled_over : (is_static : Bool) → Found → TypeTree → Initializer → (is_moved : Bool) → Items → (path : List ℕ) → Level → List Level → Walk
filled_over is_static found type_ initializer is_moved behind path level levels =
    filled_if is_static (takes_whole type_ initializer) found type_ path level levels is_moved initializer behind

filled_same : (is_static : Bool) (found : Found) (type_ : TypeTree) (initializer : Initializer) (is_moved : Bool) (behind : Items) (path other : List ℕ) (level next : Level)
    (levels others : List Level) → path ≡ other → level ≡ next → levels ≡ others
    → filled_over is_static found type_ initializer is_moved behind path level levels ≡ filled_over is_static found type_ initializer is_moved behind other next others
filled_same is_static found type_ initializer is_moved behind path other level next levels others one two three =
    ap (λ (p : List ℕ). filled_over is_static found type_ initializer is_moved behind p level levels) one
    ∙ (ap (λ (l : Level). filled_over is_static found type_ initializer is_moved behind other l levels) two
    ∙ ap (filled_over is_static found type_ initializer is_moved behind other next) three)

module _ (is_static : Bool) (found : Found) (type_ : TypeTree) (path : List ℕ) (level : Level) (levels : List Level) (is_moved : Bool) (initializer : Initializer)
    (items behind : Items) where
  pub filled_whole : takes_whole type_ initializer ≡ true → items ≡ behind
      → received is_static found type_ path level levels is_moved initializer items
      ≡ filled_if is_static (takes_whole type_ initializer) found type_ path level levels is_moved initializer behind
  filled_whole takes is =
      ap (received is_static found type_ path level levels is_moved initializer) is
      ∙ ap (λ (b : Bool). filled_if is_static b found type_ path level levels is_moved initializer behind) (sym takes)

  pub filled_by_parts : takes_whole type_ initializer ≡ false → items ≡ Item [] is_moved initializer behind
      → inner_walk found (opened type_ path None) level levels items
      ≡ filled_if is_static (takes_whole type_ initializer) found type_ path level levels is_moved initializer behind
  filled_by_parts takes is =
      ap (inner_walk found (opened type_ path None) level levels) is
      ∙ ap (λ (b : Bool). filled_if is_static b found type_ path level levels is_moved initializer behind) (sym takes)

module _ (nodes : UnitNodes) (facts : List Fact) (table : TypeTable) (old new : List (List ℕ)) (walk : kept_walk.Walk) where
  pub part_goes : (going : Going) (part : Part) (path : Option PathId) (initializer : ℕ) (is_moved : Bool) → IsLonger old new → IsKnownWalk table old walk
      → path_at new path ≡ path_to (type_seen table walk.level.of) (path_at old walk.level.path) (part_seen table part)
      → GoesTo nodes facts table new going
      (filled_seen nodes facts table new (record { of = part.of; path = path; initializer = initializer; is_moved = is_moved }) walk)
      → GoesTo nodes facts table new going
      (λ is_static found.
      filled is_static found (part_seen table part) (level_seen table old (items_left nodes facts) walk.level)
      (levels_seen table old (items_left nodes facts) walk.levels.items) is_moved (initializer_at nodes facts initializer) (items_behind nodes facts walk.items))
  part_goes going part path initializer is_moved longer known leads goes is_static found =
      goes is_static found
      ∙ filled_same is_static found (type_seen table part.of) (initializer_at nodes facts initializer) is_moved (items_behind nodes facts walk.items) _ _ _ _ _ _ leads
      (level_stays table old new (items_left nodes facts) walk.level longer known.level)
      (all_stay table old new (items_left nodes facts) walk.levels.items longer known.levels)
