-- The same as a program, which goes so deep at most: what it answers is so.
use Rattle.std.specs.Prelude.{ℕ, zero, suc, Bool, true, false, List, [], ◌∷◌, Option, Some, None, option_map}
use Rattle.std.specs.Option.{option_and_then}
use Rattle.meaning_types.specs.Types.{TypeTree}
use Rattle.meaning_initializers.specs.Items.{Given, Designator, Initializer, Value, Braces, Items, NoItems, Item, from_designator, moved_with}
use Rattle.meaning_initializers.specs.Parts.{Aggregates, Part, path_to, takes_whole, string_before}
use Rattle.meaning_initializers.specs.Designators.{Step, ToPart, Into, NoPart, Unknown, Way, Along, Nowhere, through, step_of}
use Rattle.meaning_initializers.specs.Plans.{Refusal, Plan, no_plan, followed, refused, extra, no_part, value_plan, string_alone, Filled, takes, takes_none, with_parts_behind}
use Rattle.meaning_initializers.specs.Filling.{part_for, fills_on, Outcome, outcome_of}

-- Ways

module _ (aggregates : Aggregates) where
  abbrev pub way_by : (TypeTree → List Designator → Option Way) → Designator → List Designator → Step → Option Way
  way_by find designator designators (ToPart part) = option_map (through part) (find part.type_ designators)
  way_by find designator designators (Into part) = option_map (through part) (find part.type_ (designator ∷ designators))
  way_by find designator designators NoPart = Some (Nowhere (no_part designator))
  way_by find designator designators Unknown = Some (Nowhere [])

  abbrev pub way_more : (TypeTree → List Designator → Option Way) → TypeTree → List Designator → Option Way
  way_more find type_ [] = Some (Along [])
  way_more find type_ (designator ∷ designators) = way_by find designator designators (step_of aggregates type_ designator.target)

  abbrev pub way_found : (depth : ℕ) → TypeTree → List Designator → Option Way
  way_found zero type_ designators = None
  way_found (suc depth) type_ designators = way_more (way_found depth) type_ designators

-- What is to be filled

pub data Task : Type 0 where
  Receive : TypeTree → List ℕ → Bool → Initializer → Task
  Fill : TypeTree → List ℕ → Items → Task
  FillParts : TypeTree → List ℕ → ℕ → Items → Task
  FillAlong : TypeTree → List ℕ → List Part → Items → Task
  End : TypeTree → List ℕ → Items → Task

-- where nothing is left behind it
abbrev pub comes_to : Plan → Filled
comes_to plan = takes plan NoItems

abbrev pub comes_behind : Plan → Filled → Filled
comes_behind plan behind = comes_to (followed plan behind.plan)

abbrev pub is_refused : List Refusal → Filled → Filled
is_refused refusals behind = comes_to (refused refusals behind.plan)

module _ (aggregates : Aggregates) (is_static : Bool) (find : TypeTree → List Designator → Option Way) (fill : Task → Option Filled) where
  -- the rest of braces behind what was filled
  abbrev pub end_behind : TypeTree → List ℕ → Filled → Option Filled
  end_behind type_ path filled = option_map (comes_behind filled.plan) (fill (End type_ path filled.left))

  abbrev pub fill_braces : TypeTree → List ℕ → Bool → Items → Option (Given × Items) → Option Filled
  fill_braces type_ path is_moved items (Some string) = Some (comes_to (string_alone is_static type_ path is_moved string.0 string.1))
  fill_braces type_ path is_moved items None = option_and_then (end_behind type_ path) (fill (FillParts type_ path 0 (moved_with is_moved items)))

  abbrev pub fill_whole : TypeTree → List ℕ → Bool → Initializer → Items → Bool → Option Filled
  fill_whole type_ path is_moved initializer items true = option_map (λ filled. takes filled.plan items) (fill (Receive type_ path is_moved initializer))
  fill_whole type_ path is_moved initializer items false = fill (FillParts type_ path 0 (Item [] is_moved initializer items))

  abbrev pub fill_behind : TypeTree → List ℕ → Part → Filled → Option Filled
  fill_behind type_ path part filled = option_map (with_parts_behind part.number filled) (fill (FillParts type_ path (suc part.number) filled.left))

  abbrev pub fill_on_if : TypeTree → List ℕ → Part → Filled → Bool → Option Filled
  fill_on_if type_ path part filled true = fill_behind type_ path part filled
  fill_on_if type_ path part filled false = Some filled

  abbrev pub fill_on : TypeTree → List ℕ → Part → Filled → Option Filled
  fill_on type_ path part filled = fill_on_if type_ path part filled (fills_on type_ filled)

  abbrev pub fill_part : TypeTree → List ℕ → Items → Option Part → Option Filled
  fill_part type_ path items None = Some (takes_none items)
  fill_part type_ path items (Some part) = option_and_then (fill_on type_ path part) (fill (Fill part.type_ (path_to type_ path part) items))

  abbrev pub fill_designated : TypeTree → List ℕ → Initializer → Items → Way → Option Filled
  fill_designated type_ path initializer items (Along way) =
      option_and_then (end_behind type_ path) (fill (FillAlong type_ path way (Item [] true initializer items)))
  fill_designated type_ path initializer items (Nowhere refusals) = option_map (is_refused refusals) (fill (End type_ path (from_designator items)))

  -- one step further
  abbrev pub fill_more : Task → Option Filled
  fill_more (Receive type_ path is_moved (Value given)) = Some (comes_to (value_plan is_static type_ path is_moved given))
  fill_more (Receive type_ path is_moved (Braces handle token items)) = fill_braces type_ path is_moved items (string_before type_ items)
  fill_more (Fill type_ path (Item [] is_moved initializer items)) =
      fill_whole type_ path is_moved initializer items (takes_whole type_ initializer)
  fill_more (Fill type_ path items) = None
  fill_more (FillParts type_ path number items) = fill_part type_ path items (part_for aggregates type_ number items)
  fill_more (FillAlong type_ path [] items) = fill (Fill type_ path items)
  fill_more (FillAlong type_ path (part ∷ way) items) =
      option_and_then (fill_behind type_ path part) (fill (FillAlong part.type_ (path_to type_ path part) way items))
  fill_more (End type_ path NoItems) = Some (comes_to no_plan)
  fill_more (End type_ path (Item [] is_moved initializer items)) = option_map (is_refused (extra initializer)) (fill (End type_ path items))
  fill_more (End type_ path (Item (designator ∷ designators) is_moved initializer items)) =
      option_and_then (fill_designated type_ path initializer items) (find type_ (designator ∷ designators))

module _ (aggregates : Aggregates) (is_static : Bool) (find : TypeTree → List Designator → Option Way) where
  abbrev pub filled : (depth : ℕ) → Task → Option Filled
  filled zero task = None
  filled (suc depth) task = fill_more aggregates is_static find (filled depth) task

-- an object that is initialized
abbrev pub initialized : Aggregates → (is_static : Bool) → (depth : ℕ) → (object : TypeTree) → Initializer → Option Outcome
initialized aggregates is_static depth object initializer =
    option_map (λ filled. outcome_of object filled.plan) (filled aggregates is_static (way_found aggregates depth) depth (Receive object [] false initializer))
