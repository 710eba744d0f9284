-- Turns, by what comes next.
use Rattle.std.proofs.Common.{◌≡◌, ℕ, ◌<◌, Bool, true, false, is_some, length, List, [], ◌∷◌, Option, Some, None, refl, sym, ap, subst, ◌∙◌, arith, option_map, if◌then◌else◌}
use Rattle.meaning_typing.specs.Facts.{Fact}
use Rattle.meaning_typing.specs.Units.{UnitNodes}
use Rattle.meaning_initializers.specs.Designators.{Leads, Way}
use Rattle.meaning_initializers.specs.Items.{Designator, Initializer, Items, NoItems, Item, begins_undesignated}
use Rattle.meaning_initializers.specs.Parts.{Aggregates, Part, part_from}
use Rattle.meaning_initializers.specs.Filling.{part_for}
use Rattle.meaning_initializers.specs.Reading.{designators_of, initializer_at}
use Rattle.c_types.specs.Table.{TypeTable}
use Rattle.initializer_levels.specs.declared.going.Going.{Going}
use Rattle.initializer_levels.specs.declared.items.ItemList.{ItemList}
use Rattle.initializer_levels.specs.declared.items.NextItem.{NextItem}
use Rattle.initializer_levels.specs.declared.level.Level as kept
use Rattle.initializer_levels.specs.declared.met.Finding.TheVariants as findings
use Rattle.initializer_levels.specs.declared.met.Met.TheVariants as mets
use Rattle.initializer_levels.specs.declared.turn.Turn.{Turn}
use Rattle.initializer_levels.specs.declared.walk.Turned as kept_turned
use Rattle.initializer_levels.specs.declared.walk.Turned.TheVariants as kept_turns
use Rattle.initializer_levels.specs.declared.walk.Walk as kept_walk
use Rattle.initializer_levels.specs.Arriving.{GoesAlong}
use Rattle.initializer_levels.specs.Going.{GoesTo, going_seen}
use Rattle.initializer_levels.specs.Items.{items_behind, items_left}
use Rattle.initializer_levels.specs.Kept.{level_seen}
use Rattle.initializer_levels.specs.Levels.{Level, at_part, ended}
use Rattle.initializer_levels.specs.Taken.{TurnsTo, turn_seen}
use Rattle.initializer_levels.specs.Turns as turns
use Rattle.initializer_levels.specs.Turns.{Found, Walk, Turned, Goes, Turns, filled, found_behind, next_part, turned_out}
use Rattle.meaning_initializers.specs.Plans.{extra, no_plan, refused}
use Rattle.initializer_levels.specs.Walks.{left_behind, levels_seen, turned_seen, walk_seen}
use Rattle.initializer_levels.proofs.GoingLemmas.{nothing_found}

left_is_out : (found : Found) (level : Level) (is_filled : Bool) (levels : List Level) (items : Items)
    → left_behind found level.length is_filled levels items ≡ turned_out found level is_filled levels items
left_is_out found level is_filled [] items = refl
left_is_out found level is_filled (outer ∷ levels) items = refl

abbrev walk_of : Found → Level → List Level → Items → Walk
walk_of found level levels items = record { found = found; level = level; levels = levels; items = items }

none_next : (aggregates : Aggregates) (level : Level) (items : Items) (is_over : Bool) → begins_undesignated items ≡ false
    → (if is_over then None else part_for aggregates level.type_ level.number items) ≡ None
none_next aggregates level items true is = refl
none_next aggregates level items false is = ap (λ (b : Bool). if b then part_from aggregates level.type_ level.number else None) is

-- no part takes an item that isn't there, or has designators
pub not_next : (aggregates : Aggregates) (level : Level) (items : Items) → begins_undesignated items ≡ false → next_part aggregates level items ≡ None
not_next aggregates level items is = none_next aggregates level items level.is_over is

pub no_item_next : (aggregates : Aggregates) (level : Level) (items : Items) → items ≡ NoItems → next_part aggregates level items ≡ None
no_item_next aggregates level items is = ap (next_part aggregates level) is ∙ not_next aggregates level NoItems refl

-- the next part is asked where an item without designators comes next
pub undesignated_next : (aggregates : Aggregates) (level : Level) (items behind : Items) (is_moved : Bool) (initializer : Initializer) (found : Option Part)
    → items ≡ Item [] is_moved initializer behind → found ≡ (if level.is_over then None else part_from aggregates level.type_ level.number)
    → next_part aggregates level items ≡ found
undesignated_next aggregates level items behind is_moved initializer found is next = ap (next_part aggregates level) is ∙ sym next

pub undesignated_item : (items behind : Items) (designators : List Designator) (is_designated is_moved : Bool) (initializer : Initializer)
    → items ≡ Item (if is_designated then designators else []) is_moved initializer behind → is_designated ≡ false → items ≡ Item [] is_moved initializer behind
undesignated_item items behind designators true is_moved initializer is undesignated = absurd (cc undesignated)
undesignated_item items behind designators false is_moved initializer is undesignated = is

pub designated_item : (items behind : Items) (designators : List Designator) (is_designated is_moved : Bool) (initializer : Initializer)
    → items ≡ Item (if is_designated then designators else []) is_moved initializer behind → is_designated ≡ true → 0 < length designators
    → begins_undesignated items ≡ false
designated_item items behind designators false is_moved initializer is designated some = absurd (cc designated)
designated_item items behind [] true is_moved initializer is designated some = absurd (omega (arith, some))
designated_item items behind (designator ∷ designators) true is_moved initializer is designated some = ap begins_undesignated is

pub none_if : (behind : Option ItemList) → is_some behind ≡ false → behind ≡ None
none_if None is = refl
none_if (Some behind) is = absurd (cc is)

pub some_if : (behind : Option ItemList) → is_some behind ≡ true → (list : ItemList) × (behind ≡ Some list)
some_if None is = absurd (cc is)
some_if (Some behind) is = (behind, refl)

pub extra_goes : (nodes : UnitNodes) (facts : List Fact) (table : TypeTable) (paths : List (List ℕ)) (walk : kept_walk.Walk) (found : Found) (level : kept.Level)
    (items : ItemList)
    → level_seen table paths (items_left nodes facts) level ≡ ended (level_seen table paths (items_left nodes facts) walk.level)
    → items_left nodes facts items ≡ items_behind nodes facts walk.items
    → walk_seen table paths (items_left nodes facts) found (record { level = level; levels = walk.levels; items = items })
    ≡ walk_of found (ended (level_seen table paths (items_left nodes facts) walk.level)) (levels_seen table paths (items_left nodes facts) walk.levels.items)
    (items_behind nodes facts walk.items)
extra_goes nodes facts table paths walk found level items one two =
    ap (λ (l : Level). walk_of found l (levels_seen table paths (items_left nodes facts) walk.levels.items) (items_left nodes facts items)) one
    ∙ ap (walk_of found (ended (level_seen table paths (items_left nodes facts) walk.level)) (levels_seen table paths (items_left nodes facts) walk.levels.items)) two

module _ (aggregates : Aggregates) (nodes : UnitNodes) (facts : List Fact) (table : TypeTable) (old new : List (List ℕ)) (walk : kept_walk.Walk) where
  abbrev read : ItemList → Items
  read = items_left nodes facts

  abbrev innermost : Level
  innermost = level_seen table old read walk.level

  abbrev around : List Level
  around = levels_seen table old read walk.levels.items

  -- out of a level, to what is left there
  pub turns_out : (turned : kept_turned.Turned) (is_filled : Bool) (items : Items)
      → ((is_static : Bool) (found : Found) → Turns aggregates is_static (walk_seen table old read found walk) (turned_out found innermost is_filled around items))
      → ((found : Found) → turned_seen table new read found turned ≡ left_behind found innermost.length is_filled around items)
      → TurnsTo aggregates nodes facts table old new walk (record { turned = turned; met = mets.Nothing })
  turns_out turned is_filled items turn is is_static found =
      subst (Turns aggregates is_static (walk_seen table old read found walk))
      (sym (left_is_out found innermost is_filled around items) ∙ (sym (is found) ∙ ap (λ (f : Found). turned_seen table new read f turned) (sym (nothing_found found))))
      (turn is_static found)

  pub out_of_level : (turned : kept_turned.Turned) → next_part aggregates innermost (read walk.items) ≡ None → walk.level.behind ≡ None
      → ((found : Found) → turned_seen table new read found turned ≡ left_behind found innermost.length innermost.is_filled around (read walk.items))
      → TurnsTo aggregates nodes facts table old new walk (record { turned = turned; met = mets.Nothing })
  out_of_level turned none unbraced is =
      turns_out turned innermost.is_filled (read walk.items) (λ is_static found. turns.out none (ap (option_map read) unbraced)) is

  pub out_of_braces : (turned : kept_turned.Turned) (behind : ItemList) → read walk.items ≡ NoItems → walk.level.behind ≡ Some behind
      → ((found : Found) → turned_seen table new read found turned ≡ left_behind found innermost.length true around (read behind))
      → TurnsTo aggregates nodes facts table old new walk (record { turned = turned; met = mets.Nothing })
  out_of_braces turned behind none braced is =
      turns_out turned true (read behind)
      (λ is_static found.
      subst (λ (items : Items). Turns aggregates is_static (walk_of found innermost around items) (turned_out found innermost true around (read behind))) (sym none)
      (turns.closed (ap (option_map read) braced)))
      is

  -- an item that no part takes
  pub extra_turn : (next : kept_walk.Walk) (initializer : ℕ) (is_moved : Bool) (behind : ItemList)
      → read walk.items ≡ Item [] is_moved (initializer_at nodes facts initializer) (items_behind nodes facts walk.items)
      → next_part aggregates innermost (read walk.items) ≡ None → walk.level.behind ≡ Some behind
      → ((found : Found) → walk_seen table new read found next ≡ walk_of found (ended innermost) around (items_behind nodes facts walk.items))
      → TurnsTo aggregates nodes facts table old new walk (record { turned = kept_turns.Goes next; met = mets.One (findings.Extra initializer) })
  extra_turn next initializer is_moved behind is none braced goes is_static found =
      let more = found_behind found (refused (extra (initializer_at nodes facts initializer)) no_plan) in
      let item = Item [] is_moved (initializer_at nodes facts initializer) (items_behind nodes facts walk.items) in
      subst (λ (items : Items). Turns aggregates is_static (walk_of found innermost around items) (Goes (walk_seen table new read more next))) (sym is)
      (subst (λ (w : Walk). Turns aggregates is_static (walk_of found innermost around item) (Goes w)) (sym (goes more))
      (turns.none {is_moved = is_moved} {initializer = initializer_at nodes facts initializer} {behind = read behind}
      (subst (λ (items : Items). next_part aggregates innermost items ≡ None) is none) (ap (option_map read) braced)))

  -- a part takes the next item, or its parts do
  pub part_turn : (going : Going) (part : Part) (initializer : ℕ) (is_moved : Bool)
      → read walk.items ≡ Item [] is_moved (initializer_at nodes facts initializer) (items_behind nodes facts walk.items)
      → Some part ≡ (if innermost.is_over then None else part_from aggregates innermost.type_ innermost.number)
      → GoesTo nodes facts table new going
      (λ is_static found.
      filled is_static found part (at_part part.number innermost) around is_moved (initializer_at nodes facts initializer) (items_behind nodes facts walk.items))
      → TurnsTo aggregates nodes facts table old new walk (record { turned = kept_turns.Goes going.walk; met = going.met })
  part_turn going part initializer is_moved is next goes is_static found =
      subst (λ (items : Items). Turns aggregates is_static (walk_of found innermost around items) (Goes (going_seen nodes facts table new is_static found going))) (sym is)
      (subst (λ (w : Walk). Turns aggregates is_static (walk_of found innermost around (Item [] is_moved (initializer_at nodes facts initializer) (items_behind nodes facts walk.items))) (Goes w))
      (sym (goes is_static found)) (turns.part (sym next)))

  -- designators lead to a part, or nowhere
  designated_by : (going : Going) (next : NextItem) (behind : ItemList) (designators : List Designator) → designators_of nodes facts next.item ≡ designators
      → 0 < length designators
      → read walk.items ≡ Item designators next.is_moved (initializer_at nodes facts next.initializer) (items_behind nodes facts walk.items)
      → walk.level.behind ≡ Some behind → GoesAlong aggregates nodes facts table old new next walk going
      → TurnsTo aggregates nodes facts table old new walk (record { turned = kept_turns.Goes going.walk; met = going.met })
  designated_by going next behind [] same some is braced along is_static found = absurd (omega (arith, some))
  designated_by going next behind (designator ∷ designators) same some is braced along is_static found =
      subst (λ (items : Items). Turns aggregates is_static (walk_of found innermost around items) (Goes (going_seen nodes facts table new is_static found going))) (sym is)
      (subst
      (λ (w : Walk).
      Turns aggregates is_static (walk_of found innermost around (Item (designator ∷ designators) next.is_moved (initializer_at nodes facts next.initializer) (items_behind nodes facts walk.items))) (Goes w))
      (sym (along.2 is_static found))
      (turns.designated (ap (option_map read) braced) (subst (λ (ds : List Designator). Leads aggregates innermost.type_ ds along.0) same along.1)))

  designated_if : (next : NextItem) (is_designated : Bool) → is_designated ≡ true
      → (if is_designated then designators_of nodes facts next.item else []) ≡ designators_of nodes facts next.item
  designated_if next true is = refl
  designated_if next false is = absurd (cc is)

  pub designated_turn : (going : Going) (next : NextItem) (behind : ItemList) → next.is_designated ≡ true → 0 < length (designators_of nodes facts next.item)
      → read walk.items
      ≡ Item (if next.is_designated then designators_of nodes facts next.item else []) next.is_moved (initializer_at nodes facts next.initializer) (items_behind nodes facts walk.items)
      → walk.level.behind ≡ Some behind → GoesAlong aggregates nodes facts table old new next walk going
      → TurnsTo aggregates nodes facts table old new walk (record { turned = kept_turns.Goes going.walk; met = going.met })
  designated_turn going next behind designated some is braced along =
      designated_by going next behind (designators_of nodes facts next.item) refl some
      (is
      ∙ ap (λ (ds : List Designator). Item ds next.is_moved (initializer_at nodes facts next.initializer) (items_behind nodes facts walk.items))
      (designated_if next next.is_designated designated))
      braced along
