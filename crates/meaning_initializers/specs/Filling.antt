-- Which part of an object each initializer fills (C11 6.7.9 p11 to p22).
use Rattle.std.specs.Prelude.{◌≡◌, ℕ, suc, Bool, true, false, ◌||◌, not, List, [], ◌∷◌, Option, Some, None, if◌then◌else◌}
use Rattle.meaning_types.specs.Types.{TypeTree, Typed, ArrayTree}
use Rattle.meaning_initializers.specs.Items.{Given, Designator, Initializer, Value, Braces, Items, NoItems, Item, begins_undesignated, from_designator, moved_with}
use Rattle.meaning_initializers.specs.Parts.{Aggregates, Part, part_from, path_to, is_array, takes_whole, string_before}
use Rattle.meaning_initializers.specs.Designators.{Leads, Along, Nowhere}
use Rattle.meaning_initializers.specs.Plans.{Leaf, Refusal, Plan, no_plan, followed, refused, extra, value_plan, string_alone, Filled, takes, takes_none, with_parts_behind}

-- the next part that is to be filled, where an item without a designator comes next
abbrev pub part_for : Aggregates → TypeTree → ℕ → Items → Option Part
part_for aggregates type_ number items = if begins_undesignated items then part_from aggregates type_ number else None

-- The parts behind one are filled too, unless it is an element that takes no item: then no other one does.
abbrev pub fills_on : TypeTree → Filled → Bool
fills_on type_ part = part.is_filled || not (is_array type_)

-- Of an object that is static, or isn't. A part has its path from the whole object.
mutual
  -- an object or a part takes an initializer, which is its alone
  pub data Receives (aggregates : Aggregates) (is_static : Bool) : TypeTree → List ℕ → (is_moved : Bool) → Initializer → Plan → Type 0 where
    -- p11, p13, p14
    a_value : {type_ : TypeTree} {path : List ℕ} {is_moved : Bool} {given : Given}
        → Receives aggregates is_static type_ path is_moved (Value given) (value_plan is_static type_ path is_moved given)
    -- p14: a string in braces is as one without them, and alone in them
    a_string : {type_ : TypeTree} {path : List ℕ} {is_moved : Bool} {handle token : ℕ} {items left : Items} {string : Given}
        → string_before type_ items ≡ Some (string, left)
        → Receives aggregates is_static type_ path is_moved (Braces handle token items) (string_alone is_static type_ path is_moved string left)
    -- p16, p17: the items of braces are for the parts in order
    a_list : {type_ : TypeTree} {path : List ℕ} {is_moved : Bool} {handle token : ℕ} {items : Items} {filled : Filled} {plan : Plan}
        → string_before type_ items ≡ None → FillsParts aggregates is_static type_ path 0 (moved_with is_moved items) filled
        → Ends aggregates is_static type_ path filled.left plan
        → Receives aggregates is_static type_ path is_moved (Braces handle token items) (followed filled.plan plan)

  -- a part takes items from the front, where the first one has no designator
  pub data Fills (aggregates : Aggregates) (is_static : Bool) : TypeTree → List ℕ → Items → Filled → Type 0 where
    -- it takes the next initializer
    whole : {type_ : TypeTree} {path : List ℕ} {is_moved : Bool} {initializer : Initializer} {items : Items} {plan : Plan}
        → takes_whole type_ initializer ≡ true → Receives aggregates is_static type_ path is_moved initializer plan
        → Fills aggregates is_static type_ path (Item [] is_moved initializer items) (takes plan items)
    -- p20: its parts do, as many items as there are parts for
    by_parts : {type_ : TypeTree} {path : List ℕ} {is_moved : Bool} {initializer : Initializer} {items : Items} {filled : Filled}
        → takes_whole type_ initializer ≡ false → FillsParts aggregates is_static type_ path 0 (Item [] is_moved initializer items) filled
        → Fills aggregates is_static type_ path (Item [] is_moved initializer items) filled

  -- the parts from this number on take items from the front, up to a designator
  pub data FillsParts (aggregates : Aggregates) (is_static : Bool) : TypeTree → List ℕ → ℕ → Items → Filled → Type 0 where
    -- no item comes next, or there is no part
    stops : {type_ : TypeTree} {path : List ℕ} {number : ℕ} {items : Items}
        → part_for aggregates type_ number items ≡ None → FillsParts aggregates is_static type_ path number items (takes_none items)
    goes_on : {type_ : TypeTree} {path : List ℕ} {number : ℕ} {items : Items} {part : Part} {filled behind : Filled}
        → part_for aggregates type_ number items ≡ Some part → Fills aggregates is_static part.type_ (path_to type_ path part) items filled
        → fills_on type_ filled ≡ true → FillsParts aggregates is_static type_ path (suc part.number) filled.left behind
        → FillsParts aggregates is_static type_ path number items (with_parts_behind part.number filled behind)
    -- an element takes none
    is_over : {type_ : TypeTree} {path : List ℕ} {number : ℕ} {items : Items} {part : Part} {filled : Filled}
        → part_for aggregates type_ number items ≡ Some part → Fills aggregates is_static part.type_ (path_to type_ path part) items filled
        → fills_on type_ filled ≡ false → FillsParts aggregates is_static type_ path number items filled

  -- p17: the part to which this way leads takes items, and then those behind it in each object on the way
  pub data FillsAlong (aggregates : Aggregates) (is_static : Bool) : TypeTree → List ℕ → List Part → Items → Filled → Type 0 where
    arrived : {type_ : TypeTree} {path : List ℕ} {items : Items} {filled : Filled}
        → Fills aggregates is_static type_ path items filled → FillsAlong aggregates is_static type_ path [] items filled
    deeper : {type_ : TypeTree} {path : List ℕ} {part : Part} {way : List Part} {items : Items} {filled behind : Filled}
        → FillsAlong aggregates is_static part.type_ (path_to type_ path part) way items filled
        → FillsParts aggregates is_static type_ path (suc part.number) filled.left behind
        → FillsAlong aggregates is_static type_ path (part ∷ way) items (with_parts_behind part.number filled behind)

  -- the items of braces for which there is no part left, up to their end
  pub data Ends (aggregates : Aggregates) (is_static : Bool) : TypeTree → List ℕ → Items → Plan → Type 0 where
    at_end : {type_ : TypeTree} {path : List ℕ} → Ends aggregates is_static type_ path NoItems no_plan
    -- p2
    one_extra : {type_ : TypeTree} {path : List ℕ} {is_moved : Bool} {initializer : Initializer} {items : Items} {plan : Plan}
        → Ends aggregates is_static type_ path items plan
        → Ends aggregates is_static type_ path (Item [] is_moved initializer items) (refused (extra initializer) plan)
    -- p17, p18: designators go down from what the braces are for
    designated : {type_ : TypeTree} {path : List ℕ} {designator : Designator} {designators : List Designator} {is_moved : Bool} {initializer : Initializer}
        {items : Items} {way : List Part} {filled : Filled} {plan : Plan}
        → Leads aggregates type_ (designator ∷ designators) (Along way)
        → FillsAlong aggregates is_static type_ path way (Item [] true initializer items) filled
        → Ends aggregates is_static type_ path filled.left plan
        → Ends aggregates is_static type_ path (Item (designator ∷ designators) is_moved initializer items) (followed filled.plan plan)
    -- p6, p7: where they lead nowhere, the item has no place, nor have those behind it up to the next designator
    nowhere : {type_ : TypeTree} {path : List ℕ} {designator : Designator} {designators : List Designator} {is_moved : Bool} {initializer : Initializer}
        {items : Items} {refusals : List Refusal} {plan : Plan}
        → Leads aggregates type_ (designator ∷ designators) (Nowhere refusals)
        → Ends aggregates is_static type_ path (from_designator items) plan
        → Ends aggregates is_static type_ path (Item (designator ∷ designators) is_moved initializer items) (refused refusals plan)

-- Objects

-- an array that has no length gets this one (p22)
abbrev pub completed : TypeTree → (length : ℕ) → TypeTree
completed (Typed (ArrayTree element None) qualifiers flags) length = Typed (ArrayTree element (Some length)) qualifiers flags
completed type_ length = type_

-- what an initializer makes of an object: its leaves in order, its completed type, and what is refused
pub record Outcome : Type 0 where
  pub leaves : List Leaf
  pub complete : TypeTree
  pub refusals : List Refusal

abbrev pub outcome_of : (object : TypeTree) → Plan → Outcome
outcome_of object plan = record { leaves = plan.leaves; complete = completed object plan.length; refusals = plan.refusals }

-- an object of this type is initialized so
abbrev pub Initializes : Aggregates → (is_static : Bool) → (object : TypeTree) → Initializer → Outcome → Type 0
Initializes aggregates is_static object initializer outcome =
    (plan : Plan) × Receives aggregates is_static object [] false initializer plan × (outcome ≡ outcome_of object plan)
