-- The surroundings and the facts of a unit, one after the other: those from the last node to the first, these from the first
-- to the last.
use Rattle.std.specs.Prelude.{ℕ, zero, suc, ◌+◌, ◌-◌, nat_eq, List, [], ◌∷◌, ◌++◌, length, get_or, Option, Some, None, if◌then◌else◌}
use Rattle.vocabulary.specs.Roles.{role_of}
use Rattle.meaning_typing.specs.Units.{UnitNodes, kind_at}
use Rattle.meaning_typing.specs.Surroundings.{Surrounding, asked, of_unit}
use Rattle.meaning_typing.specs.Facts.{Fact}
use Rattle.meaning_typing.specs.Typing.{row_at}

-- Surroundings

-- where a node stands: the node above, the place among its parts, and its tag there
pub record Standing : Type 0 where
  pub parent : ℕ
  pub place : ℕ
  pub tag : ℕ

-- among children of which the first stands at this place
abbrev pub standing_among : (handle parent place : ℕ) → List (ℕ × ℕ) → Option Standing
standing_among handle parent place [] = None
standing_among handle parent place (child ∷ children) =
    if nat_eq child.0 handle then Some (record { parent = parent; place = place; tag = child.1 })
    else standing_among handle parent (place + 1) children

abbrev pub first_standing : Option Standing → Option Standing → Option Standing
first_standing None other = other
first_standing (Some standing) other = Some standing

-- among nodes of which the first one has the handle `parent`
abbrev pub standing_in : (handle parent : ℕ) → UnitNodes → Option Standing
standing_in handle parent [] = None
standing_in handle parent (node ∷ nodes) =
    first_standing (standing_among handle parent 0 node.children) (standing_in handle (parent + 1) nodes)

-- what a node stands in, by those behind it; the unit stands nowhere
abbrev pub surrounding_of : UnitNodes → (handle : ℕ) → (behind : List Surrounding) → Option Standing → Surrounding
surrounding_of nodes handle behind None = of_unit handle
surrounding_of nodes handle behind (Some standing) =
    asked (kind_at nodes standing.parent) standing.parent standing.place (role_of standing.tag)
    (get_or behind (standing.parent - (handle + 1)) (of_unit (length nodes)))

abbrev pub with_previous : UnitNodes → (handle : ℕ) → (behind : List Surrounding) → List Surrounding
with_previous nodes handle behind = surrounding_of nodes handle behind (standing_in handle 0 nodes) ∷ behind

-- what the last so many nodes stand in
abbrev pub last_surroundings : UnitNodes → (count : ℕ) → List Surrounding
last_surroundings nodes zero = []
last_surroundings nodes (suc count) = with_previous nodes (length nodes - suc count) (last_surroundings nodes count)

abbrev pub surroundings_of : UnitNodes → List Surrounding
surroundings_of nodes = last_surroundings nodes (length nodes)

-- Facts

-- these, and that of the next node
abbrev pub with_fact : UnitNodes → List Surrounding → (handle : ℕ) → List Fact → List Fact
with_fact nodes surroundings handle facts = facts ++ (row_at nodes surroundings facts handle).fact ∷ []

-- those of the first so many nodes
abbrev pub first_facts : UnitNodes → List Surrounding → (count : ℕ) → List Fact
first_facts nodes surroundings zero = []
first_facts nodes surroundings (suc count) = with_fact nodes surroundings count (first_facts nodes surroundings count)

abbrev pub facts_of : UnitNodes → List Surrounding → List Fact
facts_of nodes surroundings = first_facts nodes surroundings (length nodes)
