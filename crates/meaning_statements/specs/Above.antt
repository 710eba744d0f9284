-- The nodes above a node, by their handles, from the nearest one to the unit.
use Rattle.std.specs.Prelude.{ℕ, zero, suc, ◌-◌, nat_lt, nat_eq, Bool, true, false, ◌||◌, not, List, [], ◌∷◌, length, Option, Some, None, if◌then◌else◌}
use Rattle.vocabulary.specs.declared.node_kind.NodeKind.{NodeKind}
use Rattle.vocabulary.specs.declared.node_kind.NodeKind.TheVariants as kinds
use Rattle.meaning_typing.specs.Units.{UnitNodes, kind_at}
use Rattle.meaning_typing.specs.Surroundings.{Surrounding, surrounding_at}

-- a node above another, and the place among its parts that leads down to that one
pub record Above : Type 0 where
  pub handle : ℕ
  pub kind : NodeKind
  pub place : ℕ

abbrev pub node_above : UnitNodes → Surrounding → Above
node_above nodes surrounding = record { handle = surrounding.parent; kind = kind_at nodes surrounding.parent; place = surrounding.place }

-- A node stands behind its parts, so the handles rise; the unit stands in itself, and none is above it.
abbrev pub climbed : UnitNodes → List Surrounding → (steps handle : ℕ) → List Above
climbed nodes surroundings zero handle = []
climbed nodes surroundings (suc steps) handle =
    if nat_lt handle (surrounding_at surroundings handle).parent
    then node_above nodes (surrounding_at surroundings handle) ∷ climbed nodes surroundings steps (surrounding_at surroundings handle).parent
    else []

abbrev pub nodes_above : UnitNodes → List Surrounding → (handle : ℕ) → List Above
nodes_above nodes surroundings handle = climbed nodes surroundings (length nodes - handle) handle

-- the nearest of them that passes
abbrev pub first_above : (Above → Bool) → List Above → Option ℕ
first_above test [] = None
first_above test (above ∷ others) = if test above then Some above.handle else first_above test others

-- Statement expressions (a GNU form)

abbrev pub is_statement_expression : NodeKind → Bool
is_statement_expression kinds.StatementExpression = true
is_statement_expression kind = false

abbrev pub expressions_among : List Above → List ℕ
expressions_among [] = []
expressions_among (above ∷ others) =
    if is_statement_expression above.kind then above.handle ∷ expressions_among others else expressions_among others

-- those around a node, from the innermost one
abbrev pub expressions_around : UnitNodes → List Surrounding → (handle : ℕ) → List ℕ
expressions_around nodes surroundings handle = expressions_among (nodes_above nodes surroundings handle)

abbrev pub innermost : List ℕ → Option ℕ
innermost [] = None
innermost (expression ∷ others) = Some expression

abbrev pub outermost : List ℕ → Option ℕ
outermost [] = None
outermost (expression ∷ []) = Some expression
outermost (expression ∷ other ∷ others) = outermost (other ∷ others)

abbrev pub is_among : ℕ → List ℕ → Bool
is_among expression [] = false
is_among expression (other ∷ others) = nat_eq expression other || is_among expression others

-- a jump from within these leads into this one: the innermost one around its target isn't around the jump
abbrev pub leads_into : (within : List ℕ) → (inside : Option ℕ) → Bool
leads_into within None = false
leads_into within (Some expression) = not (is_among expression within)

abbrev pub enters_expression : UnitNodes → List Surrounding → (jump target : ℕ) → Bool
enters_expression nodes surroundings jump target =
    leads_into (expressions_around nodes surroundings jump) (innermost (expressions_around nodes surroundings target))
