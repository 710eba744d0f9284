-- How the values of this crate are seen by the definitions of `meaning_control`, where these are the names.
use Rattle.std.specs.Prelude.{ℕ, Bool, true, false, nat_lt, List, [], ◌∷◌, map, get_or, Option, Some, None}
use Rattle.sparse_model.specs.declared.ids.NameId.{NameId}
use Rattle.meaning_paths.specs.Steps.{Step, Point, Call}
use Rattle.meaning_control.specs.Kinds as meaning
use Rattle.meaning_control.specs.Rows as rows
use Rattle.meaning_control.specs.laws.Cells as law
use Rattle.control_flow.specs.declared.note.ContextNote.{ContextNote}
use Rattle.control_cells.specs.declared.kind.Outcomes.{Outcomes}
use Rattle.control_cells.specs.declared.kind.Outcomes.TheVariants as outcomes
use Rattle.control_cells.specs.declared.kind.ControlKind.{ControlKind}
use Rattle.control_cells.specs.declared.kind.ControlKind.TheVariants as kinds
use Rattle.control_cells.specs.declared.rows.Way.{Way}
use Rattle.control_cells.specs.declared.rows.Way.TheVariants as ways
use Rattle.control_cells.specs.declared.cell.Cell.{Cell}

-- Kinds

abbrev pub outcomes_seen : Outcomes → List Bool
outcomes_seen outcomes.Never = []
outcomes_seen (outcomes.One outcome) = outcome ∷ []
outcomes_seen outcomes.Both = true ∷ false ∷ []

-- what a call at this token passes
abbrev pub passes_seen : (token : ℕ) → Option ContextNote → List Step
passes_seen token None = []
passes_seen token (Some note) = Point token false ∷ Call token 0 note.enters note.leaves ∷ []

abbrev pub kind_seen : (NameId → List ℕ) → (token : ℕ) → ControlKind → meaning.ControlKind
kind_seen names token (kinds.Value outcomes) = meaning.Value (outcomes_seen outcomes)
kind_seen names token (kinds.Calling passes outcomes) = meaning.Calling (passes_seen token passes) (outcomes_seen outcomes)
kind_seen names token kinds.Sequence = meaning.Sequence
kind_seen names token kinds.Body = meaning.Body
kind_seen names token kinds.Not = meaning.Not
kind_seen names token kinds.And = meaning.And
kind_seen names token kinds.Or = meaning.Or
kind_seen names token kinds.Conditional = meaning.Conditional
kind_seen names token kinds.Expect = meaning.Expect
kind_seen names token kinds.Expression = meaning.Expression
kind_seen names token kinds.Block = meaning.Block
kind_seen names token kinds.If = meaning.If
kind_seen names token (kinds.Switch number) = meaning.Switch number
kind_seen names token kinds.While = meaning.While
kind_seen names token (kinds.Do while_token) = meaning.Do while_token
kind_seen names token (kinds.For has_condition) = meaning.For has_condition
kind_seen names token (kinds.Label name) = meaning.Label (names name)
kind_seen names token (kinds.Case number) = meaning.Case number
kind_seen names token kinds.Default = meaning.Default
kind_seen names token (kinds.Goto name) = meaning.Goto (names name)
kind_seen names token kinds.Break = meaning.Break
kind_seen names token kinds.Continue = meaning.Continue
kind_seen names token kinds.Return = meaning.Return
kind_seen names token (kinds.Context by) = meaning.Context by
kind_seen names token kinds.Attributes = meaning.Attributes

-- Ways

abbrev pub way_seen : Way → rows.Way
way_seen (ways.Into place) = rows.Into place
way_seen ways.Moment = rows.Moment
way_seen (ways.Out outcome) = rows.Out outcome

-- a cell of this kind, with so many parts, may have a moment
abbrev pub may_have_moment : meaning.ControlKind → (parts : ℕ) → Bool
may_have_moment (meaning.Value outcomes) parts = nat_lt 0 parts
may_have_moment (meaning.Calling passes outcomes) parts = true
may_have_moment (meaning.Switch number) parts = true
may_have_moment meaning.While parts = true
may_have_moment (meaning.Do while_token) parts = true
may_have_moment (meaning.For has_condition) parts = true
may_have_moment meaning.Return parts = true
may_have_moment kind parts = false

-- Cells

abbrev pub cell_seen : (NameId → List ℕ) → Cell → law.Cell
cell_seen names cell = record { kind = kind_seen names cell.token cell.kind; token = cell.token; parts = cell.parts.items }

abbrev pub cells_seen : (NameId → List ℕ) → List Cell → List law.Cell
cells_seen names cells = map (cell_seen names) cells

abbrev pub no_cell : law.Cell
no_cell = record { kind = meaning.Sequence; token = 0; parts = [] }

abbrev pub cell_at : List law.Cell → (number : ℕ) → law.Cell
cell_at cells number = get_or cells number no_cell
