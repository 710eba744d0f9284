-- How steps, and where control goes, are seen, where these are the names.
use Rattle.std.specs.Prelude.{ℕ, List, [], ◌∷◌}
use Rattle.sparse_model.specs.declared.ids.NameId.{NameId}
use Rattle.meaning_paths.specs.Steps.{Step}
use Rattle.meaning_control.specs.Rows as rows
use Rattle.control_flow.specs.Seen.{step_of}
use Rattle.control_cells.specs.Seen.{outcomes_seen, way_seen}
use Rattle.control_cells.specs.declared.steps.Steps.{Steps}
use Rattle.control_cells.specs.declared.steps.Steps.TheVariants as steps
use Rattle.control_cells.specs.declared.goings.Goings.{Goings}
use Rattle.control_cells.specs.declared.goings.Goings.TheVariants as goings

abbrev pub steps_seen : Steps → List Step
steps_seen steps.Nothing = []
steps_seen (steps.One step) = step_of step ∷ []
steps_seen (steps.Two step other) = step_of step ∷ step_of other ∷ []

abbrev pub goings_seen : (NameId → List ℕ) → Goings → List rows.Going
goings_seen names goings.Nowhere = []
goings_seen names (goings.On way) = rows.On (way_seen way) ∷ []
goings_seen names (goings.Outs outcomes) = rows.outs (outcomes_seen outcomes)
goings_seen names goings.Breaks = rows.Breaks ∷ []
goings_seen names goings.Continues = rows.Continues ∷ []
goings_seen names (goings.Jumps name) = rows.Jumps (names name) ∷ []
goings_seen names goings.Picks = rows.Picks ∷ []
