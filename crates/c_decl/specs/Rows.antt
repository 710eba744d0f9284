-- The actions of this crate that are rows of the table of shapes.
use Rattle.std.specs.Prelude.{Bool, ◌&&◌, not, is_some}
use Rattle.vocabulary.specs.declared.action.Action.{Action}
use Rattle.meaning_derivation.specs.Shapes.{shape_of}
use Rattle.parse_state.specs.Groups.{is_expression_action}

abbrev pub is_row : Action → Bool
is_row action = not (is_expression_action action) && is_some (shape_of action)
