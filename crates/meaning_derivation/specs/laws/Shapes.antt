-- An action that has a shape makes the node of that shape in the place of what it takes.
use Rattle.std.specs.Prelude.{◌≡◌, IfSome}
use Rattle.vocabulary.specs.declared.action.Action.{Action}
use Rattle.meaning_derivation.specs.State.{State, made}
use Rattle.meaning_derivation.specs.Actions.{act}
use Rattle.meaning_derivation.specs.Shapes.{shape_of, shaped_tree}

abbrev pub ShapesAreMade : Type 0
ShapesAreMade =
    (action : Action) (s : State) → IfSome (shape_of action) (λ shape. act action s ≡ made s shape.takes (shaped_tree shape s.values))
