-- How the values of this crate are seen by the definitions of `meaning_typing`.
use Rattle.std.specs.Prelude.{ℕ, List, map}
use Rattle.sparse_model.specs.declared.ids.NameId.{NameId}
use Rattle.meaning_tree.specs.Nodes.{NodeList}
use Rattle.meaning_tree.specs.Listed.{renamed_node}
use Rattle.meaning_typing.specs.Units.{UnitNodes}
use Rattle.meaning_typing.specs.Operations as operations
use Rattle.meaning_typing.specs.Surroundings as meaning
use Rattle.node_surroundings.specs.declared.asking.Asking.{Asking}
use Rattle.node_surroundings.specs.declared.asking.Asking.TheVariants as askings
use Rattle.node_surroundings.specs.declared.operation.Operation.{Operation}
use Rattle.node_surroundings.specs.declared.operation.Operation.TheVariants as seen
use Rattle.node_surroundings.specs.declared.surrounding.Want.{Want}
use Rattle.node_surroundings.specs.declared.surrounding.Want.TheVariants as wants
use Rattle.node_surroundings.specs.declared.surrounding.Around.{Around}
use Rattle.node_surroundings.specs.declared.surrounding.Surrounding.{Surrounding}

abbrev pub want_seen : Want → meaning.Want
want_seen wants.ForValue = meaning.ForValue
want_seen wants.ForStore = meaning.ForStore
want_seen wants.ForPlace = meaning.ForPlace
want_seen wants.ForEffect = meaning.ForEffect
want_seen wants.ForNothing = meaning.ForNothing

abbrev pub asking_seen : Asking → meaning.Asking
asking_seen askings.Values = meaning.AsksValues
asking_seen askings.Places = meaning.AsksPlaces
asking_seen askings.Effects = meaning.AsksEffects
asking_seen askings.ValueFirst = meaning.AsksValueFirst
asking_seen askings.ValueLast = meaning.AsksValueLast
asking_seen askings.StoreFirst = meaning.AsksStoreFirst
asking_seen askings.ThreeValues = meaning.AsksThreeValues
asking_seen askings.OneValue = meaning.AsksOneValue
asking_seen askings.ByOperation = meaning.AsksByOperation

abbrev pub operation_seen : Operation → operations.Operation
operation_seen (seen.StepBehind operator) = operations.StepBehind operator
operation_seen (seen.StepBefore operator) = operations.StepBefore operator
operation_seen (seen.Unary operator) = operations.UnaryOperation operator
operation_seen seen.Not = operations.NotOperation
operation_seen seen.Size = operations.SizeOperation
operation_seen seen.Cast = operations.CastOperation
operation_seen (seen.Binary operator) = operations.BinaryOperation operator
operation_seen (seen.Logical operator) = operations.LogicalOperation operator
operation_seen seen.Conditional = operations.ConditionalOperation
operation_seen (seen.Compound operator) = operations.CompoundOperation operator
operation_seen seen.Comma = operations.CommaOperation
operation_seen seen.Expect = operations.ExpectOperation
operation_seen seen.Statements = operations.StatementsOperation
operation_seen seen.Nothing = operations.NoOperation

abbrev pub around_seen : Around → meaning.Around
around_seen around = record { function = around.function; scope = around.scope }

abbrev pub surrounding_seen : Surrounding → meaning.Surrounding
surrounding_seen surrounding =
    record {
      parent = surrounding.parent;
      place = surrounding.place;
      want = want_seen surrounding.want;
      is_evaluated = surrounding.is_evaluated;
      around = around_seen surrounding.around;
    }

abbrev pub surroundings_seen : List Surrounding → List meaning.Surrounding
surroundings_seen surroundings = map surrounding_seen surroundings

-- the nodes of a unit, where these are the names
abbrev pub named_nodes : (NameId → List ℕ) → NodeList NameId → UnitNodes
named_nodes names unit = map (renamed_node names) unit.nodes

-- this is what the nodes of a unit stand in, whatever their names are
abbrev pub AreSurroundingsOf : NodeList NameId → List Surrounding → Type 0
AreSurroundingsOf unit surroundings =
    (names : NameId → List ℕ) → meaning.AreSurroundings (named_nodes names unit) (surroundings_seen surroundings)
