-- The node of a shape, by its id and handles.
use Rattle.std.specs.Prelude.{ℕ, ◌-◌, List, length}
use Rattle.meaning_tree.specs.Nodes.{TreeNode}
use Rattle.sparse_model.specs.declared.ids.NameId.{NameId}
use Rattle.parse_state.specs.declared.shape.Shape.{Shape}
use Rattle.parse_state.specs.declared.value.Value.{Value}

-- where the last so many values of a stack begin
abbrev pub start_of : List Value → (takes : ℕ) → ℕ
start_of values takes = length values - takes

abbrev pub node_with : Shape → NameId → List (ℕ × ℕ) → TreeNode NameId
node_with shape name children =
    record { kind = shape.kind; token = shape.token; name = name; number = shape.number; children = children }
