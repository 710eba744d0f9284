-- What holds of labels.
use Rattle.std.specs.Prelude.{◌≡◌, ℕ, ◌<◌, List, [], length, Some}
use Rattle.vocabulary.specs.declared.node_kind.NodeKind.TheVariants.{LabelStatement}
use Rattle.meaning_typing.specs.Units.{UnitNodes, kind_at, node_at}
use Rattle.meaning_typing.specs.Surroundings.{Surrounding}
use Rattle.meaning_statements.specs.Jumps.{owner_of}
use Rattle.meaning_statements.specs.StatementRows.{label_at}

-- a label of its name in its function
pub record IsLabelOf (nodes : UnitNodes) (surroundings : List Surrounding) (goto label : ℕ) : Type 0 where
  pub is_label : kind_at nodes label ≡ LabelStatement
  pub named : (node_at nodes label).name ≡ (node_at nodes goto).name
  pub owner : ℕ
  pub of_goto : owner_of nodes surroundings goto ≡ Some owner
  pub of_label : owner_of nodes surroundings label ≡ Some owner

-- no label breaks the constraint that its name stands once in its function
abbrev pub DefinesNoLabelTwice : UnitNodes → List Surrounding → Type 0
DefinesNoLabelTwice nodes surroundings =
    (label : ℕ) → label < length nodes → kind_at nodes label ≡ LabelStatement → (label_at nodes surroundings label).broken ≡ []

-- then a `goto` has at most one label
abbrev pub GotosHaveOneLabel : Type 0
GotosHaveOneLabel =
    (nodes : UnitNodes) (surroundings : List Surrounding) → DefinesNoLabelTwice nodes surroundings
    → (goto label other : ℕ) → label < length nodes → other < length nodes
    → IsLabelOf nodes surroundings goto label → IsLabelOf nodes surroundings goto other → label ≡ other
