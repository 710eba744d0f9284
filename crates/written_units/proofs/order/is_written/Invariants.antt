-- Each node so far has its run, and a name below the bound.
use Rattle.std.proofs.Common.{◌≡◌, ℕ, ◌<◌, slice_get, Some}
use Rattle.sparse_model.specs.declared.ids.NameId.{NameId}
use Rattle.meaning_tree.specs.Nodes.{TreeNode}
use Rattle.written_units.proofs.FillingLemmas.{AreFilled}
use Rattle.written_units.proofs.order.is_written.Given as goal

abbrev pub invariant-loop-handle : goal.invariant-loop-handle
invariant-loop-handle l = record {
  filled : AreFilled l.unit.nodes l.starts.items l.handle;
  named : (handle : ℕ) → handle < l.handle → (node : TreeNode NameId) → slice_get l.unit.nodes handle ≡ Some node → node.name.0 < l.names;
}
