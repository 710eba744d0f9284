-- What a flow of cells owes them.
use Rattle.std.specs.Prelude.{◌≡◌, ◌↔◌, ℕ, ◌-◌, ◌<◌, nat_eq, List, length}
use Rattle.std.specs.Str.{bytes_eq}
use Rattle.sparse_model.specs.declared.ids.NameId.{NameId}
use Rattle.meaning_paths.specs.Steps.{Step}
use Rattle.meaning_paths.specs.Graphs.{BasicBlock, EachBeginsWithPoint, IsClosed, IsPathOf}
use Rattle.meaning_control.specs.States.{ControlNode, IsControlPath}
use Rattle.meaning_control.specs.laws.Cells.{Cell, IsNodeOf}
use Rattle.control_flow.specs.Seen.{graph_of}
use Rattle.control_flow.specs.declared.flow.Flow.{Flow}

-- names are seen alike only where they are one
abbrev pub KeepsApart : (NameId → List ℕ) → Type 0
KeepsApart names = (name other : NameId) → bytes_eq (names name) (names other) ≡ nat_eq name.0 other.0

-- its paths are those of the body that the cells make
abbrev pub HasPathsOf : List Cell → (brace : ℕ) → List BasicBlock → Type 0
HasPathsOf cells brace graph =
    (body : ControlNode) → IsNodeOf cells (length cells - 1) body → (path : List Step) → IsControlPath brace body path ↔ IsPathOf graph path

-- a walk over its blocks begins in one, comes to a block each time, and to a point first wherever something is passed
pub record IsWalkable (flow : Flow) : Type 0 where
  pub begins : 0 < length flow.blocks
  pub closed : IsClosed (graph_of flow)
  pub points : EachBeginsWithPoint (graph_of flow)
