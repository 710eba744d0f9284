-- A node is seen with all that it holds.
use Rattle.std.proofs.Common.{◌≡◌, ℕ, List, ap, ◌∙◌}
use Rattle.sparse_model.specs.declared.ids.NameId.{NameId}
use Rattle.meaning_tree.specs.NodeKind.{NodeKind}
use Rattle.c_tree.specs.declared.node.Node.{Node}
use Rattle.c_tree.specs.Seen.{node_of}

-- a node of these
abbrev with_fields : NodeKind → ℕ → NameId → ℕ → List (ℕ × ℕ) → Node
with_fields kind token name number children = record { kind = kind; token = token; name = name; number = number; children = children }

-- two nodes that are seen alike are one
pub node_of-injective : (node other : Node) → node_of node ≡ node_of other → node ≡ other
node_of-injective node other e =
    ap (λ kind. with_fields kind node.token node.name node.number node.children) (ap (λ seen. seen.kind) e)
    ∙ ap (λ token. with_fields other.kind token node.name node.number node.children) (ap (λ seen. seen.token) e)
    ∙ ap (λ name. with_fields other.kind other.token name node.number node.children) (ap (λ seen. seen.name) e)
    ∙ ap (λ number. with_fields other.kind other.token other.name number node.children) (ap (λ seen. seen.number) e)
    ∙ ap (with_fields other.kind other.token other.name other.number) (ap (λ seen. seen.children) e)
