-- Names that are linked one after the other.
use Rattle.std.proofs.Common.{◌≡◌, ℕ, ◌+◌, ◌<◌, ◌≤◌, ◌⊎◌, inl, inr, List, length, subst, sym, arith}
use Rattle.std.proofs.lemmas.Option.{slice_get_within}
use Rattle.sparse_model.specs.declared.ids.NameId.{NameId}
use Rattle.meaning_tree.specs.Nodes.{TreeNode}
use Rattle.meaning_unit_nodes.specs.Linked.{AreLinked}
use Rattle.written_units.specs.Linking.{IsLinkedAt}

-- those with smaller handles are
abbrev pub AreLinkedBelow : List (TreeNode NameId) → (end : ℕ) → Type 0
AreLinkedBelow nodes end = (handle : ℕ) → handle < end → IsLinkedAt nodes handle

earlier-or-last : (handle end : ℕ) → handle < end + 1 → (handle ≡ end) ⊎ (handle < end)
earlier-or-last handle end within = grind arith

pub none-linked : (nodes : List (TreeNode NameId)) → AreLinkedBelow nodes 0
none-linked nodes handle within = absurd (omega (arith, within))

pub one-linked : (nodes : List (TreeNode NameId)) (end : ℕ) → AreLinkedBelow nodes end → IsLinkedAt nodes end → AreLinkedBelow nodes (end + 1)
one-linked nodes end below one handle within =
    elim (earlier-or-last handle end within) [
      | inl last ↦ subst (IsLinkedAt nodes) (sym last) one
      | inr earlier ↦ below handle earlier
    ]

pub all-linked : (nodes : List (TreeNode NameId)) (end : ℕ) → length nodes ≤ end → AreLinkedBelow nodes end → AreLinked nodes
all-linked nodes end all below handle node is =
    let within = slice_get_within nodes handle node is in
    below handle (omega (arith, within, all)) node is
