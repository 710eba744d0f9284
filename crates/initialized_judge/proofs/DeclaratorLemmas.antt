-- The last declarator among some parts is found from behind.
use Rattle.std.proofs.Common.{◌≡◌, ℕ, zero, suc, Bool, true, false, List, [], ◌∷◌, length, take, get_or, if◌then◌else◌, refl, sym, ap, ◌∙◌}
use Rattle.meaning_typing.specs.Units.{UnitNodes, no_node, kind_at, children_at, child_at}
use Rattle.meaning_tree.specs.Nodes.{TreeNode}
use Rattle.meaning_initialized.specs.Initialized.{is_declarator, last_declarator}

module _ (nodes : UnitNodes) where
  abbrev pub is_one : ℕ → Bool
  is_one handle = is_declarator (kind_at nodes handle)

  last_step : (none found : ℕ) (parts : List ℕ) (place : ℕ) → is_one none ≡ false
      → last_declarator nodes found (take (suc place) parts)
      ≡ (if is_one (get_or parts place none) then get_or parts place none else last_declarator nodes found (take place parts))
  last_step none found [] zero is = ap (λ (test : Bool). if test then none else found) (sym is)
  last_step none found [] (suc place) is = ap (λ (test : Bool). if test then none else found) (sym is)
  last_step none found (part ∷ parts) zero is = refl
  last_step none found (part ∷ parts) (suc place) is = last_step none (if is_one part then part else found) parts place is

  past_all : (others : UnitNodes) → get_or others (length others) no_node ≡ no_node
  past_all [] = refl
  past_all (node ∷ others) = past_all others

  no_declarator : is_one (length nodes) ≡ false
  no_declarator = ap (λ (node : TreeNode (List ℕ)). is_declarator node.kind) (past_all nodes)

  -- the last one before the next place
  abbrev pub last_before : (parent place : ℕ) → ℕ
  last_before parent place = last_declarator nodes (length nodes) (take place (children_at nodes parent))

  pub last_here : (parent place : ℕ) → is_one (child_at nodes parent place) ≡ true → last_before parent (suc place) ≡ child_at nodes parent place
  last_here parent place is =
      last_step (length nodes) (length nodes) (children_at nodes parent) place no_declarator
      ∙ ap (λ (test : Bool). if test then child_at nodes parent place else last_before parent place) is

  pub last_earlier : (parent place : ℕ) → is_one (child_at nodes parent place) ≡ false → last_before parent (suc place) ≡ last_before parent place
  last_earlier parent place is =
      last_step (length nodes) (length nodes) (children_at nodes parent) place no_declarator
      ∙ ap (λ (test : Bool). if test then child_at nodes parent place else last_before parent place) is
