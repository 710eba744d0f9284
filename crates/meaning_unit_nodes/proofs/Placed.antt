-- Nodes that stand one behind the other in a list, from a handle on.
use Rattle.std.proofs.Common.{◌≡◌, ℕ, zero, suc, ◌+◌, ◌-◌, List, [], ◌∷◌, ◌++◌, length, Some, slice_get, ◌⊎◌, inl, inr, ⊎_elim, refl, sym, ap, ap₂, subst, ◌∙◌, arith}
use Rattle.std.proofs.lemmas.Option.{same_Some, slice_get_within}
use Rattle.meaning_tree.specs.Nodes.{TreeNode, NodeList, HasNode}

-- Elements

slice_get-in_front : {X : Type 0} (xs ys : List X) (place : ℕ) (x : X) → slice_get xs place ≡ Some x → slice_get (xs ++ ys) place ≡ Some x
slice_get-in_front [] ys place x is = absurd (omega (arith, slice_get_within [] place x is))
slice_get-in_front (y ∷ xs) ys zero x is = is
slice_get-in_front (y ∷ xs) ys (suc place) x is = slice_get-in_front xs ys place x is

slice_get-behind : {X : Type 0} (xs ys : List X) (place at : ℕ) → at ≡ length xs + place → slice_get (xs ++ ys) at ≡ slice_get ys place
slice_get-behind [] ys place at is = ap (slice_get ys) (omega (arith, is))
slice_get-behind (x ∷ xs) ys place zero is = absurd (omega (arith, is))
slice_get-behind (x ∷ xs) ys place (suc at) is = slice_get-behind xs ys place at (omega (arith, is))

-- an element of two lists is one of the first or of the second
slice_get-either : {X : Type 0} (xs ys : List X) (place : ℕ) (x : X) → slice_get (xs ++ ys) place ≡ Some x
    → (slice_get xs place ≡ Some x) ⊎ ((further : ℕ) × (place ≡ length xs + further) × (slice_get ys further ≡ Some x))
slice_get-either [] ys place x is = inr (place, omega arith, is)
slice_get-either (y ∷ xs) ys zero x is = inl is
slice_get-either (y ∷ xs) ys (suc place) x is =
    ⊎_elim (λ front. inl front) (λ back. let same = back.1 in inr (back.0, omega (arith, same), back.2)) (slice_get-either xs ys place x is)

-- lists of one length whose elements are the same are the same
pub lists_alike : {X : Type 0} (xs ys : List X) → length xs ≡ length ys → ((place : ℕ) (x : X) → slice_get xs place ≡ Some x → slice_get ys place ≡ Some x) → xs ≡ ys
lists_alike [] [] long same = refl
lists_alike [] (y ∷ ys) long same = absurd (omega (arith, long))
lists_alike (x ∷ xs) [] long same = absurd (omega (arith, long))
lists_alike (x ∷ xs) (y ∷ ys) long same =
    ap₂ (λ one more. one ∷ more) (sym (same_Some y x (same zero x refl))) (lists_alike xs ys (omega (arith, long)) (λ place. same (suc place)))

module _ {Spelling : Type 0} (list : NodeList Spelling) where
  -- the nodes have this handle and those that follow it
  abbrev pub ArePlaced : ℕ → List (TreeNode Spelling) → Type 0
  ArePlaced first nodes = (place : ℕ) (node : TreeNode Spelling) → slice_get nodes place ≡ Some node → HasNode list (first + place) node

  -- those of the list
  pub placed-all : ArePlaced list.first list.nodes
  placed-all place node is = (omega arith, ap (slice_get list.nodes) same ∙ is)
    where
      same : list.first + place - list.first ≡ place
      same = omega arith

  pub placed-front : (first : ℕ) (nodes more : List (TreeNode Spelling)) → ArePlaced first (nodes ++ more) → ArePlaced first nodes
  placed-front first nodes more placed place node is = placed place node (slice_get-in_front nodes more place node is)

  pub placed-back : (first : ℕ) (nodes more : List (TreeNode Spelling)) → ArePlaced first (nodes ++ more) → ArePlaced (first + length nodes) more
  placed-back first nodes more placed place node is =
      subst (λ (handle : ℕ). HasNode list handle node) (omega arith) (placed (length nodes + place) node (slice_get-behind nodes more place (length nodes + place) refl ∙ is))

  pub placed-joined : (first : ℕ) (nodes more : List (TreeNode Spelling)) → ArePlaced first nodes → ArePlaced (first + length nodes) more
      → ArePlaced first (nodes ++ more)
  placed-joined first nodes more front back place node is =
      ⊎_elim
      (λ early. front place node early)
      (λ late. let same = late.1 in subst (λ (handle : ℕ). HasNode list handle node) (omega (arith, same)) (back late.0 node late.2))
      (slice_get-either nodes more place node is)

  pub placed-none : (first : ℕ) → ArePlaced first []
  placed-none first place node is = absurd (cc is)

  pub placed-one : (first : ℕ) (one : TreeNode Spelling) → HasNode list first one → ArePlaced first (one ∷ [])
  placed-one first one has zero node is = subst (λ (found : TreeNode Spelling). HasNode list (first + 0) found) (same_Some one node is) (subst (λ (handle : ℕ). HasNode list handle one) (omega arith) has)
  placed-one first one has (suc place) node is = absurd (cc is)

  pub placed-last : (first : ℕ) (one : TreeNode Spelling) → ArePlaced first (one ∷ []) → HasNode list first one
  placed-last first one placed = subst (λ (handle : ℕ). HasNode list handle one) (omega arith) (placed 0 one refl)

  -- as many as the list has are its nodes
  pub placed-whole : (nodes : List (TreeNode Spelling)) → length nodes ≡ length list.nodes → ArePlaced list.first nodes → nodes ≡ list.nodes
  placed-whole nodes long placed =
      lists_alike nodes list.nodes long
      (λ place node is. ap (slice_get list.nodes) (same place) ∙ (placed place node is).1)
    where
      same : (place : ℕ) → place ≡ list.first + place - list.first
      same place = omega arith
