-- The examples of lists that are laid, and of those that aren't.
use Rattle.std.proofs.Common.{◌≡◌, ℕ, zero, suc, List, [], ◌∷◌, refl, sym, ap, subst, arith}
use Rattle.std.proofs.lemmas.Option.{same_Some}
use Rattle.vocabulary.specs.declared.node_kind.NodeKind.TheVariants.{Name, Assignment}
use Rattle.vocabulary.specs.declared.role.Role.TheVariants.{Evaluated}
use Rattle.meaning_tree.specs.Trees.{Node, NoParts, Part}
use Rattle.meaning_tree.specs.Nodes.{NodeList}
use Rattle.meaning_tree.specs.Laid.{IsChildAt, IsWithin, itself, in_child, IsLaid}
use Rattle.meaning_tree.specs.Runs.{run, no_runs, last_run}
use Rattle.meaning_tree.specs.examples.Trees.{assignment_nodes}
use Rattle.meaning_tree.specs.examples.Laid.{leaf, over, from_first}
use Rattle.meaning_tree.proofs.Lying.{parent_inside, run_is_laid}

pub assignment_is_laid : IsLaid assignment_nodes
assignment_is_laid =
    run_is_laid assignment_nodes 3 refl
    (run _ (omega arith, refl)
    (last_run [] [] (2, 0) 0 no_runs
    (run _ (omega arith, refl)
    (last_run ((0, 0) ∷ []) [] (1, 0) 1 (last_run [] [] (0, 0) 0 no_runs (run _ (omega arith, refl) no_runs)) (run _ (omega arith, refl) no_runs)))))

abbrev pub turned : NodeList (List ℕ)
turned = from_first (leaf ∷ leaf ∷ over ((1, 0) ∷ (0, 0) ∷ []) ∷ [])

pub turned_is_laid : IsLaid turned
turned_is_laid =
    run_is_laid turned 2 refl
    (run (over ((1, 0) ∷ (0, 0) ∷ [])) (omega arith, refl)
    (last_run [] ((0, 0) ∷ []) (1, 0) 1 (last_run [] [] (0, 0) 0 no_runs (run leaf (omega arith, refl) no_runs)) (run leaf (omega arith, refl) no_runs)))

abbrev pub shared : NodeList (List ℕ)
shared = from_first (leaf ∷ over ((0, 0) ∷ (0, 0) ∷ []) ∷ [])

pub shared_is_not_laid : IsLaid shared → ⊥
shared_is_not_laid laid =
    let parent = laid.parents 0 (omega arith) (omega arith) in
    let first = (parent.3 1 0 (0, refl)).1 in
    let second = (parent.3 1 1 (0, refl)).1 in
    omega (arith, first, second)

abbrev pub left_out : NodeList (List ℕ)
left_out = from_first (leaf ∷ leaf ∷ over ((1, 0) ∷ []) ∷ [])

no_parent : (parent place : ℕ) → IsChildAt left_out parent place 0 → ⊥
no_parent zero place named = cc named.1
no_parent (suc zero) place named = cc named.1
no_parent (suc (suc zero)) zero named = let same = ap (λ (child : ℕ × ℕ). child.0) (same_Some (1, 0) (0, named.0) named.1) in omega (arith, same)
no_parent (suc (suc zero)) (suc place) named = cc named.1
no_parent (suc (suc (suc parent))) place named = let below = (parent_inside left_out (suc (suc (suc parent))) place 0 named).1 in omega (arith, below)

pub left_out_is_not_laid : IsLaid left_out → ⊥
left_out_is_not_laid laid = let parent = laid.parents 0 (omega arith) (omega arith) in no_parent parent.0 parent.1 parent.2

abbrev pub scattered : NodeList (List ℕ)
scattered = from_first (leaf ∷ leaf ∷ over ((0, 0) ∷ []) ∷ over ((1, 0) ∷ (2, 0) ∷ []) ∷ [])

nothing_in_leaf : (place child : ℕ) → IsChildAt scattered 0 place child → ⊥
nothing_in_leaf place child named = cc named.1

only_child : (place child : ℕ) → IsChildAt scattered 2 place child → 0 ≡ child
only_child zero child named = ap (λ (one : ℕ × ℕ). one.0) (same_Some (0, 0) (child, named.0) named.1)
only_child (suc place) child named = absurd (cc named.1)

leaf_alone : (root part : ℕ) → 0 ≡ root → 1 ≡ part → IsWithin scattered root part → ⊥
leaf_alone root part is one itself = omega (arith, is, one)
leaf_alone root part is one (in_child place child named within) = nothing_in_leaf place child (subst (λ (parent : ℕ). IsChildAt scattered parent place child) (sym is) named)

not_within : (root part : ℕ) → 2 ≡ root → 1 ≡ part → IsWithin scattered root part → ⊥
not_within root part is one itself = omega (arith, is, one)
not_within root part is one (in_child place child named within) =
    leaf_alone child part (only_child place child (subst (λ (parent : ℕ). IsChildAt scattered parent place child) (sym is) named)) one within

pub scattered_is_not_laid : IsLaid scattered → ⊥
scattered_is_not_laid laid =
    not_within 2 1 refl refl
    ((laid.runs 2 1 (Node Assignment 0 [] 0 (Part Evaluated (Node Name 0 [] 0 NoParts) NoParts)) ((0, 0) ∷ [], (omega arith, refl), (refl, ([], (omega arith, refl), tt), tt))).1 (omega arith, omega arith))
