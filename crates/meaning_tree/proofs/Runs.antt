-- Runs stay where nodes are added, follow one another, and may be named in any order.
use Rattle.std.proofs.Common.{◌≡◌, ℕ, ◌+◌, ◌≤◌, List, [], ◌∷◌, ◌++◌, reverse, sym, ap, subst, ◌∙◌, arith, append-nil, append_assoc}
use Rattle.std.proofs.lemmas.List.{reverse-append}
use Rattle.meaning_tree.specs.Nodes.{TreeNode, NodeList, end_of, Grows, with_node}
use Rattle.meaning_tree.specs.Runs.{IsRun, AreRuns, run, no_runs, last_run}
use Rattle.meaning_tree.proofs.Finding.{HasNode-grows, HasNode-added, Grows-added}

module _ {Spelling : Type 0} (before after : NodeList Spelling) (grows : Grows before after) where
  mutual
    -- runs stay where nodes are added
    pub run-stays : {first root : ℕ} → IsRun before first root → IsRun after first root
    run-stays (run node has runs) = run node (HasNode-grows before after grows _ node has) (runs-stay runs)

    pub runs-stay : {children : List (ℕ × ℕ)} {first end : ℕ} → AreRuns before children first end → AreRuns after children first end
    runs-stay no_runs = no_runs
    runs-stay (last_run front back child middle runs one) = last_run front back child middle (runs-stay runs) (run-stays one)

module _ {Spelling : Type 0} (list : NodeList Spelling) where
  -- a node behind the runs of its children ends theirs
  pub run-added : (node : TreeNode Spelling) (first : ℕ) → AreRuns list node.children first (end_of list) → IsRun (with_node list node) first (end_of list)
  run-added node first runs = run node (HasNode-added list node) (runs-stay list (with_node list node) (Grows-added list node) runs)

  -- the same runs of the same children
  children_are : {children others : List (ℕ × ℕ)} {first end : ℕ} → children ≡ others → AreRuns list children first end → AreRuns list others first end
  children_are {first = first} {end = end} same runs = subst (λ (all : List (ℕ × ℕ)). AreRuns list all first end) same runs

  -- the run of one child
  pub run-alone : (child : ℕ × ℕ) {first : ℕ} → IsRun list first child.0 → AreRuns list (child ∷ []) first (child.0 + 1)
  run-alone child {first} one = last_run [] [] child first no_runs one

  -- runs of children behind those of others
  pub runs-behind : (children : List (ℕ × ℕ)) {more : List (ℕ × ℕ)} {first middle end : ℕ} → AreRuns list children first middle → AreRuns list more middle end
      → AreRuns list (children ++ more) first end
  runs-behind children runs no_runs = children_are (sym (append-nil children)) runs
  runs-behind children runs (last_run front back child middle further one) =
      children_are (append_assoc children front (child ∷ back))
      (last_run (children ++ front) back child middle (children_are (sym (append_assoc children front back)) (runs-behind children runs further)) one)

  -- the later ones may be named first
  pub runs-before : (children : List (ℕ × ℕ)) {more : List (ℕ × ℕ)} {first middle end : ℕ} → AreRuns list children first middle → AreRuns list more middle end
      → AreRuns list (more ++ children) first end
  runs-before children runs no_runs = runs
  runs-before children runs (last_run front back child middle further one) =
      children_are (sym (append_assoc front (child ∷ back) children))
      (last_run front (back ++ children) child middle (children_are (append_assoc front back children) (runs-before children runs further)) one)

  -- and all in reverse
  pub runs-reversed : {children : List (ℕ × ℕ)} {first end : ℕ} → AreRuns list children first end → AreRuns list (reverse children) first end
  runs-reversed no_runs = no_runs
  runs-reversed (last_run front back child middle runs one) =
      children_are (sym (turned front back child))
      (last_run (reverse back) (reverse front) child middle (children_are (reverse-append front back) (runs-reversed runs)) one)
    where
      turned : (front back : List (ℕ × ℕ)) (child : ℕ × ℕ) → reverse (front ++ child ∷ back) ≡ reverse back ++ child ∷ reverse front
      turned front back child =
          reverse-append front (child ∷ back) ∙ ap (λ (rest : List (ℕ × ℕ)). rest ++ reverse front) (reverse-append (child ∷ []) back)
          ∙ append_assoc (reverse back) (child ∷ []) (reverse front)

  mutual
    -- a run doesn't end before it begins
    pub run-rises : {first root : ℕ} → IsRun list first root → first ≤ root
    run-rises (run node has runs) = runs-rise runs

    pub runs-rise : {children : List (ℕ × ℕ)} {first end : ℕ} → AreRuns list children first end → first ≤ end
    runs-rise no_runs = omega arith
    runs-rise (last_run front back child middle runs one) = let front = runs-rise runs in let back = run-rises one in omega (arith, front, back)
