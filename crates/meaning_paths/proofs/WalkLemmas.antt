-- Walks, whatever their places are.
use Rattle.std.proofs.Common.{◌≡◌, List, ◌∷◌, refl, subst}
use Rattle.meaning_paths.specs.Steps.{Step}
use Rattle.meaning_paths.specs.Walks.{Walk, begins, passes, turns, IsPath}

module _ {S : Type 0} (steps : S → List Step) (next : S → List S) (start : S) where
  -- before the last step of its path a walk stood before that step
  pub walk-before : (step : Step) (path all : List Step) (place : S) (rest : List Step) → all ≡ step ∷ path → Walk steps next start all place rest
      → (before : S) × (more : List Step) × Walk steps next start path before (step ∷ more)
  walk-before step path all place rest is (begins e) = absurd (cc)
  walk-before step path all place rest is (passes {path = front} {step = other} walk) =
      let same_step : other ≡ step = cc in
      let same_path : front ≡ path = cc in
      (place, rest, subst (λ now. Walk steps next start now place (step ∷ rest)) same_path (subst (λ now. Walk steps next start front place (now ∷ rest)) same_step walk))
  walk-before step path all place rest is (turns {place = from} walk there e) = walk-before step path all from _ is walk

  pub front-path : (step : Step) (path : List Step) → IsPath steps next start (step ∷ path) → IsPath steps next start path
  front-path step path (place, rest, walk) =
      let (before, more, earlier) = walk-before step path (step ∷ path) place rest refl walk in
      (before, step ∷ more, earlier)
