-- Two things that go on in step have the same paths.
use Rattle.std.proofs.Common.{◌≡◌, ◌↔◌, ◌⊎◌, inl, inr, List, [], ◌∷◌, refl, sym, subst, ◌∙◌}
use Rattle.meaning_paths.specs.Steps.{Step}
use Rattle.meaning_paths.specs.Walks.{IsIn, Walk, begins, passes, turns, IsPath}

-- The places of one stand for those of the other: they have the same steps, and where one goes on the other does.
module _ {S T : Type 0} (steps : S → List Step) (next : S → List S) (start : S) (to_steps : T → List Step) (to_next : T → List T) (to_start : T)
    (Stands : S → T → Type 0) (begun : Stands start to_start)
    (same : (place : S) (other : T) → Stands place other → to_steps other ≡ steps place)
    (goes : (place behind : S) (other : T) → Stands place other → IsIn behind (next place) → (further : T) × IsIn further (to_next other) × Stands behind further)
  where
    follows : (path : List Step) (place : S) (rest : List Step) → Walk steps next start path place rest
        → (other : T) × Stands place other × Walk to_steps to_next to_start path other rest
    follows path place rest (begins is) = (to_start, begun, begins (is ∙ sym (same start to_start begun)))
    follows path place rest (passes {path = front} {step = step} walk) =
        let (other, stands, goes_with) = follows front place (step ∷ rest) walk in (other, stands, passes goes_with)
    follows path place rest (turns {place = from} {other = behind} walk there is) =
        let (other, stands, goes_with) = follows path from [] walk in
        let (further, into, stands_behind) = goes from behind other stands there in
        (further, stands_behind, turns goes_with into (is ∙ sym (same behind further stands_behind)))

    pub path_follows : (path : List Step) → IsPath steps next start path → IsPath to_steps to_next to_start path
    path_follows path (place, rest, walk) = let (other, stands, goes_with) = follows path place rest walk in (other, rest, goes_with)

-- a place that passes nothing and goes to the start alone may stand before it
module _ {S : Type 0} (steps : S → List Step) (next : S → List S) (before start : S) (silent : steps before ≡ [])
    (only : (other : S) → IsIn other (next before) ↔ IsIn other (start ∷ []))
  where
    walks_from_before : (path : List Step) (place : S) (rest : List Step) → Walk steps next start path place rest → Walk steps next before path place rest
    walks_from_before path place rest (begins is) = turns (begins (sym silent)) ((only start).1 (inl refl)) is
    walks_from_before path place rest (passes {path = front} {step = step} walk) = passes (walks_from_before front place (step ∷ rest) walk)
    walks_from_before path place rest (turns {place = from} walk there is) = turns (walks_from_before path from [] walk) there is

    -- it is still before the start, or comes from there
    abbrev Walked : List Step → S → List Step → Type 0
    Walked path place rest = ((path ≡ []) × (place ≡ before) × (rest ≡ [])) ⊎ Walk steps next start path place rest

    first_turn : (path : List Step) (other : S) (rest : List Step) → path ≡ [] → IsIn other (start ∷ []) → rest ≡ steps other → Walk steps next start path other rest
    first_turn path other rest nothing (inl is) begun =
        subst (λ now. Walk steps next start now other rest) (sym nothing)
        (subst (λ now. Walk steps next start [] now rest) (sym is) (begins (begun ∙ (λ i. steps (is i)))))
    first_turn path other rest nothing (inr there) begun = absurd there

    walks_from_start : (path : List Step) (place : S) (rest : List Step) → Walk steps next before path place rest → Walked path place rest
    walks_from_start path place rest (begins is) = inl (refl, refl, is ∙ silent)
    walks_from_start path place rest (passes {path = front} {step = step} walk) = passed front step rest place (walks_from_start front place (step ∷ rest) walk)
      where
        passed : (front : List Step) (step : Step) (rest : List Step) (place : S) → Walked front place (step ∷ rest) → Walked (step ∷ front) place rest
        passed front step rest place (inl (nothing, at, none)) = absurd (cc)
        passed front step rest place (inr walk) = inr (passes walk)
    walks_from_start path place rest (turns {place = from} {other = other} walk there is) = turned from other there is (walks_from_start path from [] walk)
      where
        turned : (from other : S) → IsIn other (next from) → rest ≡ steps other → Walked path from [] → Walked path other rest
        turned from other there is (inl (nothing, at, none)) =
            inr (first_turn path other rest nothing ((only other).0 (subst (λ now. IsIn other (next now)) at there)) is)
        turned from other there is (inr walk) = inr (turns walk there is)

    path_of_walked : (path : List Step) (place : S) (rest : List Step) → Walked path place rest → IsPath steps next start path
    path_of_walked path place rest (inl (nothing, at, none)) =
        subst (λ now. IsPath steps next start now) (sym nothing) (start, steps start, begins refl)
    path_of_walked path place rest (inr walk) = (place, rest, walk)

    pub same_from_before : (path : List Step) → IsPath steps next start path ↔ IsPath steps next before path
    same_from_before path = (
      (λ is. (is.0, is.1, walks_from_before path is.0 is.1 is.2)),
      (λ is. path_of_walked path is.0 is.1 (walks_from_start path is.0 is.1 is.2)),
    )
