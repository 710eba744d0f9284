-- Paths that are listed are paths.
use Rattle.std.proofs.Common.{◌≡◌, ◌⊎◌, inl, inr, ℕ, zero, suc, List, [], ◌∷◌, ◌++◌, map, refl, sym, subst}
use Rattle.std.specs.List.{flat_map}
use Rattle.meaning_paths.specs.Steps.{Step}
use Rattle.meaning_paths.specs.Walks.{IsIn, Walk, begins, passes, turns}
use Rattle.meaning_control.specs.States.{ControlNode, State, enter, next_states, steps_in, IsControlPath}
use Rattle.meaning_control.specs.plain.Paths.{each_behind, paths_from, last_first}

-- Lists

in_append : {X : Type 0} (x : X) (xs ys : List X) → IsIn x (xs ++ ys) → IsIn x xs ⊎ IsIn x ys
in_append x [] ys there = inr there
in_append x (y ∷ xs) ys (inl is) = inl (inl is)
in_append x (y ∷ xs) ys (inr there) = later (in_append x xs ys there)
  where
    later : IsIn x xs ⊎ IsIn x ys → IsIn x (y ∷ xs) ⊎ IsIn x ys
    later (inl front) = inl (inr front)
    later (inr back) = inr back

in_flat_map : {X Y : Type 0} (f : X → List Y) (xs : List X) (y : Y) → IsIn y (flat_map f xs) → (x : X) × IsIn x xs × IsIn y (f x)
in_flat_map f [] y there = absurd there
in_flat_map f (x ∷ xs) y there =
    front_or_later f x xs y (λ behind. in_flat_map f xs y behind) (in_append y (f x) (flat_map f xs) there)
  where
    front_or_later : {X Y : Type 0} (f : X → List Y) (x : X) (xs : List X) (y : Y) → (IsIn y (flat_map f xs) → (of : X) × IsIn of xs × IsIn y (f of))
        → IsIn y (f x) ⊎ IsIn y (flat_map f xs) → (of : X) × IsIn of (x ∷ xs) × IsIn y (f of)
    front_or_later f x xs y further (inl front) = (x, inl refl, front)
    front_or_later f x xs y further (inr back) = let (of, there_in, is) = further back in (of, inr there_in, is)

in_map_behind : (steps path : List Step) (paths : List (List Step)) → IsIn path (map (λ behind. steps ++ behind) paths)
    → (behind : List Step) × IsIn behind paths × (path ≡ steps ++ behind)
in_map_behind steps path [] there = absurd there
in_map_behind steps path (first ∷ paths) (inl is) = (first, inl refl, is)
in_map_behind steps path (first ∷ paths) (inr there) = let (behind, within, is) = in_map_behind steps path paths there in (behind, inr within, is)

in_each_behind : (steps path : List Step) (paths : List (List Step)) → IsIn path (each_behind steps paths)
    → (path ≡ steps) ⊎ ((behind : List Step) × IsIn behind paths × (path ≡ steps ++ behind))
in_each_behind steps path [] (inl is) = inl is
in_each_behind steps path [] (inr there) = absurd there
in_each_behind steps path (first ∷ paths) there = inr (in_map_behind steps path (first ∷ paths) there)

last_first-append : (steps behind path : List Step) → last_first (steps ++ behind) path ≡ last_first behind (last_first steps path)
last_first-append [] behind path = refl
last_first-append (step ∷ steps) behind path = last_first-append steps behind (step ∷ path)

-- Walks

module _ (brace : ℕ) (body : ControlNode) where
  abbrev Goes : List Step → State → List Step → Type 0
  Goes path state rest = Walk (steps_in brace) next_states (enter body []) path state rest

  pass_all : (steps path : List Step) (state : State) → Goes path state steps → Goes (last_first steps path) state []
  pass_all [] path state walk = walk
  pass_all (step ∷ steps) path state walk = pass_all steps (step ∷ path) state (passes walk)

  here : (state : State) (path steps : List Step) → Goes path state (steps_in brace state) → steps ≡ steps_in brace state → IsControlPath brace body (last_first steps path)
  here state path steps walk is =
      subst (λ now. IsControlPath brace body (last_first now path)) (sym is) (state, [], pass_all (steps_in brace state) path state walk)

  -- what is listed of the states behind one is listed behind its steps
  behind_state : (turns_left : ℕ) (state : State) (path steps : List Step) → Goes path state (steps_in brace state)
      → ((other : State) (front behind : List Step) → Goes front other (steps_in brace other) → IsIn behind (paths_from brace turns_left other)
      → IsControlPath brace body (last_first behind front))
      → (steps ≡ steps_in brace state) ⊎ ((behind : List Step) × IsIn behind (flat_map (paths_from brace turns_left) (next_states state)) × (steps ≡ steps_in brace state ++ behind))
      → IsControlPath brace body (last_first steps path)
  behind_state turns_left state path steps walk further (inl is) = here state path steps walk is
  behind_state turns_left state path steps walk further (inr (behind, within, is)) =
      let (other, next_to, of_other) = in_flat_map (paths_from brace turns_left) (next_states state) behind within in
      subst (λ now. IsControlPath brace body (last_first now path)) (sym is)
      (subst (λ now. IsControlPath brace body now) (sym (last_first-append (steps_in brace state) behind path))
      (further other (last_first (steps_in brace state) path) behind (turns (pass_all (steps_in brace state) path state walk) next_to refl) of_other))

  from_state : (turns_left : ℕ) (state : State) (path steps : List Step) → Goes path state (steps_in brace state) → IsIn steps (paths_from brace turns_left state)
      → IsControlPath brace body (last_first steps path)
  from_state zero state path steps walk (inl is) = here state path steps walk is
  from_state zero state path steps walk (inr there) = absurd there
  from_state (suc turns_left) state path steps walk there =
      behind_state turns_left state path steps walk (λ other front behind goes within. from_state turns_left other front behind goes within)
      (in_each_behind (steps_in brace state) steps (flat_map (paths_from brace turns_left) (next_states state)) there)

  pub listed_is_path : (turns_left : ℕ) (steps : List Step) → IsIn steps (paths_from brace turns_left (enter body [])) → IsControlPath brace body (last_first steps [])
  listed_is_path turns_left steps there = from_state turns_left (enter body []) [] steps (begins refl) there
