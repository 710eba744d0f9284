-- Numbers of paths, which stay where other paths get one.
use Rattle.std.proofs.Common.{◌≡◌, ◌≢◌, ℕ, ◌+◌, Bool, true, false, List, [], ◌∷◌, ◌++◌, length, drop, All, if◌then◌else◌, refl, sym, ap, ◌∙◌, arith}
use Rattle.std.specs.Str.{bytes_eq}
use Rattle.std.proofs.lemmas.List.Elements.{All-head, All-push, All-tail, All-cons}
use Rattle.std.proofs.lemmas.Slice.Eq.{bytes_eq-Decides}
use Rattle.meaning_preprocessing.specs.State.{number_from, paths_with}

-- the first of two choices is made where the texts are the same, and else the second
chosen : {X : Type 0} (known path : List ℕ) (first second : X) → bytes_eq known path ≡ true → (if bytes_eq known path then first else second) ≡ first
chosen known path first second is = ap (λ b. if b then first else second) is

passed : {X : Type 0} (known path : List ℕ) (first second : X) → bytes_eq known path ≡ false → (if bytes_eq known path then first else second) ≡ second
passed known path first second is = ap (λ b. if b then first else second) is

same-tail : (known : List ℕ) (paths others : List (List ℕ)) → ◌≡◌ {A = List (List ℕ)} (known ∷ paths) (known ∷ others) → paths ≡ others
same-tail known paths others is = ap (drop 1) is

differs : (path other : List ℕ) → other ≢ path → bytes_eq other path ≡ false
differs path other apart = by (bytes_eq other path) refl
  where
    by : (here : Bool) → bytes_eq other path ≡ here → here ≡ false
    by true here = absurd (apart ((bytes_eq-Decides other path).0 here))
    by false here = refl

-- a path that has a number keeps it, and needs no other
module _ (path other : List ℕ) where
  pub with-with : (paths : List (List ℕ)) → paths_with path paths ≡ paths → paths_with path (paths_with other paths) ≡ paths_with other paths
  with-with [] is = absurd (omega (arith, ap length is))
  with-with (known ∷ paths) is = by (λ rest. with-with paths rest) (bytes_eq known path) (bytes_eq known other) refl refl
    where
      by : (paths_with path paths ≡ paths → paths_with path (paths_with other paths) ≡ paths_with other paths) → (here there : Bool) → bytes_eq known path ≡ here → bytes_eq known other ≡ there
          → paths_with path (if there then known ∷ paths else known ∷ paths_with other paths) ≡ (if there then known ∷ paths else known ∷ paths_with other paths)
      by later true true here there = chosen known path (known ∷ paths) (known ∷ paths_with path paths) here
      by later true false here there = chosen known path (known ∷ paths_with other paths) (known ∷ paths_with path (paths_with other paths)) here
      by later false true here there = is
      by later false false here there =
          passed known path (known ∷ paths_with other paths) (known ∷ paths_with path (paths_with other paths)) here
          ∙ ap (λ (ps : List (List ℕ)). known ∷ ps)
          (later (same-tail known (paths_with path paths) paths (sym (passed known path (known ∷ paths) (known ∷ paths_with path paths) here) ∙ is)))

  pub number-with : (number : ℕ) (paths : List (List ℕ)) → paths_with path paths ≡ paths → number_from number (paths_with other paths) path ≡ number_from number paths path
  number-with number [] is = absurd (omega (arith, ap length is))
  number-with number (known ∷ paths) is = by (λ rest. number-with (number + 1) paths rest) (bytes_eq known path) (bytes_eq known other) refl refl
    where
      by : (paths_with path paths ≡ paths → number_from (number + 1) (paths_with other paths) path ≡ number_from (number + 1) paths path) → (here there : Bool) → bytes_eq known path ≡ here → bytes_eq known other ≡ there
          → number_from number (if there then known ∷ paths else known ∷ paths_with other paths) path ≡ number_from number (known ∷ paths) path
      by later here true is_here there = refl
      by later true false here there =
          chosen known path number (number_from (number + 1) (paths_with other paths) path) here ∙ sym (chosen known path number (number_from (number + 1) paths path) here)
      by later false false here there =
          passed known path number (number_from (number + 1) (paths_with other paths) path) here
          ∙ later (same-tail known (paths_with path paths) paths (sym (passed known path (known ∷ paths) (known ∷ paths_with path paths) here) ∙ is))
          ∙ sym (passed known path number (number_from (number + 1) paths path) here)

-- a path that gets a number has it then
module _ (path : List ℕ) where
  pub with-self : (paths : List (List ℕ)) → paths_with path (paths_with path paths) ≡ paths_with path paths
  with-self [] = chosen path path (path ∷ []) (path ∷ paths_with path []) ((bytes_eq-Decides path path).1 refl)
  with-self (known ∷ paths) = by (with-self paths) (bytes_eq known path) refl
    where
      by : paths_with path (paths_with path paths) ≡ paths_with path paths → (here : Bool) → bytes_eq known path ≡ here → paths_with path (if here then known ∷ paths else known ∷ paths_with path paths) ≡ (if here then known ∷ paths else known ∷ paths_with path paths)
      by later true here = chosen known path (known ∷ paths) (known ∷ paths_with path paths) here
      by later false here =
          passed known path (known ∷ paths_with path paths) (known ∷ paths_with path (paths_with path paths)) here ∙ ap (λ (ps : List (List ℕ)). known ∷ ps) later

  pub number-self : (number : ℕ) (paths : List (List ℕ)) → number_from number (paths_with path paths) path ≡ number_from number paths path
  number-self number [] = chosen path path number (number_from (number + 1) [] path) ((bytes_eq-Decides path path).1 refl)
  number-self number (known ∷ paths) = by (number-self (number + 1) paths) (bytes_eq known path) refl
    where
      by : number_from (number + 1) (paths_with path paths) path ≡ number_from (number + 1) paths path → (here : Bool) → bytes_eq known path ≡ here → number_from number (if here then known ∷ paths else known ∷ paths_with path paths) path ≡ number_from number (known ∷ paths) path
      by later true here = refl
      by later false here =
          passed known path number (number_from (number + 1) (paths_with path paths) path) here ∙ later
          ∙ sym (passed known path number (number_from (number + 1) paths path) here)

  -- one that is none of these comes last
  pub with-new : (paths : List (List ℕ)) → All (λ (other : List ℕ). other ≢ path) paths → paths_with path paths ≡ paths ++ path ∷ []
  with-new [] none = refl
  with-new (known ∷ paths) none =
      passed known path (known ∷ paths) (known ∷ paths_with path paths) (differs path known (All-head (λ (other : List ℕ). other ≢ path) known paths none))
      ∙ ap (λ (ps : List (List ℕ)). known ∷ ps) (with-new paths (All-tail (λ (other : List ℕ). other ≢ path) known paths none))

  pub number-new : (number : ℕ) (paths : List (List ℕ)) → All (λ (other : List ℕ). other ≢ path) paths → number_from number paths path ≡ length paths + number
  number-new number [] none = omega arith
  number-new number (known ∷ paths) none =
      passed known path number (number_from (number + 1) paths path) (differs path known (All-head (λ (other : List ℕ). other ≢ path) known paths none))
      ∙ number-new (number + 1) paths (All-tail (λ (other : List ℕ). other ≢ path) known paths none) ∙ omega arith

  -- what holds of all paths but the first, and of this one
  pub all-with : (P : List ℕ → Type 0) (paths : List (List ℕ)) → All P paths → P path → All P (paths_with path paths)
  all-with P [] all here = All-push P [] path all here
  all-with P (known ∷ paths) all here = by (all-with P paths (All-tail P known paths all) here) (bytes_eq known path)
    where
      by : All P (paths_with path paths) → (found : Bool) → All P (if found then known ∷ paths else known ∷ paths_with path paths)
      by later true = all
      by later false = All-cons P known (paths_with path paths) (All-head P known paths all) later

  pub rest-with : (P : List ℕ → Type 0) (paths : List (List ℕ)) → All P (drop 1 paths) → P path → All P (drop 1 (paths_with path paths))
  rest-with P [] all here = all
  rest-with P (known ∷ paths) all here = by (bytes_eq known path)
    where
      by : (found : Bool) → All P (drop 1 (if found then known ∷ paths else known ∷ paths_with path paths))
      by true = all
      by false = all-with P paths all here
