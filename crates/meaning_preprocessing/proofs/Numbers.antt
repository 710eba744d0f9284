-- The numbers of paths.
use Rattle.std.proofs.Common.{◌≡◌, ℕ, zero, suc, ◌+◌, ◌<◌, true, false, List, [], ◌∷◌, length, slice_get, Option, Some, unwrap_or, if◌then◌else◌, bytes_eq, refl, ap, ◌∙◌, arith}
use Rattle.std.proofs.lemmas.Slice.Eq.{bytes_eq-Decides}
use Rattle.meaning_preprocessing.specs.State.{path_of, paths_with, number_from}
use Rattle.meaning_preprocessing.specs.laws.Units.{NumbersTellPaths, NumbersStay}

number_from-suc : (number : ℕ) (paths : List (List ℕ)) (path : List ℕ) → number_from (suc number) paths path ≡ suc (number_from number paths path)
number_from-suc number [] path = refl
number_from-suc number (known ∷ paths) path =
    elim (bytes_eq known path) as (λ v.
    (if v then suc number else number_from (suc number + 1) paths path) ≡ suc (if v then number else number_from (number + 1) paths path)) [
      | true ↦ refl
      | false ↦
          let next : suc number + 1 ≡ suc (number + 1) = omega arith in
          ap (λ n. number_from n paths path) next ∙ number_from-suc (number + 1) paths path
    ]

at_number : (paths : List (List ℕ)) (path : List ℕ) → slice_get (paths_with path paths) (number_from 0 paths path) ≡ Some path
at_number [] path = refl
at_number (known ∷ paths) path =
    elim (bytes_eq known path) as (λ v. bytes_eq known path ≡ v
    → slice_get (if v then known ∷ paths else known ∷ paths_with path paths) (if v then 0 else number_from 1 paths path) ≡ Some path) [
      | true ↦ λ e. ap Some ((bytes_eq-Decides known path).0 e)
      | false ↦ λ e. ap (slice_get (known ∷ paths_with path paths)) (number_from-suc 0 paths path) ∙ at_number paths path
    ] refl

pub numbers_tell_paths : NumbersTellPaths
numbers_tell_paths paths path =
    ap (path_of (paths_with path paths)) (number_from-suc 0 paths path) ∙ ap (λ (found : Option (List ℕ)). unwrap_or found []) (at_number paths path)

stays_at : (paths : List (List ℕ)) (path : List ℕ) (k : ℕ) → k < length paths → slice_get (paths_with path paths) k ≡ slice_get paths k
stays_at [] path k h = absurd (omega (arith, h))
stays_at (known ∷ paths) path zero h =
    elim (bytes_eq known path) as (λ v. slice_get (if v then known ∷ paths else known ∷ paths_with path paths) zero ≡ Some known) [
      | true ↦ refl
      | false ↦ refl
    ]
stays_at (known ∷ paths) path (suc k) h =
    elim (bytes_eq known path) as (λ v. slice_get (if v then known ∷ paths else known ∷ paths_with path paths) (suc k) ≡ slice_get paths k) [
      | true ↦ refl
      | false ↦ stays_at paths path k (omega (arith, h))
    ]

pub numbers_stay : NumbersStay
numbers_stay paths path zero h = refl
numbers_stay paths path (suc k) h = ap (λ (found : Option (List ℕ)). unwrap_or found []) (stays_at paths path k (omega (arith, h)))
