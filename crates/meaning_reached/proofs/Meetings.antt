-- Which steps walks meet, and with which counts, by the counts with which they come to places.
use Rattle.std.proofs.Common.{◌≡◌, ◌⊎◌, inl, inr, ℕ, ◌<◌, ℤ, pos, ◌+ℤ◌, List, [], ◌∷◌, length, refl, sym, ap, subst, ◌∙◌, arith}
use Rattle.std.proofs.lemmas.Int.{ints}
use Rattle.meaning_paths.specs.Steps.{Step, change, count}
use Rattle.meaning_paths.specs.Walks.{IsIn, Walk, begins, passes, turns, IsPath}
use Rattle.meaning_paths.specs.ContextRules.{Comes}
use Rattle.meaning_paths.proofs.WalkLemmas.{walk-before}
use Rattle.meaning_reached.proofs.Numbers.{place_at, AreNumbers, numbers_behind, first_number}
use Rattle.meaning_reached.proofs.Reaching.{Arrives, begins_there, goes_on, Counts, IsSettled, all_settled}

-- whoever comes to these steps with a count meets this one, and comes to it with that count
abbrev pub Meets : (key : ℕ) → ℤ → List Step → Step → ℤ → Type 0
Meets key comes [] step there = ⊥
Meets key comes (first ∷ steps) step there = ((first ≡ step) × (comes ≡ there)) ⊎ Meets key (comes +ℤ change key first) steps step there

-- what steps add
abbrev pub total : (key : ℕ) → List Step → ℤ
total key [] = pos 0
total key (step ∷ steps) = change key step +ℤ total key steps

module _ {S : Type 0} (steps : S → List Step) (next : S → List S) (start : S) (all : List S) (begun : IsIn start all)
    (closed : (place : S) → IsIn place all → (other : S) → IsIn other (next place) → IsIn other all) (key : ℕ) (begin : ℤ)
  where
    abbrev pub Goes : List Step → S → List Step → Type 0
    Goes path place rest = Walk steps next start path place rest

    abbrev counted : List Step → ℤ
    counted path = count key begin path

    abbrev pub Met : Step → ℤ → Type 0
    Met step comes = Comes (IsPath steps next start) key begin step comes

    -- By numbers

    abbrev pub at : ℕ → S
    at number = place_at all start number

    abbrev pub behind : ℕ → List ℕ
    behind number = (numbers_behind all start begun next closed number).0

    pub are_behind : (number : ℕ) → AreNumbers all start (next (at number)) (behind number)
    are_behind number = (numbers_behind all start begun next closed number).1

    abbrev pub adds : ℕ → ℤ
    adds number = total key (steps (at number))

    abbrev pub first : ℕ
    first = (first_number all start begun next closed).0

    abbrev pub Reached : ℕ → ℤ → Type 0
    Reached number comes = Arrives behind adds first begin number comes

    -- of the place with this number all counts are known with which it is reached
    abbrev pub Settled : ℕ → Counts → Type 0
    Settled number known = IsSettled (length all) behind adds first begin number known

    pub settled : (number : ℕ) → (known : Counts) × Settled number known
    settled number =
        all_settled (length all) behind adds first begin (λ from place among there. (are_behind from).below place there)
        (first_number all start begun next closed).1 number

    -- From counts of places to walks

    pass_all : (rest path : List Step) (place : S) → Goes path place rest → (longer : List Step) × Goes longer place [] × (counted longer ≡ (counted path +ℤ total key rest))
    pass_all [] path place walk = (path, walk, omega (arith, ints))
    pass_all (step ∷ rest) path place walk =
        let (longer, further, is) = pass_all rest (step ∷ path) place (passes walk) in
        (longer, further, omega (arith, ints, is))

    pub reached_so : (number : ℕ) (comes : ℤ) → Reached number comes → (path : List Step) × Goes path (at number) (steps (at number)) × (counted path ≡ comes)
    reached_so number comes (begins_there same) =
        ([], subst (λ now. Goes [] now (steps now)) (sym (first_number all start begun next closed).2) (begins refl), sym same)
    reached_so number comes (goes_on {from = from} {before = before} reached there same) =
        let (path, walk, is) = reached_so from before reached in
        let (longer, further, added) = pass_all (steps (at from)) path (at from) walk in
        (longer, turns further ((are_behind from).stand number there) refl, omega (arith, ints, is, added, same))

    pub met_so : (rest path : List Step) (place : S) (step : Step) (comes : ℤ) → Goes path place rest → Meets key (counted path) rest step comes → Met step comes
    met_so [] path place step comes walk meets = absurd meets
    met_so (other ∷ rest) path place step comes walk (inl (same, is)) = (path, (place, rest, subst (λ now. Goes (now ∷ path) place rest) same (passes walk)), is)
    met_so (other ∷ rest) path place step comes walk (inr further) = met_so rest (other ∷ path) place step comes (passes walk) further

    -- From walks to counts of places

    -- a place with its number that was reached so; what is left of its steps is met by whoever comes to them all
    pub record Within (path : List Step) (place : S) (rest : List Step) : Type 0 where
      pub number : ℕ
      pub below : number < length all
      pub stands : at number ≡ place
      pub came : ℤ
      pub reached : Reached number came
      pub meets : (step : Step) (comes : ℤ) → Meets key (counted path) rest step comes → Meets key came (steps (at number)) step comes
      pub left : (counted path +ℤ total key rest) ≡ (came +ℤ adds number)

    here : (number : ℕ) (path : List Step) (place : S) (rest : List Step) → number < length all → at number ≡ place → Reached number (counted path) → rest ≡ steps place → Within path place rest
    here number path place rest below stands reached is =
        let own : rest ≡ steps (at number) = is ∙ ap steps (sym stands) in
        record {
          number = number;
          below = below;
          stands = stands;
          came = counted path;
          reached = reached;
          meets = λ step comes meets. subst (λ now. Meets key (counted path) now step comes) own meets;
          left = ap (λ now. counted path +ℤ total key now) own;
        }

    within : (path : List Step) (place : S) (rest : List Step) → Goes path place rest → Within path place rest
    within path place rest (begins is) = here first [] place rest (first_number all start begun next closed).1 (first_number all start begun next closed).2 (begins_there refl) is
    within path place rest (passes {path = front} {step = step} walk) =
        let earlier = within front place (step ∷ rest) walk in
        record {
          number = earlier.number;
          below = earlier.below;
          stands = earlier.stands;
          came = earlier.came;
          reached = earlier.reached;
          meets = λ other comes meets. earlier.meets other comes (inr meets);
          left = omega (arith, ints, earlier.left);
        }
    within path place rest (turns {place = from} walk there is) =
        let earlier = within path from [] walk in
        let (number, among, stands) = (are_behind earlier.number).each place (subst (λ now. IsIn place (next now)) (sym earlier.stands) there) in
        here number path place rest ((are_behind earlier.number).below number among) stands (goes_on earlier.reached among (omega (arith, ints, earlier.left))) is

    pub met_there : (step : Step) (comes : ℤ) → Met step comes
        → (number : ℕ) × (number < length all) × (came : ℤ) × Reached number came × Meets key came (steps (at number)) step comes
    met_there step comes (path, (place, rest, walk), is) =
        let (before, more, earlier) = walk-before steps next start step path (step ∷ path) place rest refl walk in
        let stood = within path before (step ∷ more) earlier in
        (stood.number, stood.below, stood.came, stood.reached, stood.meets step comes (inl (refl, is)))
