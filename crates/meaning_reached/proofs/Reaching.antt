-- With which counts places are reached: never, with one, or with several. Places are numbers here.
use Rattle.std.proofs.Common.{◌≡◌, ◌≢◌, ◌⊎◌, inl, inr, ℕ, zero, suc, ◌+◌, ◌<◌, ◌≤◌, ℤ, ◌+ℤ◌, Bool, true, false, nat_eq, List, [], ◌∷◌, refl, sym, subst, arith, if◌then◌else◌}
use Rattle.std.proofs.lemmas.Bool.{cases_lt}
use Rattle.std.proofs.lemmas.Bool.Decides.{eqb_tells}
use Rattle.std.proofs.lemmas.Int.{ints}
use Rattle.meaning_paths.specs.Walks.{IsIn}
use Rattle.meaning_paths.proofs.RuleLemmas.{equal_or_apart}

-- Lists

-- each element is so, or one is otherwise
each_or_one : {X : Type 0} (So Otherwise : X → Type 0) (xs : List X) → ((x : X) → IsIn x xs → So x ⊎ Otherwise x)
    → ((x : X) → IsIn x xs → So x) ⊎ ((x : X) × IsIn x xs × Otherwise x)
each_or_one So Otherwise [] which = inl (λ x there. absurd there)
each_or_one So Otherwise (first ∷ xs) which =
    elim (which first (inl refl)) [
      | inr one ↦ inr (first, inl refl, one)
      | inl so ↦
          elim (each_or_one So Otherwise xs (λ x there. which x (inr there))) [
            | inr one ↦ inr (one.0, inr one.1, one.2)
            | inl each ↦ inl (λ x there. elim there [ inl is ↦ subst So (sym is) so | inr further ↦ each x further ])
          ]
    ]

-- the numbers below one
abbrev pub numbers_below : ℕ → List ℕ
numbers_below zero = []
numbers_below (suc number) = number ∷ numbers_below number

pub below_in : (bound number : ℕ) → number < bound → IsIn number (numbers_below bound)
below_in zero number below = absurd (omega arith)
below_in (suc bound) number below =
    elim (cases_lt number bound) [ inl under ↦ inr (below_in bound number under) | inr over ↦ inl (omega (arith, below, over)) ]

-- Counts

-- what is known of the counts with which a place is reached
pub data Counts : Type 0 where
  Never : Counts
  One : (count : ℤ) → Counts
  Several : Counts

-- the count is among them
abbrev pub Covers : Counts → ℤ → Type 0
Covers Never count = ⊥
Covers (One known) count = count ≡ known
Covers Several count = Unit {0}

-- how often more can become known
abbrev room_of : Counts → ℕ
room_of Never = 2
room_of (One count) = 1
room_of Several = 0

-- A place is reached with a count: the first one with that at the start, and those behind one with what this one adds.
pub data Arrives (next : ℕ → List ℕ) (adds : ℕ → ℤ) (first : ℕ) (start : ℤ) : ℕ → ℤ → Type 0 where
  begins_there : {count : ℤ} → count ≡ start → Arrives next adds first start first count
  goes_on : {from place : ℕ} {before count : ℤ} → Arrives next adds first start from before → IsIn place (next from) → count ≡ before +ℤ adds from
      → Arrives next adds first start place count

module _ (places : ℕ) (next : ℕ → List ℕ) (adds : ℕ → ℤ) (first : ℕ) (start : ℤ) where
  abbrev pub Reached : ℕ → ℤ → Type 0
  Reached place count = Arrives next adds first start place count

  -- what is known is shown: one count by one way to come there, several by two
  abbrev pub IsShown : ℕ → Counts → Type 0
  IsShown place Never = Unit {0}
  IsShown place (One count) = Reached place count
  IsShown place Several = (one other : ℤ) × Reached place one × Reached place other × (one ≢ other)

  -- what is known of a place covers all that comes from another
  abbrev IsStable : ℕ → Counts → Counts → Type 0
  IsStable from known behind = (count : ℤ) → Covers known count → Covers behind (count +ℤ adds from)

  -- more can be known of a place
  abbrev Grows : ℕ → Counts → Type 0
  Grows place known = (more : Counts) × (room_of more < room_of known) × IsShown place more × ((count : ℤ) → Covers known count → Covers more count)

  both_reached : (from place : ℕ) → IsIn place (next from) → IsShown from Several → IsShown place Several
  both_reached from place there (one, other, reached, reached_too, apart) =
      (one +ℤ adds from, other +ℤ adds from, goes_on reached there refl, goes_on reached_too there refl, λ same. apart (omega (arith, ints, same)))

  -- what comes from a place is covered, or more is known
  goes_to : (from place : ℕ) → IsIn place (next from) → (known behind : Counts) → IsShown from known → IsShown place behind
      → IsStable from known behind ⊎ Grows place behind
  goes_to from place there Never behind shown shown_there = inl (λ count covers. absurd covers)
  goes_to from place there (One count) Never shown shown_there = inr (One (count +ℤ adds from), omega arith, goes_on shown there refl, λ other covers. absurd covers)
  goes_to from place there (One count) (One known) shown shown_there =
      elim (equal_or_apart (count +ℤ adds from) known) [
        | inl same ↦ inl (λ other is. omega (arith, ints, is, same))
        | inr apart ↦ inr (Several, omega arith, (count +ℤ adds from, known, goes_on shown there refl, shown_there, apart), λ other covers. tt)
      ]
  goes_to from place there (One count) Several shown shown_there = inl (λ other covers. tt)
  goes_to from place there Several Never shown shown_there = inr (Several, omega arith, both_reached from place there shown, λ other covers. absurd covers)
  goes_to from place there Several (One known) shown shown_there = inr (Several, omega arith, both_reached from place there shown, λ other covers. tt)
  goes_to from place there Several Several shown shown_there = inl (λ other covers. tt)

  -- All places

  pub record IsKnown (known : ℕ → Counts) : Type 0 where
    pub shown : (place : ℕ) → IsShown place (known place)
    pub begun : Covers (known first) start

  abbrev AllStable : (ℕ → Counts) → Type 0
  AllStable known = (from : ℕ) → IsIn from (numbers_below places) → (place : ℕ) → IsIn place (next from) → IsStable from (known from) (known place)

  -- this is known of one place in place of what was
  abbrev with : (ℕ → Counts) → (place : ℕ) → Counts → ℕ → Counts
  with known place more other = if nat_eq other place then more else known other

  there_or_elsewhere : (P : ℕ → Counts → Type 0) (known : ℕ → Counts) (place : ℕ) (more : Counts) → P place more → ((other : ℕ) → P other (known other))
      → (other : ℕ) → P other (with known place more other)
  there_or_elsewhere P known place more there elsewhere other = by (nat_eq other place) (eqb_tells other place)
    where
      by : (test : Bool) → ((test ≡ true) × (other ≡ place)) ⊎ ((test ≡ false) × (other ≢ place)) → P other (if test then more else known other)
      by true (inl is) = subst (λ now. P now more) (sym is.1) there
      by true (inr is) = absurd (cc)
      by false (inl is) = absurd (cc)
      by false (inr is) = elsewhere other

  with_there : (known : ℕ → Counts) (place : ℕ) (more : Counts) → with known place more place ≡ more
  with_there known place more = by (nat_eq place place) (eqb_tells place place)
    where
      by : (test : Bool) → ((test ≡ true) × (place ≡ place)) ⊎ ((test ≡ false) × (place ≢ place)) → (if test then more else known place) ≡ more
      by true is = refl
      by false (inl is) = absurd (cc)
      by false (inr is) = absurd (is.1 refl)

  -- the room of all places
  abbrev room : (ℕ → Counts) → ℕ → ℕ
  room known zero = 0
  room known (suc bound) = room_of (known bound) + room known bound

  room_falls : (known more : ℕ → Counts) (place : ℕ) → ((other : ℕ) → room_of (more other) ≤ room_of (known other)) → room_of (more place) < room_of (known place)
      → (bound : ℕ) → (room more bound ≤ room known bound) × (place < bound → room more bound < room known bound)
  room_falls known more place least falls zero = (omega arith, λ below. omega arith)
  room_falls known more place least falls (suc bound) =
      let (under, strictly) = room_falls known more place least falls bound in (
        omega (arith, least bound, under),
        λ below.
            elim (cases_lt place bound) [
              | inl within ↦ omega (arith, least bound, strictly within)
              | inr over ↦
                  let is : place ≡ bound = omega (arith, below, over) in
                  let here : room_of (more bound) < room_of (known bound) = subst (λ now. room_of (more now) < room_of (known now)) is falls in
                  omega (arith, here, under)
            ],
      )

  grown : (known : ℕ → Counts) → IsKnown known → (place : ℕ) (more : Counts) → IsShown place more → ((count : ℤ) → Covers (known place) count → Covers more count)
      → IsKnown (with known place more)
  grown known is place more shown covers =
      record {
        shown = there_or_elsewhere IsShown known place more shown is.shown;
        begun =
            there_or_elsewhere (λ other counts. Covers (known other) start → Covers counts start) known place more (covers start) (λ other is_so. is_so) first
            is.begun;
      }

  less_room : (known : ℕ → Counts) (place : ℕ) (more : Counts) → place < places → room_of more < room_of (known place)
      → room (with known place more) places < room known places
  less_room known place more below falls =
      (room_falls known (with known place more) place
      (there_or_elsewhere (λ other counts. room_of counts ≤ room_of (known other)) known place more (omega (arith, falls)) (λ other. omega arith))
      (subst (λ now. room_of now < room_of (known place)) (sym (with_there known place more)) falls) places).1 below

  -- of each place all its counts are known
  abbrev pub IsSettled : ℕ → Counts → Type 0
  IsSettled place known = IsShown place known × ((count : ℤ) → Reached place count → Covers known count)

  module _ (closed : (from place : ℕ) → IsIn from (numbers_below places) → IsIn place (next from) → place < places) where
    -- from each place to each behind it all is covered, or more is known of one
    all_or_one : (known : ℕ → Counts) → IsKnown known → AllStable known ⊎ ((place : ℕ) × (place < places) × Grows place (known place))
    all_or_one known is =
        elim
        (each_or_one (λ from. (place : ℕ) → IsIn place (next from) → IsStable from (known from) (known place))
        (λ from. (place : ℕ) × (place < places) × Grows place (known place)) (numbers_below places)
        (λ from there.
        elim
        (each_or_one (λ place. IsStable from (known from) (known place)) (λ place. Grows place (known place)) (next from)
        (λ place behind. goes_to from place behind (known from) (known place) (is.shown from) (is.shown place))) [
          | inl each ↦ inl each
          | inr one ↦ inr (one.0, closed from one.0 there one.1, one.2)
        ])) [
          | inl each ↦ inl each
          | inr one ↦ inr one.2
        ]

    -- so long as more is known of one, there is less room
    settles : (fuel : ℕ) (known : ℕ → Counts) → IsKnown known → room known places ≤ fuel → (settled : ℕ → Counts) × IsKnown settled × AllStable settled
    settles zero known is within =
        elim (all_or_one known is) [
          | inl each ↦ (known, is, each)
          | inr (place, below, (more, falls, shown, covers)) ↦ absurd (omega (arith, less_room known place more below falls, within))
        ]
    settles (suc fuel) known is within =
        elim (all_or_one known is) [
          | inl each ↦ (known, is, each)
          | inr (place, below, (more, falls, shown, covers)) ↦
              settles fuel (with known place more) (grown known is place more shown covers) (omega (arith, less_room known place more below falls, within))
        ]

    -- at the start only the first place is reached
    abbrev at_start : ℕ → Counts
    at_start = with (λ place. Never) first (One start)

    start_known : IsKnown at_start
    start_known =
        record {
          shown = there_or_elsewhere IsShown (λ place. Never) first (One start) (begins_there refl) (λ place. tt);
          begun = subst (λ now. Covers now start) (sym (with_there (λ place. Never) first (One start))) refl;
        }

    covered : (settled : ℕ → Counts) → IsKnown settled → AllStable settled → first < places → (place : ℕ) (count : ℤ) → Reached place count
        → (place < places) × Covers (settled place) count
    covered settled is stable below place count (begins_there same) = (below, subst (λ now. Covers (settled first) now) (sym same) is.begun)
    covered settled is stable below place count (goes_on {from = from} {before = before} reached there same) =
        let (under, covers) = covered settled is stable below from before reached in
        let among = below_in places from under in
        (closed from place among there, subst (λ now. Covers (settled place) now) (sym same) (stable from among place there before covers))

    pub all_settled : first < places → (place : ℕ) → (known : Counts) × IsSettled place known
    all_settled below place =
        let (settled, is, stable) = settles (room at_start places) at_start start_known (omega arith) in
        (settled place, (is.shown place, λ count reached. (covered settled is stable below place count reached).1))
