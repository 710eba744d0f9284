-- The steps that walks meet, each with the counts with which they come to it: finitely many.
use Rattle.std.proofs.Common.{◌≡◌, ◌≢◌, inl, inr, ℕ, zero, suc, ◌<◌, ℤ, ◌+ℤ◌, List, [], ◌∷◌, ◌++◌, length, refl, sym, subst, ◌∙◌, arith}
use Rattle.std.proofs.lemmas.Bool.{cases_lt}
use Rattle.std.proofs.lemmas.Int.{ints}
use Rattle.meaning_paths.specs.Steps.{Step, Point, Add, Call, End, change, count}
use Rattle.meaning_paths.specs.Walks.{IsIn, Walk, passes, IsPath}
use Rattle.meaning_paths.specs.Graphs.{BeginsWithPoint}
use Rattle.meaning_paths.specs.ContextRules.{Comes, Differ}
use Rattle.meaning_reached.proofs.Reaching.{Counts, Never, One, Several}
use Rattle.meaning_reached.proofs.Numbers.{place_in}
use Rattle.meaning_reached.proofs.Meetings as meetings
use Rattle.meaning_reached.proofs.Meetings.{Meets}

-- An entry: a step, and the one count with which paths come to it; or two of several, and a point at which counts differ.
pub data Entry (IsPath : List Step → Type 0) (key : ℕ) (begin : ℤ) : Type 0 where
  Once : (step : Step) (comes : ℤ) → Comes IsPath key begin step comes → Entry IsPath key begin
  Often : (step : Step) (one other : ℤ) → Comes IsPath key begin step one → Comes IsPath key begin step other → one ≢ other → (token : ℕ) → Differ IsPath key begin token
      → Entry IsPath key begin

-- it is of a step, and covers a count with which paths come there
abbrev pub Tells : {IsPath : List Step → Type 0} {key : ℕ} {begin : ℤ} → Entry IsPath key begin → Step → ℤ → Type 0
Tells (Once step comes arrives) other there = (step ≡ other) × (comes ≡ there)
Tells (Often step one two arrives arrives_too apart token differs) other there = step ≡ other

-- Lists

pub in_front : {X : Type 0} (x : X) (xs ys : List X) → IsIn x xs → IsIn x (xs ++ ys)
in_front x [] ys there = absurd there
in_front x (y ∷ xs) ys (inl is) = inl is
in_front x (y ∷ xs) ys (inr there) = inr (in_front x xs ys there)

pub in_back : {X : Type 0} (x : X) (xs ys : List X) → IsIn x ys → IsIn x (xs ++ ys)
in_back x [] ys there = there
in_back x (y ∷ xs) ys there = inr (in_back x xs ys there)

module _ {S : Type 0} (steps : S → List Step) (next : S → List S) (start : S) (all : List S) (begun : IsIn start all)
    (closed : (place : S) → IsIn place all → (other : S) → IsIn other (next place) → IsIn other all) (key : ℕ) (begin : ℤ)
    (with_points : (place : S) → IsIn place all → BeginsWithPoint (steps place))
  where
    abbrev Goes : List Step → S → List Step → Type 0
    Goes path place rest = Walk steps next start path place rest

    abbrev counted : List Step → ℤ
    counted path = count key begin path

    abbrev pub OneEntry : Type 0
    OneEntry = Entry (IsPath steps next start) key begin

    -- entries that tell of each step that is met so
    abbrev pub Entries : (Step → ℤ → Type 0) → Type 0
    Entries Met = (entries : List OneEntry) × ((step : Step) (comes : ℤ) → Met step comes → (entry : OneEntry) × IsIn entry entries × Tells entry step comes)

    abbrev at : ℕ → S
    at number = meetings.at steps next start all begun closed key begin number

    abbrev Reached : ℕ → ℤ → Type 0
    Reached number came = meetings.Reached steps next start all begun closed key begin number came

    -- Of one place

    met_once : (rest path : List Step) (place : S) → Goes path place rest → Entries (Meets key (counted path) rest)
    met_once [] path place walk = ([], λ step comes meets. absurd meets)
    met_once (step ∷ rest) path place walk =
        let (entries, tell) = met_once rest (step ∷ path) place (passes walk) in
        let entry : OneEntry = Once step (counted path) (path, (place, rest, passes walk), refl) in (
          entry ∷ entries,
          λ other comes meets.
              elim meets [
                | inl is ↦ (entry, inl refl, is)
                | inr further ↦ (let (found, among, tells) = tell other comes further in (found, inr among, tells))
              ],
        )

    met_often : (rest path other : List Step) (place : S) → Goes path place rest → Goes other place rest → counted path ≢ counted other
        → (token : ℕ) → Differ (IsPath steps next start) key begin token → Entries (λ step comes. (came : ℤ) × Meets key came rest step comes)
    met_often [] path other place walk another apart token differs = ([], λ step comes met. absurd met.1)
    met_often (step ∷ rest) path other place walk another apart token differs =
        let (entries, tell) =
        met_often rest (step ∷ path) (step ∷ other) place (passes walk) (passes another) (λ same. apart (omega (arith, ints, same))) token differs
        in
        let entry : OneEntry =
        Often step (counted path) (counted other) (path, (place, rest, passes walk), refl) (other, (place, rest, passes another), refl) apart token differs
        in (
          entry ∷ entries,
          λ third comes met.
              elim met.1 [
                | inl is ↦ (entry, inl refl, is.0)
                | inr further ↦ (let (found, among, tells) = tell third comes (met.0 +ℤ change key step, further) in (found, inr among, tells))
              ],
        )

    -- steps that begin with a point are met with several counts only where this point is
    from_point : (rest path other : List Step) (place : S) → BeginsWithPoint rest → Goes path place rest → Goes other place rest → counted path ≢ counted other
        → Entries (λ step comes. (came : ℤ) × Meets key came rest step comes)
    from_point [] path other place begins walk another apart = ([], λ step comes met. absurd met.1)
    from_point (Point token moment ∷ rest) path other place begins walk another apart =
        met_often (Point token moment ∷ rest) path other place walk another apart token
        (moment, counted path, counted other, (path, (place, rest, passes walk), refl), (other, (place, rest, passes another), refl), apart)
    from_point (Add token other_key by ∷ rest) path other place begins walk another apart = absurd begins
    from_point (Call token other_key enters leaves ∷ rest) path other place begins walk another apart = absurd begins
    from_point (End token ∷ rest) path other place begins walk another apart = absurd begins

    -- the step is met at the place with this number
    abbrev MeetsAt : ℕ → Step → ℤ → Type 0
    MeetsAt number step comes = (came : ℤ) × Reached number came × Meets key came (steps (at number)) step comes

    at_place : (number : ℕ) (known : Counts) → meetings.Settled steps next start all begun closed key begin number known → Entries (MeetsAt number)
    at_place number Never settled = ([], λ step comes met. absurd (settled.1 met.0 met.1))
    at_place number (One came) settled =
        let (path, walk, is) = meetings.reached_so steps next start all begun closed key begin number came settled.0 in
        let (entries, tell) = met_once (steps (at number)) path (at number) walk in (
          entries,
          λ step comes met.
              tell step comes (subst (λ now. Meets key now (steps (at number)) step comes) (settled.1 met.0 met.1 ∙ sym is) met.2),
        )
    at_place number Several ((one, other, reached, reached_too, apart), covers) =
        let (path, walk, is) = meetings.reached_so steps next start all begun closed key begin number one reached in
        let (longer, another, is_too) = meetings.reached_so steps next start all begun closed key begin number other reached_too in
        let (entries, tell) =
        from_point (steps (at number)) path longer (at number) (with_points (at number) (place_in all start begun next closed number)) walk another
        (λ same. apart (sym is ∙ same ∙ is_too))
        in
        (entries, λ step comes met. tell step comes (met.0, met.2))

    -- Of all places

    abbrev MeetsBelow : ℕ → Step → ℤ → Type 0
    MeetsBelow bound step comes = (number : ℕ) × (number < bound) × MeetsAt number step comes

    below : (bound : ℕ) → Entries (MeetsBelow bound)
    below zero = ([], λ step comes met. absurd (omega (arith, met.1)))
    below (suc bound) =
        let (known, settled) = meetings.settled steps next start all begun closed key begin bound in
        let (entries, tell) = at_place bound known settled in
        let (others, tell_others) = below bound in (
          entries ++ others,
          λ step comes met.
              elim (cases_lt met.0 bound) [
                | inl under ↦ (let (entry, among, tells) = tell_others step comes (met.0, under, met.2) in (entry, in_back entry entries others among, tells))
                | inr over ↦
                    (let is : met.0 ≡ bound = omega (arith, over, met.1) in
                    let (entry, among, tells) = tell step comes (subst (λ now. MeetsAt now step comes) is met.2) in (entry, in_front entry entries others among, tells))
              ],
        )

    pub all_entries : Entries (Comes (IsPath steps next start) key begin)
    all_entries =
        let (entries, tell) = below (length all) in (
          entries,
          λ step comes met.
              (let (number, under, came, reached, meets) = meetings.met_there steps next start all begun closed key begin step comes met in
              tell step comes (number, under, (came, reached, meets))),
        )
