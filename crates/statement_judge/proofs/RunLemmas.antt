-- The first node that stands in each node, where nodes tell it one by one.
use Rattle.std.proofs.Common.{◌≡◌, ℕ, zero, suc, ◌+◌, ◌-◌, ◌<◌, ◌≤◌, ◌⊎◌, inl, inr, Bool, true, false, ◌&&◌, nat_lt, List, [], ◌∷◌, ◌++◌, length, get_or, refl, sym, ap, subst, ◌∙◌, arith, length-set, length-append, if◌then◌else◌}
use Rattle.std.specs.Prelude.{slice_set}
use Rattle.std.proofs.lemmas.Bool.Decides.{nat_tests}
use Rattle.meaning_typing.specs.Surroundings.{Surrounding, surrounding_at}
use Rattle.statement_judge.specs.Runs.{AreAlone, AreFirsts, StandsIn, itself, in_part, first_at, first_told}

-- Elements of lists of handles

at-set_same : (xs : List ℕ) (place x d : ℕ) → place < length xs → get_or (slice_set xs place x) place d ≡ x
at-set_same [] place x d within = absurd (omega (arith, within))
at-set_same (first ∷ xs) zero x d within = refl
at-set_same (first ∷ xs) (suc place) x d within = at-set_same xs place x d (omega (arith, within))

at-set_other : (xs : List ℕ) (place other x d : ℕ) → (place ≡ other → ⊥) → get_or (slice_set xs place x) other d ≡ get_or xs other d
at-set_other [] place other x d apart = refl
at-set_other (first ∷ xs) zero zero x d apart = absurd (apart refl)
at-set_other (first ∷ xs) zero (suc other) x d apart = refl
at-set_other (first ∷ xs) (suc place) zero x d apart = refl
at-set_other (first ∷ xs) (suc place) (suc other) x d apart = at-set_other xs place other x d (λ same. apart (ap suc same))

at-front : (xs ys : List ℕ) (place d : ℕ) → place < length xs → get_or (xs ++ ys) place d ≡ get_or xs place d
at-front [] ys place d within = absurd (omega (arith, within))
at-front (x ∷ xs) ys zero d within = refl
at-front (x ∷ xs) ys (suc place) d within = at-front xs ys place d (omega (arith, within))

at-end : (xs : List ℕ) (x d : ℕ) → get_or (xs ++ x ∷ []) (length xs) d ≡ x
at-end [] x d = refl
at-end (first ∷ xs) x d = at-end xs x d

at-behind : (xs : List ℕ) (place d : ℕ) → length xs ≤ place → get_or xs place d ≡ d
at-behind [] place d past = refl
at-behind (x ∷ xs) zero d past = absurd (omega (arith, past))
at-behind (x ∷ xs) (suc place) d past = at-behind xs place d (omega (arith, past))

-- Nodes that have told nothing

three : (place count : ℕ) → (place < count) ⊎ ((place ≡ count) ⊎ (count + 1 ≤ place))
three place count = grind arith

pub alone-none : (firsts : List ℕ) → firsts ≡ [] → AreAlone 0 firsts
alone-none firsts is = subst (AreAlone 0) (sym is) (record { all = refl; each = λ root. refl })

pub alone-more : (count : ℕ) (firsts later : List ℕ) → later ≡ firsts ++ count ∷ [] → AreAlone count firsts → AreAlone (count + 1) later
alone-more count firsts later is are =
    subst (AreAlone (count + 1)) (sym is) (record {
      all = length-append firsts (count ∷ []) ∙ omega (arith, are.all);
      each = λ root.
          elim (three root count) [
            | inl before ↦ at-front firsts (count ∷ []) root root (omega (arith, before, are.all)) ∙ are.each root
            | inr (inl last) ↦
                ap (λ (place : ℕ). get_or (firsts ++ count ∷ []) place root) (last ∙ sym are.all) ∙ at-end firsts count root ∙ sym last
            | inr (inr behind) ↦ at-behind (firsts ++ count ∷ []) root root (omega (arith, length-append firsts (count ∷ []), are.all, behind))
          ];
    })

-- Standing in a node

pub stands-before : (surroundings : List Surrounding) (root part : ℕ) → StandsIn surroundings root part → part ≤ root
stands-before surroundings root part itself = omega arith
stands-before surroundings root part (in_part less rest) =
    omega (arith, less, stands-before surroundings root (surrounding_at surroundings part).parent rest)

-- what stands in a node stands in the one that this one stands in
pub stands-above : (surroundings : List Surrounding) (root part : ℕ) → root < (surrounding_at surroundings root).parent → StandsIn surroundings root part
    → StandsIn surroundings (surrounding_at surroundings root).parent part
stands-above surroundings root part above itself = in_part above itself
stands-above surroundings root part above (in_part less rest) =
    in_part less (stands-above surroundings root (surrounding_at surroundings part).parent above rest)

-- Nodes up to one have told

pub record AreTold (surroundings : List Surrounding) (count : ℕ) (firsts : List ℕ) : Type 0 where
  pub all : length firsts ≡ length surroundings
  pub stands : (root : ℕ) → root < length firsts → StandsIn surroundings root (first_at firsts root)
  pub told : (part : ℕ) → part < count → part < (surrounding_at surroundings part).parent → (surrounding_at surroundings part).parent < length firsts
      → first_at firsts (surrounding_at surroundings part).parent ≤ first_at firsts part

pub none_told : (surroundings : List Surrounding) (count : ℕ) (firsts : List ℕ) → count ≡ length surroundings → AreAlone count firsts
    → AreTold surroundings 0 firsts
none_told surroundings count firsts whole alone = record {
  all = alone.all ∙ whole;
  stands = λ root within. subst (StandsIn surroundings root) (sym (alone.each root)) itself;
  told = λ part none. absurd (omega (arith, none));
}

module _ (surroundings : List Surrounding) (handle : ℕ) (firsts : List ℕ) (within : handle < length firsts) (are : AreTold surroundings handle firsts) where
  abbrev parent : ℕ
  parent = (surrounding_at surroundings handle).parent

  last-or-before : (part : ℕ) → part < handle + 1 → (part ≡ handle) ⊎ (part < handle)
  last-or-before part below = grind arith

  same-or-not : (one other : ℕ) → (one ≡ other) ⊎ (one ≡ other → ⊥)
  same-or-not one other = grind arith

  module _ (above : handle < parent) (inside : parent < length firsts) where
    -- the node has the first one
    module _ (less : first_at firsts handle < first_at firsts parent) where
      abbrev later : List ℕ
      later = slice_set firsts parent (first_at firsts handle)

      at-parent : first_at later parent ≡ first_at firsts handle
      at-parent = at-set_same firsts parent (first_at firsts handle) parent inside

      at-other : (root : ℕ) → (parent ≡ root → ⊥) → first_at later root ≡ first_at firsts root
      at-other root apart = at-set_other firsts parent root (first_at firsts handle) root apart

      stands-later : (root : ℕ) → root < length firsts → StandsIn surroundings root (first_at later root)
      stands-later root among =
          elim (same-or-not parent root) [
            | inl same ↦
                subst (λ (r : ℕ). StandsIn surroundings r (first_at later r)) same
                (subst (StandsIn surroundings parent) (sym at-parent)
                (stands-above surroundings handle (first_at firsts handle) above (are.stands handle within)))
            | inr apart ↦ subst (StandsIn surroundings root) (sym (at-other root apart)) (are.stands root among)
          ]

      abbrev Told : (part next : ℕ) → Type 0
      Told part next = first_at later next ≤ first_at later part

      told-before : (part next : ℕ) → part < handle → first_at firsts next ≤ first_at firsts part → Told part next
      told-before part next before old =
          let here = at-other part (λ same. omega (arith, same, before, above)) in
          elim (same-or-not parent next) [
            | inl same ↦
                let there = ap (λ (n : ℕ). first_at later n) (sym same) ∙ at-parent in
                let was = ap (λ (n : ℕ). first_at firsts n) same in
                omega (arith, here, there, was, less, old)
            | inr apart ↦ omega (arith, here, at-other next apart, old)
          ]

      told-last : Told handle parent
      told-last = omega (arith, at-parent, at-other handle (λ same. omega (arith, same, above)))

      told-later : (part : ℕ) → part < handle + 1 → part < (surrounding_at surroundings part).parent
          → (surrounding_at surroundings part).parent < length firsts → Told part (surrounding_at surroundings part).parent
      told-later part below upward among =
          elim (last-or-before part below) [
            | inl last ↦ subst (λ (p : ℕ). Told p (surrounding_at surroundings p).parent) (sym last) told-last
            | inr before ↦ told-before part (surrounding_at surroundings part).parent before (are.told part before upward among)
          ]

      first-told : AreTold surroundings (handle + 1) later
      first-told = record {
        all = length-set firsts parent (first_at firsts handle) ∙ are.all;
        stands = λ root among. stands-later root (omega (arith, among, length-set firsts parent (first_at firsts handle)));
        told = λ part below upward among. told-later part below upward (omega (arith, among, length-set firsts parent (first_at firsts handle)));
      }

  -- it has nothing new to tell
  silent : (handle < parent → parent < length firsts → first_at firsts parent ≤ first_at firsts handle) → AreTold surroundings (handle + 1) firsts
  silent old = record {
    all = are.all;
    stands = are.stands;
    told = λ part below upward among.
        elim (last-or-before part below) [
          | inl last ↦
              subst (λ (p : ℕ). p < (surrounding_at surroundings p).parent → (surrounding_at surroundings p).parent < length firsts
              → first_at firsts (surrounding_at surroundings p).parent ≤ first_at firsts p) (sym last) old upward among
          | inr before ↦ are.told part before upward among
        ];
  }

  by-first : (test : Bool) → nat_lt (first_at firsts handle) (first_at firsts parent) ≡ test → handle < parent → parent < length firsts
      → AreTold surroundings (handle + 1) (if test then slice_set firsts parent (first_at firsts handle) else firsts)
  by-first true is above inside = first-told above inside (grind (arith, nat_tests, is))
  by-first false is above inside = silent (λ up among. grind (arith, nat_tests, is))

  by-parent : (one other : Bool) → nat_lt handle parent ≡ one → nat_lt parent (length firsts) ≡ other
      → AreTold surroundings (handle + 1)
      (if one && other then (if nat_lt (first_at firsts handle) (first_at firsts parent) then slice_set firsts parent (first_at firsts handle) else firsts)
      else firsts)
  by-parent true true is also =
      by-first (nat_lt (first_at firsts handle) (first_at firsts parent)) refl (grind (arith, nat_tests, is)) (grind (arith, nat_tests, also))
  by-parent true false is also = silent (λ up among. absurd (grind (arith, nat_tests, also, among)))
  by-parent false other is also = silent (λ up among. absurd (grind (arith, nat_tests, is, up)))

  pub one_more_told : (next : List ℕ) → next ≡ first_told firsts handle parent → AreTold surroundings (handle + 1) next
  one_more_told next is =
      subst (AreTold surroundings (handle + 1)) (sym is) (by-parent (nat_lt handle parent) (nat_lt parent (length firsts)) refl refl)

-- All have

module _ (surroundings : List Surrounding) (firsts : List ℕ) (are : AreTold surroundings (length surroundings) firsts) where
  first-least : (root part : ℕ) → root < length firsts → StandsIn surroundings root part → first_at firsts root ≤ first_at firsts part
  first-least root part within itself = omega arith
  first-least root part within (in_part less rest) =
      let parent = (surrounding_at surroundings part).parent in
      let before = stands-before surroundings root parent rest in
      omega (arith, first-least root parent within rest, are.told part (omega (arith, are.all, less, before, within)) less (omega (arith, before, within)))

  pub all_told : AreFirsts surroundings firsts
  all_told = record {
    all = are.all;
    each = λ root within. record {
      stands = are.stands root within;
      least = λ part stands.
          let before = stands-before surroundings root part stands in
          omega (
            arith,
            first-least root part within stands,
            stands-before surroundings part (first_at firsts part) (are.stands part (omega (arith, before, within))),
          );
    };
  }
