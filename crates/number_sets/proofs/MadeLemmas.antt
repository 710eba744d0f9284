-- Sets that are made of others, half by half, and what is remembered of them.
use Rattle.std.proofs.Common.{◌≡◌, ℕ, zero, suc, ◌+◌, ◌-◌, ◌<◌, ◌≤◌, ◌^◌, Bool, true, false, ◌||◌, ◌&&◌, if◌then◌else◌, List, [], ◌∷◌, Option, Some, None, IfSome, ⊎_elim, nat_eq, nat_lt, refl, sym, ap, subst, ◌∙◌, arith}
use Rattle.std.specs.List.{AllByRecursion}
use Rattle.std.specs.Map.{lookup}
use Rattle.std.proofs.lemmas.Bool.{ltb-false, ltb-true, ne_eqb, cases_lt}
use Rattle.std.proofs.lemmas.Bool.Decides.{nat_tests}
use Rattle.std.proofs.lemmas.Option.{same_Some, none-some}
use Rattle.indexmap.specs.IndexMap.{insert_entry}
use Rattle.number_sets.specs.declared.branch.Branch.{Branch}
use Rattle.number_sets.specs.declared.pair.Operation.{Operation}
use Rattle.number_sets.specs.declared.pair.Operation.TheVariants.{Union, Intersection}
use Rattle.number_sets.specs.declared.pair.Pair.{Pair}
use Rattle.number_sets.specs.NumberSets.{Table, has}
use Rattle.number_sets.specs.Branches.{sets_of, bits_of, count, levels_of, IsSplit, of_both, IsMade, HasToo}
use Rattle.number_sets.specs.Branches.{Grows}
use Rattle.number_sets.proofs.TableLemmas.{or-false}
use Rattle.number_sets.proofs.PlainLemmas.{bits_of-most, bits_of-within}
use Rattle.number_sets.proofs.BranchLemmas.{has-empty, has-single, has-Grows, levels_of-empty, levels_of-plain, levels_of-some}

module _ (bs : List Branch) (pair : Pair) (left_stands : pair.left < count bs) (right_stands : pair.right < count bs) where
  -- the union with the empty set on the left
  pub union_from_empty : pair.operation ≡ Union → pair.left ≡ 0 → IsMade bs pair pair.right
  union_from_empty union empty =
      record {
        left_stands = left_stands;
        right_stands = right_stands;
        stands = right_stands;
        levels = λ most l r. r;
        numbers = λ n. sym (ap (λ o. of_both o (has (sets_of bs) pair.left n) (has (sets_of bs) pair.right n)) union
            ∙ ap (λ l. has (sets_of bs) l n || has (sets_of bs) pair.right n) empty
            ∙ ap (λ l. l || has (sets_of bs) pair.right n) (has-empty bs n));
      }

  and-false : (b : Bool) → b && false ≡ false
  and-false true = refl
  and-false false = refl

  -- the same on the right
  pub union_with_empty : pair.operation ≡ Union → pair.right ≡ 0 → IsMade bs pair pair.left
  union_with_empty union empty =
      record {
        left_stands = left_stands;
        right_stands = right_stands;
        stands = left_stands;
        levels = λ most l r. l;
        numbers = λ n. sym (ap (λ o. of_both o (has (sets_of bs) pair.left n) (has (sets_of bs) pair.right n)) union
            ∙ ap (λ r. has (sets_of bs) pair.left n || has (sets_of bs) r n) empty
            ∙ ap (λ r. has (sets_of bs) pair.left n || r) (has-empty bs n) ∙ or-false (has (sets_of bs) pair.left n));
      }

  -- the intersection with the empty set on the left
  pub intersection_from_empty : pair.operation ≡ Intersection → pair.left ≡ 0 → IsMade bs pair 0
  intersection_from_empty intersection empty =
      record {
        left_stands = left_stands;
        right_stands = right_stands;
        stands = omega arith;
        levels = λ most l r. omega (arith, levels_of-empty bs);
        numbers = λ n. has-empty bs n ∙ sym (ap (λ o. of_both o (has (sets_of bs) pair.left n) (has (sets_of bs) pair.right n)) intersection
            ∙ ap (λ l. has (sets_of bs) l n && has (sets_of bs) pair.right n) empty
            ∙ ap (λ l. l && has (sets_of bs) pair.right n) (has-empty bs n));
      }

  -- the same on the right
  pub intersection_with_empty : pair.operation ≡ Intersection → pair.right ≡ 0 → IsMade bs pair 0
  intersection_with_empty intersection empty =
      record {
        left_stands = left_stands;
        right_stands = right_stands;
        stands = omega arith;
        levels = λ most l r. omega (arith, levels_of-empty bs);
        numbers = λ n. has-empty bs n ∙ sym (ap (λ o. of_both o (has (sets_of bs) pair.left n) (has (sets_of bs) pair.right n)) intersection
            ∙ ap (λ r. has (sets_of bs) pair.left n && has (sets_of bs) r n) empty
            ∙ ap (λ r. has (sets_of bs) pair.left n && r) (has-empty bs n) ∙ and-false (has (sets_of bs) pair.left n));
      }

-- a choice between two answers, each made of two
chosen : (operation : Operation) (test a b c d : Bool) → (if test then of_both operation a b else of_both operation c d) ≡ of_both operation (if test then a else c) (if test then b else d)
chosen operation true a b c d = refl
chosen operation false a b c d = refl

-- what is made of the halves makes the whole
pub made_by_halves : (bs : List Branch) (pair : Pair) (bit a0 a1 b0 b1 c0 c1 c : ℕ)
    → IsSplit bs pair.left bit a0 a1 → IsSplit bs pair.right bit b0 b1
    → IsMade bs (record { operation = pair.operation; left = a0; right = b0 }) c0
    → IsMade bs (record { operation = pair.operation; left = a1; right = b1 }) c1
    → IsSplit bs c bit c0 c1
    → ((most : ℕ) → levels_of bs pair.left ≤ most → levels_of bs pair.right ≤ most → bit + 1 ≤ most)
    → IsMade bs pair c
made_by_halves bs pair bit a0 a1 b0 b1 c0 c1 c left right lower upper whole one =
    record {
      left_stands = left.whole_stands;
      right_stands = right.whole_stands;
      stands = whole.whole_stands;
      levels = λ most l r. omega (arith, one most l r, whole.whole_levels);
      numbers = λ n.
          let test : Bool = nat_lt n (2 ^ bit) in
          let rest : ℕ = n - 2 ^ bit in
          whole.numbers n
          ∙ (λ i. if test then lower.numbers n i else upper.numbers rest i)
          ∙ chosen pair.operation test (has (sets_of bs) a0 n) (has (sets_of bs) b0 n) (has (sets_of bs) a1 rest) (has (sets_of bs) b1 rest)
          ∙ sym (λ i. of_both pair.operation (left.numbers n i) (right.numbers n i));
    }

-- a number that goes into the lower half
pub grown_below : (bs : List Branch) (most set bit lower upper number grown whole : ℕ) → bit + 1 ≡ most → IsSplit bs set bit lower upper → number < 2 ^ bit → HasToo bs bit lower number grown → IsSplit bs whole bit grown upper → HasToo bs most set number whole
grown_below bs most set bit lower upper number grown whole next old within new split =
    record {
      stands = split.whole_stands;
      levels = omega (arith, next, split.whole_levels);
      numbers = λ n. split.numbers n ∙ by n (nat_lt n (2 ^ bit)) refl ∙ sym (ap (λ found. nat_eq n number || found) (old.numbers n));
    }
  where
    by : (n : ℕ) (test : Bool) → nat_lt n (2 ^ bit) ≡ test → (if test then has (sets_of bs) grown n else has (sets_of bs) upper (n - 2 ^ bit)) ≡ nat_eq n number || (if test then has (sets_of bs) lower n else has (sets_of bs) upper (n - 2 ^ bit))
    by n true e = new.numbers n
    by n false e = sym (ap (λ same. same || has (sets_of bs) upper (n - 2 ^ bit)) (ne_eqb n number (λ same. omega (arith, ltb-false n (2 ^ bit) e))))

-- a number that goes into the upper half
pub grown_above : (bs : List Branch) (most set bit lower upper number rest grown whole : ℕ) → bit + 1 ≡ most → IsSplit bs set bit lower upper → 2 ^ bit ≤ number → rest ≡ number - 2 ^ bit → HasToo bs bit upper rest grown → IsSplit bs whole bit lower grown → HasToo bs most set number whole
grown_above bs most set bit lower upper number rest grown whole next old past left new split =
    record {
      stands = split.whole_stands;
      levels = omega (arith, next, split.whole_levels);
      numbers = λ n. split.numbers n ∙ by n (nat_lt n (2 ^ bit)) refl ∙ sym (ap (λ found. nat_eq n number || found) (old.numbers n));
    }
  where
    same_rest : (n p : ℕ) → p ≤ n → p ≤ number → nat_eq (n - p) (number - p) ≡ nat_eq n number
    same_rest n p at_n at_number = grind (arith, nat_tests)

    by : (n : ℕ) (test : Bool) → nat_lt n (2 ^ bit) ≡ test → (if test then has (sets_of bs) lower n else has (sets_of bs) grown (n - 2 ^ bit)) ≡ nat_eq n number || (if test then has (sets_of bs) lower n else has (sets_of bs) upper (n - 2 ^ bit))
    by n true e = sym (ap (λ same. same || has (sets_of bs) lower n) (ne_eqb n number (λ same. omega (arith, ltb-true n (2 ^ bit) e))))
    by n false e = new.numbers (n - 2 ^ bit) ∙ ap (λ same. same || has (sets_of bs) upper (n - 2 ^ bit)) (ap (nat_eq (n - 2 ^ bit)) left ∙ same_rest n (2 ^ bit) (ltb-false n (2 ^ bit) e) past)

-- a number that joins none
pub grown_empty : (bs : List Branch) (most number : ℕ) → number < 2 ^ 30 → number < 2 ^ most → HasToo bs most 0 number (number + 1)
grown_empty bs most number small within =
    let alone : number + 1 - 1 ≡ number = omega arith in
    record {
      stands = omega arith;
      levels = omega (arith, levels_of-plain bs (number + 1) (omega arith), ap bits_of alone, bits_of-most number most (omega arith) within);
      numbers = λ n. has-single bs (number + 1) n (omega arith) (omega arith) ∙ ap (λ m. nat_eq n m || false) alone ∙ sym (ap (λ found. nat_eq n number || found) (has-empty bs n));
    }

-- and so in a table that is the sets of branches
pub grown_from_empty : (bs : List Branch) (table : Table) → sets_of bs ≡ table → (set number grown : ℕ) → set ≡ 0 → grown ≡ number + 1 → number < 2 ^ 30 → (n : ℕ) → has table grown n ≡ nat_eq n number || has table set n
grown_from_empty bs table view set number grown empty made small n =
    subst (λ s. has table grown n ≡ nat_eq n number || has table s n) (sym empty)
    (subst (λ g. has table g n ≡ nat_eq n number || has table 0 n) (sym made)
    (subst (λ t. has t (number + 1) n ≡ nat_eq n number || has t 0 n) view ((grown_empty bs 30 number small small).numbers n)))

-- a number of no bits joins a set of no more, which has it already
pub grown_at_zero : (bs : List Branch) (most set number : ℕ) → most ≡ 0 → 1 ≤ set → set < count bs → levels_of bs set ≤ most → number < 2 ^ most → HasToo bs most set number set
grown_at_zero bs most set number none some stands levels within =
    let one : 2 ^ most ≡ 1 = ap (λ m. 2 ^ m) none in
    let number_is : 0 ≡ number = omega (arith, within, one) in
    let plain : set < 1073741825 = ⊎_elim (λ less. less) (λ past. absurd (omega (arith, levels_of-some bs set past stands, levels, none))) (cases_lt set 1073741825) in
    let few : bits_of (set - 1) ≡ 0 = omega (arith, levels_of-plain bs set plain, levels, none) in
    let zero_is : set - 1 ≡ 0 = omega (arith, subst (λ k. set - 1 < 2 ^ k) few (bits_of-within (set - 1) (omega arith))) in
    record {
      stands = stands;
      levels = levels;
      numbers = λ n. subst (λ m. has (sets_of bs) set n ≡ nat_eq n m || has (sets_of bs) set n) number_is (twice (nat_eq n 0) _ (has-single bs set n some plain ∙ ap (λ m. nat_eq n m || false) zero_is));
    }
  where
    twice : (b found : Bool) → found ≡ b || false → found ≡ b || found
    twice true found same = same
    twice false found same = refl

-- what holds of each value that an option may have holds of its own
pub IfSome_from : {X : Type 0} (P : X → Type 0) (o : Option X) → ((x : X) → o ≡ Some x → P x) → IfSome o P
IfSome_from P None h = tt
IfSome_from P (Some x) h = h x refl

-- what a look-up finds is what holds of the key
pub found_holds : {K : Type 0} (P : K → ℕ → Type 0) (test : K → Bool) (key : K) (set : ℕ) → ((other : K) → test other ≡ true → other ≡ key)
    → (entries : List (K × ℕ)) → AllByRecursion (λ entry. P entry.0 entry.1) entries → lookup test entries ≡ Some set → P key set
found_holds P test key set same [] all found = absurd (none-some set found)
found_holds P test key set same (entry ∷ entries) all found = by (test entry.0) refl (found_holds P test key set same entries all.1)
  where
    by : (b : Bool) → test entry.0 ≡ b → (lookup test entries ≡ Some set → P key set) → P key set
    by true e later =
        let value : entry.1 ≡ set = same_Some _ _ (sym (ap (λ b. if b then Some entry.1 else lookup test entries) e) ∙ found) in
        subst (λ k. P k set) (same entry.0 e) (subst (P entry.0) value all.0)
    by false e later = later (sym (ap (λ b. if b then Some entry.1 else lookup test entries) e) ∙ found)

-- what is remembered of a key joins the rest
pub inserted_holds : {K : Type 0} (P : K → ℕ → Type 0) (eq : K → K → Bool) (key : K) (set : ℕ) → ((other : K) → eq key other ≡ true → other ≡ key)
    → P key set → (entries : List (K × ℕ)) → AllByRecursion (λ entry. P entry.0 entry.1) entries
    → AllByRecursion (λ entry. P entry.0 entry.1) (insert_entry eq entries key set)
inserted_holds P eq key set same holds [] all = (holds, tt)
inserted_holds P eq key set same holds (entry ∷ entries) all = by (eq key entry.0) refl (inserted_holds P eq key set same holds entries all.1)
  where
    by : (b : Bool) → eq key entry.0 ≡ b → AllByRecursion (λ entry. P entry.0 entry.1) (insert_entry eq entries key set)
        → AllByRecursion (λ entry. P entry.0 entry.1) (if b then (entry.0, set) ∷ entries else entry ∷ insert_entry eq entries key set)
    by true e later = (subst (λ k. P k set) (sym (same entry.0 e)) holds, all.1)
    by false e later = (all.0, later)

-- what is made of two old sets, told by the old table
pub made_of_old : (old new : List Branch) → Grows old new → (table : Table) → sets_of old ≡ table → (pair : Pair) (set : ℕ) → pair.left < count old → pair.right < count old → IsMade new pair set → (n : ℕ) → has (sets_of new) set n ≡ of_both pair.operation (has table pair.left n) (has table pair.right n)
made_of_old old new grows table seen pair set left right made n =
    made.numbers n
    ∙ (λ i. of_both pair.operation (has-Grows old new grows pair.left n left i) (has-Grows old new grows pair.right n right i))
    ∙ ap (λ sets. of_both pair.operation (has sets pair.left n) (has sets pair.right n)) seen

-- a grown set, told by the old table
pub grown_of_old : (old new : List Branch) → Grows old new → (table : Table) → sets_of old ≡ table → (most set number grown : ℕ) → set < count old → HasToo new most set number grown → (n : ℕ) → has (sets_of new) grown n ≡ nat_eq n number || has table set n
grown_of_old old new grows table seen most set number grown stands too n =
    too.numbers n
    ∙ ap (λ found. nat_eq n number || found) (has-Grows old new grows set n stands)
    ∙ ap (λ sets. nat_eq n number || has sets set n) seen
