-- Branches, and the sets that they stand for.
use Rattle.std.proofs.Common.{◌≡◌, ◌≢◌, ℕ, ◌+◌, ◌-◌, ◌<◌, ◌≤◌, ◌^◌, Bool, true, false, ◌||◌, if◌then◌else◌, List, [], ◌∷◌, ◌++◌, length, slice_get, Some, unwrap_or, get_or, nat_eq, nat_lt, refl, sym, ap, subst, ⊎_elim, true≢false, ◌∙◌, append_assoc, append-nil, arith, length-append}
use Rattle.std.specs.List.{list_any}
use Rattle.std.proofs.lemmas.Bool.{ltb-false, ltb-true, lt-ltb, le-ltb, cases_lt, ne_eqb}
use Rattle.std.proofs.lemmas.Bool.Decides.{nat_tests}
use Rattle.std.proofs.lemmas.Nat.{pow-add}
use Rattle.std.proofs.lemmas.Option.{slice_get-get_or, slice_get_past, none-some}
use Rattle.std.proofs.Math.Pow.{pow_mono}
use Rattle.number_sets.specs.declared.addition.Addition.{Addition}
use Rattle.number_sets.specs.declared.branch.Branch.{Branch}
use Rattle.number_sets.specs.declared.pair.Pair.{Pair}
use Rattle.number_sets.specs.NumberSets.{Table, has, Extends, plain_sets}
use Rattle.number_sets.specs.Branches.{numbers_of, sets_behind, sets_of, count, bits_of, levels_at, levels_of, IsSplit, AreBranches, Grows, of_both, IsMade, AreDone, HasToo, AreGrown}
use Rattle.number_sets.proofs.TableLemmas.{slice_get-append, Extends-refl, has-Extends}
use Rattle.number_sets.proofs.PlainLemmas.{length-plain, has-plain, bits_of-most, bits_of-none, bits_of-within, plain_bounded}

-- a table grows by the sets of branches
pub sets_behind-extends : (table : Table) (bs : List Branch) → Extends table (sets_behind table bs)
sets_behind-extends table [] = Extends-refl table
sets_behind-extends table (b ∷ bs) =
    let one : Table = numbers_of table b ∷ [] in
    let later = sets_behind-extends (table ++ one) bs in
    (one ++ later.0, later.1 ∙ append_assoc table one later.0)

-- the sets of more branches stand behind those of the first ones
pub sets_behind-append : (table : Table) (bs more : List Branch) → sets_behind table (bs ++ more) ≡ sets_behind (sets_behind table bs) more
sets_behind-append table [] more = refl
sets_behind-append table (b ∷ bs) more = sets_behind-append (table ++ numbers_of table b ∷ []) bs more

length-sets_behind : (table : Table) (bs : List Branch) → length (sets_behind table bs) ≡ length table + length bs
length-sets_behind table [] = omega arith
length-sets_behind table (b ∷ bs) = omega (arith, length-sets_behind (table ++ numbers_of table b ∷ []) bs, length-append table (numbers_of table b ∷ []))

-- the sets from the start, and one for each branch
pub length-sets_of : (bs : List Branch) → length (sets_of bs) ≡ count bs
length-sets_of bs = omega (arith, length-sets_behind plain_sets bs, length-plain)

-- the sets of the first branches stay where more come
pub sets_of-Grows : (old new : List Branch) → Grows old new → Extends (sets_of old) (sets_of new)
sets_of-Grows old new grows =
    let later = sets_behind-extends (sets_of old) grows.0 in
    (later.0, ap sets_of grows.1 ∙ sets_behind-append plain_sets old grows.0 ∙ later.1)

pub Grows-refl : (bs : List Branch) → Grows bs bs
Grows-refl bs = ([], sym (append-nil bs))

pub Grows-Grows : (old mid new : List Branch) → Grows old mid → Grows mid new → Grows old new
Grows-Grows old mid new first later = (first.0 ++ later.0, later.1 ∙ ap (λ bs. bs ++ later.0) first.1 ∙ append_assoc old first.0 later.0)

pub count-Grows : (old new : List Branch) → Grows old new → count old ≤ count new
count-Grows old new grows = omega (arith, ap length grows.1, length-append old grows.0)

-- a set that stands keeps its numbers
pub has-Grows : (old new : List Branch) → Grows old new → (set n : ℕ) → set < count old → has (sets_of new) set n ≡ has (sets_of old) set n
has-Grows old new grows set n stands = has-Extends _ _ (sets_of-Grows old new grows) set n (omega (arith, length-sets_of old))

pick_same : (b : Bool) (w x y : ℕ) → (b ≡ false → x ≡ y) → (if b then w else x) ≡ (if b then w else y)
pick_same true w x y same = refl
pick_same false w x y same = same refl

-- and its levels
pub levels_of-Grows : (old new : List Branch) → Grows old new → (set : ℕ) → set < count old → levels_of new set ≡ levels_of old set
levels_of-Grows old new grows set stands =
    pick_same (nat_lt set 1073741825) (bits_of (set - 1)) _ _ (λ e.
    let past = ltb-false set 1073741825 e in
    ap (λ bs. levels_at (slice_get bs (set - 1073741825))) grows.1 ∙ ap levels_at (slice_get-append old grows.0 (set - 1073741825) (omega arith)))

-- set 0 has no number
pub has-empty : (bs : List Branch) (n : ℕ) → has (sets_of bs) 0 n ≡ false
unfolding plain_sets
has-empty bs n = has-Grows [] bs (bs, refl) 0 n (omega arith)

-- the next ones have one number each
pub has-single : (bs : List Branch) (set n : ℕ) → 1 ≤ set → set < 1073741825 → has (sets_of bs) set n ≡ nat_eq n (set - 1) || false
has-single bs set n some plain = has-Grows [] bs (bs, refl) set n (omega arith) ∙ has-plain set n some plain

-- a set with a branch has the levels of the branch
pub levels_of-branch : (bs : List Branch) (set : ℕ) (b : Branch) → 1073741825 ≤ set → slice_get bs (set - 1073741825) ≡ Some b → levels_of bs set ≡ b.bit + 1
levels_of-branch bs set b past found =
    ap (λ test. if test then bits_of (set - 1) else levels_at (slice_get bs (set - 1073741825))) (le-ltb set 1073741825 past) ∙ ap levels_at found

-- so it has one level at least
pub levels_of-some : (bs : List Branch) (set : ℕ) → 1073741825 ≤ set → set < count bs → 1 ≤ levels_of bs set
levels_of-some bs set past stands =
    let other : Branch = record { bit = 0; lower = 0; upper = 0 } in
    let found = slice_get-get_or bs (set - 1073741825) other (omega arith) in
    omega (arith, levels_of-branch bs set (get_or bs (set - 1073741825) other) past found)

-- a set without one has the bits of its number
pub levels_of-plain : (bs : List Branch) (set : ℕ) → set < 1073741825 → levels_of bs set ≡ bits_of (set - 1)
levels_of-plain bs set plain = ap (λ test. if test then bits_of (set - 1) else levels_at (slice_get bs (set - 1073741825))) (lt-ltb set 1073741825 plain)

-- the empty one has no levels
pub levels_of-empty : (bs : List Branch) → levels_of bs 0 ≡ 0
levels_of-empty bs = omega (arith, levels_of-plain bs 0 (omega arith), bits_of-none 0 refl)

-- where there is no branch, each set stands as it should
pub AreBranches-none : AreBranches []
AreBranches-none =
    record {
      parts = λ set b past found. absurd (none-some b found);
      bits = λ place b found. absurd (none-some b found);
      bounded = bounded_at;
      few = omega arith;
    }
  where
    bounded_at : (set n : ℕ) → has (sets_of []) set n ≡ true → n < 2 ^ levels_of [] set
    bounded_at set n found =
        ⊎_elim
        (λ plain. subst (λ levels. n < 2 ^ levels) (sym (levels_of-plain [] set plain)) (plain_bounded set n plain found))
        (λ past. absurd (true≢false (sym found ∙ ap (λ numbers. list_any (nat_eq n) (unwrap_or numbers [])) (slice_get_past plain_sets set (omega (arith, length-plain, past))))))
        (cases_lt set 1073741825)

-- what is known of a set's halves stays
pub IsSplit-Grows : (old new : List Branch) → Grows old new → (set bit lower upper : ℕ) → IsSplit old set bit lower upper → IsSplit new set bit lower upper
IsSplit-Grows old new grows set bit lower upper split =
    let more = count-Grows old new grows in
    record {
      whole_stands = omega (arith, split.whole_stands, more);
      lower_stands = omega (arith, split.lower_stands, more);
      upper_stands = omega (arith, split.upper_stands, more);
      whole_levels = omega (arith, split.whole_levels, levels_of-Grows old new grows set split.whole_stands);
      lower_levels = omega (arith, split.lower_levels, levels_of-Grows old new grows lower split.lower_stands);
      upper_levels = omega (arith, split.upper_levels, levels_of-Grows old new grows upper split.upper_stands);
      numbers = λ n. has-Grows old new grows set n split.whole_stands ∙ split.numbers n
          ∙ sym (λ i. if nat_lt n (2 ^ bit) then has-Grows old new grows lower n split.lower_stands i else has-Grows old new grows upper (n - 2 ^ bit) split.upper_stands i);
    }

-- what is made of a pair stays so
pub IsMade-Grows : (old new : List Branch) → Grows old new → (pair : Pair) (set : ℕ) → IsMade old pair set → IsMade new pair set
IsMade-Grows old new grows pair set made =
    let more = count-Grows old new grows in
    let left = levels_of-Grows old new grows pair.left made.left_stands in
    let right = levels_of-Grows old new grows pair.right made.right_stands in
    let whole = levels_of-Grows old new grows set made.stands in
    record {
      left_stands = omega (arith, made.left_stands, more);
      right_stands = omega (arith, made.right_stands, more);
      stands = omega (arith, made.stands, more);
      levels = λ most l r. omega (arith, whole, made.levels most (omega (arith, l, left)) (omega (arith, r, right)));
      numbers = λ n. has-Grows old new grows set n made.stands ∙ made.numbers n
          ∙ sym (λ i. of_both pair.operation (has-Grows old new grows pair.left n made.left_stands i) (has-Grows old new grows pair.right n made.right_stands i));
    }

-- a grown set stays so
pub HasToo-Grows : (old new : List Branch) → Grows old new → (most other number set : ℕ) → other < count old → HasToo old most other number set → HasToo new most other number set
HasToo-Grows old new grows most other number set stands too =
    record {
      stands = omega (arith, too.stands, count-Grows old new grows);
      levels = omega (arith, too.levels, levels_of-Grows old new grows set too.stands);
      numbers = λ n. has-Grows old new grows set n too.stands ∙ too.numbers n
          ∙ sym (ap (λ found. nat_eq n number || found) (has-Grows old new grows other n stands));
    }

-- what is remembered stays right
pub AreDone-Grows : (old new : List Branch) → Grows old new → (done : List (Pair × ℕ)) → AreDone old done → AreDone new done
AreDone-Grows old new grows [] all = tt
AreDone-Grows old new grows (entry ∷ done) all = (IsMade-Grows old new grows entry.0 entry.1 all.0, AreDone-Grows old new grows done all.1)

-- what is remembered of additions stays right
pub AreGrown-Grows : (old new : List Branch) → Grows old new → (grown : List (Addition × ℕ)) → AreGrown old grown → AreGrown new grown
AreGrown-Grows old new grows [] all = tt
AreGrown-Grows old new grows (entry ∷ grown) all = (
  record {
    old_stands = omega (arith, all.0.old_stands, count-Grows old new grows);
    too = HasToo-Grows old new grows 30 entry.0.set entry.0.number entry.1 all.0.old_stands all.0.too;
  },
  AreGrown-Grows old new grows grown all.1,
)

-- no number of a set has more bits than a bound of its levels
pub below : (bs : List Branch) → AreBranches bs → (set bit n : ℕ) → levels_of bs set ≤ bit → has (sets_of bs) set n ≡ true → n < 2 ^ bit
below bs branches set bit n levels found =
    let most = pow_mono {i = levels_of bs set} {j = bit} levels in
    omega (arith, branches.bounded set n found, most)

-- a set whose numbers lack the bit parts into itself and the empty one
pub IsSplit-whole : (bs : List Branch) → AreBranches bs → (set bit : ℕ) → set < count bs → levels_of bs set ≤ bit → IsSplit bs set bit set 0
IsSplit-whole bs branches set bit stands levels =
    record {
      whole_stands = stands;
      lower_stands = stands;
      upper_stands = omega arith;
      whole_levels = omega arith;
      lower_levels = levels;
      upper_levels = omega (arith, levels_of-empty bs);
      numbers = λ n. by n (nat_lt n (2 ^ bit)) refl (has (sets_of bs) set n) refl;
    }
  where
    by : (n : ℕ) (test : Bool) → nat_lt n (2 ^ bit) ≡ test → (found : Bool) → has (sets_of bs) set n ≡ found → has (sets_of bs) set n ≡ (if test then has (sets_of bs) set n else has (sets_of bs) 0 (n - 2 ^ bit))
    by n true e found f = refl
    by n false e true f = absurd (omega (arith, below bs branches set bit n levels f, ltb-false n (2 ^ bit) e))
    by n false e false f = f ∙ sym (has-empty bs (n - 2 ^ bit))

-- a set of one number that has the bit parts into the empty one and that of the number without it
pub IsSplit-single : (bs : List Branch) (set bit : ℕ) → set < 1073741825 → 2 ^ bit < set → set ≤ 2 ^ (bit + 1) → IsSplit bs set bit 0 (set - 2 ^ bit)
IsSplit-single bs set bit plain above within =
    record {
      whole_stands = omega arith;
      lower_stands = omega arith;
      upper_stands = omega arith;
      whole_levels = omega (arith, levels_of-plain bs set plain, bits_of-most (set - 1) (bit + 1) (omega arith) (omega arith));
      lower_levels = omega (arith, levels_of-empty bs);
      upper_levels = omega (arith, levels_of-plain bs (set - 2 ^ bit) (omega arith), bits_of-most (set - 2 ^ bit - 1) bit (omega arith) (omega (arith, pow-add 2 bit 1)));
      numbers = λ n. by n (nat_lt n (2 ^ bit)) refl;
    }
  where
    same_rest : (n m p : ℕ) → p ≤ n → p < m → nat_eq n (m - 1) ≡ nat_eq (n - p) (m - p - 1)
    same_rest n m p at_n below_m = grind (arith, nat_tests)

    by : (n : ℕ) (test : Bool) → nat_lt n (2 ^ bit) ≡ test → has (sets_of bs) set n ≡ (if test then has (sets_of bs) 0 n else has (sets_of bs) (set - 2 ^ bit) (n - 2 ^ bit))
    by n true e =
        has-single bs set n (omega arith) plain
        ∙ ap (λ found. found || false) (ne_eqb n (set - 1) (λ same. omega (arith, same, above, ltb-true n (2 ^ bit) e)))
        ∙ sym (has-empty bs n)
    by n false e =
        has-single bs set n (omega arith) plain
        ∙ ap (λ found. found || false) (same_rest n set (2 ^ bit) (ltb-false n (2 ^ bit) e) above)
        ∙ sym (has-single bs (set - 2 ^ bit) (n - 2 ^ bit) (omega arith) (omega arith))

-- a set of one number with the bit is beyond it
pub reaches : (bs : List Branch) (set bit : ℕ) → set < 1073741825 → bit < levels_of bs set → 2 ^ bit < set
reaches bs set bit plain levels =
    let one = pow_mono {i = 0} {j = bit} (omega arith) in
    ⊎_elim
    (λ less. absurd (omega (arith, levels, levels_of-plain bs set plain, bits_of-most (set - 1) bit (omega arith) less)))
    (λ past. omega (arith, past, one))
    (cases_lt (set - 1) (2 ^ bit))

-- and parts into the empty one and that of the number without the bit
pub halves_of-single : (bs : List Branch) (set bit h : ℕ) → h ≡ 2 ^ bit → set < 1073741825 → bit < levels_of bs set → levels_of bs set ≤ bit + 1 → IsSplit bs set bit 0 (set - h)
halves_of-single bs set bit h half plain above within =
    let small : set - 1 < 2 ^ levels_of bs set = subst (λ k. set - 1 < 2 ^ k) (sym (levels_of-plain bs set plain)) (bits_of-within (set - 1) (omega arith)) in
    let most = pow_mono {i = levels_of bs set} {j = bit + 1} within in
    subst (λ p. IsSplit bs set bit 0 (set - p)) (sym half) (IsSplit-single bs set bit plain (reaches bs set bit plain above) (omega (arith, small, most)))

-- the empty set and one of one number are the halves of one of one number
pub joined_single : (bs : List Branch) (bit lower upper h : ℕ) → h ≡ 2 ^ bit → bit < 30 → lower ≡ 0 → 1 ≤ upper → upper < 1073741825 → levels_of bs upper ≤ bit → IsSplit bs (upper + h) bit lower upper
joined_single bs bit lower upper h half few empty some plain levels =
    let small : upper - 1 < 2 ^ levels_of bs upper = subst (λ k. upper - 1 < 2 ^ k) (sym (levels_of-plain bs upper plain)) (bits_of-within (upper - 1) (omega arith)) in
    let within = pow_mono {i = levels_of bs upper} {j = bit} levels in
    let most = pow_mono {i = bit} {j = 29} (omega (arith, few)) in
    let twice = pow-add 2 bit 1 in
    let rest : upper + 2 ^ bit - 2 ^ bit ≡ upper = omega arith in
    let split = IsSplit-single bs (upper + 2 ^ bit) bit (omega (arith, small, within, most)) (omega (arith, some)) (omega (arith, small, within, twice)) in
    subst (λ p. IsSplit bs (upper + p) bit lower upper) (sym half)
    (subst (λ l. IsSplit bs (upper + 2 ^ bit) bit l upper) (sym empty) (subst (λ u. IsSplit bs (upper + 2 ^ bit) bit 0 u) rest split))

-- a set of no levels is the empty one or that of 0
no_levels : (bs : List Branch) (set : ℕ) → set < count bs → levels_of bs set ≡ 0 → set ≤ 1
no_levels bs set stands none =
    ⊎_elim
    (λ plain.
    let few : bits_of (set - 1) ≡ 0 = omega (arith, levels_of-plain bs set plain, none) in
    omega (arith, subst (λ k. set - 1 < 2 ^ k) few (bits_of-within (set - 1) (omega (arith, plain)))))
    (λ past. absurd (omega (arith, levels_of-some bs set past stands, none)))
    (cases_lt set 1073741825)

-- so of two others one has a level
pub some_levels : (bs : List Branch) (left right : ℕ) → left < count bs → right < count bs → left ≢ right → left ≢ 0 → right ≢ 0 → 1 ≤ levels_of bs left + levels_of bs right
some_levels bs left right l r differ l_some r_some =
    ⊎_elim
    (λ none.
    let left_none = no_levels bs left l (omega (arith, none)) in
    let right_none = no_levels bs right r (omega (arith, none)) in
    absurd (differ (omega (arith, left_none, right_none, l_some, r_some))))
    (λ some. some)
    (cases_lt (levels_of bs left + levels_of bs right) 1)

-- no set has more levels than numbers may have bits
pub levels_of-most : (bs : List Branch) → AreBranches bs → (set : ℕ) → set < count bs → levels_of bs set ≤ 30
levels_of-most bs branches set stands =
    ⊎_elim
    (λ plain. omega (arith, levels_of-plain bs set plain, bits_of-most (set - 1) 30 (omega (arith, plain)) (omega (arith, plain))))
    (λ past.
    let other : Branch = record { bit = 0; lower = 0; upper = 0 } in
    let found = slice_get-get_or bs (set - 1073741825) other (omega (arith, stands, past)) in
    omega (arith, levels_of-branch bs set (get_or bs (set - 1073741825) other) past found, branches.bits (set - 1073741825) _ found))
    (cases_lt set 1073741825)
