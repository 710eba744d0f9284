-- The lowest of what the elements of a list say.
use Rattle.std.proofs.Common.{◌≡◌, ◌⊎◌, inl, inr, ℕ, ◌<◌, ◌≤◌, ◌<ℤ◌, nat_le, T, if◌then◌else◌, min, Bool, true, false, Option, Some, None, List, [], ◌∷◌, refl, sym, subst, arith}
use Rattle.std.specs.Bool.{Decides}
use Rattle.std.specs.Int.Signed.{lt_z_yes}
use Rattle.std.proofs.lemmas.Bool.{leb-true, leb-false, cases_lt}
use Rattle.std.proofs.lemmas.Bool.Decides.{Decides-and, Decides-eqb, Decides-ltb, Decides-or, not_from_Decides}
use Rattle.std.proofs.lemmas.Int.{by_lt_z, ints}
use Rattle.meaning_paths.specs.Walks.{IsIn}
use Rattle.context_walk.specs.Scans.{Leaving, IsNoLater, lower, lower_end, is_earlier}

-- a list has an element that says this
abbrev pub Says : {E V : Type 0} → (E → Option V) → List E → V → Type 0
Says {E} value es v = (e : E) × IsIn e es × (value e ≡ Some v)

-- the best of which it holds, by an order
abbrev pub IsBest : {V : Type 0} → (V → V → Type 0) → (V → Type 0) → Option V → Type 0
IsBest {V} goes P None = (v : V) → P v → ⊥
IsBest {V} goes P (Some best) = P best × ((v : V) → P v → goes best v)

-- one pick out of two is the lower of both
pub record Picks {V : Type 0} (goes : V → V → Type 0) (pick : Option V → Option V → Option V) : Type 0 where
  pub same : (a : V) → goes a a
  pub chain : (a b c : V) → goes a b → goes b c → goes a c
  pub left : (a : Option V) → pick a None ≡ a
  pub right : (b : Option V) → pick None b ≡ b
  pub both : (a b : V) → (c : V) × (pick (Some a) (Some b) ≡ Some c) × goes c a × goes c b × ((c ≡ a) ⊎ (c ≡ b))

module _ {E V : Type 0} (pick : Option V → Option V → Option V) (value : E → Option V) where
  abbrev pub lowest_by : Option V → List E → Option V
  lowest_by best [] = best
  lowest_by best (e ∷ es) = lowest_by (pick best (value e)) es

module _ {V : Type 0} (goes : V → V → Type 0) (pick : Option V → Option V → Option V) (picks : Picks goes pick) where
  pub same_best : (P Q : V → Type 0) → ((v : V) → P v → Q v) → ((v : V) → Q v → P v) → (best : Option V) → IsBest goes P best → IsBest goes Q best
  same_best P Q into from None is = λ v there. is v (from v there)
  same_best P Q into from (Some best) is = (into best is.0, λ v there. is.1 v (from v there))

  -- one more
  pub more_best : (P Q : V → Type 0) (best more : Option V) → IsBest goes P best → IsBest goes Q more → IsBest goes (λ v. P v ⊎ Q v) (pick best more)
  more_best P Q None more is is_more =
      subst (IsBest goes (λ v. P v ⊎ Q v)) (sym (picks.right more)) (by more is_more)
    where
      by : (more : Option V) → IsBest goes Q more → IsBest goes (λ v. P v ⊎ Q v) more
      by None never = λ v. elim [ inl here ↦ is v here | inr there ↦ never v there ]
      by (Some found) (of, low) = (inr of, λ v. elim [ inl here ↦ absurd (is v here) | inr there ↦ low v there ])
  more_best P Q (Some best) None is is_more =
      subst (IsBest goes (λ v. P v ⊎ Q v)) (sym (picks.left (Some best))) (inl is.0, λ v. elim [ inl here ↦ is.1 v here | inr there ↦ absurd (is_more v there) ])
  more_best P Q (Some best) (Some found) is is_more =
      let (c, picked, under, under_found, one) = picks.both best found in
      subst (IsBest goes (λ v. P v ⊎ Q v)) (sym picked) (
        elim one [ inl first ↦ inl (subst P (sym first) is.0) | inr second ↦ inr (subst Q (sym second) is_more.0) ],
        λ v. elim [ inl here ↦ picks.chain c best v under (is.1 v here) | inr there ↦ picks.chain c found v under_found (is_more.1 v there) ],
      )

  module _ {E : Type 0} (value : E → Option V) where
    -- what one element says
    one_best : (e : E) (said : Option V) → value e ≡ said → IsBest goes (λ v. value e ≡ Some v) said
    one_best e None is = λ v there. cc
    one_best e (Some v) is = (is, λ w there. let equal : v ≡ w = cc in subst (goes v) equal (picks.same v))

    lowest_from : (P : V → Type 0) (best : Option V) (es : List E) → IsBest goes P best → IsBest goes (λ v. P v ⊎ Says value es v) (lowest_by pick value best es)
    lowest_from P best [] is = same_best P (λ v. P v ⊎ Says value [] v) (λ v here. inl here) (λ v. elim [ inl here ↦ here | inr there ↦ absurd there.1 ]) best is
    lowest_from P best (e ∷ es) is =
        same_best (λ v. (P v ⊎ (value e ≡ Some v)) ⊎ Says value es v) (λ v. P v ⊎ Says value (e ∷ es) v)
        (λ v. elim [
          | inl before ↦ elim before [ inl here ↦ inl here | inr said ↦ inr (e, inl refl, said) ]
          | inr (later, in_, said) ↦ inr (later, inr in_, said)
        ])
        (λ v. elim [
          | inl here ↦ inl (inl here)
          | inr (later, in_, said) ↦ elim in_ [ inl first ↦ inl (inr (subst (λ (now : E). value now ≡ Some v) first said)) | inr rest ↦ inr (later, rest, said) ]
        ])
        (lowest_by pick value (pick best (value e)) es)
        (lowest_from (λ v. P v ⊎ (value e ≡ Some v)) (pick best (value e)) es (more_best P (λ v. value e ≡ Some v) best (value e) is (one_best e (value e) refl)))

    -- of all
    pub lowest_of_all : (es : List E) → IsBest goes (Says value es) (lowest_by pick value None es)
    lowest_of_all es =
        same_best (λ v. ⊥ ⊎ Says value es v) (Says value es) (λ v. elim [ inl never ↦ absurd never | inr there ↦ there ]) (λ v there. inr there)
        (lowest_by pick value None es) (lowest_from (λ v. ⊥) None es (λ v never. never))

-- Tokens

abbrev pub lowest : {E : Type 0} → (E → Option ℕ) → Option ℕ → List E → Option ℕ
lowest {E} value best es = lowest_by lower value best es

min_one : (a b : ℕ) → (min a b ≡ a) ⊎ (min a b ≡ b)
min_one a b = by (nat_le a b) refl
  where
    by : (test : Bool) → nat_le a b ≡ test → (min a b ≡ a) ⊎ (min a b ≡ b)
    by true e = let low = leb-true a b e in inl (omega (arith, low))
    by false e = let high = leb-false a b e in inr (omega (arith, high))

pub lower_picks : Picks ◌≤◌ lower
lower_picks = record {
  same = λ a. omega arith;
  chain = λ a b c ab bc. omega arith;
  left = elim [ None ↦ refl | Some a ↦ refl ];
  right = λ b. refl;
  both = λ a b. (min a b, refl, omega arith, omega arith, min_one a b);
}

-- Leavings

abbrev pub lowest_end : {E : Type 0} → (E → Option Leaving) → Option Leaving → List E → Option Leaving
lowest_end {E} value best es = lowest_by lower_end value best es

earlier-Decides : (a b : Leaving) → Decides (is_earlier a b) ((a.token < b.token) ⊎ ((a.token ≡ b.token) × (a.found <ℤ b.found)))
earlier-Decides a b =
    Decides-or _ _ (Decides-ltb a.token b.token) (Decides-and _ _ (Decides-eqb a.token b.token) (λ passed. lt_z_yes (subst T (sym passed) tt), λ below. grind (arith, ints)))

no_later-same : (a : Leaving) → IsNoLater a a
no_later-same a = (omega arith, λ e. omega (arith, ints))

lower_both : (a b : Leaving) → (c : Leaving) × (lower_end (Some a) (Some b) ≡ Some c) × IsNoLater c a × IsNoLater c b × ((c ≡ a) ⊎ (c ≡ b))
lower_both a b = by (is_earlier b a) refl
  where
    by : (test : Bool) → is_earlier b a ≡ test
        → (c : Leaving) × (Some (if test then b else a) ≡ Some c) × IsNoLater c a × IsNoLater c b × ((c ≡ a) ⊎ (c ≡ b))
    by true e =
        elim ((earlier-Decides b a).0 e) [
          | inl below ↦ (b, refl, (omega arith, λ equal. absurd (omega arith)), no_later-same b, inr refl)
          | inr same ↦ (b, refl, (omega (arith, same.0), λ equal. omega (arith, ints, same.1)), no_later-same b, inr refl)
        ]
    by false e =
        let never = not_from_Decides _ (earlier-Decides b a) e in
        let tokens : a.token ≤ b.token = elim (cases_lt b.token a.token) [ inl below ↦ absurd (never (inl below)) | inr above ↦ above ] in
        (a, refl, no_later-same a, (tokens, λ equal. by_lt_z b.found a.found (λ below. absurd (never (inr (sym equal, below)))) (λ above. above)), inl refl)

pub lower_end_picks : Picks IsNoLater lower_end
lower_end_picks = record {
  same = no_later-same;
  chain = λ a b c ab bc. (omega (arith, ab.0, bc.0), λ equal. let one : a.token ≡ b.token = omega (arith, ab.0, bc.0, equal) in let two : b.token ≡ c.token = omega (arith, ab.0, bc.0, equal) in omega (arith, ints, ab.1 one, bc.1 two));
  left = elim [ None ↦ refl | Some a ↦ refl ];
  right = λ b. refl;
  both = lower_both;
}
