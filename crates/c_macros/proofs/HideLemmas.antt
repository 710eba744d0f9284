-- What the sets of numbers say of the names that are hidden.
use Rattle.std.proofs.Common.{◌≡◌, ℕ, Bool, true, false, ◌||◌, ◌&&◌, nat_eq, List, [], ◌∷◌, length, slice_get, unwrap_or, refl, sym, ap, ◌∙◌, ◌⊎◌, ⊎_elim, inl, inr, length-append, true≢false, arith}
use Rattle.std.specs.List.{list_any}
use Rattle.std.specs.Str.{bytes_eq}
use Rattle.std.specs.Cmp.{nat_eq_equiv}
use Rattle.std.proofs.lemmas.Bool.{eq-eqb}
use Rattle.std.proofs.lemmas.Bool.Decides.{eqb_tells}
use Rattle.std.proofs.lemmas.List.{append-nil}
use Rattle.std.proofs.lemmas.Slice.Eq.{bytes_eq-Decides}
use Rattle.c_tokens.specs.Seen.{Extends}
use Rattle.c_tokens.proofs.SeenLemmas.{text_of-Extends, IsKnown-Extends}
use Rattle.number_sets.proofs.TableLemmas.{slice_get-append}
use Rattle.meaning_macros.specs.Hiding.{NameSet, only, common, joined}
use Rattle.number_sets.specs.NumberSets.{IsSet, holds, numbers_at}
use Rattle.number_sets.specs.NumberSets as sets
use Rattle.number_sets.specs.declared.sets.SetId.{SetId}
use Rattle.sparse_model.specs.declared.ids.NameId.{NameId}
use Rattle.c_macros.specs.Seen.{KeepsApart, Spelling}
use Rattle.c_macros.specs.Reading.{Reading, Reads, names_of}

-- a name is one of those with these numbers where its own is one of them
names_of-has : (s : Spelling) → KeepsApart s → (id : NameId) (numbers : List ℕ) → names_of s numbers (s id) ≡ list_any (nat_eq id.0) numbers
names_of-has s apart id [] = refl
names_of-has s apart id (n ∷ numbers) =
    λ i. (apart (record { 0 = n }) id ∙ nat_eq_equiv.symm n id.0) i || names_of-has s apart id numbers i

or-left : (a b : Bool) → a ≡ true → (a || b) ≡ true
or-left true b h = refl
or-left false b h = absurd (true≢false (sym h))

or-right : (a b : Bool) → b ≡ true → (a || b) ≡ true
or-right true b h = refl
or-right false b h = h

or-cases : (a b : Bool) → (a || b) ≡ true → (a ≡ true) ⊎ (b ≡ true)
or-cases true b h = inl refl
or-cases false b h = inr h

and-left : (a b : Bool) → (a && b) ≡ true → a ≡ true
and-left true b h = refl
and-left false b h = h

and-right : (a b : Bool) → (a && b) ≡ true → b ≡ true
and-right true b h = h
and-right false b h = absurd (true≢false (sym h))

and-both : (a b : Bool) → a ≡ true → b ≡ true → (a && b) ≡ true
and-both true b h k = k
and-both false b h k = h

eqb-eq : (a b : ℕ) → nat_eq a b ≡ true → a ≡ b
eqb-eq a b h = ⊎_elim (λ same. same.1) (λ other. absurd (true≢false (sym h ∙ other.0))) (eqb_tells a b)

-- two answers that hold together
alike : (a b : Bool) → (a ≡ true → b ≡ true) → (b ≡ true → a ≡ true) → a ≡ b
alike true true to from = refl
alike true false to from = absurd (true≢false (sym (to refl)))
alike false true to from = absurd (true≢false (sym (from refl)))
alike false false to from = refl

-- an id of a name among those with these numbers
record Named (s : Spelling) (numbers : List ℕ) (name : List ℕ) : Type 0 where
  id : NameId
  spelled : bytes_eq (s id) name ≡ true
  has : list_any (nat_eq id.0) numbers ≡ true

named-from : (s : Spelling) (numbers : List ℕ) (name : List ℕ) → names_of s numbers name ≡ true → Named s numbers name
named-from s [] name h = absurd (true≢false (sym h))
named-from s (n ∷ numbers) name h = ⊎_elim
    (λ here. record { id = record { 0 = n }; spelled = here; has = or-left (nat_eq n n) (list_any (nat_eq n) numbers) (eq-eqb n n refl) })
    (λ there. let later = named-from s numbers name there in
    record { id = later.id; spelled = later.spelled; has = or-right (nat_eq later.id.0 n) (list_any (nat_eq later.id.0) numbers) later.has })
    (or-cases (bytes_eq (s (record { 0 = n })) name) (names_of s numbers name) h)

named-to : (s : Spelling) (numbers : List ℕ) (name : List ℕ) → Named s numbers name → names_of s numbers name ≡ true
named-to s numbers name named =
    by numbers named.has
  where
    by : (ns : List ℕ) → list_any (nat_eq named.id.0) ns ≡ true → names_of s ns name ≡ true
    by [] h = absurd (true≢false (sym h))
    by (n ∷ ns) h = ⊎_elim
        (λ here. or-left (bytes_eq (s (record { 0 = n })) name) (names_of s ns name)
        (ap (λ k. bytes_eq (s (record { 0 = k })) name) (sym (eqb-eq named.id.0 n here)) ∙ named.spelled))
        (λ there. or-right (bytes_eq (s (record { 0 = n })) name) (names_of s ns name) (by ns there))
        (or-cases (nat_eq named.id.0 n) (list_any (nat_eq named.id.0) ns) h)

names_of-either : (s : Spelling) (all left right : List ℕ) → ((n : ℕ) → list_any (nat_eq n) all ≡ (list_any (nat_eq n) left || list_any (nat_eq n) right))
    → (name : List ℕ) → names_of s all name ≡ (names_of s left name || names_of s right name)
names_of-either s all left right members name = alike (names_of s all name) (names_of s left name || names_of s right name) to from
  where
    to : names_of s all name ≡ true → (names_of s left name || names_of s right name) ≡ true
    to h =
        let one = named-from s all name h in ⊎_elim
        (λ l. or-left _ _ (named-to s left name (record { id = one.id; spelled = one.spelled; has = l })))
        (λ r. or-right _ _ (named-to s right name (record { id = one.id; spelled = one.spelled; has = r })))
        (or-cases _ _ (sym (members one.id.0) ∙ one.has))

    from : (names_of s left name || names_of s right name) ≡ true → names_of s all name ≡ true
    from h = ⊎_elim
        (λ l. let one = named-from s left name l in named-to s all name (record { id = one.id; spelled = one.spelled; has = members one.id.0 ∙ or-left _ _ one.has }))
        (λ r. let one = named-from s right name r in named-to s all name (record { id = one.id; spelled = one.spelled; has = members one.id.0 ∙ or-right _ _ one.has }))
        (or-cases _ _ h)

-- ids that are spelled alike are one
one_id : (s : Spelling) → KeepsApart s → (i j : NameId) (name : List ℕ) → bytes_eq (s i) name ≡ true → bytes_eq (s j) name ≡ true → i.0 ≡ j.0
one_id s apart i j name first second =
    eqb-eq i.0 j.0 (sym (apart i j) ∙ ap (bytes_eq (s i)) ((bytes_eq-Decides (s j) name).0 second) ∙ first)

names_of-both : (s : Spelling) → KeepsApart s → (all left right : List ℕ) → ((n : ℕ) → list_any (nat_eq n) all ≡ (list_any (nat_eq n) left && list_any (nat_eq n) right))
    → (name : List ℕ) → names_of s all name ≡ (names_of s left name && names_of s right name)
names_of-both s apart all left right members name = alike (names_of s all name) (names_of s left name && names_of s right name) to from
  where
    to : names_of s all name ≡ true → (names_of s left name && names_of s right name) ≡ true
    to h =
        let one = named-from s all name h in
        let both = sym (members one.id.0) ∙ one.has in
        let l = list_any (nat_eq one.id.0) left in
        let r = list_any (nat_eq one.id.0) right in
        and-both (names_of s left name) (names_of s right name) (named-to s left name (record { id = one.id; spelled = one.spelled; has = and-left l r both }))
        (named-to s right name (record { id = one.id; spelled = one.spelled; has = and-right l r both }))

    from : (names_of s left name && names_of s right name) ≡ true → names_of s all name ≡ true
    from h =
        let l = named-from s left name (and-left (names_of s left name) (names_of s right name) h) in
        let r = named-from s right name (and-right (names_of s left name) (names_of s right name) h) in
        let same = one_id s apart r.id l.id name r.spelled l.spelled in
        named-to s all name (record { id = l.id; spelled = l.spelled; has = members l.id.0 ∙ and-both (list_any (nat_eq l.id.0) left) (list_any (nat_eq l.id.0) right) l.has (ap (λ n. list_any (nat_eq n) right) (sym same) ∙ r.has) })

-- what reads the later tables reads the earlier ones
pub Reads-earlier : (names later : List (List ℕ)) (table grown : sets.Table) (r : Reading) → Extends names later → sets.Extends table grown → Reads later grown r → Reads names table r
Reads-earlier names later table grown r more_names more_sets reads = record {
  spells = record {
    texts = λ id known. reads.spells.texts id (IsKnown-Extends names later more_names id known) ∙ text_of-Extends names later more_names id known;
    apart = reads.spells.apart;
    empty = reads.spells.empty;
  };
  hides = λ set is. reads.hides set (omega (arith, is, ap length more_sets.1, length-append table more_sets.0))
      ∙ ap (λ found. names_of r.spelled (unwrap_or found [])) (ap (λ t. slice_get t set.0) more_sets.1 ∙ slice_get-append table more_sets.0 set.0 is);
}

-- the union of two sets of an earlier table
pub hidden-union : (names : List (List ℕ)) (table grown : sets.Table) (r : Reading) → sets.Extends table grown → Reads names grown r → (left right found : SetId) → IsSet table left → IsSet table right → IsSet grown found
    → ((n : ℕ) → holds grown found n ≡ (holds table left n || holds table right n)) → r.hidden found ≡ joined (r.hidden left) (r.hidden right)
hidden-union names table grown r more reads left right found is_left is_right is members =
    let before = Reads-earlier names names table grown r ([], sym (append-nil names)) more reads in
    reads.hides found is ∙ (λ i name. names_of-either r.spelled (numbers_at grown found.0) (numbers_at table left.0) (numbers_at table right.0) members name i)
    ∙ λ i. joined (sym (before.hides left is_left) i) (sym (before.hides right is_right) i)

-- the intersection
pub hidden-intersection : (names : List (List ℕ)) (table grown : sets.Table) (r : Reading) → sets.Extends table grown → Reads names grown r → (left right found : SetId) → IsSet table left → IsSet table right → IsSet grown found
    → ((n : ℕ) → holds grown found n ≡ (holds table left n && holds table right n)) → r.hidden found ≡ common (r.hidden left) (r.hidden right)
hidden-intersection names table grown r more reads left right found is_left is_right is members =
    let before = Reads-earlier names names table grown r ([], sym (append-nil names)) more reads in
    reads.hides found is ∙ (λ i name. names_of-both r.spelled reads.spells.apart (numbers_at grown found.0) (numbers_at table left.0) (numbers_at table right.0) members name i)
    ∙ λ i. common (sym (before.hides left is_left) i) (sym (before.hides right is_right) i)

bytes_eq-turned : (a b : List ℕ) → bytes_eq a b ≡ bytes_eq b a
bytes_eq-turned a b = alike _ _
    (λ h. (bytes_eq-Decides b a).1 (sym ((bytes_eq-Decides a b).0 h)))
    (λ h. (bytes_eq-Decides a b).1 (sym ((bytes_eq-Decides b a).0 h)))

-- a set with one more name
pub hidden-with : (names : List (List ℕ)) (table grown : sets.Table) (r : Reading) → sets.Extends table grown → Reads names grown r → (set found : SetId) (id : NameId) → IsSet table set → IsSet grown found
    → ((n : ℕ) → holds grown found n ≡ (nat_eq n id.0 || holds table set n)) → r.hidden found ≡ joined (r.hidden set) (only (r.spelled id))
hidden-with names table grown r more reads set found id is_set is members =
    let before = Reads-earlier names names table grown r ([], sym (append-nil names)) more reads in
    reads.hides found is
    ∙ (λ i name. (names_of-either r.spelled (numbers_at grown found.0) (numbers_at table set.0) (id.0 ∷ [])
    (λ n. members n ∙ turned (nat_eq n id.0) (holds table set n)) name
    ∙ ap (λ one. names_of r.spelled (numbers_at table set.0) name || one) (one_only (bytes_eq (r.spelled id) name) ∙ bytes_eq-turned (r.spelled id) name)) i)
    ∙ ap (λ hides. joined hides (only (r.spelled id))) (sym (before.hides set is_set))
  where
    turned : (a b : Bool) → (a || b) ≡ (b || (a || false))
    turned true true = refl
    turned true false = refl
    turned false true = refl
    turned false false = refl

    one_only : (a : Bool) → (a || false) ≡ a
    one_only true = refl
    one_only false = refl
