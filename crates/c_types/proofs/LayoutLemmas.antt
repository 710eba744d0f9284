-- What is kept of aggregates is what their bodies told.
use Rattle.std.proofs.Common.{◌≡◌, ℕ, suc, ◌<◌, Bool, true, false, cond, nat_eq, List, [], ◌∷◌, ◌++◌, All, IfOk, IfSome, Option, Some, None, Result, Ok, Err, length, map, option_map, refl, sym, ap, ◌∙◌, subst}
use Rattle.std.proofs.lemmas.Bool.{eqb-true}
use Rattle.std.proofs.lemmas.List.{map-append}
use Rattle.std.proofs.lemmas.List.Elements.{All-head, All-tail}
use Rattle.std.proofs.lemmas.Map.Made.{lookup-map_values}
use Rattle.std.specs.List.{AllByRecursion}
use Rattle.std.specs.Map.{lookup}
use Rattle.indexmap.specs.IndexMap.{insert_entry}
use Rattle.meaning_types.specs.Types.{TypeTree}
use Rattle.meaning_layout.specs.Layouts.{Layout, LayoutFault}
use Rattle.meaning_layout.specs.Telling.{layout_told, nothing_told, or_incomplete, tell, told_before, told_in_order}
use Rattle.meaning_layout.proofs.TellingLemmas.{layout_told-counted, told_in_order-found, told_in_order-none, told_in_order-push}
use Rattle.body_layout.specs.Seen.{IsNarrow}
use Rattle.c_types.specs.declared.bodies.AggregateBody.{AggregateBody}
use Rattle.c_types.specs.declared.bodies.Member.{Member}
use Rattle.c_types.specs.declared.layouts.AggregateLayout.{AggregateLayout}
use Rattle.c_types.specs.Layouts.{AreNarrow, IsNarrowLayout, body_seen, body_told, layout_kept, member_told, told_kept, told_of_bodies}
use Rattle.c_types.specs.Table.{IsBodyOver}
use Rattle.c_types.proofs.Forms.{numbered-kept}

-- More types

pub members-later : (types more : List TypeTree) (members : List Member) → All (λ member. member.of.0 < length types) members → map (member_told (types ++ more)) members ≡ map (member_told types) members
members-later types more [] all = refl
members-later types more (member ∷ members) all =
    let same = numbered-kept types more member.of.0 (All-head (λ m. m.of.0 < length types) member members all) in
    let rest = members-later types more members (All-tail (λ m. m.of.0 < length types) member members all) in
    λ i. record (member_told types member) { of = same i } ∷ rest i

bodies-later : (types more : List TypeTree) (bodies : List (ℕ × AggregateBody)) → AllByRecursion (λ entry. IsBodyOver types entry.1) bodies → map (body_told (types ++ more)) bodies ≡ map (body_told types) bodies
bodies-later types more [] all = refl
bodies-later types more (entry ∷ bodies) all =
    let same = members-later types more entry.1.members all.0 in
    let rest = bodies-later types more bodies all.1 in
    λ i. (entry.0, record (body_seen types entry.1) { members = same i }) ∷ rest i

-- what was told stays where types join
pub told_of_bodies-later : (types more : List TypeTree) (bodies : List (ℕ × AggregateBody)) → AllByRecursion (λ entry. IsBodyOver types entry.1) bodies → told_of_bodies (types ++ more) bodies ≡ told_of_bodies types bodies
told_of_bodies-later types more bodies all = ap (told_in_order nothing_told) (bodies-later types more bodies all)

-- One more aggregate

-- what is looked up behind a new entry
module _ {X : Type 0} (number key : ℕ) (value : X) where
  pub lookup-same : (entries : List (ℕ × X)) → number ≡ key → nat_eq number key ≡ true → lookup (nat_eq number) (insert_entry nat_eq entries key value) ≡ Some value
  lookup-same [] same e = ap (λ test. cond test (Some value) None) e
  lookup-same (entry ∷ entries) same e = by (nat_eq key entry.0) refl (lookup-same entries same e)
    where
      by : (test : Bool) → nat_eq key entry.0 ≡ test → lookup (nat_eq number) (insert_entry nat_eq entries key value) ≡ Some value → lookup (nat_eq number) (insert_entry nat_eq (entry ∷ entries) key value) ≡ Some value
      by true f later =
          ap (λ test. lookup (nat_eq number) (cond test ((entry.0, value) ∷ entries) (entry ∷ insert_entry nat_eq entries key value))) f
          ∙ ap (λ test. cond test (Some value) (lookup (nat_eq number) entries)) (ap (λ n. nat_eq n entry.0) same ∙ f)
      by false f later =
          ap (λ test. lookup (nat_eq number) (cond test ((entry.0, value) ∷ entries) (entry ∷ insert_entry nat_eq entries key value))) f
          ∙ ap (λ test. cond test (Some entry.1) (lookup (nat_eq number) (insert_entry nat_eq entries key value))) (ap (λ n. nat_eq n entry.0) same ∙ f) ∙ later

  pub lookup-other : (entries : List (ℕ × X)) → nat_eq number key ≡ false → lookup (nat_eq number) (insert_entry nat_eq entries key value) ≡ lookup (nat_eq number) entries
  lookup-other [] e = ap (λ test. cond test (Some value) None) e
  lookup-other (entry ∷ entries) e = by (nat_eq key entry.0) refl (lookup-other entries e)
    where
      by : (test : Bool) → nat_eq key entry.0 ≡ test → lookup (nat_eq number) (insert_entry nat_eq entries key value) ≡ lookup (nat_eq number) entries
          → lookup (nat_eq number) (insert_entry nat_eq (entry ∷ entries) key value) ≡ lookup (nat_eq number) (entry ∷ entries)
      by true f later =
          let apart : nat_eq number entry.0 ≡ false = ap (nat_eq number) (sym (eqb-true key entry.0 f)) ∙ e in
          ap (λ test. lookup (nat_eq number) (cond test ((entry.0, value) ∷ entries) (entry ∷ insert_entry nat_eq entries key value))) f
          ∙ ap (λ test. cond test (Some value) (lookup (nat_eq number) entries)) apart
          ∙ sym (ap (λ test. cond test (Some entry.1) (lookup (nat_eq number) entries)) apart)
      by false f later =
          ap (λ test. lookup (nat_eq number) (cond test ((entry.0, value) ∷ entries) (entry ∷ insert_entry nat_eq entries key value))) f
          ∙ ap (λ rest. cond (nat_eq number entry.0) (Some entry.1) rest) later

-- an aggregate without a body wasn't told
pub told_of_bodies-none : (types : List TypeTree) (bodies : List (ℕ × AggregateBody)) (number : ℕ) (is_union : Bool) → lookup (nat_eq number) bodies ≡ None → told_of_bodies types bodies number is_union ≡ None
told_of_bodies-none types bodies number is_union none =
    told_in_order-none number is_union (map (body_told types) bodies) nothing_told refl (lookup-map_values (body_seen types) (nat_eq number) bodies ∙ ap (option_map (body_seen types)) none)

-- as the last one it is told behind the others
pub told_of_bodies-push : (types : List TypeTree) (bodies : List (ℕ × AggregateBody)) (aggregate : ℕ) (body : AggregateBody) → told_of_bodies types (bodies ++ (aggregate, body) ∷ []) ≡ tell (told_of_bodies types bodies) aggregate (body_seen types body)
told_of_bodies-push types bodies aggregate body =
    ap (told_in_order nothing_told) (map-append (body_told types) bodies ((aggregate, body) ∷ []))
    ∙ told_in_order-push nothing_told (map (body_told types) bodies) aggregate (body_seen types body)

module _ (types : List TypeTree) (bodies : List (ℕ × AggregateBody)) (layouts : List (ℕ × AggregateLayout)) (aggregate : ℕ) (body : AggregateBody) (made : AggregateLayout) where
  abbrev grown : List (ℕ × AggregateLayout)
  grown = insert_entry nat_eq layouts aggregate made

  module _ (right : told_kept layouts ≡ told_of_bodies types bodies) (untold : lookup (nat_eq aggregate) bodies ≡ None)
      (structure : layout_kept made false ≡ layout_told (told_kept layouts) (body_seen types body) false)
      (union : layout_kept made true ≡ layout_told (told_kept layouts) (body_seen types body) true) where
    either : (is_union : Bool) → layout_kept made is_union ≡ layout_told (told_of_bodies types bodies) (body_seen types body) is_union
    either true = union ∙ ap (λ told. layout_told told (body_seen types body) true) right
    either false = structure ∙ ap (λ told. layout_told told (body_seen types body) false) right

    told_at : (number : ℕ) (is_union : Bool) → told_kept grown number is_union ≡ tell (told_of_bodies types bodies) aggregate (body_seen types body) number is_union
    told_at number is_union = by (nat_eq number aggregate) refl
      where
        by : (test : Bool) → nat_eq number aggregate ≡ test → told_kept grown number is_union ≡ tell (told_of_bodies types bodies) aggregate (body_seen types body) number is_union
        by true e =
            let same = eqb-true number aggregate e in
            let none = told_of_bodies-none types bodies number is_union (ap (λ n. lookup (nat_eq n) bodies) same ∙ untold) in
            ap (option_map (λ kept. layout_kept kept is_union)) (lookup-same number aggregate made layouts same e)
            ∙ ap Some (either is_union)
            ∙ sym (ap (λ found. told_before found (layout_told (told_of_bodies types bodies) (body_seen types body) is_union)) none)
            ∙ sym (ap (λ test. cond test (told_before (told_of_bodies types bodies number is_union) (layout_told (told_of_bodies types bodies) (body_seen types body) is_union)) (told_of_bodies types bodies number is_union)) e)
        by false e =
            ap (option_map (λ kept. layout_kept kept is_union)) (lookup-other number aggregate made layouts e)
            ∙ (λ i. right i number is_union)
            ∙ sym (ap (λ test. cond test (told_before (told_of_bodies types bodies number is_union) (layout_told (told_of_bodies types bodies) (body_seen types body) is_union)) (told_of_bodies types bodies number is_union)) e)

    pub told_kept-push : told_kept grown ≡ told_of_bodies types (bodies ++ (aggregate, body) ∷ [])
    told_kept-push = (λ i number is_union. told_at number is_union i) ∙ sym (told_of_bodies-push types bodies aggregate body)

  pub narrow-push : AreNarrow (told_kept layouts) → IsNarrowLayout made → AreNarrow (told_kept grown)
  narrow-push are is = λ number is_union. by number is_union (nat_eq number aggregate) refl
    where
      by : (number : ℕ) (is_union : Bool) (test : Bool) → nat_eq number aggregate ≡ test → IfSome (told_kept grown number is_union) (λ found. IfOk found (λ layout. IsNarrow layout.size layout.align))
      by number is_union true e =
          subst (λ found. IfSome (option_map (λ kept. layout_kept kept is_union) found) (λ m. IfOk m (λ layout. IsNarrow layout.size layout.align)))
          (sym (lookup-same number aggregate made layouts (eqb-true number aggregate e) e)) (is is_union)
      by number is_union false e =
          subst (λ found. IfSome (option_map (λ kept. layout_kept kept is_union) found) (λ m. IfOk m (λ layout. IsNarrow layout.size layout.align)))
          (sym (lookup-other number aggregate made layouts e)) (are number is_union)

-- A member has a first bit

ok_or_fault : (made : Result Layout LayoutFault) (member count : ℕ) → member < count → ((layout : Layout) → made ≡ Ok layout → length layout.first_bits ≡ count) → IfOk made (λ layout. member < length layout.first_bits)
ok_or_fault (Err fault) member count inside counted = tt
ok_or_fault (Ok layout) member count inside counted = subst (λ n. member < n) (sym (counted layout refl)) inside

length-told : (types : List TypeTree) (members : List Member) → length (map (member_told types) members) ≡ length members
length-told types [] = refl
length-told types (member ∷ members) = ap suc (length-told types members)

pub member-inside : (types : List TypeTree) (bodies : List (ℕ × AggregateBody)) (aggregate : ℕ) (is_union : Bool) (member : ℕ) → IfSome (lookup (nat_eq aggregate) bodies) (λ body. member < length body.members)
    → IfOk (or_incomplete (told_of_bodies types bodies aggregate is_union)) (λ layout. member < length layout.first_bits)
member-inside types bodies aggregate is_union member has = by (lookup (nat_eq aggregate) bodies) refl
  where
    by : (found : Option AggregateBody) → lookup (nat_eq aggregate) bodies ≡ found → IfOk (or_incomplete (told_of_bodies types bodies aggregate is_union)) (λ layout. member < length layout.first_bits)
    by None e = subst (λ made. IfOk (or_incomplete made) (λ layout. member < length layout.first_bits)) (sym (told_of_bodies-none types bodies aggregate is_union e)) tt
    by (Some body) e =
        let inside : member < length body.members = subst (λ found. IfSome found (λ b. member < length b.members)) e has in
        let told = told_in_order-found aggregate is_union (map (body_told types) bodies) nothing_told (body_seen types body) refl
        (lookup-map_values (body_seen types) (nat_eq aggregate) bodies ∙ ap (option_map (body_seen types)) e)
        in
        subst (λ made. IfOk (or_incomplete made) (λ layout. member < length layout.first_bits)) (sym told.1)
        (ok_or_fault (layout_told told.0 (body_seen types body) is_union) member (length body.members) inside
        (λ layout is. layout_told-counted told.0 (body_seen types body) is_union layout is ∙ length-told types body.members))
