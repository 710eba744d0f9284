-- One body more is told.
use Rattle.std.proofs.Common.{◌≡◌, ℕ, Bool, true, false, List, [], ◌∷◌, ◌++◌, map, Some, Result, if◌then◌else◌, refl, sym, ap, ◌∙◌, nat_eq}
use Rattle.std.proofs.lemmas.Bool.{eqb-true}
use Rattle.std.proofs.lemmas.List.{map-append}
use Rattle.meaning_layout.specs.Layouts.{Layout, LayoutFault}
use Rattle.meaning_layout.specs.Members.{DeclaredBody, Names, names_before, names_in_order, names_of_members, no_names, tell_names}
use Rattle.meaning_layout.specs.Sizes.{Told}
use Rattle.meaning_layout.specs.Telling.{ToldBody, layout_told, nothing_told, tell, told_before, told_in_order}
use Rattle.meaning_layout.proofs.TellingLemmas.{told_in_order-push}
use Rattle.meaning_typing.specs.Aggregates.{Bodies, KnownAggregates, aggregates_of, const_before, const_in_order, is_any_const, tell_const}
use Rattle.node_judge.specs.Bodies.{aggregates_with}

abbrev Entry : Type 0
Entry = ℕ × DeclaredBody (List ℕ)

-- the bodies alone
abbrev bodies_alone : Bodies → List (ℕ × ToldBody)
bodies_alone bodies = map (λ entry. (entry.0, entry.1.body)) bodies

names-push : (bodies : Bodies) (told : Told) (names : ℕ → Names (List ℕ)) (entry : Entry)
    → names_in_order told names (bodies ++ entry ∷ [])
    ≡ tell_names (told_in_order told (bodies_alone bodies)) (names_in_order told names bodies) entry.0 entry.1.members
names-push [] told names entry = refl
names-push (first ∷ bodies) told names entry =
    names-push bodies (tell told first.0 first.1.body) (tell_names told names first.0 first.1.members) entry

const-push : (bodies : Bodies) (told : Told) (has_const : ℕ → Bool) (entry : Entry)
    → const_in_order told has_const (bodies ++ entry ∷ [])
    ≡ tell_const (told_in_order told (bodies_alone bodies)) (const_in_order told has_const bodies) entry.0 entry.1.members
const-push [] told has_const entry = refl
const-push (first ∷ bodies) told has_const entry =
    const-push bodies (tell told first.0 first.1.body) (tell_const told has_const first.0 first.1.members) entry

told-push : (bodies : Bodies) (entry : Entry)
    → told_in_order nothing_told (bodies_alone (bodies ++ entry ∷ [])) ≡ tell (told_in_order nothing_told (bodies_alone bodies)) entry.0 entry.1.body
told-push bodies entry =
    ap (told_in_order nothing_told) (map-append (λ (one : Entry). (one.0, one.1.body)) bodies (entry ∷ []))
    ∙ told_in_order-push nothing_told (bodies_alone bodies) entry.0 entry.1.body

-- what is known of aggregates behind one body more
pub aggregates-push : (bodies : Bodies) (entry : Entry) → aggregates_of (bodies ++ entry ∷ []) ≡ aggregates_with (aggregates_of bodies) entry
aggregates-push bodies entry =
    λ i. record {
      told = told-push bodies entry i;
      names = names-push bodies nothing_told no_names entry i;
      has_const = const-push bodies nothing_told (λ number. false) entry i;
    }

-- one that was told before stays as it was told

module _ (aggregates : KnownAggregates) (entry : Entry) (again : (is_union : Bool) → (made : Result Layout LayoutFault) × (aggregates.told entry.0 is_union ≡ Some made)) where
  told-stays : (number : ℕ) (is_union : Bool) → tell aggregates.told entry.0 entry.1.body number is_union ≡ aggregates.told number is_union
  told-stays number is_union = by (nat_eq number entry.0) refl
    where
      later : Result Layout LayoutFault
      later = layout_told aggregates.told entry.1.body is_union

      by : (test : Bool) → nat_eq number entry.0 ≡ test
          → (if test then told_before (aggregates.told number is_union) later else aggregates.told number is_union) ≡ aggregates.told number is_union
      by true same =
          let is = ap (λ one. aggregates.told one is_union) (eqb-true number entry.0 same) ∙ (again is_union).1 in
          ap (λ found. told_before found later) is ∙ sym is
      by false differs = refl

  names-stay : (number : ℕ) → tell_names aggregates.told aggregates.names entry.0 entry.1.members number ≡ aggregates.names number
  names-stay number = by (nat_eq number entry.0) refl
    where
      later : Names (List ℕ)
      later = names_of_members aggregates.told aggregates.names 0 entry.1.members

      by : (test : Bool) → nat_eq number entry.0 ≡ test
          → (if test then names_before (aggregates.told number false) (aggregates.names number) later else aggregates.names number) ≡ aggregates.names number
      by true same =
          ap (λ found. names_before found (aggregates.names number) later)
          (ap (λ one. aggregates.told one false) (eqb-true number entry.0 same) ∙ (again false).1)
      by false differs = refl

  const-stays : (number : ℕ) → tell_const aggregates.told aggregates.has_const entry.0 entry.1.members number ≡ aggregates.has_const number
  const-stays number = by (nat_eq number entry.0) refl
    where
      later : Bool
      later = is_any_const aggregates.has_const entry.1.members

      by : (test : Bool) → nat_eq number entry.0 ≡ test
          → (if test then const_before (aggregates.told number false) (aggregates.has_const number) later else aggregates.has_const number) ≡ aggregates.has_const number
      by true same =
          ap (λ found. const_before found (aggregates.has_const number) later)
          (ap (λ one. aggregates.told one false) (eqb-true number entry.0 same) ∙ (again false).1)
      by false differs = refl

  pub aggregates-again : aggregates_with aggregates entry ≡ aggregates
  aggregates-again =
      λ i. record {
        told = λ number is_union. told-stays number is_union i;
        names = λ number. names-stay number i;
        has_const = λ number. const-stays number i;
      }
