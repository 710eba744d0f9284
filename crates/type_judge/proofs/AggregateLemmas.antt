-- What a table knows of structures and unions is what the bodies tell that stand before.
use Rattle.std.proofs.Common.{◌≡◌, ℕ, nat_eq, Bool, true, false, cond, List, [], ◌∷◌, Option, Some, None, if◌then◌else◌, refl, sym, ap, ◌∙◌, arith}
use Rattle.std.proofs.lemmas.Bool.Decides.{nat_tests}
use Rattle.std.specs.Map.{lookup}
use Rattle.std.specs.Str.{bytes_eq}
use Rattle.meaning_layout.specs.Members.{DeclaredBody, DeclaredMember, named_member}
use Rattle.meaning_initializers.specs.Parts.{members_told}
use Rattle.meaning_initializers.specs.Reading.{aggregates_behind}
use Rattle.meaning_typing.specs.Aggregates.{Bodies, KnownAggregates}
use Rattle.meaning_typing.specs.MemberRows.{aggregates_before}
use Rattle.meaning_typing.specs.Surroundings.{Surrounding}
use Rattle.meaning_typing.specs.Units.{UnitNodes}
use Rattle.c_types.specs.Layouts.{told_in}
use Rattle.initialized_judge.specs.Laws.{TablesKnowAggregates}
use Rattle.initialized_judge.specs.Steps.{AreKnownIn}
use Rattle.node_judge.specs.Aggregates.{bodies_in}
use Rattle.node_judge.proofs.AggregateLemmas.{told_is}
use Rattle.node_facts.specs.Facts.{name_seen}
use Rattle.node_judge.specs.declared.known.Known.{Known}
use Rattle.node_judge.specs.Bodies.{AreOneFirst}
use Rattle.node_judge.specs.Known.{IsKnownOf, facts_seen, table_of}

-- the members of a body, if there is one
abbrev members_if : Option (DeclaredBody (List ℕ)) → List (DeclaredMember (List ℕ))
members_if None = []
members_if (Some body) = body.members

nat_eq-comm : (m n : ℕ) → nat_eq m n ≡ nat_eq n m
nat_eq-comm m n = grind (arith, nat_tests)

first_members : (bodies : Bodies) (number : ℕ) → members_told bodies number ≡ members_if (lookup (nat_eq number) bodies)
first_members [] number = refl
first_members (entry ∷ bodies) number =
    ap (λ (test : Bool). if test then entry.1.members else members_told bodies number) (nat_eq-comm entry.0 number)
    ∙ by (nat_eq number entry.0) (members_told bodies number) (lookup (nat_eq number) bodies) (first_members bodies number)
  where
    by : (test : Bool) (others : List (DeclaredMember (List ℕ))) (found : Option (DeclaredBody (List ℕ))) → others ≡ members_if found
        → (if test then entry.1.members else others) ≡ members_if (cond test (Some entry.1) found)
    by true others found same = refl
    by false others found same = same

-- where the first of each are one
told_alike : (bodies others : Bodies) → AreOneFirst bodies others → (number : ℕ) → members_told bodies number ≡ members_told others number
told_alike bodies others same number = first_members bodies number ∙ ap members_if (same number) ∙ sym (first_members others number)

module _ (nodes : UnitNodes) (surroundings : List Surrounding) (count : ℕ) (known : Known) (is : IsKnownOf nodes surroundings count (facts_seen known) known) where
  pub known_aggregates : TablesKnowAggregates → AreKnownIn (table_of known) (aggregates_behind nodes surroundings (facts_seen known))
  known_aggregates know =
      let table = table_of known in
      let mine = know table in
      record {
        members = λ number. sym (told_alike (bodies_in table) _ is.bodies.first number) ∙ mine.members number;
        names = λ number name.
            ap (λ (aggregates : KnownAggregates). named_member bytes_eq (aggregates.names number) (name_seen name)) (sym is.bodies.told) ∙ mine.names number name;
      }

  pub told_before : told_in (table_of known) ≡ (aggregates_before nodes surroundings (facts_seen known)).told
  told_before = sym (told_is (table_of known)) ∙ ap (λ (aggregates : KnownAggregates). aggregates.told) is.bodies.told
