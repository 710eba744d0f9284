-- What bodies tell of members, and what a table knows of them.
use Rattle.std.proofs.Common.{◌≡◌, ℕ, nat_eq, Bool, true, false, List, [], ◌∷◌, map, Option, Some, refl, ap, ◌∙◌, arith, if◌then◌else◌}
use Rattle.std.proofs.lemmas.Bool.Decides.{nat_tests}
use Rattle.std.specs.Map.{lookup}
use Rattle.meaning_initializers.specs.Parts.{members_told}
use Rattle.meaning_types.specs.Types.{TypeTree}
use Rattle.meaning_layout.specs.Members.{DeclaredMember}
use Rattle.c_types.specs.declared.bodies.AggregateBody.{AggregateBody}
use Rattle.c_types.specs.Members.{body_declared, member_declared}
use Rattle.c_types.specs.Table.{types_in}
use Rattle.member_rows.specs.Aggregates.{body_spelled, member_spelled}
use Rattle.member_rows.proofs.AggregateLemmas.{named_is}
use Rattle.initializer_levels.specs.Parts.{members_seen}
use Rattle.init_judge.specs.Laws.{TablesKnowAggregates}

map-map : {X Y Z : Type 0} (g : Y → Z) (f : X → Y) (xs : List X) → map g (map f xs) ≡ map (λ x. g (f x)) xs
map-map g f [] = refl
map-map g f (x ∷ xs) = ap (λ rest. g (f x) ∷ rest) (map-map g f xs)

nat_eq-comm : (m n : ℕ) → nat_eq m n ≡ nat_eq n m
nat_eq-comm m n = grind (arith, nat_tests)

members_are : (types : List TypeTree) (bodies : List (ℕ × AggregateBody)) (number : ℕ)
    → members_told (map body_spelled (map (body_declared types) bodies)) number ≡ members_seen types (lookup (nat_eq number) bodies)
members_are types [] number = refl
members_are types (entry ∷ bodies) number =
    let others = members_told (map body_spelled (map (body_declared types) bodies)) number in
    ap (λ (test : Bool). if test then map member_spelled (map (member_declared types) entry.1.members) else others) (nat_eq-comm entry.0 number)
    ∙ by (nat_eq number entry.0) others (lookup (nat_eq number) bodies) (members_are types bodies number)
  where
    by : (test : Bool) (others : List (DeclaredMember (List ℕ))) (found : Option AggregateBody) → others ≡ members_seen types found
        → (if test then map member_spelled (map (member_declared types) entry.1.members) else others) ≡ members_seen types (if test then Some entry.1 else found)
    by true others found same = map-map member_spelled (member_declared types) entry.1.members
    by false others found same = same

pub tables_know_aggregates : TablesKnowAggregates
tables_know_aggregates table =
    record { members = λ number. members_are (types_in table) table.bodies number; names = λ number name. named_is table number name }
