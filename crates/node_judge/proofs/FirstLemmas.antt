-- The first body of each aggregate among those that are told.
use Rattle.std.proofs.Common.{◌≡◌, ℕ, All, length, ◌<◌, nat_eq, Bool, true, false, cond, List, [], ◌∷◌, ◌++◌, map, option_map, Option, Some, None, refl, sym, ap, ◌∙◌}
use Rattle.std.proofs.lemmas.Bool.{eqb-true}
use Rattle.std.proofs.lemmas.List.{map-append}
use Rattle.std.proofs.lemmas.List.Elements.{All-head, All-tail}
use Rattle.std.proofs.lemmas.Map.Made.{lookup-map_values}
use Rattle.std.proofs.lemmas.Option.{none-some}
use Rattle.std.specs.Map.{lookup}
use Rattle.meaning_layout.specs.Members.{DeclaredBody}
use Rattle.meaning_typing.specs.Aggregates.{Bodies}
use Rattle.specifier_judge.specs.Seen.{body_seen, member_seen}
use Rattle.c_types.specs.declared.bodies.AggregateBody.{AggregateBody}
use Rattle.c_types.specs.declared.bodies.Member.{Member}
use Rattle.c_types.specs.Layouts as layouts
use Rattle.c_types.specs.Layouts.{member_told}
use Rattle.c_types.specs.Members.{body_declared, member_declared}
use Rattle.c_types.specs.Table.{TypeTable, IsBodyOver, body_in, types_in}
use Rattle.node_facts.specs.Facts.{name_seen}
use Rattle.node_facts.specs.Growing.{TypesJoin}
use Rattle.node_facts.proofs.GrowthLemmas.{type_later}
use Rattle.member_rows.specs.Aggregates.{bodies_in, body_spelled, member_spelled}
use Rattle.whole_judge.specs.Known.{AreKnownBodies}
use Rattle.whole_rows.specs.ConstAggregates.{with_body}
use Rattle.node_judge.specs.Bodies.{AreOneFirst}

-- Lists of bodies

abbrev or_found : Option (DeclaredBody (List ℕ)) → Option (DeclaredBody (List ℕ)) → Option (DeclaredBody (List ℕ))
or_found None others = others
or_found (Some body) others = Some body

found-append : (number : ℕ) (bodies more : Bodies) → lookup (nat_eq number) (bodies ++ more) ≡ or_found (lookup (nat_eq number) bodies) (lookup (nat_eq number) more)
found-append number [] more = refl
found-append number (entry ∷ bodies) more =
    ap (cond (nat_eq number entry.0) (Some entry.1)) (found-append number bodies more)
    ∙ by (nat_eq number entry.0) (lookup (nat_eq number) bodies) (lookup (nat_eq number) more)
  where
    by : (test : Bool) (front back : Option (DeclaredBody (List ℕ)))
        → cond test (Some entry.1) (or_found front back) ≡ or_found (cond test (Some entry.1) front) back
    by true front back = refl
    by false front back = refl

-- with the same behind
pub first_both : (bodies others more : Bodies) → AreOneFirst bodies others → AreOneFirst (bodies ++ more) (others ++ more)
first_both bodies others more same number =
    found-append number bodies more
    ∙ ap (λ found. or_found found (lookup (nat_eq number) more)) (same number)
    ∙ sym (found-append number others more)

-- one that was told before changes nothing
pub first_again : (bodies : Bodies) (aggregate : ℕ) (body found : DeclaredBody (List ℕ)) → lookup (nat_eq aggregate) bodies ≡ Some found
    → AreOneFirst bodies (bodies ++ (aggregate, body) ∷ [])
first_again bodies aggregate body found is number =
    by (lookup (nat_eq number) bodies) (nat_eq number aggregate) refl refl ∙ sym (found-append number bodies ((aggregate, body) ∷ []))
  where
    by : (front : Option (DeclaredBody (List ℕ))) (test : Bool) → lookup (nat_eq number) bodies ≡ front → nat_eq number aggregate ≡ test
        → lookup (nat_eq number) bodies ≡ or_found (lookup (nat_eq number) bodies) (cond (nat_eq number aggregate) (Some body) None)
    by (Some own) test here same = here ∙ ap (λ f. or_found f (cond (nat_eq number aggregate) (Some body) None)) (sym here)
    by None true here same =
        absurd (none-some found (sym here ∙ ap (λ (n : ℕ). lookup (nat_eq n) bodies) (eqb-true number aggregate same) ∙ is))
    by None false here same =
        here ∙ (λ i. or_found (sym here i) (cond (sym same i) (Some body) None))

-- Tables

module _ (table : TypeTable) (aggregate : ℕ) (body : AggregateBody) where
  members_spelled : (members : List Member)
      → map member_spelled (map (member_declared (types_in table)) members) ≡ map (λ member. (member_seen table member).declared) members
  members_spelled [] = refl
  members_spelled (member ∷ members) = ap (λ others. (member_seen table member).declared ∷ others) (members_spelled members)

  spelled : body_spelled (body_declared (types_in table) (aggregate, body)) ≡ (aggregate, body_seen table body)
  spelled = ap (λ members. (aggregate, record { body = layouts.body_seen (types_in table) body; members = members })) (members_spelled body.members)

  -- one body more
  pub bodies_more : bodies_in (with_body table aggregate body) ≡ bodies_in table ++ (aggregate, body_seen table body) ∷ []
  bodies_more =
      ap (map body_spelled) (map-append (body_declared (types_in table)) table.bodies ((aggregate, body) ∷ []))
      ∙ map-append body_spelled (map (body_declared (types_in table)) table.bodies) (body_declared (types_in table) (aggregate, body) ∷ [])
      ∙ ap (λ entry. bodies_in table ++ entry ∷ []) spelled

  abbrev pub body_of : AggregateBody → DeclaredBody (List ℕ)
  body_of one = record { body = layouts.body_seen (types_in table) one; members = map member_spelled (map (member_declared (types_in table)) one.members) }

  as_one_map : (bodies : List (ℕ × AggregateBody))
      → map body_spelled (map (body_declared (types_in table)) bodies) ≡ map (λ entry. (entry.0, body_of entry.1)) bodies
  as_one_map [] = refl
  as_one_map (entry ∷ bodies) = ap (λ others. (entry.0, body_of entry.1) ∷ others) (as_one_map bodies)

  -- a body that the table has is among its bodies
  pub body_there : (found : AggregateBody) → body_in table aggregate ≡ Some found → lookup (nat_eq aggregate) (bodies_in table) ≡ Some (body_of found)
  body_there found is =
      ap (lookup (nat_eq aggregate)) (as_one_map table.bodies)
      ∙ lookup-map_values body_of (nat_eq aggregate) table.bodies
      ∙ ap (option_map body_of) is

  pub first_told_again : (found : AggregateBody) → body_in table aggregate ≡ Some found
      → AreOneFirst (bodies_in table) (bodies_in table ++ (aggregate, body_seen table body) ∷ [])
  first_told_again found is = first_again (bodies_in table) aggregate (body_seen table body) (body_of found) (body_there found is)

-- Growth

module _ (old new : TypeTable) (join : TypesJoin old new) where
  declared_later : (members : List Member) → All (λ member. member.of.0 < length (types_in old)) members
      → map member_spelled (map (member_declared (types_in new)) members) ≡ map member_spelled (map (member_declared (types_in old)) members)
  declared_later [] known = refl
  declared_later (member ∷ members) known =
      let at = All-head (λ (member : Member). member.of.0 < length (types_in old)) member members known in
      let others = All-tail (λ (member : Member). member.of.0 < length (types_in old)) member members known in
      (λ i. record { name = option_map name_seen member.name; of = type_later old new join member.of at i; width = member.width } ∷ declared_later members others i)

  members_later : (members : List Member) → All (λ member. member.of.0 < length (types_in old)) members
      → map (member_told (types_in new)) members ≡ map (member_told (types_in old)) members
  members_later [] known = refl
  members_later (member ∷ members) known =
      let at = All-head (λ (member : Member). member.of.0 < length (types_in old)) member members known in
      let others = All-tail (λ (member : Member). member.of.0 < length (types_in old)) member members known in
      (λ i. record (member_told (types_in old) member) { of = type_later old new join member.of at i } ∷ members_later members others i)

  all_later : (bodies : List (ℕ × AggregateBody)) → All (λ entry. IsBodyOver (types_in old) entry.1) bodies
      → map body_spelled (map (body_declared (types_in new)) bodies) ≡ map body_spelled (map (body_declared (types_in old)) bodies)
  all_later [] known = refl
  all_later (entry ∷ bodies) known =
      let at = All-head (λ (entry : ℕ × AggregateBody). IsBodyOver (types_in old) entry.1) entry bodies known in
      let others = All-tail (λ (entry : ℕ × AggregateBody). IsBodyOver (types_in old) entry.1) entry bodies known in
      (λ i. (
        entry.0,
        record {
          body = record { members = members_later entry.1.members at i; packed = entry.1.packed; written = entry.1.align };
          members = declared_later entry.1.members at i;
        },
      ) ∷ all_later bodies others i)

  -- what a table was told of aggregates stays where types join it
  pub bodies_stay_in : AreKnownBodies old → bodies_in new ≡ bodies_in old
  bodies_stay_in known =
      ap (λ bodies. map body_spelled (map (body_declared (types_in new)) bodies)) join.tells.bodies ∙ all_later old.bodies known
