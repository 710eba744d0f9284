-- Which aggregates of a table have a const member: those of one body more, and the same where types join it.
use Rattle.std.proofs.Common.{◌≡◌, ℕ, nat_eq, Bool, true, false, ◌||◌, List, [], ◌∷◌, ◌++◌, map, None, option_map, refl, sym, ap, ◌∙◌}
use Rattle.std.proofs.lemmas.Bool.{eqb-true}
use Rattle.std.proofs.lemmas.List.{map-append}
use Rattle.std.proofs.lemmas.Map.Made.{lookup-map_values}
use Rattle.std.specs.Map.{lookup}
use Rattle.indexmap.specs.IndexSet.{insert_key}
use Rattle.sparse_model.specs.declared.ids.NameId.{NameId}
use Rattle.meaning_layout.specs.Members.{DeclaredBody}
use Rattle.meaning_layout.specs.Telling.{nothing_told}
use Rattle.meaning_layout.proofs.TellingLemmas.{told_in_order-none}
use Rattle.meaning_typing.specs.Aggregates.{aggregates_of, const_in_order, is_any_const, is_const_within, tell_const}
use Rattle.c_types.specs.declared.bodies.AggregateBody.{AggregateBody}
use Rattle.c_types.specs.declared.bodies.Member.{Member}
use Rattle.c_types.specs.Layouts.{body_seen}
use Rattle.c_types.specs.Members.{body_declared, member_declared}
use Rattle.c_types.specs.Table.{TypeTable, body_in, type_at, types_in}
use Rattle.member_rows.specs.Aggregates.{aggregates_in, bodies_in, body_spelled, member_spelled}
use Rattle.member_rows.proofs.AggregateLemmas.{aggregates_stay}
use Rattle.whole_rows.specs.ConstAggregates.{AreConst, is_among, is_one_const, with_body}
use Rattle.whole_rows.specs.Laws.{ConstAggregatesBegin, ConstAggregatesStay}
use Rattle.whole_rows.proofs.TellingLemmas.{const_other, const_push, const_same, const_untold, other_among, same_among}

-- Members

-- of a body as it is told, and as it is spelled
members_told : (has_const : ℕ → Bool) (table : TypeTable) (members : List Member)
    → is_any_const has_const (map member_spelled (map (member_declared (types_in table)) members)) ≡ is_one_const has_const table members
members_told has_const table [] = refl
members_told has_const table (member ∷ members) =
    ap (λ others. is_const_within has_const (type_at table member.of) || others) (members_told has_const table members)

-- One body more

abbrev declared_in : TypeTable → AggregateBody → DeclaredBody NameId
declared_in table body = record { body = body_seen (types_in table) body; members = map (member_declared (types_in table)) body.members }

abbrev spelled : DeclaredBody NameId → DeclaredBody (List ℕ)
spelled body = record { body = body.body; members = map member_spelled body.members }

module _ (table : TypeTable) (aggregate : ℕ) (body : AggregateBody) where
  abbrev entry : ℕ × DeclaredBody (List ℕ)
  entry = (aggregate, spelled (declared_in table body))

  bodies_push : bodies_in (with_body table aggregate body) ≡ bodies_in table ++ entry ∷ []
  bodies_push =
      ap (map body_spelled) (map-append (body_declared (types_in table)) table.bodies ((aggregate, body) ∷ []))
      ∙ map-append body_spelled (map (body_declared (types_in table)) table.bodies) ((aggregate, declared_in table body) ∷ [])

  abbrev earlier : ℕ → Bool
  earlier = (aggregates_in table).has_const

  const_later : (aggregates_in (with_body table aggregate body)).has_const ≡ tell_const (aggregates_in table).told earlier aggregate entry.1.members
  const_later = ap (const_in_order nothing_told (λ number. false)) bodies_push ∙ const_push (bodies_in table) nothing_told (λ number. false) entry

  module _ (numbers : List ℕ) (are : AreConst table numbers) (untold : body_in table aggregate ≡ None) where
    none : lookup (nat_eq aggregate) (bodies_in table) ≡ None
    none =
        lookup-map_values spelled (nat_eq aggregate) (map (body_declared (types_in table)) table.bodies)
        ∙ ap (option_map spelled)
        (lookup-map_values (declared_in table) (nat_eq aggregate) table.bodies ∙ ap (option_map (declared_in table)) untold)

    not_told : (aggregates_in table).told aggregate false ≡ None
    not_told =
        told_in_order-none aggregate false (map (λ one. (one.0, one.1.body)) (bodies_in table)) nothing_told refl
        (lookup-map_values (λ one. one.body) (nat_eq aggregate) (bodies_in table) ∙ ap (option_map (λ one. one.body)) none)

    not_const : earlier aggregate ≡ false
    not_const = const_untold aggregate (bodies_in table) nothing_told (λ number. false) none

    -- of the aggregate itself
    own_const : (number : ℕ) → nat_eq number aggregate ≡ true
        → is_one_const (is_among numbers) table body.members ≡ (aggregates_in (with_body table aggregate body)).has_const number
    own_const number same =
        (λ i. is_one_const (λ other. are other i) table body.members)
        ∙ sym (members_told earlier table body.members)
        ∙ sym
        (const_same number (aggregates_in table).told earlier aggregate entry.1.members same
        (ap (λ other. (aggregates_in table).told other false) (eqb-true number aggregate same) ∙ not_told))
        ∙ sym (λ i. const_later i number)

    -- and of another one
    other_const : (number : ℕ) → nat_eq number aggregate ≡ false
        → is_among numbers number ≡ (aggregates_in (with_body table aggregate body)).has_const number
    other_const number differs =
        are number
        ∙ sym (const_other number (aggregates_in table).told earlier aggregate entry.1.members differs)
        ∙ sym (λ i. const_later i number)

    pub const_told : is_one_const (is_among numbers) table body.members ≡ true
        → AreConst (with_body table aggregate body) (insert_key nat_eq numbers aggregate)
    const_told one number = by (nat_eq number aggregate) refl
      where
        by : (test : Bool) → nat_eq number aggregate ≡ test
            → is_among (insert_key nat_eq numbers aggregate) number ≡ (aggregates_in (with_body table aggregate body)).has_const number
        by true same = same_among numbers aggregate number same ∙ sym one ∙ own_const number same
        by false differs = other_among numbers aggregate number differs ∙ other_const number differs

    pub none_told : is_one_const (is_among numbers) table body.members ≡ false → AreConst (with_body table aggregate body) numbers
    none_told not_one number = by (nat_eq number aggregate) refl
      where
        by : (test : Bool) → nat_eq number aggregate ≡ test
            → is_among numbers number ≡ (aggregates_in (with_body table aggregate body)).has_const number
        by true same = are number ∙ ap earlier (eqb-true number aggregate same) ∙ not_const ∙ sym not_one ∙ own_const number same
        by false differs = other_const number differs

-- Tables

pub const_aggregates_begin : ConstAggregatesBegin
const_aggregates_begin table none number =
    sym (λ i. (aggregates_of (map body_spelled (map (body_declared (types_in table)) (none i)))).has_const number)

pub const_aggregates_stay : ConstAggregatesStay
const_aggregates_stay old new numbers join known are number =
    are number ∙ sym (λ i. (aggregates_stay old new join known i).has_const number)
