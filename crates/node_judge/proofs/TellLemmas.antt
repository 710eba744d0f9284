-- A body is told to a table of types.
use Rattle.std.proofs.Common.{◌≡◌, ℕ, Bool, true, false, true≢false, nat_eq, List, [], ◌∷◌, ◌++◌, map, length, Option, Some, None, Result, is_some, option_map, refl, sym, ap, ◌∙◌, append-nil}
use Rattle.std.proofs.lemmas.List.{map-append}
use Rattle.std.proofs.lemmas.List.Elements.{All-append, All-cons, All-nil}
use Rattle.std.proofs.lemmas.Map.Made.{lookup-map_values}
use Rattle.std.specs.Map.{lookup}
use Rattle.vocabulary.specs.declared.node_kind.NodeKind.{NodeKind}
use Rattle.vocabulary.specs.declared.node_kind.NodeKind.TheVariants as kinds
use Rattle.meaning_layout.specs.Layouts.{Layout, LayoutFault}
use Rattle.meaning_layout.specs.Members.{DeclaredBody}
use Rattle.meaning_layout.specs.Telling.{layout_told, nothing_told}
use Rattle.meaning_layout.proofs.TellingLemmas.{told_in_order-found}
use Rattle.meaning_types.specs.Types.{TypeTree}
use Rattle.meaning_typing.specs.Aggregates.{Bodies, KnownAggregates, aggregates_of}
use Rattle.meaning_typing.specs.Facts.{Fact}
use Rattle.meaning_typing.specs.MemberDeclarations.{bodies_at, bodies_before, is_member_list, member_list}
use Rattle.meaning_typing.specs.MemberRows.{aggregates_before}
use Rattle.meaning_typing.specs.Surroundings.{Surrounding}
use Rattle.meaning_typing.specs.Units.{UnitNodes, kind_at}
use Rattle.specifier_judge.specs.Bodies.{is_aggregate}
use Rattle.specifier_judge.specs.Seen.{body_seen, member_seen}
use Rattle.c_types.specs.declared.bodies.AggregateBody.{AggregateBody}
use Rattle.c_types.specs.declared.bodies.Member.{Member}
use Rattle.c_types.specs.Layouts as layouts
use Rattle.c_types.specs.Members.{body_declared, member_declared}
use Rattle.c_types.specs.Table.{TypeTable, IsBodyOver, body_in, types_in}
use Rattle.member_rows.specs.Aggregates.{aggregates_in, bodies_in, body_spelled, member_spelled}
use Rattle.member_rows.proofs.AggregateLemmas.{told_is}
use Rattle.whole_judge.specs.Known.{AreKnownBodies}
use Rattle.whole_rows.specs.ConstAggregates.{with_body}
use Rattle.node_judge.specs.Bodies.{AreOneFirst, BodiesJoin, aggregates_behind, aggregates_with, bodies_behind}
use Rattle.node_judge.proofs.BodyLemmas.{aggregates-again, aggregates-push}
use Rattle.node_judge.proofs.FirstLemmas.{first_both}

-- Lists of members

pub one_list : (kind : NodeKind) (handle : ℕ) → is_member_list kind ≡ true → member_list kind handle ≡ handle ∷ []
one_list kinds.MemberList handle is = refl
one_list kind handle is = cc

pub no_list : (kind : NodeKind) (handle : ℕ) → is_member_list kind ≡ false → member_list kind handle ≡ []
no_list kinds.MemberList handle is = cc
no_list kind handle is = refl

-- One that was told before

pub joins_none : (table : TypeTable) → AreKnownBodies table → BodiesJoin table table
joins_none table known = record { rows = refl; longer = ([], sym (append-nil table.bodies)); names = refl; known = known }

module _ (table : TypeTable) (aggregate : ℕ) (body : AggregateBody) where
  abbrev types : List TypeTree
  types = types_in table

  pub told_again : (found : AggregateBody) → body_in table aggregate ≡ Some found
      → aggregates_in table ≡ aggregates_with (aggregates_in table) (aggregate, body_seen table body)
  told_again found is =
      let bodies = map (layouts.body_told types) table.bodies in
      let there = lookup-map_values (layouts.body_seen types) (nat_eq aggregate) table.bodies ∙ ap (option_map (layouts.body_seen types)) is in
      let again : (is_union : Bool) → (made : Result Layout LayoutFault) × ((aggregates_in table).told aggregate is_union ≡ Some made) =
      λ is_union.
      (let found_told = told_in_order-found aggregate is_union bodies nothing_told (layouts.body_seen types found) refl there in
      (layout_told found_told.0 (layouts.body_seen types found) is_union, (λ i. told_is table i aggregate is_union) ∙ found_told.1)) in
      sym (aggregates-again (aggregates_in table) (aggregate, body_seen table body) again)

  -- Others

  members_spelled : (members : List Member)
      → map member_spelled (map (member_declared types) members) ≡ map (λ member. (member_seen table member).declared) members
  members_spelled [] = refl
  members_spelled (member ∷ members) = ap (λ others. (member_seen table member).declared ∷ others) (members_spelled members)

  spelled : body_spelled (body_declared types (aggregate, body)) ≡ (aggregate, body_seen table body)
  spelled = ap (λ members. (aggregate, record { body = layouts.body_seen types body; members = members })) (members_spelled body.members)

  pub told_more : aggregates_in (with_body table aggregate body) ≡ aggregates_with (aggregates_in table) (aggregate, body_seen table body)
  told_more =
      let pushed : bodies_in (with_body table aggregate body) ≡ bodies_in table ++ body_spelled (body_declared types (aggregate, body)) ∷ [] =
      ap (map body_spelled) (map-append (body_declared types) table.bodies ((aggregate, body) ∷ []))
      ∙ map-append body_spelled (map (body_declared types) table.bodies) (body_declared types (aggregate, body) ∷ []) in
      ap aggregates_of (pushed ∙ ap (λ entry. bodies_in table ++ entry ∷ []) spelled)
      ∙ aggregates-push (bodies_in table) (aggregate, body_seen table body)

  pub joins_one : AreKnownBodies table → IsBodyOver types body → BodiesJoin table (with_body table aggregate body)
  joins_one known own =
      record {
        rows = refl;
        longer = ((aggregate, body) ∷ [], refl);
        names = refl;
        known =
            All-append (λ (entry : ℕ × AggregateBody). IsBodyOver types entry.1) table.bodies ((aggregate, body) ∷ []) known
            (All-cons (λ (entry : ℕ × AggregateBody). IsBodyOver types entry.1) (aggregate, body) [] own
            (All-nil (λ (entry : ℕ × AggregateBody). IsBodyOver types entry.1)));
      }

-- Whether it was

pub there_is : {X : Type 0} (found : Option X) → is_some found ≡ true → (one : X) × (found ≡ Some one)
there_is None is = absurd (true≢false (sym is))
there_is (Some one) is = (one, refl)

pub there_is_none : {X : Type 0} (found : Option X) → is_some found ≡ false → found ≡ None
there_is_none None is = refl
there_is_none (Some one) is = absurd (true≢false is)

-- The body of a node, behind those that stand before

module _ (nodes : UnitNodes) (surroundings : List Surrounding) (seen : List Fact) (handle : ℕ) (count : length seen ≡ handle) (told : Bodies)
    (first : AreOneFirst told (bodies_before nodes surroundings seen (length seen))) where
  with_own : (bodies : Bodies) → bodies ≡ bodies_at nodes surroundings seen handle (kind_at nodes handle)
      → bodies_before nodes surroundings seen (length seen) ++ bodies ≡ bodies_behind nodes surroundings seen
  with_own bodies is =
      ap (λ own. bodies_before nodes surroundings seen (length seen) ++ own) (is ∙ ap (λ h. bodies_at nodes surroundings seen h (kind_at nodes h)) (sym count))

  pub first_none : [] ≡ bodies_at nodes surroundings seen handle (kind_at nodes handle) → AreOneFirst told (bodies_behind nodes surroundings seen)
  first_none none number =
      first number ∙ ap (lookup (nat_eq number)) (sym (append-nil (bodies_before nodes surroundings seen (length seen))) ∙ with_own [] none)

  pub first_one : (bodies after : Bodies) → bodies ≡ bodies_at nodes surroundings seen handle (kind_at nodes handle) → AreOneFirst after (told ++ bodies)
      → AreOneFirst after (bodies_behind nodes surroundings seen)
  first_one bodies after is now number =
      now number
      ∙ first_both told (bodies_before nodes surroundings seen (length seen)) bodies first number
      ∙ ap (lookup (nat_eq number)) (with_own bodies is)

module _ (nodes : UnitNodes) (surroundings : List Surrounding) (seen : List Fact) (handle : ℕ) (count : length seen ≡ handle) where
  behind_by : (bodies : Bodies) → bodies ≡ bodies_at nodes surroundings seen handle (kind_at nodes handle)
      → aggregates_of (bodies_before nodes surroundings seen (length seen) ++ bodies) ≡ aggregates_behind nodes surroundings seen
  behind_by bodies is =
      ap (λ own. aggregates_of (bodies_before nodes surroundings seen (length seen) ++ own))
      (is ∙ ap (λ h. bodies_at nodes surroundings seen h (kind_at nodes h)) (sym count))

  pub behind_none : (aggregates : KnownAggregates) → aggregates ≡ aggregates_before nodes surroundings seen
      → [] ≡ bodies_at nodes surroundings seen handle (kind_at nodes handle) → aggregates ≡ aggregates_behind nodes surroundings seen
  behind_none aggregates told none =
      told
      ∙ ap aggregates_of (sym (append-nil (bodies_before nodes surroundings seen (length seen))))
      ∙ behind_by [] none

  pub behind_one : (aggregates : KnownAggregates) (number : ℕ) (body : DeclaredBody (List ℕ)) → aggregates ≡ aggregates_before nodes surroundings seen
      → (number, body) ∷ [] ≡ bodies_at nodes surroundings seen handle (kind_at nodes handle)
      → aggregates_with aggregates (number, body) ≡ aggregates_behind nodes surroundings seen
  behind_one aggregates number body told one =
      ap (λ before. aggregates_with before (number, body)) told
      ∙ sym (aggregates-push (bodies_before nodes surroundings seen (length seen)) (number, body))
      ∙ behind_by ((number, body) ∷ []) one

pub no_body : (nodes : UnitNodes) (surroundings : List Surrounding) (seen : List Fact) (handle : ℕ) (kind : NodeKind) → is_aggregate kind ≡ false
    → [] ≡ bodies_at nodes surroundings seen handle kind
no_body nodes surroundings seen handle kinds.StructSpecifier other = absurd (true≢false other)
no_body nodes surroundings seen handle kinds.UnionSpecifier other = absurd (true≢false other)
no_body nodes surroundings seen handle kind other = refl
