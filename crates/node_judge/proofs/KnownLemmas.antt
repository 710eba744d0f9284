-- What is known, where types join, bodies are told, or one node more is known.
use Rattle.std.proofs.Common.{◌≡◌, ℕ, suc, ◌<◌, nat_eq, true, false, cond, List, [], ◌∷◌, ◌++◌, All, map, length, take, Some, refl, sym, ap, ap₂, subst, ◌∙◌, arith, length-append, append-nil}
use Rattle.std.proofs.lemmas.List.{length-map, map-append, take-append-le, take_all}
use Rattle.std.proofs.lemmas.List.Elements.{All-head, All-nil, All-tail, All-cons}
use Rattle.std.proofs.lemmas.Bool.Decides.{nat_tests}
use Rattle.std.proofs.lemmas.Option.{none-some}
use Rattle.std.specs.Map.{lookup}
use Rattle.vocabulary.specs.declared.node_kind.NodeKind.{NodeKind}
use Rattle.meaning_layout.specs.Telling.{nothing_told}
use Rattle.meaning_layout.proofs.TellingLemmas.{told_in_order-found}
use Rattle.meaning_types.specs.Types.{TypeTree}
use Rattle.meaning_constants.specs.Nodes.{loaded_type}
use Rattle.meaning_typing.specs.Aggregates.{KnownAggregates, aggregates_of}
use Rattle.meaning_typing.specs.Facts as meaning
use Rattle.meaning_typing.specs.Facts.{Fact}
use Rattle.meaning_typing.specs.MemberDeclarations.{bodies_before}
use Rattle.meaning_typing.specs.MemberRows.{aggregates_before}
use Rattle.meaning_typing.specs.Surroundings.{Surrounding}
use Rattle.meaning_typing.specs.Units.{UnitNodes, kind_at}
use Rattle.meaning_typing.specs.WholeTyping.{whole_row_at, whole_row_by}
use Rattle.c_types.specs.declared.bodies.AggregateBody.{AggregateBody}
use Rattle.c_types.specs.Layouts.{body_told, told_in, told_of_bodies}
use Rattle.c_types.specs.Members.{body_declared}
use Rattle.c_types.specs.Rows.{Row}
use Rattle.c_types.specs.Table.{TypeTable, Extends, IsBodyOver, types_in}
use Rattle.member_declarations.specs.Kept.{AreDefined, AreTentative}
use Rattle.linked_names.proofs.GrowthLemmas.{Extends-twice, id-later, type-later}
use Rattle.declaration_judge.specs.declared.declarations.Declarations.{Declarations}
use Rattle.declaration_judge.specs.Kept.{IsKeptOf, OnlyTypesJoin}
use Rattle.declaration_judge.specs.Kept as declarations
use Rattle.declaration_judge.proofs.KeptLemmas.{facts_later, kept_later}
use Rattle.member_rows.specs.Aggregates.{aggregates_in, bodies_in, body_spelled}
use Rattle.member_rows.proofs.AggregateLemmas.{aggregates_stay, told_is}
use Rattle.node_facts.specs.declared.expression.ExpressionFact.{ExpressionFact}
use Rattle.node_facts.specs.declared.fact.NodeFact.{NodeFact}
use Rattle.node_facts.specs.declared.fact.NodeFact.TheVariants as facts
use Rattle.node_facts.specs.Facts.{IsKnownFact, IsKnownNodeFact, addressed_seen, declared_seen, fact_seen, node_seen, nodes_seen, number_in, storage_seen}
use Rattle.node_facts.specs.Growing.{TypesJoin}
use Rattle.node_facts.proofs.GrowthLemmas.{node_later, nodes_later}
use Rattle.specifier_judge.specs.declared.enumerations.Enumerations.{Enumerations}
use Rattle.specifier_judge.specs.Kept as enumerations
use Rattle.specifier_judge.specs.Known.{IsKnownBefore}
use Rattle.whole_judge.proofs.GrowthLemmas.{bodies_later}
use Rattle.whole_rows.specs.ConstAggregates.{AreConst}
use Rattle.whole_rows.proofs.ConstLemmas.{const_aggregates_begin, const_aggregates_stay}
use Rattle.node_judge.specs.declared.known.Known.{Known}
use Rattle.node_judge.specs.declared.places.FlexiblePlaces.{FlexiblePlaces}
use Rattle.node_judge.specs.Bodies.{AreOneFirst, BodiesJoin, PartsStandBefore, aggregates_behind, bodies_behind}
use Rattle.node_judge.specs.Known.{IsGathered, IsKnownOf, facts_seen, table_of}
use Rattle.node_judge.specs.Places.{ArePlaces}
use Rattle.node_judge.specs.Rows.{row_over}
use Rattle.node_judge.proofs.FirstLemmas.{bodies_stay_in}
use Rattle.node_judge.proofs.StayLemmas.{bodies_stay}

-- How many nodes are known

module _ (nodes : UnitNodes) (surroundings : List Surrounding) (count : ℕ) {seen : List Fact} (known : Known) (is : IsKnownOf nodes surroundings count seen known) where
  pub known_count : length known.declarations.facts ≡ count
  known_count =
      sym (length-map known.declarations.facts (node_seen (table_of known)))
      ∙ ap length is.facts
      ∙ is.next

  -- What is handed in of it

  pub known_before : IsKnownBefore nodes surroundings (table_of known) known.declarations.facts count
  known_before =
      record {
        next = known_count;
        ids = is.kept.whole.ids;
        told = sym (told_is (table_of known)) ∙ ap (λ (aggregates : KnownAggregates). aggregates.told) is.bodies.told;
      }

  pub enumerations_kept : enumerations.IsKeptOf nodes (facts_seen known) (length known.declarations.facts) known.enumerations
  enumerations_kept = subst (λ n. enumerations.IsKeptOf nodes (facts_seen known) n known.enumerations) (sym known_count) is.enumerations

  -- the row of the next node, by its kind
  pub row_is : (kind : NodeKind) → kind_at nodes count ≡ kind
      → row_over nodes surroundings (table_of known) known.declarations.facts count kind ≡ whole_row_at nodes surroundings seen count
  row_is kind same =
      ap (λ (aggregates : KnownAggregates). whole_row_by aggregates nodes surroundings (facts_seen known) count kind) is.bodies.told
      ∙ ap (λ (earlier : List Fact). whole_row_by (aggregates_before nodes surroundings earlier) nodes surroundings earlier count kind) is.facts
      ∙ ap (whole_row_by (aggregates_before nodes surroundings seen) nodes surroundings seen count) (sym same)

  -- Types join
  pub known_later : (kept : Declarations) → OnlyTypesJoin known.declarations kept → IsKnownOf nodes surroundings count seen (record known { declarations = kept })
  known_later kept only =
      let old = table_of known in
      let join = only.types in
      let same = facts_later known.declarations kept only is.kept.whole in
      record {
        facts = same ∙ is.facts;
        next = is.next;
        kept = kept_later known.declarations kept only nodes surroundings is.kept;
        bodies = record {
          ids = bodies_later old kept.types join is.bodies.ids;
          told = aggregates_stay old kept.types join is.bodies.ids ∙ is.bodies.told ∙ ap (aggregates_before nodes surroundings) (sym same);
          first = λ number.
              ap (lookup (nat_eq number)) (bodies_stay_in old kept.types join is.bodies.ids)
              ∙ is.bodies.first number
              ∙ ap (λ (facts : List Fact). lookup (nat_eq number) (bodies_before nodes surroundings facts (length facts))) (sym same);
          consts = const_aggregates_stay old kept.types known.consts join is.bodies.ids is.bodies.consts;
        };
        enumerations = subst (λ (facts : List Fact). enumerations.IsKeptOf nodes facts count known.enumerations) (sym same) is.enumerations;
        places = is.places;
        gathered = record { tags = is.gathered.tags; names = is.gathered.names };
        unnamed = join.tells.names ∙ is.unnamed;
      }

  -- and more is kept of bodies
  pub known_places : (places : FlexiblePlaces) → ArePlaces nodes places → IsKnownOf nodes surroundings count seen (record known { places = places })
  known_places places are =
      record {
        facts = is.facts;
        next = is.next;
        kept = is.kept;
        bodies = record { ids = is.bodies.ids; told = is.bodies.told; first = is.bodies.first; consts = is.bodies.consts };
        enumerations = is.enumerations;
        places = are;
        gathered = record { tags = is.gathered.tags; names = is.gathered.names };
        unnamed = is.unnamed;
      }

-- the types of what is kept alone are others
pub types_alone : (kept : Declarations) (types : TypeTable) → TypesJoin kept.types types → OnlyTypesJoin kept (record kept { types = types })
types_alone kept types join = record { types = join; facts = refl; linked = refl; contexts = refl; typedefs = refl; defined = refl; tentative = refl }

-- Bodies are told

pub told_extends : (old new : TypeTable) → BodiesJoin old new → Extends old new
told_extends old new joins =
    record {
      types = ([], ap (λ (rows : List Row). types_in (record old { rows = rows })) joins.rows ∙ sym (append-nil (types_in old)));
      bodies = joins.longer;
      names = ([], joins.names ∙ sym (append-nil old.names));
    }

module _ (old new : TypeTable) (extends : Extends old new) where
  fact_told : (fact : ExpressionFact) → IsKnownFact old fact → fact_seen new fact ≡ fact_seen old fact
  fact_told fact known = ap with_type (type-later old new extends fact.node.of known)
    where
      with_type : TypeTree → meaning.ExpressionFact
      with_type type_ =
          record {
            type_ = type_;
            is_place = fact.marks.is_place;
            is_fouled = fact.node.value.fouled;
            constant = number_in (loaded_type fact.node.value.width type_) fact.node.value.constant;
            is_null = fact.marks.is_null;
            width = fact.node.value.width;
            is_register = fact.marks.is_register;
            address = addressed_seen fact.marks.address;
            is_string = fact.marks.is_string;
          }

  pub node_told : (fact : NodeFact) → IsKnownNodeFact old fact → node_seen new fact ≡ node_seen old fact
  node_told facts.Unknown known = refl
  node_told (facts.Expression expression) known = ap meaning.Expression (fact_told expression known)
  node_told (facts.Specified specifiers) known =
      ap (λ type_. meaning.Specified (record { type_ = type_; storage = storage_seen specifiers.storage })) (type-later old new extends specifiers.of known)
  node_told (facts.Declared declaration) known =
      ap (λ type_. meaning.Declared (record (declared_seen old declaration) { type_ = type_ })) (type-later old new extends declaration.of known)
  node_told (facts.NamedType of) known = ap meaning.NamedType (type-later old new extends of known)

  pub id_told : (fact : NodeFact) → IsKnownNodeFact old fact → IsKnownNodeFact new fact
  id_told facts.Unknown known = known
  id_told (facts.Expression expression) known = id-later old new extends expression.node.of known
  id_told (facts.Specified specifiers) known = id-later old new extends specifiers.of known
  id_told (facts.Declared declaration) known = id-later old new extends declaration.of known
  id_told (facts.NamedType of) known = id-later old new extends of known

  nodes_told : (kept : List NodeFact) → All (IsKnownNodeFact old) kept → nodes_seen new kept ≡ nodes_seen old kept
  nodes_told [] known = refl
  nodes_told (fact ∷ others) known =
      (λ i. node_told fact (All-head (IsKnownNodeFact old) fact others known) i
      ∷ nodes_told others (All-tail (IsKnownNodeFact old) fact others known) i)

  ids_told : (kept : List NodeFact) → All (IsKnownNodeFact old) kept → All (IsKnownNodeFact new) kept
  ids_told [] known = All-nil (IsKnownNodeFact new)
  ids_told (fact ∷ others) known =
      All-cons (IsKnownNodeFact new) fact others (id_told fact (All-head (IsKnownNodeFact old) fact others known))
      (ids_told others (All-tail (IsKnownNodeFact old) fact others known))

-- what is kept of declarations stays
module _ (nodes : UnitNodes) (surroundings : List Surrounding) (kept : Declarations) (types : TypeTable) (extends : Extends kept.types types)
    (is : IsKeptOf nodes surroundings kept) where
  abbrev behind : Declarations
  behind = record kept { types = types }

  pub facts_told : declarations.facts_seen behind ≡ declarations.facts_seen kept
  facts_told = nodes_told kept.types types extends kept.facts is.whole.ids

  pub kept_told : IsKeptOf nodes surroundings behind
  kept_told =
      record {
        whole = record {
          ids = ids_told kept.types types extends kept.facts is.whole.ids;
          linked = is.whole.linked;
          over = Extends-twice kept.linked.over kept.types types is.whole.over extends;
          carried = Extends-twice kept.contexts.over kept.types types is.whole.carried extends;
        };
        contexts = is.contexts;
        typedefs = is.typedefs;
        defined = subst (λ (facts : List Fact). AreDefined nodes surroundings facts kept.defined) (sym facts_told) is.defined;
        tentative = subst (λ (facts : List Fact). AreTentative nodes surroundings facts kept.tentative) (sym facts_told) is.tentative;
      }

-- One node more

-- a body that was told with its specifier was told before the next node
behind_before : (nodes : UnitNodes) (surroundings : List Surrounding) (seen : List Fact) (fact : Fact) → PartsStandBefore nodes → length seen < length nodes
    → bodies_behind nodes surroundings seen ≡ bodies_before nodes surroundings (seen ++ fact ∷ []) (length (seen ++ fact ∷ []))
behind_before nodes surroundings seen fact order within =
    let more = fact ∷ [] in
    let count : suc (length seen) ≡ length (seen ++ more) = omega (arith, length-append seen more) in
    let stay = bodies_stay nodes surroundings seen more (length seen) order (omega (arith, within, count)) (omega arith) in
    (λ i. sym stay.before i ++ sym stay.bodies i) ∙ ap (bodies_before nodes surroundings (seen ++ more)) count

pub front_seen : (seen : List Fact) (fact : Fact) (handle : ℕ) → length seen ≡ handle → take handle (seen ++ fact ∷ []) ≡ seen
front_seen seen fact handle count = take-append-le handle seen (fact ∷ []) (omega (arith, count)) ∙ take_all handle seen (omega (arith, count))

-- what is told and kept of the next node
pub record Joins (nodes : UnitNodes) (surroundings : List Surrounding) (old : Known) (table : TypeTable) (numbers : List ℕ) (now : Declarations) (fact : NodeFact) : Type 0 where
  -- its body is told
  pub bodies : BodiesJoin (table_of old) table
  pub told : aggregates_in table ≡ aggregates_behind nodes surroundings (facts_seen old)
  pub first : AreOneFirst (bodies_in table) (bodies_behind nodes surroundings (facts_seen old))
  pub consts : AreConst table numbers
  -- and what it declares is kept
  pub facts : now.facts ≡ old.declarations.facts ++ fact ∷ []
  pub types : TypesJoin table now.types
  pub kept : IsKeptOf nodes surroundings now

module _ (nodes : UnitNodes) (surroundings : List Surrounding) (handle : ℕ) (old : Known) (types : TypeTable) (consts : List ℕ) (kept : Declarations)
    (fact : NodeFact) (is : IsKnownOf nodes surroundings handle (facts_seen old) old) (joins : Joins nodes surroundings old types consts kept fact)
    (id : IsKnownNodeFact (table_of old) fact) where
  abbrev table : TypeTable
  table = table_of old

  extends : Extends table types
  extends = told_extends table types joins.bodies

  ids : All (IsKnownNodeFact types) old.declarations.facts
  ids = ids_told table types extends old.declarations.facts is.kept.whole.ids

  pub seen-more : declarations.facts_seen kept ≡ facts_seen old ++ node_seen table fact ∷ []
  seen-more =
      ap (nodes_seen kept.types) joins.facts
      ∙ map-append (node_seen kept.types) old.declarations.facts (fact ∷ [])
      ∙ ap₂ (λ front last. front ++ last ∷ [])
      (nodes_later types kept.types joins.types old.declarations.facts ids ∙ nodes_told table types extends old.declarations.facts is.kept.whole.ids)
      (node_later types kept.types joins.types fact (id_told table types extends fact id) ∙ node_told table types extends fact id)

  pub known_more : (others : Enumerations) → PartsStandBefore nodes → handle < length nodes
      → enumerations.IsKeptOf nodes (declarations.facts_seen kept) (suc handle) others
      → IsKnownOf nodes surroundings (suc handle) (facts_seen old ++ node_seen table fact ∷ []) (record old { declarations = kept; consts = consts; enumerations = others })
  known_more others order within enumerated =
      let seen = facts_seen old in
      let count : length seen ≡ handle = length-map old.declarations.facts (node_seen table) ∙ known_count nodes surroundings handle old is in
      record {
        facts = seen-more;
        next = omega (arith, is.next, length-append seen (node_seen table fact ∷ []));
        kept = joins.kept;
        bodies = record {
          ids = bodies_later types kept.types joins.types joins.bodies.known;
          told =
              aggregates_stay types kept.types joins.types joins.bodies.known
              ∙ joins.told
              ∙ ap aggregates_of (behind_before nodes surroundings seen (node_seen table fact) order (omega (arith, within, count)))
              ∙ ap (aggregates_before nodes surroundings) (sym seen-more);
          first = λ number.
              ap (lookup (nat_eq number)) (bodies_stay_in types kept.types joins.types joins.bodies.known)
              ∙ joins.first number
              ∙ ap (lookup (nat_eq number)) (behind_before nodes surroundings seen (node_seen table fact) order (omega (arith, within, count)))
              ∙ ap (λ (facts : List Fact). lookup (nat_eq number) (bodies_before nodes surroundings facts (length facts))) (sym seen-more);
          consts = const_aggregates_stay types kept.types consts joins.types joins.bodies.known joins.consts;
        };
        enumerations = enumerated;
        places = is.places;
        gathered = record { tags = is.gathered.tags; names = is.gathered.names };
        unnamed = joins.types.tells.names ∙ joins.bodies.names ∙ is.unnamed;
      }

  pub extends-more : Extends table kept.types
  extends-more = Extends-twice table types kept.types extends joins.types.extends

-- Nothing is known yet

same_number : (number : ℕ) → nat_eq number number ≡ true
same_number number = grind (arith, nat_tests)

-- where no aggregate is told, no body was
no_bodies : (types : List TypeTree) (bodies : List (ℕ × AggregateBody)) → told_of_bodies types bodies ≡ nothing_told → bodies ≡ []
no_bodies types [] none = refl
no_bodies types (entry ∷ bodies) none =
    let told = body_told types entry in
    let found : lookup (nat_eq entry.0) (map (body_told types) (entry ∷ bodies)) ≡ Some told.1 =
    ap (λ test. cond test (Some told.1) (lookup (nat_eq entry.0) (map (body_told types) bodies))) (same_number entry.0) in
    let made = told_in_order-found entry.0 false (map (body_told types) (entry ∷ bodies)) nothing_told told.1 refl found in
    absurd (none-some _ (sym (λ i. none i entry.0 false) ∙ made.1))

pub known_none :
    (nodes : UnitNodes) (surroundings : List Surrounding) (known : Known) → known.declarations.facts ≡ [] → told_in (table_of known) ≡ nothing_told
    → (table_of known).names ≡ [] → IsKeptOf nodes surroundings known.declarations → known.consts ≡ []
    → enumerations.IsKeptOf nodes (facts_seen known) 0 known.enumerations → ArePlaces nodes known.places → IsGathered nodes surroundings known
    → IsKnownOf nodes surroundings 0 [] known
known_none nodes surroundings known none layouts unnamed kept consts enumerated places gathered =
    let table = table_of known in
    let untold : table.bodies ≡ [] = no_bodies (types_in table) table.bodies layouts in
    let seen : facts_seen known ≡ [] = ap (nodes_seen table) none in
    record {
      facts = seen;
      next = refl;
      kept = kept;
      bodies = record {
        ids =
            subst (λ (bodies : List (ℕ × AggregateBody)). All (λ entry. IsBodyOver (types_in table) entry.1) bodies) (sym untold)
            (All-nil (λ (entry : ℕ × AggregateBody). IsBodyOver (types_in table) entry.1));
        told =
            ap (λ (bodies : List (ℕ × AggregateBody)). aggregates_of (map body_spelled (map (body_declared (types_in table)) bodies))) untold
            ∙ ap (aggregates_before nodes surroundings) (sym seen);
        first = λ number.
            ap (λ (bodies : List (ℕ × AggregateBody)). lookup (nat_eq number) (map body_spelled (map (body_declared (types_in table)) bodies))) untold
            ∙ ap (λ (facts : List Fact). lookup (nat_eq number) (bodies_before nodes surroundings facts (length facts))) (sym seen);
        consts = subst (AreConst table) (sym consts) (const_aggregates_begin table untold);
      };
      enumerations = enumerated;
      places = places;
      gathered = gathered;
      unnamed = unnamed;
    }
