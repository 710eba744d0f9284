-- What was known over a table is known over one that types joined.
use Rattle.std.proofs.Common.{◌≡◌, ℕ, zero, suc, ◌<◌, All, List, [], ◌∷◌, ◌++◌, Some, length, slice_get, unwrap_or, refl, sym, ap, ◌∙◌, arith, length-append, append-nil}
use Rattle.std.proofs.lemmas.List.{append_assoc}
use Rattle.std.proofs.lemmas.List.Elements.{All-cons, All-head, All-nil, All-tail}
use Rattle.std.proofs.lemmas.Option.{slice_get_within}
use Rattle.sparse_model.specs.declared.ids.TypeId.{TypeId}
use Rattle.meaning_typing.specs.Types.{TypeTree}
use Rattle.const_fold.specs.Nodes.{loaded_type}
use Rattle.meaning_typing.specs.Facts as meaning
use Rattle.c_types.specs.Rows.{no_type}
use Rattle.c_types.specs.Table.{TypeTable, IsLonger, IsTypeId, type_at, types_in}
use Rattle.node_facts.specs.declared.expression.ExpressionFact.{ExpressionFact}
use Rattle.node_facts.specs.Growing.{TypesJoin}
use Rattle.node_facts.specs.declared.fact.NodeFact.{NodeFact}
use Rattle.node_facts.specs.declared.fact.NodeFact.TheVariants as facts
use Rattle.node_facts.specs.Facts.{IsKnownFact, IsKnownNodeFact, addressed_seen, declared_seen, fact_seen, node_seen, nodes_seen, number_in, storage_seen}

longer_on : {X : Type 0} (a b c : List X) → IsLonger a b → IsLonger b c → IsLonger a c
longer_on a b c first second = (first.0 ++ second.0, second.1 ∙ ap (λ l. l ++ second.0) first.1 ∙ append_assoc a first.0 second.0)

longer_same : {X : Type 0} (a : List X) → IsLonger a a
longer_same a = ([], sym (append-nil a))

pub joins_on : (a b c : TypeTable) → TypesJoin a b → TypesJoin b c → TypesJoin a c
joins_on a b c first second =
    record {
      extends = record {
        types = longer_on (types_in a) (types_in b) (types_in c) first.extends.types second.extends.types;
        bodies = longer_on a.bodies b.bodies c.bodies first.extends.bodies second.extends.bodies;
        names = longer_on a.names b.names c.names first.extends.names second.extends.names;
      };
      tells = record { bodies = second.tells.bodies ∙ first.tells.bodies; names = second.tells.names ∙ first.tells.names };
      layouts = second.layouts ∙ first.layouts;
    }

pub joins_none : (a : TypeTable) → TypesJoin a a
joins_none a =
    record {
      extends = record { types = longer_same (types_in a); bodies = longer_same a.bodies; names = longer_same a.names };
      tells = record { bodies = refl; names = refl };
      layouts = refl;
    }

get_longer : {X : Type 0} (xs ys : List X) (i : ℕ) → i < length xs → slice_get (xs ++ ys) i ≡ slice_get xs i
get_longer [] ys i within = absurd (omega arith)
get_longer (x ∷ xs) ys zero within = refl
get_longer (x ∷ xs) ys (suc i) within = get_longer xs ys i (omega arith)

module _ (old new : TypeTable) (join : TypesJoin old new) where
  pub id_later : (id : TypeId) → IsTypeId old id → IsTypeId new id
  id_later id known = omega (arith, known, ap length join.extends.types.1, length-append (types_in old) join.extends.types.0)

  pub type_later : (id : TypeId) → IsTypeId old id → type_at new id ≡ type_at old id
  type_later id known =
      ap (λ types. unwrap_or (slice_get types id.0) no_type) join.extends.types.1
      ∙ ap (λ found. unwrap_or found no_type) (get_longer (types_in old) join.extends.types.0 id.0 known)

  pub fact_later : (fact : ExpressionFact) → IsKnownFact old fact → fact_seen new fact ≡ fact_seen old fact
  fact_later fact known = ap with_type (type_later fact.node.of known)
    where
      with_type : TypeTree → meaning.ExpressionFact
      with_type type_ =
          record {
            type_ = type_;
            is_place = fact.marks.is_place;
            is_fouled = fact.node.value.fouled;
            constant = number_in (loaded_type fact.node.value.width type_) fact.node.value.constant;
            is_null = fact.marks.is_null;
            width = fact.node.value.width;
            is_register = fact.marks.is_register;
            address = addressed_seen fact.marks.address;
            is_string = fact.marks.is_string;
          }

  pub node_later : (fact : NodeFact) → IsKnownNodeFact old fact → node_seen new fact ≡ node_seen old fact
  node_later facts.Unknown known = refl
  node_later (facts.Expression expression) known = ap meaning.Expression (fact_later expression known)
  node_later (facts.Specified specifiers) known =
      ap (λ type_. meaning.Specified (record { type_ = type_; storage = storage_seen specifiers.storage })) (type_later specifiers.of known)
  node_later (facts.Declared declaration) known =
      ap (λ type_. meaning.Declared (record (declared_seen old declaration) { type_ = type_ })) (type_later declaration.of known)
  node_later (facts.NamedType of) known = ap meaning.NamedType (type_later of known)

  pub node_known : (fact : NodeFact) → IsKnownNodeFact old fact → IsKnownNodeFact new fact
  node_known facts.Unknown known = known
  node_known (facts.Expression expression) known = id_later expression.node.of known
  node_known (facts.Specified specifiers) known = id_later specifiers.of known
  node_known (facts.Declared declaration) known = id_later declaration.of known
  node_known (facts.NamedType of) known = id_later of known

  pub nodes_later : (facts : List NodeFact) → All (IsKnownNodeFact old) facts → nodes_seen new facts ≡ nodes_seen old facts
  nodes_later [] known = refl
  nodes_later (fact ∷ others) known =
      (λ i. node_later fact (All-head (IsKnownNodeFact old) fact others known) i
      ∷ nodes_later others (All-tail (IsKnownNodeFact old) fact others known) i)

  pub nodes_known : (facts : List NodeFact) → All (IsKnownNodeFact old) facts → All (IsKnownNodeFact new) facts
  nodes_known [] known = All-nil (IsKnownNodeFact new)
  nodes_known (fact ∷ others) known =
      All-cons (IsKnownNodeFact new) fact others (node_known fact (All-head (IsKnownNodeFact old) fact others known))
      (nodes_known others (All-tail (IsKnownNodeFact old) fact others known))

-- A type that was made

pub made_type : (table : TypeTable) (id : TypeId) (type_ : TypeTree) → slice_get (types_in table) id.0 ≡ Some type_ → type_at table id ≡ type_
made_type table id type_ stands = ap (λ found. unwrap_or found no_type) stands

pub made_known : (table : TypeTable) (id : TypeId) (type_ : TypeTree) → slice_get (types_in table) id.0 ≡ Some type_ → IsTypeId table id
made_known table id type_ stands = slice_get_within (types_in table) id.0 type_ stands
