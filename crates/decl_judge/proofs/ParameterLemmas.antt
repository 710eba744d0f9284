-- The types of parameters, by their numbers.
use Rattle.std.proofs.Common.{◌≡◌, ℕ, false, All, List, [], ◌∷◌, ◌++◌, Option, Some, None, IfSome, length, slice_get, option_map, refl, sym, ap, ◌∙◌, arith}
use Rattle.std.proofs.lemmas.List.{append_assoc}
use Rattle.std.proofs.lemmas.List.Elements.{All-cons, All-nil}
use Rattle.vocabulary.specs.declared.node_kind.NodeKind.{NodeKind}
use Rattle.vocabulary.specs.declared.node_kind.NodeKind.TheVariants as kinds
use Rattle.sparse_model.specs.declared.ids.TypeId.{TypeId}
use Rattle.meaning_types.specs.Types.{TypeTrees}
use Rattle.meaning_typing.specs.Declarators as declarators
use Rattle.meaning_typing.specs.Units.{UnitNodes, kind_at}
use Rattle.c_types.specs.Rows.{types_numbered}
use Rattle.c_types.specs.Table.{TypeTable, IsTypeId, type_at, types_in}
use Rattle.node_facts.specs.declared.fact.NodeFact.{NodeFact}
use Rattle.node_facts.specs.Facts.{IsKnownNodeFact, node_seen, nodes_seen}
use Rattle.decl_judge.specs.Asked.{kept_at, more_ids, named_in, only_of, parameter_ids, with_parameter_id}
use Rattle.decl_judge.specs.Units.{handles_of}
use Rattle.decl_judge.proofs.AskedLemmas.{known_at, named_known, named_told, seen_at}

pub only_told : (children : List (ℕ × ℕ)) (entry : ℕ × ℕ) → length children ≡ 1 → slice_get children 0 ≡ Some entry → Some entry.0 ≡ only_of (handles_of children)
only_told [] entry one first = absurd (omega (arith, one))
only_told (child ∷ []) entry one first = ap (option_map (λ child. child.0)) (sym first)
only_told (child ∷ other ∷ children) entry one first = absurd (omega (arith, one))

-- One parameter more

with_named : (kind : NodeKind) (fact : NodeFact) (ids : Option (List TypeId)) → declarators.is_ellipsis kind ≡ false
    → with_parameter_id kind fact ids ≡ more_ids (named_in fact) ids
with_named kinds.Ellipsis fact ids not_dots = cc
with_named kind fact ids not_dots = refl

fused : (front : List TypeId) (of : TypeId) (ids : Option (List TypeId))
    → option_map (λ more. (front ++ of ∷ []) ++ more) ids ≡ option_map (λ more. front ++ more) (more_ids (Some of) ids)
fused front of None = refl
fused front of (Some ids) = ap Some (append_assoc front (of ∷ []) ids)

pub one_more : (front : List TypeId) (of : TypeId) (kind : NodeKind) (fact : NodeFact) (ids : Option (List TypeId))
    → declarators.is_ellipsis kind ≡ false → named_in fact ≡ Some of
    → option_map (λ more. (front ++ of ∷ []) ++ more) ids ≡ option_map (λ more. front ++ more) (with_parameter_id kind fact ids)
one_more front of kind fact ids not_dots is =
    fused front of ids
    ∙ ap (option_map (λ more. front ++ more)) (ap (λ id. more_ids id ids) (sym is) ∙ sym (with_named kind fact ids not_dots))

-- All parameters

module _ (table : TypeTable) where
  abbrev pub numbered : Option (List TypeId) → Option TypeTrees
  numbered ids = option_map (types_numbered (types_in table)) ids

  more_told : (id : Option TypeId) (ids : Option (List TypeId)) → numbered (more_ids id ids) ≡ declarators.more_types (option_map (type_at table) id) (numbered ids)
  more_told None ids = refl
  more_told (Some id) None = refl
  more_told (Some id) (Some ids) = refl

  parameter_told : (kind : NodeKind) (fact : NodeFact) (ids : Option (List TypeId))
      → numbered (with_parameter_id kind fact ids) ≡ declarators.with_parameter kind (node_seen table fact) (numbered ids)
  parameter_told kinds.Ellipsis fact ids = refl
  parameter_told kind fact ids = more_told (named_in fact) ids ∙ ap (λ type_. declarators.more_types type_ (numbered ids)) (named_told table fact)

  abbrev pub AreKnown : Option (List TypeId) → Type 0
  AreKnown found = IfSome found (All (IsTypeId table))

  more_known : (id : Option TypeId) (ids : Option (List TypeId)) → IfSome id (IsTypeId table) → AreKnown ids → AreKnown (more_ids id ids)
  more_known None ids known others = tt
  more_known (Some id) None known others = tt
  more_known (Some id) (Some ids) known others = All-cons (IsTypeId table) id ids known others

  parameter_known : (kind : NodeKind) (fact : NodeFact) (ids : Option (List TypeId)) → IsKnownNodeFact table fact → AreKnown ids
      → AreKnown (with_parameter_id kind fact ids)
  parameter_known kinds.Ellipsis fact ids known others = others
  parameter_known kind fact ids known others = more_known (named_in fact) ids (named_known table fact known) others

  module _ (nodes : UnitNodes) (kept : List NodeFact) where
    pub parameters_told : (handles : List ℕ) → numbered (parameter_ids nodes kept handles) ≡ declarators.parameter_types nodes (nodes_seen table kept) handles
    parameters_told [] = refl
    parameters_told (handle ∷ handles) =
        parameter_told (kind_at nodes handle) (kept_at kept handle) (parameter_ids nodes kept handles)
        ∙ (λ i. declarators.with_parameter (kind_at nodes handle) (seen_at table kept handle i) (parameters_told handles i))

    pub parameters_known : (handles : List ℕ) → All (IsKnownNodeFact table) kept → AreKnown (parameter_ids nodes kept handles)
    parameters_known [] known = All-nil (IsTypeId table)
    parameters_known (handle ∷ handles) known =
        parameter_known (kind_at nodes handle) (kept_at kept handle) (parameter_ids nodes kept handles) (known_at table kept handle known) (parameters_known handles known)
