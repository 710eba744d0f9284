-- What is asked of facts is what the definitions ask of them as they are seen.
use Rattle.std.proofs.Common.{◌≡◌, ℕ, zero, suc, Bool, true, false, All, List, [], ◌∷◌, Option, Some, None, IfSome, option_map, if◌then◌else◌, refl, sym, ap, ◌∙◌}
use Rattle.std.proofs.lemmas.List.Elements.{All-head, All-tail}
use Rattle.meaning_types.specs.Types.{TypeTree}
use Rattle.meaning_typing.specs.Declarators as declarators
use Rattle.meaning_typing.specs.Facts as meaning
use Rattle.meaning_typing.specs.Specifiers as specifiers
use Rattle.meaning_typing.specs.Units.{UnitNodes, kind_at, child_at}
use Rattle.c_types.specs.Table.{TypeTable, IsTypeId, type_at}
use Rattle.node_facts.specs.declared.fact.NodeFact.{NodeFact}
use Rattle.node_facts.specs.declared.fact.NodeFact.TheVariants as facts
use Rattle.node_facts.specs.Facts.{IsKnownNodeFact, node_seen, nodes_seen, specified_seen}
use Rattle.decl_judge.specs.Asked.{declared_in, kept_at, named_in, naming_handle, specified_in, specifiers_kept}

module _ (table : TypeTable) where
  pub seen_at : (kept : List NodeFact) (handle : ℕ) → node_seen table (kept_at kept handle) ≡ meaning.fact_at (nodes_seen table kept) handle
  seen_at [] handle = refl
  seen_at (fact ∷ kept) zero = refl
  seen_at (fact ∷ kept) (suc handle) = seen_at kept handle

  pub known_at : (kept : List NodeFact) (handle : ℕ) → All (IsKnownNodeFact table) kept → IsKnownNodeFact table (kept_at kept handle)
  known_at [] handle known = tt
  known_at (fact ∷ kept) zero known = All-head (IsKnownNodeFact table) fact kept known
  known_at (fact ∷ kept) (suc handle) known = known_at kept handle (All-tail (IsKnownNodeFact table) fact kept known)

  pub named_told : (fact : NodeFact) → option_map (type_at table) (named_in fact) ≡ specifiers.type_named (node_seen table fact)
  named_told facts.Unknown = refl
  named_told (facts.Expression expression) = refl
  named_told (facts.Specified said) = refl
  named_told (facts.Declared declaration) = refl
  named_told (facts.NamedType of) = refl

  pub named_known : (fact : NodeFact) → IsKnownNodeFact table fact → IfSome (named_in fact) (IsTypeId table)
  named_known facts.Unknown known = tt
  named_known (facts.Expression expression) known = tt
  named_known (facts.Specified said) known = tt
  named_known (facts.Declared declaration) known = tt
  named_known (facts.NamedType of) known = known

  specified_told : (fact : NodeFact) → option_map (specified_seen table) (specified_in fact) ≡ declarators.specified_by (node_seen table fact)
  specified_told facts.Unknown = refl
  specified_told (facts.Expression expression) = refl
  specified_told (facts.Specified said) = refl
  specified_told (facts.Declared declaration) = refl
  specified_told (facts.NamedType of) = refl

  specified_known : (fact : NodeFact) → IsKnownNodeFact table fact → IfSome (specified_in fact) (λ said. IsTypeId table said.of)
  specified_known facts.Unknown known = tt
  specified_known (facts.Expression expression) known = tt
  specified_known (facts.Specified said) known = known
  specified_known (facts.Declared declaration) known = tt
  specified_known (facts.NamedType of) known = tt

  declared_told : (fact : NodeFact) → option_map (type_at table) (declared_in fact) ≡ declarators.type_declared (node_seen table fact)
  declared_told facts.Unknown = refl
  declared_told (facts.Expression expression) = refl
  declared_told (facts.Specified said) = refl
  declared_told (facts.Declared declaration) = refl
  declared_told (facts.NamedType of) = refl

  declared_known : (fact : NodeFact) → IsKnownNodeFact table fact → IfSome (declared_in fact) (IsTypeId table)
  declared_known facts.Unknown known = tt
  declared_known (facts.Expression expression) known = tt
  declared_known (facts.Specified said) known = tt
  declared_known (facts.Declared declaration) known = known
  declared_known (facts.NamedType of) known = tt

  module _ (kept : List NodeFact) where
    pub named_at_told : (handle : ℕ) → option_map (type_at table) (named_in (kept_at kept handle)) ≡ specifiers.type_named (meaning.fact_at (nodes_seen table kept) handle)
    named_at_told handle = named_told (kept_at kept handle) ∙ ap specifiers.type_named (seen_at kept handle)

    pub named_at_known : (handle : ℕ) → All (IsKnownNodeFact table) kept → IfSome (named_in (kept_at kept handle)) (IsTypeId table)
    named_at_known handle known = named_known (kept_at kept handle) (known_at kept handle known)

    pub declared_at_told : (handle : ℕ) → option_map (type_at table) (declared_in (kept_at kept handle)) ≡ declarators.type_declared (meaning.fact_at (nodes_seen table kept) handle)
    declared_at_told handle = declared_told (kept_at kept handle) ∙ ap declarators.type_declared (seen_at kept handle)

    pub declared_at_known : (handle : ℕ) → All (IsKnownNodeFact table) kept → IfSome (declared_in (kept_at kept handle)) (IsTypeId table)
    declared_at_known handle known = declared_known (kept_at kept handle) (known_at kept handle known)

    module _ (nodes : UnitNodes) where
      pub specifiers_told : (parent : ℕ) → option_map (specified_seen table) (specifiers_kept nodes kept parent) ≡ declarators.specifiers_of nodes (nodes_seen table kept) parent
      specifiers_told parent = specified_told (kept_at kept (child_at nodes parent 0)) ∙ ap declarators.specified_by (seen_at kept (child_at nodes parent 0))

      pub specifiers_known : (parent : ℕ) → All (IsKnownNodeFact table) kept → IfSome (specifiers_kept nodes kept parent) (λ said. IsTypeId table said.of)
      specifiers_known parent known = specified_known (kept_at kept (child_at nodes parent 0)) (known_at kept (child_at nodes parent 0) known)

-- The type that specifiers say

abbrev pub said_by : UnitNodes → List meaning.Fact → specifiers.Words → Option ℕ → Option TypeTree
said_by nodes facts words None = Some (specifiers.type_of_words words)
said_by nodes facts words (Some handle) = specifiers.type_named (meaning.fact_at facts handle)

pub said_if : (nodes : UnitNodes) (facts : List meaning.Fact) (words : specifiers.Words) (names : Bool) (handle : ℕ) (others : Option ℕ)
    → (if names then specifiers.type_named (meaning.fact_at facts handle) else said_by nodes facts words others)
    ≡ said_by nodes facts words (if names then Some handle else others)
said_if nodes facts words true handle others = refl
said_if nodes facts words false handle others = refl

-- by the first node that names a type
pub said_told : (nodes : UnitNodes) (facts : List meaning.Fact) (words : specifiers.Words) (handles : List ℕ)
    → said_by nodes facts words (naming_handle nodes handles) ≡ specifiers.type_said nodes facts words handles
said_told nodes facts words [] = refl
said_told nodes facts words (handle ∷ handles) =
    sym (said_if nodes facts words (specifiers.names_type (kind_at nodes handle)) handle (naming_handle nodes handles))
    ∙ ap (λ other. if specifiers.names_type (kind_at nodes handle) then specifiers.type_named (meaning.fact_at facts handle) else other) (said_told nodes facts words handles)
