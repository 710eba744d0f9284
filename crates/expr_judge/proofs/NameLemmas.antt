-- A walk over what is known comes to the type that the declarations of a name give to it.
use Rattle.std.proofs.Common.{◌≡◌, ℕ, Bool, true, false, ◌&&◌, nat_eq, bytes_eq, List, [], ◌∷◌, All, IfSome, if◌then◌else◌, option_map, refl, ap, ◌∙◌, arith}
use Rattle.std.proofs.lemmas.Bool.Decides.{nat_tests}
use Rattle.sparse_model.specs.declared.ids.NameId.{NameId}
use Rattle.meaning_typing.specs.Facts.{fact_at}
use Rattle.c_types.specs.Table.{TypeTable, IsTypeId}
use Rattle.node_facts.specs.declared.fact.NodeFact.{NodeFact}
use Rattle.node_facts.specs.declared.fact.NodeFact.TheVariants as facts
use Rattle.node_facts.specs.Facts.{IsKnownNodeFact, declared_seen, name_seen, node_seen, nodes_seen}
use Rattle.expression_rows.specs.Names.{declared_by}
use Rattle.expr_judge.specs.Parts.{declaration_in, kept_at}
use Rattle.expr_judge.proofs.PartLemmas.{kept-is, known_at}

-- Names are seen alike where they have one number

and_true : (test : Bool) → test && true ≡ test
and_true true = refl
and_true false = refl

same_by : (number other : ℕ) (first second : Bool) → nat_eq number 0 ≡ first → nat_eq other 0 ≡ second
    → bytes_eq (if first then [] else number ∷ []) (if second then [] else other ∷ []) ≡ nat_eq number other
same_by number other true true e f = grind (arith, nat_tests)
same_by number other true false e f = grind (arith, nat_tests)
same_by number other false true e f = grind (arith, nat_tests)
same_by number other false false e f = and_true (nat_eq number other)

pub name_same : (name other : NameId) → bytes_eq (name_seen name) (name_seen other) ≡ nat_eq name.0 other.0
name_same name other = same_by name.0 other.0 (nat_eq name.0 0) (nat_eq other.0 0) refl refl

-- What is known of a declarator

module _ (table : TypeTable) where
  declaration-seen : (fact : NodeFact) → option_map (declared_seen table) (declaration_in fact) ≡ declared_by (node_seen table fact)
  declaration-seen facts.Unknown = refl
  declaration-seen (facts.Expression expression) = refl
  declaration-seen (facts.Specified specifiers) = refl
  declaration-seen (facts.Declared declaration) = refl
  declaration-seen (facts.NamedType of) = refl

  declaration-known : (fact : NodeFact) → IsKnownNodeFact table fact → IfSome (declaration_in fact) (λ declaration. IsTypeId table declaration.of)
  declaration-known facts.Unknown known = tt
  declaration-known (facts.Expression expression) known = tt
  declaration-known (facts.Specified specifiers) known = tt
  declaration-known (facts.Declared declaration) known = known
  declaration-known (facts.NamedType of) known = tt

  module _ (kept : List NodeFact) (handle : ℕ) where
    -- the declaration at a handle
    pub declared_at : option_map (declared_seen table) (declaration_in (kept_at kept handle)) ≡ declared_by (fact_at (nodes_seen table kept) handle)
    declared_at = declaration-seen (kept_at kept handle) ∙ ap declared_by (kept-is table kept handle)

    pub declared_known : All (IsKnownNodeFact table) kept → IfSome (declaration_in (kept_at kept handle)) (λ declaration. IsTypeId table declaration.of)
    declared_known known = declaration-known (kept_at kept handle) (known_at table kept handle known)
