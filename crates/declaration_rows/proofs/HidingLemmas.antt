-- Names that hide others, by the number of their nodes.
use Rattle.std.proofs.Common.{◌≡◌, ℕ, zero, suc, ◌-◌, Bool, true, false, ◌&&◌, ◌==◌, List, Some, None, IfSome, get_or, refl, sym, ap, ◌∙◌, arith}
use Rattle.vocabulary.specs.declared.rule.RuleCode.TheVariants.{S2}
use Rattle.sparse_model.specs.declared.ids.NameId.{NameId}
use Rattle.meaning_typing.specs.DeclarationRows as meaning
use Rattle.c_types.specs.Table.{TypeTable}
use Rattle.decl_judge.proofs.AskedLemmas.{seen_at}
use Rattle.expression_rows.specs.Rows.{IsKnownFailure, failure_listed}
use Rattle.node_facts.specs.declared.declared.DeclaredFact.{DeclaredFact}
use Rattle.node_facts.specs.declared.fact.NodeFact.{NodeFact}
use Rattle.node_facts.specs.declared.fact.NodeFact.TheVariants as facts
use Rattle.node_facts.specs.Facts.{declared_seen, name_seen, node_seen, nodes_seen}
use Rattle.declaration_rows.specs.Failures.{failure_with, hiding_with}
use Rattle.declaration_rows.specs.Kept.{hides_kept, links_kept}
use Rattle.declaration_rows.proofs.KeptLemmas.{name_same}

pub hiding_none : (token number : ℕ) (name : NameId) → hiding_with token number name false ≡ None
hiding_none token zero name = refl
hiding_none token (suc hidden) name = refl

pub hiding_some : (token number : ℕ) (name : NameId) → (number == 0) ≡ false → hiding_with token number name true ≡ Some (failure_with S2 token name)
hiding_some token zero name not_zero = cc
hiding_some token (suc hidden) name not_zero = refl

pub hides_from : (kept : List NodeFact) (number : ℕ) (declaration : DeclaredFact) → (number == 0) ≡ false
    → hides_kept kept number declaration ≡ declaration.has_linkage && links_kept declaration.name (get_or kept (number - 1) facts.Unknown)
hides_from kept zero declaration not_zero = cc
hides_from kept (suc hidden) declaration not_zero =
    ap (λ n. declaration.has_linkage && links_kept declaration.name (get_or kept n facts.Unknown)) before
  where
    before : hidden ≡ suc hidden - 1
    before = omega arith

-- As they are seen

pub hiding_listed : (table : TypeTable) (token number : ℕ) (name : NameId) (is_counted : Bool)
    → failure_listed table (hiding_with token number name is_counted) ≡ meaning.hiding_failures token number (name_seen name) is_counted
hiding_listed table token zero name is_counted = refl
hiding_listed table token (suc hidden) name true = refl
hiding_listed table token (suc hidden) name false = refl

pub hiding_known : (table : TypeTable) (token number : ℕ) (name : NameId) (is_counted : Bool)
    → IfSome (hiding_with token number name is_counted) (IsKnownFailure table)
hiding_known table token zero name is_counted = tt
hiding_known table token (suc hidden) name true = (tt, tt)
hiding_known table token (suc hidden) name false = tt

links_told : (table : TypeTable) (name : NameId) (fact : NodeFact) → links_kept name fact ≡ meaning.links_same (name_seen name) (node_seen table fact)
links_told table name facts.Unknown = refl
links_told table name (facts.Expression expression) = refl
links_told table name (facts.Specified specifiers) = refl
links_told table name (facts.Declared declaration) = ap (λ same. declaration.has_linkage && same) (sym (name_same declaration.name name))
links_told table name (facts.NamedType of) = refl

pub hides_told : (table : TypeTable) (kept : List NodeFact) (number : ℕ) (declaration : DeclaredFact)
    → hides_kept kept number declaration ≡ meaning.hides_same (nodes_seen table kept) number (declared_seen table declaration)
hides_told table kept zero declaration = refl
hides_told table kept (suc hidden) declaration =
    ap (λ same. declaration.has_linkage && same)
    (links_told table declaration.name (get_or kept hidden facts.Unknown)
    ∙ ap (meaning.links_same (name_seen declaration.name)) (seen_at table kept hidden))
