-- What a node declares behind others.
use Rattle.std.proofs.Common.{◌≡◌, ◌≤◌, ℕ, List, length, Option, Some, None, option_map, refl, sym, ap, ◌∙◌}
use Rattle.std.proofs.lemmas.List.{get_or_past}
use Rattle.std.proofs.lemmas.Option.{same_Some}
use Rattle.meaning_typing.specs.ContextSums.{type_declared}
use Rattle.meaning_typing.specs.Facts as meaning
use Rattle.meaning_typing.specs.Names.{declared_behind, declared_with, initializer_behind}
use Rattle.meaning_typing.specs.Surroundings.{Surrounding, surrounding_at}
use Rattle.meaning_typing.specs.Units.{UnitNodes}
use Rattle.c_types.specs.Table.{TypeTable}
use Rattle.node_facts.specs.declared.declared.DeclaredFact.{DeclaredFact}
use Rattle.node_facts.specs.declared.fact.NodeFact.{NodeFact}
use Rattle.node_facts.specs.declared.fact.NodeFact.TheVariants as facts
use Rattle.node_facts.specs.Facts.{declared_seen, node_seen, nodes_seen}
use Rattle.expression_rows.specs.Names.{declared_by}
use Rattle.expr_judge.specs.Parts.{declaration_in, kept_at}
use Rattle.expr_judge.proofs.PartLemmas.{kept-is}

pub type_declared-by : (fact : meaning.Fact) → type_declared fact ≡ option_map (λ (declaration : meaning.DeclaredFact). declaration.type_) (declared_by fact)
type_declared-by meaning.Unknown = refl
type_declared-by (meaning.Expression expression) = refl
type_declared-by (meaning.Specified specifiers) = refl
type_declared-by (meaning.Declared declaration) = refl
type_declared-by (meaning.NamedType type_) = refl

declared-so : (table : TypeTable) (fact : NodeFact) (declaration : DeclaredFact) → declaration_in fact ≡ Some declaration
    → node_seen table fact ≡ meaning.Declared (declared_seen table declaration)
declared-so table facts.Unknown declaration is = cc
declared-so table (facts.Expression expression) declaration is = cc
declared-so table (facts.Specified specifiers) declaration is = cc
declared-so table (facts.Declared other) declaration is = ap (λ one. meaning.Declared (declared_seen table one)) (sym (same_Some declaration other (sym is)))
declared-so table (facts.NamedType of) declaration is = cc

undeclared-so : (table : TypeTable) (fact : NodeFact) (initializer : meaning.Fact) → declaration_in fact ≡ None
    → None ≡ declared_by (declared_with (node_seen table fact) initializer)
undeclared-so table facts.Unknown initializer none = refl
undeclared-so table (facts.Expression expression) initializer none = refl
undeclared-so table (facts.Specified specifiers) initializer none = refl
undeclared-so table (facts.Declared declaration) initializer none = cc
undeclared-so table (facts.NamedType of) initializer none = refl

module _ (table : TypeTable) (kept : List NodeFact) (handle : ℕ) where
  pub declared-at : (declaration : DeclaredFact) → declaration_in (kept_at kept handle) ≡ Some declaration
      → meaning.fact_at (nodes_seen table kept) handle ≡ meaning.Declared (declared_seen table declaration)
  declared-at declaration is = sym (kept-is table kept handle) ∙ declared-so table (kept_at kept handle) declaration is

  pub undeclared-at : (nodes : UnitNodes) (surroundings : List Surrounding) → declaration_in (kept_at kept handle) ≡ None
      → None ≡ declared_by (declared_behind nodes surroundings (nodes_seen table kept) handle)
  undeclared-at nodes surroundings none =
      let initializer = meaning.fact_at (nodes_seen table kept) (initializer_behind nodes (surrounding_at surroundings handle) handle) in
      undeclared-so table (kept_at kept handle) initializer none
      ∙ ap (λ fact. declared_by (declared_with fact initializer)) (kept-is table kept handle)

  -- there is nothing behind the last one
  pub undeclared-past : (nodes : UnitNodes) (surroundings : List Surrounding) → length kept ≤ handle
      → None ≡ declared_by (declared_behind nodes surroundings (nodes_seen table kept) handle)
  undeclared-past nodes surroundings past = undeclared-at nodes surroundings (ap declaration_in (get_or_past kept handle facts.Unknown past))
