-- The rows of declarations as the definition tells them by kinds, and rows as they are made.
use Rattle.std.specs.Prelude.{◌≡◌, ℕ, List, Option, Some, None}
use Rattle.vocabulary.specs.declared.node_kind.NodeKind.TheVariants as kinds
use Rattle.meaning_layout.specs.Sizes.{Told}
use Rattle.meaning_operands.specs.Failures as meaning
use Rattle.meaning_rules.specs.Rules.{lesser}
use Rattle.meaning_typing.specs.Aggregates.{KnownAggregates}
use Rattle.meaning_typing.specs.DeclarationRows.{empty_list_failures, parameter_node_broken, sizes_broken, unit_end_broken}
use Rattle.meaning_typing.specs.Declarators.{parameter_fact, parameter_type}
use Rattle.meaning_typing.specs.Facts.{Fact, Unknown}
use Rattle.meaning_typing.specs.Rows.{Row, breaks, known, nothing}
use Rattle.meaning_typing.specs.Surroundings.{Surrounding, surrounding_at}
use Rattle.meaning_typing.specs.Typing.{part_fact, token_at}
use Rattle.meaning_typing.specs.Units.{UnitNodes, children_at}
use Rattle.meaning_typing.specs.Wholes.{and_breaks}
use Rattle.meaning_typing.specs.WholeTyping.{assertion_row, whole_declarator_row, whole_row_of}
use Rattle.node_facts.specs.declared.fact.NodeFact.TheVariants as facts
use Rattle.expression_rows.specs.declared.row.Broken.{Broken}
use Rattle.expr_judge.specs.declared.row.NodeRow.{NodeRow}
use Rattle.expr_judge.specs.Rows.{KeptRow}

-- By kinds

-- 6.7.6.2
abbrev pub array_row : UnitNodes → List Fact → (handle : ℕ) → Row
array_row nodes facts handle = breaks (sizes_broken nodes facts (children_at nodes handle))

-- 6.7.6.3
abbrev pub list_row : UnitNodes → (handle : ℕ) → Row
list_row nodes handle = record nothing { failures = empty_list_failures (token_at nodes handle) (children_at nodes handle) }

abbrev pub parameter_row : Told → UnitNodes → List Surrounding → List Fact → (handle : ℕ) → Row
parameter_row told nodes surroundings facts handle =
    and_breaks (known (parameter_fact nodes facts handle))
    (parameter_node_broken told nodes surroundings facts handle (parameter_type nodes facts handle))

-- 6.7.10
abbrev pub asserted_row : UnitNodes → List Fact → (handle : ℕ) → Row
asserted_row nodes facts handle = assertion_row (token_at nodes handle) (part_fact nodes facts handle 0)

-- 6.9
abbrev pub unit_row : Told → UnitNodes → List Surrounding → List Fact → (handle : ℕ) → Row
unit_row told nodes surroundings facts handle = breaks (unit_end_broken told nodes surroundings facts handle)

-- these are the definition's rows
pub record AreRowsOf (aggregates : KnownAggregates) (nodes : UnitNodes) (surroundings : List Surrounding) (facts : List Fact) (handle : ℕ) : Type 0 where
  pub array : whole_row_of aggregates nodes surroundings facts handle kinds.ArrayDeclarator ≡ array_row nodes facts handle
  pub list : whole_row_of aggregates nodes surroundings facts handle kinds.FunctionDeclarator ≡ list_row nodes handle
  pub parameter : whole_row_of aggregates nodes surroundings facts handle kinds.Parameter ≡ parameter_row aggregates.told nodes surroundings facts handle
  pub assertion : whole_row_of aggregates nodes surroundings facts handle kinds.StaticAssertion ≡ asserted_row nodes facts handle
  pub unit : whole_row_of aggregates nodes surroundings facts handle kinds.TranslationUnit ≡ unit_row aggregates.told nodes surroundings facts handle
  pub declarator :
      whole_row_of aggregates nodes surroundings facts handle kinds.Declarator
      ≡ whole_declarator_row aggregates.told nodes surroundings facts handle (surrounding_at surroundings handle)

-- As they are made

abbrev pub broken_row : Option Broken → NodeRow
broken_row broken = record { fact = facts.Unknown; broken = broken; passed = None }

-- a row that breaks this besides
abbrev pub kept_and : KeptRow → Option meaning.Broken → KeptRow
kept_and row None = row
kept_and row (Some broken) = record row { fact = Unknown; broken = lesser row.broken (Some broken) }

-- of a declarator whose parts break something, where its name breaks this
abbrev pub row_without_type : (parts names : Option meaning.Broken) → (passed : Option ℕ) → KeptRow
row_without_type parts names passed = record { fact = Unknown; broken = lesser parts names; passed = passed }
