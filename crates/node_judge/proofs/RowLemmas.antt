-- The rows that other crates tell are those of the definition, by the kind of the node.
use Rattle.std.proofs.Common.{◌≡◌, ℕ, List, Result, IfOk, OnOk, refl, sym, ap, ◌∙◌}
use Rattle.std.proofs.lemmas.Result.{IfOk-weaker}
use Rattle.vocabulary.specs.declared.node_kind.NodeKind.TheVariants as kinds
use Rattle.sparse_model.specs.declared.failure.Failure.{Failure}
use Rattle.meaning_typing.specs.Aggregates.{KnownAggregates}
use Rattle.meaning_typing.specs.Facts.{Fact}
use Rattle.meaning_typing.specs.MemberRows.{bit_field_row}
use Rattle.meaning_typing.specs.Rows.{Row}
use Rattle.meaning_typing.specs.Statements.{result_around, return_row}
use Rattle.meaning_typing.specs.Surroundings.{Surrounding, surrounding_at}
use Rattle.meaning_typing.specs.Typing.{first_fact, token_at}
use Rattle.meaning_typing.specs.Units.{UnitNodes, child_at, children_at}
use Rattle.meaning_typing.specs.WholeTyping.{whole_declarator_row}
use Rattle.c_types.specs.Layouts.{told_in}
use Rattle.c_types.specs.Table.{TypeTable}
use Rattle.declaration_judge.specs.declared.declarations.Declarations.{Declarations}
use Rattle.declaration_judge.specs.Kept.{OnlyTypesJoin}
use Rattle.declaration_judge.specs.Rows.{array_row, asserted_row, list_row, parameter_row, unit_row}
use Rattle.expr_judge.specs.declared.row.NodeRow.{NodeRow}
use Rattle.expr_judge.specs.Rows.{Tells}
use Rattle.member_rows.specs.Aggregates.{aggregates_in}
use Rattle.member_rows.proofs.AggregateLemmas.{told_is}
use Rattle.node_facts.specs.declared.fact.NodeFact.{NodeFact}
use Rattle.node_facts.specs.Facts.{nodes_seen}
use Rattle.node_judge.specs.declared.known.Known.{Known}
use Rattle.node_judge.specs.Known.{IsKnownOf, table_of}
use Rattle.node_judge.specs.Rows.{row_over}
use Rattle.node_judge.proofs.KnownLemmas.{known_later, types_alone}
use Rattle.node_judge.proofs.PlainLemmas.{array_by, assertion_by, declarator_by, list_by, parameter_by, return_by, unit_by}

module _ (nodes : UnitNodes) (surroundings : List Surrounding) (table : TypeTable) (list : List NodeFact) (handle : ℕ) where
  abbrev aggregates : KnownAggregates
  aggregates = aggregates_in table

  abbrev facts : List Fact
  facts = nodes_seen table list

  pub array_told : array_row nodes facts handle ≡ row_over nodes surroundings table list handle kinds.ArrayDeclarator
  array_told = array_by aggregates nodes surroundings facts handle

  pub list_told : list_row nodes handle ≡ row_over nodes surroundings table list handle kinds.FunctionDeclarator
  list_told = list_by aggregates nodes surroundings facts handle

  pub parameter_told : parameter_row (told_in table) nodes surroundings facts handle ≡ row_over nodes surroundings table list handle kinds.Parameter
  parameter_told =
      ap (λ told. parameter_row told nodes surroundings facts handle) (sym (told_is table))
      ∙ parameter_by aggregates nodes surroundings facts handle

  pub assertion_told : asserted_row nodes facts handle ≡ row_over nodes surroundings table list handle kinds.StaticAssertion
  assertion_told = assertion_by aggregates nodes surroundings facts handle

  pub unit_told : unit_row (told_in table) nodes surroundings facts handle ≡ row_over nodes surroundings table list handle kinds.TranslationUnit
  unit_told =
      ap (λ told. unit_row told nodes surroundings facts handle) (sym (told_is table))
      ∙ unit_by aggregates nodes surroundings facts handle

  pub declarator_told :
      whole_declarator_row (told_in table) nodes surroundings facts handle (surrounding_at surroundings handle)
      ≡ row_over nodes surroundings table list handle kinds.Declarator
  declarator_told =
      ap (λ told. whole_declarator_row told nodes surroundings facts handle (surrounding_at surroundings handle)) (sym (told_is table))
      ∙ declarator_by aggregates nodes surroundings facts handle

  pub return_told :
      return_row (token_at nodes handle) (token_at nodes (child_at nodes handle 0)) (first_fact facts (children_at nodes handle))
      (result_around nodes facts (surrounding_at surroundings handle).around.function)
      ≡ row_over nodes surroundings table list handle kinds.ReturnStatement
  return_told = return_by aggregates nodes surroundings facts handle

  pub width_told : bit_field_row nodes facts handle (surrounding_at surroundings handle) ≡ row_over nodes surroundings table list handle kinds.BitFieldWidth
  width_told = refl

-- Answers that may be want of memory

-- what is known stays where a row is told over the types alone
pub keeps_types :
    {E : Type 0} (nodes : UnitNodes) (surroundings : List Surrounding) (count : ℕ) (known : Known) (types : TypeTable) (result : Result NodeRow E)
    (before after : List Failure) (meant : Row) {seen : List Fact} → IsKnownOf nodes surroundings count seen known
    → IfOk result (λ row. Tells (table_of known) types before after row meant)
    → OnOk result (IsKnownOf nodes surroundings count seen (record known { declarations = record known.declarations { types = types } }))
keeps_types nodes surroundings count known types result before after meant is tells =
    IfOk-weaker result (λ row. Tells (table_of known) types before after row meant) _
    (λ row it. known_later nodes surroundings count known is _ (types_alone known.declarations types it.keeps)) tells

pub keeps_kept :
    {E : Type 0} (nodes : UnitNodes) (surroundings : List Surrounding) (count : ℕ) (known : Known) (kept : Declarations) (result : Result NodeRow E) {seen : List Fact}
    → IsKnownOf nodes surroundings count seen known → OnOk result (OnlyTypesJoin known.declarations kept)
    → OnOk result (IsKnownOf nodes surroundings count seen (record known { declarations = kept }))
keeps_kept nodes surroundings count known kept result is only =
    IfOk-weaker result (λ row. OnlyTypesJoin known.declarations kept) _ (λ row it. known_later nodes surroundings count known is kept it) only
