-- What is known of a node is what its own row says.
use Rattle.std.proofs.Common.{◌≡◌, ℕ, ℤ, true, false, Bool, Option, Some, None, List, if◌then◌else◌, refl, sym, ap, ◌∙◌}
use Rattle.vocabulary.specs.declared.error_kind.ErrorKind.TheVariants.{ReturnWithoutValue, ValueReturnedFromVoid}
use Rattle.vocabulary.specs.declared.node_kind.NodeKind.{NodeKind}
use Rattle.vocabulary.specs.declared.node_kind.NodeKind.TheVariants as kinds
use Rattle.meaning_types.specs.Spaces.{is_void}
use Rattle.meaning_types.specs.Types.{TypeTree}
use Rattle.meaning_typing.specs.Aggregates.{KnownAggregates}
use Rattle.meaning_typing.specs.Facts.{Fact, Unknown, Expression, type_of_value}
use Rattle.meaning_typing.specs.MemberRows.{aggregates_before}
use Rattle.meaning_typing.specs.Rows.{Row, breaks, breaks_at, converted, nothing}
use Rattle.meaning_typing.specs.Statements.{result_around, return_row}
use Rattle.meaning_typing.specs.Surroundings.{Surrounding, Want, ForValue, surrounding_at}
use Rattle.meaning_typing.specs.Typing.{first_fact, part_token, row_with_constant, token_at}
use Rattle.meaning_typing.specs.Units.{UnitNodes, children_at, kind_at}
use Rattle.meaning_typing.specs.Wholes.{row_loaded}
use Rattle.meaning_typing.specs.WholeTyping.{whole_constant_at, whole_row_at, whole_row_by, whole_row_of}
use Rattle.meaning_statements.specs.Jumps.{function_left}
use Rattle.meaning_statements.specs.StatementRows.{statement_row_at, statement_row_of}
use Rattle.meaning_judgements.specs.Laws.{StatementsTellNoFacts}
use Rattle.meaning_judgements.specs.UnitRows.{row_by_statement, unit_row_at}

fact_kept : (kind : NodeKind) (row statement : Row) → (kind ≡ kinds.ReturnStatement → statement.fact ≡ row.fact) → (row_by_statement kind row statement).fact ≡ row.fact
fact_kept kinds.ReturnStatement row statement same = same refl
fact_kept kind row statement same = refl

-- of `return` nothing is known, by either row

either : (test : Bool) (row other : Row) → row.fact ≡ Unknown → other.fact ≡ Unknown → (if test then row else other).fact ≡ Unknown
either true row other one two = one
either false row other one two = two

return_unknown : (token value : ℕ) (fact : Option Fact) (result : Option TypeTree) → (return_row token value fact result).fact ≡ Unknown
return_unknown token value fact None = refl
return_unknown token value None (Some result) = either (is_void result) nothing (breaks (breaks_at ReturnWithoutValue token)) refl refl
return_unknown token value (Some (Expression expression)) (Some result) =
    either (is_void result)
    (if is_void (type_of_value expression) then nothing else breaks (breaks_at ValueReturnedFromVoid token))
    (record nothing { broken = (converted token 0 value expression result).broken; failures = (converted token 0 value expression result).failures })
    (either (is_void (type_of_value expression)) nothing (breaks (breaks_at ValueReturnedFromVoid token)) refl refl) refl
return_unknown token value (Some fact) (Some result) = refl

-- without a constant, and nothing is loaded
loaded_unknown : (aggregates : KnownAggregates) (token : ℕ) (want : Want) (constant : Option ℤ) (row : Row) → row.fact ≡ Unknown
    → (row_loaded aggregates.told token want (row_with_constant constant row)).fact ≡ Unknown
loaded_unknown aggregates token want constant row none =
    ap (λ (fact : Fact). (row_loaded aggregates.told token want (row_with_constant constant (record row { fact = fact }))).fact) none ∙ by want
  where
    by : (want : Want) → (row_loaded aggregates.told token want (row_with_constant constant (record row { fact = Unknown }))).fact ≡ Unknown
    by ForValue = refl
    by want = refl

module _ (nodes : UnitNodes) (surroundings : List Surrounding) (earlier : List Fact) (handle : ℕ) where
  whole_unknown : kind_at nodes handle ≡ kinds.ReturnStatement → (whole_row_at nodes surroundings earlier handle).fact ≡ Unknown
  whole_unknown is =
      let aggregates = aggregates_before nodes surroundings earlier in
      ap (λ (kind : NodeKind). (whole_row_by aggregates nodes surroundings earlier handle kind).fact) is
      ∙ loaded_unknown aggregates (token_at nodes handle) (surrounding_at surroundings handle).want
      (whole_constant_at aggregates nodes surroundings earlier handle) (whole_row_of aggregates nodes surroundings earlier handle kinds.ReturnStatement)
      (return_unknown (token_at nodes handle) (part_token nodes handle 0) (first_fact earlier (children_at nodes handle))
      (result_around nodes earlier (surrounding_at surroundings handle).around.function))

  statement_unknown : kind_at nodes handle ≡ kinds.ReturnStatement → (statement_row_at nodes surroundings earlier handle).fact ≡ Unknown
  statement_unknown is =
      ap (λ (kind : NodeKind). (statement_row_of nodes surroundings earlier handle kind).fact) is
      ∙ return_unknown (token_at nodes handle) (part_token nodes handle 0) (first_fact earlier (children_at nodes handle))
      (result_around nodes earlier (function_left surroundings handle))

pub statements_tell_no_facts : StatementsTellNoFacts
statements_tell_no_facts nodes surroundings earlier handle =
    fact_kept (kind_at nodes handle) (whole_row_at nodes surroundings earlier handle) (statement_row_at nodes surroundings earlier handle)
    (λ is. statement_unknown nodes surroundings earlier handle is ∙ sym (whole_unknown nodes surroundings earlier handle is))
