-- The row of a width is told by what its type is.
use Rattle.std.proofs.Common.{◌≡◌, ℕ, Bool, Option, Some, option_map, refl, ap, ◌∙◌}
use Rattle.meaning_types.specs.Types.{TypeTree, Typed, VoidTree, IntegerTree, RestrictedTree, PointerTree, ArrayTree, FunctionTree, AggregateTree}
use Rattle.meaning_rules.specs.Rules.{least_broken}
use Rattle.meaning_typing.specs.Facts.{Fact}
use Rattle.meaning_typing.specs.MemberRows.{one_bit_failures, width_broken, width_row}
use Rattle.c_types.specs.Outlines.{outline_of}
use Rattle.c_types.specs.Table.{TypeTable}
use Rattle.sparse_model.specs.declared.failure.Failure as kept
use Rattle.node_facts.specs.declared.fact.NodeFact.{NodeFact}
use Rattle.node_facts.specs.Facts.{node_seen}
use Rattle.expression_rows.specs.declared.row.Broken.{Broken}
use Rattle.expression_rows.specs.Rows.{broken_seen, failure_listed, told}
use Rattle.member_declarations.specs.Seen.{row_seen, row_unless}
use Rattle.member_declarations.specs.Widths.{broken_in, failures_in}
use Rattle.member_declarations.proofs.RowLemmas.{row_told}

broken_told : (type_ : TypeTree) (token : ℕ) (is_named : Bool) (size : Fact) → broken_in (outline_of type_) token is_named size ≡ width_broken token is_named type_ size
broken_told (Typed VoidTree _ _) token is_named size = refl
broken_told (Typed (IntegerTree kind) _ _) token is_named size = refl
broken_told (Typed (RestrictedTree kind identity) _ _) token is_named size = refl
broken_told (Typed (PointerTree target) _ _) token is_named size = refl
broken_told (Typed (ArrayTree element length) _ _) token is_named size = refl
broken_told (Typed (FunctionTree result parameters variadic) _ _) token is_named size = refl
broken_told (Typed (AggregateTree number is_union) _ _) token is_named size = refl

failures_told : (type_ : TypeTree) (token : ℕ) (size : Fact) → failures_in (outline_of type_) token size ≡ one_bit_failures token type_ size
failures_told (Typed VoidTree _ _) token size = refl
failures_told (Typed (IntegerTree kind) _ _) token size = refl
failures_told (Typed (RestrictedTree kind identity) _ _) token size = refl
failures_told (Typed (PointerTree target) _ _) token size = refl
failures_told (Typed (ArrayTree element length) _ _) token size = refl
failures_told (Typed (FunctionTree result parameters variadic) _ _) token size = refl
failures_told (Typed (AggregateTree number is_union) _ _) token size = refl

-- the row of a width of this type
pub width_told : (table : TypeTable) (type_ : TypeTree) (token : ℕ) (is_named : Bool) (size : NodeFact) (broken : Option Broken) (failure : Option kept.Failure)
    → option_map broken_seen broken ≡ least_broken (broken_in (outline_of type_) token is_named (node_seen table size))
    → failure_listed table failure ≡ failures_in (outline_of type_) token (node_seen table size)
    → row_seen table (row_unless broken size failure) ≡ told (width_row token is_named (Some type_) (node_seen table size))
width_told table type_ token is_named size broken failure broken_is failure_is =
    let seen = node_seen table size in
    row_told table broken size failure (width_broken token is_named type_ seen) (one_bit_failures token type_ seen)
    (broken_is ∙ ap least_broken (broken_told type_ token is_named seen))
    (failure_is ∙ failures_told type_ token seen)
