-- The last of the chain has the result.
use Rattle.std.proofs.Common.{sym, ap, ◌∙◌, arith}
use Rattle.meaning_types.specs.Types.{FunctionTree}
use Rattle.c_types.specs.Rows.{base_of, parameter_types, type_numbered, types_of}
use Rattle.c_types.proofs.RowLemmas.{length-types_of}
use Rattle.c_types.proofs.Told.{function-inside, function-is_plain, function-result, function-variadic}
use Rattle.c_types.proofs.rows.Rows.function_base.Goals as goal

pub row-requires : goal.row-requires
row-requires c = omega (arith, c.loop-behind.invariant.known, length-types_of c.args.self.now.rows.entries)

pub unwrap-answer-requires : goal.unwrap-answer-requires
unwrap-answer-requires c =
    rw c.function.ensures
    (function-is_plain c.args.self.now.rows.entries c.requires.rows c.loop-behind.rest c.row.result c.row.ensures c.loop-behind.invariant.function c.in_default.ensures.none)

pub returns-clause-base : goal.returns-clause-base
returns-clause-base c =
    let rows = c.args.self.now.rows.entries in
    let is = sym c.function.ensures ∙ c.unwrap-answer.ensures in
    let result = sym c.loop-behind.invariant.result ∙ function-result rows c.requires.rows c.loop-behind.rest c.row.result c.row.ensures c.unwrap-answer.result.0 c.unwrap-answer.result.1 is in
    let variadic = sym c.loop-behind.invariant.variadic ∙ function-variadic rows c.requires.rows c.loop-behind.rest c.row.result c.row.ensures c.unwrap-answer.result.0 c.unwrap-answer.result.1 is in
    sym (ap base_of c.requires.function ∙ (λ i. FunctionTree (result i) (parameter_types (type_numbered (types_of rows) c.args.number)) (variadic i)))

pub returns-clause-known : goal.returns-clause-known
returns-clause-known c =
    function-inside c.args.self.now.rows.entries c.requires.rows c.loop-behind.rest c.row.result c.row.ensures c.unwrap-answer.result.0 c.unwrap-answer.result.1
    (sym c.function.ensures ∙ c.unwrap-answer.ensures)
