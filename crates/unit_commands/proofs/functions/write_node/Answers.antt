-- By its kind.
use Rattle.std.proofs.Common.{sym, ap, ◌∙◌}
use Rattle.meaning_typing.specs.Units.{kind_at}
use Rattle.decl_judge.specs.Units.{nodes_of}
use Rattle.linear_code.specs.Known.{judged_unit}
use Rattle.judged_control.specs.Judged.{known_of_nodes}
use Rattle.ksparse.specs.Kinds.{is_function_definition}
use Rattle.ksparse.proofs.FunctionLemmas.{function-is}
use Rattle.unit_commands.proofs.FlowLemmas.{at_another, at_function}
use Rattle.unit_commands.proofs.functions.write_node.Goals as goal

pub returns-then-not-is_function_definition : goal.returns-then-not-is_function_definition
returns-then-not-is_function_definition c =
    at_another (judged_unit c.args.unit.now (known_of_nodes c.args.facts.now)) c.args.handle (kind_at (nodes_of c.args.unit.now) c.args.handle)
    c.args.text.now.items (ap is_function_definition (sym c.kind_at.ensures) ∙ sym c.is_function_definition.ensures ∙ c.if-not-is_function_definition.true)

pub write_function-requires-clause-kind : goal.write_function-requires-clause-kind
write_function-requires-clause-kind c =
    function-is (kind_at (nodes_of c.args.unit.now) c.args.handle)
    (ap is_function_definition (sym c.kind_at.ensures) ∙ sym c.is_function_definition.ensures ∙ c.if-not-is_function_definition.false)

pub returns : goal.returns
returns c =
    let kind = kind_at (nodes_of c.args.unit.now) c.args.handle in
    at_function (judged_unit c.args.unit.now (known_of_nodes c.args.facts.now)) c.args.handle kind c.args.text.now.items
    c.write_function.new.text.items
    (function-is kind (ap is_function_definition (sym c.kind_at.ensures) ∙ sym c.is_function_definition.ensures ∙ c.if-not-is_function_definition.false))
    c.in_ok-write_function.ensures
