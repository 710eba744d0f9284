-- One argument more was passed.
use Rattle.std.proofs.Common.{◌≡◌, ◌+◌, All, ◌∷◌, map, option_map, sym, ap, ◌∙◌, subst}
use Rattle.std.proofs.lemmas.List.Elements.{All-tail}
use Rattle.meaning_typing.specs.Expressions.{arguments_passed}
use Rattle.meaning_typing.specs.Rows.{both_converted}
use Rattle.c_types.specs.Rows.{parameter_types}
use Rattle.c_types.specs.Table.{type_at}
use Rattle.expression_rows.specs.Arguments.{HasFound, IsKnownArgument, argument_seen, passed_all, passed_to}
use Rattle.expression_rows.specs.Facts.{valued_part}
use Rattle.expression_rows.specs.Rows.{broken_seen}
use Rattle.expression_rows.proofs.CallLemmas.{found_on, one_passed}
use Rattle.expression_rows.proofs.call.pass_arguments.Goals as goal

pub arguments-preserved : goal.arguments-preserved
arguments-preserved c =
    let table = c.args.types.now in
    let argument = c.in-Some.argument.now in
    let others = c.in-Some.others.now in
    let parameters = parameter_types (type_at table c.arguments.parameters) in
    let next = c.next_parameter-parameter in
    let passing = c.passed_to-passing in
    let split : c.arguments.rest.now ≡ argument ∷ others = c.in-Some.ensures.cases.0 in
    let one = passed_to c.in_ok-part.part argument.token (valued_part table argument.part) (option_map (type_at table) next.result.0) in
    let is : passed_all table c.arguments.rest.now c.arguments.part c.arguments.parameters ≡ both_converted one (passed_all table others c.in_ok-part.part next.result.1) =
    ap (λ arguments. passed_all table arguments c.arguments.part c.arguments.parameters) split
    ∙ one_passed (c.arguments.part + 1) (argument_seen table argument) (map (argument_seen table) others) parameters
    ∙ (λ i. both_converted (passed_to (sym c.in_ok-part.ensures i) argument.token (valued_part table argument.part) (sym next.ensures.first i))
    (arguments_passed (sym c.in_ok-part.ensures i + 1) (map (argument_seen table) others) (sym next.ensures.rest i))) in
    record {
      function = next.ensures.rest_known;
      known = All-tail (IsKnownArgument table) argument others (subst (All (IsKnownArgument table)) split c.arguments.invariant.known);
      found =
          subst (λ broken. HasFound table c.args.found.now c.append.new.found broken (passed_all table others c.in_ok-part.part next.result.1) (passed_all table c.args.arguments.now 0 c.args.function))
          (sym c.lesser-broken.ensures)
          (found_on table c.args.found.now c.arguments.found c.append.new.found passing.result.failure (option_map broken_seen c.arguments.broken)
          (option_map broken_seen passing.result.broken) one (passed_all table others c.in_ok-part.part next.result.1)
          (passed_all table c.arguments.rest.now c.arguments.part c.arguments.parameters) (passed_all table c.args.arguments.now 0 c.args.function)
          is (ap (λ told. told.broken) passing.ensures.converted) (ap (λ told. told.failures) passing.ensures.converted) c.in_ok-append.ensures passing.ensures.known c.arguments.invariant.found);
    }
