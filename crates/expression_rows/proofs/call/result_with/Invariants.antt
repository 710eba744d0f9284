-- What is left of the function has its result, and takes as many arguments as are left.
use Rattle.std.proofs.Common.{◌≡◌, true}
use Rattle.meaning_typing.specs.Declarators.{is_function}
use Rattle.c_types.specs.Table.{IsTypeId, type_at}
use Rattle.expression_rows.specs.Arguments.{result_with}
use Rattle.expression_rows.proofs.call.result_with.Given as goal

abbrev pub invariant-parameters : goal.invariant-parameters
invariant-parameters l =
    record {
      known : IsTypeId l.types l.rest;
      function : is_function (type_at l.types l.rest) ≡ true;
      answer : result_with l.left (type_at l.types l.rest) ≡ result_with l.fn.count (type_at l.types l.fn.function);
    }

abbrev pub decreases-parameters : goal.decreases-parameters
decreases-parameters l = l.rest.0
