-- A unit that was judged, as control sees it: by what it is known of its nodes.
use Rattle.std.specs.Prelude.{ℤ, pos, List, Option, Some, None}
use Rattle.meaning_typing.specs.Facts.{Fact, Expression, fact_at}
use Rattle.meaning_typing.specs.Surroundings.{Surrounding}
use Rattle.meaning_typing.specs.Units.{UnitNodes}
use Rattle.meaning_statements.specs.StatementRows.{number_at}
use Rattle.meaning_objects.specs.Carried.{contexts_of_object, is_noreturn}
use Rattle.meaning_control.specs.Nodes.{JudgedUnit}

-- the number of an expression that is constant (C11 6.6 p6)
abbrev pub constant_known : Fact → Option ℤ
constant_known (Expression expression) = expression.constant
constant_known fact = None

-- each `case` of a unit that is accepted has a number
abbrev pub number_or_zero : Option ℤ → ℤ
number_or_zero None = pos 0
number_or_zero (Some number) = number

abbrev pub judged_of : UnitNodes → List Surrounding → List Fact → JudgedUnit
judged_of nodes surroundings facts =
    record {
      nodes = nodes;
      facts = facts;
      constant = λ expression. constant_known (fact_at facts expression);
      case_number = λ statement. number_or_zero (number_at nodes surroundings facts statement);
      contexts = contexts_of_object nodes surroundings facts;
      is_noreturn = is_noreturn nodes surroundings facts;
    }
