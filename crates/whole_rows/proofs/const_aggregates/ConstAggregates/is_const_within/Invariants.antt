-- What is left of the levels decides.
use Rattle.std.proofs.Common.{◌≡◌}
use Rattle.meaning_typing.specs.Aggregates.{is_const_within}
use Rattle.c_types.specs.Table.{IsTypeId, type_at}
use Rattle.member_rows.specs.Marks.{levels_in}
use Rattle.whole_rows.specs.ConstAggregates.{is_among}
use Rattle.whole_rows.proofs.const_aggregates.ConstAggregates.is_const_within.Given as goal

abbrev pub invariant-levels : goal.invariant-levels
invariant-levels l =
    record {
      same : is_const_within (is_among l.self) (type_at l.types l.level) ≡ is_const_within (is_among l.self) (type_at l.types l.fn.t);
      known : IsTypeId l.types l.level;
    }

abbrev pub decreases-levels : goal.decreases-levels
decreases-levels l = levels_in (type_at l.types l.level)
