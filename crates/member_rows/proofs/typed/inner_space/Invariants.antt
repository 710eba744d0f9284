-- The level has the space of the whole type at its innermost level.
use Rattle.std.proofs.Common.{◌≡◌}
use Rattle.c_types.specs.Table.{IsTypeId, type_at}
use Rattle.member_rows.specs.Marks.{innermost_space, levels_in}
use Rattle.member_rows.proofs.typed.inner_space.Given as goal

abbrev pub invariant-levels : goal.invariant-levels
invariant-levels l =
    record {
      same : innermost_space (type_at l.types l.level) ≡ innermost_space (type_at l.types l.fn.t);
      known : IsTypeId l.types l.level;
    }

abbrev pub decreases-levels : goal.decreases-levels
decreases-levels l = levels_in (type_at l.types l.level)
