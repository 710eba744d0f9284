-- What is left of the members decides.
use Rattle.std.proofs.Common.{◌≡◌, All, length}
use Rattle.c_types.specs.Table.{IsTypeId}
use Rattle.whole_rows.specs.ConstAggregates.{is_among, is_one_const}
use Rattle.whole_rows.proofs.const_aggregates.ConstAggregates.is_one_const.Given as goal

abbrev pub invariant-members : goal.invariant-members
invariant-members l =
    record {
      same : is_one_const (is_among l.self) l.types l.rest ≡ is_one_const (is_among l.self) l.types l.members;
      known : All (λ member. IsTypeId l.types member.of) l.rest;
    }

abbrev pub decreases-members : goal.decreases-members
decreases-members l = length l.rest
