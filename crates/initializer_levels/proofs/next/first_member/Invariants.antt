use Rattle.std.proofs.Common.{◌≡◌, ◌<◌, ◌+◌, ◌^◌, length}
use Rattle.initializer_levels.specs.Parts.{first_of_members}
use Rattle.initializer_levels.proofs.next.first_member.Given as goal

abbrev pub invariant-members : goal.invariant-members
invariant-members l =
    record {
      same : first_of_members l.at l.rest ≡ first_of_members l.fn.number l.fn.members;
      small : l.at + length l.rest < 2 ^ 64;
    }

abbrev pub decreases-members : goal.decreases-members
decreases-members l = length l.rest
