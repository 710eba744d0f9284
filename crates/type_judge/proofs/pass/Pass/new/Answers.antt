-- Nothing is known, kept or found.
use Rattle.std.proofs.Common.{refl}
use Rattle.decl_judge.specs.Units.{nodes_of}
use Rattle.node_surroundings.specs.Seen.{surroundings_seen}
use Rattle.type_judge.specs.Judging.{IsPassOver}
use Rattle.type_judge.proofs.PassLemmas.{nothing_made, pass_none}
use Rattle.type_judge.proofs.pass.Pass.new.Goals as goal

pub returns : goal.returns
returns c =
    pass_none (nodes_of c.args.unit.now) (surroundings_seen c.args.surroundings.now) _ c.in_ok-known.ensures (c.in_ok-statements.ensures _) c.new-3.ensures
    refl refl

pub returns-in_err-statements : goal.returns-in_err-statements
returns-in_err-statements c =
    nothing_made (IsPassOver (nodes_of c.args.unit.now) (surroundings_seen c.args.surroundings.now) 0) _ c.from_residual-in_err-statements.result
    c.from_residual-in_err-statements.ensures.1
