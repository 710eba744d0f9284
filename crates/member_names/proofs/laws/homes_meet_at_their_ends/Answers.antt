use Rattle.member_names.proofs.HomeLemmas.{homes_go_outwards, homes_meet_at_their_ends}
use Rattle.member_names.proofs.UnitLemmas.{laid_units_are_parts, parts_have_parents_behind}
use Rattle.member_names.proofs.laws.homes_meet_at_their_ends.Goals as goal

pub returns-clause-meet : goal.returns-clause-meet
returns-clause-meet c = homes_meet_at_their_ends

pub returns-clause-outwards : goal.returns-clause-outwards
returns-clause-outwards c = homes_go_outwards

pub returns-clause-parts : goal.returns-clause-parts
returns-clause-parts c = laid_units_are_parts

pub returns-clause-parents : goal.returns-clause-parents
returns-clause-parents c = parts_have_parents_behind
