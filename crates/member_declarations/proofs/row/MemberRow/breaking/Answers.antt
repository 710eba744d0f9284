-- What is known stays.
use Rattle.std.proofs.Common.{ap}
use Rattle.member_declarations.specs.Seen.{row_seen}
use Rattle.member_declarations.proofs.row.MemberRow.breaking.Goals as goal

pub returns-clause-row : goal.returns-clause-row
returns-clause-row c = λ table. ap (λ least. record (row_seen table c.args.self) { broken = least }) c.lesser.ensures
