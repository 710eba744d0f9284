use Rattle.std.proofs.Common.{subst, sym}
use Rattle.enum_rows.specs.Names.{IsSharing}
use Rattle.enum_rows.proofs.NameLemmas.{sharing_told}
use Rattle.enum_rows.proofs.enumeration.Enumerators.sharing.Goals as goal

pub returns : goal.returns
returns c = λ list stands. subst (λ sharing. IsSharing sharing list) (sym c.sharing_in.ensures) (sharing_told c.args.self list stands)
