use Rattle.meaning_unit_nodes.proofs.Linking.{names_stay_linked}
use Rattle.meaning_unit_nodes.proofs.nodes.names_stay_linked.Goals as goal

pub returns : goal.returns
returns g c = names_stay_linked
