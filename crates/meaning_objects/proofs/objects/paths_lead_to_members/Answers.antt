use Rattle.meaning_objects.proofs.MemberPaths.{paths_are_found}
use Rattle.meaning_objects.proofs.objects.paths_lead_to_members.Goals as goal

pub returns : goal.returns
returns c = paths_are_found
