use Rattle.meaning_control.proofs.Listing.{listed_is_path}
use Rattle.meaning_control.proofs.control.listed_paths_are_paths.Goals as goal

pub returns : goal.returns
returns c = λ brace turns body steps there. listed_is_path brace body turns steps there
