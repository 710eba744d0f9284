use Rattle.meaning_safety.proofs.Clean.{clean_checks_are_safe}
use Rattle.meaning_safety.proofs.safety.clean_checks_are_safe.Goals as goal

pub returns : goal.returns
returns c = clean_checks_are_safe
