use Rattle.meaning_initializers.proofs.Constants.{constant_forms}
use Rattle.meaning_initializers.proofs.initializers.constants_stay_constant.Goals as goal

pub returns : goal.returns
returns c = constant_forms
