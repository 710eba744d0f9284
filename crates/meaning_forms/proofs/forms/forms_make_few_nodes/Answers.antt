-- Each row is looked at.
use Rattle.std.proofs.Common.{refl}
use Rattle.meaning_forms.proofs.forms.forms_make_few_nodes.Goals as goal

pub returns : goal.returns
returns c = record {
  rows = record { rows = refl; unit = refl };
}
