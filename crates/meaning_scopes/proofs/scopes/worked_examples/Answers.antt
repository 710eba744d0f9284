-- The examples compute.
use Rattle.std.proofs.Common.{refl}
use Rattle.meaning_scopes.proofs.scopes.worked_examples.Goals as goal

pub returns-clause-found : goal.returns-clause-found
returns-clause-found c = record {
  at_file_scope = refl;
  innermost = refl;
  outer = refl;
  hides = refl;
  tag = refl;
  label = refl;
  no_label = refl;
  no_tag = refl;
  twice = refl;
  nothing = refl;
}

pub returns-clause-scopes : goal.returns-clause-scopes
returns-clause-scopes c = record {
  left = refl;
  found_again = refl;
  gone = refl;
  kept = refl;
  opened_again = refl;
  elsewhere = refl;
}

pub returns-clause-classes : goal.returns-clause-classes
returns-clause-classes c = record {
  type_name = refl;
  hidden = refl;
  variable = refl;
  not_declared = refl;
  enumerator = refl;
  tag_alone = refl;
}

pub returns-clause-redeclared : goal.returns-clause-redeclared
returns-clause-redeclared c = record {
  over_typedef = refl;
  over_enumerator = refl;
  over_linked = refl;
  over_unlinked = refl;
  over_nothing = refl;
  tags = refl;
  labels = refl;
  hiding = refl;
}
