-- Each example computes, or is one of the forms.
use Rattle.std.proofs.Common.{refl, inl}
use Rattle.meaning_initializers.specs.Constants.{named, element, number, address}
use Rattle.meaning_initializers.proofs.initializers.worked_nodes.Goals as goal

pub returns : goal.returns
returns c = record {
  read = refl;
  number = number refl;
  address_of_element = address refl (element 1 2 refl (inl (refl, refl)) refl refl (named refl refl));
}
