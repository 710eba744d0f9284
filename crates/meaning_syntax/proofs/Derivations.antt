-- One list of spellings derives one tree at most.
use Rattle.std.proofs.Common.{◌≡◌, refl, sym, ◌∙◌, ap}
use Rattle.meaning_syntax.specs.Trees.{unit_tree}
use Rattle.meaning_syntax.specs.laws.Form.{ReadUnitsDerive, DerivedTreesAreThose, DerivedTreesAreUnique, DerivedTreesAreInFirstForm}
use Rattle.meaning_syntax.proofs.UnitReading.{IsUnit-read_unit, read_unit-IsUnit}

pub read_units_derive : ReadUnitsDerive
read_units_derive texts items read = record {
  items = items;
  is_unit = IsUnit-read_unit texts items read;
  is_tree = refl;
}

pub derived_trees_are_those : DerivedTreesAreThose
derived_trees_are_those texts tree derives = read_unit-IsUnit texts derives.items derives.is_unit

pub derived_trees_are_unique : DerivedTreesAreUnique
derived_trees_are_unique texts tree other derives others =
    let read = derived_trees_are_those texts tree derives in
    let again = derived_trees_are_those texts other others in
    let same : derives.items ≡ others.items = cc in
    derives.is_tree ∙ ap unit_tree same ∙ sym others.is_tree

pub derived_trees_are_in_first_form : DerivedTreesAreInFirstForm
derived_trees_are_in_first_form texts tree derives = record {
  items = derives.items;
  fit = derives.is_unit.is_spelled.fits;
  bound = derives.is_unit.bound;
  is_tree = derives.is_tree;
}
