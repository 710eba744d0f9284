use Rattle.std.proofs.Common.{◌≡◌, length}
use Rattle.meaning_warnings.specs.Listing.{is_on}
use Rattle.ksparse.proofs.class_names.is_on.Given as goal

abbrev pub invariant-classes : goal.invariant-classes
invariant-classes l = is_on l.left l.class ≡ is_on l.classes l.class

abbrev pub decreases-classes : goal.decreases-classes
decreases-classes l = length l.left
