use Rattle.std.proofs.Common.{◌≡◌, length}
use Rattle.meaning_answer.specs.Options.{class_named, named_among}
use Rattle.ksparse.proofs.class_names.class_named.Given as goal

abbrev pub invariant-classes : goal.invariant-classes
invariant-classes l = named_among l.left l.name ≡ class_named l.name

abbrev pub decreases-classes : goal.decreases-classes
decreases-classes l = length l.left
