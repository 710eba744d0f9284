-- No part from the next place on, up to the initializer, is a declarator.
use Rattle.std.proofs.Common.{◌≡◌, length, take}
use Rattle.meaning_initialized.specs.Initialized.{last_declarator}
use Rattle.meaning_typing.specs.Units.{children_at}
use Rattle.decl_judge.specs.Units.{nodes_of}
use Rattle.initialized_judge.proofs.declarators.declarator_before.Given as goal

abbrev pub invariant-parts : goal.invariant-parts
invariant-parts l =
    last_declarator (nodes_of l.unit) (length (nodes_of l.unit)) (take l.place (children_at (nodes_of l.unit) l.surrounding.parent))
    ≡ last_declarator (nodes_of l.unit) (length (nodes_of l.unit)) (take l.surrounding.place (children_at (nodes_of l.unit) l.surrounding.parent))

abbrev pub decreases-parts : goal.decreases-parts
decreases-parts l = l.place
