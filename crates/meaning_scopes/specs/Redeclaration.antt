-- Which names one scope may declare twice (C11 6.7 p3).
use Rattle.std.specs.Prelude.{Bool, true, false, if◌then◌else◌, Option, None, Some}
use Rattle.vocabulary.specs.declared.scope.Bound.{Bound}
use Rattle.vocabulary.specs.declared.scope.Bound.TheVariants.{Typedef, Linked, Tag}
use Rattle.meaning_scopes.specs.Scopes.{Found}

-- what the innermost scope itself says of a name that was looked for
abbrev pub bound_here : {N : Type 0} → Option (Found N) → Option Bound
bound_here None = None
bound_here (Some found) = if found.is_innermost then Some found.entry.bound else None

-- A scope that says this of a name can't declare it in the same name space as that. What is linked is one thing
-- however often it is declared, a typedef name may be declared again, and so may a tag, by rules of its own
-- (6.7.2.3); nothing else is declared twice.
abbrev pub is_redeclared : (old : Option Bound) → (new : Bound) → Bool
is_redeclared None new = false
is_redeclared (Some Typedef) Typedef = false
is_redeclared (Some Linked) Linked = false
is_redeclared (Some Tag) Tag = false
is_redeclared (Some old) new = true
