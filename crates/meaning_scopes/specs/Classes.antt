-- How the grammar takes an identifier: C11 6.7.8 makes a name of a type of it, for as long as it is visible so.
use Rattle.std.specs.Prelude.{Bool, Option, None, Some}
use Rattle.vocabulary.specs.declared.scope.NameSpace.TheVariants.{Ordinary}
use Rattle.vocabulary.specs.declared.scope.Bound.{Bound}
use Rattle.vocabulary.specs.declared.scope.Bound.TheVariants.{Typedef, Enumerator, Linked, Unlinked, Tag, Label}
use Rattle.vocabulary.specs.declared.token_class.TokenClass.{TokenClass}
use Rattle.vocabulary.specs.declared.token_class.TokenClass.TheVariants.{Identifier, TypedefName}
use Rattle.meaning_scopes.specs.Scopes.{ScopeList, Found, find}

-- the class of a name that is bound as this
abbrev pub bound_class : Bound → TokenClass
bound_class Typedef = TypedefName
bound_class Enumerator = Identifier
bound_class Linked = Identifier
bound_class Unlinked = Identifier
bound_class Tag = Identifier
bound_class Label = Identifier

-- the class of a name that was looked for; one that isn't declared is an identifier
abbrev pub found_class : {N : Type 0} → Option (Found N) → TokenClass
found_class None = Identifier
found_class (Some found) = bound_class found.entry.bound

-- the class of a name that is no keyword: tags and labels aren't asked
abbrev pub class_of_name : {N : Type 0} → (same : N → N → Bool) → ScopeList N → N → TokenClass
class_of_name same items name = found_class (find same items Ordinary name)
