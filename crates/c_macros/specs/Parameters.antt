-- The parameters of a macro by their ids.
use Rattle.std.specs.Prelude.{List, [], Option, Some, None}
use Rattle.sparse_model.specs.declared.ids.NameId.{NameId}

-- the names in a parameter list
abbrev pub params_in : Option (List NameId) → List NameId
params_in (Some names) = names
params_in None = []
