-- What stands before a text.
use Rattle.std.specs.Prelude.{ℕ, List, []}
use Rattle.workbench.specs.declared.definitions.Definitions.{Definitions}
use Rattle.workbench.specs.declared.definitions.Definitions.TheVariants.{Behind, Refused, Open}

-- the text behind the definitions, where they are done
abbrev pub text_behind : Definitions → List ℕ
text_behind (Behind text) = text.now
text_behind (Refused line kind) = []
text_behind (Open line) = []
