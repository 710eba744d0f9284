-- The words of a command.
use Rattle.std.specs.Prelude.{ℕ, List, map}
use Rattle.sparse_outside.specs.declared.words.Words.TheInside.{Inside}

-- each word as its bytes
abbrev pub words_of : Inside → List (List ℕ)
words_of inside = map (λ word. word.items) inside.words.items
