-- What a command has to leave.
use Rattle.std.specs.Prelude.{◌≡◌, ℕ, List, [], ◌++◌, codes, Option, Some, None}
use Rattle.std.specs.Global.{Vec}
use Rattle.std.specs.Fmt.{decimal}
use Rattle.cases.specs.declared.command.Expected.{Expected}
use Rattle.cases.specs.declared.program.Ran.{Ran}

-- what a section said, or this where none did
abbrev pub text_or : Option (Vec ℕ) → List ℕ → List ℕ
text_or None otherwise = otherwise
text_or (Some text) otherwise = text.items

-- standard output, standard error and the status are byte for byte those that are expected: nothing, nothing and 0 where
-- no section says otherwise
abbrev pub IsAsExpected : Expected → Ran → Type 0
IsAsExpected expected ran =
    (ran.out.written ≡ text_or expected.out []) × (ran.err.written ≡ text_or expected.err [])
    × (decimal ran.status ++ codes "\n" ≡ text_or expected.status (codes "0\n"))
