-- The line of a constraint that an expression breaks.
use Rattle.std.specs.Prelude.{◌-◌, ◌^◌, ℕ, List, slice_get, unwrap_or}
use Rattle.meaning_warnings.specs.Errors.{error_lines}
use Rattle.meaning_warnings.specs.Places.{begins_at}
use Rattle.sparse_model.specs.declared.ids.NameId.{NameId}
use Rattle.c_tokens.specs.Seen.{text_of, toks_of}
use Rattle.c_preproc.specs.declared.unit.UnitTokens.{UnitTokens}
use Rattle.expression_rows.specs.declared.row.Broken.{Broken}

-- the path of the file with this number, and an id that no name has where there is none
abbrev pub path_id : List NameId → ℕ → NameId
path_id files file = unwrap_or (slice_get files file) (record { 0 = 2 ^ 32 - 1 })

-- the line of a constraint, with the word that its text names
abbrev pub constraint_line : List (List ℕ) → UnitTokens → Broken → List ℕ
constraint_line names toks broken =
    let at = begins_at (slice_get (toks_of names toks.tokens) broken.token) in
    error_lines broken.constraint (text_of names (path_id toks.files at.file)) at (text_of names broken.name)
