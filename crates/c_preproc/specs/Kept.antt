-- What is kept of loads, by the ids of paths.
use Rattle.std.specs.Prelude.{◌≡◌, ◌≤◌, ℕ, List, [], slice_get, nat_eq, Option, Some, None, ⊤}
use Rattle.std.specs.Map.{lookup}
use Rattle.sparse_model.specs.declared.ids.NameId.{NameId}
use Rattle.c_tokens.specs.declared.token.Token.{Token}
use Rattle.c_preproc.specs.declared.kept.AtPath.{AtPath}
use Rattle.c_preproc.specs.declared.kept.Kept.{Kept}
use Rattle.c_preproc.specs.declared.kept.KeptFile.{KeptFile}

-- what a load of a path gave, if there was one
abbrev pub found_at : Kept → NameId → Option AtPath
found_at kept path = lookup (λ (other : NameId). nat_eq path.0 other.0) kept.paths.entries

abbrev pub tokens_in_kept : Option KeptFile → List Token
tokens_in_kept None = []
tokens_in_kept (Some file) = file.tokens.items

abbrev pub ends_in_kept : Option KeptFile → List (ℕ × ℕ)
ends_in_kept None = []
ends_in_kept (Some file) = file.ends.entries

abbrev pub bytes_in_kept : Option KeptFile → ℕ
bytes_in_kept None = 0
bytes_in_kept (Some file) = file.bytes

-- of the file in this place
abbrev pub tokens_kept : List KeptFile → ℕ → List Token
tokens_kept files place = tokens_in_kept (slice_get files place)

abbrev pub ends_kept : List KeptFile → ℕ → List (ℕ × ℕ)
ends_kept files place = ends_in_kept (slice_get files place)

abbrev pub bytes_kept : List KeptFile → ℕ → ℕ
bytes_kept files place = bytes_in_kept (slice_get files place)
