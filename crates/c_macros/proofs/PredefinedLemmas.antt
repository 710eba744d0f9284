-- How the three names without an entry are spelled.
use Rattle.std.proofs.Common.{◌≡◌, ℕ, Bool, true, false, nat_eq, List, [], ◌∷◌, map, slice_get, unwrap_or, Option, Some, option_map, codes, cond, if◌then◌else◌, refl, ap, ◌∙◌}
use Rattle.std.specs.Cmp.{nat_eq_equiv}
use Rattle.std.specs.Map.{lookup}
use Rattle.meaning_macros.specs.Macros.{spelled_file}
use Rattle.sparse_model.specs.declared.ids.NameId.{NameId}
use Rattle.c_tokens.specs.Seen.{IsKnown}
use Rattle.c_macros.specs.Reading.{Reading, ReadsNames}
use Rattle.c_macros.specs.Seen.{Spelling}

pub spelled-found : (s : Spelling) (files : List (ℕ × NameId)) (file : ℕ)
    → spelled_file (map (λ (entry : ℕ × NameId). record { file = entry.0; spelled = s entry.1 }) files) file ≡ unwrap_or (option_map s (lookup (nat_eq file) files)) (codes "\"\"")
spelled-found s [] file = refl
spelled-found s (entry ∷ files) file =
    (λ k. if nat_eq_equiv.symm entry.0 file k then s entry.1 else spelled-found s files file k) ∙ by (nat_eq file entry.0) (lookup (nat_eq file) files)
  where
    by : (this : Bool) (later : Option NameId) → (if this then s entry.1 else unwrap_or (option_map s later) (codes "\"\"")) ≡ unwrap_or (option_map s (cond this (Some entry.1) later)) (codes "\"\"")
    by true later = refl
    by false later = refl

-- a spelling that stands in the table
pub stands-read : (names : List (List ℕ)) (r : Reading) → ReadsNames names r → (id : NameId) (text : List ℕ) → IsKnown names id → slice_get names id.0 ≡ Some text → r.spelled id ≡ text
stands-read names r reads id text known stands = reads.texts id known ∙ ap (λ found. unwrap_or found []) stands
