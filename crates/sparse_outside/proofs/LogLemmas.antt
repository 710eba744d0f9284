-- Looking a path up in a list of files.
use Rattle.std.proofs.Common.{◌≡◌, ℕ, Bool, cond, List, ◌∷◌, map, Some, nat_eq, ap, sym, ◌∙◌}
use Rattle.std.specs.Ordering.{nat_cmp}
use Rattle.std.specs.Cmp.Lexicographic.{slice_cmp, pointwise, texts_ties}
use Rattle.std.specs.FinMap.{find}
use Rattle.sparse_outside.specs.declared.log.File.{File}
use Rattle.sparse_outside.specs.Log.{entry_of}

-- the first file has the path, or those behind it are looked up
pub find-entries : (path : List ℕ) (file : File) (others : List File) (same : Bool) → same ≡ pointwise nat_eq path file.path.items
    → find (slice_cmp nat_cmp) path (map entry_of (file ∷ others)) ≡ cond same (Some file.bytes.items) (find (slice_cmp nat_cmp) path (map entry_of others))
find-entries path file others same is =
    ap (λ tied. cond tied (Some file.bytes.items) (find (slice_cmp nat_cmp) path (map entry_of others))) (sym (is ∙ texts_ties path file.path.items))
