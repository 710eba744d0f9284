-- How the table of names is laid out.
use Rattle.std.specs.Prelude.{◌≡◌, ◌≤◌, ◌^◌, ℕ, List, [], length, map, Some, slice_get}
use Rattle.c_tokens.specs.declared.names.Names.TheInside.{Inside}

-- the spellings, in the order of their ids
abbrev pub spellings : Inside → List (List ℕ)
spellings names = map (λ key. key.items) names.set.keys

-- the empty spelling stands first, and each id fits
abbrev pub IsTable : Inside → Type 0
IsTable names = (slice_get (spellings names) 0 ≡ Some []) × (length names.set.keys ≤ 2 ^ 30)
