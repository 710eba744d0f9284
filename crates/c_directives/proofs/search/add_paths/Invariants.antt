use Rattle.std.proofs.Common.{◌≡◌, ◌++◌, length, map}
use Rattle.c_directives.specs.Headers.{bytes_of, paths_in}
use Rattle.c_directives.proofs.search.add_paths.Given as goal

-- the paths so far and those to come are all
abbrev pub invariant-directories : goal.invariant-directories
invariant-directories l = map bytes_of l.paths.items ++ paths_in l.name l.left ≡ map bytes_of l.fn.paths.items ++ paths_in l.name l.directories

abbrev pub decreases-directories : goal.decreases-directories
decreases-directories l = length l.left
