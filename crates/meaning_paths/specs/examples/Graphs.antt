-- The graphs of the examples.
use Rattle.std.specs.Prelude.{ℕ, pos, negsuc, true, false, List, [], ◌∷◌}
use Rattle.meaning_paths.specs.Steps.{Step, Point, Add, End}
use Rattle.meaning_paths.specs.Graphs.{BasicBlock}

abbrev pub block : List Step → List ℕ → BasicBlock
block steps successors = record { steps = steps; successors = successors }

-- a statement is entered, a lock acquired, a lock released
abbrev pub enters : ℕ → Step
enters token = Point token false

abbrev pub acquires : ℕ → Step
acquires token = Add token 0 (pos 1)

abbrev pub releases : ℕ → Step
releases token = Add token 0 (negsuc 0)

-- a loop without an end, each turn of which acquires
abbrev pub acquiring_loop : List BasicBlock
acquiring_loop = block (enters 3 ∷ acquires 3 ∷ []) (0 ∷ []) ∷ []

-- while (n) { __acquire(l); __release(l); }
abbrev pub balanced_loop : List BasicBlock
balanced_loop =
    block (enters 2 ∷ []) (1 ∷ []) ∷ block (Point 2 true ∷ []) (2 ∷ 3 ∷ []) ∷ block (enters 4 ∷ acquires 4 ∷ enters 5 ∷ releases 5 ∷ []) (1 ∷ [])
    ∷ block (enters 9 ∷ End 9 ∷ []) [] ∷ []

-- if (n) __acquire(l);
abbrev pub join : List BasicBlock
join = block (enters 2 ∷ []) (1 ∷ 2 ∷ []) ∷ block (enters 4 ∷ acquires 4 ∷ []) (2 ∷ []) ∷ block (enters 9 ∷ End 9 ∷ []) [] ∷ []
