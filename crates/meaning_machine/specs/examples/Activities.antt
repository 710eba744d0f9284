-- Worked examples: runs of three activities, and of one that goes on where another stands still.
use Rattle.std.specs.Prelude.{ℕ, List, [], ◌∷◌, ◌++◌, codes, replicate}
use Rattle.std.specs.List.{flat_map}
use Rattle.meaning_syntax.specs.Items.{Assign, Item, Object, Function}
use Rattle.meaning_first_rules.specs.Bindings.{pointer_to}
use Rattle.meaning_first_rules.specs.Typing.{int_with}
use Rattle.meaning_first_rules.specs.Evaluation.{InAssignment}
use Rattle.meaning_first_rules.specs.Failures.{SpacesMixed}
use Rattle.meaning_first_rules.specs.examples.Failures.{user_flags, user_words, function_of}
use Rattle.meaning_machine.specs.Values.{Pointer}
use Rattle.meaning_machine.specs.Outcomes.{NullPointer, SpaceFault}
use Rattle.meaning_machine.specs.Machine.{Finished, Undefined, Fault}
use Rattle.meaning_machine.specs.Runs.{Move, Start, Step, Write}
use Rattle.meaning_machine.specs.examples.Runs.{Meets, Ends, plain_int, int_of, object_spot, steps, steps_of, through_unit}

-- `extern int a; extern int b; extern int c; extern int d;` and functions with `b = a;`, `c = b;` and `d = c;`
abbrev pub chain_unit : List Item
chain_unit =
    Object [] 0 (codes "a") ∷ Object [] 0 (codes "b") ∷ Object [] 0 (codes "c") ∷ Object [] 0 (codes "d")
    ∷ Function (codes "f") (Assign (codes "b") (codes "a") ∷ [])
    ∷ Function (codes "g") (Assign (codes "c") (codes "b") ∷ [])
    ∷ Function (codes "h") (Assign (codes "d") (codes "c") ∷ [])
    ∷ []

-- each function is called once, where a is 7 and the others are 0
abbrev pub three_calls : List Move
three_calls = Write 0 [] (int_of 7) ∷ Start 4 ∷ Start 5 ∷ Start 6 ∷ []

-- a step of each of the three activities in turn, so often
abbrev pub three_by_turns : ℕ → List Move
three_by_turns count = flat_map (λ move. move ∷ Step 1 ∷ Step 2 ∷ []) (steps count)

-- one after another they hand the 7 on to d
abbrev pub ThreeInOrder : Type 0
ThreeInOrder =
    Ends chain_unit (three_calls ++ steps_of 0 8 ++ steps_of 1 8 ++ steps_of 2 8)
    (replicate 3 Finished) 3 plain_int (int_of 7)

-- by turns each loads before any other stores, and d stays 0
abbrev pub ThreeByTurns : Type 0
ThreeByTurns = Ends chain_unit (three_calls ++ three_by_turns 8) (replicate 3 Finished) 3 plain_int (int_of 0)

-- the third of three calls of one function meets the fault, and the others have taken no step
abbrev pub ThirdMeetsFault : Type 0
ThirdMeetsFault =
    Meets
    (Object [] 1 (codes "p") ∷ Object user_words 1 (codes "u") ∷ function_of (Assign (codes "p") (codes "u") ∷ []) ∷ [])
    (record { token = 28; part = 0; cause = SpacesMixed InAssignment (pointer_to plain_int) (pointer_to (int_with user_flags)) } ∷ [])
    (replicate 3 (Start 2) ++ steps_of 2 6)
    2 (Fault SpaceFault 28)

-- `q` is null where the first activity loads it, and a pointer to `x` where the second does: that one takes all its
-- steps, and the first stands where it stood
abbrev pub OthersGoOn : Type 0
OthersGoOn =
    Meets through_unit []
    (Start 2 ∷ steps 9 ++ Write 0 [] (Pointer plain_int (object_spot 1)) ∷ Start 2 ∷ steps_of 1 11)
    0 (Undefined NullPointer 15)
