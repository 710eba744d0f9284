-- A run as nested lists: the calls that wait, the innermost first, and the vectors that hold them.
use Rattle.std.specs.Prelude.{◌≡◌, ◌+◌, ℕ, Bool, true, false, List, [], ◌∷◌, ◌++◌, length}
use Rattle.number_sets.specs.declared.sets.SetId.{SetId}
use Rattle.c_macros.specs.Arguments.{in_a_row, ends_from}
use Rattle.c_macros.specs.declared.item.Item.{Item}
use Rattle.c_macros.specs.declared.run.Call.{Call}
use Rattle.c_macros.specs.declared.run.Run.{Run}

-- an argument behind the first, with the comma before it
pub record Later : Type 0 where
  pub comma : Item
  pub items : List Item

-- an argument that is ready: as it was written, where that is kept, and expanded
pub record Done : Type 0 where
  pub raw : List Item
  pub put : List Item

-- a call of which an argument is being expanded
pub record Waiting : Type 0 where
  pub name : Item
  pub hides : SetId
  -- the arguments that are ready, and the current one as it was written
  pub done : List Done
  pub raw : List Item
  pub todo : List Later
  -- one more argument isn't there
  pub absent : Bool
  pub closing : Item
  pub rest : List Item
  -- what was put before it
  pub put : List Item
  -- the stops that lie behind, whatever they are
  pub passed : List ℕ

-- a list the other way round
abbrev pub backwards : {X : Type 0} → List X → List X
backwards [] = []
backwards (x ∷ xs) = backwards xs ++ x ∷ []

abbrev pub raws_of : List Done → List (List Item)
raws_of [] = []
raws_of (d ∷ ds) = d.raw ∷ raws_of ds

abbrev pub puts_of : List Done → List (List Item)
puts_of [] = []
puts_of (d ∷ ds) = d.put ∷ puts_of ds

abbrev pub later_items : List Later → List (List Item)
later_items [] = []
later_items (p ∷ ps) = p.items ∷ later_items ps

-- what lies below the current argument
abbrev pub pending : List Later → Item → List Item → List Item
pending [] closing rest = closing ∷ rest
pending (p ∷ ps) closing rest = p.comma ∷ (p.items ++ pending ps closing rest)

-- how far the later arguments are read, where so many tokens lie below the call's list
abbrev pub floors : ℕ → List Later → Item → List Item → List ℕ
floors below [] closing rest = []
floors below (p ∷ ps) closing rest = (below + length (pending ps closing rest)) ∷ floors below ps closing rest

abbrev pub work_of : List Waiting → List Item
work_of [] = []
work_of (w ∷ ws) = work_of ws ++ backwards (pending w.todo w.closing w.rest)

abbrev pub put_of : List Waiting → List Item
put_of [] = []
put_of (w ∷ ws) = (put_of ws ++ w.put) ++ in_a_row (puts_of w.done)

abbrev pub put_ends_of : List Waiting → List ℕ
put_ends_of [] = []
put_ends_of (w ∷ ws) = put_ends_of ws ++ ends_from (length (put_of ws ++ w.put)) (puts_of w.done)

abbrev pub raw_of : List Waiting → List Item
raw_of [] = []
raw_of (w ∷ ws) = (raw_of ws ++ in_a_row (raws_of w.done)) ++ w.raw

abbrev pub raw_ends_of : List Waiting → List ℕ
raw_ends_of [] = []
raw_ends_of (w ∷ ws) = raw_ends_of ws ++ ends_from (length (raw_of ws)) (raws_of w.done)

abbrev pub stops_of : List Waiting → List ℕ
stops_of [] = []
stops_of (w ∷ ws) = (stops_of ws ++ w.passed) ++ floors (length (work_of ws)) w.todo w.closing w.rest

-- the call as the run keeps it, with the calls outside
abbrev pub call_of : Waiting → List Waiting → Call
call_of w ws = record {
  name = w.name;
  hides = w.hides;
  absent = w.absent;
  outer = length (work_of ws);
  next_stop = length (stops_of ws ++ w.passed);
  first_stop = length (stops_of ws);
  first_put = length (put_of ws ++ w.put);
  first_put_end = length (put_ends_of ws);
  first_raw = length (raw_of ws);
  first_raw_end = length (raw_ends_of ws);
}

abbrev pub calls_of : List Waiting → List Call
calls_of [] = []
calls_of (w ∷ ws) = calls_of ws ++ call_of w ws ∷ []

-- a call that begins, as the run notes it: its stops stand from this place on
abbrev pub noted : Run → Item → SetId → (absent : Bool) → (first_stop : ℕ) → Call
noted run name hides absent first_stop = record {
  name = name;
  hides = hides;
  absent = absent;
  outer = run.floor;
  next_stop = first_stop + 1;
  first_stop = first_stop;
  first_put = length run.put.items;
  first_put_end = length run.put_ends.items;
  first_raw = length run.raw.items;
  first_raw_end = length run.raw_ends.items;
}

-- the run has these calls, and reads and puts these tokens now
pub record Holds (run : Run) (waits : List Waiting) (made now : List Item) : Type 0 where
  pub work : run.work.items ≡ work_of waits ++ backwards now
  pub floor : run.floor ≡ length (work_of waits)
  pub put : run.put.items ≡ put_of waits ++ made
  pub put_ends : run.put_ends.items ≡ put_ends_of waits
  pub raw : run.raw.items ≡ raw_of waits
  pub raw_ends : run.raw_ends.items ≡ raw_ends_of waits
  pub stops : run.stops.items ≡ stops_of waits
  pub calls : run.calls.items ≡ calls_of waits

-- the call with its current argument ready
abbrev pub one_done : Waiting → List Item → Waiting
one_done w made = record w { done = w.done ++ record { raw = w.raw; put = made } ∷ []; raw = [] }

-- with one more argument, which is empty, where it isn't there
abbrev pub with_absent : Bool → Waiting → Waiting
with_absent true w = one_done w []
with_absent false w = w

-- The current argument of the innermost call has ended. It is noted as ready, the comma or `)` behind it was taken, and the
-- call isn't noted any more.
pub record Ended (run : Run) (call : Call) (waits : List Waiting) (made now : List Item) : Type 0 where
  pub w : Waiting
  pub ws : List Waiting
  pub are : waits ≡ w ∷ ws
  pub none : now ≡ []
  pub call_is : call ≡ call_of w ws
  pub mark : Item
  pub work : run.work.items ++ mark ∷ [] ≡ work_of (w ∷ ws)
  pub put : run.put.items ≡ put_of (one_done w made ∷ ws)
  pub put_ends : run.put_ends.items ≡ put_ends_of (one_done w made ∷ ws)
  pub raw : run.raw.items ≡ raw_of (one_done w made ∷ ws)
  pub raw_ends : run.raw_ends.items ≡ raw_ends_of (one_done w made ∷ ws)
  pub stops : run.stops.items ≡ stops_of (w ∷ ws)
  pub calls : run.calls.items ≡ calls_of ws

-- where an argument ends that isn't there, behind so many items
abbrev pub end_if : (absent : Bool) → ℕ → List ℕ
end_if true count = count ∷ []
end_if false count = []

-- these lists stand in a row in the items, from the first on, and end so
pub record InRow (items : List Item) (ends : List ℕ) (first first_end : ℕ) (lists : List (List Item)) : Type 0 where
  -- what stands before them belongs to others
  pub before : List Item
  pub before_ends : List ℕ
  pub items_are : items ≡ before ++ in_a_row lists
  pub ends_are : ends ≡ before_ends ++ ends_from (length before) lists
  pub first_is : first ≡ length before
  pub first_end_is : first_end ≡ length before_ends

-- some calls and tokens that the run has
pub record Shape (run : Run) : Type 0 where
  pub waits : List Waiting
  pub made : List Item
  pub now : List Item
  pub holds : Holds run waits made now
