use Rattle.std.proofs.Common.{◌≡◌, ◌++◌, length, All}
use Rattle.meaning_macros.specs.Stringizing.{text_behind}
use Rattle.c_macros.specs.Reading.{HasName, Reading, ReadsNames, hidings_by}
use Rattle.c_macros.proofs.stringizing.push_behind.Given as goal

-- the text so far and that of the tokens that are left are all
abbrev pub invariant-loop-item : goal.invariant-loop-item
invariant-loop-item l = record {
  text : (r : Reading) → ReadsNames l.names r → l.text.items ++ text_behind (hidings_by r l.rest) ≡ l.fn.text.items ++ text_behind (hidings_by r l.items);
  known : All (HasName l.names) l.rest;
}

abbrev pub decreases-loop-item : goal.decreases-loop-item
decreases-loop-item l = length l.rest
