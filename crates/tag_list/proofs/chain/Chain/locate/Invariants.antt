-- The place so far is one of what is left, behind as many vectors as the index says, and says the same there.
use Rattle.std.proofs.Common.{◌≡◌, ◌+◌, ◌<◌, ◌^◌, length, take, drop}
use Rattle.std.specs.List.{slice_get}
use Rattle.tag_list.specs.Chain.{entries}
use Rattle.tag_list.proofs.chain.Chain.locate.Given as goal

abbrev pub invariant-loop-index : goal.invariant-loop-index
invariant-loop-index l =
    goal.iterator-loop-index.can_next l.few-iterator ×
    goal.iterator-loop-index.is_finite l.few-iterator ×
    (l.index + length l.few-iterator ≡ length l.self.list) ×
    (length l.self.list < 2 ^ 63) ×
    (drop l.index l.self.list ≡ l.few-iterator) ×
    (l.place ≡ length (entries (take l.index l.self.list)) + l.within) ×
    (slice_get (entries l.self.list) l.place ≡ slice_get (entries l.few-iterator) l.within) ×
    (l.within < length (entries l.few-iterator))
