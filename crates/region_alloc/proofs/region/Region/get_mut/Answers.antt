-- The value that is lent is the one at the handle, and it alone can change.
use Rattle.std.proofs.Common.{◌≡◌, ◌+◌, length, set, refl, sym, ap, ◌∙◌, arith, subst, length-append}
use Rattle.std.proofs.lemmas.List.{length-set}
use Rattle.std.specs.List.{slice_get}
use Rattle.chunk_list.specs.Chunks.{AllFilled, IsPlaceInFront, contents, items_of}
use Rattle.chunk_list.proofs.ChunkLemmas.{AllFilled-append, AllFilled-drop, AllFilled-take, AllFilled-with_front_item, contents-append, contents-with_front_item}
use Rattle.region_alloc.proofs.RegionLemmas.{contents-cut, set-behind_cut, slice_get-behind_cut}
use Rattle.region_alloc.proofs.region.Region.get_mut.Goals as goal

pub invariant_of-self-lent : goal.invariant_of-self-lent
invariant_of-self-lent g c = λ w.
    let before = c.self.inside.before.list in
    let after = c.self.inside.after.list in
    let whole = c.append.new.self.list in
    let front = c.split_off.new.self.list in
    let tail = c.split_off.new.tail.list in
    let index = c.locate-index.result.0 in
    let place = c.locate-index.result.1 in
    let filled : AllFilled items_of whole = subst (AllFilled items_of) (sym c.append.ensures.after) (AllFilled-append items_of before after c.self.invariant.before_filled c.self.invariant.after_filled) in
    let within : IsPlaceInFront items_of tail place = subst (λ l. IsPlaceInFront items_of l place) (sym c.split_off.ensures.tail) c.locate-index.ensures.within in
    let cut = ap length (contents-cut whole front tail index place c.args.h c.split_off.ensures.front c.split_off.ensures.tail ∙ ap (contents items_of) c.append.ensures.after ∙ contents-append items_of before after) in
    let written = ap length (contents-with_front_item tail place w within) in
    record {
      counted = omega (arith, c.self.invariant.counted, cut, written, length-set (contents items_of tail) place w, length-append (contents items_of front) (contents items_of tail), length-append (contents items_of before) (contents items_of after));
      small = c.self.invariant.small;
      before_filled = subst (AllFilled items_of) (sym c.split_off.ensures.front) (AllFilled-take items_of index whole filled);
      after_filled = AllFilled-with_front_item tail place w (subst (AllFilled items_of) (sym c.split_off.ensures.tail) (AllFilled-drop items_of index whole filled));
    }

pub returns : goal.returns
returns g c =
    let before = c.self.inside.before.list in
    let after = c.self.inside.after.list in
    let whole = c.append.new.self.list in
    let front = c.split_off.new.self.list in
    let tail = c.split_off.new.tail.list in
    let index = c.locate-index.result.0 in
    let place = c.locate-index.result.1 in
    let all : contents items_of whole ≡ c.args.self.now = ap (contents items_of) c.append.ensures.after ∙ contents-append items_of before after ∙ c.self.view_is in
    let behind : c.args.h ≡ length (contents items_of front) + place = c.locate-index.ensures.sum ∙ ap (λ l. length (contents items_of l) + place) (sym c.split_off.ensures.front) in
    let within : IsPlaceInFront items_of tail place = subst (λ l. IsPlaceInFront items_of l place) (sym c.split_off.ensures.tail) c.locate-index.ensures.within in
    ((refl, λ w. set-behind_cut whole front tail index place c.args.h w c.split_off.ensures.front c.split_off.ensures.tail behind within ∙ ap (λ l. set l c.args.h w) all), record { writes_back = tt; value = ap (λ l. slice_get l c.args.h) (sym all) ∙ slice_get-behind_cut whole front tail index place c.args.h c.front_item_mut.result.now c.split_off.ensures.front c.split_off.ensures.tail behind c.front_item_mut.ensures.value })
