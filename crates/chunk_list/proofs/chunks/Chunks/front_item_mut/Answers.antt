-- What is written behind the item's reference stands in the first vector.
use Rattle.std.proofs.Common.{◌≡◌, List, get_or, refl, ap, subst, IfSome, slice_index_or}
use Rattle.std.specs.Global.{Vec}
use Rattle.chunk_list.specs.declared.chunks.Chunks.{Chunks}
use Rattle.chunk_list.proofs.ChunkLemmas.{set-front, slice_get-contents_front}
use Rattle.chunk_list.proofs.chunks.Chunks.front_item_mut.Goals as goal

pub returns : goal.returns
returns g c =
    let vectors = c.args.self.now.list in
    let first = c.unwrap-first.result.now in
    let found : first ≡ get_or vectors 0 first = subst (λ r. IfSome r (λ x. x.now ≡ slice_index_or vectors 0 x.now)) c.unwrap-first.ensures c.front_mut.ensures.value in
    let whole : List (Vec g.row.T.Denot) → Chunks g.row.T.Denot = λ l. record { list = l } in
    ((refl, λ w. ap whole (set-front vectors first c.args.place w found)), record { writes_back = tt; value = slice_get-contents_front vectors first c.args.place c.index_mut.result.now c.requires found c.index_mut.ensures.value })
