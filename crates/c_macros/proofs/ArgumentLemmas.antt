-- How an argument is kept as it was written.
use Rattle.std.proofs.Common.{◌≡◌, ◌<◌, ◌≤◌, List, [], ◌∷◌, ◌++◌, length, refl, sym, ap, ◌∙◌, arith, length-append}
use Rattle.std.proofs.lemmas.List.{append_assoc, append-nil}
use Rattle.c_macros.specs.declared.item.Item.{Item}
use Rattle.c_macros.specs.Waiting.{backwards}
use Rattle.c_macros.proofs.VectorLemmas.{popped, length-backwards}

-- some of the items are kept, and the rest are left
pub record Keeping (below now rest old raw : List Item) : Type 0 where
  pub done : List Item
  pub left : List Item
  pub split : now ≡ done ++ left
  pub rest_is : rest ≡ below ++ backwards left
  pub raw_is : raw ≡ old ++ done

pub all_kept : (below now rest old raw : List Item) → Keeping below now rest old raw → length rest ≤ length below → raw ≡ old ++ now
all_kept below now rest old raw k short = k.raw_is ∙ ap (λ ts. old ++ ts) (sym (k.split ∙ ap (λ ts. k.done ++ ts) (by k.left (omega (arith, short, ap length k.rest_is, length-append below (backwards k.left), length-backwards k.left))) ∙ append-nil k.done))
  where
    by : (left : List Item) → length left ≤ 0 → left ≡ []
    by [] none = refl
    by (t ∷ ts) none = absurd (omega (arith, none))

pub one_kept : (below now rest fewer old raw more : List Item) (item : Item) → Keeping below now rest old raw → rest ≡ fewer ++ item ∷ [] → length below < length rest → more ≡ raw ++ item ∷ [] → Keeping below now fewer old more
one_kept below now rest fewer old raw more item k is above more_is =
    let top = popped below k.left fewer item (sym k.rest_is ∙ is) (omega (arith, above, ap length k.rest_is)) in
    record {
      done = k.done ++ item ∷ [];
      left = top.under;
      split = k.split ∙ ap (λ ts. k.done ++ ts) top.is ∙ sym (append_assoc k.done (item ∷ []) top.under);
      rest_is = top.left;
      raw_is = more_is ∙ ap (λ ts. ts ++ item ∷ []) k.raw_is ∙ append_assoc old k.done (item ∷ []);
    }
