-- How a body goes on what is read.
use Rattle.std.proofs.Common.{◌≡◌, ◌<◌, ◌≤◌, ◌-◌, ◌||◌, ℕ, Bool, true, List, [], ◌∷◌, ◌++◌, length, slice_set, slice_get, slice_index_or, Some, None, refl, sym, ap, subst, ◌∙◌, arith, length-append}
use Rattle.std.proofs.lemmas.List.{append_assoc, append-nil}
use Rattle.std.proofs.lemmas.Option.{none-some, same_Some}
use Rattle.std.proofs.Math.Seq.{set-append_seam, get_or-append_seam}
use Rattle.meaning_macros.specs.Hiding.{NameSet, Hiding, space_first}
use Rattle.meaning_macros.specs.Substitution.{LaidPart, laid_before}
use Rattle.number_sets.specs.NumberSets as sets
use Rattle.number_sets.specs.NumberSets.{Extends, IsSet, holds}
use Rattle.number_sets.specs.declared.sets.SetId.{SetId}
use Rattle.c_macros.specs.declared.item.Item.{Item}
use Rattle.c_macros.specs.declared.laid.Laid.{Laid}
use Rattle.c_macros.specs.declared.laid.LaidEnd.{LaidEnd}
use Rattle.c_macros.specs.Laid.{LaidItems, items_of, ends_of, Lays, part_read, parts_before}
use Rattle.c_macros.specs.Lay.{PutOn, LaidOn, laid_from, with_space}
use Rattle.c_macros.specs.Reading.{Reading, Reads, hidings_by, hiding_by}
use Rattle.c_macros.specs.Seen.{token_by}
use Rattle.c_macros.specs.Waiting.{backwards}
use Rattle.c_macros.proofs.HideLemmas.{hidden-union, Reads-earlier}
use Rattle.c_macros.proofs.VectorLemmas.{ends-same, last-of, Top, popped, backwards-append, backwards-backwards, map-append}

-- the top, with white space before it
pub space-put : (below now : List Item) (top : Item) (space : Bool) → space ≡ true → (work : List Item) → work ≡ below ++ backwards now → length below < length work
    → top ≡ slice_index_or work (length work - 1) top
    → slice_set work (length work - 1) (record top { token = record top.token { space_before = true } }) ≡ below ++ backwards (with_space space now)
space-put below [] top space is work work_is above top_is = absurd (omega (arith, above, ap length (work_is ∙ append-nil below)))
space-put below (t ∷ ts) top space is work work_is above top_is =
    ap (λ (w : List Item). slice_set w (length w - 1) new) split ∙ ap (λ n. slice_set (front ++ t ∷ []) n new) last
    ∙ set-append_seam front t [] new ∙ append_assoc below (backwards ts) (new ∷ [])
    ∙ ap (λ (item : Item). below ++ (backwards ts ++ item ∷ [])) (ap (λ (item : Item). record item { token = record item.token { space_before = true } }) same ∙ ap (λ s. record t { token = record t.token { space_before = s || t.token.space_before } }) (sym is))
  where
    front : List Item
    front = below ++ backwards ts

    new : Item
    new = record top { token = record top.token { space_before = true } }

    split : work ≡ front ++ t ∷ []
    split = work_is ∙ sym (append_assoc below (backwards ts) (t ∷ []))

    last : length (front ++ t ∷ []) - 1 ≡ length front
    last = omega (arith, length-append front (t ∷ []))

    same : top ≡ t
    same = top_is ∙ ap (λ (w : List Item). slice_index_or w (length w - 1) top) split ∙ ap (λ n. slice_index_or (front ++ t ∷ []) n top) last ∙ get_or-append_seam front t [] top

-- a part of which some items are put on top: those behind the ones that are left
pub record Putting (table : sets.Table) (hides : SetId) (before part work items put : List Item) : Type 0 where
  pub left : List Item
  pub taken : List Item
  pub split : part ≡ left ++ taken
  pub rest : items ≡ before ++ left
  pub on : PutOn table hides taken work put

-- one more is put
pub one_put : (table grown : sets.Table) (hides : SetId) (before part work items put fewer : List Item) (item : Item) (hidden : SetId)
    → Extends table grown → Putting table hides before part work items put → items ≡ fewer ++ item ∷ [] → length before < length items
    → IsSet table item.hides → IsSet table hides → IsSet grown hidden → ((n : ℕ) → holds grown hidden n ≡ (holds table item.hides n || holds table hides n))
    → Putting grown hides before part work fewer (put ++ record { token = item.token; hides = hidden } ∷ [])
one_put table grown hides before part work items put fewer item hidden more p is above is_item is_hides is_hidden members = record {
  left = backwards top.under;
  taken = item ∷ p.taken;
  split = p.split ∙ ap (λ left. left ++ p.taken) left_is ∙ append_assoc (backwards top.under) (item ∷ []) p.taken;
  rest = top.left;
  on = record {
    items = new ∷ p.on.items;
    stand = ap (λ ts. ts ++ new ∷ []) p.on.stand ∙ append_assoc work (backwards p.on.items) (new ∷ []);
    read = λ names r reads. λ i.
        record { token = token_by r.spelled item.token; hides = hidden-union names table grown r more reads item.hides hides hidden is_item is_hides is_hidden members i }
        ∷ (p.on.read names r (Reads-earlier names names table grown r ([], sym (append-nil names)) more reads)) i;
  };
}
  where
    new : Item
    new = record { token = item.token; hides = hidden }

    turned : before ++ backwards (backwards p.left) ≡ items
    turned = ap (λ left. before ++ left) (backwards-backwards p.left) ∙ sym p.rest

    top : Top before (backwards p.left) fewer item
    top = popped before (backwards p.left) fewer item (turned ∙ is) (omega (arith, above, ap length turned))

    left_is : p.left ≡ backwards top.under ++ item ∷ []
    left_is = sym (backwards-backwards p.left) ∙ ap backwards top.is

-- where the last part ends
pub end-is : (parts : List LaidItems) (last : LaidEnd) → Some last ≡ slice_get (ends_of parts) (length (ends_of parts) - 1) → last.end ≡ length (items_of parts)
end-is [] last is = absurd (none-some last (sym is))
end-is (p ∷ ps) last is =
    ap (λ (e : LaidEnd). e.end) (same_Some last _ (is ∙ last-of (ends_of ps) (record { space = p.space; end = length (items_of ps ++ p.items) })))

pub end-none : (parts : List LaidItems) → None ≡ slice_get (ends_of parts) (length (ends_of parts) - 1) → 0 ≡ length (items_of parts)
end-none [] is = refl
end-none (p ∷ ps) is =
    let this : LaidEnd = record { space = p.space; end = length (items_of ps ++ p.items) } in
    absurd (none-some this (is ∙ last-of (ends_of ps) this))

-- parts of which the last ones are put on top
pub record Laying (table : sets.Table) (hides : SetId) (parts : List LaidItems) (below now : List Item) (laid : Laid) (work : List Item) : Type 0 where
  pub left : List LaidItems
  pub lays : Lays laid left
  pub items : List Item
  pub stand : work ≡ below ++ backwards items
  pub read : (names : List (List ℕ)) (r : Reading) → Reads names table r → laid_from (r.hidden hides) r parts (hidings_by r now) ≡ laid_from (r.hidden hides) r left (hidings_by r items)

pub none_laid : (table : sets.Table) (hides : SetId) (parts : List LaidItems) (below now : List Item) (laid : Laid) (work : List Item) → Lays laid parts → work ≡ below ++ backwards now → Laying table hides parts below now laid work
none_laid table hides parts below now laid work lays stand = record { left = parts; lays = lays; items = now; stand = stand; read = λ names r reads. refl }

pub no_parts : (parts : List LaidItems) → 0 ≡ length (ends_of parts) → parts ≡ []
no_parts [] none = refl
no_parts (p ∷ ps) none = absurd (omega (arith, none, length-append (ends_of ps) (record { space = p.space; end = length (items_of ps ++ p.items) } ∷ [])))

pub all_laid : (table : sets.Table) (hides : SetId) (parts : List LaidItems) (below now : List Item) (laid : Laid) (work : List Item) → Laying table hides parts below now laid work → length laid.ends.items ≡ 0 → LaidOn table hides parts below now work
all_laid table hides parts below now laid work l none = record {
  items = l.items;
  stand = l.stand;
  read = λ names r reads. sym (l.read names r reads ∙ ap (λ left. laid_from (r.hidden hides) r left (hidings_by r l.items)) (no_parts l.left (sym none ∙ ap length l.lays.ends)));
}

pub spaced-read : (r : Reading) (space : Bool) (items : List Item) → hidings_by r (with_space space items) ≡ space_first space (hidings_by r items)
spaced-read r space [] = refl
spaced-read r space (item ∷ items) = refl

-- the last part of those that are left
pub record LastPart (laid : Laid) (ends : List LaidEnd) (last : LaidEnd) (left : List LaidItems) : Type 0 where
  pub part : LaidItems
  pub before : List LaidItems
  pub are : left ≡ part ∷ before
  pub items : laid.items.items ≡ items_of before ++ part.items
  pub ends_are : ends ≡ ends_of before
  pub space : last.space ≡ part.space

pub last_part : (laid : Laid) (ends : List LaidEnd) (last : LaidEnd) (left : List LaidItems) → Lays laid left → laid.ends.items ≡ ends ++ last ∷ [] → LastPart laid ends last left
last_part laid ends last [] lays is = absurd (omega (arith, ap length (sym lays.ends ∙ is), length-append ends (last ∷ [])))
last_part laid ends last (p ∷ ps) lays is =
    let both = ends-same ends (ends_of ps) last (record { space = p.space; end = length (items_of ps ++ p.items) }) (sym is ∙ lays.ends) in
    record { part = p; before = ps; are = refl; items = lays.items; ends_are = both.0; space = ap (λ (e : LaidEnd). e.space) both.1 }

-- one more part is put on top
pub one_laid : (table grown : sets.Table) (hides : SetId) (parts : List LaidItems) (below now : List Item) (laid next : Laid) (work put spaced : List Item) (last : LaidEnd)
    → Extends table grown → (l : Laying table hides parts below now laid work) → (p : LastPart laid next.ends.items last l.left) → next.items.items ≡ items_of p.before → PutOn grown hides p.part.items work put
    → ((under up : List Item) → put ≡ under ++ backwards up → length below ≡ length under → spaced ≡ under ++ backwards (with_space last.space up))
    → Laying grown hides parts below now next spaced
one_laid table grown hides parts below now laid next work put spaced last more l p items on spaces = record {
  left = p.before;
  lays = record { items = items; ends = p.ends_are };
  items = with_space last.space up;
  stand = spaces below up put_is refl;
  read = λ names r reads.
      l.read names r (Reads-earlier names names table grown r ([], sym (append-nil names)) more reads)
      ∙ ap (λ left. laid_from (r.hidden hides) r left (hidings_by r l.items)) p.are
      ∙ ap (laid_from (r.hidden hides) r p.before)
      ((λ i. space_first (sym p.space i) (sym (on.read names r reads) i ++ hidings_by r l.items))
      ∙ ap (space_first last.space) (sym (map-append (hiding_by r) on.items l.items))
      ∙ sym (spaced-read r last.space up));
}
  where
    up : List Item
    up = on.items ++ l.items

    put_is : put ≡ below ++ backwards up
    put_is = on.stand ∙ ap (λ w. w ++ backwards on.items) l.stand ∙ append_assoc below (backwards l.items) (backwards on.items)
        ∙ ap (λ w. below ++ w) (sym (backwards-append on.items l.items))

-- what the definition puts before the rest is what stands on top
laid-later : (names : NameSet) (r : Reading) (parts : List LaidItems) (later : List LaidPart) (rest : List Hiding) → laid_before names (parts_before r parts later) rest ≡ laid_from names r parts (laid_before names later rest)
laid-later names r [] later rest = refl
laid-later names r (p ∷ ps) later rest = laid-later names r ps (part_read r p ∷ later) rest

pub laid-is : (names : NameSet) (r : Reading) (parts : List LaidItems) (rest : List Hiding) → laid_before names (parts_before r parts []) rest ≡ laid_from names r parts rest
laid-is names r parts rest = laid-later names r parts [] rest
