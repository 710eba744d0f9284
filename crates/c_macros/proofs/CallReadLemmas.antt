-- What was read of a call, from the stops that were noted.
use Rattle.std.proofs.Common.{◌≡◌, ◌+◌, ◌-◌, ℕ, nat_eq, List, [], ◌∷◌, ◌++◌, length, drop, slice_get, Option, Some, None, option_map, refl, sym, ap, ◌∙◌, arith, length-append}
use Rattle.std.proofs.lemmas.List.{append_assoc}
use Rattle.std.proofs.lemmas.Bool.{eq-eqb, ne_eqb}
use Rattle.std.proofs.lemmas.Option.{none-some, same_Some, slice_get-get_or}
use Rattle.std.proofs.Math.Seq.{drop-append_seam, get_or-append_seam}
use Rattle.c_macros.specs.declared.item.Item.{Item}
use Rattle.c_macros.specs.Arguments.{arguments_by}
use Rattle.c_macros.specs.Calls.{Found, found_stops, is_nil, split_items}
use Rattle.c_macros.specs.Reading.{Reading, hidings_by}
use Rattle.c_macros.specs.Stops.{behind, stops_from}
use Rattle.c_macros.specs.Waiting.{Later, backwards, pending, floors, later_items}
use Rattle.c_macros.proofs.StopLemmas.{split-stops, split-all, all_items}
use Rattle.c_macros.proofs.VectorLemmas.{backwards-append, backwards-backwards, last-of, length-backwards}

-- what lies above the floor, from the top
pub above-is : (work below now : List Item) (floor : ℕ) → work ≡ below ++ backwards now → floor ≡ length below → backwards (drop floor work) ≡ now
above-is work below now floor is at = ap backwards ((λ i. drop (at i) (is i)) ∙ drop-append_seam below (backwards now)) ∙ backwards-backwards now

pub none-found : (below : ℕ) (found : Option Found) → option_map (found_stops below) found ≡ None → found ≡ None
none-found below None is = refl
none-found below (Some found) is = absurd (none-some (found_stops below found) (sym is))

-- a call that closes, and the stops behind the old ones
pub record Closes (below : ℕ) (old new : List ℕ) (found : Option Found) : Type 0 where
  pub one : Found
  pub is : found ≡ Some one
  pub stops : new ≡ old ++ found_stops below one

pub closes : (below : ℕ) (old new : List ℕ) (found : Option Found) → behind old (option_map (found_stops below) found) ≡ Some new → Closes below old new found
closes below old new None is = absurd (none-some new is)
closes below old new (Some found) is = record { one = found; is = refl; stops = sym (same_Some _ _ is) }

-- the first stop
pub first-stop : (old : List ℕ) (below : ℕ) (found : Found) → slice_get (old ++ found_stops below found) (length old) ≡ Some (below + length (pending found.more found.closing found.rest))
first-stop old below found =
    slice_get-get_or (old ++ found_stops below found) (length old) 0 (omega (arith, length-append old (found_stops below found)))
    ∙ ap Some (get_or-append_seam old (below + length (pending found.more found.closing found.rest)) (floors below found.more found.closing found.rest) 0)

-- the last stop is above the closing parenthesis
record Ends (below : ℕ) (more : List Later) (closing : Item) (rest : List Item) : Type 0 where
  before : List ℕ
  are : (below + length (pending more closing rest)) ∷ floors below more closing rest ≡ before ++ (below + length (closing ∷ rest)) ∷ []

stops-end : (below : ℕ) (more : List Later) (closing : Item) (rest : List Item) → Ends below more closing rest
stops-end below [] closing rest = record { before = []; are = refl }
stops-end below (p ∷ ps) closing rest =
    let later = stops-end below ps closing rest in
    record { before = (below + length (pending (p ∷ ps) closing rest)) ∷ later.before; are = ap (λ stops. (below + length (pending (p ∷ ps) closing rest)) ∷ stops) later.are }

pub last-stop : (old : List ℕ) (below : ℕ) (found : Found) → slice_get (old ++ found_stops below found) (length (old ++ found_stops below found) - 1) ≡ Some (below + length found.rest + 1)
last-stop old below found =
    let ends = stops-end below found.more found.closing found.rest in
    ap (λ (stops : List ℕ). slice_get stops (length stops - 1)) (ap (λ stops. old ++ stops) ends.are ∙ sym (append_assoc old ends.before ((below + length (found.closing ∷ found.rest)) ∷ [])))
    ∙ last-of (old ++ ends.before) (below + length (found.closing ∷ found.rest)) ∙ ap Some (omega arith)

length-floors : (below : ℕ) (more : List Later) (closing : Item) (rest : List Item) → length (floors below more closing rest) ≡ length more
length-floors below [] closing rest = refl
length-floors below (p ∷ ps) closing rest = omega (arith, length-floors below ps closing rest)

-- how many arguments there are
pub count-stops : (old : List ℕ) (below : ℕ) (found : Found) → length (old ++ found_stops below found) - length old ≡ length found.more + 1
count-stops old below found = omega (arith, length-append old (found_stops below found), length-floors below found.more found.closing found.rest)

later-count : (r : Reading) (more : List Later) → length (arguments_by r (later_items more)) ≡ length more
later-count r [] = refl
later-count r (p ∷ ps) = omega (arith, later-count r ps)

pub arguments-count : (r : Reading) (found : Found) (n : ℕ) → n ≡ length found.more + 1 → n ≡ length (arguments_by r (later_items found.more)) + 1
arguments-count r found n is = omega (arith, is, later-count r found.more)

-- the closing parenthesis stands above what follows
record Front (more : List Later) (closing : Item) (rest : List Item) : Type 0 where
  items : List Item
  are : pending more closing rest ≡ items ++ closing ∷ rest

front-of : (more : List Later) (closing : Item) (rest : List Item) → Front more closing rest
front-of [] closing rest = record { items = []; are = refl }
front-of (p ∷ ps) closing rest =
    let later = front-of ps closing rest in
    record { items = p.comma ∷ (p.items ++ later.items); are = ap (λ items. p.comma ∷ items) (ap (λ items. p.items ++ items) later.are ∙ sym (append_assoc p.items later.items (closing ∷ rest))) }

pub closing-is : (work below now : List Item) (found : Found) → work ≡ below ++ backwards now → now ≡ all_items found → slice_get work (length below + length found.rest) ≡ Some found.closing
closing-is work below now found is all =
    ap (λ w. slice_get w (length below + length found.rest)) split
    ∙ ap (λ n. slice_get ((below ++ backwards found.rest) ++ (found.closing ∷ backwards before)) n) (omega (arith, length-append below (backwards found.rest), length-backwards found.rest))
    ∙ slice_get-get_or ((below ++ backwards found.rest) ++ (found.closing ∷ backwards before)) (length (below ++ backwards found.rest)) found.closing
    (omega (arith, length-append (below ++ backwards found.rest) (found.closing ∷ backwards before)))
    ∙ ap Some (get_or-append_seam (below ++ backwards found.rest) found.closing (backwards before) found.closing)
  where
    front : Front found.more found.closing found.rest
    front = front-of found.more found.closing found.rest

    before : List Item
    before = found.first ++ (front-of found.more found.closing found.rest).items

    whole : now ≡ (found.first ++ (front-of found.more found.closing found.rest).items) ++ found.closing ∷ found.rest
    whole = all ∙ ap (λ items. found.first ++ items) (front-of found.more found.closing found.rest).are ∙ sym (append_assoc found.first (front-of found.more found.closing found.rest).items (found.closing ∷ found.rest))

    split : work ≡ (below ++ backwards found.rest) ++ (found.closing ∷ backwards (found.first ++ (front-of found.more found.closing found.rest).items))
    split = is ∙ ap (λ items. below ++ backwards items) whole ∙ ap (λ items. below ++ items) (backwards-append (found.first ++ (front-of found.more found.closing found.rest).items) (found.closing ∷ found.rest))
        ∙ ap (λ items. below ++ items) (append_assoc (backwards found.rest) (found.closing ∷ []) (backwards (found.first ++ (front-of found.more found.closing found.rest).items)))
        ∙ sym (append_assoc below (backwards found.rest) (found.closing ∷ backwards (found.first ++ (front-of found.more found.closing found.rest).items)))

-- the first argument has no token where it is read down to the top
pub empty-is : (r : Reading) (work below now : List Item) (found : Found) → work ≡ below ++ backwards now → now ≡ all_items found
    → nat_eq (length below + length (pending found.more found.closing found.rest)) (length work) ≡ is_nil (hidings_by r found.first)
empty-is r work below now found is all = by found.first
    (ap length is ∙ length-append below (backwards now) ∙ ap (λ n. length below + n) (length-backwards now ∙ ap length all ∙ length-append found.first (pending found.more found.closing found.rest)))
  where
    by : (first : List Item) → length work ≡ length below + (length first + length (pending found.more found.closing found.rest))
        → nat_eq (length below + length (pending found.more found.closing found.rest)) (length work) ≡ is_nil (hidings_by r first)
    by [] count = eq-eqb _ (length work) (omega (arith, count))
    by (t ∷ ts) count = ne_eqb _ (length work) (λ same. omega (arith, count, same))

-- all that the noted stops say of a call that closes
pub record Told (work below now : List Item) (old new : List ℕ) (cuts first last : ℕ) : Type 0 where
  pub found : Found
  pub splits : split_items 0 cuts now ≡ Some found
  pub stops : new ≡ old ++ found_stops (length below) found
  pub first_is : first ≡ length below + length (pending found.more found.closing found.rest)
  pub count : length new - length old ≡ length found.more + 1
  pub last_is : last - 1 ≡ length below + length found.rest
  pub all : now ≡ all_items found

pub told : (work below now : List Item) (floor : ℕ) (old new : List ℕ) (cuts first last : ℕ) → work ≡ below ++ backwards now → floor ≡ length below
    → behind old (stops_from floor 0 cuts (backwards (drop floor work))) ≡ Some new → slice_get new (length old) ≡ Some first → slice_get new (length new - 1) ≡ Some last
    → Told work below now old new cuts first last
told work below now floor old new cuts first last is at finds at_first at_last =
    let c = closes (length below) old new (split_items 0 cuts now)
    (ap (behind old) (sym (split-stops (length below) 0 cuts now) ∙ λ i. stops_from (sym at i) 0 cuts (sym (above-is work below now floor is at) i)) ∙ finds) in
    record {
      found = c.one;
      splits = c.is;
      stops = c.stops;
      first_is = same_Some _ _ (sym at_first ∙ ap (λ stops. slice_get stops (length old)) c.stops ∙ first-stop old (length below) c.one);
      count = ap (λ (stops : List ℕ). length stops - length old) c.stops ∙ count-stops old (length below) c.one;
      last_is = omega (arith, same_Some _ _ (sym at_last ∙ ap (λ (stops : List ℕ). slice_get stops (length stops - 1)) c.stops ∙ last-stop old (length below) c.one));
      all = split-all 0 cuts now c.one c.is;
    }
