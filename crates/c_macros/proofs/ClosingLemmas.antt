-- The parentheses of a run that were noted, and the walk that passes over them.
use Rattle.std.proofs.Common.{◌≡◌, ◌<◌, ◌≤◌, ◌+◌, ◌-◌, ◌&&◌, ◌⊎◌, ℕ, zero, suc, Bool, true, false, nat_eq, nat_lt, List, [], ◌∷◌, ◌++◌, length, take, drop, slice_get, slice_set, Some, refl, sym, ap, subst, ◌∙◌, ⊎_elim, arith, length-append, length-set}
use Rattle.std.specs.Bool.{⊤}
use Rattle.std.proofs.lemmas.List.{append_assoc, append-nil, length-drop, nil_from_length, length-take, length-take-le, take-append-drop, take-append-le, take-set-le, take-take}
use Rattle.std.proofs.lemmas.Bool.{ne_eqb}
use Rattle.std.proofs.lemmas.Option.{same_Some, none-some, slice_get_within}
use Rattle.meaning_macros.specs.Signs.{is_left_parenthesis, is_right_parenthesis, is_comma}
use Rattle.c_macros.specs.declared.item.Item.{Item}
use Rattle.c_macros.specs.Stops.{stops_from, Closes, KeepsBelow, Noted, AreClosings}
use Rattle.c_macros.specs.Waiting.{backwards}
use Rattle.number_sets.proofs.TableLemmas.{slice_get-append}
use Rattle.c_macros.proofs.StopLemmas.{stops-closed, stops-opened, stops-over}
use Rattle.c_macros.proofs.VectorLemmas.{backwards-append, backwards-backwards, length-backwards}

-- Steps of the walk within parentheses

-- reading these items leads from so many inner parentheses to so many
abbrev pub Moves : ℕ → List Item → ℕ → Type 0
Moves from items to = (below depth cuts : ℕ) (ts : List Item) → stops_from below (depth + 1 + from) cuts (items ++ ts) ≡ stops_from below (depth + 1 + to) cuts ts

both-move : (from mid to : ℕ) (items others : List Item) → Moves from items mid → Moves mid others to → Moves from (items ++ others) to
both-move from mid to items others first second below depth cuts ts =
    ap (stops_from below (depth + 1 + from) cuts) (append_assoc items others ts) ∙ first below depth cuts (others ++ ts) ∙ second below depth cuts ts

middle-false : (a b c : Bool) → b ≡ false → (a && b && c) ≡ false
middle-false false b c h = refl
middle-false true b c h = ap (λ x. x && c) h

plain-moves : (t : Item) → is_right_parenthesis t.token.kind ≡ false → is_left_parenthesis t.token.kind ≡ false → (k : ℕ) → Moves k (t ∷ []) k
plain-moves t right left k below depth cuts ts =
    stops-over below (depth + 1 + k) cuts t ts right left
    (middle-false (is_comma t.token.kind) (nat_eq (depth + 1 + k) 0) (nat_lt 0 cuts) (ne_eqb (depth + 1 + k) 0 (λ same. omega (arith, same))))

open-moves : (t : Item) → is_right_parenthesis t.token.kind ≡ false → is_left_parenthesis t.token.kind ≡ true → (k : ℕ) → Moves k (t ∷ []) (k + 1)
open-moves t right left k below depth cuts ts =
    stops-opened below (depth + 1 + k) cuts t ts right left ∙ ap (λ d. stops_from below d cuts ts) (omega arith)

close-moves : (t : Item) → is_right_parenthesis t.token.kind ≡ true → (k : ℕ) → Moves (k + 1) (t ∷ []) k
close-moves t right k below depth cuts ts =
    stops-closed below (depth + 1 + (k + 1)) cuts t ts right (ne_eqb (depth + 1 + (k + 1)) 0 (λ same. omega (arith, same))) ∙ ap (λ d. stops_from below d cuts ts) (omega arith)

jump-moves : (t : Item) (between : List Item) → is_right_parenthesis t.token.kind ≡ false → is_left_parenthesis t.token.kind ≡ true → Closes between → (k : ℕ) → Moves k (t ∷ between) k
jump-moves t between right left closes k below depth cuts ts =
    stops-opened below (depth + 1 + k) cuts t (between ++ ts) right left ∙ closes below (depth + 1 + k) cuts ts

-- The open parentheses, the innermost first: what was read since each

pub record Since (work : List Item) (top opening depth : ℕ) : Type 0 where
  pub inside : opening < length work
  pub items : List Item
  pub split : take opening work ≡ take top work ++ backwards items
  pub moves : Moves 0 items depth

abbrev pub AreOpen : List Item → (top depth : ℕ) → List ℕ → Type 0
AreOpen work top depth [] = ⊤
AreOpen work top depth (opening ∷ others) = Since work top opening depth × AreOpen work top (depth + 1) others

-- one step down
abbrev Steps : List Item → (top next : ℕ) → List Item → Type 0
Steps work top next items = take top work ≡ take next work ++ backwards items

since-moved : (work : List Item) (top next opening from to : ℕ) (step : List Item) → Steps work top next step → Moves from step to → Since work top opening from → Since work next opening to
since-moved work top next opening from to step down move since = record {
  inside = since.inside;
  items = since.items ++ step;
  split = since.split ∙ ap (λ xs. xs ++ backwards since.items) down ∙ append_assoc (take next work) (backwards step) (backwards since.items)
      ∙ ap (λ xs. take next work ++ xs) (sym (backwards-append since.items step));
  moves = both-move 0 from to since.items step since.moves move;
}

pub open-same : (work : List Item) (top next depth : ℕ) (step : List Item) (openings : List ℕ) → Steps work top next step → ((k : ℕ) → Moves k step k) → AreOpen work top depth openings → AreOpen work next depth openings
open-same work top next depth step [] down move are = tt
open-same work top next depth step (opening ∷ others) down move are =
    (since-moved work top next opening depth depth step down (move depth) are.0, open-same work top next (depth + 1) step others down move are.1)

open-more : (work : List Item) (top next depth : ℕ) (step : List Item) (openings : List ℕ) → Steps work top next step → ((k : ℕ) → Moves k step (k + 1)) → AreOpen work top depth openings → AreOpen work next (depth + 1) openings
open-more work top next depth step [] down move are = tt
open-more work top next depth step (opening ∷ others) down move are =
    (since-moved work top next opening depth (depth + 1) step down (move depth) are.0, open-more work top next (depth + 1) step others down move are.1)

open-less : (work : List Item) (top next depth : ℕ) (step : List Item) (openings : List ℕ) → Steps work top next step → ((k : ℕ) → Moves (k + 1) step k) → AreOpen work top (depth + 1) openings → AreOpen work next depth openings
open-less work top next depth step [] down move are = tt
open-less work top next depth step (opening ∷ others) down move are =
    (since-moved work top next opening (depth + 1) depth step down (move depth) are.0, open-less work top next (depth + 1) step others down move are.1)

-- a `(` is met
pub opened : (work : List Item) (top next : ℕ) (t : Item) (openings : List ℕ) → next < length work → take top work ≡ take next work ++ t ∷ [] → is_right_parenthesis t.token.kind ≡ false → is_left_parenthesis t.token.kind ≡ true
    → AreOpen work top 0 openings → AreOpen work next 0 (next ∷ openings)
opened work top next t openings inside down right left are =
    (record { inside = inside; items = []; split = sym (append-nil (take next work)); moves = λ below depth cuts ts. refl }, open-more work top next 0 (t ∷ []) openings down (open-moves t right left) are)

-- its `)` is met
pub closed : (work : List Item) (top next opening : ℕ) (t : Item) (openings : List ℕ) → next < length work → take top work ≡ take next work ++ t ∷ [] → is_right_parenthesis t.token.kind ≡ true
    → AreOpen work top 0 (opening ∷ openings) → Noted work opening next × AreOpen work next 0 openings
closed work top next opening t openings inside down right are = (
  record {
    less = omega (
      arith,
      inside,
      are.0.inside,
      ap length split,
      length-take-le opening work (omega (arith, are.0.inside)),
      length-take-le next work (omega (arith, inside)),
      length-append (take next work) (backwards (are.0.items ++ t ∷ [])),
      length-backwards (are.0.items ++ t ∷ []),
      length-append are.0.items (t ∷ []),
    );
    between = are.0.items ++ t ∷ [];
    split = split;
    closes = λ below depth cuts ts.
        ap (λ d. stops_from below d cuts ((are.0.items ++ t ∷ []) ++ ts)) (omega arith) ∙ ap (stops_from below (depth + 1 + 0) cuts) (append_assoc are.0.items (t ∷ []) ts) ∙ are.0.moves below depth cuts (t ∷ ts)
        ∙ stops-closed below (depth + 1 + 0) cuts t ts right (ne_eqb (depth + 1 + 0) 0 (λ same. omega (arith, same))) ∙ ap (λ d. stops_from below d cuts ts) (omega arith);
  },
  open-less work top next 0 (t ∷ []) openings down (close-moves t right) are.1,
)
  where
    split : take opening work ≡ take next work ++ backwards (are.0.items ++ t ∷ [])
    split = are.0.split ∙ ap (λ xs. xs ++ backwards are.0.items) down ∙ append_assoc (take next work) (t ∷ []) (backwards are.0.items)
        ∙ ap (λ xs. take next work ++ xs) (sym (backwards-append are.0.items (t ∷ [])))

-- another token is met
pub passed : (work : List Item) (top next : ℕ) (t : Item) (openings : List ℕ) → take top work ≡ take next work ++ t ∷ [] → is_right_parenthesis t.token.kind ≡ false → is_left_parenthesis t.token.kind ≡ false
    → AreOpen work top 0 openings → AreOpen work next 0 openings
passed work top next t openings down right left are = open-same work top next 0 (t ∷ []) openings down (plain-moves t right left) are

-- a `(` is met whose `)` was noted
pub jumped : (work : List Item) (top next closing : ℕ) (t : Item) (openings : List ℕ) → take top work ≡ take next work ++ t ∷ [] → is_right_parenthesis t.token.kind ≡ false → is_left_parenthesis t.token.kind ≡ true
    → (noted : Noted work next closing) → AreOpen work top 0 openings → AreOpen work closing 0 openings
jumped work top next closing t openings down right left noted are =
    open-same work top closing 0 (t ∷ noted.between) openings
    (down ∙ ap (λ xs. xs ++ t ∷ []) noted.split ∙ append_assoc (take closing work) (backwards noted.between) (t ∷ []))
    (jump-moves t noted.between right left noted.closes) are

-- What lies above the floor

abbrev pub above : ℕ → List Item → List Item
above floor items = backwards (drop floor items)

drop-past : (floor : ℕ) (xs ys : List Item) → floor ≤ length xs → drop floor (xs ++ ys) ≡ drop floor xs ++ ys
drop-past zero xs ys h = refl
drop-past (suc floor) [] ys h = absurd (omega (arith, h))
drop-past (suc floor) (x ∷ xs) ys h = drop-past floor xs ys (omega (arith, h))

-- the next token from the top
pub above-step : (work : List Item) (floor top next : ℕ) (items : List Item) → take top work ≡ take next work ++ backwards items → floor ≤ next → next ≤ length work → above floor (take top work) ≡ items ++ above floor (take next work)
above-step work floor top next items down low short =
    ap (above floor) down ∙ ap backwards (drop-past floor (take next work) (backwards items) (omega (arith, low, short, length-take next work)))
    ∙ backwards-append (drop floor (take next work)) (backwards items) ∙ ap (λ xs. xs ++ above floor (take next work)) (backwards-backwards items)

-- over a noted pair nothing is found
pub stops-jumped : (work : List Item) (floor top next closing left depth : ℕ) (t : Item) → take top work ≡ take next work ++ t ∷ [] → is_right_parenthesis t.token.kind ≡ false → is_left_parenthesis t.token.kind ≡ true
    → (noted : Noted work next closing) → floor ≤ closing → closing < next → next ≤ length work
    → stops_from floor depth left (above floor (take top work)) ≡ stops_from floor depth left (above floor (take closing work))
stops-jumped work floor top next closing left depth t down right left_is noted low less short =
    ap (stops_from floor depth left) (above-step work floor top closing (t ∷ noted.between)
    (down ∙ ap (λ xs. xs ++ t ∷ []) noted.split ∙ append_assoc (take closing work) (backwards noted.between) (t ∷ [])) low (omega (arith, less, short)))
    ∙ stops-opened floor depth left t (noted.between ++ above floor (take closing work)) right left_is
    ∙ noted.closes floor depth left (above floor (take closing work))

-- The notes where the items change

-- Notes stay true where as many items as were below stay.
pub noted-later : (work later : List Item) (closings left : List ℕ) → AreClosings work closings
    → ((opening closing : ℕ) → slice_get left opening ≡ Some (suc closing) → opening < length later → (slice_get closings opening ≡ Some (suc closing)) × ((opening < length work) × (take opening later ≡ take opening work)))
    → AreClosings later left
noted-later work later closings left are kept opening closing at inside =
    let was = kept opening closing at inside in
    let noted = are opening closing was.0 was.1.0 in
    record {
      less = noted.less;
      between = noted.between;
      split = was.1.1 ∙ noted.split ∙ ap (λ xs. xs ++ backwards noted.between)
          (sym (take-take closing opening work (omega (arith, noted.less))) ∙ sym (ap (take closing) was.1.1) ∙ take-take closing opening later (omega (arith, noted.less)));
      closes = noted.closes;
    }

-- fewer items are left
pub noted-front : (work later more : List Item) (closings : List ℕ) → work ≡ later ++ more → AreClosings work closings → AreClosings later closings
noted-front work later more closings is are =
    noted-later work later closings closings are
    (λ opening closing at inside. (at, (omega (arith, inside, ap length is, length-append later more), sym (ap (take opening) is ∙ take-append-le opening later more (omega (arith, inside))))))

cut-has : (numbers : List ℕ) (count i n : ℕ) → slice_get (take count numbers) i ≡ Some n → slice_get numbers i ≡ Some n
cut-has numbers count i n at =
    ap (λ all. slice_get all i) (sym (take-append-drop count numbers)) ∙ slice_get-append (take count numbers) (drop count numbers) i (slice_get_within (take count numbers) i n at) ∙ at

-- the notes of what is left, where others go on top
pub noted-cut : (work later : List Item) (closings : List ℕ) → ((i : ℕ) → i < length work → take i later ≡ take i work) → AreClosings work closings → AreClosings later (take (length work) closings)
noted-cut work later closings same are =
    noted-later work later closings (take (length work) closings) are
    (λ opening closing at inside. let less = within opening closing at in (cut-has closings (length work) opening (suc closing) at, (less, same opening less)))
  where
    within : (opening closing : ℕ) → slice_get (take (length work) closings) opening ≡ Some (suc closing) → opening < length work
    within opening closing at = omega (arith, slice_get_within (take (length work) closings) opening (suc closing) at, length-take (length work) closings)

pub keeps-both : (work mid later : List Item) → KeepsBelow work mid → KeepsBelow mid later → KeepsBelow work later
keeps-both work mid later first second i inside =
    let a = first i inside in
    let b = second i a.1 in (b.0 ∙ a.0, b.1)

pub keeps-push : (work mid later : List Item) (item : Item) → KeepsBelow work mid → later ≡ mid ++ item ∷ [] → KeepsBelow work later
keeps-push work mid later item first is i inside =
    let a = first i inside in
    (ap (take i) is ∙ take-append-le i mid (item ∷ []) (omega (arith, a.1)) ∙ a.0, omega (arith, a.1, ap length is, length-append mid (item ∷ [])))

pub keeps-set : (work later : List Item) (count : ℕ) (item : Item) → count ≡ length work → later ≡ slice_set work (count - 1) item → KeepsBelow work later
keeps-set work later count item count_is is i inside =
    (ap (take i) is ∙ take-set-le i work (count - 1) item (omega (arith, inside, count_is)), omega (arith, inside, ap length is, length-set work (count - 1) item))

-- fewer items, more notes
pub noted-laid : (work later : List Item) (closings left : List ℕ) (count : ℕ) → KeepsBelow work later → count ≡ length work → left ≡ take count closings → AreClosings work closings → AreClosings later left
noted-laid work later closings left count below count_is is are =
    subst (AreClosings later) (sym (is ∙ ap (λ n. take n closings) count_is)) (noted-cut work later closings (λ i inside. (below i inside).0) are)

pub noted-short : (work later : List Item) (floor : ℕ) (closings : List ℕ) → later ≡ take floor work → AreClosings work closings → AreClosings later closings
noted-short work later floor closings is are =
    subst (λ items. AreClosings items closings) (sym is) (noted-front work (take floor work) (drop floor work) closings (sym (take-append-drop floor work)) are)

-- without notes
pub none-noted : (work : List Item) (closings : List ℕ) → closings ≡ [] → AreClosings work closings
none-noted work closings none opening closing at inside = absurd (none-some (suc closing) (ap (λ all. slice_get all opening) (sym none) ∙ at))

-- one more note
pub noted-more : (work : List Item) (old new : List ℕ) (place stop : ℕ) (closing : ℕ) → stop ≡ closing + 1 → Noted work place closing
    → ((i n : ℕ) → slice_get new i ≡ Some (suc n) → (slice_get old i ≡ Some (suc n)) ⊎ ((i ≡ place) × (stop ≡ suc n))) → AreClosings work old → AreClosings work new
noted-more work old new place stop closing stop_is noted told are i n at inside =
    ⊎_elim (λ before. are i n before inside) (λ this. subst (λ k. Noted work k n) (sym this.0) (subst (Noted work place) (omega (arith, this.1, stop_is)) noted)) (told i n at)

-- the last item of those that are left
pub last-taken : (work : List Item) (top : ℕ) (item : Item) → slice_get work top ≡ Some item → take (suc top) work ≡ take top work ++ item ∷ []
last-taken [] top item at = absurd (none-some item at)
last-taken (x ∷ xs) zero item at = ap (λ y. y ∷ []) (same_Some _ _ at)
last-taken (x ∷ xs) (suc top) item at = ap (λ ys. x ∷ ys) (last-taken xs top item at)

pub stepped : (work : List Item) (floor top : ℕ) (item : Item) → floor < top → slice_get work (top - 1) ≡ Some item → take top work ≡ take (top - 1) work ++ item ∷ []
stepped work floor top item low at =
    let above_one : top ≡ suc (top - 1) = omega (arith, low) in
    ap (λ n. take n work) above_one ∙ last-taken work (top - 1) item at

-- how far is read down to the next token
pub stop-above : (work : List Item) (floor top : ℕ) (item : Item) → floor < top → top ≤ length work → (top - 1) + 1 ≡ floor + length (item ∷ above floor (take (top - 1) work))
stop-above work floor top item low short =
    omega (arith, low, length-backwards (drop floor (take (top - 1) work)), length-drop floor (take (top - 1) work), length-take-le (top - 1) work (omega (arith, low, short)))

pub none-above : (work : List Item) (floor top : ℕ) → top ≤ floor → top ≤ length work → above floor (take top work) ≡ []
none-above work floor top low short = ap backwards (nil_from_length (drop floor (take top work)) (omega (arith, low, length-drop floor (take top work), length-take-le top work short)))
