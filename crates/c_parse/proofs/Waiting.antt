-- Rows that wait, as the items that they are.
use Rattle.std.proofs.Common.{◌≡◌, ℕ, ◌+◌, ◌-◌, ◌*◌, ◌<◌, ◌≤◌, Bool, true, ◌&&◌, List, [], ◌∷◌, ◌++◌, reverse, length, take, drop, get_or, refl, sym, ap, ◌∙◌, arith, append_assoc, if◌then◌else◌}
use Rattle.std.specs.List.{list_all}
use Rattle.std.proofs.lemmas.Bool.{and_parts, le-ltb, leb-true}
use Rattle.std.proofs.lemmas.List.{length-append, length-drop, length-reverse, reverse-append, take-append-drop, take_all, take_more}
use Rattle.std.proofs.lemmas.List.Folds.{list_all-append}
use Rattle.vocabulary.specs.declared.production_item.ProductionItem.{ProductionItem}
use Rattle.vocabulary.specs.declared.token_class.TokenClass.{TokenClass}
use Rattle.vocabulary.specs.declared.token_class.TokenClass.TheVariants.{End}
use Rattle.vocabulary.specs.declared.production_item.ProductionItem.TheVariants.{Passed, Do}
use Rattle.vocabulary.specs.declared.limit.LimitKind.TheVariants.{ParseStack}
use Rattle.meaning_derivation.specs.Derivation.{symbols}
use Rattle.meaning_derivation.specs.State.{State, most_pending, with_limit, with_waiting}
use Rattle.meaning_derivation.proofs.Stepping.{symbols-append}
use Rattle.c_opening.specs.Absent.{AreAbsent}
use Rattle.c_parse.specs.Rows.{items_in, waiting, is_short, AreCounted, WereCounted, IsPending, most_waiting}
use Rattle.c_parse.specs.declared.pending.Counted.{Counted}
use Rattle.c_parse.specs.declared.pending.Row.{Row}

-- What was counted of rows

items_in-append : (rows others : List Row) → items_in (rows ++ others) ≡ items_in rows ++ items_in others
items_in-append [] others = refl
items_in-append (row ∷ rows) others = ap (λ items. row.items.now ++ items) (items_in-append rows others) ∙ sym (append_assoc row.items.now (items_in rows) (items_in others))

symbols-last : (rows : List Row) (row : Row) → symbols (items_in (rows ++ row ∷ [])) ≡ symbols (items_in rows) + symbols row.items.now
symbols-last rows row =
    let split = symbols-append (items_in rows) (row.items.now ++ []) in
    let one = symbols-append row.items.now [] in
    let apart = ap symbols (items_in-append rows (row ∷ [])) in
    omega (arith, split, one, apart)

symbols-reversed : (rows : List Row) → symbols (items_in (reverse rows)) ≡ symbols (items_in rows)
symbols-reversed [] = refl
symbols-reversed (row ∷ rows) =
    let turned = ap (λ some. symbols (items_in some)) (reverse-append (row ∷ []) rows) in
    let last = symbols-last (reverse rows) row in
    let others = symbols-reversed rows in
    let split = symbols-append row.items.now (items_in rows) in
    omega (arith, turned, last, others, split)

-- the row was counted, too
counted-whole : (rows : List Row) (row : Row) (counted : Counted) → AreCounted (rows ++ row ∷ []) counted → length rows < counted.rows
    → counted.symbols ≡ symbols (items_in rows) + symbols row.items.now
counted-whole rows row counted were more =
    were.sum ∙ ap (λ some. symbols (items_in some)) (take_all counted.rows (rows ++ row ∷ []) (omega (arith, more, length-append rows (row ∷ [])))) ∙ symbols-last rows row

pub counted-least : (left more : ℕ) (row : Row) (counted : Counted) → WereCounted counted left row → left < counted.rows → more ≡ symbols row.items.now → more ≤ counted.symbols
counted-least left more row counted were beyond is =
    let (rows, same, are) = were in
    let whole = counted-whole rows row counted are (omega (arith, same, beyond)) in
    omega (arith, whole, is)

pub counted-off : (rows : List Row) (left more : ℕ) (row : Row) (counted : Counted) → length rows ≡ left → left < counted.rows → more ≡ symbols row.items.now
    → AreCounted (rows ++ row ∷ []) counted → AreCounted rows (record { rows = left; symbols = counted.symbols - more })
counted-off rows left more row counted same beyond is were =
    let whole = counted-whole rows row counted were (omega (arith, same, beyond)) in
    let here : counted.symbols - more ≡ symbols (items_in rows) = omega (arith, whole, is) in
    record {
      within = omega (arith, same);
      sum = here ∙ ap (λ some. symbols (items_in some)) (sym (take_all left rows (omega (arith, same))));
    }

-- one more row was counted
pub counted-more : (rows : List Row) (index count more : ℕ) (d : Row) → count ≡ symbols (items_in (take index rows)) → more ≡ symbols (get_or rows index d).items.now
    → index < length rows → count + more ≡ symbols (items_in (take (index + 1) rows))
counted-more rows index count more d so_far is inside =
    let last = symbols-last (take index rows) (get_or rows index d) in
    let whole : count + more ≡ symbols (items_in (take index rows ++ get_or rows index d ∷ [])) = omega (arith, so_far, is, last) in
    whole ∙ ap (λ some. symbols (items_in some)) (sym (take_more rows index d inside))

-- few items wait
items_in-few : (rows : List Row) → list_all is_short rows ≡ true → length (items_in rows) ≤ 15 * length rows
items_in-few [] all = omega arith
items_in-few (row ∷ rows) all =
    let halves = and_parts (is_short row) (list_all is_short rows) all in
    let short = leb-true _ _ halves.0 in
    let rest = items_in-few rows halves.1 in
    omega (arith, short, rest, length-append row.items.now (items_in rows))

short-reverse : (rows : List Row) → list_all is_short rows ≡ true → list_all is_short (reverse rows) ≡ true
short-reverse [] all = refl
short-reverse (row ∷ rows) all =
    let halves = and_parts (is_short row) (list_all is_short rows) all in
    ap (list_all is_short) (reverse-append (row ∷ []) rows)
    ∙ list_all-append is_short (reverse rows) (row ∷ [])
    ∙ ap (λ front. front && (is_short row && true)) (short-reverse rows halves.1)
    ∙ ap (λ test. test && true) halves.0

pub pending-few : (front : Row) (rows : List Row) (counted : Counted) → IsPending front rows counted → length (waiting front rows) ≤ most_waiting
pending-few front rows counted pending =
    let behind = items_in-few (reverse rows) (short-reverse rows pending.all_short) in
    let all = length-append front.items.now (items_in (reverse rows)) in
    let same = length-reverse rows in
    let short = pending.short in
    let few = pending.few in
    omega (arith, behind, all, same, short, few)

pub symbols-few : (items : List ProductionItem) → symbols items ≤ length items
symbols-few [] = omega arith
symbols-few (item ∷ items) =
    let one = symbol-few item in
    let rest = symbols-few items in
    let split = symbols-append (item ∷ []) items in
    omega (arith, one, rest, split)
  where
    symbol-few : (item : ProductionItem) → symbols (item ∷ []) ≤ 1
    symbol-few (Do what) = omega arith
    symbol-few (Passed End) = omega arith
    symbol-few item = omega arith

-- some of the rows that wait have few symbols
pub counted-few : (rows : List Row) (count : ℕ) → list_all is_short rows ≡ true → symbols (items_in (take count rows)) ≤ 15 * length rows
counted-few rows count all =
    let whole = ap (λ some. symbols (items_in some)) (take-append-drop count rows) in
    let apart = ap symbols (items_in-append (take count rows) (drop count rows)) in
    let split = symbols-append (items_in (take count rows)) (items_in (drop count rows)) in
    let few = symbols-few (items_in rows) in
    let short = items_in-few rows all in
    omega (arith, whole, apart, split, few, short)

-- where all rows were counted, all symbols are known
pub waiting-counted : (front : Row) (rows : List Row) (counted : Counted) (more : ℕ) → AreCounted rows counted → counted.rows ≡ length rows → more ≡ symbols front.items.now
    → counted.symbols + more ≡ symbols (waiting front rows)
waiting-counted front rows counted more are all is =
    let whole = are.sum ∙ ap (λ some. symbols (items_in some)) (take_all counted.rows rows (omega (arith, all))) in
    let turned = symbols-reversed rows in
    let split = symbols-append front.items.now (items_in (reverse rows)) in
    omega (arith, whole, turned, split, is)

-- where few rows wait, no more symbols do than may
pub pending-small : (front : Row) (rows : List Row) (counted : Counted) → IsPending front rows counted → length rows < 4369 → symbols (waiting front rows) ≤ most_pending
pending-small front rows counted pending few =
    let behind = items_in-few (reverse rows) (short-reverse rows pending.all_short) in
    let all = length-append front.items.now (items_in (reverse rows)) in
    let same = length-reverse rows in
    let short = pending.short in
    let each = symbols-few (waiting front rows) in
    omega (arith, behind, all, same, short, few, each)

-- and nothing is noted
pub waits_small : (s : State) (pending : ℕ) → pending ≤ most_pending → with_waiting pending s ≡ s
waits_small s pending small = ap (λ (test : Bool). if test then with_limit ParseStack s else s) (le-ltb most_pending pending small)

-- one more item was counted
pub count-more : (items : List ProductionItem) (index count more : ℕ) (d : ProductionItem) → count ≡ symbols (take index items)
    → more ≡ symbols (get_or items index d ∷ []) → index < length items → count + more ≡ symbols (take (index + 1) items)
count-more items index count more d so_far is inside =
    let split = symbols-append (take index items) (get_or items index d ∷ []) in
    let whole : count + more ≡ symbols (take index items ++ get_or items index d ∷ []) = omega (arith, so_far, is, split) in
    whole ∙ ap symbols (sym (take_more items index d inside))

-- Operators that aren't there are passed over in the row of the next item

-- what is left of a row behind its first so many items
pub parted : {X : Type 0} (xs : List X) (count : ℕ) → xs ≡ take count xs ++ take (length xs - count) (drop count xs)
parted xs count =
    sym (take-append-drop count xs) ∙ ap (λ rest. take count xs ++ rest) (sym (take_all (length xs - count) (drop count xs) (omega (arith, length-drop count xs))))

module _ (front : Row) (left : List ProductionItem) (rows : List Row) (passed : ℕ) (next : TokenClass)
    (absent : (second : TokenClass) → AreAbsent next second (take passed front.items.now))
    (is : front.items.now ≡ take passed front.items.now ++ left) where
  same : waiting front rows ≡ take passed front.items.now ++ (left ++ items_in (reverse rows))
  same = ap (λ items. items ++ items_in (reverse rows)) is ∙ append_assoc (take passed front.items.now) left (items_in (reverse rows))

  pub pending-passed : (rest : Row) (counted : Counted) → IsPending front rows counted → left ≡ rest.items.now → IsPending rest rows counted
  pending-passed rest counted pending rests =
      let shorter = length-append (take passed front.items.now) left in
      let short = pending.short in
      record {
        are = pending.are;
        short = omega (arith, short, ap length is, shorter, ap length rests);
        all_short = pending.all_short;
        few = pending.few;
      }

  -- the items that waited are those that are passed over, and those that wait behind them
  pub waited : (items : List ProductionItem) → items ≡ waiting front rows
      → (passed : List ProductionItem) × (items ≡ passed ++ (left ++ items_in (reverse rows))) × ((second : TokenClass) → AreAbsent next second passed)
  waited items are = (take passed front.items.now, are ∙ same, absent)
