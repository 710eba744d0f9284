-- The names of a chain: where they are found, and what one more entry and one more link change.
use Rattle.std.proofs.Common.{◌≡◌, ℕ, zero, suc, ◌<◌, ◌≤◌, ◌+◌, ◌-◌, ◌^◌, Bool, true, false, cond, nat_le, List, [], ◌∷◌, ◌++◌, Option, Some, None, if◌then◌else◌, is_some, drop, length, option_map, slice_get, refl, sym, ap, ◌∙◌, subst, append_assoc, append-nil, length-append, arith}
use Rattle.std.proofs.lemmas.Bool.{eqb-true, false≢true, le-leb, leb-false, leb-true, lt-leb, true≢false}
use Rattle.std.proofs.lemmas.Bool.Decides.{Decides-eqb}
use Rattle.std.proofs.Math.Dec.{leb-zero}
use Rattle.std.proofs.lemmas.List.{drop-append-le}
use Rattle.std.proofs.lemmas.Option.{none-some, same_Some}
use Rattle.std.specs.Map.{lookup}
use Rattle.sparse_model.specs.declared.ids.NameId.{NameId}
use Rattle.meaning_types.specs.Types.{TypeTree}
use Rattle.meaning_layout.specs.Sizes.{Told}
use Rattle.c_types.specs.declared.chains.Layered.{Layered}
use Rattle.c_types.specs.declared.chains.Link.{Link}
use Rattle.c_types.specs.declared.members.Anonymous.{Anonymous}
use Rattle.c_types.specs.declared.members.FoundMember.{FoundMember}
use Rattle.c_types.specs.Chains.{AreKnownEntries, Chain, Each, IsIndexed, all_names, is_from, names_below, newest, newest_or, or_later, own_found, own_name, raised, seen_before, shown, with_entry}
use Rattle.c_types.specs.Members.{entries_around, found_around, is_name}
use Rattle.c_types.specs.Table.{IsLonger}
use Rattle.c_types.proofs.Finding.{one_test}
use Rattle.c_types.proofs.NameLemmas.{lookup-append, or_none}

-- Lists by places

module _ {X : Type 0} where
  pub get-append : (xs ys : List X) (index : ℕ) → index < length xs → slice_get (xs ++ ys) index ≡ slice_get xs index
  get-append [] ys index within = absurd (omega (arith, within))
  get-append (x ∷ xs) ys zero within = refl
  get-append (x ∷ xs) ys (suc index) within = get-append xs ys index (omega (arith, within))

  pub get-last : (xs : List X) (x : X) → slice_get (xs ++ x ∷ []) (length xs) ≡ Some x
  get-last [] x = refl
  get-last (y ∷ xs) x = get-last xs x

  pub get-within : (xs : List X) (index : ℕ) → index < length xs → (x : X) × (slice_get xs index ≡ Some x)
  get-within [] index within = absurd (omega (arith, within))
  get-within (x ∷ xs) zero within = (x, refl)
  get-within (x ∷ xs) (suc index) within = get-within xs index (omega (arith, within))

  -- an element of a list with one more is one of the list, or that one
  pub push-cases : {P : Type 0} (xs : List X) (x : X) (index : ℕ) (y : X) → slice_get (xs ++ x ∷ []) index ≡ Some y → (index < length xs → slice_get xs index ≡ Some y → P) → (index ≡ length xs → x ≡ y → P) → P
  push-cases [] x zero y found old new = new refl (same_Some _ _ found)
  push-cases [] x (suc index) y found old new = absurd (none-some y found)
  push-cases (z ∷ xs) x zero y found old new = old (omega arith) found
  push-cases (z ∷ xs) x (suc index) y found old new = push-cases xs x index y found (λ less. old (omega (arith, less))) (λ at. new (omega (arith, at)))

  pub each-push : (P : X → Type 0) (xs : List X) (x : X) → Each P xs → P x → Each P (xs ++ x ∷ [])
  each-push P xs x each is index y found = push-cases xs x index y found (λ less. each index y) (λ at same. subst P same is)

-- one name, told by its number
pub same_name : (asked name : NameId) → is_name asked name ≡ true → asked ≡ name
same_name asked name e = λ i. record { 0 = eqb-true asked.0 name.0 e i }

-- The newest entry

-- what is found stands there with its name, and is the newest of any number of first entries that has it
pub record IsNewest (es : List Layered) (name : NameId) (count index : ℕ) : Type 0 where
  pub below : index < count
  pub entry : Layered
  pub stands : slice_get es index ≡ Some entry
  pub named : is_name name entry.name ≡ true
  pub still : (n : ℕ) → index < n → n ≤ count → newest es name n ≡ Some index

module _ (es : List Layered) (name : NameId) where
  -- a count that isn't above the next one is that, or isn't above this one
  split : {P : Type 0} (n count : ℕ) → n ≤ suc count → (n ≤ count → P) → (n ≡ suc count → P) → P
  split {P = P} n count le below at = by (nat_le n count) refl
    where
      by : (test : Bool) → nat_le n count ≡ test → P
      by true e = below (leb-true n count e)
      by false e = at (omega (arith, le, leb-false n count e))

  newest-later : (count index : ℕ) → newest es name (suc count) ≡ Some index → IsNewest es name count index → IsNewest es name (suc count) index
  newest-later count index is found =
      record {
        below = omega (arith, found.below);
        entry = found.entry;
        stands = found.stands;
        named = found.named;
        still = λ n after le. split n count le (λ within. found.still n after within) (λ (at : n ≡ suc count). ap (newest es name) at ∙ is);
      }

  pub newest-some : (count index : ℕ) → newest es name count ≡ Some index → IsNewest es name count index
  newest-some zero index is = absurd (none-some index is)
  newest-some (suc count) index is = by (slice_get es count) refl (newest-some count index)
    where
      Before : Type 0
      Before = newest es name count ≡ Some index → IsNewest es name count index

      at : (found : Option Layered) → slice_get es count ≡ found → newest_or name count found (newest es name count) ≡ Some index
      at found e = sym (ap (λ f. newest_or name count f (newest es name count)) e) ∙ is

      here : (entry : Layered) → slice_get es count ≡ Some entry → (test : Bool) → is_name name entry.name ≡ test → cond test (Some count) (newest es name count) ≡ Some index → Before → IsNewest es name (suc count) index
      here entry e false named found before = newest-later count index is (before found)
      here entry e true named found before =
          let same : count ≡ index = same_Some _ _ found in
          record {
            below = omega (arith, same);
            entry = entry;
            stands = sym (ap (slice_get es) same) ∙ e;
            named = named;
            still = λ n after le. split n count le (λ within. absurd (omega (arith, same, after, within))) (λ (last : n ≡ suc count). ap (newest es name) last ∙ is);
          }

      by : (found : Option Layered) → slice_get es count ≡ found → Before → IsNewest es name (suc count) index
      by None e before = newest-later count index is (before (at None e))
      by (Some entry) e before = here entry e (is_name name entry.name) refl (at (Some entry) e) before

  newest-stays : (count : ℕ) → is_some (newest es name count) ≡ true → is_some (newest es name (suc count)) ≡ true
  newest-stays count is = by (slice_get es count)
    where
      test : (b : Bool) → is_some (cond b (Some count) (newest es name count)) ≡ true
      test true = refl
      test false = is

      by : (entry : Option Layered) → is_some (newest_or name count entry (newest es name count)) ≡ true
      by None = is
      by (Some entry) = test (is_name name entry.name)

  newest-longer : (n more : ℕ) → is_some (newest es name n) ≡ true → is_some (newest es name (n + more)) ≡ true
  newest-longer n zero is =
      let same : n + 0 ≡ n = omega arith in
      ap (λ k. is_some (newest es name k)) same ∙ is
  newest-longer n (suc more) is =
      let next : suc (n + more) ≡ n + suc more = omega arith in
      sym (ap (λ k. is_some (newest es name k)) next) ∙ newest-stays (n + more) (newest-longer n more is)

  -- a name that no entry has, none before has
  pub newest-none : (count n : ℕ) → newest es name count ≡ None → n ≤ count → newest es name n ≡ None
  newest-none count n none le = by (newest es name n) refl
    where
      by : (found : Option ℕ) → newest es name n ≡ found → newest es name n ≡ None
      by None e = e
      by (Some index) e =
          let all : n + (count - n) ≡ count = omega (arith, le) in
          absurd (true≢false (sym (newest-longer n (count - n) (ap is_some e)) ∙ ap (λ k. is_some (newest es name k)) all ∙ ap is_some none))

-- more entries behind
pub newest-append : (es more : List Layered) (name : NameId) (count : ℕ) → count ≤ length es → newest (es ++ more) name count ≡ newest es name count
newest-append es more name zero le = refl
newest-append es more name (suc count) le =
    let same = get-append es more count (omega (arith, le)) in
    let rest = newest-append es more name count (omega (arith, le)) in
    λ i. newest_or name count (same i) (rest i)

-- one more entry is the newest one of its name
pub newest-push : (es : List Layered) (entry : Layered) (asked : NameId) → newest (es ++ entry ∷ []) asked (length (es ++ entry ∷ [])) ≡ cond (is_name asked entry.name) (Some (length es)) (newest es asked (length es))
newest-push es entry asked =
    let longer : length (es ++ entry ∷ []) ≡ suc (length es) = omega (arith, length-append es (entry ∷ [])) in
    ap (newest (es ++ entry ∷ []) asked) longer
    ∙ (λ i. newest_or asked (length es) (get-last es entry i) (newest-append es (entry ∷ []) asked (length es) (omega arith) i))

-- The index

is_name-refl : (name : NameId) → is_name name name ≡ true
is_name-refl name = (Decides-eqb name.0 name.0).1 refl

is_name-sym : (asked name : NameId) → is_name name asked ≡ is_name asked name
is_name-sym asked name =
    one_test (is_name name asked) (is_name asked name) (λ e. subst (λ n. is_name n name ≡ true) (same_name name asked e) (is_name-refl name))
    (λ e. subst (λ n. is_name n asked ≡ true) (same_name asked name e) (is_name-refl asked))

-- one more entry, which hides the last one of its name
module _ (lasts others : List (NameId × ℕ)) (links : List Link) (es : List Layered) (are : IsIndexed lasts links es) (entry : Layered) where
  pub indexed-push : entry.level ≡ length links → entry.hides ≡ newest es entry.name (length es) → length es < 2 ^ 30
      → ((asked : NameId) → lookup (is_name asked) others ≡ cond (is_name entry.name asked) (Some (length es)) (lookup (is_name asked) lasts))
      → IsIndexed others links (es ++ entry ∷ [])
  indexed-push level hides few is =
      record {
        last = λ asked.
            is asked ∙ (λ i. cond (is_name-sym asked entry.name i) (Some (length es)) (are.last asked i)) ∙ sym (newest-push es entry asked);
        hidden = λ index one found. push-cases es entry index one found (old index one) (new index one);
        levels = each-push (λ (one : Layered). one.level ≤ length links) es entry are.levels (omega (arith, level));
        jumps = are.jumps;
        few_links = are.few_links;
        few_entries = omega (arith, few, length-append es (entry ∷ []));
      }
    where
      old : (index : ℕ) (one : Layered) → index < length es → slice_get es index ≡ Some one → one.hides ≡ newest (es ++ entry ∷ []) one.name index
      old index one less found = are.hidden index one found ∙ sym (newest-append es (entry ∷ []) one.name index (omega (arith, less)))

      new : (index : ℕ) (one : Layered) → index ≡ length es → entry ≡ one → one.hides ≡ newest (es ++ entry ∷ []) one.name index
      new index one at same =
          subst (λ (e : Layered). e.hides ≡ newest (es ++ entry ∷ []) e.name index) same
          (hides ∙ sym (ap (newest (es ++ entry ∷ []) entry.name) at ∙ newest-append es (entry ∷ []) entry.name (length es) (omega arith)))

-- one more link
pub indexed-link : (lasts : List (NameId × ℕ)) (links : List Link) (es : List Layered) → IsIndexed lasts links es → (link : Link) → link.jump.level ≤ length links → length links < 2 ^ 30
    → IsIndexed lasts (links ++ link ∷ []) es
indexed-link lasts links es are link below few =
    record {
      last = are.last;
      hidden = are.hidden;
      levels = λ index entry found. omega (arith, are.levels index entry found, length-append links (link ∷ []));
      jumps = λ index one found. push-cases links link index one found (λ less. are.jumps index one) (λ at same. subst (λ (l : Link). l.jump.level ≤ index) same (omega (arith, at, below)));
      few_links = omega (arith, few, length-append links (link ∷ []));
      few_entries = are.few_entries;
    }

-- What is seen

module _ (told : Told) where
  pub below-append : (links : List Link) (es more : List Layered) (count : ℕ) → count ≤ length es → names_below told links (es ++ more) count ≡ names_below told links es count
  below-append links es more zero le = refl
  below-append links es more (suc count) le =
      let same = get-append es more count (omega (arith, le)) in
      let rest = below-append links es more count (omega (arith, le)) in
      λ i. seen_before told links (same i) (rest i)

  -- a name that is looked up is the newest one's
  pub lookup-newest : (links : List Link) (es : List Layered) (name : NameId) (count : ℕ)
      → lookup (is_name name) (names_below told links es count) ≡ shown told (record { links = links; entries = es }) (newest es name count)
  lookup-newest links es name zero = refl
  lookup-newest links es name (suc count) = by (slice_get es count) refl (lookup-newest links es name count)
    where
      Before : Type 0
      Before = lookup (is_name name) (names_below told links es count) ≡ shown told (record { links = links; entries = es }) (newest es name count)

      test : (entry : Layered) → slice_get es count ≡ Some entry → Before → (b : Bool)
          → cond b (Some (raised told (drop entry.level links) entry.found)) (lookup (is_name name) (names_below told links es count))
          ≡ shown told (record { links = links; entries = es }) (cond b (Some count) (newest es name count))
      test entry e before true = sym (ap (option_map (λ (one : Layered). raised told (drop one.level links) one.found)) e)
      test entry e before false = before

      by : (found : Option Layered) → slice_get es count ≡ found → Before
          → lookup (is_name name) (seen_before told links found (names_below told links es count))
          ≡ shown told (record { links = links; entries = es }) (newest_or name count found (newest es name count))
      by None e before = before
      by (Some entry) e before = test entry e before (is_name name entry.name)

  -- One more link raises all

  pub raised-append : (links more : List Link) (found : FoundMember) → raised told (links ++ more) found ≡ raised told more (raised told links found)
  raised-append [] more found = refl
  raised-append (link ∷ links) more found = raised-append links more (found_around told link.anonymous found)

  pub below-push : (links : List Link) (link : Link) (es : List Layered) → Each (λ entry. entry.level ≤ length links) es → (count : ℕ)
      → names_below told (links ++ link ∷ []) es count ≡ entries_around told link.anonymous (names_below told links es count)
  below-push links link es levels zero = refl
  below-push links link es levels (suc count) = by (slice_get es count) refl (below-push links link es levels count)
    where
      by : (found : Option Layered) → slice_get es count ≡ found
          → names_below told (links ++ link ∷ []) es count ≡ entries_around told link.anonymous (names_below told links es count)
          → seen_before told (links ++ link ∷ []) found (names_below told (links ++ link ∷ []) es count)
          ≡ entries_around told link.anonymous (seen_before told links found (names_below told links es count))
      by None e rest = rest
      by (Some entry) e rest =
          let one = ap (λ ls. raised told ls entry.found) (drop-append-le entry.level links (link ∷ []) (levels count entry e)) ∙ raised-append (drop entry.level links) (link ∷ []) entry.found in
          λ i. (entry.name, one i) ∷ rest i

  -- Entries from a first one on

  module _ (chain : Chain) (first : ℕ) where
    own-by : (at : Option ℕ) (test : Bool) → is_from first at ≡ test → own_found told chain first at ≡ cond test (shown told chain at) None
    own-by at test is = ap (λ b. cond b (shown told chain at) None) is

    own-some : (name : NameId) (count : ℕ) (at : Option ℕ) → newest chain.entries name count ≡ at → is_from first at ≡ true → is_some (own_found told chain first at) ≡ true
    own-some name count None found is = absurd (false≢true is)
    own-some name count (Some index) found is =
        ap is_some (own-by (Some index) true is ∙ ap (option_map (λ (entry : Layered). raised told (drop entry.level chain.links) entry.found)) (newest-some chain.entries name count index found).stands)

  -- all entries are from the first one on
  pub own-all : (chain : Chain) (at : Option ℕ) → own_found told chain 0 at ≡ shown told chain at
  own-all chain None = refl
  own-all chain (Some index) = ap (λ b. cond b (shown told chain (Some index)) None) (leb-zero index)

  keeps-some : {X : Type 0} (found later : Option X) → is_some found ≡ true → found ≡ or_later found later
  keeps-some None later is = absurd (false≢true is)
  keeps-some (Some x) later is = refl

  drop-all : {X : Type 0} (xs : List X) → drop (length xs) xs ≡ []
  drop-all [] = refl
  drop-all (x ∷ xs) = drop-all xs

  -- a name that is entered is found where none was found
  module _ (chain : Chain) (first : ℕ) (name : NameId) (found : FoundMember) (within : first ≤ length chain.entries) (asked : NameId) where
    abbrev entry : Layered
    entry = record { name = name; found = found; level = length chain.links; hides = newest chain.entries name (length chain.entries) }

    abbrev grown : Chain
    grown = record { links = chain.links; entries = chain.entries ++ entry ∷ [] }

    abbrev count : ℕ
    count = length chain.entries

    grown-newest : newest grown.entries asked (length grown.entries) ≡ cond (is_name asked name) (Some count) (newest chain.entries asked count)
    grown-newest = newest-push chain.entries entry asked

    old-found : (at : Option ℕ) → newest chain.entries asked count ≡ at → own_found told grown first at ≡ own_found told chain first at
    old-found None e = refl
    old-found (Some index) e =
        ap (λ one. cond (nat_le first index) (option_map (λ (entry : Layered). raised told (drop entry.level chain.links) entry.found) one) None)
        (get-append chain.entries (entry ∷ []) index (newest-some chain.entries asked count index e).below)

    new-found : own_found told grown first (Some count) ≡ Some found
    new-found =
        own-by grown first (Some count) true (le-leb first count within)
        ∙ ap (option_map (λ (one : Layered). raised told (drop one.level chain.links) one.found)) (get-last chain.entries entry)
        ∙ ap (λ links. Some (raised told links found)) (drop-all chain.links)

    abbrev after : Bool → Chain
    after stays = record { links = chain.links; entries = if stays then chain.entries else chain.entries ++ entry ∷ [] }

    asked-same : (test : Bool) → is_name asked name ≡ test → newest chain.entries name count ≡ cond test (newest chain.entries asked count) (newest chain.entries name count)
    asked-same true e = ap (λ n. newest chain.entries n count) (sym (same_name asked name e))
    asked-same false e = refl

    entered-by : (stays : Bool) → is_from first (newest chain.entries name count) ≡ stays → (test : Bool) → is_name asked name ≡ test
        → own_name told (after stays) first asked ≡ or_later (own_name told chain first asked) (cond test (Some found) None)
    entered-by true from true e =
        keeps-some (own_name told chain first asked) (Some found)
        (own-some chain first asked count (newest chain.entries asked count) refl (sym (ap (is_from first) (asked-same true e)) ∙ from))
    entered-by true from false e = sym (or_none (own_name told chain first asked))
    entered-by false from true e =
        ap (own_found told grown first) (grown-newest ∙ ap (λ test. cond test (Some count) (newest chain.entries asked count)) e) ∙ new-found
        ∙ sym (ap (λ old. or_later old (Some found)) (own-by chain first (newest chain.entries asked count) false (sym (ap (is_from first) (asked-same true e)) ∙ from)))
    entered-by false from false e =
        ap (own_found told grown first) (grown-newest ∙ ap (λ test. cond test (Some count) (newest chain.entries asked count)) e)
        ∙ old-found (newest chain.entries asked count) refl ∙ sym (or_none (own_name told chain first asked))

    pub entered : own_name told (record { links = chain.links; entries = with_entry chain first name found }) first asked
        ≡ or_later (own_name told chain first asked) (lookup (is_name asked) ((name, found) ∷ []))
    entered = entered-by (is_from first (newest chain.entries name count)) refl (is_name asked name) refl

  -- One more aggregate around

  or-assoc : {X : Type 0} (one two three : Option X) → or_later (or_later one two) three ≡ or_later one (or_later two three)
  or-assoc None two three = refl
  or-assoc (Some x) two three = refl

  -- entries behind the first ones come before those
  module _ (links : List Link) (es more : List Layered) (asked : NameId) where
    abbrev inner : Chain
    inner = record { links = links; entries = es }

    abbrev outer : Chain
    outer = record { links = links; entries = es ++ more }

    inside : length es ≤ length (es ++ more)
    inside = omega (arith, length-append es more)

    old : newest (es ++ more) asked (length es) ≡ newest es asked (length es)
    old = newest-append es more asked (length es) (omega arith)

    abbrev Splits : Option ℕ → Type 0
    Splits at = shown told outer at ≡ or_later (own_found told outer (length es) at) (shown told inner (newest es asked (length es)))

    splits-at : (index : ℕ) → newest (es ++ more) asked (length (es ++ more)) ≡ Some index → (test : Bool) → nat_le (length es) index ≡ test → Splits (Some index)
    splits-at index e true from =
        sym (own-by outer (length es) (Some index) true from)
        ∙ keeps-some (own_found told outer (length es) (Some index)) (shown told inner (newest es asked (length es)))
        (own-some outer (length es) asked (length (es ++ more)) (Some index) e from)
    splits-at index e false from =
        let one = newest-some (es ++ more) asked (length (es ++ more)) index e in
        let less = leb-false (length es) index from in
        let here : newest es asked (length es) ≡ Some index = sym old ∙ one.still (length es) less inside in
        ap (option_map (λ (entry : Layered). raised told (drop entry.level links) entry.found)) (get-append es more index less)
        ∙ sym (ap (shown told inner) here)
        ∙ sym (ap (λ found. or_later found (shown told inner (newest es asked (length es)))) (own-by outer (length es) (Some index) false from))

    splits : (at : Option ℕ) → newest (es ++ more) asked (length (es ++ more)) ≡ at → Splits at
    splits None e = sym (ap (shown told inner) (sym old ∙ newest-none (es ++ more) asked (length (es ++ more)) (length es) e inside))
    splits (Some index) e = splits-at index e (nat_le (length es) index) refl

    split-own : own_name told outer 0 asked ≡ or_later (own_name told outer (length es) asked) (own_name told inner 0 asked)
    split-own =
        own-all outer (newest (es ++ more) asked (length (es ++ more))) ∙ splits (newest (es ++ more) asked (length (es ++ more))) refl
        ∙ sym (ap (or_later (own_name told outer (length es) asked)) (own-all inner (newest es asked (length es))))

  -- no entry of the first ones is behind them
  own-empty : (links : List Link) (es : List Layered) (asked : NameId) → own_name told (record { links = links; entries = es }) (length es) asked ≡ None
  own-empty links es asked = by (newest es asked (length es)) refl
    where
      by : (at : Option ℕ) → newest es asked (length es) ≡ at → own_found told (record { links = links; entries = es }) (length es) at ≡ None
      by None e = refl
      by (Some index) e =
          own-by (record { links = links; entries = es }) (length es) (Some index) false (lt-leb (length es) index (newest-some es asked (length es) index e).below)

  -- names before those of the inner aggregate, and behind them
  pub surrounded : (links : List Link) (link : Link) (es : List Layered) → Each (λ entry. entry.level ≤ length links) es
      → (one two : Chain) → one.links ≡ links ++ link ∷ [] → IsLonger es one.entries → two.links ≡ one.links → (before behind : List (NameId × FoundMember)) (asked : NameId)
      → own_name told one (length es) asked ≡ or_later (own_name told (record { links = links ++ link ∷ []; entries = es }) (length es) asked) (lookup (is_name asked) before)
      → own_name told two 0 asked ≡ or_later (own_name told one 0 asked) (lookup (is_name asked) behind)
      → lookup (is_name asked) (all_names told two) ≡ lookup (is_name asked) (before ++ entries_around told link.anonymous (all_names told (record { links = links; entries = es })) ++ behind)
  surrounded links link es levels one two linked longer same before behind asked first second =
      let around = entries_around told link.anonymous (all_names told (record { links = links; entries = es })) in
      let raised_all : own_name told (record { links = links ++ link ∷ []; entries = es }) 0 asked ≡ lookup (is_name asked) around =
      own-all (record { links = links ++ link ∷ []; entries = es }) (newest es asked (length es)) ∙ sym (lookup-newest (links ++ link ∷ []) es asked (length es)) ∙ ap (lookup (is_name asked)) (below-push links link es levels (length es))
      in
      let whole : own_name told one 0 asked ≡ or_later (lookup (is_name asked) before) (lookup (is_name asked) around) =
      (λ i. own_name told (record { links = linked i; entries = longer.1 i }) 0 asked)
      ∙ split-own (links ++ link ∷ []) es longer.0 asked
      ∙ ap (λ found. or_later found (own_name told (record { links = links ++ link ∷ []; entries = es }) 0 asked))
      (sym (λ i. own_name told (record { links = linked i; entries = longer.1 i }) (length es) asked) ∙ first ∙ ap (λ found. or_later found (lookup (is_name asked) before)) (own-empty (links ++ link ∷ []) es asked))
      ∙ ap (or_later (lookup (is_name asked) before)) raised_all
      in
      lookup-newest two.links two.entries asked (length two.entries) ∙ sym (own-all two (newest two.entries asked (length two.entries))) ∙ second ∙ ap (λ found. or_later found (lookup (is_name asked) behind)) whole
      ∙ sym (lookup-append (is_name asked) (before ++ around) behind ∙ ap (λ found. or_later found (lookup (is_name asked) behind)) (lookup-append (is_name asked) before around))

  -- a name that is entered counts where none was found, before the names that are left
  pub entered-step : (chain new : Chain) (first : ℕ) (name : NameId) (found : FoundMember) → first ≤ length chain.entries → (asked : NameId) → new.links ≡ chain.links → new.entries ≡ with_entry chain first name found
      → (others rest : List (NameId × FoundMember)) → rest ≡ (name, found) ∷ others
      → or_later (own_name told new first asked) (lookup (is_name asked) others) ≡ or_later (own_name told chain first asked) (lookup (is_name asked) rest)
  entered-step chain new first name found within asked linked is others rest split =
      ap (λ one. or_later one (lookup (is_name asked) others)) ((λ i. own_name told (record { links = linked i; entries = is i }) first asked) ∙ entered chain first name found within asked)
      ∙ or-assoc (own_name told chain first asked) (lookup (is_name asked) ((name, found) ∷ [])) (lookup (is_name asked) others)
      ∙ ap (λ later. or_later (own_name told chain first asked) later) (sym (lookup-append (is_name asked) ((name, found) ∷ []) others))
      ∙ ap (λ all. or_later (own_name told chain first asked) (lookup (is_name asked) all)) (sym split)

-- What stays when a name is entered

module _ (chain : Chain) (first : ℕ) (name : NameId) (found : FoundMember) where
  abbrev one : Layered
  one = record { name = name; found = found; level = length chain.links; hides = newest chain.entries name (length chain.entries) }

  pub entry-longer : IsLonger chain.entries (with_entry chain first name found)
  entry-longer = by (is_from first (newest chain.entries name (length chain.entries)))
    where
      by : (stays : Bool) → IsLonger chain.entries (if stays then chain.entries else chain.entries ++ one ∷ [])
      by true = ([], sym (append-nil chain.entries))
      by false = (one ∷ [], refl)

  pub entry-known : (types : List TypeTree) → AreKnownEntries types chain.entries → found.of.0 < length types → AreKnownEntries types (with_entry chain first name found)
  entry-known types known is = by (is_from first (newest chain.entries name (length chain.entries)))
    where
      by : (stays : Bool) → AreKnownEntries types (if stays then chain.entries else chain.entries ++ one ∷ [])
      by true = known
      by false = each-push (λ (entry : Layered). entry.found.of.0 < length types) chain.entries one known is

-- Walking

-- so many steps are left on the way over hidden entries
abbrev pub steps : Option ℕ → ℕ
steps None = 0
steps (Some index) = suc index

newest-steps : (es : List Layered) (name : NameId) (count : ℕ) → steps (newest es name count) ≤ count
newest-steps es name count = by (newest es name count) refl
  where
    by : (found : Option ℕ) → newest es name count ≡ found → steps found ≤ count
    by None e = omega arith
    by (Some index) e = omega (arith, (newest-some es name count index e).below)

-- a hidden entry is nearer
pub steps-fall : (es : List Layered) (name : NameId) (last hides : Option ℕ) (index : ℕ) → last ≡ Some index → hides ≡ newest es name index → steps hides < steps last
steps-fall es name last hides index is hidden = omega (arith, ap steps is, ap steps hidden, newest-steps es name index)

-- an entry hides the newest one of the name that is asked
pub walked : (lasts : List (NameId × ℕ)) (links : List Link) (es : List Layered) → IsIndexed lasts links es → (name : NameId) (most index : ℕ) (entry : Layered) → newest es name most ≡ Some index
    → slice_get es index ≡ Some entry → entry.hides ≡ newest es name index
walked lasts links es are name most index entry is stands =
    let found = newest-some es name most index is in
    let same : found.entry ≡ entry = same_Some _ _ (sym found.stands ∙ stands) in
    are.hidden index entry stands ∙ ap (λ n. newest es n index) (sym (same_name name entry.name (subst (λ (e : Layered). is_name name e.name ≡ true) same found.named)))

-- a name more is copied
pub copy-step : (told : Told) (anonymous : Anonymous) (links : List Link) (es : List Layered) (names new : List (NameId × FoundMember)) (most index : ℕ) (layered : Layered) (found : FoundMember) → most ≡ suc index
    → slice_get es index ≡ Some layered → found ≡ raised told (drop layered.level links) layered.found → new ≡ names ++ (layered.name, found_around told anonymous found) ∷ []
    → new ++ entries_around told anonymous (names_below told links es index) ≡ names ++ entries_around told anonymous (names_below told links es most)
copy-step told anonymous links es names new most index layered found next stands is grown =
    let rest = entries_around told anonymous (names_below told links es index) in
    ap (λ front. front ++ rest) grown ∙ append_assoc names ((layered.name, found_around told anonymous found) ∷ []) rest
    ∙ ap (λ f. names ++ (layered.name, found_around told anonymous f) ∷ rest) is
    ∙ sym (ap (λ one. names ++ entries_around told anonymous (seen_before told links one (names_below told links es index))) stands)
    ∙ sym (ap (λ n. names ++ entries_around told anonymous (names_below told links es n)) next)

-- what is looked up
module _ (told : Told) (links : List Link) (es : List Layered) (name : NameId) (most : ℕ) where
  pub find-some : (index : ℕ) (layered : Layered) → newest es name most ≡ Some index → slice_get es index ≡ Some layered → Some (raised told (drop layered.level links) layered.found) ≡ lookup (is_name name) (names_below told links es most)
  find-some index layered is stands =
      sym (lookup-newest told links es name most ∙ ap (shown told (record { links = links; entries = es })) is
      ∙ ap (option_map (λ (one : Layered). raised told (drop one.level links) one.found)) stands)

  pub find-none : newest es name most ≡ None → None ≡ lookup (is_name name) (names_below told links es most)
  find-none is = sym (lookup-newest told links es name most ∙ ap (shown told (record { links = links; entries = es })) is)
