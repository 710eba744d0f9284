-- What is kept of aggregates where chains grow, where one more aggregate is told, and where there are more types.
use Rattle.std.proofs.Common.{◌≡◌, ℕ, zero, suc, ◌<◌, ◌≤◌, ◌+◌, Bool, true, false, cond, nat_eq, List, [], ◌∷◌, ◌++◌, Option, Some, None, IfSome, IsSome, is_some, drop, length, map, option_map, slice_get, take, refl, sym, ap, ◌∙◌, subst, IfOk, Result, Ok, Err, slice_set, get_or, append_assoc, append-nil, length-append, arith}
use Rattle.std.proofs.lemmas.Bool.{eqb-true, false≢true}
use Rattle.std.proofs.lemmas.Bool.Decides.{Decides-eqb}
use Rattle.std.proofs.lemmas.List.{map-append, take-append-le}
use Rattle.std.proofs.lemmas.Map.Made.{lookup-map_values}
use Rattle.std.proofs.lemmas.Option.{none-some, same_Some, slice_get_read, slice_get_within}
use Rattle.std.specs.Prelude.{OnOk, OnErr}
use Rattle.std.specs.Map.{lookup}
use Rattle.indexmap.specs.IndexMap.{insert_entry}
use Rattle.sparse_model.specs.declared.ids.NameId.{NameId}
use Rattle.meaning_types.specs.Types.{TypeTree}
use Rattle.meaning_layout.specs.Members.{DeclaredMember, Names, anonymous_names, names_before, names_by, names_of_member, names_of_members, tell_names, unnamed_names}
use Rattle.meaning_layout.specs.Members as meaning
use Rattle.meaning_layout.specs.Sizes.{Told}
use Rattle.c_types.specs.declared.bodies.AggregateBody.{AggregateBody}
use Rattle.c_types.specs.declared.bodies.Member.{Member}
use Rattle.c_types.specs.declared.chains.Layered.{Layered}
use Rattle.c_types.specs.declared.chains.Link.{Link}
use Rattle.c_types.specs.declared.layouts.AggregateLayout.{AggregateLayout}
use Rattle.c_types.specs.declared.maps.Heavy.{Heavy}
use Rattle.c_types.specs.declared.maps.Standing.{Standing}
use Rattle.c_types.specs.declared.members.Anonymous.{Anonymous}
use Rattle.c_types.specs.declared.members.FoundMember.{FoundMember}
use Rattle.c_types.specs.Chains.{AreJumpsOver, AreKnownEntries, AreToldLinks, Chain, ChainGrows, Each, IsToldLink, IsToldMember, all_names, names_below, newest, own_name, raised, seen_before}
use Rattle.c_types.specs.Layouts.{layout_kept, told_kept, told_of_bodies}
use Rattle.c_types.specs.Maps.{AreMaps, AreNamed, ChainsGrow, IsEntered, IsHeavy, IsStanding, IsTold, names_if, names_in_chain, names_kept, names_standing}
use Rattle.c_types.specs.Members.{AreKnownNames, NameAlike, anonymous_type, entries_around, found_around, found_seen, is_name, member_declared, names_of_bodies, names_seen}
use Rattle.c_types.specs.Rows.{type_numbered}
use Rattle.c_types.specs.Table.{IsLonger}
use Rattle.c_types.proofs.ChainLemmas.{below-append, each-push, get-append, get-last, lookup-newest, own-all}
use Rattle.c_types.proofs.JumpLemmas.{each-drop, each-take, jumps-later, links-later, raised-later}
use Rattle.c_types.proofs.LayoutLemmas.{lookup-other, lookup-same, told_of_bodies-none}
use Rattle.c_types.proofs.NameLemmas.{alike-members, around, names_of_bodies-push, found-known, known-append, seen-around, seen-later}

-- Growing

longer-through : {X : Type 0} (xs ys zs : List X) → IsLonger xs ys → IsLonger ys zs → IsLonger xs zs
longer-through xs ys zs first second = (first.0 ++ second.0, second.1 ∙ ap (λ front. front ++ second.0) first.1 ∙ append_assoc xs first.0 second.0)

pub grows-not : (chain : Chain) → ChainGrows chain chain
grows-not chain = record { links = ([], sym (append-nil chain.links)); entries = ([], sym (append-nil chain.entries)) }

pub grows-through : (one two three : Chain) → ChainGrows one two → ChainGrows two three → ChainGrows one three
grows-through one two three first second = record { links = longer-through one.links two.links three.links first.links second.links; entries = longer-through one.entries two.entries three.entries first.entries second.entries }

pub none-grows : (chains : List Chain) → ChainsGrow chains chains
none-grows chains place chain found = (chain, found, grows-not chain)

pub longer-length : {X : Type 0} (xs ys : List X) → IsLonger xs ys → length xs ≤ length ys
longer-length xs ys more = omega (arith, ap length more.1, length-append xs more.0)

module _ (chains more : List Chain) (grow : ChainsGrow chains more) (standing : Standing) (stands : IsStanding chains standing) where
  pub standing-stays : IsStanding more standing
  standing-stays =
      let grown = grow standing.chain stands.0 stands.1 in (
        grown.0,
        grown.1,
        omega (arith, stands.2, longer-length stands.0.links grown.0.links grown.2.links),
        omega (arith, stands.3, longer-length stands.0.entries grown.0.entries grown.2.entries),
      )

  pub names-stay : (told : Told) → names_standing told more standing ≡ names_standing told chains standing
  names-stay told =
      let grown = grow standing.chain stands.0 stands.1 in
      let chain = stands.0 in
      ap (λ found. names_in_chain told found standing) grown.1
      ∙ ap (λ links. names_below told (take standing.level links) grown.0.entries standing.count) grown.2.links.1
      ∙ ap (λ links. names_below told links grown.0.entries standing.count) (take-append-le standing.level chain.links grown.2.links.0 stands.2)
      ∙ ap (λ es. names_below told (take standing.level chain.links) es standing.count) grown.2.entries.1
      ∙ below-append told (take standing.level chain.links) chain.entries grown.2.entries.0 standing.count stands.3
      ∙ sym (ap (λ found. names_in_chain told found standing) stands.1)

-- More is told

module _ (told later : Told) (stay : (number : ℕ) (is_union : Bool) → IsSome (told number is_union) → later number is_union ≡ told number is_union) where
  below-later : (links : List Link) → AreToldLinks told links → (es : List Layered) (count : ℕ) → names_below later links es count ≡ names_below told links es count
  below-later links each es zero = refl
  below-later links each es (suc count) = by (slice_get es count) (below-later links each es count)
    where
      by : (found : Option Layered) → names_below later links es count ≡ names_below told links es count
          → seen_before later links found (names_below later links es count) ≡ seen_before told links found (names_below told links es count)
      by None rest = rest
      by (Some entry) rest =
          let one = raised-later told later stay (drop entry.level links) (each-drop (IsToldLink told) entry.level links each) entry.found in
          λ i. (entry.name, one i) ∷ rest i

  pub standing-later : (chains : List Chain) → Each (λ (chain : Chain). AreToldLinks told chain.links) chains → (standing : Standing)
      → names_standing later chains standing ≡ names_standing told chains standing
  standing-later chains each standing = by (slice_get chains standing.chain) refl
    where
      by : (found : Option Chain) → slice_get chains standing.chain ≡ found → names_in_chain later found standing ≡ names_in_chain told found standing
      by None e = refl
      by (Some chain) e =
          below-later (take standing.level chain.links) (each-take (IsToldLink told) standing.level chain.links (each standing.chain chain e)) chain.entries standing.count

-- Types

raised-of : (told : Told) (links : List Link) (found : FoundMember) → (raised told links found).of ≡ found.of
raised-of told [] found = refl
raised-of told (link ∷ links) found = raised-of told links (found_around told link.anonymous found)

pub below-known : (types : List TypeTree) (told : Told) (links : List Link) (es : List Layered) → AreKnownEntries types es → (count : ℕ) → AreKnownNames types (names_below told links es count)
below-known types told links es known zero = tt
below-known types told links es known (suc count) = by (slice_get es count) refl (below-known types told links es known count)
  where
    by : (found : Option Layered) → slice_get es count ≡ found → AreKnownNames types (names_below told links es count) → AreKnownNames types (seen_before told links found (names_below told links es count))
    by None e rest = rest
    by (Some entry) e rest = (subst (λ of. of.0 < length types) (sym (raised-of told (drop entry.level links) entry.found)) (known count entry e), rest)

pub standing-known : (types : List TypeTree) (told : Told) (chains : List Chain) → Each (λ (chain : Chain). AreKnownEntries types chain.entries) chains → (standing : Standing)
    → AreKnownNames types (names_standing told chains standing)
standing-known types told chains each standing = by (slice_get chains standing.chain) refl
  where
    by : (found : Option Chain) → slice_get chains standing.chain ≡ found → AreKnownNames types (names_in_chain told found standing)
    by None e = tt
    by (Some chain) e = below-known types told (take standing.level chain.links) chain.entries (each standing.chain chain e) standing.count

pub maps-more : (types others : List TypeTree) (told : Told) (chains : List Chain) (kept : List (ℕ × Standing)) → length types ≤ length others → AreMaps types told chains kept → AreMaps others told chains kept
maps-more types others told chains kept more maps =
    record {
      known = λ place chain at index entry found. omega (arith, more, maps.known place chain at index entry found);
      links = maps.links;
      jumps = maps.jumps;
      standings = maps.standings;
      all_told = maps.all_told;
    }

pub names_kept-later : (types more : List TypeTree) (told : Told) (chains : List Chain) (kept : List (ℕ × Standing)) → Each (λ (chain : Chain). AreKnownEntries types chain.entries) chains → (number : ℕ)
    → names_kept (types ++ more) told chains kept number ≡ names_kept types told chains kept number
names_kept-later types more told chains kept known number = by (lookup (nat_eq number) kept)
  where
    by : (found : Option Standing) → names_if (types ++ more) told chains found ≡ names_if types told chains found
    by None = refl
    by (Some standing) = seen-later types more (names_standing told chains standing) (standing-known types told chains known standing)

-- Chains that grow

module _ (types : List TypeTree) (told : Told) (chains more : List Chain) (kept : List (ℕ × Standing)) (maps : AreMaps types told chains kept) (grow : ChainsGrow chains more) where
  pub names_kept-grow : (number : ℕ) → names_kept types told more kept number ≡ names_kept types told chains kept number
  names_kept-grow number = by (lookup (nat_eq number) kept) refl
    where
      by : (found : Option Standing) → lookup (nat_eq number) kept ≡ found → names_if types told more found ≡ names_if types told chains found
      by None e = refl
      by (Some standing) e = ap (names_seen types) (names-stay chains more grow standing (maps.standings number standing e) told)

  pub maps-grow : Each (λ (chain : Chain). AreKnownEntries types chain.entries) more → Each (λ (chain : Chain). AreToldLinks told chain.links) more → Each (λ (chain : Chain). AreJumpsOver told chain.links) more
      → AreMaps types told more kept
  maps-grow known links jumps =
      record {
        known = known;
        links = links;
        jumps = jumps;
        standings = λ number standing found. standing-stays chains more grow standing (maps.standings number standing found);
        all_told = maps.all_told;
      }

-- One more aggregate

module _ (types : List TypeTree) (told later : Told) (stay : (number : ℕ) (is_union : Bool) → IsSome (told number is_union) → later number is_union ≡ told number is_union) (chains : List Chain) (kept : List (ℕ × Standing))
    (maps : AreMaps types told chains kept) (aggregate : ℕ) (standing : Standing) where
  abbrev grown : List (ℕ × Standing)
  grown = insert_entry nat_eq kept aggregate standing

  still-told : (number : ℕ) → IsTold told number → IsTold later number
  still-told number is is_union = subst IsSome (sym (stay number is_union (is is_union))) (is is_union)

  pub maps-push : IsStanding chains standing → IsTold later aggregate → AreMaps types later chains grown
  maps-push stands is =
      record {
        known = maps.known;
        links = λ place chain at. links-later told later stay chain.links (maps.links place chain at);
        jumps = λ place chain at. jumps-later told later stay chain.links (maps.links place chain at) (maps.jumps place chain at);
        standings = λ number one found. at_standing number one found (nat_eq number aggregate) refl;
        all_told = λ number one found. at_told number one found (nat_eq number aggregate) refl;
      }
    where
      at_standing : (number : ℕ) (one : Standing) → lookup (nat_eq number) grown ≡ Some one → (test : Bool) → nat_eq number aggregate ≡ test → IsStanding chains one
      at_standing number one found true e =
          subst (IsStanding chains) (same_Some _ _ (sym (lookup-same number aggregate standing kept (eqb-true number aggregate e) e) ∙ found)) stands
      at_standing number one found false e = maps.standings number one (sym (lookup-other number aggregate standing kept e) ∙ found)

      at_told : (number : ℕ) (one : Standing) → lookup (nat_eq number) grown ≡ Some one → (test : Bool) → nat_eq number aggregate ≡ test → IsTold later number
      at_told number one found true e = subst (IsTold later) (sym (eqb-true number aggregate e)) is
      at_told number one found false e = still-told number (maps.all_told number one (sym (lookup-other number aggregate standing kept e) ∙ found))

  pub names-same : (number : ℕ) → nat_eq number aggregate ≡ true → names_kept types later chains grown number ≡ names_seen types (names_standing told chains standing)
  names-same number e =
      ap (names_if types later chains) (lookup-same number aggregate standing kept (eqb-true number aggregate e) e)
      ∙ ap (names_seen types) (standing-later told later stay chains maps.links standing)

  pub names-other : (number : ℕ) → nat_eq number aggregate ≡ false → names_kept types later chains grown number ≡ names_kept types told chains kept number
  names-other number e = ap (names_if types later chains) (lookup-other number aggregate standing kept e) ∙ by (lookup (nat_eq number) kept)
    where
      by : (found : Option Standing) → names_if types later chains found ≡ names_if types told chains found
      by None = refl
      by (Some one) = ap (names_seen types) (standing-later told later stay chains maps.links one)

-- Reading

-- the chain that is read is the one in which the aggregate stands
pub standing-read : (chains : List Chain) (standing : Standing) → IsStanding chains standing → (chain : Chain) → chain ≡ get_or chains standing.chain chain
    → (slice_get chains standing.chain ≡ Some chain) × (standing.level ≤ length chain.links) × (standing.count ≤ length chain.entries)
standing-read chains standing stands chain is =
    let at : slice_get chains standing.chain ≡ Some chain =
    slice_get_read chains (length chains) standing.chain chain refl (slice_get_within chains standing.chain stands.0 stands.1) is
    in
    let same : stands.0 ≡ chain = same_Some _ _ (sym stands.1 ∙ at) in
    (at, subst (λ (one : Chain). standing.level ≤ length one.links) same stands.2, subst (λ (one : Chain). standing.count ≤ length one.entries) same stands.3)

-- what is found in it is what is kept
module _ (types : List TypeTree) (told : Told) (chains : List Chain) (kept : List (ℕ × Standing)) (number : ℕ) (asked : NameId) where
  pub find-kept : (standing : Standing) (chain : Chain) (found : Option FoundMember) → Some standing ≡ lookup (nat_eq number) kept → slice_get chains standing.chain ≡ Some chain
      → found ≡ lookup (is_name asked) (names_below told (take standing.level chain.links) chain.entries standing.count)
      → option_map (found_seen types) found ≡ lookup (is_name asked) (names_kept types told chains kept number)
  find-kept standing chain found at stands is =
      ap (option_map (found_seen types)) is
      ∙ sym (lookup-map_values (found_seen types) (is_name asked) (names_below told (take standing.level chain.links) chain.entries standing.count))
      ∙ sym (ap (λ one. lookup (is_name asked) (names_seen types (names_in_chain told one standing))) stands)
      ∙ ap (λ one. lookup (is_name asked) (names_if types told chains one)) at

pub lookup-known : (types : List TypeTree) (asked : NameId) (es : List (NameId × FoundMember)) → AreKnownNames types es → (found : Option FoundMember) → found ≡ lookup (is_name asked) es
    → IfSome found (λ one. one.of.0 < length types)
lookup-known types asked es known None is = tt
lookup-known types asked es known (Some found) is = found-known types asked found es known (sym is)

-- What members bring

module _ (types : List TypeTree) (told : Told) (chains : List Chain) (kept : List (ℕ × Standing)) (place : ℕ) (member : Member) where
  abbrev pub brought : Names NameId
  brought = names_of_member told (names_kept types told chains kept) place (member_declared types member)

  abbrev of : TypeTree
  of = type_numbered types member.of.0

  as-unnamed : member.name ≡ None → brought ≡ unnamed_names told (names_kept types told chains kept) place member.width of
  as-unnamed unnamed = ap (λ (name : Option NameId). names_by told (names_kept types told chains kept) place name (member_declared types member)) unnamed

  as-anonymous : member.name ≡ None → member.width ≡ None → brought ≡ anonymous_names told (names_kept types told chains kept) place of
  as-anonymous unnamed bare = as-unnamed unnamed ∙ ap (λ (width : Option ℕ). unnamed_names told (names_kept types told chains kept) place width of) bare

  module _ (unnamed : member.name ≡ None) (bare : member.width ≡ None) (anonymous : Anonymous) (typed : of ≡ anonymous_type anonymous) (at : anonymous.place ≡ place) (begins : anonymous.bits ≡ Some 0) where
    as-kept : brought ≡ map (λ entry. (entry.0, around types told anonymous entry.1)) (names_kept types told chains kept anonymous.number)
    as-kept =
        as-anonymous unnamed bare ∙ ap (anonymous_names told (names_kept types told chains kept) place) typed
        ∙ sym (ap (λ (p : ℕ). anonymous_names told (names_kept types told chains kept) p (anonymous_type anonymous)) at)

    pub inner-brings : (standing : Standing) → Some standing ≡ lookup (nat_eq anonymous.number) kept → names_seen types (entries_around told anonymous (names_standing told chains standing)) ≡ brought
    inner-brings standing found =
        seen-around types told anonymous begins (names_standing told chains standing)
        ∙ ap (λ one. map (λ entry. (entry.0, around types told anonymous entry.1)) (names_if types told chains one)) found ∙ sym as-kept

-- names that come behind others
pub seen-behind : (types : List TypeTree) (es more new : List (NameId × FoundMember)) (seen_names : Names NameId) → new ≡ es ++ more → names_seen types more ≡ seen_names → names_seen types new ≡ names_seen types es ++ seen_names
seen-behind types es more new seen_names is seen =
    ap (names_seen types) is ∙ map-append (λ (entry : NameId × FoundMember). (entry.0, found_seen types entry.1)) es more ∙ ap (λ rest. names_seen types es ++ rest) seen

pub known-behind : (types : List TypeTree) (es more new : List (NameId × FoundMember)) → new ≡ es ++ more → AreKnownNames types more → AreKnownNames types es → AreKnownNames types new
known-behind types es more new is known before = subst (AreKnownNames types) (sym is) (known-append types es more before known)

-- a member, and those behind it
pub members-step : (types : List TypeTree) (told : Told) (names : ℕ → Names NameId) (place : ℕ) (member : Member) (others : List Member) (es new : Names NameId)
    → new ≡ es ++ names_of_member told names place (member_declared types member)
    → new ++ names_of_members told names (place + 1) (map (member_declared types) others) ≡ es ++ names_of_members told names place (map (member_declared types) (member ∷ others))
members-step types told names place member others es new is =
    let next : place + 1 ≡ suc place = omega arith in
    (λ i. is i ++ names_of_members told names (next i) (map (member_declared types) others))
    ∙ append_assoc es (names_of_member told names place (member_declared types member)) (names_of_members told names (suc place) (map (member_declared types) others))

-- The outermost aggregate

take-all : {X : Type 0} (xs : List X) (count : ℕ) → count ≡ length xs → take count xs ≡ xs
take-all [] zero is = refl
take-all [] (suc count) is = refl
take-all (x ∷ xs) zero is = absurd (omega (arith, is))
take-all (x ∷ xs) (suc count) is = ap (λ rest. x ∷ rest) (take-all xs count (omega (arith, is)))

-- the outermost aggregate has all names of its chain
pub outermost-names : (told : Told) (chains : List Chain) (standing : Standing) (chain : Chain) → slice_get chains standing.chain ≡ Some chain → standing.level ≡ length chain.links → standing.count ≡ length chain.entries
    → names_standing told chains standing ≡ all_names told chain
outermost-names told chains standing chain at level count =
    ap (λ one. names_in_chain told one standing) at ∙ (λ i. names_below told (take-all chain.links standing.level level i) chain.entries (count i))

-- A chain of its own

pub grow-push : (chains : List Chain) (chain : Chain) → ChainsGrow chains (chains ++ chain ∷ [])
grow-push chains chain place one found = (one, get-append chains (chain ∷ []) place (slice_get_within chains place one found) ∙ found, grows-not one)

pub fresh-names : (types : List TypeTree) (told : Told) (chain : Chain) (names : List (NameId × FoundMember)) (seen_names : Names NameId) (asked : NameId)
    → own_name told chain 0 asked ≡ lookup (is_name asked) names → names_seen types names ≡ seen_names
    → lookup (is_name asked) (names_seen types (all_names told chain)) ≡ lookup (is_name asked) seen_names
fresh-names types told chain names seen_names asked named seen =
    lookup-map_values (found_seen types) (is_name asked) (all_names told chain)
    ∙ ap (option_map (found_seen types))
    (lookup-newest told chain.links chain.entries asked (length chain.entries) ∙ sym (own-all told chain (newest chain.entries asked (length chain.entries))) ∙ named)
    ∙ sym (lookup-map_values (found_seen types) (is_name asked) names) ∙ ap (lookup (is_name asked)) seen

no-links : (told : Told) (links : List Link) → links ≡ [] → AreToldLinks told links
no-links told links bare = subst (AreToldLinks told) (sym bare) (λ index link found. absurd (none-some link found))

no-jumps : (told : Told) (links : List Link) → links ≡ [] → AreJumpsOver told links
no-jumps told links bare = subst (AreJumpsOver told) (sym bare) (λ index link found. absurd (none-some link found))

module _ (types : List TypeTree) (told : Told) (chains : List Chain) (kept : List (ℕ × Standing)) (maps : AreMaps types told chains kept) where
  pub none-entered : IsEntered types told chains chains kept
  none-entered = record { grow = none-grows chains; maps = maps }

  module _ (chain : Chain) (bare : chain.links ≡ []) where
    pub fresh-entered : AreKnownEntries types chain.entries → IsEntered types told chains (chains ++ chain ∷ []) kept
    fresh-entered known =
        record {
          grow = grow-push chains chain;
          maps =
              maps-grow types told chains (chains ++ chain ∷ []) kept maps (grow-push chains chain) (each-push (λ (one : Chain). AreKnownEntries types one.entries) chains chain maps.known known)
              (each-push (λ (one : Chain). AreToldLinks told one.links) chains chain maps.links (no-links told chain.links bare))
              (each-push (λ (one : Chain). AreJumpsOver told one.links) chains chain maps.jumps (no-jumps told chain.links bare));
        }

    pub fresh-named : (members : List Member)
        → ((asked : NameId) → lookup (is_name asked) (names_seen types (all_names told chain)) ≡ lookup (is_name asked) (names_of_members told (names_kept types told chains kept) 0 (map (member_declared types) members)))
        → AreNamed types told chains (chains ++ chain ∷ []) kept members (record { chain = length chains; level = 0; count = length chain.entries })
    fresh-named members named =
        let standing : Standing = record { chain = length chains; level = 0; count = length chain.entries } in
        let at = get-last chains chain in
        record {
          stands = (chain, at, omega arith, omega arith);
          named = λ asked.
              ap (λ names. lookup (is_name asked) (names_seen types names)) (outermost-names told (chains ++ chain ∷ []) standing chain at (sym (ap length bare)) refl) ∙ named asked;
        }

-- what follows from both results
pub result-either : {T E P Q R : Type 0} (result : Result T E) → OnOk result P → OnErr result Q → (P → R) → (Q → R) → R
result-either (Ok value) ok err first second = first ok
result-either (Err error) ok err first second = second err

pub IfOk-with : {T E P : Type 0} (Q : T → Type 0) (value : T) (result : Result T E) → IfOk result (λ one. one ≡ value) → OnOk result P → (P → Q value) → IfOk result Q
IfOk-with Q value (Ok one) is holds next = subst Q (sym is) (next holds)
IfOk-with Q value (Err error) is holds next = tt

-- A chain that goes on

module _ {X : Type 0} where
  pub get-set : (xs : List X) (index : ℕ) (x : X) → index < length xs → slice_get (slice_set xs index x) index ≡ Some x
  get-set [] index x within = absurd (omega (arith, within))
  get-set (y ∷ xs) zero x within = refl
  get-set (y ∷ xs) (suc index) x within = get-set xs index x (omega (arith, within))

  -- each element of the new list is the one that was set, or an old one
  pub each-set : (P : X → Type 0) (xs : List X) (index : ℕ) (x : X) → Each P xs → P x → Each P (slice_set xs index x)
  each-set P [] index x each is at y found = absurd (none-some y found)
  each-set P (z ∷ xs) zero x each is zero y found = subst P (same_Some _ _ found) is
  each-set P (z ∷ xs) zero x each is (suc at) y found = each (suc at) y found
  each-set P (z ∷ xs) (suc index) x each is zero y found = each zero y found
  each-set P (z ∷ xs) (suc index) x each is (suc at) y found = each-set P xs index x (λ i. each (suc i)) is at y found

pub grow-set : (chains : List Chain) (index : ℕ) (chain after : Chain) → slice_get chains index ≡ Some chain → ChainGrows chain after → ChainsGrow chains (slice_set chains index after)
grow-set [] index chain after at grows place one found = absurd (none-some one found)
grow-set (first ∷ chains) zero chain after at grows zero one found =
    let same : chain ≡ one = same_Some _ _ (sym at ∙ found) in
    (after, refl, subst (λ c. ChainGrows c after) same grows)
grow-set (first ∷ chains) zero chain after at grows (suc place) one found = (one, found, grows-not one)
grow-set (first ∷ chains) (suc index) chain after at grows zero one found = (one, found, grows-not one)
grow-set (first ∷ chains) (suc index) chain after at grows (suc place) one found = grow-set chains index chain after at grows place one found

-- members before one, that one, and those behind it
pub names-around : (types : List TypeTree) (told : Told) (names : ℕ → Names NameId) (members : List Member) (first index : ℕ) (member : Member) → slice_get members index ≡ Some member
    → names_of_members told names first (map (member_declared types) members)
    ≡ names_of_members told names first (map (member_declared types) (take index members)) ++ names_of_member told names (first + index) (member_declared types member)
    ++ names_of_members told names (first + index + 1) (map (member_declared types) (drop (index + 1) members))
names-around types told names [] first index member found = absurd (none-some member found)
names-around types told names (one ∷ members) first zero member found =
    let same : one ≡ member = same_Some _ _ found in
    let here : first ≡ first + 0 = omega arith in
    let next : suc first ≡ first + 0 + 1 = omega arith in
    λ i. names_of_member told names (here i) (member_declared types (same i)) ++ names_of_members told names (next i) (map (member_declared types) members)
names-around types told names (one ∷ members) first (suc index) member found =
    let here : suc first + index ≡ first + suc index = omega arith in
    let own = names_of_member told names first (member_declared types one) in
    let before = names_of_members told names (suc first) (map (member_declared types) (take index members)) in
    let heavy = names_of_member told names (first + suc index) (member_declared types member) in
    let behind = names_of_members told names (first + suc index + 1) (map (member_declared types) (drop (suc index + 1) (one ∷ members))) in
    let next : suc (index + 1) ≡ suc index + 1 = omega arith in
    let rest =
    names-around types told names members (suc first) index member found
    ∙ (λ i. before ++ names_of_member told names (here i) (member_declared types member) ++ names_of_members told names (here i + 1) (map (member_declared types) (drop (next i) (one ∷ members))))
    in
    ap (λ later. own ++ later) rest ∙ sym (append_assoc own (before ++ heavy) behind) ∙ ap (λ front. front ++ behind) (sym (append_assoc own before heavy))

module _ (types : List TypeTree) (told : Told) (chains : List Chain) (kept : List (ℕ × Standing)) (maps : AreMaps types told chains kept) (members : List Member) (heavy : Heavy) (member : Member)
    (within : slice_get members heavy.anonymous.place ≡ Some member) (is : IsHeavy types chains kept heavy.anonymous.place member heavy) (chain after : Chain) (at : slice_get chains heavy.standing.chain ≡ Some chain) where
  abbrev all : List Chain
  all = slice_set chains heavy.standing.chain after

  pub heavy-told : IsToldMember told heavy.anonymous
  heavy-told = maps.all_told heavy.anonymous.number heavy.standing is.stands heavy.anonymous.is_union

  pub extended-entered : ChainGrows chain after → AreKnownEntries types after.entries → AreToldLinks told after.links → AreJumpsOver told after.links → IsEntered types told chains all kept
  extended-entered grows known links jumps =
      let grow = grow-set chains heavy.standing.chain chain after at grows in
      record {
        grow = grow;
        maps =
            maps-grow types told chains all kept maps grow (each-set (λ (one : Chain). AreKnownEntries types one.entries) chains heavy.standing.chain after maps.known known)
            (each-set (λ (one : Chain). AreToldLinks told one.links) chains heavy.standing.chain after maps.links links)
            (each-set (λ (one : Chain). AreJumpsOver told one.links) chains heavy.standing.chain after maps.jumps jumps);
      }

  same-chain : is.outermost.0 ≡ chain
  same-chain = same_Some _ _ (sym is.outermost.1 ∙ at)

  inner-level : heavy.standing.level ≡ length chain.links
  inner-level = is.outermost.2 ∙ ap (λ one. length one.links) same-chain

  inner-names : names_standing told chains heavy.standing ≡ all_names told chain
  inner-names = outermost-names told chains heavy.standing chain at inner-level (is.outermost.3 ∙ ap (λ one. length one.entries) same-chain)

  module _ (before behind : List (NameId × FoundMember)) where
    abbrev inner : List (NameId × FoundMember)
    inner = entries_around told heavy.anonymous (all_names told chain)

    abbrev kept_names : ℕ → Names NameId
    kept_names = names_kept types told chains kept

    all-seen : names_seen types before ≡ names_of_members told kept_names 0 (map (member_declared types) (take heavy.anonymous.place members))
        → names_seen types behind ≡ names_of_members told kept_names (heavy.anonymous.place + 1) (map (member_declared types) (drop (heavy.anonymous.place + 1) members))
        → names_seen types (before ++ inner ++ behind) ≡ names_of_members told kept_names 0 (map (member_declared types) members)
    all-seen first last =
        let seen : NameId × FoundMember → NameId × meaning.FoundMember = λ entry. (entry.0, found_seen types entry.1) in
        let place = heavy.anonymous.place in
        let number : place ≡ 0 + place = omega arith in
        let own : names_seen types inner ≡ names_of_member told kept_names place (member_declared types member) =
        ap (λ names. names_seen types (entries_around told heavy.anonymous names)) (sym inner-names)
        ∙ inner-brings types told chains kept place member is.unnamed is.bare heavy.anonymous is.typed is.at is.begins heavy.standing (sym is.stands)
        in
        map-append seen (before ++ inner) behind ∙ ap (λ front. front ++ names_seen types behind) (map-append seen before inner)
        ∙ (λ i. first i ++ own i ++ last i)
        ∙ (λ i. names_of_members told kept_names 0 (map (member_declared types) (take place members)) ++ names_of_member told kept_names (number i) (member_declared types member)
        ++ names_of_members told kept_names (number i + 1) (map (member_declared types) (drop (place + 1) members)))
        ∙ sym (names-around types told kept_names members 0 place member within)

    pub extended-named : (level count : ℕ) → level ≡ length after.links → count ≡ length after.entries
        → names_seen types before ≡ names_of_members told kept_names 0 (map (member_declared types) (take heavy.anonymous.place members))
        → names_seen types behind ≡ names_of_members told kept_names (heavy.anonymous.place + 1) (map (member_declared types) (drop (heavy.anonymous.place + 1) members))
        → ((asked : NameId) → lookup (is_name asked) (all_names told after) ≡ lookup (is_name asked) (before ++ inner ++ behind))
        → AreNamed types told chains all kept members (record { chain = heavy.standing.chain; level = level; count = count })
    extended-named level count levels counts first last named =
        let standing : Standing = record { chain = heavy.standing.chain; level = level; count = count } in
        let stands = get-set chains heavy.standing.chain after (slice_get_within chains heavy.standing.chain chain at) in
        record {
          stands = (after, stands, omega (arith, levels), omega (arith, counts));
          named = λ asked.
              ap (λ names. lookup (is_name asked) (names_seen types names)) (outermost-names told all standing after stands levels counts)
              ∙ lookup-map_values (found_seen types) (is_name asked) (all_names told after) ∙ ap (option_map (found_seen types)) (named asked)
              ∙ sym (lookup-map_values (found_seen types) (is_name asked) (before ++ inner ++ behind)) ∙ ap (lookup (is_name asked)) (all-seen first last);
        }

-- Telling

module _ (types : List TypeTree) (bodies : List (ℕ × AggregateBody)) (layouts : List (ℕ × AggregateLayout)) (aggregate : ℕ) (body : AggregateBody) (made : AggregateLayout) (right : told_kept layouts ≡ told_of_bodies types bodies)
    (untold : lookup (nat_eq aggregate) bodies ≡ None) where
  abbrev told : Told
  told = told_kept layouts

  abbrev later : Told
  later = told_kept (insert_entry nat_eq layouts aggregate made)

  not-told : (number : ℕ) (is_union : Bool) → nat_eq number aggregate ≡ true → told number is_union ≡ None
  not-told number is_union e =
      (λ i. right i number is_union) ∙ told_of_bodies-none types bodies number is_union (ap (λ n. lookup (nat_eq n) bodies) (eqb-true number aggregate e) ∙ untold)

  pub layouts-stay : (number : ℕ) (is_union : Bool) → IsSome (told number is_union) → later number is_union ≡ told number is_union
  layouts-stay number is_union some = by (nat_eq number aggregate) refl
    where
      by : (test : Bool) → nat_eq number aggregate ≡ test → later number is_union ≡ told number is_union
      by true e = absurd (false≢true (sym (ap is_some (not-told number is_union e)) ∙ some))
      by false e = ap (option_map (λ kept. layout_kept kept is_union)) (lookup-other number aggregate made layouts e)

  pub now-told : IsTold later aggregate
  now-told is_union = ap (λ found. is_some (option_map (λ kept. layout_kept kept is_union) found)) (lookup-same aggregate aggregate made layouts refl ((Decides-eqb aggregate aggregate).1 refl))

  module _ (chains more : List Chain) (kept : List (ℕ × Standing)) (standing : Standing) (maps : AreMaps types told chains kept) (grow : ChainsGrow chains more) (now : AreMaps types told more kept) where
    abbrev members : List (DeclaredMember NameId)
    members = map (member_declared types) body.members

    pub alike-push : NameAlike (names_kept types told chains kept) (names_of_bodies types bodies)
        → ((asked : NameId) → lookup (is_name asked) (names_seen types (names_standing told more standing)) ≡ lookup (is_name asked) (names_of_members told (names_kept types told chains kept) 0 members))
        → NameAlike (names_kept types later more (insert_entry nat_eq kept aggregate standing)) (names_of_bodies types (bodies ++ (aggregate, body) ∷ []))
    alike-push alike named number asked =
        by (nat_eq number aggregate) refl ∙ ap (λ all. lookup (is_name asked) (all number)) (sym (names_of_bodies-push types bodies aggregate body))
      where
        told_names : Names NameId
        told_names = names_of_members (told_of_bodies types bodies) (names_of_bodies types bodies) 0 members

        entered : lookup (is_name asked) (names_seen types (names_standing told more standing)) ≡ lookup (is_name asked) told_names
        entered =
            named asked ∙ alike-members (names_kept types told chains kept) (names_of_bodies types bodies) alike told asked 0 members
            ∙ ap (λ t. lookup (is_name asked) (names_of_members t (names_of_bodies types bodies) 0 members)) right

        by : (test : Bool) → nat_eq number aggregate ≡ test → lookup (is_name asked) (names_kept types later more (insert_entry nat_eq kept aggregate standing) number)
            ≡ lookup (is_name asked) (tell_names (told_of_bodies types bodies) (names_of_bodies types bodies) aggregate members number)
        by true e =
            let none = sym (λ i. right i number false) ∙ not-told number false e in
            ap (lookup (is_name asked)) (names-same types told later layouts-stay more kept now aggregate standing number e) ∙ entered
            ∙ sym (ap (λ before. lookup (is_name asked) (names_before before (names_of_bodies types bodies number) told_names)) none)
            ∙ sym (ap (λ test. lookup (is_name asked) (cond test (names_before (told_of_bodies types bodies number false) (names_of_bodies types bodies number) told_names) (names_of_bodies types bodies number))) e)
        by false e =
            ap (lookup (is_name asked)) (names-other types told later layouts-stay more kept now aggregate standing number e ∙ names_kept-grow types told chains more kept maps grow number) ∙ alike number asked
            ∙ sym (ap (λ test. lookup (is_name asked) (cond test (names_before (told_of_bodies types bodies number false) (names_of_bodies types bodies number) told_names) (names_of_bodies types bodies number))) e)
