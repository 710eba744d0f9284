-- The table as its callers see it.
use Rattle.std.proofs.Common.{◌≡◌, ℕ, ◌<◌, ◌≤◌, Bool, true, false, nat_eq, List, [], ◌∷◌, ◌++◌, All, IfSome, Option, Some, None, cond, is_some, option_map, length, if◌then◌else◌, refl, sym, ap, ◌∙◌, subst, arith, append-nil, length-append}
use Rattle.std.proofs.lemmas.Bool.{false≢true, true≢false}
use Rattle.std.proofs.lemmas.List.Elements.{All-weaker}
use Rattle.std.proofs.lemmas.Option.{none-some, same_Some}
use Rattle.std.specs.List.{AllByRecursion}
use Rattle.std.specs.Map.{lookup}
use Rattle.sparse_model.specs.declared.ids.NameId.{NameId}
use Rattle.c_types.specs.declared.bodies.AggregateBody.{AggregateBody}
use Rattle.c_types.specs.declared.bodies.Named.{Named}
use Rattle.c_types.specs.declared.bodies.Named.TheVariants as named
use Rattle.c_types.specs.contracts.bodies.NamedPartialEq.TheImpl as named_keys
use Rattle.c_types.specs.declared.form.Marking.{Marking}
use Rattle.c_types.specs.Rows.{Row, types_of, AreRows, Grows}
use Rattle.c_types.specs.Levels.{AreMarkings}
use Rattle.c_types.specs.declared.layouts.AggregateLayout.{AggregateLayout}
use Rattle.c_types.specs.declared.maps.Standing.{Standing}
use Rattle.c_types.specs.Chains.{Chain}
use Rattle.c_types.specs.Layouts.{AreNarrow, told_in, told_kept, told_of_bodies}
use Rattle.c_types.specs.Kept.{IsKept}
use Rattle.c_types.specs.Maps.{AreMaps, IsEntered, names_kept}
use Rattle.c_types.specs.Members.{NameAlike, is_name, names_in, names_of_bodies}
use Rattle.c_types.proofs.LayoutLemmas.{told_of_bodies-later}
use Rattle.c_types.proofs.MapLemmas.{maps-more, names_kept-grow, names_kept-later}
use Rattle.c_types.proofs.NameLemmas.{names_of_bodies-later}
use Rattle.c_types.specs.Table.{TypeTable, Extends, IsBodyOver, is_named, plain_integers, with_name}
use Rattle.c_types.proofs.Integers.{integers-stand}
use Rattle.c_types.proofs.RowLemmas.{types_of-Grows, stands-Grows}

-- Bodies

body-later : (types others : ℕ) (body : AggregateBody) → types ≤ others → All (λ member. member.of.0 < types) body.members → All (λ member. member.of.0 < others) body.members
body-later types others body more all = All-weaker (λ member. member.of.0 < types) (λ member. member.of.0 < others) (λ member below. omega (arith, below, more)) body.members all

bodies-later : (old new : List Row) → length (types_of old) ≤ length (types_of new) → (bodies : List (ℕ × AggregateBody)) → AllByRecursion (λ entry. IsBodyOver (types_of old) entry.1) bodies
    → AllByRecursion (λ entry. IsBodyOver (types_of new) entry.1) bodies
bodies-later old new more [] all = tt
bodies-later old new more (entry ∷ bodies) all = (body-later (length (types_of old)) (length (types_of new)) entry.1 more all.0, bodies-later old new more bodies all.1)

bodies-push : (rows : List Row) (aggregate : ℕ) (body : AggregateBody) → IsBodyOver (types_of rows) body → (bodies : List (ℕ × AggregateBody)) → AllByRecursion (λ entry. IsBodyOver (types_of rows) entry.1) bodies
    → AllByRecursion (λ entry. IsBodyOver (types_of rows) entry.1) (bodies ++ (aggregate, body) ∷ [])
bodies-push rows aggregate body over [] all = (over, tt)
bodies-push rows aggregate body over (entry ∷ bodies) all = (all.0, bodies-push rows aggregate body over bodies all.1)

pub body-found : (rows : List Row) (aggregate : ℕ) (body : AggregateBody) (bodies : List (ℕ × AggregateBody)) → AllByRecursion (λ entry. IsBodyOver (types_of rows) entry.1) bodies
    → lookup (nat_eq aggregate) bodies ≡ Some body → IsBodyOver (types_of rows) body
body-found rows aggregate body [] all found = absurd (none-some body found)
body-found rows aggregate body (entry ∷ bodies) all found = by (nat_eq aggregate entry.0) refl (body-found rows aggregate body bodies all.1)
  where
    by : (test : Bool) → nat_eq aggregate entry.0 ≡ test → (lookup (nat_eq aggregate) bodies ≡ Some body → IsBodyOver (types_of rows) body) → IsBodyOver (types_of rows) body
    by true e later = subst (IsBodyOver (types_of rows)) (same_Some _ _ (sym (ap (λ test. if test then Some entry.1 else lookup (nat_eq aggregate) bodies) e) ∙ found)) all.0
    by false e later = later (sym (ap (λ test. if test then Some entry.1 else lookup (nat_eq aggregate) bodies) e) ∙ found)

-- What is kept

pub kept-Grows : (old new : List Row) (markings others : List (Marking × ℕ)) (bodies : List (ℕ × AggregateBody)) (layouts : List (ℕ × AggregateLayout)) (chains : List Chain) (members : List (ℕ × Standing))
    → IsKept old markings bodies layouts chains members → Grows old new → AreRows new → AreMarkings new others → IsKept new others bodies layouts chains members
kept-Grows old new markings others bodies layouts chains members kept grows are marked =
    let more = types_of-Grows old new grows in
    let longer : length (types_of old) ≤ length (types_of new) = omega (arith, ap length more.1, length-append (types_of old) more.0) in
    record {
      rows_right = are;
      markings_right = marked;
      bodies_known = bodies-later old new longer bodies kept.bodies_known;
      layouts_right = kept.layouts_right ∙ sym (ap (λ types. told_of_bodies types bodies) more.1 ∙ told_of_bodies-later (types_of old) more.0 bodies kept.bodies_known);
      layouts_narrow = kept.layouts_narrow;
      members_kept = maps-more (types_of old) (types_of new) (told_kept layouts) chains members longer kept.members_kept;
      members_right =
          subst (λ types. NameAlike (names_kept types (told_kept layouts) chains members) (names_of_bodies types bodies)) (sym more.1)
          (λ number asked.
          ap (lookup (is_name asked)) (names_kept-later (types_of old) more.0 (told_kept layouts) chains members kept.members_kept.known number) ∙ kept.members_right number asked
          ∙ ap (λ names. lookup (is_name asked) (names number)) (sym (names_of_bodies-later (types_of old) more.0 bodies kept.bodies_known)));
      integers_stand = λ kind. stands-Grows old new grows _ _ (kept.integers_stand kind);
    }

pub kept-body : (rows : List Row) (markings : List (Marking × ℕ)) (bodies : List (ℕ × AggregateBody)) (layouts others : List (ℕ × AggregateLayout)) (chains : List Chain) (members : List (ℕ × Standing)) (later : List Chain) (more : List (ℕ × Standing)) (aggregate : ℕ) (body : AggregateBody)
    → IsKept rows markings bodies layouts chains members → IsBodyOver (types_of rows) body → told_kept others ≡ told_of_bodies (types_of rows) (bodies ++ (aggregate, body) ∷ []) → AreNarrow (told_kept others)
    → AreMaps (types_of rows) (told_kept others) later more → NameAlike (names_kept (types_of rows) (told_kept others) later more) (names_of_bodies (types_of rows) (bodies ++ (aggregate, body) ∷ []))
    → IsKept rows markings (bodies ++ (aggregate, body) ∷ []) others later more
kept-body rows markings bodies layouts others chains members later more aggregate body kept over right narrow maps alike =
    record {
      rows_right = kept.rows_right;
      markings_right = kept.markings_right;
      bodies_known = bodies-push rows aggregate body over bodies kept.bodies_known;
      layouts_right = right;
      layouts_narrow = narrow;
      members_kept = maps;
      members_right = alike;
      integers_stand = kept.integers_stand;
    }

-- chains grew
pub kept-grown : (rows : List Row) (markings : List (Marking × ℕ)) (bodies : List (ℕ × AggregateBody)) (layouts : List (ℕ × AggregateLayout)) (chains later : List Chain) (members : List (ℕ × Standing))
    → IsKept rows markings bodies layouts chains members → IsEntered (types_of rows) (told_kept layouts) chains later members → IsKept rows markings bodies layouts later members
kept-grown rows markings bodies layouts chains later members kept right =
    record {
      rows_right = kept.rows_right;
      markings_right = kept.markings_right;
      bodies_known = kept.bodies_known;
      layouts_right = kept.layouts_right;
      layouts_narrow = kept.layouts_narrow;
      members_kept = right.maps;
      members_right = λ number asked.
          ap (lookup (is_name asked)) (names_kept-grow (types_of rows) (told_kept layouts) chains later members kept.members_kept right.grow number) ∙ kept.members_right number asked;
      integers_stand = kept.integers_stand;
    }

pub kept-integers : (rows : List Row) → AreRows rows → types_of rows ≡ plain_integers → IsKept rows [] [] [] [] []
kept-integers rows are types =
    record {
      rows_right = are;
      markings_right = tt;
      bodies_known = tt;
      layouts_right = refl;
      layouts_narrow = λ number is_union. tt;
      members_kept =
          record {
            known = λ place chain at. absurd (none-some chain at);
            links = λ place chain at. absurd (none-some chain at);
            jumps = λ place chain at. absurd (none-some chain at);
            standings = λ number standing found. absurd (none-some standing found);
            all_told = λ number standing found. absurd (none-some standing found);
          };
      members_right = λ number name. refl;
      integers_stand = integers-stand (types_of rows) types;
    }

-- What is seen

module _ (old new : List Row) (bodies : List (ℕ × AggregateBody)) (names : List (Named × NameId)) (table : TypeTable) (is : record { rows = old; bodies = bodies; names = names } ≡ table) where
  abbrev grown : TypeTable
  grown = record { rows = new; bodies = bodies; names = names }

  pub table-extends : Grows old new → Extends table grown
  table-extends grows =
      subst (λ t. Extends t grown) is (record { types = types_of-Grows old new grows; bodies = ([], sym (append-nil bodies)); names = ([], sym (append-nil names)) })

  pub table-told : Grows old new → AllByRecursion (λ entry. IsBodyOver (types_of old) entry.1) bodies → told_in grown ≡ told_in table
  table-told grows known =
      let more = types_of-Grows old new grows in
      ap (λ types. told_of_bodies types bodies) more.1 ∙ told_of_bodies-later (types_of old) more.0 bodies known ∙ ap told_in is

  pub table-names : Grows old new → AllByRecursion (λ entry. IsBodyOver (types_of old) entry.1) bodies → names_in grown ≡ names_in table
  table-names grows known =
      let more = types_of-Grows old new grows in
      ap (λ types. names_of_bodies types bodies) more.1 ∙ names_of_bodies-later (types_of old) more.0 bodies known ∙ ap names_in is

-- Names

same_named : (what other : Named) → named_keys.eq-value.it what other ≡ is_named what other
same_named (named.Tag a) (named.Tag b) = refl
same_named (named.Tag a) (named.Identity b) = refl
same_named (named.Identity a) (named.Tag b) = refl
same_named (named.Identity a) (named.Identity b) = refl

-- how the map looks a name up
pub names-lookup : (what : Named) (names : List (Named × NameId)) → lookup (named_keys.eq-value.it what) names ≡ lookup (is_named what) names
names-lookup what [] = refl
names-lookup what (entry ∷ names) = λ i. cond (same_named what entry.0 i) (Some entry.1) (names-lookup what names i)

-- a name that was told stays
pub names-stay : (what : Named) (name : NameId) (names : List (Named × NameId)) → is_some (lookup (is_named what) names) ≡ true → with_name names what name ≡ names
names-stay what name [] found = absurd (false≢true found)
names-stay what name (entry ∷ names) found = by (is_named what entry.0) refl (names-stay what name names)
  where
    by : (test : Bool) → is_named what entry.0 ≡ test → (is_some (lookup (is_named what) names) ≡ true → with_name names what name ≡ names) → with_name (entry ∷ names) what name ≡ entry ∷ names
    by true e later = ap (λ test. if test then entry ∷ names else entry ∷ with_name names what name) e
    by false e later =
        ap (λ test. if test then entry ∷ names else entry ∷ with_name names what name) e
        ∙ ap (λ rest. entry ∷ rest) (later (sym (ap (λ test. is_some (cond test (Some entry.1) (lookup (is_named what) names))) e) ∙ found))

-- a new one joins at the end
pub names-join : (what : Named) (name : NameId) (names : List (Named × NameId)) → is_some (lookup (is_named what) names) ≡ false → with_name names what name ≡ names ++ (what, name) ∷ []
names-join what name [] none = refl
names-join what name (entry ∷ names) none = by (is_named what entry.0) refl (names-join what name names)
  where
    by : (test : Bool) → is_named what entry.0 ≡ test → (is_some (lookup (is_named what) names) ≡ false → with_name names what name ≡ names ++ (what, name) ∷ [])
        → with_name (entry ∷ names) what name ≡ entry ∷ names ++ (what, name) ∷ []
    by true e later = absurd (true≢false (sym (ap (λ test. is_some (cond test (Some entry.1) (lookup (is_named what) names))) e) ∙ none))
    by false e later =
        ap (λ test. if test then entry ∷ names else entry ∷ with_name names what name) e
        ∙ ap (λ rest. entry ∷ rest) (later (sym (ap (λ test. is_some (cond test (Some entry.1) (lookup (is_named what) names))) e) ∙ none))

-- what holds of each value that is shown holds of the one that is found
pub IfSome_shown : {R X : Type 0} (shown : R → X) (P : X → Type 0) (found : Option R) (value : Option X) → option_map shown found ≡ value → ((x : X) → value ≡ Some x → P x) → IfSome found (λ r. P (shown r))
IfSome_shown shown P None value e h = tt
IfSome_shown shown P (Some r) value e h = h (shown r) (sym e)
