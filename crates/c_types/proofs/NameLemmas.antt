-- Names that are entered one after the other, and what they name.
use Rattle.std.proofs.Common.{◌≡◌, ℕ, suc, ◌<◌, Bool, true, false, cond, List, [], ◌∷◌, ◌++◌, All, Option, Some, None, is_some, length, map, option_map, refl, sym, ap, ◌∙◌, subst}
use Rattle.std.proofs.lemmas.Bool.{false≢true}
use Rattle.std.proofs.lemmas.List.{map-append}
use Rattle.std.proofs.lemmas.List.Elements.{All-head, All-tail}
use Rattle.std.proofs.lemmas.Map.Made.{lookup-map_values}
use Rattle.std.proofs.lemmas.Option.{none-some, same_Some}
use Rattle.std.specs.List.{AllByRecursion}
use Rattle.std.specs.Map.{lookup}
use Rattle.sparse_model.specs.declared.ids.NameId.{NameId}
use Rattle.sparse_model.specs.declared.space.Space.{Space}
use Rattle.sparse_model.specs.declared.space.Space.TheVariants as spaces
use Rattle.meaning_types.specs.Types.{TypeTree, Typed, VoidTree, IntegerTree, RestrictedTree, PointerTree, ArrayTree, FunctionTree, AggregateTree}
use Rattle.meaning_types.specs.Marks.{later_space}
use Rattle.std.specs.Prelude.{OnOk, Result, Ok, Err}
use Rattle.meaning_layout.specs.Members.{DeclaredMember, Names, anonymous_member, anonymous_names, bits_behind, first_bit_in, names_by, names_in_order, names_of_member, names_of_members, no_names, tell_names, unnamed_names}
use Rattle.meaning_layout.specs.Members as meaning
use Rattle.meaning_layout.specs.Sizes.{Told}
use Rattle.meaning_layout.specs.Telling.{nothing_told, or_incomplete, told_in_order}
use Rattle.meaning_layout.proofs.NameLemmas.{body_in_entry, names_in_order-push}
use Rattle.c_types.specs.declared.bodies.AggregateBody.{AggregateBody}
use Rattle.c_types.specs.declared.bodies.Member.{Member}
use Rattle.c_types.specs.declared.members.Anonymous.{Anonymous}
use Rattle.c_types.specs.declared.members.FoundMember.{FoundMember}
use Rattle.c_types.specs.Chains.{or_later}
use Rattle.c_types.specs.Layouts.{body_seen, body_told, told_of_bodies}
use Rattle.c_types.specs.Members.{AreKnownNames, NameAlike, body_declared, entries_around, found_around, found_seen, inner_space, is_name, member_declared, names_of_bodies, names_seen}
use Rattle.c_types.specs.Table.{IsBodyOver, space_of}
use Rattle.c_types.proofs.Forms.{numbered-kept}
use Rattle.c_types.proofs.LayoutLemmas.{members-later}
use Rattle.c_types.proofs.PlaceLemmas.{bits-begin}

-- Lists of names

module _ {X : Type 0} where
  pub or_none : (found : Option X) → or_later found None ≡ found
  or_none None = refl
  or_none (Some x) = refl

  pub lookup-append : {K : Type 0} (test : K → Bool) (xs ys : List (K × X)) → lookup test (xs ++ ys) ≡ or_later (lookup test xs) (lookup test ys)
  lookup-append test [] ys = refl
  lookup-append test (x ∷ xs) ys = by (test x.0) (lookup-append test xs ys)
    where
      by : (b : Bool) → lookup test (xs ++ ys) ≡ or_later (lookup test xs) (lookup test ys) → cond b (Some x.1) (lookup test (xs ++ ys)) ≡ or_later (cond b (Some x.1) (lookup test xs)) (lookup test ys)
      by true rest = refl
      by false rest = rest

-- How they are seen

module _ (types : List TypeTree) where
  -- those of an anonymous member
  module _ (told : Told) (anonymous : Anonymous) where
    space-seen : (inner : Space) → space_of (inner_space anonymous.space inner) ≡ later_space (space_of anonymous.space) (space_of inner)
    space-seen spaces.None = refl
    space-seen (spaces.Number number) = refl
    space-seen (spaces.Named name) = refl

    abbrev pub around : meaning.FoundMember → meaning.FoundMember
    around =
        anonymous_member anonymous.place (or_incomplete (told anonymous.number anonymous.is_union)) (record { is_const = anonymous.is_const; is_volatile = anonymous.is_volatile })
        (record { noderef = anonymous.noderef; space = space_of anonymous.space })

    found-around : anonymous.bits ≡ Some 0 → (found : FoundMember) → found_seen types (found_around told anonymous found) ≡ around (found_seen types found)
    found-around begins found =
        let first = first_bit_in found.place (or_incomplete (told anonymous.number anonymous.is_union)) in
        let bits = ap (λ own. bits_behind own (bits_behind first found.bits)) begins ∙ bits-begin first found.bits in
        λ i. record (around (found_seen types found)) {
          bits = bits i;
          flags = record { noderef = (found_seen types (found_around told anonymous found)).flags.noderef; space = space-seen found.space i };
        }

    pub seen-around : anonymous.bits ≡ Some 0 → (es : List (NameId × FoundMember)) → names_seen types (entries_around told anonymous es) ≡ map (λ entry. (entry.0, around entry.1)) (names_seen types es)
    seen-around begins [] = refl
    seen-around begins (entry ∷ es) = λ i. (entry.0, found-around begins entry.1 i) ∷ seen-around begins es i

-- Their types

module _ (types : List TypeTree) where
  pub known-append : (es xs : List (NameId × FoundMember)) → AreKnownNames types es → AreKnownNames types xs → AreKnownNames types (es ++ xs)
  known-append [] xs known more = more
  known-append (entry ∷ es) xs known more = (known.0, known-append es xs known.1 more)

  pub known-around : (told : Told) (anonymous : Anonymous) (es : List (NameId × FoundMember)) → AreKnownNames types es → AreKnownNames types (entries_around told anonymous es)
  known-around told anonymous [] known = tt
  known-around told anonymous (entry ∷ es) known = (known.0, known-around told anonymous es known.1)

-- Maps that name alike

module _ (names others : ℕ → Names NameId) (alike : NameAlike names others) (told : Told) (asked : NameId) where
  alike-anonymous : (place : ℕ) (type_ : TypeTree) → lookup (is_name asked) (anonymous_names told names place type_) ≡ lookup (is_name asked) (anonymous_names told others place type_)
  alike-anonymous place (Typed (AggregateTree number is_union) qualifiers flags) =
      let around = anonymous_member place (or_incomplete (told number is_union)) qualifiers flags in
      lookup-map_values around (is_name asked) (names number) ∙ ap (option_map around) (alike number asked) ∙ sym (lookup-map_values around (is_name asked) (others number))
  alike-anonymous place (Typed VoidTree qualifiers flags) = refl
  alike-anonymous place (Typed (IntegerTree kind) qualifiers flags) = refl
  alike-anonymous place (Typed (RestrictedTree kind identity) qualifiers flags) = refl
  alike-anonymous place (Typed (PointerTree target) qualifiers flags) = refl
  alike-anonymous place (Typed (ArrayTree element count) qualifiers flags) = refl
  alike-anonymous place (Typed (FunctionTree result parameters variadic) qualifiers flags) = refl

  alike-unnamed : (place : ℕ) (width : Option ℕ) (type_ : TypeTree) → lookup (is_name asked) (unnamed_names told names place width type_) ≡ lookup (is_name asked) (unnamed_names told others place width type_)
  alike-unnamed place None type_ = alike-anonymous place type_
  alike-unnamed place (Some width) type_ = refl

  alike-by : (place : ℕ) (name : Option NameId) (member : DeclaredMember NameId) → lookup (is_name asked) (names_by told names place name member) ≡ lookup (is_name asked) (names_by told others place name member)
  alike-by place (Some name) member = refl
  alike-by place None member = alike-unnamed place member.width member.of

  pub alike-members : (place : ℕ) (members : List (DeclaredMember NameId)) → lookup (is_name asked) (names_of_members told names place members) ≡ lookup (is_name asked) (names_of_members told others place members)
  alike-members place [] = refl
  alike-members place (member ∷ members) =
      lookup-append (is_name asked) (names_of_member told names place member) (names_of_members told names (suc place) members)
      ∙ (λ i. or_later (alike-by place member.name member i) (alike-members (suc place) members i))
      ∙ sym (lookup-append (is_name asked) (names_of_member told others place member) (names_of_members told others (suc place) members))

-- One more aggregate

bodies-told : (types : List TypeTree) (bodies : List (ℕ × AggregateBody)) → map body_in_entry (map (body_declared types) bodies) ≡ map (body_told types) bodies
bodies-told types [] = refl
bodies-told types (entry ∷ bodies) = ap (λ rest. body_told types entry ∷ rest) (bodies-told types bodies)

pub names_of_bodies-push : (types : List TypeTree) (bodies : List (ℕ × AggregateBody)) (aggregate : ℕ) (body : AggregateBody)
    → names_of_bodies types (bodies ++ (aggregate, body) ∷ []) ≡ tell_names (told_of_bodies types bodies) (names_of_bodies types bodies) aggregate (map (member_declared types) body.members)
names_of_bodies-push types bodies aggregate body =
    ap (names_in_order nothing_told no_names) (map-append (body_declared types) bodies ((aggregate, body) ∷ []))
    ∙ names_in_order-push nothing_told no_names (map (body_declared types) bodies) (body_declared types (aggregate, body))
    ∙ ap (λ all. tell_names (told_in_order nothing_told all) (names_of_bodies types bodies) aggregate (map (member_declared types) body.members)) (bodies-told types bodies)

-- More types

module _ (types more : List TypeTree) where
  declared-later : (members : List Member) → All (λ member. member.of.0 < length types) members → map (member_declared (types ++ more)) members ≡ map (member_declared types) members
  declared-later [] all = refl
  declared-later (member ∷ members) all =
      let same = numbered-kept types more member.of.0 (All-head (λ m. m.of.0 < length types) member members all) in
      let rest = declared-later members (All-tail (λ m. m.of.0 < length types) member members all) in
      λ i. record (member_declared types member) { of = same i } ∷ rest i

  pub seen-later : (es : List (NameId × FoundMember)) → AreKnownNames types es → names_seen (types ++ more) es ≡ names_seen types es
  seen-later [] known = refl
  seen-later (entry ∷ es) known =
      let same = numbered-kept types more entry.1.of.0 known.0 in
      let rest = seen-later es known.1 in
      λ i. (entry.0, record (found_seen types entry.1) { of = same i }) ∷ rest i

  bodies_declared-later : (bodies : List (ℕ × AggregateBody)) → AllByRecursion (λ entry. IsBodyOver types entry.1) bodies → map (body_declared (types ++ more)) bodies ≡ map (body_declared types) bodies
  bodies_declared-later [] all = refl
  bodies_declared-later (entry ∷ bodies) all =
      let told = members-later types more entry.1.members all.0 in
      let declared = declared-later entry.1.members all.0 in
      let rest = bodies_declared-later bodies all.1 in
      λ i. (entry.0, record { body = record (body_seen types entry.1) { members = told i }; members = declared i }) ∷ rest i

  pub names_of_bodies-later : (bodies : List (ℕ × AggregateBody)) → AllByRecursion (λ entry. IsBodyOver types entry.1) bodies → names_of_bodies (types ++ more) bodies ≡ names_of_bodies types bodies
  names_of_bodies-later bodies all = ap (names_in_order nothing_told no_names) (bodies_declared-later bodies all)

-- what is found has a type
pub found-known : (types : List TypeTree) (asked : NameId) (found : FoundMember) (es : List (NameId × FoundMember)) → AreKnownNames types es → lookup (is_name asked) es ≡ Some found → found.of.0 < length types
found-known types asked found [] known is = absurd (none-some found is)
found-known types asked found (entry ∷ es) known is = by (is_name asked entry.0) refl (found-known types asked found es known.1)
  where
    by : (test : Bool) → is_name asked entry.0 ≡ test → (lookup (is_name asked) es ≡ Some found → found.of.0 < length types) → found.of.0 < length types
    by true e later = subst (λ (f : FoundMember). f.of.0 < length types) (same_Some _ _ (sym (ap (λ test. cond test (Some entry.1) (lookup (is_name asked) es)) e) ∙ is)) known.0
    by false e later = later (sym (ap (λ test. cond test (Some entry.1) (lookup (is_name asked) es)) e) ∙ is)

-- no width is none
pub bare-width : (width : Option ℕ) → is_some width ≡ false → width ≡ None
bare-width None is = refl
bare-width (Some bits) is = absurd (false≢true (sym is))

-- what follows from an Ok holds of it
pub OnOk-then : {T E P Q : Type 0} (result : Result T E) → OnOk result P → (P → Q) → OnOk result Q
OnOk-then (Ok value) is next = next is
OnOk-then (Err error) is next = tt

pub OnOk-is : {T E P : Type 0} (result : Result T E) (value : T) → result ≡ Ok value → OnOk result P → P
OnOk-is {P = P} result value is holds = subst (λ r. OnOk r P) is holds
