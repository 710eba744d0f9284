-- What is known of the aggregates of a table is its layouts, and what its names name.
use Rattle.std.proofs.Common.{◌≡◌, ℕ, suc, ◌<◌, ◌==◌, All, length, nat_eq, Bool, true, false, ◌&&◌, cond, List, [], ◌∷◌, ◌++◌, map, option_map, Option, Some, None, Result, if◌then◌else◌, refl, sym, ap, ◌∙◌, arith}
use Rattle.std.proofs.lemmas.Bool.Decides.{nat_tests}
use Rattle.std.proofs.lemmas.List.{map-append}
use Rattle.std.proofs.lemmas.List.Elements.{All-head, All-tail}
use Rattle.std.specs.Map.{lookup}
use Rattle.std.specs.Str.{bytes_eq}
use Rattle.sparse_model.specs.declared.ids.NameId.{NameId}
use Rattle.meaning_types.specs.Types.{TypeTree, Typed, VoidTree, IntegerTree, RestrictedTree, PointerTree, ArrayTree, FunctionTree, AggregateTree}
use Rattle.meaning_layout.specs.Layouts.{Layout, LayoutFault}
use Rattle.meaning_layout.specs.Members.{DeclaredBody, DeclaredMember, FoundMember, Names, anonymous_member, anonymous_names, named_member, names_before, names_by, names_in_order, names_of_member, names_of_members, no_names, tell_names, unnamed_names}
use Rattle.meaning_layout.specs.Sizes.{Told}
use Rattle.meaning_layout.specs.Telling.{nothing_told, or_incomplete, tell, told_in_order}
use Rattle.meaning_typing.specs.Aggregates.{aggregates_of}
use Rattle.meaning_typing.specs.Members.{selection_of}
use Rattle.meaning_typing.specs.Members as meaning
use Rattle.meaning_typing.specs.Operators.{has_no_size}
use Rattle.c_types.specs.declared.bodies.AggregateBody.{AggregateBody}
use Rattle.c_types.specs.declared.bodies.Member.{Member}
use Rattle.c_types.specs.Layouts.{body_told, member_told, told_in}
use Rattle.c_types.specs.Members.{body_declared, is_name, member_declared, member_in, names_in}
use Rattle.c_types.specs.Table.{TypeTable, IsBodyOver, types_in}
use Rattle.node_facts.specs.Facts.{name_seen}
use Rattle.node_facts.specs.Growing.{TypesJoin}
use Rattle.node_facts.proofs.GrowthLemmas.{type_later}
use Rattle.member_rows.specs.Laws.{AggregatesStay}
use Rattle.member_rows.specs.Aggregates.{aggregates_in, body_spelled, member_spelled, selection_in}

-- Layouts

bodies_same : (types : List TypeTree) (bodies : List (ℕ × AggregateBody))
    → map (λ entry. (entry.0, entry.1.body)) (map body_spelled (map (body_declared types) bodies)) ≡ map (body_told types) bodies
bodies_same types [] = refl
bodies_same types (entry ∷ bodies) = ap (λ others. body_told types entry ∷ others) (bodies_same types bodies)

pub told_is : (table : TypeTable) → (aggregates_in table).told ≡ told_in table
told_is table = ap (told_in_order nothing_told) (bodies_same (types_in table) table.bodies)

-- Names

abbrev spelled : NameId × FoundMember → List ℕ × FoundMember
spelled entry = (name_seen entry.0, entry.1)

-- the same names, each as it is spelled
abbrev Alike : (ℕ → Names NameId) → (ℕ → Names (List ℕ)) → Type 0
Alike names others = (number : ℕ) → others number ≡ map spelled (names number)

map-map : {X Y Z : Type 0} (g : Y → Z) (f : X → Y) (xs : List X) → map g (map f xs) ≡ map (λ x. g (f x)) xs
map-map g f [] = refl
map-map g f (x ∷ xs) = ap (λ rest. g (f x) ∷ rest) (map-map g f xs)

entries_around : (around : FoundMember → FoundMember) (entries : Names NameId)
    → map (λ entry. (entry.0, around entry.1)) (map spelled entries) ≡ map spelled (map (λ entry. (entry.0, around entry.1)) entries)
entries_around around [] = refl
entries_around around (entry ∷ entries) = ap (λ others. (name_seen entry.0, around entry.1) ∷ others) (entries_around around entries)

module _ (told : Told) (names : ℕ → Names NameId) (others : ℕ → Names (List ℕ)) (alike : Alike names others) where
  anonymous_alike : (place : ℕ) (type_ : TypeTree) → anonymous_names told others place type_ ≡ map spelled (anonymous_names told names place type_)
  anonymous_alike place (Typed VoidTree _ _) = refl
  anonymous_alike place (Typed (IntegerTree kind) _ _) = refl
  anonymous_alike place (Typed (RestrictedTree kind identity) _ _) = refl
  anonymous_alike place (Typed (PointerTree target) _ _) = refl
  anonymous_alike place (Typed (ArrayTree element length) _ _) = refl
  anonymous_alike place (Typed (FunctionTree result parameters variadic) _ _) = refl
  anonymous_alike place (Typed (AggregateTree number is_union) qualifiers flags) =
      ap (map (λ entry. (entry.0, anonymous_member place (or_incomplete (told number is_union)) qualifiers flags entry.1))) (alike number)
      ∙ entries_around (anonymous_member place (or_incomplete (told number is_union)) qualifiers flags) (names number)

  unnamed_alike : (place : ℕ) (width : Option ℕ) (type_ : TypeTree) → unnamed_names told others place width type_ ≡ map spelled (unnamed_names told names place width type_)
  unnamed_alike place None type_ = anonymous_alike place type_
  unnamed_alike place (Some width) type_ = refl

  named_alike : (place : ℕ) (name : Option NameId) (member : DeclaredMember NameId)
      → names_by told others place (option_map name_seen name) (member_spelled member) ≡ map spelled (names_by told names place name member)
  named_alike place None member = unnamed_alike place member.width member.of
  named_alike place (Some name) member = refl

  members_alike : (place : ℕ) (members : List (DeclaredMember NameId))
      → names_of_members told others place (map member_spelled members) ≡ map spelled (names_of_members told names place members)
  members_alike place [] = refl
  members_alike place (member ∷ members) =
      (λ i. named_alike place member.name member i ++ members_alike (suc place) members i)
      ∙ sym (map-append spelled (names_of_member told names place member) (names_of_members told names (suc place) members))

  told_alike : (aggregate : ℕ) (members : List (DeclaredMember NameId))
      → Alike (tell_names told names aggregate members) (tell_names told others aggregate (map member_spelled members))
  told_alike aggregate members number = by (number == aggregate) (told number false)
    where
      by : (test : Bool) (before : Option (Result Layout LayoutFault))
          → (if test then names_before before (others number) (names_of_members told others 0 (map member_spelled members)) else others number)
          ≡ map spelled (if test then names_before before (names number) (names_of_members told names 0 members) else names number)
      by true None = members_alike 0 members
      by true (Some made) = alike number
      by false before = alike number

in_order : (bodies : List (ℕ × DeclaredBody NameId)) (told : Told) (names : ℕ → Names NameId) (others : ℕ → Names (List ℕ))
    → Alike names others → Alike (names_in_order told names bodies) (names_in_order told others (map body_spelled bodies))
in_order [] told names others alike = alike
in_order (entry ∷ bodies) told names others alike =
    in_order bodies (tell told entry.0 entry.1.body) (tell_names told names entry.0 entry.1.members)
    (tell_names told others entry.0 (map member_spelled entry.1.members)) (told_alike told names others alike entry.0 entry.1.members)

-- Look-ups

and_true : (test : Bool) → (test && true) ≡ test
and_true true = refl
and_true false = refl

no_numbers : (one other : ℕ) → nat_eq one 0 ≡ true → nat_eq other 0 ≡ true → true ≡ nat_eq one other
no_numbers one other first second = grind (arith, nat_tests)

only_second : (one other : ℕ) → nat_eq one 0 ≡ true → nat_eq other 0 ≡ false → false ≡ nat_eq one other
only_second one other first second = grind (arith, nat_tests)

only_first : (one other : ℕ) → nat_eq one 0 ≡ false → nat_eq other 0 ≡ true → false ≡ nat_eq one other
only_first one other first second = grind (arith, nat_tests)

-- number 0 is no name
numbers_alike : (one other : ℕ) → bytes_eq (if nat_eq one 0 then [] else one ∷ []) (if nat_eq other 0 then [] else other ∷ []) ≡ nat_eq one other
numbers_alike one other = by (nat_eq one 0) (nat_eq other 0) refl refl
  where
    by : (first second : Bool) → nat_eq one 0 ≡ first → nat_eq other 0 ≡ second
        → bytes_eq (if first then [] else one ∷ []) (if second then [] else other ∷ []) ≡ nat_eq one other
    by true true first second = no_numbers one other first second
    by true false first second = only_second one other first second
    by false true first second = only_first one other first second
    by false false first second = and_true (nat_eq one other)

found_alike : (name : NameId) (entries : Names NameId) → lookup (bytes_eq (name_seen name)) (map spelled entries) ≡ lookup (is_name name) entries
found_alike name [] = refl
found_alike name (entry ∷ entries) = (λ i. cond (numbers_alike name.0 entry.0.0 i) (Some entry.1) (found_alike name entries i))

pub named_is : (table : TypeTable) (number : ℕ) (name : NameId)
    → named_member bytes_eq ((aggregates_in table).names number) (name_seen name) ≡ member_in table number name
named_is table number name =
    ap (lookup (bytes_eq (name_seen name)))
    (in_order (map (body_declared (types_in table)) table.bodies) nothing_told no_names no_names (λ number. refl) number)
    ∙ found_alike name (names_in table number)

-- What a name names

pub selection_told : (table : TypeTable) (name : NameId) (type_ : TypeTree) → selection_in table name type_ ≡ selection_of (aggregates_in table) (name_seen name) type_
selection_told table name (Typed VoidTree _ _) = refl
selection_told table name (Typed (IntegerTree kind) _ _) = refl
selection_told table name (Typed (RestrictedTree kind identity) _ _) = refl
selection_told table name (Typed (PointerTree target) _ _) = refl
selection_told table name (Typed (ArrayTree element length) _ _) = refl
selection_told table name (Typed (FunctionTree result parameters variadic) _ _) = refl
selection_told table name (Typed (AggregateTree number is_union) qualifiers flags) =
    sym
    (λ i. if has_no_size (told_is table i) (Typed (AggregateTree number is_union) qualifiers flags) then meaning.NotComplete
    else meaning.Selected qualifiers flags (named_is table number name i))

-- Growth

module _ (old new : TypeTable) (join : TypesJoin old new) where
  declared_later : (members : List Member) → All (λ member. member.of.0 < length (types_in old)) members
      → map (λ member. member_spelled (member_declared (types_in new) member)) members ≡ map (λ member. member_spelled (member_declared (types_in old) member)) members
  declared_later [] known = refl
  declared_later (member ∷ members) known =
      let at = All-head (λ (member : Member). member.of.0 < length (types_in old)) member members known in
      let others = All-tail (λ (member : Member). member.of.0 < length (types_in old)) member members known in
      (λ i. record { name = option_map name_seen member.name; of = type_later old new join member.of at i; width = member.width } ∷ declared_later members others i)

  members_later : (members : List Member) → All (λ member. member.of.0 < length (types_in old)) members
      → map (member_told (types_in new)) members ≡ map (member_told (types_in old)) members
  members_later [] known = refl
  members_later (member ∷ members) known =
      let at = All-head (λ (member : Member). member.of.0 < length (types_in old)) member members known in
      let others = All-tail (λ (member : Member). member.of.0 < length (types_in old)) member members known in
      (λ i. record (member_told (types_in old) member) { of = type_later old new join member.of at i } ∷ members_later members others i)

  bodies_later : (bodies : List (ℕ × AggregateBody)) → All (λ entry. IsBodyOver (types_in old) entry.1) bodies
      → map body_spelled (map (body_declared (types_in new)) bodies) ≡ map body_spelled (map (body_declared (types_in old)) bodies)
  bodies_later [] known = refl
  bodies_later (entry ∷ bodies) known =
      let at = All-head (λ (entry : ℕ × AggregateBody). IsBodyOver (types_in old) entry.1) entry bodies known in
      let others = All-tail (λ (entry : ℕ × AggregateBody). IsBodyOver (types_in old) entry.1) entry bodies known in
      let spelled : map member_spelled (map (member_declared (types_in new)) entry.1.members) ≡ map member_spelled (map (member_declared (types_in old)) entry.1.members) =
      map-map member_spelled (member_declared (types_in new)) entry.1.members
      ∙ declared_later entry.1.members at
      ∙ sym (map-map member_spelled (member_declared (types_in old)) entry.1.members) in
      (λ i. (
        entry.0,
        record {
          body = record { members = members_later entry.1.members at i; packed = entry.1.packed; written = entry.1.align };
          members = spelled i;
        },
      ) ∷ bodies_later bodies others i)

pub aggregates_stay : AggregatesStay
aggregates_stay old new join known =
    ap aggregates_of
    (ap (λ bodies. map body_spelled (map (body_declared (types_in new)) bodies)) join.tells.bodies ∙ bodies_later old new join old.bodies known)
