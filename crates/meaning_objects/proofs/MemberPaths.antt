-- Paths are found where names are: both have the same names in the same order.
use Rattle.std.proofs.Common.{◌≡◌, ℕ, suc, ◌==◌, Bool, true, false, ◌||◌, List, [], ◌∷◌, ◌++◌, map, Option, Some, None, is_some, Result, if◌then◌else◌, refl, sym, ap, ap₂, ◌∙◌}
use Rattle.std.specs.List.{list_any}
use Rattle.std.specs.Map.{lookup}
use Rattle.std.specs.Str.{bytes_eq}
use Rattle.meaning_types.specs.Types.{TypeTree, Typed, AggregateTree}
use Rattle.meaning_layout.specs.Layouts.{Layout, LayoutFault}
use Rattle.meaning_layout.specs.Members.{DeclaredMember, Names, names_before, names_by, names_in_order, names_of_members, no_names, tell_names, anonymous_names, unnamed_names}
use Rattle.meaning_layout.specs.Sizes.{Told}
use Rattle.meaning_layout.specs.Telling.{nothing_told, tell}
use Rattle.meaning_typing.specs.Aggregates.{Bodies}
use Rattle.meaning_objects.specs.MemberPaths.{Paths, no_paths, number_behind, paths_before, paths_by, paths_in_order, paths_of_members, paths_through, paths_unnamed, tell_paths}
use Rattle.meaning_objects.specs.laws.MemberPaths.{PathsAreFound}

abbrev keys : {X : Type 0} → List (List ℕ × X) → List (List ℕ)
keys entries = map (λ entry. entry.0) entries

keys-kept : {X Y : Type 0} (f : X → Y) (entries : List (List ℕ × X)) → keys (map (λ entry. (entry.0, f entry.1)) entries) ≡ keys entries
keys-kept f [] = refl
keys-kept f (entry ∷ entries) = ap (λ names. entry.0 ∷ names) (keys-kept f entries)

keys-append : {X : Type 0} (entries others : List (List ℕ × X)) → keys (entries ++ others) ≡ keys entries ++ keys others
keys-append [] others = refl
keys-append (entry ∷ entries) others = ap (λ names. entry.0 ∷ names) (keys-append entries others)

found-any : {X : Type 0} (test : List ℕ → Bool) (entries : List (List ℕ × X)) → is_some (lookup test entries) ≡ list_any test (keys entries)
found-any test [] = refl
found-any test (entry ∷ entries) = by (test entry.0) (found-any test entries)
  where
    by : (passes : Bool) → is_some (lookup test entries) ≡ list_any test (keys entries)
        → is_some (if passes then Some entry.1 else lookup test entries) ≡ (passes || list_any test (keys entries))
    by true later = refl
    by false later = later

-- Members of one body, where the bodies before it are alike

abbrev AreAlike : (ℕ → Paths) → (ℕ → Names (List ℕ)) → Type 0
AreAlike paths names = (number : ℕ) → keys (paths number) ≡ keys (names number)

module _ (told : Told) (paths : ℕ → Paths) (names : ℕ → Names (List ℕ)) (alike : AreAlike paths names) where
  through-alike : (number place : ℕ) (of : TypeTree) → keys (paths_through paths number of) ≡ keys (anonymous_names told names place of)
  through-alike number place (Typed (AggregateTree aggregate is_union) qualifiers flags) =
      keys-kept (λ path. number ∷ path) (paths aggregate) ∙ alike aggregate ∙ sym (keys-kept _ (names aggregate))
  through-alike number place (Typed base qualifiers flags) = refl

  unnamed-alike : (number place : ℕ) (width : Option ℕ) (of : TypeTree) → keys (paths_unnamed paths number width of) ≡ keys (unnamed_names told names place width of)
  unnamed-alike number place None of = through-alike number place of
  unnamed-alike number place (Some width) of = refl

  member-alike : (number place : ℕ) (name : Option (List ℕ)) (member : DeclaredMember (List ℕ)) → keys (paths_by paths number name member) ≡ keys (names_by told names place name member)
  member-alike number place (Some name) member = refl
  member-alike number place None member = unnamed-alike number place member.width member.of

  members-alike : (number place : ℕ) (members : List (DeclaredMember (List ℕ))) → keys (paths_of_members paths number members) ≡ keys (names_of_members told names place members)
  members-alike number place [] = refl
  members-alike number place (member ∷ members) =
      keys-append (paths_by paths number member.name member) (paths_of_members paths (number_behind number member) members)
      ∙ ap₂ (λ one others. one ++ others) (member-alike number place member.name member) (members-alike (number_behind number member) (suc place) members)
      ∙ sym (keys-append (names_by told names place member.name member) (names_of_members told names (suc place) members))

  tell-alike : (aggregate : ℕ) (members : List (DeclaredMember (List ℕ))) → AreAlike (tell_paths told paths aggregate members) (tell_names told names aggregate members)
  tell-alike aggregate members number = by (number == aggregate) (told number false)
    where
      by : (is_this : Bool) (made : Option (Result Layout LayoutFault))
          → keys (if is_this then paths_before made (paths number) (paths_of_members paths 0 members) else paths number)
          ≡ keys (if is_this then names_before made (names number) (names_of_members told names 0 members) else names number)
      by false made = alike number
      by true None = members-alike 0 0 members
      by true (Some layout) = alike number

-- Bodies in order

in_order-alike : (bodies : Bodies) (told : Told) (paths : ℕ → Paths) (names : ℕ → Names (List ℕ)) → AreAlike paths names
    → AreAlike (paths_in_order told paths bodies) (names_in_order told names bodies)
in_order-alike [] told paths names alike = alike
in_order-alike (entry ∷ bodies) told paths names alike =
    in_order-alike bodies (tell told entry.0 entry.1.body) (tell_paths told paths entry.0 entry.1.members) (tell_names told names entry.0 entry.1.members)
    (tell-alike told paths names alike entry.0 entry.1.members)

pub paths_are_found : PathsAreFound
paths_are_found bodies number name =
    found-any (bytes_eq name) (paths_in_order nothing_told no_paths bodies number)
    ∙ ap (list_any (bytes_eq name)) (in_order-alike bodies nothing_told no_paths no_names (λ other. refl) number)
    ∙ sym (found-any (bytes_eq name) (names_in_order nothing_told no_names bodies number))
