-- Members that are kept are those of the definition, and a body of them is the one that is declared.
use Rattle.std.proofs.Common.{◌≡◌, ℕ, ◌==◌, Bool, false, ◌||◌, not, is_some, List, [], ◌∷◌, ◌++◌, length, map, Option, Some, None, option_map, refl, sym, ap}
use Rattle.std.specs.List.{flat_map}
use Rattle.meaning_typing.specs.Facts.{Fact}
use Rattle.meaning_typing.specs.MemberDeclarations.{MemberEntry, alignment_among, attributes_apart, declared_body, entry_member, members_by, told_member}
use Rattle.meaning_typing.specs.Units.{UnitNodes, child_at, children_at}
use Rattle.c_types.specs.declared.bodies.Member.{Member}
use Rattle.c_types.specs.Layouts.{member_told}
use Rattle.c_types.specs.Table.{TypeTable, type_at, types_in}
use Rattle.node_facts.specs.Facts.{name_seen}
use Rattle.body_members.specs.Entries.{entry_told}
use Rattle.body_members.specs.Seen.{are_packed, body_seen, member_by, member_seen, members_seen}

module _ (nodes : UnitNodes) (facts : List Fact) (declaration : ℕ) where
  abbrev pub specified : ℕ
  specified = alignment_among nodes (attributes_apart nodes false (children_at nodes (child_at nodes declaration 0)))

  entries_told : (entries : List MemberEntry)
      → flat_map (member_by nodes facts specified) (map (entry_told nodes) entries) ≡ flat_map (λ entry. entry_member nodes facts declaration entry) entries
  entries_told [] = refl
  entries_told (entry ∷ entries) = ap (λ others. entry_member nodes facts declaration entry ++ others) (entries_told entries)

  -- the members of a declaration that has declarators
  pub members_told : (entries : List MemberEntry) → (length (map (entry_told nodes) entries) == 0) ≡ false
      → flat_map (member_by nodes facts specified) (map (entry_told nodes) entries) ≡ members_by nodes facts declaration entries
  members_told [] some = cc
  members_told (entry ∷ entries) some = entries_told (entry ∷ entries)

-- Bodies

some_mapped : {X Y : Type 0} (f : X → Y) (found : Option X) → is_some (option_map f found) ≡ is_some found
some_mapped f None = refl
some_mapped f (Some x) = refl

module _ (table : TypeTable) where
  told_alike : (member : Member) → member_told (types_in table) member ≡ told_member (member_seen table member)
  told_alike member =
      sym
      (ap (λ named. record { of = type_at table member.of; width = member.width; named = named || not (is_some member.width); written = member.align })
      (some_mapped name_seen member.name))

  all_told : (members : List Member) → map (member_told (types_in table)) members ≡ map told_member (members_seen table members)
  all_told [] = refl
  all_told (member ∷ members) = (λ i. told_alike member i ∷ all_told members i)

  all_declared : (members : List Member) → map (λ member. (member_seen table member).declared) members ≡ map (λ member. member.declared) (members_seen table members)
  all_declared [] = refl
  all_declared (member ∷ members) = ap (λ others. (member_seen table member).declared ∷ others) (all_declared members)

  pub body_told : (nodes : UnitNodes) (attributes : List ℕ) (members : List Member) (packed : Bool) (align : ℕ)
      → packed ≡ are_packed nodes attributes → align ≡ alignment_among nodes attributes
      → body_seen table (record { members = members; packed = packed; align = align }) ≡ declared_body nodes attributes (members_seen table members)
  body_told nodes attributes members packed align packed_is align_is =
      (λ i. record { body = record { members = all_told members i; packed = packed_is i; written = align_is i }; members = all_declared members i })
