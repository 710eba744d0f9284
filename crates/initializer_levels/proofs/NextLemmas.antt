-- Members as the table keeps them, and as the definition sees them.
use Rattle.std.proofs.Common.{◌≡◌, ℕ, zero, suc, Bool, true, false, ◌&&◌, not, is_some, is_none, List, [], ◌∷◌, drop, map, All, Option, Some, None, IfSome, option_map, refl, sym, ap, ◌∙◌, if◌then◌else◌}
use Rattle.std.proofs.lemmas.List.{drop-map}
use Rattle.std.proofs.lemmas.List.Elements.{All-drop, All-head, All-tail}
use Rattle.sparse_model.specs.declared.ids.NameId.{NameId}
use Rattle.meaning_types.specs.Types.{TypeTree, Typed, VoidTree, IntegerTree, RestrictedTree, PointerTree, ArrayTree, FunctionTree, AggregateTree}
use Rattle.meaning_layout.specs.Members.{DeclaredMember}
use Rattle.meaning_initializers.specs.Parts as meaning
use Rattle.meaning_initializers.specs.Parts.{Aggregates, first_member, is_passed_over, member_from, member_part, part_from}
use Rattle.c_types.specs.declared.bodies.Member.{Member}
use Rattle.c_types.specs.Table.{TypeTable, IsTypeId, types_in}
use Rattle.node_facts.specs.Facts.{name_seen}
use Rattle.initializer_levels.specs.declared.parts.Part.{Part}
use Rattle.initializer_levels.specs.Parts.{AreMembersIn, IsKnownPart, first_among, first_of_members, from_parts, is_member_passed_over, member_seen, member_type, members_in, part_seen, parts_in}

module _ (table : TypeTable) where
  named_same : (name : Option NameId) → is_none name ≡ not (is_some (option_map name_seen name))
  named_same None = refl
  named_same (Some name) = refl

  passed_same : (member : Member) → is_passed_over (member_seen (types_in table) member) ≡ is_member_passed_over member
  passed_same member = ap (λ (b : Bool). is_some member.width && b) (sym (named_same member.name))

  first_if : (number : ℕ) (member : Member) (behind : Option Part) (test : Bool)
      → option_map (part_seen table) (if test then behind else Some (record { number = number; of = member_type member }))
      ≡ (if test then option_map (part_seen table) behind else Some (member_part number (member_seen (types_in table) member)))
  first_if number member behind true = refl
  first_if number member behind false = refl

  first_seen : (number : ℕ) (members : List Member)
      → option_map (part_seen table) (first_of_members number members) ≡ first_member number (map (member_seen (types_in table)) members)
  first_seen number [] = refl
  first_seen number (member ∷ members) =
      first_if number member (first_of_members (suc number) members) (is_member_passed_over member)
      ∙ (ap (λ (b : Bool). if b then option_map (part_seen table) (first_of_members (suc number) members) else Some (member_part number (member_seen (types_in table) member)))
      (sym (passed_same member))
      ∙ ap (λ (p : Option meaning.Part). if is_passed_over (member_seen (types_in table) member) then p else Some (member_part number (member_seen (types_in table) member)))
      (first_seen (suc number) members))

  pub among_seen : (members : List Member) (is_union : Bool) (number : ℕ)
      → option_map (part_seen table) (first_among members is_union number) ≡ member_from (map (member_seen (types_in table)) members) is_union number
  among_seen members false number =
      first_seen number (drop number members) ∙ ap (first_member number) (sym (drop-map (member_seen (types_in table)) number members))
  among_seen members true zero = first_seen 0 members
  among_seen members true (suc number) = refl

  known_if : (number : ℕ) (member : Member) (behind : Option Part) (test : Bool) → IsTypeId table member.of → IfSome behind (IsKnownPart table)
      → IfSome (if test then behind else Some (record { number = number; of = member_type member })) (IsKnownPart table)
  known_if number member behind true is others = others
  known_if number member behind false is others = is

  first_known : (number : ℕ) (members : List Member) → All (λ (member : Member). IsTypeId table member.of) members
      → IfSome (first_of_members number members) (IsKnownPart table)
  first_known number [] known = tt
  first_known number (member ∷ members) known =
      known_if number member (first_of_members (suc number) members) (is_member_passed_over member)
      (All-head (λ (m : Member). IsTypeId table m.of) member members known)
      (first_known (suc number) members (All-tail (λ (m : Member). IsTypeId table m.of) member members known))

  pub among_known : (members : List Member) (is_union : Bool) (number : ℕ) → All (λ (member : Member). IsTypeId table member.of) members
      → IfSome (first_among members is_union number) (IsKnownPart table)
  among_known members false number known = first_known number (drop number members) (All-drop (λ (m : Member). IsTypeId table m.of) number members known)
  among_known members true zero known = first_known 0 members known
  among_known members true (suc number) known = tt

pub none_among : (is_union : Bool) (number : ℕ) → None ≡ member_from [] is_union number
none_among false zero = refl
none_among false (suc number) = refl
none_among true zero = refl
none_among true (suc number) = refl

-- By what an object has for parts

pub next_is : (table : TypeTable) (aggregates : Aggregates) → AreMembersIn table aggregates → (type_ : TypeTree) (number : ℕ)
    → from_parts (members_in table) (parts_in type_) type_ number ≡ part_from aggregates type_ number
next_is table aggregates are (Typed (ArrayTree element count) qualifiers flags) number = refl
next_is table aggregates are (Typed (AggregateTree aggregate is_union) qualifiers flags) number =
    ap (λ (ms : List (DeclaredMember (List ℕ))). member_from ms is_union number) (sym (are aggregate))
next_is table aggregates are (Typed VoidTree qualifiers flags) zero = refl
next_is table aggregates are (Typed VoidTree qualifiers flags) (suc number) = refl
next_is table aggregates are (Typed (IntegerTree kind) qualifiers flags) zero = refl
next_is table aggregates are (Typed (IntegerTree kind) qualifiers flags) (suc number) = refl
next_is table aggregates are (Typed (RestrictedTree kind identity) qualifiers flags) zero = refl
next_is table aggregates are (Typed (RestrictedTree kind identity) qualifiers flags) (suc number) = refl
next_is table aggregates are (Typed (PointerTree target) qualifiers flags) zero = refl
next_is table aggregates are (Typed (PointerTree target) qualifiers flags) (suc number) = refl
next_is table aggregates are (Typed (FunctionTree result parameters variadic) qualifiers flags) zero = refl
next_is table aggregates are (Typed (FunctionTree result parameters variadic) qualifiers flags) (suc number) = refl
