-- Steps over members as the table keeps them.
use Rattle.std.proofs.Common.{◌≡◌, ℕ, zero, suc, Bool, true, false, List, [], ◌∷◌, map, All, pos, negsuc, Option, Some, None, option_map, slice_get, refl, sym, ap, subst, ◌∙◌, if◌then◌else◌}
use Rattle.std.proofs.lemmas.List.Elements.{All-get_or}
use Rattle.std.proofs.lemmas.Option.{slice_get_within, get_or_from_slice_get}
use Rattle.sparse_model.specs.declared.ids.NameId.{NameId}
use Rattle.meaning_types.specs.Types.{TypeTree, Typed, VoidTree, IntegerTree, RestrictedTree, PointerTree, ArrayTree, FunctionTree, AggregateTree, Qualifiers, Flags}
use Rattle.meaning_typing.specs.Facts as facts
use Rattle.meaning_typing.specs.Facts.{Fact, Expression}
use Rattle.meaning_initializers.specs.Items.{ElementAt, MemberNamed}
use Rattle.meaning_layout.specs.Members.{DeclaredMember}
use Rattle.meaning_initializers.specs.Parts.{Aggregates}
use Rattle.meaning_initializers.specs.Designators as steps
use Rattle.meaning_initializers.specs.Designators.{is_index, step_into, step_of}
use Rattle.c_types.specs.declared.bodies.Member.{Member}
use Rattle.c_types.specs.Members.{member_in}
use Rattle.sparse_model.specs.declared.ids.TypeId.{TypeId}
use Rattle.initializer_levels.specs.declared.steps.Index.{Index}
use Rattle.initializer_levels.specs.declared.steps.Index.TheVariants as indexes
use Rattle.initializer_levels.specs.declared.steps.Step.TheVariants as kept
use Rattle.c_types.specs.Table.{TypeTable, IsTypeId, type_at, types_in}
use Rattle.node_facts.specs.Facts.{name_seen}
use Rattle.initializer_levels.specs.Parts.{member_seen, parts_in}
use Rattle.initializer_levels.specs.Steps.{AreKnownIn, IsKnownStep, index_kept, index_of, index_step, member_in_body, member_step, step_by_index, step_by_name, step_seen, step_to_one}

module _ (table : TypeTable) where
  one_named : (place : ℕ) (member : Member) (name : Option NameId) → member.name ≡ name
      → step_seen table (member_step place member) ≡ step_into place (Some (member_seen (types_in table) member))
  one_named place member None is =
      ap (λ (n : Option NameId). step_seen table (member_step place (record member { name = n }))) is
      ∙ ap (λ (n : Option NameId). step_into place (Some (member_seen (types_in table) (record member { name = n })))) (sym is)
  one_named place member (Some name) is =
      ap (λ (n : Option NameId). step_seen table (member_step place (record member { name = n }))) is
      ∙ ap (λ (n : Option NameId). step_into place (Some (member_seen (types_in table) (record member { name = n })))) (sym is)

  one_seen : (place : ℕ) (member : Option Member)
      → step_seen table (step_to_one place member) ≡ step_into place (option_map (member_seen (types_in table)) member)
  one_seen place None = refl
  one_seen place (Some member) = one_named place member member.name refl

  get_mapped : (members : List Member) (place : ℕ) → slice_get (map (member_seen (types_in table)) members) place ≡ option_map (member_seen (types_in table)) (slice_get members place)
  get_mapped [] place = refl
  get_mapped (member ∷ members) zero = refl
  get_mapped (member ∷ members) (suc place) = get_mapped members place

  pub place_seen : (members : List Member) (place : ℕ)
      → step_seen table (member_in_body members place) ≡ step_into place (slice_get (map (member_seen (types_in table)) members) place)
  place_seen members place = one_seen place (slice_get members place) ∙ ap (step_into place) (sym (get_mapped members place))

  known_if : (place : ℕ) (member : Member) (name : Option NameId) → member.name ≡ name → IsTypeId table member.of → IsKnownStep table (member_step place member)
  known_if place member None is known = subst (λ (n : Option NameId). IsKnownStep table (member_step place (record member { name = n }))) (sym is) known
  known_if place member (Some name) is known = subst (λ (n : Option NameId). IsKnownStep table (member_step place (record member { name = n }))) (sym is) known

  known_one : (members : List Member) (place : ℕ) (member : Option Member) → slice_get members place ≡ member → All (λ (m : Member). IsTypeId table m.of) members
      → IsKnownStep table (step_to_one place member)
  known_one members place None is known = tt
  known_one members place (Some member) is known =
      let within = slice_get_within members place member is in
      known_if place member member.name refl
      (subst (λ (m : Member). IsTypeId table m.of) (get_or_from_slice_get members place member member is)
      (All-get_or (λ (m : Member). IsTypeId table m.of) members place member within known))

  pub place_known : (members : List Member) (place : ℕ) → All (λ (m : Member). IsTypeId table m.of) members → IsKnownStep table (member_in_body members place)
  place_known members place known = known_one members place (slice_get members place) refl known

  -- Elements

  magnitude_seen : (element : TypeId) (count : Option ℕ) (index : ℕ) (test : Bool)
      → step_seen table (if test then kept.ToPart (record { number = index; of = record { of = element; is_member = false } }) else kept.NoPart)
      ≡ (if test then steps.ToPart (record { number = index; type_ = type_at table element }) else steps.NoPart)
  magnitude_seen element count index true = refl
  magnitude_seen element count index false = refl

  pub index_seen : (element : TypeId) (count : Option ℕ) (index : Index) → step_seen table (index_kept element count index) ≡ index_step (type_at table element) count index
  index_seen element count indexes.Unknown = refl
  index_seen element count (indexes.Known None) = refl
  index_seen element count (indexes.Known (Some (pos index))) = magnitude_seen element count index (is_index index count)
  index_seen element count (indexes.Known (Some (negsuc index))) = refl

  magnitude_known : (element : TypeId) (index : ℕ) (test : Bool) → IsTypeId table element
      → IsKnownStep table (if test then kept.ToPart (record { number = index; of = record { of = element; is_member = false } }) else kept.NoPart)
  magnitude_known element index true known = known
  magnitude_known element index false known = tt

  pub index_known : (element : TypeId) (count : Option ℕ) (index : Index) → IsTypeId table element → IsKnownStep table (index_kept element count index)
  index_known element count indexes.Unknown known = tt
  index_known element count (indexes.Known None) known = tt
  index_known element count (indexes.Known (Some (pos index))) known = magnitude_known element index (is_index index count) known
  index_known element count (indexes.Known (Some (negsuc index))) known = tt

-- By what an object has for parts

pub named_is : (table : TypeTable) (aggregates : Aggregates) → AreKnownIn table aggregates → (type_ : TypeTree) (name : NameId)
    → step_by_name table (parts_in type_) name ≡ step_of aggregates type_ (MemberNamed (name_seen name))
named_is table aggregates are (Typed VoidTree qualifiers flags) name = refl
named_is table aggregates are (Typed (IntegerTree kind) qualifiers flags) name = refl
named_is table aggregates are (Typed (RestrictedTree kind identity) qualifiers flags) name = refl
named_is table aggregates are (Typed (PointerTree target) qualifiers flags) name = refl
named_is table aggregates are (Typed (ArrayTree element count) qualifiers flags) name = refl
named_is table aggregates are (Typed (FunctionTree result parameters variadic) qualifiers flags) name = refl
named_is table aggregates are (Typed (AggregateTree aggregate is_union) qualifiers flags) name =
    ap (λ (ms : List (DeclaredMember (List ℕ))). steps.step_to_member ms (member_in table aggregate name)) (sym (are.members aggregate))
    ∙ ap (steps.step_to_member (aggregates.members aggregate)) (sym (are.names aggregate name))

element_of_array : (aggregates : Aggregates) (element : TypeTree) (count : Option ℕ) (qualifiers : Qualifiers) (flags : Flags) (fact : Fact)
    → index_step element count (index_of fact) ≡ step_of aggregates (Typed (ArrayTree element count) qualifiers flags) (ElementAt fact)
element_of_array aggregates element count qualifiers flags (Expression expression) = refl
element_of_array aggregates element count qualifiers flags facts.Unknown = refl
element_of_array aggregates element count qualifiers flags (facts.Specified specifiers) = refl
element_of_array aggregates element count qualifiers flags (facts.Declared declaration) = refl
element_of_array aggregates element count qualifiers flags (facts.NamedType named) = refl

element_told : (aggregates : Aggregates) (type_ : TypeTree) (fact : Fact) → step_by_index (parts_in type_) (index_of fact) ≡ step_of aggregates type_ (ElementAt fact)
element_told aggregates (Typed VoidTree qualifiers flags) fact = refl
element_told aggregates (Typed (IntegerTree kind) qualifiers flags) fact = refl
element_told aggregates (Typed (RestrictedTree kind identity) qualifiers flags) fact = refl
element_told aggregates (Typed (PointerTree target) qualifiers flags) fact = refl
element_told aggregates (Typed (ArrayTree element count) qualifiers flags) fact = element_of_array aggregates element count qualifiers flags fact
element_told aggregates (Typed (FunctionTree result parameters variadic) qualifiers flags) fact = refl
element_told aggregates (Typed (AggregateTree aggregate is_union) qualifiers flags) fact = refl

pub element_is : (aggregates : Aggregates) (type_ : TypeTree) (fact : Fact) (index : Index) → index_of fact ≡ index
    → step_by_index (parts_in type_) index ≡ step_of aggregates type_ (ElementAt fact)
element_is aggregates type_ fact index is = ap (step_by_index (parts_in type_)) (sym is) ∙ element_told aggregates type_ fact
