-- Which structures are told before a node: that depends on the nodes alone. A type that has a size lies in such.
use Rattle.std.proofs.Common.{◌≡◌, ℕ, zero, suc, ◌≤◌, ◌<◌, nat_eq, ◌==◌, Bool, true, false, ◌||◌, List, [], ◌∷◌, ◌++◌, map, Option, Some, None, Result, Ok, Err, refl, sym, ap, subst, ◌∙◌, ◌⊎◌, inl, inr, arith, if◌then◌else◌}
use Rattle.std.specs.List.{flat_map, list_any}
use Rattle.std.proofs.lemmas.Bool.Decides.{eqb_tells}
use Rattle.vocabulary.specs.declared.node_kind.NodeKind.{NodeKind}
use Rattle.vocabulary.specs.declared.node_kind.NodeKind.TheVariants as kinds
use Rattle.meaning_types.specs.Types.{TypeTree, Typed, VoidTree, IntegerTree, RestrictedTree, PointerTree, ArrayTree, FunctionTree, AggregateTree}
use Rattle.meaning_layout.specs.Layouts.{Layout, LayoutFault, Incomplete, TooLarge}
use Rattle.meaning_layout.specs.Members.{DeclaredBody}
use Rattle.meaning_layout.specs.Sizes.{Extent, Told, array_extent, extent_of, told_extent}
use Rattle.meaning_layout.specs.Telling.{ToldBody, layout_told, nothing_told, tell, told_before, told_in_order}
use Rattle.meaning_typing.specs.Aggregates.{Bodies}
use Rattle.meaning_typing.specs.Facts.{Fact}
use Rattle.meaning_typing.specs.MemberDeclarations.{attributes_behind, bodies_at, bodies_before, declared_body, has_member_list, is_member_list, is_tagless, member_list, member_lists, members_of_list, specifier_bodies}
use Rattle.meaning_typing.specs.Operators.{is_incomplete}
use Rattle.meaning_typing.specs.Surroundings.{Surrounding, surrounding_at}
use Rattle.meaning_typing.specs.Units.{UnitNodes, children_at, kind_at, node_at}
use Rattle.meaning_nested.proofs.Heights.{LiesAmong, is_told, is_told-append}

-- By nodes

-- this node tells it
abbrev tells_by : UnitNodes → (handle : ℕ) → NodeKind → (number : ℕ) → Bool
tells_by nodes handle kinds.StructSpecifier number = list_any (λ list. nat_eq (node_at nodes handle).number number) (member_lists nodes handle)
tells_by nodes handle kinds.UnionSpecifier number = list_any (λ list. nat_eq (node_at nodes handle).number number) (member_lists nodes handle)
tells_by nodes handle kind number = false

-- one of the first so many nodes does
abbrev pub tells_before : UnitNodes → (count number : ℕ) → Bool
tells_before nodes zero number = false
tells_before nodes (suc count) number = tells_before nodes count number || tells_by nodes count (kind_at nodes count) number

or-true : (one other : Bool) → one ≡ true → (one || other) ≡ true
or-true true other is = refl
or-true false other is = absurd (cc is)

or-other : (one other : Bool) → other ≡ true → (one || other) ≡ true
or-other true other is = refl
or-other false other is = is

same_number : (number : ℕ) → nat_eq number number ≡ true
same_number number =
    elim (eqb_tells number number) [
      | inl is ↦ is.0
      | inr is ↦ absurd (is.1 refl)
    ]

earlier-or-last : (count more : ℕ) → count ≤ suc more → (count ≤ more) ⊎ (count ≡ suc more)
earlier-or-last count more within = grind arith

-- more nodes tell more
pub tells-more : (nodes : UnitNodes) (count more number : ℕ) → count ≤ more → tells_before nodes count number ≡ true → tells_before nodes more number ≡ true
tells-more nodes count zero number within is =
    let none : count ≡ 0 = omega (arith, within) in
    subst (λ c. tells_before nodes c number ≡ true) none is
tells-more nodes count (suc more) number within is =
    elim (earlier-or-last count more within) [
      | inl earlier ↦ or-true _ _ (tells-more nodes count more number earlier is)
      | inr last ↦ subst (λ c. tells_before nodes c number ≡ true) last is
    ]

-- a structure without a tag that has members tells itself

list-among : (nodes : UnitNodes) (number : ℕ) (kind : NodeKind) (child : ℕ) (others : List ℕ) → (is_member_list kind ≡ false → list_any (λ list. nat_eq number number) others ≡ true)
    → list_any (λ list. nat_eq number number) (member_list kind child ++ others) ≡ true
list-among nodes number kinds.MemberList child others later = or-true _ _ (same_number number)
list-among nodes number kind child others later = later refl

lists-among : (nodes : UnitNodes) (number : ℕ) (children : List ℕ) → list_any (λ child. is_member_list (kind_at nodes child)) children ≡ true
    → list_any (λ list. nat_eq number number) (flat_map (λ child. member_list (kind_at nodes child) child) children) ≡ true
lists-among nodes number [] is = absurd (cc is)
lists-among nodes number (child ∷ children) is =
    list-among nodes number (kind_at nodes child) child (flat_map (λ other. member_list (kind_at nodes other) other) children)
    (λ none. lists-among nodes number children (sym (ap (λ first. first || list_any (λ other. is_member_list (kind_at nodes other)) children) none) ∙ is))

itself-by : (nodes : UnitNodes) (handle : ℕ) (kind : NodeKind) → is_tagless nodes handle kind ≡ true → has_member_list nodes handle ≡ true
    → tells_by nodes handle kind (node_at nodes handle).number ≡ true
itself-by nodes handle kinds.StructSpecifier tagless has = lists-among nodes (node_at nodes handle).number (children_at nodes handle) has
itself-by nodes handle kinds.UnionSpecifier tagless has = lists-among nodes (node_at nodes handle).number (children_at nodes handle) has
itself-by nodes handle kind tagless has = absurd (cc tagless)

pub tells-itself : (nodes : UnitNodes) (handle : ℕ) → is_tagless nodes handle (kind_at nodes handle) ≡ true → has_member_list nodes handle ≡ true
    → tells_before nodes (suc handle) (node_at nodes handle).number ≡ true
tells-itself nodes handle tagless has = or-other _ _ (itself-by nodes handle (kind_at nodes handle) tagless has)

module _ (nodes : UnitNodes) (surroundings : List Surrounding) (facts : List Fact) where
  lists-tell : (handle number : ℕ) (lists : List ℕ)
      → is_told (map (λ list. ((node_at nodes handle).number, declared_body nodes (attributes_behind nodes (surrounding_at surroundings handle)) (members_of_list nodes facts list))) lists) number
      ≡ list_any (λ list. nat_eq (node_at nodes handle).number number) lists
  lists-tell handle number [] = refl
  lists-tell handle number (list ∷ lists) = ap (λ later. nat_eq (node_at nodes handle).number number || later) (lists-tell handle number lists)

  node-tells : (handle : ℕ) (kind : NodeKind) (number : ℕ) → is_told (bodies_at nodes surroundings facts handle kind) number ≡ tells_by nodes handle kind number
  node-tells handle kinds.StructSpecifier number = lists-tell handle number (member_lists nodes handle)
  node-tells handle kinds.UnionSpecifier number = lists-tell handle number (member_lists nodes handle)
  node-tells handle kind number = refl

  pub nodes-tell : (count number : ℕ) → is_told (bodies_before nodes surroundings facts count) number ≡ tells_before nodes count number
  nodes-tell zero number = refl
  nodes-tell (suc count) number =
      is_told-append (bodies_before nodes surroundings facts count) (bodies_at nodes surroundings facts count (kind_at nodes count)) number
      ∙ (λ i. nodes-tell count number i || node-tells count (kind_at nodes count) number i)

-- Layouts

or-first : (one other : Bool) → (one || other) ≡ false → one ≡ false
or-first true other is = absurd (cc is)
or-first false other is = refl

or-second : (one other : Bool) → (one || other) ≡ false → other ≡ false
or-second true other is = absurd (cc is)
or-second false other is = is

unequal : (one other : ℕ) → nat_eq one other ≡ false → (other == one) ≡ false
unequal one other is = grind (arith, is)

not-told-by : (told : Told) (aggregate : ℕ) (body : ToldBody) (number : ℕ) (is_union is : Bool) → told number is_union ≡ None → is ≡ false
    → (if is then told_before (told number is_union) (layout_told told body is_union) else told number is_union) ≡ None
not-told-by told aggregate body number is_union true none is_not = absurd (cc is_not)
not-told-by told aggregate body number is_union false none is_not = none

-- what isn't told has no layout
pub not-told : (told : Told) (bodies : Bodies) (number : ℕ) (is_union : Bool) → told number is_union ≡ None → is_told bodies number ≡ false
    → told_in_order told (map (λ (entry : ℕ × DeclaredBody (List ℕ)). (entry.0, entry.1.body)) bodies) number is_union ≡ None
not-told told [] number is_union none is = none
not-told told (entry ∷ bodies) number is_union none is =
    not-told (tell told entry.0 entry.1.body) bodies number is_union
    (not-told-by told entry.0 entry.1.body number is_union (number == entry.0) none (unequal entry.0 number (or-first (nat_eq entry.0 number) (is_told bodies number) is)))
    (or-second (nat_eq entry.0 number) (is_told bodies number) is)

-- Types that have a size

array-whole : (length : ℕ) (extent : Result Extent LayoutFault) → is_incomplete (array_extent length extent) ≡ false → is_incomplete extent ≡ false
array-whole length (Ok element) is = refl
array-whole length (Err fault) is = is

aggregate-whole : (is : Bool) (found : Option (Result Layout LayoutFault)) → (is ≡ false → found ≡ None) → is_incomplete (told_extent found) ≡ false → is ≡ true
aggregate-whole true found none whole = refl
aggregate-whole false found none whole = absurd (cc (sym (ap (λ f. is_incomplete (told_extent f)) (none refl)) ∙ whole))

pub lies-whole : (told : Told) (among : ℕ → Bool) → ((number : ℕ) (is_union : Bool) → among number ≡ false → told number is_union ≡ None)
    → (type_ : TypeTree) → is_incomplete (extent_of told type_) ≡ false → LiesAmong among type_
lies-whole told among none (Typed VoidTree qualifiers flags) whole = tt
lies-whole told among none (Typed (IntegerTree kind) qualifiers flags) whole = tt
lies-whole told among none (Typed (RestrictedTree kind identity) qualifiers flags) whole = tt
lies-whole told among none (Typed (PointerTree target) qualifiers flags) whole = tt
lies-whole told among none (Typed (ArrayTree element None) qualifiers flags) whole = absurd (cc whole)
lies-whole told among none (Typed (ArrayTree element (Some length)) qualifiers flags) whole =
    lies-whole told among none element (array-whole length (extent_of told element) whole)
lies-whole told among none (Typed (FunctionTree result parameters variadic) qualifiers flags) whole = tt
lies-whole told among none (Typed (AggregateTree number is_union) qualifiers flags) whole =
    aggregate-whole (among number) (told number is_union) (none number is_union) whole
