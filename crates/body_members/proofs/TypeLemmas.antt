-- The types of members: of one with a declarator, and of one without.
use Rattle.std.proofs.Common.{◌≡◌, ℕ, Bool, true, false, List, [], ◌∷◌, Option, Some, None, option_map, refl, sym, if◌then◌else◌}
use Rattle.std.specs.List.{list_any}
use Rattle.meaning_types.specs.Types.{TypeTree, Typed, VoidTree, IntegerTree, RestrictedTree, PointerTree, ArrayTree, FunctionTree, AggregateTree}
use Rattle.meaning_typing.specs.MemberDeclarations.{body_member, is_type_of_tagless, member_alignment, nameless_of_type, specified_type, type_of_entry}
use Rattle.meaning_typing.specs.Units.{UnitNodes, child_at, children_at}
use Rattle.c_types.specs.Outlines.{aggregate_in, outline_of}
use Rattle.c_types.specs.Table.{TypeTable, type_at}
use Rattle.node_facts.specs.declared.declared.SpecifiedFact.{SpecifiedFact}
use Rattle.node_facts.specs.Facts.{specified_seen}
use Rattle.body_members.specs.Seen.{declares_member, is_tagless_among, nameless_type}

-- Declarators

pub untyped : (name : List ℕ) → type_of_entry name None ≡ None
untyped [] = refl
untyped (byte ∷ bytes) = refl

typed-integer : (type_ : TypeTree) → declares_member [] type_ ≡ true → type_of_entry [] (Some type_) ≡ Some type_
typed-integer (Typed VoidTree qualifiers flags) is = absurd (cc is)
typed-integer (Typed (IntegerTree kind) qualifiers flags) is = refl
typed-integer (Typed (RestrictedTree kind identity) qualifiers flags) is = refl
typed-integer (Typed (PointerTree target) qualifiers flags) is = absurd (cc is)
typed-integer (Typed (ArrayTree element length) qualifiers flags) is = absurd (cc is)
typed-integer (Typed (FunctionTree result parameters variadic) qualifiers flags) is = absurd (cc is)
typed-integer (Typed (AggregateTree number is_union) qualifiers flags) is = absurd (cc is)

pub declares : (name : List ℕ) (type_ : TypeTree) → declares_member name type_ ≡ true → type_of_entry name (Some type_) ≡ Some type_
declares [] type_ is = typed-integer type_ is
declares (byte ∷ bytes) type_ is = refl

no-integer : (type_ : TypeTree) → declares_member [] type_ ≡ false → type_of_entry [] (Some type_) ≡ None
no-integer (Typed VoidTree qualifiers flags) is = refl
no-integer (Typed (IntegerTree kind) qualifiers flags) is = absurd (cc is)
no-integer (Typed (RestrictedTree kind identity) qualifiers flags) is = absurd (cc is)
no-integer (Typed (PointerTree target) qualifiers flags) is = refl
no-integer (Typed (ArrayTree element length) qualifiers flags) is = refl
no-integer (Typed (FunctionTree result parameters variadic) qualifiers flags) is = refl
no-integer (Typed (AggregateTree number is_union) qualifiers flags) is = refl

pub declares_none : (name : List ℕ) (type_ : TypeTree) → declares_member name type_ ≡ false → type_of_entry name (Some type_) ≡ None
declares_none [] type_ is = no-integer type_ is
declares_none (byte ∷ bytes) type_ is = absurd (cc is)

-- Without a declarator

pub specified_told : (table : TypeTable) (said : Option SpecifiedFact)
    → option_map (type_at table) (option_map (λ (one : SpecifiedFact). one.of) said) ≡ specified_type (option_map (specified_seen table) said)
specified_told table None = refl
specified_told table (Some said) = refl

none-is : (handles : List ℕ) → list_any (λ (handle : ℕ). false) handles ≡ false
none-is [] = refl
none-is (handle ∷ handles) = none-is handles

-- a type of a number is that of the specifier with the number
pub tagless_told : (nodes : UnitNodes) (type_ : TypeTree) (handles : List ℕ)
    → is_tagless_among nodes (aggregate_in (outline_of type_)) handles ≡ list_any (λ handle. is_type_of_tagless nodes type_ handle) handles
tagless_told nodes (Typed VoidTree qualifiers flags) handles = sym (none-is handles)
tagless_told nodes (Typed (IntegerTree kind) qualifiers flags) handles = sym (none-is handles)
tagless_told nodes (Typed (RestrictedTree kind identity) qualifiers flags) handles = sym (none-is handles)
tagless_told nodes (Typed (PointerTree target) qualifiers flags) handles = sym (none-is handles)
tagless_told nodes (Typed (ArrayTree element length) qualifiers flags) handles = sym (none-is handles)
tagless_told nodes (Typed (FunctionTree result parameters variadic) qualifiers flags) handles = sym (none-is handles)
tagless_told nodes (Typed (AggregateTree number is_union) qualifiers flags) handles = refl

nameless-by : (nodes : UnitNodes) (declaration : ℕ) (type_ : TypeTree) (is : Bool)
    → (if is then body_member None None (member_alignment nodes declaration []) (Some type_) else [])
    ≡ body_member None None (member_alignment nodes declaration []) (if is then Some type_ else None)
nameless-by nodes declaration type_ true = refl
nameless-by nodes declaration type_ false = refl

-- a member has the type that is asked for
pub nameless_told : (nodes : UnitNodes) (declaration : ℕ) (type_ : Option TypeTree)
    → nameless_of_type nodes declaration type_ ≡ body_member None None (member_alignment nodes declaration []) (nameless_type nodes declaration type_)
nameless_told nodes declaration None = refl
nameless_told nodes declaration (Some type_) =
    nameless-by nodes declaration type_ (list_any (λ handle. is_type_of_tagless nodes type_ handle) (children_at nodes (child_at nodes declaration 0)))
