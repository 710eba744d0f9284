-- What an object takes whole: its type and what it has for parts say the same.
use Rattle.std.proofs.Common.{◌≡◌, ℕ, Bool, Option, Some, None, refl, sym, ap, ◌∙◌, if◌then◌else◌}
use Rattle.meaning_types.specs.Types.{TypeTree, Typed, VoidTree, IntegerTree, RestrictedTree, PointerTree, ArrayTree, FunctionTree, AggregateTree, Qualifiers, Flags, decayed, value_type}
use Rattle.meaning_typing.specs.Facts.{decays}
use Rattle.meaning_constants.specs.Nodes.{loaded_type}
use Rattle.meaning_initializers.specs.Parts.{is_array_of_characters, is_one_aggregate, is_value_of}
use Rattle.c_types.specs.declared.outline.Outline.{Outline}
use Rattle.c_types.specs.declared.outline.Outline.TheVariants as outlines
use Rattle.c_types.specs.Outlines.{outline_of}
use Rattle.c_types.specs.Table.{TypeTable, type_at}
use Rattle.node_facts.specs.declared.fact.NodeFact.{NodeFact}
use Rattle.node_facts.specs.declared.fact.NodeFact.TheVariants as facts
use Rattle.node_facts.specs.Facts.{node_seen}
use Rattle.initializer_levels.specs.declared.parts.Parts.{Parts}
use Rattle.initializer_levels.specs.declared.parts.Parts.TheVariants as parts
use Rattle.initializer_levels.specs.Parts.{Elements, Itself, Members, PartsTree, parts_in, parts_seen}
use Rattle.initializer_levels.specs.Takes.{are_characters, is_one_of, one_of_parts, value_by}

-- Strings

characters_of : (element : TypeTree) (count : Option ℕ) (qualifiers : Qualifiers) (flags : Flags)
    → are_characters (Elements element count) ≡ is_array_of_characters (Typed (ArrayTree element count) qualifiers flags)
characters_of (Typed VoidTree _ _) count qualifiers flags = refl
characters_of (Typed (IntegerTree kind) _ _) count qualifiers flags = refl
characters_of (Typed (RestrictedTree kind identity) _ _) count qualifiers flags = refl
characters_of (Typed (PointerTree target) _ _) count qualifiers flags = refl
characters_of (Typed (ArrayTree element length) _ _) count qualifiers flags = refl
characters_of (Typed (FunctionTree result parameters variadic) _ _) count qualifiers flags = refl
characters_of (Typed (AggregateTree number is_union) _ _) count qualifiers flags = refl

characters_in : (type_ : TypeTree) → are_characters (parts_in type_) ≡ is_array_of_characters type_
characters_in (Typed VoidTree _ _) = refl
characters_in (Typed (IntegerTree kind) _ _) = refl
characters_in (Typed (RestrictedTree kind identity) _ _) = refl
characters_in (Typed (PointerTree target) _ _) = refl
characters_in (Typed (ArrayTree element count) qualifiers flags) = characters_of element count qualifiers flags
characters_in (Typed (FunctionTree result parameters variadic) _ _) = refl
characters_in (Typed (AggregateTree number is_union) _ _) = refl

pub characters_are : (table : TypeTable) (of : Parts) (type_ : TypeTree) → parts_seen table of ≡ parts_in type_
    → are_characters (parts_seen table of) ≡ is_array_of_characters type_
characters_are table of type_ is = ap are_characters is ∙ characters_in type_

-- Values

one_seen : (table : TypeTable) (of : Parts) (outline : Outline) → is_one_of of outline ≡ one_of_parts (parts_seen table of) outline
one_seen table (parts.Members number is_union) (outlines.Aggregate other is_other_union) = refl
one_seen table (parts.Members number is_union) outlines.Void = refl
one_seen table (parts.Members number is_union) (outlines.Integer kind) = refl
one_seen table (parts.Members number is_union) (outlines.Restricted kind identity) = refl
one_seen table (parts.Members number is_union) outlines.Pointer = refl
one_seen table (parts.Members number is_union) outlines.Array = refl
one_seen table (parts.Members number is_union) outlines.Function = refl
one_seen table (parts.Elements element count) outline = refl
one_seen table parts.Itself outline = refl

one_is : (type_ other : TypeTree) → one_of_parts (parts_in type_) (outline_of other) ≡ is_one_aggregate type_ other
one_is (Typed VoidTree _ _) other = refl
one_is (Typed (IntegerTree kind) _ _) other = refl
one_is (Typed (RestrictedTree kind identity) _ _) other = refl
one_is (Typed (PointerTree target) _ _) other = refl
one_is (Typed (ArrayTree element count) _ _) other = refl
one_is (Typed (FunctionTree result parameters variadic) _ _) other = refl
one_is (Typed (AggregateTree number is_union) _ _) (Typed VoidTree _ _) = refl
one_is (Typed (AggregateTree number is_union) _ _) (Typed (IntegerTree kind) _ _) = refl
one_is (Typed (AggregateTree number is_union) _ _) (Typed (RestrictedTree kind identity) _ _) = refl
one_is (Typed (AggregateTree number is_union) _ _) (Typed (PointerTree target) _ _) = refl
one_is (Typed (AggregateTree number is_union) _ _) (Typed (ArrayTree element count) _ _) = refl
one_is (Typed (AggregateTree number is_union) _ _) (Typed (FunctionTree result parameters variadic) _ _) = refl
one_is (Typed (AggregateTree number is_union) _ _) (Typed (AggregateTree other is_other_union) _ _) = refl

-- the value of an aggregate is one of it, and no other value is
abbrev value_in : (width : Option ℕ) → TypeTree → TypeTree
value_in width of = if decays of then decayed of else value_type (loaded_type width of)

member_value : (number : ℕ) (is_union : Bool) (width : Option ℕ) (of : TypeTree)
    → one_of_parts (Members number is_union) (outline_of (value_in width of)) ≡ one_of_parts (Members number is_union) (outline_of of)
member_value number is_union None (Typed VoidTree _ _) = refl
member_value number is_union None (Typed (IntegerTree kind) _ _) = refl
member_value number is_union None (Typed (RestrictedTree kind identity) _ _) = refl
member_value number is_union None (Typed (PointerTree target) _ _) = refl
member_value number is_union None (Typed (ArrayTree element count) _ _) = refl
member_value number is_union None (Typed (FunctionTree result parameters variadic) _ _) = refl
member_value number is_union None (Typed (AggregateTree other is_other_union) _ _) = refl
member_value number is_union (Some width) (Typed VoidTree _ _) = refl
member_value number is_union (Some width) (Typed (IntegerTree kind) _ _) = refl
member_value number is_union (Some width) (Typed (RestrictedTree kind identity) _ _) = refl
member_value number is_union (Some width) (Typed (PointerTree target) _ _) = refl
member_value number is_union (Some width) (Typed (ArrayTree element count) _ _) = refl
member_value number is_union (Some width) (Typed (FunctionTree result parameters variadic) _ _) = refl
member_value number is_union (Some width) (Typed (AggregateTree other is_other_union) _ _) = refl

value_same : (of : PartsTree) (width : Option ℕ) (type_ : TypeTree) → one_of_parts of (outline_of (value_in width type_)) ≡ one_of_parts of (outline_of type_)
value_same (Members number is_union) width type_ = member_value number is_union width type_
value_same (Elements element count) width type_ = refl
value_same Itself width type_ = refl

pub values_are : (table : TypeTable) (of : Parts) (fact : NodeFact) (type_ : TypeTree) → parts_seen table of ≡ parts_in type_
    → value_by table of fact ≡ is_value_of type_ (node_seen table fact)
values_are table of (facts.Expression expression) type_ is =
    let outline = outline_of (type_at table expression.node.of) in
    let width = expression.node.value.width in
    one_seen table of outline
    ∙ (ap (λ (p : PartsTree). one_of_parts p outline) is
    ∙ (sym (value_same (parts_in type_) width (type_at table expression.node.of)) ∙ one_is type_ (value_in width (type_at table expression.node.of))))
values_are table of facts.Unknown type_ is = refl
values_are table of (facts.Specified specifiers) type_ is = refl
values_are table of (facts.Declared declaration) type_ is = refl
values_are table of (facts.NamedType named) type_ is = refl
