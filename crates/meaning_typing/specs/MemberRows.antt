-- Rows of members, widths and the specifiers of structures and unions (C11 6.7.2.1): what is broken among them.
use Rattle.std.specs.Prelude.{ℕ, ℤ, zero, suc, ◌+◌, pos, negsuc, nat_eq, nat_lt, Bool, true, false, ◌&&◌, ◌||◌, not, List, [], ◌∷◌, ◌++◌, length, Option, Some, None, Result, Ok, Err, if◌then◌else◌}
use Rattle.std.specs.List.{list_any}
use Rattle.std.specs.Str.{bytes_eq}
use Rattle.vocabulary.specs.declared.error_kind.ErrorKind.TheVariants.{BadBitField, IncompleteType, MemberDeclaredTwice, RestrictedBitField}
use Rattle.vocabulary.specs.declared.int_kind.IntKind.{IntKind}
use Rattle.vocabulary.specs.declared.node_kind.NodeKind.{NodeKind}
use Rattle.vocabulary.specs.declared.node_kind.NodeKind.TheVariants as kinds
use Rattle.vocabulary.specs.declared.rule.RuleCode.TheVariants.{S7}
use Rattle.meaning_types.specs.Types.{TypeTree, Typed, AggregateTree, ArrayTree, IntegerTree, RestrictedTree}
use Rattle.meaning_types.specs.Conversions.{is_signed}
use Rattle.meaning_types.specs.Ranges.{width}
use Rattle.meaning_types.specs.Spaces.{is_void}
use Rattle.meaning_layout.specs.Layouts.{Layout, LayoutFault, Incomplete, TooLarge}
use Rattle.meaning_layout.specs.Sizes.{Told}
use Rattle.meaning_layout.specs.Telling.{layout_told}
use Rattle.meaning_operands.specs.Failures.{Failure, Broken}
use Rattle.meaning_typing.specs.Units.{UnitNodes, node_at, kind_at, children_at, child_at, children_from}
use Rattle.meaning_typing.specs.Surroundings.{Surrounding, surrounding_at}
use Rattle.meaning_typing.specs.Facts.{Fact, Expression, NamedType, fact_at}
use Rattle.meaning_typing.specs.Specifiers.{plain_type}
use Rattle.meaning_typing.specs.Declarators.{is_function, type_declared}
use Rattle.meaning_typing.specs.Aggregates.{Bodies, KnownAggregates, aggregates_of}
use Rattle.meaning_typing.specs.Rows.{Row, nothing, known, breaks_at, breaks_named, fails_with, unless_broken}
use Rattle.meaning_typing.specs.Operators.{has_no_size}
use Rattle.meaning_typing.specs.Tags.{is_any_below, tag_broken}
use Rattle.meaning_typing.specs.MemberDeclarations.{MemberEntry, bodies_at, bodies_before, is_empty, is_tagless, is_tagless_among, member_declarator_fact, member_entries}

-- Widths (p4): of a bit-field of this type, with a name or without one, which stands at this token

-- a width is a constant that isn't below 0, no more than that of the type, and with a name not 0
abbrev pub is_good_number : (is_named : Bool) → IntKind → Option ℤ → Bool
is_good_number is_named kind None = false
is_good_number is_named kind (Some (negsuc number)) = false
is_good_number is_named kind (Some (pos number)) = not (nat_lt (width kind) number) && not (is_named && nat_eq number 0)

-- of what isn't known it isn't told that it is no constant
abbrev pub is_good_width : (is_named : Bool) → IntKind → Fact → Bool
is_good_width is_named kind (Expression expression) = is_good_number is_named kind expression.constant
is_good_width is_named kind fact = true

abbrev pub kind_width_broken : (token : ℕ) → (is_named : Bool) → IntKind → (size : Fact) → List Broken
kind_width_broken token is_named kind size = if is_good_width is_named kind size then [] else breaks_at BadBitField token

abbrev pub width_broken : (token : ℕ) → (is_named : Bool) → TypeTree → (size : Fact) → List Broken
width_broken token is_named (Typed (IntegerTree kind) _ _) size = kind_width_broken token is_named kind size
width_broken token is_named (Typed (RestrictedTree kind identity) _ _) size =
    kind_width_broken token is_named kind size ++ breaks_at RestrictedBitField token
width_broken token is_named (Typed base _ _) size = breaks_at BadBitField token

abbrev pub is_number_one : Option ℤ → Bool
is_number_one (Some (pos number)) = nat_eq number 1
is_number_one constant = false

-- a signed one of one bit can't be 1
abbrev pub is_one : Fact → Bool
is_one (Expression expression) = is_number_one expression.constant
is_one fact = false

abbrev pub one_bit_failures : (token : ℕ) → TypeTree → (size : Fact) → List Failure
one_bit_failures token (Typed (IntegerTree kind) _ _) size = if is_signed kind && is_one size then fails_with S7 token 0 None None [] ∷ [] else []
one_bit_failures token (Typed base _ _) size = []

-- what is known of a width is what is known of its expression
abbrev pub width_row : (token : ℕ) → (is_named : Bool) → Option TypeTree → (size : Fact) → Row
width_row token is_named None size = known size
width_row token is_named (Some type_) size =
    record nothing {
      fact = unless_broken (width_broken token is_named type_ size) size;
      broken = width_broken token is_named type_ size;
      failures = one_bit_failures token type_ size;
    }

-- the entry with this width
abbrev pub is_handle : ℕ → Option ℕ → Bool
is_handle handle None = false
is_handle handle (Some other) = nat_eq handle other

abbrev pub entry_with_width : (width : ℕ) → List MemberEntry → Option MemberEntry
entry_with_width width [] = None
entry_with_width width (entry ∷ entries) = if is_handle width entry.width then Some entry else entry_with_width width entries

abbrev pub width_behind : UnitNodes → List Fact → (declarator : ℕ) → (size : Fact) → Row
width_behind nodes facts declarator size =
    width_row (node_at nodes declarator).token (not (is_empty (node_at nodes declarator).name)) (type_declared (fact_at facts declarator)) size

-- a width that stands behind no declarator is none
abbrev pub width_of_entry : UnitNodes → List Fact → Option MemberEntry → (size : Fact) → Row
width_of_entry nodes facts None size = known size
width_of_entry nodes facts (Some entry) size = width_behind nodes facts entry.declarator size

abbrev pub bit_field_row : UnitNodes → List Fact → (handle : ℕ) → Surrounding → Row
bit_field_row nodes facts handle surrounding =
    width_of_entry nodes facts (entry_with_width handle (member_entries nodes surrounding.parent)) (fact_at facts (child_at nodes handle 0))

-- Complete types (p3, p18): an array without a length may be the last member of a structure that has another one

abbrev pub is_unbounded : TypeTree → Bool
is_unbounded (Typed (ArrayTree element None) _ _) = true
is_unbounded (Typed base _ _) = false

abbrev pub is_no_object : Told → TypeTree → Bool
is_no_object told type_ = is_void type_ || (is_function type_ || has_no_size told type_)

-- it has elements that have a size
abbrev pub is_flexible : Told → TypeTree → Bool
is_flexible told (Typed (ArrayTree element None) _ _) = not (is_no_object told element)
is_flexible told (Typed base _ _) = false

-- one without a name is a bit-field, and declares no object (p12)
abbrev pub member_broken : Told → (token : ℕ) → (is_named may_be_flexible : Bool) → TypeTree → List Broken
member_broken told token is_named may_be_flexible type_ =
    if not is_named || (may_be_flexible && is_flexible told type_) then []
    else (if is_no_object told type_ then breaks_at IncompleteType token
    else [])

-- Names (p3 of 6.2.1, 6.7.2.1 p13): one names one member

-- the specifier in whose body a declaration of members stands
abbrev pub specifier_around : List Surrounding → (declaration : ℕ) → ℕ
specifier_around surroundings declaration = (surrounding_at surroundings (surrounding_at surroundings declaration).parent).parent

-- the declaration in which a specifier stands
abbrev pub declaration_around : List Surrounding → (specifier : ℕ) → ℕ
declaration_around surroundings specifier = (surrounding_at surroundings (surrounding_at surroundings specifier).parent).parent

abbrev pub is_member_declaration : NodeKind → Bool
is_member_declaration kinds.MemberDeclaration = true
is_member_declaration kind = false

abbrev pub has_no_entry : List MemberEntry → Bool
has_no_entry [] = true
has_no_entry (entry ∷ entries) = false

-- what it specifies is an anonymous member of the aggregate around
abbrev pub is_anonymous : UnitNodes → List Surrounding → (specifier : ℕ) → Bool
is_anonymous nodes surroundings specifier =
    is_tagless nodes specifier (kind_at nodes specifier)
    && (is_member_declaration (kind_at nodes (declaration_around surroundings specifier))
    && has_no_entry (member_entries nodes (declaration_around surroundings specifier)))

-- the aggregates of which a member that is declared there is one, from the inside out, so many at most
abbrev pub homes : UnitNodes → List Surrounding → (most : ℕ) → (declaration : ℕ) → List ℕ
homes nodes surroundings zero declaration = []
homes nodes surroundings (suc most) declaration =
    specifier_around surroundings declaration
    ∷ (if is_anonymous nodes surroundings (specifier_around surroundings declaration)
    then homes nodes surroundings most (declaration_around surroundings (specifier_around surroundings declaration))
    else [])

abbrev pub homes_of : UnitNodes → List Surrounding → (declarator : ℕ) → List ℕ
homes_of nodes surroundings declarator = homes nodes surroundings (length nodes) (surrounding_at surroundings declarator).parent

abbrev pub have_common : List ℕ → List ℕ → Bool
have_common handles others = list_any (λ handle. list_any (λ other. nat_eq handle other) others) handles

abbrev pub is_declarator_kind : NodeKind → Bool
is_declarator_kind kinds.Declarator = true
is_declarator_kind kind = false

abbrev pub is_member_declarator : UnitNodes → List Surrounding → (handle : ℕ) → Bool
is_member_declarator nodes surroundings handle =
    is_declarator_kind (kind_at nodes handle) && is_member_declaration (kind_at nodes (surrounding_at surroundings handle).parent)

-- an earlier member has this one's name in an aggregate of which both are members
abbrev pub names_same_member : UnitNodes → List Surrounding → (handle other : ℕ) → Bool
names_same_member nodes surroundings handle other =
    is_member_declarator nodes surroundings other
    && (bytes_eq (node_at nodes other).name (node_at nodes handle).name
    && have_common (homes_of nodes surroundings handle) (homes_of nodes surroundings other))

abbrev pub name_broken : UnitNodes → List Surrounding → (handle : ℕ) → List Broken
name_broken nodes surroundings handle =
    if not (is_empty (node_at nodes handle).name) && is_any_below (λ other. names_same_member nodes surroundings handle other) handle
    then breaks_named MemberDeclaredTwice (node_at nodes handle).token (node_at nodes handle).name
    else []

-- Flexible members

-- the declarations of a body that declare members, each with its number of them
abbrev pub declares_members : UnitNodes → (part : ℕ) → Bool
declares_members nodes part =
    is_member_declaration (kind_at nodes part)
    && (not (has_no_entry (member_entries nodes part)) || is_tagless_among nodes (children_at nodes (child_at nodes part 0)))

-- one with a name, or an anonymous one; a bit-field without a name is none
abbrev pub is_other_member : UnitNodes → (declarator : ℕ) → MemberEntry → Bool
is_other_member nodes declarator entry = not (is_empty (node_at nodes entry.declarator).name) && not (nat_eq declarator entry.declarator)

abbrev pub has_other_member : UnitNodes → (declarator part : ℕ) → List MemberEntry → Bool
has_other_member nodes declarator part [] = is_tagless_among nodes (children_at nodes (child_at nodes part 0))
has_other_member nodes declarator part (entry ∷ entries) = list_any (λ other. is_other_member nodes declarator other) (entry ∷ entries)

abbrev pub is_among_others : UnitNodes → (declarator list : ℕ) → Bool
is_among_others nodes declarator list =
    list_any (λ part. is_member_declaration (kind_at nodes part) && has_other_member nodes declarator part (member_entries nodes part)) (children_at nodes list)

abbrev pub is_last_entry : (declarator : ℕ) → List MemberEntry → Bool
is_last_entry declarator [] = false
is_last_entry declarator (entry ∷ []) = nat_eq declarator entry.declarator
is_last_entry declarator (entry ∷ other ∷ entries) = is_last_entry declarator (other ∷ entries)

abbrev pub is_last_member : UnitNodes → (declarator : ℕ) → Surrounding → (declaration : ℕ) → Bool
is_last_member nodes declarator surrounding declaration =
    is_last_entry declarator (member_entries nodes declaration)
    && not (list_any (λ part. declares_members nodes part) (children_from nodes surrounding.parent (surrounding.place + 1)))

abbrev pub is_structure : NodeKind → Bool
is_structure kinds.StructSpecifier = true
is_structure kind = false

abbrev pub may_be_flexible : UnitNodes → List Surrounding → (declarator declaration : ℕ) → Bool
may_be_flexible nodes surroundings declarator declaration =
    is_structure (kind_at nodes (specifier_around surroundings declaration))
    && (is_last_member nodes declarator (surrounding_at surroundings declaration) declaration
    && is_among_others nodes declarator (surrounding_at surroundings declaration).parent)

-- The row of a member's declarator

abbrev pub typed_member_broken : UnitNodes → List Surrounding → Told → (handle declaration : ℕ) → Option TypeTree → List Broken
typed_member_broken nodes surroundings told handle declaration None = []
typed_member_broken nodes surroundings told handle declaration (Some type_) =
    member_broken told (node_at nodes handle).token (not (is_empty (node_at nodes handle).name))
    (may_be_flexible nodes surroundings handle declaration) type_

-- by what its type breaks and what its name does: a name that stands twice leaves the member its type, by which its width is judged
abbrev pub member_declarator_by : (typed names : List Broken) → Fact → Row
member_declarator_by typed names fact = record nothing { fact = unless_broken typed fact; broken = typed ++ names }

abbrev pub member_declarator_row : UnitNodes → List Surrounding → Told → List Fact → (handle : ℕ) → Surrounding → Row
member_declarator_row nodes surroundings told facts handle surrounding =
    member_declarator_by
    (typed_member_broken nodes surroundings told handle surrounding.parent (type_declared (member_declarator_fact nodes facts handle surrounding)))
    (name_broken nodes surroundings handle)
    (member_declarator_fact nodes facts handle surrounding)

-- Specifiers of structures and unions: the type, and at the keyword the limit of the size of an object

abbrev pub is_too_large : Result Layout LayoutFault → Bool
is_too_large (Ok layout) = false
is_too_large (Err Incomplete) = false
is_too_large (Err TooLarge) = true

abbrev pub is_too_large_body : Told → (is_union : Bool) → Bodies → Bool
is_too_large_body told is_union bodies = list_any (λ entry. is_too_large (layout_told told entry.1.body is_union)) bodies

abbrev pub passed_at_body : (token : ℕ) → Bool → List ℕ
passed_at_body token is_too_large = if is_too_large then token ∷ [] else []

abbrev pub aggregate_row : (token number : ℕ) → (is_union is_too_large : Bool) → List Broken → Row
aggregate_row token number is_union is_too_large broken =
    record nothing {
      fact = unless_broken broken (NamedType (plain_type (AggregateTree number is_union)));
      broken = broken;
      passed = passed_at_body token is_too_large;
    }

-- what is known of aggregates behind these facts
abbrev pub aggregates_before : UnitNodes → List Surrounding → List Fact → KnownAggregates
aggregates_before nodes surroundings facts = aggregates_of (bodies_before nodes surroundings facts (length facts))

abbrev pub aggregate_specifier_row : UnitNodes → List Surrounding → List Fact → (handle : ℕ) → (is_union : Bool) → Row
aggregate_specifier_row nodes surroundings facts handle is_union =
    aggregate_row (node_at nodes handle).token (node_at nodes handle).number is_union
    (is_too_large_body (aggregates_before nodes surroundings facts).told is_union (bodies_at nodes surroundings facts handle (kind_at nodes handle)))
    (tag_broken nodes handle)
