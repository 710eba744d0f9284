-- What is known of a node where a unit has structures, unions and enumerations. No list of facts asks these rows yet: `row_at` does
-- not, and what it says of the other kinds is said here too.
use Rattle.std.specs.Prelude.{ℕ, ℤ, zero, suc, pos, Bool, true, false, ◌&&◌, List, [], ◌∷◌, ◌++◌, map, length, Option, Some, None, option_map, if◌then◌else◌}
use Rattle.std.specs.Ordering.{int_eq}
use Rattle.vocabulary.specs.declared.error_kind.ErrorKind.TheVariants.{StaticAssertionFailed}
use Rattle.vocabulary.specs.declared.node_kind.NodeKind.{NodeKind}
use Rattle.vocabulary.specs.declared.node_kind.NodeKind.TheVariants as kinds
use Rattle.meaning_operands.specs.Failures.{Failure, Broken}
use Rattle.meaning_constants.specs.Constants.{Part}
use Rattle.meaning_constants.specs.Sizes.{sizes_by}
use Rattle.meaning_constants.specs.Nodes.{NodeFacts, node_constant}
use Rattle.meaning_typing.specs.Units.{UnitNodes, node_at, kind_at, children_at, children_from}
use Rattle.meaning_typing.specs.Operations.{Operation, StepBehind, StepBefore, SizeOperation, BinaryOperation, CompoundOperation, NoOperation, operation_of}
use Rattle.meaning_typing.specs.Surroundings.{Surrounding, surrounding_at}
use Rattle.meaning_typing.specs.Facts.{Fact, Expression, Declared, DeclaredFact, SpecifiedFact}
use Rattle.meaning_typing.specs.Declarators.{declarator_fact, parameter_fact, parameter_type, specifiers_of}
use Rattle.meaning_typing.specs.Names.{typedefs_again}
use Rattle.meaning_layout.specs.Sizes.{Told}
use Rattle.meaning_typing.specs.Rows.{Row, nothing, known, breaks, breaks_at, unless_broken}
use Rattle.meaning_typing.specs.Operators.{binary_row}
use Rattle.meaning_typing.specs.Casts.{sizeof_row}
use Rattle.meaning_typing.specs.Offsets.{members_named, offset_at}
use Rattle.meaning_typing.specs.Typing.{argument_at, facts_for_constant, operation_row, part_fact, part_seen, part_token, row_of, row_with_constant, token_at}
use Rattle.meaning_typing.specs.Aggregates.{KnownAggregates}
use Rattle.meaning_typing.specs.Members.{member_row, pointer_member_row}
use Rattle.meaning_typing.specs.Wholes.{and_breaks, row_loaded, whole_assignment_row, whole_call_row, whole_compound_row, whole_step_before_row, whole_step_behind_row, whole_subscript_row}
use Rattle.meaning_typing.specs.OffsetRows.{offset_row, steps_of}
use Rattle.meaning_typing.specs.EnumRows.{enumeration_row, enumerator_name_fact, enumerator_row, enumerators_of, is_enumerator}
use Rattle.meaning_typing.specs.Tags.{enumeration_named, has_body, specifiers_row, tag_broken}
use Rattle.meaning_typing.specs.MemberRows.{aggregate_specifier_row, aggregates_before, bit_field_row, is_member_declaration, is_unbounded, member_declarator_row, name_broken}
use Rattle.meaning_typing.specs.DeclarationRows.{declarator_parts_broken, declared_object_broken, defined_name_broken, definition_broken, empty_list_failures, has_initializer, hiding_declarator_failures, hiding_enumerator_failures, large_parts_of, parameter_node_broken, sizes_broken, undeclared_failures, unit_end_broken}
use Rattle.meaning_typing.specs.ContextSums.{redeclared_otherwise}

-- Enumerations

-- at `enum`, with a body or without one
abbrev pub enum_specifier_row : UnitNodes → List Fact → (handle : ℕ) → Row
enum_specifier_row nodes facts handle =
    if has_body nodes handle then enumeration_row (token_at nodes handle) (enumerators_of nodes facts handle)
    else known (enumeration_named nodes facts (node_at nodes handle).number)

abbrev pub row_of_tag : List Broken → Row → Row
row_of_tag broken row = record row { fact = unless_broken broken row.fact; broken = broken ++ row.broken }

-- a name stands for an enumerator, or for what a declarator declares
abbrev pub whole_name_row : UnitNodes → List Surrounding → List Fact → (handle declaration : ℕ) → Row
whole_name_row nodes surroundings facts handle declaration =
    if is_enumerator (kind_at nodes declaration) then known (enumerator_name_fact nodes surroundings facts declaration)
    else row_of nodes surroundings facts handle kinds.Name

-- Assertions (C11 6.7.10 p2): a constant that isn't 0

abbrev pub holds_number : Option ℤ → Bool
holds_number None = false
holds_number (Some number) = if int_eq number (pos 0) then false else true

abbrev pub assertion_row : (token : ℕ) → (asserted : Fact) → Row
assertion_row token (Expression expression) = if holds_number expression.constant then nothing else breaks (breaks_at StaticAssertionFailed token)
assertion_row token fact = nothing

-- Operators, where aggregates are known

abbrev pub whole_operation_row : KnownAggregates → UnitNodes → List Fact → (handle : ℕ) → Operation → Row
whole_operation_row aggregates nodes facts handle (StepBehind operator) =
    whole_step_behind_row aggregates operator (token_at nodes handle) (part_token nodes handle 0) (part_fact nodes facts handle 0)
whole_operation_row aggregates nodes facts handle (StepBefore operator) =
    whole_step_before_row aggregates operator (token_at nodes handle) (part_token nodes handle 0) (part_fact nodes facts handle 0)
whole_operation_row aggregates nodes facts handle SizeOperation = sizeof_row aggregates.told (token_at nodes handle) (part_fact nodes facts handle 0)
whole_operation_row aggregates nodes facts handle (BinaryOperation operator) =
    binary_row aggregates.told operator (token_at nodes handle) (part_token nodes handle 0) (part_token nodes handle 1)
    (part_fact nodes facts handle 0) (part_fact nodes facts handle 1)
whole_operation_row aggregates nodes facts handle (CompoundOperation operator) =
    whole_compound_row aggregates operator (token_at nodes handle) (part_token nodes handle 0) (part_token nodes handle 1)
    (part_fact nodes facts handle 0) (part_fact nodes facts handle 1)
whole_operation_row aggregates nodes facts handle operation = operation_row nodes facts handle operation

-- a kind of no operation has its row as before
abbrev pub whole_other_row : KnownAggregates → UnitNodes → List Surrounding → List Fact → (handle : ℕ) → NodeKind → Operation → Row
whole_other_row aggregates nodes surroundings facts handle kind NoOperation = row_of nodes surroundings facts handle kind
whole_other_row aggregates nodes surroundings facts handle kind operation = whole_operation_row aggregates nodes facts handle operation

-- Rows by kinds

-- what a declaration breaks, and which rules fail at its name
abbrev pub declaration_broken : Told → UnitNodes → List Surrounding → List Fact → (handle : ℕ) → Surrounding → DeclaredFact → List Broken
declaration_broken told nodes surroundings facts handle surrounding declaration =
    typedefs_again surroundings facts (token_at nodes handle) surrounding declaration
    ++ declared_object_broken told nodes (token_at nodes handle) surrounding (kind_at nodes surrounding.parent) declaration
    ++ definition_broken nodes surroundings facts handle declaration

-- where an initializer says the length, it is asked behind that whether the type differs from an earlier declaration's
abbrev pub differing_failures : UnitNodes → List Surrounding → List Fact → (handle : ℕ) → Surrounding → DeclaredFact → List Failure
differing_failures nodes surroundings facts handle surrounding declaration =
    if is_unbounded declaration.type_ && has_initializer nodes surrounding
    then []
    else redeclared_otherwise nodes surroundings facts handle surrounding declaration

abbrev pub declaration_failures : UnitNodes → List Surrounding → List Fact → (handle : ℕ) → Surrounding → DeclaredFact → List Failure
declaration_failures nodes surroundings facts handle surrounding declaration =
    differing_failures nodes surroundings facts handle surrounding declaration
    ++ undeclared_failures nodes facts (token_at nodes handle) surrounding declaration
    ++ hiding_declarator_failures nodes surroundings facts handle surrounding declaration

abbrev pub declaration_row_by : Told → UnitNodes → List Surrounding → List Fact → (handle : ℕ) → Surrounding → Fact → Row
declaration_row_by told nodes surroundings facts handle surrounding (Declared declaration) =
    record nothing {
      fact = unless_broken (declaration_broken told nodes surroundings facts handle surrounding declaration) (Declared declaration);
      broken = declaration_broken told nodes surroundings facts handle surrounding declaration;
      failures = declaration_failures nodes surroundings facts handle surrounding declaration;
    }
declaration_row_by told nodes surroundings facts handle surrounding fact = nothing

abbrev pub declared_row : Told → UnitNodes → List Surrounding → List Fact → (handle : ℕ) → Surrounding → Row
declared_row told nodes surroundings facts handle surrounding =
    if is_member_declaration (kind_at nodes surrounding.parent)
    then member_declarator_row nodes surroundings told facts handle surrounding
    else declaration_row_by told nodes surroundings facts handle surrounding
    (declarator_fact nodes surrounding facts handle (specifiers_of nodes facts surrounding.parent))

abbrev pub large_by : Told → UnitNodes → List Fact → (parent : ℕ) → (parts : List ℕ) → Option SpecifiedFact → List ℕ
large_by told nodes facts parent parts None = []
large_by told nodes facts parent parts (Some specifiers) = large_parts_of told nodes facts (token_at nodes parent) parts (Some specifiers.type_)

-- what its name breaks, whatever its type is
abbrev pub own_name_broken : UnitNodes → List Surrounding → List Fact → (handle : ℕ) → Surrounding → List Broken
own_name_broken nodes surroundings facts handle surrounding =
    if is_member_declaration (kind_at nodes surrounding.parent) then name_broken nodes surroundings handle
    else defined_name_broken nodes surroundings facts handle (declarator_fact nodes surrounding facts handle (specifiers_of nodes facts surrounding.parent))

-- where its parts break something it has no type, and its name alone is asked
abbrev pub declared_unless : (parts names : List Broken) → Row → Row
declared_unless [] names row = row
declared_unless (broken ∷ others) names row = breaks ((broken ∷ others) ++ names)

abbrev pub whole_declarator_row : Told → UnitNodes → List Surrounding → List Fact → (handle : ℕ) → Surrounding → Row
whole_declarator_row told nodes surroundings facts handle surrounding =
    record
    (declared_unless (declarator_parts_broken told nodes facts handle surrounding (specifiers_of nodes facts surrounding.parent))
    (own_name_broken nodes surroundings facts handle surrounding)
    (declared_row told nodes surroundings facts handle surrounding)) {
      passed = large_by told nodes facts surrounding.parent (children_at nodes handle) (specifiers_of nodes facts surrounding.parent);
    }

abbrev pub whole_row_of : KnownAggregates → UnitNodes → List Surrounding → List Fact → (handle : ℕ) → NodeKind → Row
-- 6.7.2
whole_row_of aggregates nodes surroundings facts handle kinds.Specifiers = specifiers_row nodes facts handle
whole_row_of aggregates nodes surroundings facts handle kinds.StructSpecifier = aggregate_specifier_row nodes surroundings facts handle false
whole_row_of aggregates nodes surroundings facts handle kinds.UnionSpecifier = aggregate_specifier_row nodes surroundings facts handle true
whole_row_of aggregates nodes surroundings facts handle kinds.EnumSpecifier = row_of_tag (tag_broken nodes handle) (enum_specifier_row nodes facts handle)
whole_row_of aggregates nodes surroundings facts handle kinds.Enumerator =
    record (enumerator_row nodes facts handle (surrounding_at surroundings handle)) {
      failures = hiding_enumerator_failures nodes handle (surrounding_at surroundings handle);
    }
whole_row_of aggregates nodes surroundings facts handle kinds.BitFieldWidth = bit_field_row nodes facts handle (surrounding_at surroundings handle)
whole_row_of aggregates nodes surroundings facts handle kinds.Declarator =
    whole_declarator_row aggregates.told nodes surroundings facts handle (surrounding_at surroundings handle)
-- 6.7.6
whole_row_of aggregates nodes surroundings facts handle kinds.ArrayDeclarator = breaks (sizes_broken nodes facts (children_at nodes handle))
whole_row_of aggregates nodes surroundings facts handle kinds.FunctionDeclarator =
    record nothing { failures = empty_list_failures (token_at nodes handle) (children_at nodes handle) }
whole_row_of aggregates nodes surroundings facts handle kinds.Parameter =
    and_breaks (known (parameter_fact nodes facts handle))
    (parameter_node_broken aggregates.told nodes surroundings facts handle (parameter_type nodes facts handle))
-- 6.9
whole_row_of aggregates nodes surroundings facts handle kinds.TranslationUnit = breaks (unit_end_broken aggregates.told nodes surroundings facts handle)
-- 6.7.10
whole_row_of aggregates nodes surroundings facts handle kinds.StaticAssertion = assertion_row (token_at nodes handle) (part_fact nodes facts handle 0)
-- 6.5.1, 6.5.2
whole_row_of aggregates nodes surroundings facts handle kinds.Name = whole_name_row nodes surroundings facts handle (node_at nodes handle).number
whole_row_of aggregates nodes surroundings facts handle kinds.Member =
    member_row aggregates (token_at nodes handle) (part_token nodes handle 0) (node_at nodes handle).name (part_fact nodes facts handle 0)
whole_row_of aggregates nodes surroundings facts handle kinds.PointerMember =
    pointer_member_row aggregates (token_at nodes handle) (part_token nodes handle 0) (node_at nodes handle).name (part_fact nodes facts handle 0)
whole_row_of aggregates nodes surroundings facts handle kinds.Subscript =
    whole_subscript_row aggregates.told (token_at nodes handle) (part_token nodes handle 0) (part_token nodes handle 1)
    (part_fact nodes facts handle 0) (part_fact nodes facts handle 1)
whole_row_of aggregates nodes surroundings facts handle kinds.Call =
    whole_call_row aggregates.told (token_at nodes handle) (part_token nodes handle 0) (part_fact nodes facts handle 0)
    (map (argument_at nodes facts) (children_from nodes handle 1))
-- 7.19
whole_row_of aggregates nodes surroundings facts handle kinds.BuiltinOffsetof =
    offset_row aggregates (token_at nodes handle) (node_at nodes handle).name (part_fact nodes facts handle 0)
    (steps_of nodes facts (children_from nodes handle 1))
-- 6.5.16
whole_row_of aggregates nodes surroundings facts handle kinds.Assignment =
    whole_assignment_row aggregates (token_at nodes handle) (part_token nodes handle 1) (part_fact nodes facts handle 0) (part_fact nodes facts handle 1)
whole_row_of aggregates nodes surroundings facts handle kind = whole_other_row aggregates nodes surroundings facts handle kind (operation_of kind)

-- Constants

-- the enumerator that a name stands for
abbrev pub enumerator_part : UnitNodes → List Surrounding → List Fact → (declaration : ℕ) → Option Part
enumerator_part nodes surroundings facts declaration =
    if is_enumerator (kind_at nodes declaration) then part_seen (enumerator_name_fact nodes surroundings facts declaration) else None

abbrev pub whole_facts_for_constant : KnownAggregates → UnitNodes → List Surrounding → List Fact → (handle : ℕ) → NodeFacts
whole_facts_for_constant aggregates nodes surroundings facts handle =
    record (facts_for_constant nodes facts handle) {
      enumerator = enumerator_part nodes surroundings facts (node_at nodes handle).number;
      offset = offset_at aggregates.told (members_named aggregates.told aggregates.names) nodes facts handle;
    }

abbrev pub whole_constant_at : KnownAggregates → UnitNodes → List Surrounding → List Fact → (handle : ℕ) → Option ℤ
whole_constant_at aggregates nodes surroundings facts handle =
    option_map (λ constant. constant.number)
    (node_constant (sizes_by aggregates.told) (whole_facts_for_constant aggregates nodes surroundings facts handle))

-- enumerators and widths have theirs already
abbrev pub keeps_constant : NodeKind → Bool
keeps_constant kinds.Enumerator = true
keeps_constant kinds.BitFieldWidth = true
keeps_constant kind = false

abbrev pub whole_row_by : KnownAggregates → UnitNodes → List Surrounding → List Fact → (handle : ℕ) → NodeKind → Row
whole_row_by aggregates nodes surroundings facts handle kind =
    if keeps_constant kind then whole_row_of aggregates nodes surroundings facts handle kind
    else row_loaded aggregates.told (token_at nodes handle) (surrounding_at surroundings handle).want
    (row_with_constant (whole_constant_at aggregates nodes surroundings facts handle) (whole_row_of aggregates nodes surroundings facts handle kind))

abbrev pub whole_row_at : UnitNodes → List Surrounding → (earlier : List Fact) → (handle : ℕ) → Row
whole_row_at nodes surroundings earlier handle =
    whole_row_by (aggregates_before nodes surroundings earlier) nodes surroundings earlier handle (kind_at nodes handle)

-- node by node

abbrev pub with_whole_fact : UnitNodes → List Surrounding → (handle : ℕ) → List Fact → List Fact
with_whole_fact nodes surroundings handle facts = facts ++ (whole_row_at nodes surroundings facts handle).fact ∷ []

abbrev pub first_whole_facts : UnitNodes → List Surrounding → (count : ℕ) → List Fact
first_whole_facts nodes surroundings zero = []
first_whole_facts nodes surroundings (suc count) = with_whole_fact nodes surroundings count (first_whole_facts nodes surroundings count)

abbrev pub whole_facts_of : UnitNodes → List Surrounding → List Fact
whole_facts_of nodes surroundings = first_whole_facts nodes surroundings (length nodes)
