-- Sorts of values, and what is asked of what pointers point to.
use Rattle.std.specs.Prelude.{ℕ, Bool, false, Option, Some, None, List, [], if◌then◌else◌}
use Rattle.vocabulary.specs.declared.int_kind.IntKind.{IntKind}
use Rattle.vocabulary.specs.declared.int_kind.IntKind.TheVariants.{Int}
use Rattle.vocabulary.specs.declared.operator.Operator.{Operator}
use Rattle.vocabulary.specs.declared.error_kind.ErrorKind.TheVariants.{IncompleteType}
use Rattle.meaning_types.specs.Types.{TypeTree}
use Rattle.meaning_types.specs.Conversions.{promoted, usual}
use Rattle.node_facts.specs.Constants.{is_comparison, is_shift}
use Rattle.meaning_layout.specs.Sizes as sizes
use Rattle.meaning_operands.specs.Failures.{Broken}
use Rattle.meaning_typing.specs.Operators as meaning
use Rattle.meaning_typing.specs.Rows.{breaks_at}
use Rattle.c_types.specs.declared.outline.Outline.{Outline}
use Rattle.c_types.specs.declared.outline.Outline.TheVariants as outlines
use Rattle.expression_rows.specs.declared.sort.ValueSort.{ValueSort}
use Rattle.expression_rows.specs.declared.sort.ValueSort.TheVariants as sorts

abbrev pub sort_seen : ValueSort → meaning.ValueSort
sort_seen sorts.Void = meaning.VoidSort
sort_seen (sorts.Integer kind) = meaning.IntegerSort kind
sort_seen sorts.Pointer = meaning.PointerSort
sort_seen sorts.Other = meaning.OtherSort

-- by what a type is
abbrev pub sort_in : Outline → meaning.ValueSort
sort_in outlines.Void = meaning.VoidSort
sort_in (outlines.Integer kind) = meaning.IntegerSort kind
sort_in (outlines.Restricted kind restrict) = meaning.IntegerSort kind
sort_in outlines.Pointer = meaning.PointerSort
sort_in outline = meaning.OtherSort

-- a test of what a pointer points to
abbrev pub target_if : (TypeTree → Bool) → Option TypeTree → Bool
target_if test None = false
target_if test (Some target) = test target

-- what moving a pointer breaks, by its target
abbrev pub target_broken_if : sizes.Told → (token : ℕ) → Option TypeTree → List Broken
target_broken_if told token None = []
target_broken_if told token (Some target) = if meaning.has_no_size told target then breaks_at IncompleteType token else []

-- the first one that is broken
abbrev pub first_of : Option Broken → Option Broken → Option Broken
first_of None otherwise = otherwise
first_of (Some broken) otherwise = Some broken

-- the kind of what two integers give of which no restricted type is kept
abbrev pub plain_kind : Operator → (kind other : IntKind) → IntKind
plain_kind operator kind other =
    if is_comparison operator then Int else (if is_shift operator then promoted kind else usual kind other)
