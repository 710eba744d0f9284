-- What holds of members in expressions.
use Rattle.std.specs.Prelude.{◌≡◌, ℕ, List, Result}
use Rattle.meaning_types.specs.Types.{Qualifiers, Flags, TypeTree, Typed, PointerTree}
use Rattle.meaning_types.specs.Marks.{both, with_flags}
use Rattle.meaning_layout.specs.Layouts.{Layout, LayoutFault}
use Rattle.meaning_layout.specs.Members.{FoundMember, anonymous_member}
use Rattle.meaning_typing.specs.Facts.{Expression, ExpressionFact, type_of_value}
use Rattle.meaning_typing.specs.Expressions.{indirection_row}
use Rattle.meaning_typing.specs.Aggregates.{KnownAggregates}
use Rattle.meaning_typing.specs.Members.{member_row, pointer_member_row, type_of_member}

-- `x->a` says of a pointer x what `(*x).a` says
abbrev pub ArrowIsDotOfStar : Type 0
ArrowIsDotOfStar =
    (aggregates : KnownAggregates) (token star operand : ℕ) (name : List ℕ) (pointer : ExpressionFact)
    (target : TypeTree) (qualifiers : Qualifiers) (flags : Flags)
    → Typed (PointerTree target) qualifiers flags ≡ type_of_value pointer
    → pointer_member_row aggregates token operand name (Expression pointer)
    ≡ member_row aggregates token star name (indirection_row star operand (Expression pointer)).fact

-- a member of an anonymous member has the type that it has where that one is selected first
abbrev pub AnonymousMembersAreSteps : Type 0
AnonymousMembersAreSteps =
    (qualifiers between : Qualifiers) (flags marks : Flags) (place : ℕ) (layout : Result Layout LayoutFault) (found : FoundMember)
    → type_of_member qualifiers flags (anonymous_member place layout between marks found)
    ≡ type_of_member (both qualifiers between) (with_flags flags marks) found
