-- `->` is `.` behind `*`, and anonymous members are steps.
use Rattle.std.proofs.Common.{◌≡◌, ℕ, Bool, true, false, ◌||◌, List, Some, None, refl, subst}
use Rattle.meaning_types.specs.Types.{Space, NoSpace, NumberedSpace, NamedSpace, Qualifiers, Flags, TypeTree}
use Rattle.meaning_types.specs.Marks.{both, later_space, member_type, with_flags}
use Rattle.meaning_typing.specs.Facts.{place}
use Rattle.meaning_typing.specs.Expressions.{indirection_of}
use Rattle.meaning_typing.specs.Members.{Selection, NotAggregate, NotComplete, Selected, member_row, pointed_by, pointed_to, selected, selection_of}
use Rattle.meaning_typing.specs.laws.Members.{AnonymousMembersAreSteps, ArrowIsDotOfStar}

pointed-selected : (token star : ℕ) (name : List ℕ) (target : TypeTree) (selection : Selection)
    → pointed_to token name selection ≡ selected token star name (place target) selection
pointed-selected token star name target NotAggregate = refl
pointed-selected token star name target NotComplete = refl
pointed-selected token star name target (Selected qualifiers flags None) = refl
pointed-selected token star name target (Selected qualifiers flags (Some found)) = refl

pub arrow_is_dot_of_star : ArrowIsDotOfStar
arrow_is_dot_of_star aggregates token star operand name pointer target qualifiers flags equal =
    subst
    (λ type_. pointed_by aggregates token operand name pointer type_ ≡ member_row aggregates token star name (indirection_of star operand pointer type_).fact)
    equal (pointed-selected token star name target (selection_of aggregates name target))

or-assoc : (x y z : Bool) → (x || (y || z)) ≡ ((x || y) || z)
or-assoc true y z = refl
or-assoc false y z = refl

spaces-assoc : (one two three : Space) → later_space one (later_space two three) ≡ later_space (later_space one two) three
spaces-assoc one two NoSpace = refl
spaces-assoc one two (NumberedSpace number) = refl
spaces-assoc one two (NamedSpace name) = refl

both-assoc : (one two three : Qualifiers) → both one (both two three) ≡ both (both one two) three
both-assoc one two three = λ i.
    record { is_const = or-assoc one.is_const two.is_const three.is_const i; is_volatile = or-assoc one.is_volatile two.is_volatile three.is_volatile i }

flags-assoc : (one two three : Flags) → with_flags one (with_flags two three) ≡ with_flags (with_flags one two) three
flags-assoc one two three = λ i.
    record { noderef = or-assoc one.noderef two.noderef three.noderef i; space = spaces-assoc one.space two.space three.space i }

pub anonymous_members_are_steps : AnonymousMembersAreSteps
anonymous_members_are_steps qualifiers between flags marks place layout found = λ i.
    member_type (both-assoc qualifiers between found.qualifiers i) (flags-assoc flags marks found.flags i) found.of
