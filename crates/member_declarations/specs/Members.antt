-- Declarators of members by what is known of them.
use Rattle.std.specs.Prelude.{ℕ, Bool, List, [], Option, Some, None}
use Rattle.meaning_layout.specs.Sizes.{Told}
use Rattle.meaning_operands.specs.Failures.{Broken}
use Rattle.meaning_types.specs.Types.{TypeTree}
use Rattle.meaning_typing.specs.MemberRows.{member_broken}
use Rattle.meaning_typing.specs.Surroundings.{Surrounding, surrounding_at}

-- the list of members in which the declaration of a declarator stands
abbrev pub list_around : List Surrounding → (declarator : ℕ) → ℕ
list_around surroundings declarator = (surrounding_at surroundings (surrounding_at surroundings declarator).parent).parent

-- of what isn't known nothing is told
abbrev pub type_broken : Told → (token : ℕ) → (is_named may_be_flexible : Bool) → Option TypeTree → List Broken
type_broken told token is_named may_be_flexible None = []
type_broken told token is_named may_be_flexible (Some type_) = member_broken told token is_named may_be_flexible type_
