-- `.` by the member that was found, and `->` by the type to which its operand points.
use Rattle.std.specs.Prelude.{ℕ, List, ◌++◌, Option, Some, None}
use Rattle.vocabulary.specs.declared.error_kind.ErrorKind.TheVariants.{CannotDereference, NoSuchMember}
use Rattle.meaning_types.specs.Types.{Qualifiers, Flags, TypeTree}
use Rattle.meaning_layout.specs.Members.{FoundMember}
use Rattle.meaning_typing.specs.Aggregates.{KnownAggregates}
use Rattle.meaning_typing.specs.Facts.{ExpressionFact}
use Rattle.meaning_typing.specs.Members.{pointed_to, selected_from, selection_of}
use Rattle.meaning_typing.specs.Rows.{Row, breaks, breaks_at, breaks_named, void_used}

-- where there is a member with this name or not
abbrev pub selected_if_any : (token : ℕ) → (name : List ℕ) → ExpressionFact → Qualifiers → Flags → Option FoundMember → Row
selected_if_any token name aggregate qualifiers flags None = breaks (breaks_named NoSuchMember token name)
selected_if_any token name aggregate qualifiers flags (Some found) = selected_from token aggregate qualifiers flags found

abbrev pub pointed_by_target : KnownAggregates → (token operand : ℕ) → (name : List ℕ) → ExpressionFact → (target : Option TypeTree) → Row
pointed_by_target aggregates token operand name expression (Some target) = pointed_to token name (selection_of aggregates name target)
pointed_by_target aggregates token operand name expression None = breaks (breaks_at CannotDereference token ++ void_used operand expression)
