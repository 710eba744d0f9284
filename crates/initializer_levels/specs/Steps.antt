-- What a designator names, over a table of types.
use Rattle.std.specs.Prelude.{◌≡◌, ℕ, ℤ, pos, negsuc, false, is_some, List, slice_get, Option, Some, None, if◌then◌else◌}
use Rattle.std.specs.Str.{bytes_eq}
use Rattle.sparse_model.specs.declared.ids.NameId.{NameId}
use Rattle.sparse_model.specs.declared.ids.TypeId.{TypeId}
use Rattle.meaning_types.specs.Types.{TypeTree}
use Rattle.meaning_layout.specs.Members.{FoundMember, named_member}
use Rattle.meaning_typing.specs.Facts.{Fact, Expression}
use Rattle.meaning_initializers.specs.Parts as meaning
use Rattle.meaning_initializers.specs.Designators as steps
use Rattle.meaning_initializers.specs.Designators.{is_index, step_by_number, step_into, step_to_member}
use Rattle.c_types.specs.declared.bodies.Member.{Member}
use Rattle.c_types.specs.Members.{member_in}
use Rattle.c_types.specs.Table.{TypeTable}
use Rattle.node_facts.specs.Facts.{name_seen}
use Rattle.initializer_levels.specs.declared.steps.Index.{Index}
use Rattle.initializer_levels.specs.declared.steps.Index.TheVariants as indexes
use Rattle.initializer_levels.specs.declared.steps.Step.{Step}
use Rattle.initializer_levels.specs.declared.steps.Step.TheVariants as kept
use Rattle.initializer_levels.specs.Parts.{AreMembersIn, Elements, IsKnownPart, Itself, Members, PartsTree, member_type, members_in, part_seen}

abbrev pub step_seen : TypeTable → Step → steps.Step
step_seen table (kept.ToPart part) = steps.ToPart (part_seen table part)
step_seen table (kept.Into part) = steps.Into (part_seen table part)
step_seen table kept.NoPart = steps.NoPart
step_seen table kept.Unknown = steps.Unknown

-- its part is of the table
abbrev pub IsKnownStep : TypeTable → Step → Type 0
IsKnownStep table (kept.ToPart part) = IsKnownPart table part
IsKnownStep table (kept.Into part) = IsKnownPart table part
IsKnownStep table kept.NoPart = Unit {0}
IsKnownStep table kept.Unknown = Unit {0}

-- this is what the table knows of structures and unions; a name is its number alone
pub record AreKnownIn (table : TypeTable) (aggregates : meaning.Aggregates) : Type 0 where
  pub members : AreMembersIn table aggregates
  pub names : (number : ℕ) (name : NameId) → named_member bytes_eq (aggregates.names number) (name_seen name) ≡ member_in table number name

-- Members

abbrev pub member_step : (place : ℕ) → Member → Step
member_step place member =
    if is_some member.name then kept.ToPart (record { number = place; of = member_type member }) else kept.Into (record { number = place; of = member_type member })

abbrev pub step_to_one : (place : ℕ) → Option Member → Step
step_to_one place None = kept.NoPart
step_to_one place (Some member) = member_step place member

abbrev pub member_in_body : List Member → (place : ℕ) → Step
member_in_body members place = step_to_one place (slice_get members place)

-- to the member at this place
abbrev pub named_by : TypeTable → (aggregate place : ℕ) → steps.Step
named_by table aggregate place = step_into place (slice_get (members_in table aggregate) place)

-- to what a name was found to name
abbrev pub found_by : TypeTable → (aggregate : ℕ) → Option FoundMember → steps.Step
found_by table aggregate found = step_to_member (members_in table aggregate) found

-- by what the object has for parts
abbrev pub step_by_name : TypeTable → PartsTree → NameId → steps.Step
step_by_name table (Members aggregate is_union) name = found_by table aggregate (member_in table aggregate name)
step_by_name table (Elements element count) name = steps.NoPart
step_by_name table Itself name = steps.NoPart

-- Elements

abbrev pub index_of : Fact → Index
index_of (Expression expression) = indexes.Known expression.constant
index_of fact = indexes.Unknown

abbrev pub magnitude_kept : (element : TypeId) → (count : Option ℕ) → (index : ℕ) → Step
magnitude_kept element count index =
    if is_index index count then kept.ToPart (record { number = index; of = record { of = element; is_member = false } }) else kept.NoPart

abbrev pub number_kept : (element : TypeId) → (count : Option ℕ) → ℤ → Step
number_kept element count (pos index) = magnitude_kept element count index
number_kept element count (negsuc index) = kept.NoPart

abbrev pub index_kept : (element : TypeId) → (count : Option ℕ) → Index → Step
index_kept element count indexes.Unknown = kept.Unknown
index_kept element count (indexes.Known None) = kept.NoPart
index_kept element count (indexes.Known (Some number)) = number_kept element count number

abbrev pub index_step : (element : TypeTree) → (count : Option ℕ) → Index → steps.Step
index_step element count indexes.Unknown = steps.Unknown
index_step element count (indexes.Known number) = step_by_number element count number

-- by what the object has for parts
abbrev pub step_by_index : PartsTree → Index → steps.Step
step_by_index (Elements element count) index = index_step element count index
step_by_index (Members aggregate is_union) index = steps.NoPart
step_by_index Itself index = steps.NoPart
