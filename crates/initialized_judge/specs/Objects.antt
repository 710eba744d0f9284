-- What a node initializes, as it is kept: its type is a number of a table.
use Rattle.c_types.specs.Table.{IsTypeId, TypeTable, type_at}
use Rattle.meaning_initialized.specs.Initialized as meaning
use Rattle.initialized_judge.specs.declared.objects.Initialized.{Initialized}
use Rattle.initialized_judge.specs.declared.objects.Initialized.TheVariants as kept

abbrev pub object_seen : TypeTable → Initialized → meaning.Initialized
object_seen table kept.NoObject = meaning.NoObject
object_seen table kept.NoPlace = meaning.NoPlace
object_seen table kept.Incomplete = meaning.Incomplete
object_seen table (kept.AnObject of is_static) = meaning.AnObject (type_at table of) is_static

-- its type is of the table
abbrev pub IsKnownObject : TypeTable → Initialized → Type 0
IsKnownObject table kept.NoObject = Unit {0}
IsKnownObject table kept.NoPlace = Unit {0}
IsKnownObject table kept.Incomplete = Unit {0}
IsKnownObject table (kept.AnObject of is_static) = IsTypeId table of
