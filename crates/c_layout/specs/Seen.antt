-- How answers are seen.
use Rattle.std.specs.Prelude.{Option, Some, None}
use Rattle.c_types.specs.Sizes as sizes
use Rattle.c_layout.specs.declared.members.FieldBits.{FieldBits}

-- the bits of a bit-field
abbrev pub field_seen : Option FieldBits → Option sizes.FieldBits
field_seen None = None
field_seen (Some bits) = Some (record { start = bits.start; width = bits.width })
