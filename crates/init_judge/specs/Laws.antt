-- What a table knows of structures and unions.
use Rattle.meaning_initializers.specs.Parts.{aggregates_told}
use Rattle.c_types.specs.Table.{TypeTable}
use Rattle.member_rows.specs.Aggregates.{bodies_in}
use Rattle.initializer_levels.specs.Steps.{AreKnownIn}

-- it knows those whose bodies it was told
abbrev pub TablesKnowAggregates : Type 0
TablesKnowAggregates = (table : TypeTable) → AreKnownIn table (aggregates_told (bodies_in table))
