-- What an object takes whole, by what it has for parts.
use Rattle.std.specs.Prelude.{Bool, false, ◌&&◌, nat_eq}
use Rattle.meaning_types.specs.Equality.{are_equal_bools}
use Rattle.meaning_initializers.specs.Parts.{is_character}
use Rattle.c_types.specs.declared.outline.Outline.{Outline}
use Rattle.c_types.specs.declared.outline.Outline.TheVariants as outlines
use Rattle.c_types.specs.Outlines.{outline_of}
use Rattle.c_types.specs.Table.{TypeTable, type_at}
use Rattle.node_facts.specs.declared.fact.NodeFact.{NodeFact}
use Rattle.node_facts.specs.declared.fact.NodeFact.TheVariants as facts
use Rattle.initializer_levels.specs.declared.parts.Parts.{Parts}
use Rattle.initializer_levels.specs.declared.parts.Parts.TheVariants as parts
use Rattle.initializer_levels.specs.Parts.{Elements, Itself, Members, PartsTree}

abbrev pub is_character_outline : Outline → Bool
is_character_outline (outlines.Integer kind) = is_character kind
is_character_outline outline = false

abbrev pub are_characters : PartsTree → Bool
are_characters (Elements element count) = is_character_outline (outline_of element)
are_characters (Members number is_union) = false
are_characters Itself = false

-- the same aggregate
abbrev pub is_one_of : Parts → Outline → Bool
is_one_of (parts.Members number is_union) (outlines.Aggregate other is_other_union) = nat_eq number other && are_equal_bools is_union is_other_union
is_one_of (parts.Members number is_union) outline = false
is_one_of (parts.Elements element count) outline = false
is_one_of parts.Itself outline = false

abbrev pub one_of_parts : PartsTree → Outline → Bool
one_of_parts (Members number is_union) (outlines.Aggregate other is_other_union) = nat_eq number other && are_equal_bools is_union is_other_union
one_of_parts (Members number is_union) outline = false
one_of_parts (Elements element count) outline = false
one_of_parts Itself outline = false

abbrev pub value_by : TypeTable → Parts → NodeFact → Bool
value_by table of (facts.Expression expression) = is_one_of of (outline_of (type_at table expression.node.of))
value_by table of fact = false
