-- Declarators behind what their specifiers say.
use Rattle.std.specs.Prelude.{ℕ, List, ◌++◌, Some}
use Rattle.meaning_layout.specs.Sizes.{Told}
use Rattle.meaning_operands.specs.Failures.{Broken}
use Rattle.meaning_typing.specs.DeclarationRows.{large_parts_of, made_by_parts, own_bitwise_broken, parts_broken}
use Rattle.meaning_typing.specs.Facts.{Fact, SpecifiedFact}
use Rattle.meaning_typing.specs.Surroundings.{Surrounding}
use Rattle.meaning_typing.specs.Units.{UnitNodes, node_at}

-- what these parts and the attributes around them break
abbrev pub broken_behind : Told → UnitNodes → List Fact → (parts : List ℕ) → Surrounding → SpecifiedFact → List Broken
broken_behind told nodes facts parts surrounding specifiers =
    parts_broken told nodes facts (node_at nodes surrounding.parent).token parts (Some specifiers.type_)
    ++ own_bitwise_broken nodes surrounding.parent surrounding.place
    (made_by_parts told nodes facts (node_at nodes surrounding.parent).token parts (Some specifiers.type_))

-- the tokens of these parts that are too large
abbrev pub large_behind : Told → UnitNodes → List Fact → (parent : ℕ) → (parts : List ℕ) → SpecifiedFact → List ℕ
large_behind told nodes facts parent parts specifiers = large_parts_of told nodes facts (node_at nodes parent).token parts (Some specifiers.type_)
