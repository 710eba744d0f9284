-- Sums that are gathered attribute by attribute, from the first to the last.
use Rattle.std.specs.Prelude.{ℕ, ◌-◌, List, [], ◌∷◌, ◌++◌, Option}
use Rattle.std.specs.List.{flat_map}
use Rattle.meaning_typing.specs.ContextSums.{ContextSums, part_attributes, sums_before}
use Rattle.meaning_typing.specs.Declarators.{leading_lists, lists_behind}
use Rattle.meaning_typing.specs.Specifiers.{attributes_among}
use Rattle.meaning_typing.specs.Tags.{attributes_of_specifiers}
use Rattle.meaning_typing.specs.Units.{UnitNodes, child_at, children_at, kind_at}

-- these sums, and what attributes add
abbrev pub sums_over : UnitNodes → Option ContextSums → (attributes : List ℕ) → Option ContextSums
sums_over nodes sums [] = sums
sums_over nodes sums (handle ∷ handles) = sums_over nodes (sums_before nodes (kind_at nodes handle) handle sums) handles

-- in parentheses around parts of a declarator
abbrev pub attributes_of_parts : UnitNodes → (parts : List ℕ) → List ℕ
attributes_of_parts nodes parts = flat_map (λ part. part_attributes nodes (kind_at nodes part) part) parts

-- those of a declarator that stands here
abbrev pub attributes_standing : UnitNodes → (declarator parent place : ℕ) → List ℕ
attributes_standing nodes declarator parent place =
    attributes_of_specifiers nodes (children_at nodes (child_at nodes parent 0))
    ++ attributes_among nodes
    (leading_lists (kind_at nodes (child_at nodes parent (place - 1))) (children_at nodes (child_at nodes parent (place - 1))))
    ++ attributes_of_parts nodes (children_at nodes declarator)
    ++ attributes_among nodes (lists_behind nodes parent place)
