-- Parts of specifiers and enumerators, as they are looked up.
use Rattle.std.specs.Prelude.{ℕ, Bool, true, false, List, [], ◌∷◌, Option, Some, None, if◌then◌else◌}
use Rattle.std.specs.List.{flat_map}
use Rattle.meaning_typing.specs.EnumRows.{is_enumerator, is_expression_part}
use Rattle.meaning_typing.specs.Facts.{Fact, fact_at}
use Rattle.meaning_typing.specs.MemberDeclarations.{member_list}
use Rattle.meaning_typing.specs.Units.{UnitNodes, kind_at}

-- the lists of members among children
abbrev pub lists_among : UnitNodes → (handles : List ℕ) → List ℕ
lists_among nodes handles = flat_map (λ child. member_list (kind_at nodes child) child) handles

-- so many, where one was met or none
abbrev pub count_met : Bool → ℕ
count_met true = 1
count_met false = 0

-- the first part of an enumerator that is no list of attributes
abbrev pub expression_part : UnitNodes → (handles : List ℕ) → Option ℕ
expression_part nodes [] = None
expression_part nodes (handle ∷ handles) = if is_expression_part (kind_at nodes handle) then Some handle else expression_part nodes handles

-- what is known of a node, if it is an enumerator
abbrev pub enumerator_at : UnitNodes → List Fact → (handle : ℕ) → Option Fact
enumerator_at nodes facts handle = if is_enumerator (kind_at nodes handle) then Some (fact_at facts handle) else None
