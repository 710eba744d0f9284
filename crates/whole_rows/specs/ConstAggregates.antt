-- Which aggregates of a table of types have a const member.
use Rattle.std.specs.Prelude.{◌≡◌, ℕ, nat_eq, Bool, List, [], ◌∷◌, ◌++◌}
use Rattle.std.specs.List.{list_any}
use Rattle.meaning_typing.specs.Aggregates.{is_const_within}
use Rattle.c_types.specs.declared.bodies.AggregateBody.{AggregateBody}
use Rattle.c_types.specs.declared.bodies.Member.{Member}
use Rattle.c_types.specs.Table.{TypeTable, type_at}
use Rattle.member_rows.specs.Aggregates.{aggregates_in}

-- the number is one of these
abbrev pub is_among : List ℕ → ℕ → Bool
is_among numbers number = list_any (nat_eq number) numbers

-- these are the aggregates of a table that have a const member
abbrev pub AreConst : TypeTable → List ℕ → Type 0
AreConst table numbers = (number : ℕ) → is_among numbers number ≡ (aggregates_in table).has_const number

-- a table that was told one body more
abbrev pub with_body : TypeTable → ℕ → AggregateBody → TypeTable
with_body table aggregate body = record { rows = table.rows; bodies = table.bodies ++ (aggregate, body) ∷ []; names = table.names }

-- one of these members can't be written whole
abbrev pub is_one_const : (ℕ → Bool) → TypeTable → List Member → Bool
is_one_const has_const table members = list_any (λ member. is_const_within has_const (type_at table member.of)) members
