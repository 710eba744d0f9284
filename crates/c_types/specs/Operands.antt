-- How operands and identities are seen.
use Rattle.std.specs.Prelude.{ℕ, Option, option_map}
use Rattle.sparse_model.specs.declared.ids.Restrict.{Restrict}
use Rattle.c_types.specs.declared.operand.Operand.{Operand}
use Rattle.c_types.specs.Table.{TypeTable, type_at}
use Rattle.meaning_operands.specs.Operands as meaning

-- an operand with its type as a tree
abbrev pub typed_operand : TypeTable → Operand → meaning.Operand
typed_operand table operand = record { of = type_at table operand.of; fouled = operand.fouled; zero = operand.zero }

-- an identity by its token
abbrev pub identity_seen : Option Restrict → Option ℕ
identity_seen restrict = option_map (λ r. r.0) restrict
