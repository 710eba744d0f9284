-- Attributes, one by one and together.
use Rattle.std.specs.Prelude.{ℕ, ℤ, max, Bool, true, false, Option, Some, None, List, [], ◌∷◌, ◌++◌}
use Rattle.meaning_types.specs.Types.{Space, NoSpace}
use Rattle.meaning_attributes.specs.Words.{Flag, NoderefFlag, BitwiseFlag, ForceFlag, PackedFlag, NoreturnFlag}

-- what a context attribute says of a function: the count with which it is entered, and that with which it is left
pub record FunctionContext : Type 0 where
  pub enters : ℤ
  pub leaves : ℤ

-- an attribute
pub data Attribute : Type 0 where
  HasSpace : Space → Attribute
  HasContext : FunctionContext → Attribute
  HasAlign : ℕ → Attribute
  HasFlag : Flag → Attribute

-- what the attributes that were read so far come to
pub record Attributes : Type 0 where
  pub space : Space
  pub noderef : Bool
  pub bitwise : Bool
  pub force : Bool
  -- in the order in which they stand
  pub contexts : List FunctionContext
  pub packed : Bool
  -- the largest alignment
  pub align : Option ℕ
  pub noreturn : Bool

-- no attribute
abbrev pub no_attributes : Attributes
no_attributes =
    record { space = NoSpace; noderef = false; bitwise = false; force = false; contexts = []; packed = false; align = None; noreturn = false }

-- the larger of two alignments
abbrev pub larger : Option ℕ → ℕ → ℕ
larger None align = align
larger (Some other) align = max other align

-- the attributes with a flag
abbrev pub with_flag : Attributes → Flag → Attributes
with_flag before NoderefFlag = record before { noderef = true }
with_flag before BitwiseFlag = record before { bitwise = true }
with_flag before ForceFlag = record before { force = true }
with_flag before PackedFlag = record before { packed = true }
with_flag before NoreturnFlag = record before { noreturn = true }

-- The attributes with one more. A later space replaces an earlier one, and the largest alignment counts.
abbrev pub with_attribute : Attributes → Attribute → Attributes
with_attribute before (HasSpace space) = record before { space = space }
with_attribute before (HasContext context) = record before { contexts = before.contexts ++ context ∷ [] }
with_attribute before (HasAlign align) = record before { align = Some (larger before.align align) }
with_attribute before (HasFlag flag) = with_flag before flag
