-- Trees of whole types as plain data, and the steps that make one.
use Rattle.std.specs.Prelude.{◌<◌, Bool, List, [], ◌∷◌, Some, None, length, map, reverse}
use Rattle.sparse_model.specs.declared.ctype.CType.{CType}
use Rattle.sparse_model.specs.declared.ctype.CBase.{CBase, Row_of-CType, end_of-CType, more_of-CType}
use Rattle.sparse_model.specs.declared.ctype.CBase.TheVariants as bases
use Rattle.sparse_model.specs.declared.space.Space.{Space}
use Rattle.meaning_types.specs.Types.{TypeTree, Typed, BaseTree, VoidTree, IntegerTree, RestrictedTree, PointerTree, ArrayTree, FunctionTree, AggregateTree, TypeTrees, NoTypes, MoreTypes}
use Rattle.c_types.specs.declared.shapes.OuterBase.{OuterBase}
use Rattle.c_types.specs.declared.shapes.OuterBase.TheVariants as outers
use Rattle.c_types.specs.declared.shapes.OuterShape.{OuterShape}
use Rattle.c_types.specs.declared.trees.Step.{Step}
use Rattle.c_types.specs.declared.trees.Step.TheVariants as steps
use Rattle.c_types.specs.Rows.{parameter_types, type_numbered}
use Rattle.c_types.specs.Table.{space_of}

-- a base with what stands beside it
abbrev pub with_marks : BaseTree → Bool → Bool → Bool → Space → TypeTree
with_marks base is_const is_volatile noderef space =
    Typed base (record { is_const = is_const; is_volatile = is_volatile }) (record { noderef = noderef; space = space_of space })

abbrev mutual
  -- what a type is, apart from its qualifiers and flags
  pub base_of_ctype : CBase → BaseTree
  base_of_ctype bases.Void = VoidTree
  base_of_ctype (bases.Integer kind None) = IntegerTree kind
  base_of_ctype (bases.Integer kind (Some identity)) = RestrictedTree kind identity.0
  base_of_ctype (bases.Pointer' at base c v n space) = PointerTree (with_marks (base_of_ctype base) c v n space)
  base_of_ctype (bases.Array' at base c v n space length) = ArrayTree (with_marks (base_of_ctype base) c v n space) length
  base_of_ctype (bases.Function' at base c v n space shape parameters variadic) =
      FunctionTree (with_marks (base_of_ctype base) c v n space) (parameters_seen parameters) variadic
  base_of_ctype (bases.Aggregate number is_union) = AggregateTree number is_union

  -- the types of parameters, in order
  pub parameters_seen : {m : _} → Row_of-CType m → TypeTrees
  parameters_seen end_of-CType = NoTypes
  parameters_seen (more_of-CType base c v n space rest) = MoreTypes (with_marks (base_of_ctype base) c v n space) (parameters_seen rest)

-- a type as a tree
abbrev pub tree_seen : CType → TypeTree
tree_seen type_ = with_marks (base_of_ctype type_.base) type_.is_const type_.is_volatile type_.noderef type_.space

-- Steps

-- types, and others behind them
abbrev pub joined_types : TypeTrees → TypeTrees → TypeTrees
joined_types NoTypes others = others
joined_types (MoreTypes type_ types) others = MoreTypes type_ (joined_types types others)

-- a function with further parameters; another type stays
abbrev pub with_parameters : TypeTree → TypeTrees → TypeTree
with_parameters (Typed (FunctionTree result parameters variadic) qualifiers flags) others =
    Typed (FunctionTree result (joined_types parameters others) variadic) qualifiers flags
with_parameters (Typed base qualifiers flags) others = Typed base qualifiers flags

-- a base around a type: that to which it points, of which it is an array, or which it gives
abbrev pub base_around : OuterBase → TypeTree → BaseTree
base_around outers.Void part = VoidTree
base_around (outers.Integer kind None) part = IntegerTree kind
base_around (outers.Integer kind (Some identity)) part = RestrictedTree kind identity.0
base_around (outers.Pointer target) part = PointerTree part
base_around (outers.Array element count) part = ArrayTree part count
base_around (outers.Function result count variadic) part = FunctionTree part NoTypes variadic
base_around (outers.Aggregate number is_union) part = AggregateTree number is_union

-- an outermost level around a type
abbrev pub around : OuterShape → TypeTree → TypeTree
around outer part = with_marks (base_around outer.base part) outer.is_const outer.is_volatile outer.noderef outer.space

-- what a step makes of the types that were made before it, the last one first
abbrev pub after_step : List TypeTree → Step → List TypeTree → List TypeTree
after_step types (steps.Make number) made = type_numbered types number ∷ made
after_step types (steps.Around outer) [] = []
after_step types (steps.Around outer) (part ∷ made) = around outer part ∷ made
after_step types (steps.Parameters number) [] = []
after_step types (steps.Parameters number) (function ∷ made) = with_parameters function (parameter_types (type_numbered types number)) ∷ made
after_step types steps.Append (parameter ∷ function ∷ made) = with_parameters function (MoreTypes parameter NoTypes) ∷ made
after_step types steps.Append made = []

-- what steps make, of which the last one is taken first
abbrev pub after_steps : List TypeTree → List Step → List TypeTree → List TypeTree
after_steps types [] made = made
after_steps types (step ∷ above) made = after_step types step (after_steps types above made)

-- the types that were made, the last one first
abbrev pub made_seen : List CType → List TypeTree
made_seen made = reverse (map tree_seen made)

-- the number in a step is that of a type
abbrev pub IsStepOver : List TypeTree → Step → Type 0
IsStepOver types (steps.Make number) = number < length types
IsStepOver types (steps.Parameters number) = number < length types
IsStepOver types step = Unit {0}
