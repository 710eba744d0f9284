-- What types and forms are, apart from the types in them.
use Rattle.std.specs.Prelude.{ℕ, Bool, true, false, Option, Some, None}
use Rattle.sparse_model.specs.declared.ids.Restrict.{Restrict}
use Rattle.meaning_types.specs.Types.{Flags, TypeTree, Typed, VoidTree, IntegerTree, RestrictedTree, PointerTree, ArrayTree, FunctionTree, AggregateTree}
use Rattle.c_types.specs.declared.form.Form.{Form}
use Rattle.c_types.specs.declared.form.Form.TheVariants as forms
use Rattle.c_types.specs.declared.form.Shape.{Shape}
use Rattle.c_types.specs.declared.outline.Outline.{Outline}
use Rattle.c_types.specs.declared.outline.Outline.TheVariants as outlines
use Rattle.c_types.specs.Rows.{flags_in}

-- what a type is
abbrev pub outline_of : TypeTree → Outline
outline_of (Typed VoidTree _ _) = outlines.Void
outline_of (Typed (IntegerTree kind) _ _) = outlines.Integer kind
outline_of (Typed (RestrictedTree kind identity) _ _) = outlines.Restricted kind (record { 0 = identity })
outline_of (Typed (PointerTree target) _ _) = outlines.Pointer
outline_of (Typed (ArrayTree element length) _ _) = outlines.Array
outline_of (Typed (FunctionTree result parameters variadic) _ _) = outlines.Function
outline_of (Typed (AggregateTree number is_union) _ _) = outlines.Aggregate number is_union

-- what a type of this form is
abbrev pub outline_in : Form → Outline
outline_in forms.Void = outlines.Void
outline_in (forms.Integer kind) = outlines.Integer kind
outline_in (forms.Restricted kind token) = outlines.Restricted kind (record { 0 = token })
outline_in (forms.Pointer target) = outlines.Pointer
outline_in (forms.Array element count) = outlines.Array
outline_in (forms.OpenArray element) = outlines.Array
outline_in (forms.Function result variadic) = outlines.Function
outline_in (forms.Parameter first rest) = outlines.Function
outline_in (forms.Aggregate token is_union) = outlines.Aggregate token is_union

-- the identity of a restricted integer type
abbrev pub restrict_in : Outline → Option Restrict
restrict_in (outlines.Restricted kind restrict) = Some restrict
restrict_in outline = None

-- an aggregate, and whether it is a union
abbrev pub aggregate_in : Outline → Option (ℕ × Bool)
aggregate_in (outlines.Aggregate number is_union) = Some (number, is_union)
aggregate_in outline = None

abbrev pub is_void_outline : Outline → Bool
is_void_outline outlines.Void = true
is_void_outline outline = false

abbrev pub is_pointer_outline : Outline → Bool
is_pointer_outline outlines.Pointer = true
is_pointer_outline outline = false

-- the flags of the outermost level
abbrev pub flags_in_shape : Shape → Flags
flags_in_shape shape = flags_in shape.marks
