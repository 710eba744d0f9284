-- The rows of the table: each is a type's outermost level over earlier types, with the numbers of what is left of it.
use Rattle.std.specs.Prelude.{◌≡◌, ℕ, ◌<◌, ◌≤◌, ◌^◌, Bool, false, List, [], ◌∷◌, ◌++◌, Option, Some, None, if◌then◌else◌, length, slice_get, unwrap_or}
use Rattle.meaning_types.specs.Types.{Space, NoSpace, NumberedSpace, NamedSpace, Qualifiers, Flags, TypeTree, Typed, BaseTree, VoidTree, IntegerTree, RestrictedTree, PointerTree, ArrayTree, FunctionTree, AggregateTree, TypeTrees, NoTypes, MoreTypes, no_qualifiers, no_flags, bare, without_flags}
use Rattle.meaning_types.specs.Equality.{are_same}
use Rattle.meaning_types.specs.Marks.{IsNormal}
use Rattle.sparse_model.specs.declared.ids.TypeId.{TypeId}
use Rattle.c_types.specs.declared.form.SpaceKey.{SpaceKey}
use Rattle.c_types.specs.declared.form.SpaceKey.TheVariants as keys
use Rattle.c_types.specs.declared.form.Form.{Form}
use Rattle.c_types.specs.declared.form.Form.TheVariants as forms
use Rattle.c_types.specs.declared.form.Shape.{Shape}
use Rattle.c_types.specs.declared.form.MarkWords.{MarkWords}
use Rattle.c_types.specs.declared.form.Marks.{Marks}
use Rattle.c_types.specs.declared.form.Marks.TheVariants as marked
use Rattle.c_types.specs.declared.form.Reduced.{Reduced}
use Rattle.c_types.specs.declared.form.TypeFacts.{TypeFacts}
use Rattle.c_types.specs.Elements.{AreElements}

-- a row: a shape, and what is kept beside it
abbrev pub Row : Type 0
Row = Shape × TypeFacts

-- void, which stands for a type that isn't there
abbrev pub no_type : TypeTree
no_type = Typed VoidTree no_qualifiers no_flags

-- the type with this number
abbrev pub type_numbered : List TypeTree → ℕ → TypeTree
type_numbered types number = unwrap_or (slice_get types number) no_type

-- what a type is, apart from its qualifiers and flags
abbrev pub base_of : TypeTree → BaseTree
base_of (Typed base qualifiers flags) = base

-- The parts of a function type; of another type they say nothing

abbrev pub result_of : TypeTree → TypeTree
result_of (Typed (FunctionTree result parameters variadic) _ _) = result
result_of (Typed base _ _) = no_type

abbrev pub parameter_types : TypeTree → TypeTrees
parameter_types (Typed (FunctionTree result parameters variadic) _ _) = parameters
parameter_types (Typed base _ _) = NoTypes

abbrev pub is_variadic : TypeTree → Bool
is_variadic (Typed (FunctionTree result parameters variadic) _ _) = variadic
is_variadic (Typed base _ _) = false

-- a function type without qualifiers and flags
abbrev pub IsFunction : TypeTree → Type 0
IsFunction type_ = type_ ≡ Typed (FunctionTree (result_of type_) (parameter_types type_) (is_variadic type_)) no_qualifiers no_flags

-- Shapes

-- a name is seen as its number alone
abbrev pub space_seen : SpaceKey → Space
space_seen keys.Absent = NoSpace
space_seen (keys.Number number) = NumberedSpace number
space_seen (keys.Named name) = NamedSpace (name ∷ [])

-- all marks but the space
abbrev pub words_in : Marks → MarkWords
words_in (marked.WithoutSpace words) = words
words_in (marked.Numbered words number) = words
words_in (marked.Named words name) = words

abbrev pub space_in : Marks → SpaceKey
space_in (marked.WithoutSpace words) = keys.Absent
space_in (marked.Numbered words number) = keys.Number number
space_in (marked.Named words name) = keys.Named name

abbrev pub no_marks : Marks
no_marks = marked.WithoutSpace (record { is_const = false; is_volatile = false; noderef = false })

abbrev pub qualifiers_in : Marks → Qualifiers
qualifiers_in marks = record { is_const = (words_in marks).is_const; is_volatile = (words_in marks).is_volatile }

abbrev pub flags_in : Marks → Flags
flags_in marks = record { noderef = (words_in marks).noderef; space = space_seen (space_in marks) }

-- the base of a form over these types
abbrev pub form_seen : List TypeTree → Form → BaseTree
form_seen types forms.Void = VoidTree
form_seen types (forms.Integer kind) = IntegerTree kind
form_seen types (forms.Restricted kind identity) = RestrictedTree kind identity
form_seen types (forms.Pointer target) = PointerTree (type_numbered types target)
form_seen types (forms.Array element count) = ArrayTree (type_numbered types element) (Some count)
form_seen types (forms.OpenArray element) = ArrayTree (type_numbered types element) None
form_seen types (forms.Function result variadic) = FunctionTree (type_numbered types result) NoTypes variadic
form_seen types (forms.Parameter first rest) =
    FunctionTree (result_of (type_numbered types rest)) (MoreTypes (type_numbered types first) (parameter_types (type_numbered types rest)))
    (is_variadic (type_numbered types rest))
form_seen types (forms.Aggregate number is_union) = AggregateTree number is_union

-- the type of a shape over these types
abbrev pub type_seen : List TypeTree → Shape → TypeTree
type_seen types shape = Typed (form_seen types shape.form) (qualifiers_in shape.marks) (flags_in shape.marks)

-- the types with these ids, in order
abbrev pub types_numbered : List TypeTree → List TypeId → TypeTrees
types_numbered types [] = NoTypes
types_numbered types (id ∷ ids) = MoreTypes (type_numbered types id.0) (types_numbered types ids)

-- a function with this result and these parameters
abbrev pub function_numbered : List TypeTree → ℕ → List TypeId → Bool → TypeTree
function_numbered types answer parameters variadic =
    Typed (FunctionTree (type_numbered types answer) (types_numbered types parameters) variadic) no_qualifiers no_flags

-- an array of such elements
abbrev pub array_numbered : List TypeTree → ℕ → Option ℕ → TypeTree
array_numbered types element count = Typed (ArrayTree (type_numbered types element) count) no_qualifiers no_flags

-- an array of this length, if there is one, where the other type is the same as its element
abbrev pub array_if_same : TypeTree → TypeTree → Option ℕ → Option TypeTree
array_if_same element other None = None
array_if_same element other (Some count) =
    if are_same element other then Some (Typed (ArrayTree element (Some count)) no_qualifiers no_flags) else None

-- the numbers in a form are those of types, and a parameter is added to a function
abbrev pub IsInside : List TypeTree → Form → Type 0
IsInside types forms.Void = Unit {0}
IsInside types (forms.Integer kind) = Unit {0}
IsInside types (forms.Restricted kind identity) = Unit {0}
IsInside types (forms.Pointer target) = target < length types
IsInside types (forms.Array element count) = element < length types
IsInside types (forms.OpenArray element) = element < length types
IsInside types (forms.Function result variadic) = result < length types
IsInside types (forms.Parameter first rest) = (first < length types) × (rest < length types) × IsFunction (type_numbered types rest)
IsInside types (forms.Aggregate number is_union) = Unit {0}

-- the numbers in a form are below this one
abbrev pub IsEarlier : ℕ → Form → Type 0
IsEarlier number forms.Void = Unit {0}
IsEarlier number (forms.Integer kind) = Unit {0}
IsEarlier number (forms.Restricted kind identity) = Unit {0}
IsEarlier number (forms.Pointer target) = target < number
IsEarlier number (forms.Array element count) = element < number
IsEarlier number (forms.OpenArray element) = element < number
IsEarlier number (forms.Function result variadic) = result < number
IsEarlier number (forms.Parameter first rest) = (first < number) × (rest < number)
IsEarlier number (forms.Aggregate token is_union) = Unit {0}

-- Rows

-- the types of these rows, behind those that stand already
unfoldable pub types_behind : List TypeTree → List Row → List TypeTree
types_behind types [] = types
types_behind types (row ∷ rows) = types_behind (types ++ type_seen types row.0 ∷ []) rows

-- the types of all rows, in the order of their numbers
abbrev pub types_of : List Row → List TypeTree
types_of rows = types_behind [] rows

-- the row is right among these types, where the type of its shape stands at this number
pub record IsRow (types : List TypeTree) (number : ℕ) (row : Row) : Type 0 where
  pub stands : slice_get types number ≡ Some (type_seen types row.0)
  pub inside : IsInside types row.0.form
  pub earlier : IsEarlier number row.0.form
  pub normal : IsNormal (type_seen types row.0)
  pub bare_stands : slice_get types row.1.bare ≡ Some (bare (type_seen types row.0))
  pub plain_stands : slice_get types row.1.plain ≡ Some (without_flags (bare (type_seen types row.0)))
  pub elements : AreElements (form_seen types row.0.form) row.1.elements

-- equal types have one number
abbrev pub StandOnce : List TypeTree → Type 0
StandOnce types = (i j : ℕ) (type_ : TypeTree) → slice_get types i ≡ Some type_ → slice_get types j ≡ Some type_ → i ≡ j

-- each row is right, and each type stands once
pub record AreRows (rows : List Row) : Type 0 where
  pub each : (number : ℕ) (row : Row) → slice_get rows number ≡ Some row → IsRow (types_of rows) number row
  pub apart : StandOnce (types_of rows)
  pub few : length rows ≤ 2 ^ 30

-- the later rows are the old ones with more behind them
abbrev pub Grows : List Row → List Row → Type 0
Grows old new = (more : List Row) × (new ≡ old ++ more)

-- a shape may join these rows
pub record MayJoin (rows : List Row) (shape : Shape) : Type 0 where
  pub inside : IsInside (types_of rows) shape.form
  pub normal : IsNormal (type_seen (types_of rows) shape)

-- so it joins as a right row: what is left of its type stands, or is the type itself
pub record JoinsRight (rows : List Row) (shape : Shape) (reduced : Reduced) : Type 0 where
  pub bare_stands :
      slice_get (types_of rows ++ type_seen (types_of rows) shape ∷ []) reduced.bare ≡ Some (bare (type_seen (types_of rows) shape))
  pub plain_stands :
      slice_get (types_of rows ++ type_seen (types_of rows) shape ∷ []) reduced.plain
      ≡ Some (without_flags (bare (type_seen (types_of rows) shape)))
