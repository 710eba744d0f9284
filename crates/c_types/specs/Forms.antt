-- What forms are, by their cases.
use Rattle.std.specs.Prelude.{ℕ, Bool, true, false, Option, Some, None}
use Rattle.vocabulary.specs.declared.int_kind.IntKind.{IntKind}
use Rattle.c_types.specs.declared.form.Form.{Form}
use Rattle.c_types.specs.declared.form.Form.TheVariants as forms
use Rattle.c_types.specs.declared.shapes.OuterBase.{OuterBase}
use Rattle.c_types.specs.declared.shapes.OuterBase.TheVariants as outers

-- the target of a pointer
abbrev pub target_in : Form → Option ℕ
target_in (forms.Pointer target) = Some target
target_in form = None

-- the element of an array
abbrev pub element_in : Form → Option ℕ
element_in (forms.Array element count) = Some element
element_in (forms.OpenArray element) = Some element
element_in form = None

-- the element of an array whose length isn't known
abbrev pub open_element_in : Form → Option ℕ
open_element_in (forms.OpenArray element) = Some element
open_element_in form = None

-- the element of an array, and its length if it is known
abbrev pub array_in : Form → Option (ℕ × Option ℕ)
array_in (forms.Array element count) = Some (element, Some count)
array_in (forms.OpenArray element) = Some (element, None)
array_in form = None

-- the one of two lengths that is known, if the other one isn't
abbrev pub only_length : Option ℕ → Option ℕ → Option ℕ
only_length None other = other
only_length (Some count) None = Some count
only_length (Some count) (Some other) = None

-- the array with another element
abbrev pub with_element : Form → ℕ → Form
with_element (forms.Array element count) other = forms.Array other count
with_element (forms.OpenArray element) other = forms.OpenArray other
with_element form other = form

-- the kind of an integer, restricted or not
abbrev pub kind_in : Form → Option IntKind
kind_in (forms.Integer kind) = Some kind
kind_in (forms.Restricted kind identity) = Some kind
kind_in form = None

-- the first parameter of a function, and the function without it
abbrev pub parameter_in : Form → Option (ℕ × ℕ)
parameter_in (forms.Parameter first rest) = Some (first, rest)
parameter_in form = None

-- the result of a function without parameters, and whether arguments may follow
abbrev pub function_in : Form → Option (ℕ × Bool)
function_in (forms.Function result variadic) = Some (result, variadic)
function_in form = None

-- what callers see of it, unless it is a function
abbrev pub outer_in : Form → Option OuterBase
outer_in forms.Void = Some outers.Void
outer_in (forms.Integer kind) = Some (outers.Integer kind None)
outer_in (forms.Restricted kind token) = Some (outers.Integer kind (Some (record { 0 = token })))
outer_in (forms.Pointer target) = Some (outers.Pointer (record { 0 = target }))
outer_in (forms.Array element count) = Some (outers.Array (record { 0 = element }) (Some count))
outer_in (forms.OpenArray element) = Some (outers.Array (record { 0 = element }) None)
outer_in (forms.Function result variadic) = None
outer_in (forms.Parameter first rest) = None
outer_in (forms.Aggregate token is_union) = Some (outers.Aggregate token is_union)

-- an array of so many elements, if the length is known
abbrev pub array_form : ℕ → Option ℕ → Form
array_form element (Some count) = forms.Array element count
array_form element None = forms.OpenArray element

-- it has qualifiers and flags of its own, unlike an array and a function
abbrev pub may_be_marked : Form → Bool
may_be_marked (forms.Array element count) = false
may_be_marked (forms.OpenArray element) = false
may_be_marked (forms.Function result variadic) = false
may_be_marked (forms.Parameter first rest) = false
may_be_marked form = true
