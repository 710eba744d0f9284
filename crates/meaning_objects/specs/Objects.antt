-- Objects and functions (C11 6.2.2 p2): all declarations of one name with linkage are of one, which goes by the handle of the first
-- of them. Any other declarator goes by its own.
use Rattle.std.specs.Prelude.{ℕ, ◌+◌, Bool, true, false, ◌&&◌, not, nat_eq, List, [], ◌∷◌, Option, Some, None, if◌then◌else◌}
use Rattle.meaning_typing.specs.Facts.{Fact, Declared, fact_at}
use Rattle.meaning_typing.specs.Declarators.{is_function}
use Rattle.meaning_typing.specs.Names.{links_name}

-- Objects

abbrev pub handle_if : Bool → (handle : ℕ) → Option ℕ → Option ℕ
handle_if true handle others = Some handle
handle_if false handle others = others

abbrev pub handle_or : (otherwise : ℕ) → Option ℕ → ℕ
handle_or otherwise None = otherwise
handle_or otherwise (Some handle) = handle

-- the first declaration of this name with linkage, where the first of these facts has this handle
abbrev pub first_linked : (name : List ℕ) → (first : ℕ) → List Fact → Option ℕ
first_linked name first [] = None
first_linked name first (Declared declaration ∷ facts) = handle_if (links_name name declaration) first (first_linked name (first + 1) facts)
first_linked name first (fact ∷ facts) = first_linked name (first + 1) facts

abbrev pub object_declared : List Fact → (declarator : ℕ) → Fact → ℕ
object_declared facts declarator (Declared declaration) =
    if declaration.has_linkage then handle_or declarator (first_linked declaration.name 0 facts) else declarator
object_declared facts declarator fact = declarator

-- what a declarator declares: an object, a function, or what has no linkage
abbrev pub object_of : List Fact → (declarator : ℕ) → ℕ
object_of facts declarator = object_declared facts declarator (fact_at facts declarator)

abbrev pub are_one_object : List Fact → (declarator other : ℕ) → Bool
are_one_object facts declarator other = nat_eq (object_of facts declarator) (object_of facts other)

-- Functions

-- its type is a function's, which a typedef may have named (6.7.6.3)
abbrev pub is_function_declaration : Fact → Bool
is_function_declaration (Declared declaration) = not declaration.is_typedef && is_function declaration.type_
is_function_declaration fact = false
