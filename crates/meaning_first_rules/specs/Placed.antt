-- The statements of items of the first form, each with where it stands and what is declared before it.
use Rattle.std.specs.Prelude.{ℕ, ◌+◌, List, [], ◌∷◌, ◌++◌, length, option_map}
use Rattle.meaning_syntax.specs.Items.{Statement, Assign, AssignThrough, AssignAddress, Item, statement_spelled, item_spelled}
use Rattle.meaning_syntax.specs.Binding.{item_statements, item_name, item_declared}
use Rattle.meaning_first_rules.specs.Bindings.{Binding}
use Rattle.meaning_first_rules.specs.Evaluation.{Access, Conversion, access_at, assignment_at}
use Rattle.meaning_first_rules.specs.Typing.{declared_type, type_of, value_type_of, target_type_of, address_type_of}

-- a statement, what is declared before the function around it, and the index of its first token
pub record Placed : Type 0 where
  pub before : List Item
  pub first : ℕ
  pub statement : Statement

-- statements that stand one behind the other
abbrev pub placed_body : List Item → ℕ → List Statement → List Placed
placed_body before first [] = []
placed_body before first (statement ∷ statements) =
    record { before = before; first = first; statement = statement } ∷ placed_body before (first + length (statement_spelled statement)) statements

-- a function's body begins behind `void NAME ( void ) {`
abbrev pub tokens_before_body : ℕ
tokens_before_body = 6

-- all statements of items that stand behind others
abbrev pub placed_behind : List Item → ℕ → List Item → List Placed
placed_behind before first [] = []
placed_behind before first (item ∷ items) =
    placed_body before (first + tokens_before_body) (item_statements item) ++ placed_behind (before ++ item ∷ []) (first + length (item_spelled item)) items

-- all statements of a unit
abbrev pub placed_in : List Item → List Placed
placed_in unit = placed_behind [] 0 unit

-- What the tree of a statement reads and writes, by how the objects in it are declared

-- its accesses, if it begins at this token behind these items
abbrev pub statement_accesses : List Item → ℕ → Statement → List Access
statement_accesses before first (Assign target source) =
    access_at first (type_of before target) ++ access_at (first + 2) (type_of before source)
statement_accesses before first (AssignThrough pointer source) =
    access_at first (target_type_of before pointer)
    ++ access_at (first + 1) (type_of before pointer)
    ++ access_at (first + 3) (type_of before source)
statement_accesses before first (AssignAddress target object) = access_at first (type_of before target)

-- and what it converts, at the `=`
abbrev pub statement_conversions : List Item → ℕ → Statement → List Conversion
statement_conversions before first (Assign target source) =
    assignment_at (first + 1) (type_of before target) (value_type_of before source)
statement_conversions before first (AssignThrough pointer source) =
    assignment_at (first + 2) (target_type_of before pointer) (value_type_of before source)
statement_conversions before first (AssignAddress target object) =
    assignment_at (first + 1) (type_of before target) (address_type_of before object)

-- what a placed statement reads and writes
abbrev pub placed_accesses : Placed → List Access
placed_accesses placed = statement_accesses placed.before placed.first placed.statement

-- what a placed statement converts
abbrev pub placed_conversions : Placed → List Conversion
placed_conversions placed = statement_conversions placed.before placed.first placed.statement

-- what the tree of an item binds its name to
abbrev pub item_binding : Item → Binding
item_binding item = record { name = item_name item; object = option_map declared_type (item_declared item) }
