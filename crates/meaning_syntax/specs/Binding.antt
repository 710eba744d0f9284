-- What a name in a statement stands for: an object that is declared before (C11 6.2.1).
use Rattle.std.specs.Prelude.{ℕ, Bool, true, false, ◌&&◌, ◌+◌, List, [], ◌∷◌, ◌++◌, Option, Some, None, not, nat_eq, if◌then◌else◌}
use Rattle.std.specs.List.{list_any, list_all}
use Rattle.std.specs.Str.{bytes_eq}
use Rattle.meaning_syntax.specs.Items.{Word, Statement, Assign, AssignThrough, AssignAddress, Item, Object, Function}

-- how an object is declared: the words of its attribute, and its stars
pub record Declared : Type 0 where
  pub words : List Word
  pub stars : ℕ

-- the name that an item declares
abbrev pub item_name : Item → List ℕ
item_name (Object words stars name) = name
item_name (Function name statements) = name

-- the statements of a function; an object has none
abbrev pub item_statements : Item → List Statement
item_statements (Object words stars name) = []
item_statements (Function name statements) = statements

-- what the item declares, if it is an object
abbrev pub item_declared : Item → Option Declared
item_declared (Object words stars name) = Some (record { words = words; stars = stars })
item_declared (Function name statements) = None

-- one of the items declares this name
abbrev pub is_declared : List Item → List ℕ → Bool
is_declared items name = list_any (λ item. bytes_eq (item_name item) name) items

-- the object of this name among the items
abbrev pub object_of : List Item → List ℕ → Option Declared
object_of [] name = None
object_of (item ∷ items) name = if bytes_eq (item_name item) name then item_declared item else object_of items name

-- both are objects, and have equally many stars
abbrev pub have_equal_stars : Option Declared → Option Declared → Bool
have_equal_stars (Some target) (Some source) = nat_eq target.stars source.stars
have_equal_stars (Some target) None = false
have_equal_stars None source = false

-- both are objects, and the first can point to the second: it has one star more
abbrev pub has_one_star_more : Option Declared → Option Declared → Bool
has_one_star_more (Some pointer) (Some object) = nat_eq pointer.stars (object.stars + 1)
has_one_star_more (Some pointer) None = false
has_one_star_more None object = false

-- the names of a statement are objects among these items, with the stars that it needs
abbrev pub statement_binds : List Item → Statement → Bool
statement_binds before (Assign target source) = have_equal_stars (object_of before target) (object_of before source)
statement_binds before (AssignThrough pointer source) = has_one_star_more (object_of before pointer) (object_of before source)
statement_binds before (AssignAddress target object) = has_one_star_more (object_of before target) (object_of before object)

-- no name is declared twice, and each name in a statement is an object declared before
abbrev pub are_bound : List Item → List Item → Bool
are_bound before [] = true
are_bound before (item ∷ items) =
    not (is_declared before (item_name item)) && list_all (statement_binds before) (item_statements item) && are_bound (before ++ item ∷ []) items
