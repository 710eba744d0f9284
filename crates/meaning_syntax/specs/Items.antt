-- The items of a file in the first form, and how they are spelled token by token:
--
--     Unit = Item Unit | -
--     Item = 'extern' 'int' Attr Stars NAME ';' | 'void' NAME '(' 'void' ')' '{' Stmts '}'
--     Attr = '__attribute__' '(' '(' Word More ')' ')' | -
--     More = ',' Word More | -
--     Word = 'noderef' | 'address_space' '(' ID ')'
--     Stars = at most three '*'
--     Stmts = Stmt Stmts | -
--     Stmt = NAME '=' NAME ';' | '*' NAME '=' NAME ';' | NAME '=' '&' NAME ';'
use Rattle.std.specs.Prelude.{ℕ, Bool, true, ◌&&◌, List, [], ◌∷◌, ◌++◌, codes, nat_le, replicate}
use Rattle.std.specs.List.{flat_map, list_all}
use Rattle.meaning_syntax.specs.Words.{is_name, is_space_id}

-- a word of an attribute list; a space is named by its token
pub data Word : Type 0 where
  Noderef : Word
  AddressSpace : List ℕ → Word

-- an assignment, by the names in it
pub data Statement : Type 0 where
  -- an object is assigned to another
  Assign : (target source : List ℕ) → Statement
  -- an object is assigned to the one that a pointer points to
  AssignThrough : (pointer source : List ℕ) → Statement
  -- an object's address is assigned to a pointer
  AssignAddress : (target object : List ℕ) → Statement

-- an object that is declared, or a function that is defined
pub data Item : Type 0 where
  Object : (words : List Word) (stars : ℕ) (name : List ℕ) → Item
  Function : (name : List ℕ) (statements : List Statement) → Item

-- Spelling, part by part, as the list of the tokens' texts

-- a word of an attribute list
abbrev pub word_spelled : Word → List (List ℕ)
word_spelled Noderef = codes "noderef" ∷ []
word_spelled (AddressSpace id) = codes "address_space" ∷ codes "(" ∷ id ∷ codes ")" ∷ []

-- a further word, with the comma before it
abbrev pub further_word_spelled : Word → List (List ℕ)
further_word_spelled word = codes "," ∷ word_spelled word

-- an attribute list with its keyword and parentheses; without words there is none
abbrev pub attribute_spelled : List Word → List (List ℕ)
attribute_spelled [] = []
attribute_spelled (word ∷ words) =
    codes "__attribute__" ∷ codes "(" ∷ codes "(" ∷ word_spelled word ++ flat_map further_word_spelled words ++ codes ")" ∷ codes ")" ∷ []

-- a statement with its semicolon
abbrev pub statement_spelled : Statement → List (List ℕ)
statement_spelled (Assign target source) = target ∷ codes "=" ∷ source ∷ codes ";" ∷ []
statement_spelled (AssignThrough pointer source) = codes "*" ∷ pointer ∷ codes "=" ∷ source ∷ codes ";" ∷ []
statement_spelled (AssignAddress target object) = target ∷ codes "=" ∷ codes "&" ∷ object ∷ codes ";" ∷ []

-- a whole declaration or definition
abbrev pub item_spelled : Item → List (List ℕ)
item_spelled (Object words stars name) =
    codes "extern" ∷ codes "int" ∷ attribute_spelled words ++ replicate stars (codes "*") ++ name ∷ codes ";" ∷ []
item_spelled (Function name statements) =
    codes "void" ∷ name ∷ codes "(" ∷ codes "void" ∷ codes ")" ∷ codes "{" ∷ flat_map statement_spelled statements ++ codes "}" ∷ []

-- Which words may stand at each place

-- of a word: the token of a space can stand for one
abbrev pub word_fits : Word → Bool
word_fits Noderef = true
word_fits (AddressSpace id) = is_space_id id

-- of a statement: its two words are names
abbrev pub statement_fits : Statement → Bool
statement_fits (Assign target source) = is_name target && is_name source
statement_fits (AssignThrough pointer source) = is_name pointer && is_name source
statement_fits (AssignAddress target object) = is_name target && is_name object

-- of an item: its words, at most three stars, its name, and its statements
abbrev pub item_fits : Item → Bool
item_fits (Object words stars name) = list_all word_fits words && nat_le stars 3 && is_name name
item_fits (Function name statements) = is_name name && list_all statement_fits statements
