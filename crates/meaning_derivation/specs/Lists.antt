-- Lists of parts that grow while a form is read, and are put in the order of the tree when it ends.
use Rattle.std.specs.Prelude.{ℕ, ◌+◌, Bool, true, false, nat_lt, List, [], ◌∷◌, drop, if◌then◌else◌}
use Rattle.vocabulary.specs.declared.error_kind.ErrorKind.TheVariants.{BadDeclaration}
use Rattle.vocabulary.specs.declared.role.Role.{Role}
use Rattle.vocabulary.specs.declared.role.Role.TheVariants.{TypePart}
use Rattle.vocabulary.specs.declared.node_kind.NodeKind.TheVariants as kinds
use Rattle.vocabulary.specs.declared.limit.LimitKind.TheVariants.{Parameters}
use Rattle.meaning_tree.specs.Trees.{SyntaxTree, Node, Parts, NoParts, Part, with_parts}
use Rattle.meaning_derivation.specs.Values.{Value, WordValue, TreeValue, ListValue, token_of, text_of, parts_of, alone, before, stands_at, plain_tree, named_tree}
use Rattle.meaning_derivation.specs.State.{State, IsError, ActionOutcome, Goes, Refuses, with_values, with_value, made, made_as, made_list, with_limit}

-- parts the other way round, before others
abbrev pub reversed_before : Parts (List ℕ) → Parts (List ℕ) → Parts (List ℕ)
reversed_before NoParts others = others
reversed_before (Part role tree parts) others = reversed_before parts (Part role tree others)

abbrev pub part_count : Parts (List ℕ) → ℕ
part_count NoParts = 0
part_count (Part role tree parts) = 1 + part_count parts

-- a tree at the end of a list
abbrev pub appended : Role → (list tree : Value) → Value
appended role list tree = ListValue (with_parts (parts_of list) (alone role tree))

-- one list behind another
abbrev pub joined : (first second : Value) → Value
joined first second = ListValue (with_parts (parts_of first) (parts_of second))

-- Declarators (6.7.6). Their parts stand from the specified type outwards; where the tokens have an array's size or a
-- parameter list behind another, the later one is nearer to the specified type.

abbrev pub suffixed : (suffixes inner : Value) → Value
suffixed suffixes inner = ListValue (reversed_before (parts_of suffixes) (parts_of inner))

-- a word has a spelling
abbrev pub has_spelling : Value → Bool
has_spelling (WordValue token []) = false
has_spelling (WordValue token (byte ∷ bytes)) = true
has_spelling value = false

-- the name of a declarator, or where it has none the place at which it begins
abbrev pub name_or : (place name : Value) → Value
name_or place name = if has_spelling name then name else place

-- a list and a word below it in the place of the last so many values
abbrev pub declarator_values : State → (count : ℕ) → (name list : Value) → ActionOutcome
declarator_values s count name list = Goes (with_values s (list ∷ name ∷ drop count s.values))

-- a list of a declarator without a name, or of nothing where it has no parts
abbrev pub unnamed_declarator : State → Value → Parts (List ℕ) → ActionOutcome
unnamed_declarator s place NoParts = Goes (with_value s 2 (ListValue NoParts))
unnamed_declarator s place parts = made_list s 2 TypePart (plain_tree kinds.Declarator (token_of place) parts)

-- a list of a declarator, or of nothing where it has neither a name nor parts
abbrev pub optional_declarator : State → (name list : Value) → ActionOutcome
optional_declarator s name list =
    if has_spelling name then made_list s 2 TypePart (named_tree kinds.Declarator (token_of name) (text_of name) (parts_of list))
    else unnamed_declarator s name (parts_of list)

-- Type names (6.7.7), in which no name is declared

abbrev pub type_name_tree : (specifiers : Value) → Parts (List ℕ) → SyntaxTree
type_name_tree specifiers parts = plain_tree kinds.TypeName (stands_at specifiers) (before TypePart specifiers parts)

abbrev pub type_name : State → (specifiers : Value) → Parts (List ℕ) → ActionOutcome
type_name s specifiers (Part role (Node kind token (byte ∷ bytes) number parts) others) = Refuses (IsError BadDeclaration) token
type_name s specifiers parts = made s 2 (type_name_tree specifiers parts)

-- a list of one node over these attribute lists at this place, or of nothing where there are none
abbrev pub attributes_list : State → Value → Parts (List ℕ) → ActionOutcome
attributes_list s word NoParts = Goes (with_value s 2 (ListValue NoParts))
attributes_list s word parts = made_list s 2 TypePart (plain_tree kinds.ParenthesizedAttributes (token_of word) parts)

abbrev pub first_tree_token : Parts (List ℕ) → ℕ
first_tree_token NoParts = 0
first_tree_token (Part role (Node kind token name number parts) others) = token

-- attribute lists before a further declarator, as a node of their own at the end of a list, where there are any
abbrev pub leading_attributes : State → (list : Value) → Parts (List ℕ) → ActionOutcome
leading_attributes s list NoParts = Goes (with_value s 2 list)
leading_attributes s list parts =
    made_as s 2 (appended TypePart list (TreeValue (plain_tree kinds.LeadingAttributes (first_tree_token parts) parts)))

-- the most parameters or arguments
abbrev pub most_parameters : ℕ
most_parameters = 255

-- where a list is full, one more passes the limit at the next terminal
abbrev pub with_parameter : State → Parts (List ℕ) → ActionOutcome
with_parameter s parts = Goes (if nat_lt (part_count parts) most_parameters then s else with_limit Parameters s)

-- the only part of a list, or what is left out at this word; no part is lost
abbrev pub part_of_for : State → Parts (List ℕ) → (word : Value) → ActionOutcome
part_of_for s (Part role tree NoParts) word = Goes (with_value s 2 (TreeValue tree))
part_of_for s parts word = made s 2 (plain_tree kinds.OmittedExpression (token_of word) parts)
