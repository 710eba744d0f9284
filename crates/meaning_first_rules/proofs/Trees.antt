-- What the tree of items binds, reads, writes and converts is what its statements do, by how objects are declared.
use Rattle.std.proofs.Common.{◌≡◌, ℕ, suc, zero, ◌+◌, true, false, Bool, List, [], ◌∷◌, ◌++◌, length, map, Option, Some, option_map, if◌then◌else◌, refl, ap, sym, ◌∙◌}
use Rattle.std.specs.List.{flat_map}
use Rattle.std.specs.Str.{bytes_eq}
use Rattle.std.proofs.lemmas.List.Concat.{flat_map-append}
use Rattle.std.proofs.lemmas.List.{append-nil, map-append}
use Rattle.meaning_types.specs.Types.{NamedSpace, NumberedSpace, Flags, no_flags, TypeTree}
use Rattle.vocabulary.specs.declared.node_kind.NodeKind.{NodeKind}
use Rattle.vocabulary.specs.declared.node_kind.NodeKind.TheVariants.{AddressSpaceAttribute, Declarator, CompoundStatement}
use Rattle.vocabulary.specs.declared.role.Role.TheVariants.{Evaluated, TypePart}
use Rattle.meaning_tree.specs.Trees.{SyntaxTree, Node, NoParts, Part, parts_of}
use Rattle.meaning_syntax.specs.Words.{is_plain_identifier, number_of}
use Rattle.meaning_syntax.specs.Items.{Word, Noderef, AddressSpace, Statement, Assign, AssignThrough, AssignAddress, Item, Object, Function, statement_spelled, item_spelled, word_spelled, attribute_spelled}
use Rattle.meaning_syntax.specs.Binding.{Declared, item_statements, item_name, item_declared, object_of}
use Rattle.meaning_syntax.specs.Trees.{SyntaxParts, statement_tree, statement_trees, word_tree, word_trees, attribute_trees, star_trees, item_tree, item_trees, unit_tree}
use Rattle.meaning_first_rules.specs.Bindings.{Binding, bindings_of, flags_behind_words, specified_flags, declared_by, pointer_to, type_in}
use Rattle.meaning_first_rules.specs.Evaluation.{Access, ForValue, access_at, assignment_at, accesses_of, parts_accesses, conversions_of, parts_conversions, gathered, accesses_in, conversions_in}
use Rattle.meaning_first_rules.specs.Typing.{space_of, flagged, behind_stars, int_with, declared_type, type_of, value_type_of, target_type_of, address_type_of}
use Rattle.meaning_first_rules.specs.Placed.{Placed, placed_body, placed_behind, placed_in, tokens_before_body, statement_accesses, statement_conversions, placed_accesses, placed_conversions, item_binding}

-- Names

-- the choice between two objects is the choice between their types
chosen-type :
    (test : Bool) (here others : Option Declared) (type_ : Option TypeTree) → type_ ≡ option_map declared_type others →
    (if test then option_map declared_type here else type_) ≡ option_map declared_type (if test then here else others)
chosen-type true here others type_ e = refl
chosen-type false here others type_ e = e

-- a name stands for the object of the item that declares it
pub type_in-items : (items : List Item) (name : List ℕ) → type_in (map item_binding items) name ≡ type_of items name
type_in-items [] name = refl
type_in-items (item ∷ items) name =
    chosen-type (bytes_eq (item_name item) name) (item_declared item) (object_of items name) (type_in (map item_binding items) name) (type_in-items items name)

-- Declarations

-- the flags behind a space that has a name or a number
flags-space :
    (test : Bool) (byte : ℕ) (id : List ℕ) (number token : ℕ) (flags : Flags) (words : SyntaxParts) →
    flags_behind_words flags (Part TypePart
    (if test then Node AddressSpaceAttribute token (byte ∷ id) 0 NoParts else Node AddressSpaceAttribute token [] number NoParts) words)
    ≡ flags_behind_words (record flags { space = if test then NamedSpace (byte ∷ id) else NumberedSpace number }) words
flags-space true byte id number token flags words = refl
flags-space false byte id number token flags words = refl

-- the words of an attribute give the flags that its tree gives
flags_behind_words-words :
    (token : ℕ) (words : List Word) (flags : Flags) → flags_behind_words flags (parts_of TypePart (word_trees token words)) ≡ flagged flags words
flags_behind_words-words token [] flags = refl
flags_behind_words-words token (Noderef ∷ words) flags =
    flags_behind_words-words (token + length (word_spelled Noderef) + 1) words (record flags { noderef = true })
flags_behind_words-words token (AddressSpace [] ∷ words) flags =
    flags_behind_words-words (token + length (word_spelled (AddressSpace [])) + 1) words (record flags { space = space_of [] })
flags_behind_words-words token (AddressSpace (byte ∷ id) ∷ words) flags =
    let behind : ℕ = token + length (word_spelled (AddressSpace (byte ∷ id))) + 1 in
    flags-space (is_plain_identifier (byte ∷ id)) byte id (number_of (byte ∷ id)) token flags (parts_of TypePart (word_trees behind words))
    ∙ flags_behind_words-words behind words (record flags { space = space_of (byte ∷ id) })

-- so do the specifiers
pub specified_flags-words :
    (token : ℕ) (words : List Word) → specified_flags no_flags (parts_of TypePart (attribute_trees token words)) ≡ flagged no_flags words
specified_flags-words token [] = refl
specified_flags-words token (word ∷ words) = flags_behind_words-words (token + 3) (word ∷ words) no_flags

-- one star more about a type is one more behind the others
behind_stars-pointer_to : (stars : ℕ) (type_ : TypeTree) → behind_stars stars (pointer_to type_) ≡ pointer_to (behind_stars stars type_)
behind_stars-pointer_to zero type_ = refl
behind_stars-pointer_to (suc stars) type_ = ap pointer_to (behind_stars-pointer_to stars type_)

-- stars about a type
declared_by-stars :
    (token stars : ℕ) (type_ : TypeTree) → declared_by (Some type_) (parts_of TypePart (star_trees token stars)) ≡ Some (behind_stars stars type_)
declared_by-stars token zero type_ = refl
declared_by-stars token (suc stars) type_ =
    declared_by-stars (token + 1) stars (pointer_to type_) ∙ ap Some (behind_stars-pointer_to stars type_)

-- an item's tree binds its name alone
pub bindings_of-item_tree : (first : ℕ) (item : Item) → bindings_of (item_tree first item) ≡ item_binding item ∷ []
bindings_of-item_tree first (Object words stars name) =
    ap (λ object. record { name = name; object = object } ∷ [])
    (ap (λ flags. declared_by (Some (int_with flags)) (parts_of TypePart (star_trees behind stars))) (specified_flags-words (first + 2) words)
    ∙ declared_by-stars behind stars (int_with (flagged no_flags words)))
  where
    behind : ℕ
    behind = first + 2 + length (attribute_spelled words)
bindings_of-item_tree first (Function name statements) = refl

-- Statements

-- parts that have none of their own add nothing
with_nothing : {A : Type 0} (xs : List A) → (xs ++ []) ++ [] ≡ xs
with_nothing xs = rw (append-nil xs, append-nil xs) refl

both_with_nothing : {A : Type 0} (xs ys : List A) → ((xs ++ []) ++ ((ys ++ []) ++ [])) ++ [] ≡ xs ++ ys
both_with_nothing xs ys = rw (append-nil xs, append-nil ys, append-nil ys, append-nil (xs ++ ys)) refl

accesses_of-statement :
    (items : List Item) (first : ℕ) (statement : Statement) →
    accesses_of (map item_binding items) ForValue (statement_tree first statement) ≡ statement_accesses items first statement
accesses_of-statement items first (Assign target source) =
    rw (type_in-items items target, type_in-items items source)
    (both_with_nothing (access_at first (type_of items target)) (access_at (first + 2) (type_of items source)))
accesses_of-statement items first (AssignThrough pointer source) =
    let stored : List Access = access_at first (target_type_of items pointer) in
    let loaded : List Access = access_at (first + 1) (type_of items pointer) in
    let read : List Access = access_at (first + 3) (type_of items source) in
    rw (type_in-items items pointer, type_in-items items source)
    (rw (append-nil loaded, append-nil loaded, append-nil read, append-nil read, append-nil ((stored ++ loaded) ++ read)) refl)
accesses_of-statement items first (AssignAddress target object) =
    rw (type_in-items items target)
    (both_with_nothing (access_at first (type_of items target)) [] ∙ append-nil (access_at first (type_of items target)))

conversions_of-statement :
    (items : List Item) (first : ℕ) (statement : Statement) →
    conversions_of (map item_binding items) (statement_tree first statement) ≡ statement_conversions items first statement
conversions_of-statement items first (Assign target source) =
    rw (type_in-items items target, type_in-items items source)
    (with_nothing (assignment_at (first + 1) (type_of items target) (value_type_of items source)))
conversions_of-statement items first (AssignThrough pointer source) =
    rw (type_in-items items pointer, type_in-items items source)
    (with_nothing (assignment_at (first + 2) (target_type_of items pointer) (value_type_of items source)))
conversions_of-statement items first (AssignAddress target object) =
    rw (type_in-items items target, type_in-items items object)
    (with_nothing (assignment_at (first + 1) (type_of items target) (address_type_of items object)))

-- Bodies

body-accesses :
    (before : List Item) (first count : ℕ) (statements : List Statement) →
    parts_accesses (map item_binding before) CompoundStatement count (parts_of Evaluated (statement_trees first statements))
    ≡ flat_map placed_accesses (placed_body before first statements)
body-accesses before first count [] = refl
body-accesses before first count (statement ∷ statements) =
    let next : ℕ = first + length (statement_spelled statement) in
    rw (accesses_of-statement before first statement, body-accesses before next (count + 1) statements) refl

body-conversions :
    (before : List Item) (first : ℕ) (statements : List Statement) →
    parts_conversions (map item_binding before) (parts_of Evaluated (statement_trees first statements))
    ≡ flat_map placed_conversions (placed_body before first statements)
body-conversions before first [] = refl
body-conversions before first (statement ∷ statements) =
    let next : ℕ = first + length (statement_spelled statement) in
    rw (conversions_of-statement before first statement, body-conversions before next statements) refl

-- Items

-- parts of a type are not evaluated
types-accesses : (scope : List Binding) (kind : NodeKind) (count : ℕ) (trees : List SyntaxTree) → parts_accesses scope kind count (parts_of TypePart trees) ≡ []
types-accesses scope kind count [] = refl
types-accesses scope kind count (tree ∷ trees) = types-accesses scope kind (count + 1) trees

-- and those of the first form convert nothing
stars-conversions : (scope : List Binding) (token stars : ℕ) → parts_conversions scope (parts_of TypePart (star_trees token stars)) ≡ []
stars-conversions scope token zero = refl
stars-conversions scope token (suc stars) = stars-conversions scope (token + 1) stars

word-conversions : (scope : List Binding) (token : ℕ) (word : Word) → conversions_of scope (word_tree token word) ≡ []
word-conversions scope token Noderef = refl
word-conversions scope token (AddressSpace id) = space-conversions (is_plain_identifier id)
  where
    space-conversions :
        (test : Bool) →
        conversions_of scope (if test then Node AddressSpaceAttribute token id 0 NoParts else Node AddressSpaceAttribute token [] (number_of id) NoParts) ≡ []
    space-conversions true = refl
    space-conversions false = refl

words-conversions : (scope : List Binding) (token : ℕ) (words : List Word) → parts_conversions scope (parts_of TypePart (word_trees token words)) ≡ []
words-conversions scope token [] = refl
words-conversions scope token (word ∷ words) =
    rw (word-conversions scope token word) (words-conversions scope (token + length (word_spelled word) + 1) words)

attribute-conversions : (scope : List Binding) (token : ℕ) (words : List Word) → parts_conversions scope (parts_of TypePart (attribute_trees token words)) ≡ []
attribute-conversions scope token [] = refl
attribute-conversions scope token (word ∷ words) = rw (words-conversions scope (token + 3) (word ∷ words)) refl

accesses_of-item :
    (before : List Item) (first : ℕ) (item : Item) →
    accesses_of (map item_binding before) ForValue (item_tree first item)
    ≡ flat_map placed_accesses (placed_body before (first + tokens_before_body) (item_statements item))
accesses_of-item before first (Object words stars name) =
    rw (types-accesses (map item_binding before) Declarator 0 (star_trees (first + 2 + length (attribute_spelled words)) stars)) refl
accesses_of-item before first (Function name statements) =
    append-nil _ ∙ body-accesses before (first + 6) 0 statements

conversions_of-item :
    (before : List Item) (first : ℕ) (item : Item) →
    conversions_of (map item_binding before) (item_tree first item)
    ≡ flat_map placed_conversions (placed_body before (first + tokens_before_body) (item_statements item))
conversions_of-item before first (Object words stars name) =
    let scope : List Binding = map item_binding before in
    rw (attribute-conversions scope (first + 2) words, stars-conversions scope (first + 2 + length (attribute_spelled words)) stars) refl
conversions_of-item before first (Function name statements) =
    append-nil _ ∙ body-conversions before (first + 6) statements

-- Units

-- the scope behind one item more
scope-item : (before : List Item) (first : ℕ) (item : Item) → map item_binding before ++ bindings_of (item_tree first item) ≡ map item_binding (before ++ item ∷ [])
scope-item before first item =
    rw (bindings_of-item_tree first item) (sym (map-append item_binding before (item ∷ [])))

-- what items have is what their statements have, if it is so of each
gathered-items :
    {A : Type 0} (of_tree : List Binding → SyntaxTree → List A) (of_placed : Placed → List A) →
    ((before : List Item) (first : ℕ) (item : Item) →
    of_tree (map item_binding before) (item_tree first item) ≡ flat_map of_placed (placed_body before (first + tokens_before_body) (item_statements item))) →
    (before : List Item) (first : ℕ) (items : List Item) →
    gathered of_tree (map item_binding before) (parts_of Evaluated (item_trees first items)) ≡ flat_map of_placed (placed_behind before first items)
gathered-items of_tree of_placed of_item before first [] = refl
gathered-items of_tree of_placed of_item before first (item ∷ items) =
    let next : ℕ = first + length (item_spelled item) in
    rw (
      flat_map-append of_placed (placed_body before (first + tokens_before_body) (item_statements item)) (placed_behind (before ++ item ∷ []) next items),
      of_item before first item,
      scope-item before first item,
      gathered-items of_tree of_placed of_item (before ++ item ∷ []) next items,
    ) refl

pub accesses_in-unit_tree : (items : List Item) → accesses_in (unit_tree items) ≡ flat_map placed_accesses (placed_in items)
accesses_in-unit_tree items = gathered-items (λ scope. accesses_of scope ForValue) placed_accesses accesses_of-item [] 0 items

pub conversions_in-unit_tree : (items : List Item) → conversions_in (unit_tree items) ≡ flat_map placed_conversions (placed_in items)
conversions_in-unit_tree items = gathered-items conversions_of placed_conversions conversions_of-item [] 0 items
