-- What names are bound to while a unit is read (C11 6.2.1, 6.7 p3).
use Rattle.std.specs.Prelude.{ℕ, ◌+◌, ◌-◌, Bool, true, false, ◌||◌, ◌&&◌, not, List, [], ◌∷◌, ◌++◌, drop, reverse, nat_eq, Option, Some, None, is_some, if◌then◌else◌}
use Rattle.std.specs.Str.{bytes_eq}
use Rattle.vocabulary.specs.declared.error_kind.ErrorKind.TheVariants.{NotDeclared, Redeclared}
use Rattle.vocabulary.specs.declared.node_kind.NodeKind.{NodeKind}
use Rattle.vocabulary.specs.declared.node_kind.NodeKind.TheVariants as kinds
use Rattle.vocabulary.specs.declared.scope.NameSpace.{NameSpace}
use Rattle.vocabulary.specs.declared.scope.NameSpace.TheVariants.{Ordinary, Tags}
use Rattle.vocabulary.specs.declared.scope.Bound.{Bound}
use Rattle.vocabulary.specs.declared.scope.Bound.TheVariants.{Typedef, Linked, Unlinked, Tag}
use Rattle.meaning_tree.specs.Trees.{SyntaxTree, Node, Parts, NoParts, Part}
use Rattle.meaning_scopes.specs.Scopes.{Entry, ScopeList, Opened, Binds, Found, find, innermost, is_open, with_entries, without_scope}
use Rattle.meaning_scopes.specs.Redeclaration.{bound_here, is_redeclared}
use Rattle.meaning_derivation.specs.Values.{Value, WordValue, TreeValue, ListValue, value_at, token_of, text_of, stands_at, name_of, named_tree}
use Rattle.meaning_derivation.specs.Storage.{StorageClass, TypedefClass, ExternClass, OtherClass, has_kind, noted_class}
use Rattle.meaning_derivation.specs.State.{ClosedList, State, IsError, ActionOutcome, Goes, Refuses, with_values, with_value, made}

abbrev pub with_scopes : State → ScopeList (List ℕ) → State
with_scopes s scopes = record s { scopes = scopes }

abbrev pub found_name : State → NameSpace → List ℕ → Option (Found (List ℕ))
found_name s space name = find bytes_eq s.scopes space name

-- the name stands for what was declared with this number
abbrev pub bound : State → NameSpace → List ℕ → (declaration : ℕ) → Bound → State
bound s space name declaration kind =
    with_scopes s (Binds (record { space = space; name = name; declaration = declaration; bound = kind }) ∷ s.scopes)

-- Ordinary names

-- the handle of the node that was made last
abbrev pub last_handle : State → ℕ
last_handle s = s.nodes - 1

-- what a name hides that is declared in the innermost scope (6.2.1 p4): the handle of what declares it in an outer one and one, or 0
abbrev pub hidden_number : Option (Found (List ℕ)) → ℕ
hidden_number None = 0
hidden_number (Some found) = if found.is_innermost then 0 else found.entry.declaration + 1

-- what it hides in a scope that is opened next
abbrev pub hidden_by_body : Option (Found (List ℕ)) → ℕ
hidden_by_body None = 0
hidden_by_body (Some found) = found.entry.declaration + 1

-- a tree with this number
abbrev pub numbered : ℕ → SyntaxTree → SyntaxTree
numbered number (Node kind token name other parts) = Node kind token name number parts

-- the tree on top, or the only one of the list there, has this number from here on
abbrev pub top_numbered : State → ℕ → (top : Value) → State
top_numbered s number (TreeValue tree) = with_value s 1 (TreeValue (numbered number tree))
top_numbered s number (ListValue (Part role tree NoParts)) = with_value s 1 (ListValue (Part role (numbered number tree) NoParts))
top_numbered s number top = s

-- a name stands for the node that was made last
abbrev pub last_bound : State → (name : List ℕ) → Bound → State
last_bound s name new = bound s Ordinary name (last_handle s) new

-- that node stands on top, and has what its name hides as its number
abbrev pub hiding_bound : State → (name : List ℕ) → Bound → State
hiding_bound s name new = last_bound (top_numbered s (hidden_number (found_name s Ordinary name)) (value_at s.values 0)) name new

-- a name is bound so, unless its scope has declared it otherwise, which is told at this token
abbrev pub declared_at : State → (name : List ℕ) → (token : ℕ) → Bound → ActionOutcome
declared_at s name token new =
    if is_redeclared (bound_here (found_name s Ordinary name)) new then Refuses (IsError Redeclared) token
    else Goes (hiding_bound s name new)

-- the name of a tree that was made last is bound as this
abbrev pub declared : State → (tree : Value) → Bound → ActionOutcome
declared s tree new = declared_at s (name_of tree) (stands_at tree) new

-- the parts of a tree
abbrev pub parts_below : Value → Parts (List ℕ)
parts_below (TreeValue (Node kind token name number parts)) = parts
parts_below value = NoParts

-- where a parameter list begins, if the tree is one
abbrev pub parameters_in : SyntaxTree → Option ℕ
parameters_in (Node kinds.FunctionDeclarator token name number parts) = Some token
parameters_in tree = None

-- attributes in parentheses leave a declarator what it is without them
abbrev pub is_without_form : SyntaxTree → Bool
is_without_form (Node kinds.ParenthesizedAttributes token name number parts) = true
is_without_form tree = false

abbrev pub are_without_form : Parts (List ℕ) → Bool
are_without_form NoParts = true
are_without_form (Part role tree parts) = is_without_form tree && are_without_form parts

-- and the one that is the part directly at the name, where such attributes don't count
abbrev pub own_parameters : Parts (List ℕ) → Option ℕ
own_parameters NoParts = None
own_parameters (Part role tree parts) = if are_without_form parts then parameters_in tree else own_parameters parts

-- there is one: the declarator is a function's (6.7.6.3)
abbrev pub ends_with_parameters : Parts (List ℕ) → Bool
ends_with_parameters parts = is_some (own_parameters parts)

-- a declarator behind specifiers of this storage class: with linkage at file scope, with `extern`, or as a function's (6.2.2)
abbrev pub bound_behind : State → StorageClass → (declarator : Value) → Bound
bound_behind s TypedefClass declarator = Typedef
bound_behind s ExternClass declarator = Linked
bound_behind s OtherClass declarator =
    if not (is_open s.scopes) || ends_with_parameters (parts_below declarator) then Linked else Unlinked

abbrev pub bound_as : State → (specifiers declarator : Value) → Bound
bound_as s specifiers declarator = bound_behind s (noted_class specifiers) declarator

-- a parameter is bound where it has a declarator with a name
abbrev pub parameter_bound : State → (specifiers : Value) → Parts (List ℕ) → ActionOutcome
parameter_bound s specifiers NoParts = Goes s
parameter_bound s specifiers (Part role (Node kind token [] number parts) others) = Goes s
parameter_bound s specifiers (Part role tree others) = declared s (TreeValue tree) Unlinked

-- behind a function's declarator in a body, where a scope is open, no body follows
abbrev pub function_noted : State → (declarator : Value) → State
function_noted s declarator =
    if is_open s.scopes && ends_with_parameters (parts_below declarator) then record s { function_end = Some s.taken } else s

-- Bodies: the parameters of a definition are declared in the outermost block of its body (6.2.1 p4, 6.9.1 p9)

module _ {N : Type 0} where
  -- one scope is open, and no other
  abbrev pub has_one_scope : ScopeList N → Bool
  has_one_scope [] = false
  has_one_scope (Opened ∷ items) = not (is_open items)
  has_one_scope (Binds entry ∷ items) = has_one_scope items

  -- what the parameter list bound that begins at this token
  abbrev pub entries_at : List (ClosedList N) → (token : ℕ) → List (Entry N)
  entries_at [] token = []
  entries_at (list ∷ lists) token = if nat_eq list.token token then list.entries else entries_at lists token

  -- what the list bound that is awaited
  abbrev pub awaited_entries : List (ClosedList N) → Option ℕ → List (Entry N)
  awaited_entries lists None = []
  awaited_entries lists (Some token) = entries_at lists token

  -- a parameter list is closed that begins at this token: if it is no part of another one, what it bound is kept
  abbrev pub closed_behind : List (ClosedList N) → ScopeList N → (token : ℕ) → List (ClosedList N)
  closed_behind lists scopes token =
      if has_one_scope scopes then lists ++ record { token = token; entries = reverse (innermost scopes) } ∷ [] else lists

abbrev pub parameters_closed : State → (token : ℕ) → State
parameters_closed s token =
    record s { scopes = without_scope s.scopes; closed = closed_behind s.closed s.scopes token }

-- a declaration begins, and no list of an earlier one is its function's
abbrev pub without_closed : State → State
without_closed s = record s { closed = [] }

-- A parameter of its function's own name hides the function, whose name is bound behind the parameters (6.2.1 p7)

-- the first of these trees that is so, changed
abbrev pub first_changed : (is_so : SyntaxTree → Bool) → (changed : SyntaxTree → SyntaxTree) → Parts (List ℕ) → Parts (List ℕ)
first_changed is_so changed NoParts = NoParts
first_changed is_so changed (Part role tree parts) =
    if is_so tree then Part role (changed tree) parts else Part role tree (first_changed is_so changed parts)

abbrev pub is_any_part : (is_so : SyntaxTree → Bool) → Parts (List ℕ) → Bool
is_any_part is_so NoParts = false
is_any_part is_so (Part role tree parts) = is_so tree || is_any_part is_so parts

-- a declarator of this name
abbrev pub is_declarator_of : (name : List ℕ) → SyntaxTree → Bool
is_declarator_of name (Node kinds.Declarator token other number parts) = bytes_eq other name
is_declarator_of name tree = false

-- a parameter of this name
abbrev pub is_parameter_of : (name : List ℕ) → SyntaxTree → Bool
is_parameter_of name (Node kind token other number parts) = is_any_part (λ tree. is_declarator_of name tree) parts

-- its declarator has this number
abbrev pub parameter_numbered : (name : List ℕ) → ℕ → SyntaxTree → SyntaxTree
parameter_numbered name number (Node kind token other own parts) =
    Node kind token other own (first_changed (λ tree. is_declarator_of name tree) (numbered number) parts)

-- in a parameter list
abbrev pub list_numbered : (name : List ℕ) → ℕ → SyntaxTree → SyntaxTree
list_numbered name number (Node kinds.FunctionDeclarator token other own parts) =
    Node kinds.FunctionDeclarator token other own (first_changed (λ tree. is_parameter_of name tree) (parameter_numbered name number) parts)
list_numbered name number tree = tree

-- in that which is the part directly at the name
abbrev pub own_list_numbered : (name : List ℕ) → ℕ → Parts (List ℕ) → Parts (List ℕ)
own_list_numbered name number NoParts = NoParts
own_list_numbered name number (Part role tree parts) =
    if are_without_form parts then Part role (list_numbered name number tree) parts else Part role tree (own_list_numbered name number parts)

abbrev pub declarator_numbered : ℕ → SyntaxTree → SyntaxTree
declarator_numbered number (Node kind token name own parts) = Node kind token name own (own_list_numbered name number parts)

-- below what is on top
abbrev pub own_name_hidden : State → (declarator : Value) → State
own_name_hidden s (TreeValue tree) =
    with_values s (value_at s.values 0 ∷ TreeValue (declarator_numbered (hidden_by_body (found_name s Ordinary (name_of (TreeValue tree)))) tree) ∷ drop 2 s.values)
own_name_hidden s declarator = s

-- the body of this declarator comes next
abbrev pub body_awaited : State → (declarator : Value) → State
body_awaited s declarator = record (own_name_hidden s declarator) { awaited = own_parameters (parts_below declarator) }

-- only a function's declarator has a body, and no type's name (6.9.1 p2)
abbrev pub takes_no_body : StorageClass → (declarator : Value) → Bool
takes_no_body TypedefClass declarator = true
takes_no_body class_ declarator = not (ends_with_parameters (parts_below declarator))

-- a function's body opens the scope of its parameters again, each other one a scope of its own
abbrev pub body_opened : State → State
body_opened s =
    record s { scopes = with_entries (Opened ∷ s.scopes) (awaited_entries s.closed s.awaited); awaited = None }

-- Tags (6.7.2.3)

-- an index, as a word without a spelling
abbrev pub place : ℕ → Value
place token = WordValue token []

-- the keyword that first names the tag, behind it on the stack
abbrev pub with_first_keyword : State → ℕ → State
with_first_keyword s keyword = with_values s (place keyword ∷ s.values)

-- a tag that no scope has here is bound to this keyword
abbrev pub tag_at : State → Option (Found (List ℕ)) → (tag : List ℕ) → (keyword : ℕ) → ActionOutcome
tag_at s None tag keyword = Goes (with_first_keyword (bound s Tags tag keyword Tag) keyword)
tag_at s (Some first) tag keyword = Goes (with_first_keyword s first.entry.declaration)

-- what the innermost scope itself has
abbrev pub found_here : Option (Found (List ℕ)) → Option (Found (List ℕ))
found_here None = None
found_here (Some first) = if first.is_innermost then Some first else None

-- `struct s;` and `union s;` alone declare the tag in the innermost scope (p7)

abbrev pub is_structure : NodeKind → Bool
is_structure kinds.StructSpecifier = true
is_structure kinds.UnionSpecifier = true
is_structure kind = false

abbrev pub is_member_list : NodeKind → Bool
is_member_list kinds.MemberList = true
is_member_list kind = false

-- a structure's or a union's tag without members
abbrev pub is_lone_tag : NodeKind → (tag : List ℕ) → (has_members : Bool) → Bool
is_lone_tag kind [] has_members = false
is_lone_tag kind (byte ∷ bytes) has_members = is_structure kind && not has_members

-- it is no tag of the innermost scope yet
abbrev pub is_new_here : State → (tag : List ℕ) → Bool
is_new_here s tag = not (is_some (found_here (found_name s Tags tag)))

-- the tree on top, in whose place the tag's specifier has its own keyword as number, which the tag is bound to
abbrev pub with_own_keyword : State → (tag : List ℕ) → (keyword : ℕ) → SyntaxTree → State
with_own_keyword s tag keyword tree = with_value (bound s Tags tag keyword Tag) 1 (TreeValue tree)

-- Specifiers that are a declaration on their own: where they are a lone tag that is new here, its keyword first names it.
-- Nothing was found or bound behind the tag, so this is as if it had been so there.
abbrev pub tag_declared : State → (specifiers : Value) → ActionOutcome
tag_declared s (TreeValue (Node kind token name number (Part role (Node specifier keyword tag first parts) NoParts))) =
    Goes (if is_lone_tag specifier tag (has_kind is_member_list parts) && is_new_here s tag
    then with_own_keyword s tag keyword (Node kind token name number (Part role (Node specifier keyword tag keyword parts) NoParts))
    else s)
tag_declared s specifiers = Goes s

-- Names in expressions, each with the handle of the declarator or enumerator that it stands for

abbrev pub name_used : State → Option (Found (List ℕ)) → Value → ActionOutcome
name_used s None word = Refuses (IsError NotDeclared) (token_of word)
name_used s (Some declaration) word =
    made s 1 (Node kinds.Name (token_of word) (text_of word) declaration.entry.declaration NoParts)

-- the name of a type, with the handle of the declarator that declares it
abbrev pub typedef_named : State → Option (Found (List ℕ)) → Value → ActionOutcome
typedef_named s None word = Refuses (IsError NotDeclared) (token_of word)
typedef_named s (Some declaration) word =
    made s 1 (Node kinds.TypedefName (token_of word) (text_of word) declaration.entry.declaration NoParts)
