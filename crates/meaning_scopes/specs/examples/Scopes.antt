-- Worked examples: a file and a function in it.
--
--     int a; typedef int t; struct t;
--     void f(int c) { int t; a: ; .. }
use Rattle.std.specs.Prelude.{◌≡◌, ℕ, Bool, true, false, List, [], ◌∷◌, Option, None, Some, map, reverse, codes}
use Rattle.std.specs.Str.{bytes_eq}
use Rattle.vocabulary.specs.declared.scope.NameSpace.{NameSpace}
use Rattle.vocabulary.specs.declared.scope.NameSpace.TheVariants.{Ordinary, Tags, Labels}
use Rattle.vocabulary.specs.declared.scope.Bound.{Bound}
use Rattle.vocabulary.specs.declared.scope.Bound.TheVariants.{Typedef, Enumerator, Linked, Unlinked, Tag, Label}
use Rattle.vocabulary.specs.declared.token_class.TokenClass.TheVariants.{Identifier, TypedefName}
use Rattle.meaning_scopes.specs.Scopes.{Entry, Opened, Binds, ScopeList, Found, innermost, without_scope, with_entries, find}
use Rattle.meaning_scopes.specs.Classes.{class_of_name}
use Rattle.meaning_scopes.specs.Redeclaration.{bound_here, is_redeclared}

-- The lists of the examples

abbrev pub entry : NameSpace → List ℕ → ℕ → Bound → Entry (List ℕ)
entry space name declaration bound = record { space = space; name = name; declaration = declaration; bound = bound }

abbrev pub object_a : Entry (List ℕ)
object_a = entry Ordinary (codes "a") 1 Linked

abbrev pub type_t : Entry (List ℕ)
type_t = entry Ordinary (codes "t") 2 Typedef

abbrev pub tag_t : Entry (List ℕ)
tag_t = entry Tags (codes "t") 3 Tag

abbrev pub function_f : Entry (List ℕ)
function_f = entry Ordinary (codes "f") 4 Linked

abbrev pub parameter_c : Entry (List ℕ)
parameter_c = entry Ordinary (codes "c") 5 Unlinked

abbrev pub variable_t : Entry (List ℕ)
variable_t = entry Ordinary (codes "t") 6 Unlinked

abbrev pub label_a : Entry (List ℕ)
label_a = entry Labels (codes "a") 7 Label

-- behind the declarator of f
abbrev pub in_file : ScopeList (List ℕ)
in_file = Binds function_f ∷ Binds tag_t ∷ Binds type_t ∷ Binds object_a ∷ []

-- behind the label
abbrev pub in_body : ScopeList (List ℕ)
in_body = Binds label_a ∷ Binds variable_t ∷ Binds parameter_c ∷ Opened ∷ in_file

abbrev pub found : Entry (List ℕ) → Bool → Option (Found (List ℕ))
found entry is_innermost = Some (record { entry = entry; is_innermost = is_innermost })

-- what a spelling stands for
abbrev pub look_up : ScopeList (List ℕ) → NameSpace → List ℕ → Option (Found (List ℕ))
look_up items space name = find bytes_eq items space name

pub record FindExamples : Type 0 where
  -- without a mark each scope is the file's
  pub at_file_scope : look_up in_file Ordinary (codes "a") ≡ found object_a true
  pub innermost : look_up in_body Ordinary (codes "c") ≡ found parameter_c true
  pub outer : look_up in_body Ordinary (codes "a") ≡ found object_a false
  -- the inner scope's entry hides the outer one
  pub hides : look_up in_body Ordinary (codes "t") ≡ found variable_t true
  -- name spaces are apart
  pub tag : look_up in_body Tags (codes "t") ≡ found tag_t false
  pub label : look_up in_body Labels (codes "a") ≡ found label_a true
  pub no_label : look_up in_body Labels (codes "c") ≡ None
  pub no_tag : look_up in_body Tags (codes "a") ≡ None
  -- of two entries in one scope the later one is found
  pub twice : look_up (Binds (entry Ordinary (codes "a") 8 Linked) ∷ in_file) Ordinary (codes "a") ≡ found (entry Ordinary (codes "a") 8 Linked) true
  pub nothing : look_up [] Ordinary (codes "a") ≡ None

pub record ScopeExamples : Type 0 where
  pub left : without_scope in_body ≡ in_file
  -- what was hidden is found again
  pub found_again : look_up (without_scope in_body) Ordinary (codes "t") ≡ found type_t true
  pub gone : look_up (without_scope in_body) Ordinary (codes "c") ≡ None
  pub kept : reverse (innermost in_body) ≡ parameter_c ∷ variable_t ∷ label_a ∷ []
  pub opened_again : with_entries (Opened ∷ in_file) (parameter_c ∷ variable_t ∷ label_a ∷ []) ≡ in_body
  -- under another scope the same entries are found, and what isn't among them is that scope's
  pub elsewhere :
      map (λ name. look_up (with_entries (Opened ∷ Binds object_a ∷ []) (parameter_c ∷ variable_t ∷ [])) Ordinary name)
      (codes "c" ∷ codes "t" ∷ codes "a" ∷ codes "f" ∷ [])
      ≡ found parameter_c true ∷ found variable_t true ∷ found object_a false ∷ None ∷ []

pub record ClassExamples : Type 0 where
  pub type_name : class_of_name bytes_eq in_file (codes "t") ≡ TypedefName
  -- a variable hides the typedef
  pub hidden : class_of_name bytes_eq in_body (codes "t") ≡ Identifier
  pub variable : class_of_name bytes_eq in_file (codes "a") ≡ Identifier
  pub not_declared : class_of_name bytes_eq in_file (codes "b") ≡ Identifier
  pub enumerator : class_of_name bytes_eq (Binds (entry Ordinary (codes "e") 9 Enumerator) ∷ []) (codes "e") ≡ Identifier
  -- a tag is none
  pub tag_alone : class_of_name bytes_eq (Binds tag_t ∷ []) (codes "t") ≡ Identifier

-- what an ordinary name can be
abbrev pub ordinary_kinds : List Bound
ordinary_kinds = Typedef ∷ Enumerator ∷ Linked ∷ Unlinked ∷ []

-- for each of these kinds whether a name of this kind can't be declared so in the same scope
abbrev pub refused_over : Bound → List Bound → List Bool
refused_over old kinds = map (is_redeclared (Some old)) kinds

pub record RedeclarationExamples : Type 0 where
  pub over_typedef : refused_over Typedef ordinary_kinds ≡ false ∷ true ∷ true ∷ true ∷ []
  pub over_enumerator : refused_over Enumerator ordinary_kinds ≡ true ∷ true ∷ true ∷ true ∷ []
  pub over_linked : refused_over Linked ordinary_kinds ≡ true ∷ true ∷ false ∷ true ∷ []
  pub over_unlinked : refused_over Unlinked ordinary_kinds ≡ true ∷ true ∷ true ∷ true ∷ []
  pub over_nothing : map (is_redeclared None) ordinary_kinds ≡ false ∷ false ∷ false ∷ false ∷ []
  pub tags : is_redeclared (Some Tag) Tag ≡ false
  pub labels : is_redeclared (Some Label) Label ≡ true
  -- an outer scope says nothing of the inner one
  pub hiding : map (λ items. bound_here (look_up items Ordinary (codes "a"))) (in_file ∷ in_body ∷ []) ≡ Some Linked ∷ None ∷ []
