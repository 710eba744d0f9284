-- Worked examples: files whose items one can tell by eye, and the nearest ones that are refused.
use Rattle.std.specs.Prelude.{◌≡◌, ℕ, Bool, true, false, List, [], ◌∷◌, Some, None, codes, is_some, ◌==◌, if◌then◌else◌}
use Rattle.std.specs.List.{list_any}
use Rattle.vocabulary.specs.Words.{WordTable}
use Rattle.vocabulary.specs.declared.words.TheConstants.{KEYWORDS, PREDEFINED_MACROS}
use Rattle.meaning_text.specs.Bytes.{space}
use Rattle.meaning_syntax.specs.Words.{is_name, is_space_id}
use Rattle.meaning_syntax.specs.Items.{Item, Object, Function, Noderef, AddressSpace, Assign, AssignThrough, AssignAddress}
use Rattle.meaning_syntax.specs.plain.Reading.{Texts, read_items, read_unit}

-- a byte more in front of the first text
abbrev pub in_front : ℕ → Texts → Texts
in_front byte [] = (byte ∷ []) ∷ []
in_front byte (text ∷ texts) = (byte ∷ text) ∷ texts

-- the texts between single spaces
abbrev pub spaced : List ℕ → Texts
spaced [] = [] ∷ []
spaced (byte ∷ bytes) = if byte == space then [] ∷ spaced bytes else in_front byte (spaced bytes)

-- a pointer in the address space of this spelling
abbrev pub pointer_in : List ℕ → Texts
pointer_in id =
    codes "extern" ∷ codes "int" ∷ codes "__attribute__" ∷ codes "(" ∷ codes "(" ∷ codes "address_space" ∷ codes "(" ∷ id ∷ codes ")" ∷ codes ")" ∷ codes ")"
    ∷ codes "*" ∷ codes "p" ∷ codes ";" ∷ []

-- the unit is these items
abbrev pub IsReadAs : Texts → List Item → Type 0
IsReadAs texts items = read_unit texts ≡ Some items

-- an address space can have this spelling
abbrev pub IsSpace : List ℕ → Type 0
IsSpace id = IsReadAs (pointer_in id) (Object (AddressSpace id ∷ []) 1 (codes "p") ∷ [])

-- no items are spelled so
abbrev pub IsNoItems : Texts → Type 0
IsNoItems texts = (read_items texts ≡ None) × (read_unit texts ≡ None)

-- and can't have this one
abbrev pub IsNoSpace : List ℕ → Type 0
IsNoSpace id = IsNoItems (pointer_in id)

-- items are spelled so, but a name in them isn't declared as it must be
abbrev pub IsUnbound : Texts → Type 0
IsUnbound texts = (is_some (read_items texts) ≡ true) × (read_unit texts ≡ None)

-- no word of this table passes the test
abbrev pub PassesNone : (List ℕ → Bool) → WordTable → Type 0
PassesNone test words = list_any (λ word. test word.now) words ≡ false

-- what is read
pub record ReadExamples : Type 0 where
  pub by_spaces : spaced (codes "p = u ;") ≡ codes "p" ∷ codes "=" ∷ codes "u" ∷ codes ";" ∷ []
  pub each_part : IsReadAs
      (spaced (codes "extern int * p ; extern int __attribute__ ( ( noderef , address_space ( __user ) ) ) * u ; void f ( void ) { p = u ; }"))
      (Object [] 1 (codes "p")
      ∷ Object (Noderef ∷ AddressSpace (codes "__user") ∷ []) 1 (codes "u")
      ∷ Function (codes "f") (Assign (codes "p") (codes "u") ∷ [])
      ∷ [])
  pub three_stars : IsReadAs (spaced (codes "extern int * * * p ;")) (Object [] 3 (codes "p") ∷ [])
  pub one_underscore : IsReadAs (spaced (codes "extern int _x ;")) (Object [] 0 (codes "_x") ∷ [])
  pub no_statement : IsReadAs (spaced (codes "void f ( void ) { }")) (Function (codes "f") [] ∷ [])
  pub through_pointer : IsReadAs (spaced (codes "extern int * p ; extern int x ; void f ( void ) { * p = x ; }"))
      (Object [] 1 (codes "p") ∷ Object [] 0 (codes "x") ∷ Function (codes "f") (AssignThrough (codes "p") (codes "x") ∷ []) ∷ [])
  pub address : IsReadAs (spaced (codes "extern int * p ; extern int x ; void f ( void ) { p = & x ; }"))
      (Object [] 1 (codes "p") ∷ Object [] 0 (codes "x") ∷ Function (codes "f") (AssignAddress (codes "p") (codes "x") ∷ []) ∷ [])
  pub each_statement : IsReadAs (spaced (codes "extern int * * p ; extern int * q ; void f ( void ) { p = & q ; * p = q ; q = q ; }"))
      (Object [] 2 (codes "p")
      ∷ Object [] 1 (codes "q")
      ∷ Function (codes "f") (AssignAddress (codes "p") (codes "q") ∷ AssignThrough (codes "p") (codes "q") ∷ Assign (codes "q") (codes "q") ∷ [])
      ∷ [])

-- what isn't spelled as items
pub record MisspelledExamples : Type 0 where
  pub no_keyword_is_a_name : PassesNone is_name KEYWORDS
  pub four_stars : IsNoItems (spaced (codes "extern int * * * * p ;"))
  pub keyword_as_name : IsNoItems (spaced (codes "extern int while ;"))
  pub character_as_name : IsNoItems (spaced (codes "extern int L'a' ;"))
  pub string_as_name : IsNoItems (spaced (codes "extern int u8\"a\" ;"))
  pub universal_name : IsNoItems (spaced (codes "extern int \\u00e9 ;"))
  pub universal_name_behind_a_letter : IsNoItems (spaced (codes "extern int a\\U000000e9 ;"))
  pub two_underscores : IsNoItems (spaced (codes "extern int __x ;"))
  pub reserved_name : IsNoItems (spaced (codes "extern int asm ;"))
  pub typeof_name : IsNoItems (spaced (codes "extern int typeof ;"))
  pub pragma_name : IsNoItems (spaced (codes "extern int _Pragma ;"))
  pub empty_attribute : IsNoItems (spaced (codes "extern int __attribute__ ( ( ) ) p ;"))
  pub comma_at_end : IsNoItems (spaced (codes "extern int __attribute__ ( ( noderef , ) ) p ;"))
  pub no_end : IsNoItems (spaced (codes "extern int p"))
  pub through_two_stars : IsNoItems (spaced (codes "extern int * * p ; extern int x ; void f ( void ) { * * p = x ; }"))
  pub address_through_pointer : IsNoItems (spaced (codes "extern int * * p ; extern int x ; void f ( void ) { * p = & x ; }"))
  pub address_as_target : IsNoItems (spaced (codes "extern int * p ; extern int x ; void f ( void ) { & x = p ; }"))
  pub star_at_source : IsNoItems (spaced (codes "extern int * p ; extern int x ; void f ( void ) { x = * p ; }"))

-- what is spelled as items whose names don't stand for objects as they must
pub record UnboundExamples : Type 0 where
  pub declared_twice : IsUnbound (spaced (codes "extern int p ; extern int p ;"))
  pub object_and_function : IsUnbound (spaced (codes "extern int p ; void p ( void ) { }"))
  pub function_and_object : IsUnbound (spaced (codes "void p ( void ) { } extern int p ;"))
  pub function_twice : IsUnbound (spaced (codes "void p ( void ) { } void p ( void ) { }"))
  pub used_before_declared : IsUnbound (spaced (codes "void f ( void ) { p = p ; } extern int p ;"))
  pub function_assigned : IsUnbound (spaced (codes "extern int p ; void f ( void ) { } void g ( void ) { p = f ; }"))
  pub unequal_stars : IsUnbound (spaced (codes "extern int * p ; extern int * * q ; void f ( void ) { p = q ; }"))
  pub fewer_stars_at_source : IsUnbound (spaced (codes "extern int * p ; extern int * * q ; void f ( void ) { q = p ; }"))
  pub through_number : IsUnbound (spaced (codes "extern int x ; extern int y ; void f ( void ) { * x = y ; }"))
  pub through_two_stars_more : IsUnbound (spaced (codes "extern int * * p ; extern int x ; void f ( void ) { * p = x ; }"))
  pub through_function : IsUnbound (spaced (codes "extern int x ; void f ( void ) { } void g ( void ) { * f = x ; }"))
  pub address_of_equal_stars : IsUnbound (spaced (codes "extern int * p ; extern int * q ; void f ( void ) { p = & q ; }"))
  pub address_in_number : IsUnbound (spaced (codes "extern int x ; extern int * p ; void f ( void ) { x = & p ; }"))
  pub address_of_function : IsUnbound (spaced (codes "extern int * p ; void f ( void ) { } void g ( void ) { p = & f ; }"))

-- what names an address space, and what doesn't
pub record SpaceExamples : Type 0 where
  pub one : IsSpace (codes "1")
  pub largest : IsSpace (codes "4294967295")
  pub asm_word : IsSpace (codes "asm")
  pub universal_name : IsNoSpace (codes "\\u00e9")
  pub character : IsNoSpace (codes "L'a'")
  pub zero : IsNoSpace (codes "0")
  pub leading_zero : IsNoSpace (codes "01")
  pub too_large : IsNoSpace (codes "4294967296")
  pub keyword : IsNoSpace (codes "int")
  pub no_keyword : PassesNone is_space_id KEYWORDS
  pub predefined_macro : IsNoSpace (codes "__LINE__")
  pub no_predefined_macro : PassesNone is_space_id PREDEFINED_MACROS
  pub digits_and_letters : IsNoSpace (codes "1u")
