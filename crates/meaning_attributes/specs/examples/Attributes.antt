-- Worked examples: the tokens of short attribute lists, and what they come to.
use Rattle.std.specs.Prelude.{◌≡◌, ℕ, pos, true, Option, Some, None, Result, Ok, Err, List, [], ◌∷◌, map, replicate, codes}
use Rattle.meaning_text.specs.Lexing.{Lexed, Tokens, Refused, lexed_file}
use Rattle.meaning_types.specs.Types.{NumberedSpace, NamedSpace}
use Rattle.meaning_attributes.specs.Attributes.{Attribute, Attributes, FunctionContext, HasSpace, HasContext, HasAlign, HasFlag, no_attributes}
use Rattle.meaning_attributes.specs.Words.{PackedFlag, NoreturnFlag}
use Rattle.meaning_attributes.specs.Meanings.{Bad, BadSpace, BadContext, BadAlign}
use Rattle.meaning_attributes.specs.Items.{attribute_of}
use Rattle.meaning_attributes.specs.Reading.{Refusal, HasBad, HasLimit, attributes_read}

-- what a list comes to, in an example
abbrev pub ListAnswer : Type 0
ListAnswer = Option (Result Attributes Refusal)

abbrev pub read_lexed : Lexed → ListAnswer
read_lexed (Tokens tokens) = Some (attributes_read no_attributes tokens)
read_lexed (Refused fault) = None

-- what the list of a text comes to
abbrev pub list_read : List ℕ → ListAnswer
list_read text = read_lexed (lexed_file 1 text)

abbrev pub read_each : List (List ℕ) → List ListAnswer
read_each texts = map list_read texts

abbrev pub attribute_lexed : Lexed → Option Attribute
attribute_lexed (Tokens tokens) = attribute_of tokens
attribute_lexed (Refused fault) = None

-- the attribute of an item's text
abbrev pub attribute_in : List ℕ → Option Attribute
attribute_in text = attribute_lexed (lexed_file 1 text)

-- a bad item whose word has this index
abbrev pub bad_at : Bad → ℕ → ListAnswer
bad_at bad index = Some (Err (HasBad bad index))

abbrev pub limit : ListAnswer
limit = Some (Err HasLimit)

abbrev pub in_numbered : ℕ → ListAnswer
in_numbered number = Some (Ok (record no_attributes { space = NumberedSpace number }))

abbrev pub in_named : List ℕ → ListAnswer
in_named name = Some (Ok (record no_attributes { space = NamedSpace name }))

abbrev pub aligned_to : ℕ → ListAnswer
aligned_to align = Some (Ok (record no_attributes { align = Some align }))

abbrev pub context : ℕ → ℕ → FunctionContext
context enters leaves = record { enters = pos enters; leaves = pos leaves }

abbrev pub with_contexts : List FunctionContext → ListAnswer
with_contexts contexts = Some (Ok (record no_attributes { contexts = contexts }))

pub record SpaceExamples : Type 0 where
  pub bad :
      read_each (codes "address_space(1,2)" ∷ codes "address_space()" ∷ codes "address_space" ∷ codes "address_space(4294967296)" ∷ codes "address_space(-1)" ∷ codes "address_space('a')" ∷ codes "address_space(09)" ∷ [])
      ≡ replicate 7 (bad_at BadSpace 0)
  pub good :
      read_each (codes "address_space(4294967295)" ∷ codes "address_space(0x10u)" ∷ codes "__address_space__(__user)" ∷ codes "address_space(while)" ∷ codes "address_space(0)" ∷ [])
      ≡ in_numbered 4294967295 ∷ in_numbered 16 ∷ in_named (codes "__user") ∷ in_named (codes "while") ∷ in_numbered 0 ∷ []
  pub no_single_token : read_each (codes "address_space((1))" ∷ codes "address_space(a b)" ∷ codes "address_space(\"a\")" ∷ codes "address_space(1.0)" ∷ []) ≡ replicate 4 (bad_at BadSpace 0)
  pub a_later_one : list_read (codes "noderef, address_space(1), address_space(2)") ≡ Some (Ok (record no_attributes { noderef = true; space = NumberedSpace 2 }))

pub record ContextExamples : Type 0 where
  pub good : read_each (codes "context(x,0,1)" ∷ codes "context(0,1)" ∷ codes "context((x,y),0,1)" ∷ []) ≡ replicate 3 (with_contexts (context 0 1 ∷ []))
  pub bad :
      read_each (codes "context(x,y,0,1)" ∷ codes "context(,0,1)" ∷ codes "context(x,-1,0)" ∷ codes "context(x,0)" ∷ codes "context(0)" ∷ codes "context" ∷ codes "context(x,1000001,y)" ∷ [])
      ≡ replicate 7 (bad_at BadContext 0)
  pub no_integers :
      read_each (codes "context()" ∷ codes "context(x,'a',1)" ∷ codes "context(x,0,09)" ∷ codes "context(x,+0,1)" ∷ codes "context(x,(0),1)" ∷ codes "context(x,0 1,1)" ∷ [])
      ≡ replicate 6 (bad_at BadContext 0)
  pub greatest : list_read (codes "context(x,1000000,0)") ≡ with_contexts (context 1000000 0 ∷ [])
  pub beyond :
      read_each (codes "context(1000001,0)" ∷ codes "address_space(1,2), context(x,0,1000001)" ∷ codes "context(0,18446744073709551615u), aligned(3)" ∷ []) ≡ replicate 3 limit
  pub too_large_for_any_type : list_read (codes "context(0,18446744073709551616)") ≡ bad_at BadContext 0
  pub words_are_not_looked_at : read_each (codes "context(1 + (2, 3),0,1)" ∷ codes "context(09,0,1)" ∷ codes "__context__(&a->b,0,1)" ∷ []) ≡ replicate 3 (with_contexts (context 0 1 ∷ []))
  pub several : list_read (codes "context(x,0,1), context(y,0x2,3L)") ≡ with_contexts (context 0 1 ∷ context 2 3 ∷ [])
  pub the_first_bad_item : list_read (codes "context(x,0,1), address_space(1,2)") ≡ bad_at BadSpace 9

pub record AlignExamples : Type 0 where
  pub bad :
      read_each (codes "aligned(3)" ∷ codes "aligned()" ∷ codes "aligned(0)" ∷ codes "aligned(131072)" ∷ codes "aligned(8,8)" ∷ codes "aligned(a)" ∷ codes "aligned(-8)" ∷ codes "aligned(6)" ∷ codes "aligned(65537)" ∷ [])
      ≡ replicate 9 (bad_at BadAlign 0)
  pub good :
      read_each (codes "aligned" ∷ codes "aligned(16)" ∷ codes "aligned(65536)" ∷ codes "aligned(8L)" ∷ codes "aligned(1)" ∷ []) ≡ map aligned_to (16 ∷ 16 ∷ 65536 ∷ 8 ∷ 1 ∷ [])
  pub the_largest : list_read (codes "aligned(4), aligned(16), aligned(8)") ≡ aligned_to 16

pub record ListExamples : Type 0 where
  pub nothing_meant : read_each (codes "" ∷ codes "," ∷ codes "a, b(1, (2)), const" ∷ codes ",,unused," ∷ []) ≡ replicate 4 (Some (Ok no_attributes))
  pub flags_and_their_arguments : list_read (codes "packed(1 2), noderef(3)") ≡ Some (Ok (record no_attributes { packed = true; noderef = true }))
  pub each_flag :
      list_read (codes "noderef, bitwise, force, packed, noreturn")
      ≡ Some (Ok (record no_attributes { noderef = true; bitwise = true; force = true; packed = true; noreturn = true }))
  pub underscores_on_both_sides : list_read (codes "__noderef__, __aligned__(4), __context__(0,1)") ≡ Some (Ok (record no_attributes { noderef = true; align = Some 4; contexts = context 0 1 ∷ [] }))
  pub underscores_on_one_side : list_read (codes "__noderef, noderef__, _noderef_, ____noderef____, __address_space, aligned__(3)") ≡ Some (Ok no_attributes)
  pub two_bad_items : read_each (codes "a, aligned(3), address_space" ∷ codes "f(1,2), address_space, aligned(3)" ∷ []) ≡ bad_at BadAlign 2 ∷ bad_at BadSpace 7 ∷ []

pub record ExtensionExamples : Type 0 where
  pub left_out : list_read (codes "address_space(__extension__ 1)") ≡ in_numbered 1
  pub no_words : list_read (codes "context(__extension__, 0, 1)") ≡ bad_at BadContext 0
  pub around_an_item : list_read (codes "__extension__ aligned __extension__ ( __extension__ 8 __extension__ ) __extension__") ≡ aligned_to 8
  pub the_word_is_told : list_read (codes "a, __extension__ __extension__ aligned(3)") ≡ bad_at BadAlign 4
  pub alone : list_read (codes "__extension__, noderef") ≡ Some (Ok (record no_attributes { noderef = true }))

pub record ItemExamples : Type 0 where
  pub good :
      map attribute_in (codes "address_space(a)" ∷ codes "context(l,1,0)" ∷ codes "aligned" ∷ codes "__packed__" ∷ codes "noreturn(x)" ∷ [])
      ≡ map (λ attribute. Some attribute) (HasSpace (NamedSpace (codes "a")) ∷ HasContext (context 1 0) ∷ HasAlign 16 ∷ HasFlag PackedFlag ∷ HasFlag NoreturnFlag ∷ [])
  pub none : map attribute_in (codes "" ∷ codes "unused" ∷ codes "aligned(3)" ∷ codes "context(1000001,0)" ∷ []) ≡ replicate 4 None
