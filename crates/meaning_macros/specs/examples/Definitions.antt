-- Worked rows of definitions: which agree, and which are well formed.
use Rattle.std.specs.Prelude.{◌≡◌, true, false, [], ◌∷◌, codes}
use Rattle.meaning_macros.specs.Macros.{spelled_file}
use Rattle.meaning_macros.specs.Agreement.{agree}
use Rattle.meaning_macros.specs.WellFormed.{hashes_are_followed, begins_with_paste, ends_with_paste, are_different, IsWellFormed}
use Rattle.meaning_macros.specs.examples.Reading.{read_macro}
use Rattle.meaning_macros.specs.examples.Rows.{Becomes}

-- Definitions (6.10.3 p1, p2, p6, p7)
pub record DefinitionExamples : Type 0 where
  -- white space and comments
  pub object_like :
      (agree (read_macro (codes "o (2+3)")) (read_macro (codes "o /* a */ (2+3) /* b */")) ≡ true)
      × (agree (read_macro (codes "o (2+3)")) (read_macro (codes "o (5)")) ≡ false)
      × (agree (read_macro (codes "o (2+3)")) (read_macro (codes "o (2 + 3)")) ≡ false)
  -- and with parameters
  pub function_like :
      (agree (read_macro (codes "f(a) ( a )")) (read_macro (codes "f( a )( /* c */ \\\n a /* d\n  */ )")) ≡ true)
      × (agree (read_macro (codes "f(b) ( a )")) (read_macro (codes "f(a) ( a )")) ≡ false)
      × (agree (read_macro (codes "f(b) ( b )")) (read_macro (codes "f(a) ( a )")) ≡ false)
  pub spaces :
      (agree (read_macro (codes "f(a) a + 1")) (read_macro (codes "f(a) a  +  1")) ≡ true)
      × (agree (read_macro (codes "f(a) a + 1")) (read_macro (codes "f(a) a+1")) ≡ false)
      × (agree (read_macro (codes "f(a)x")) (read_macro (codes "f(a) x")) ≡ true)
  pub parameters :
      (agree (read_macro (codes "f() 1")) (read_macro (codes "f 1")) ≡ false)
      × (agree (read_macro (codes "f(a,b) 1")) (read_macro (codes "f(a) 1")) ≡ false)
      × (agree (read_macro (codes "f(...) 1")) (read_macro (codes "f(r...) 1")) ≡ false)
      × (agree (read_macro (codes "f(r...) 1")) (read_macro (codes "f(r) 1")) ≡ false)
      × (agree (read_macro (codes "f(a,r...) 1")) (read_macro (codes "f(a, r ...) 1")) ≡ true)
  pub spellings :
      (agree (read_macro (codes "f [")) (read_macro (codes "f <:")) ≡ false)
      × (agree (read_macro (codes "f 1 2")) (read_macro (codes "f 1")) ≡ false)
      × (agree (read_macro (codes "f \"a\"")) (read_macro (codes "f L\"a\"")) ≡ false)
      × (agree (read_macro (codes "f")) (read_macro (codes "f")) ≡ true)
  -- the first entry of a name is its macro, the first of a file its spelling
  pub first_entry :
      Becomes (codes "x 1" ∷ codes "x 2" ∷ []) (codes "x") (codes "1")
      × (spelled_file (record { file = 1; spelled = codes "a" } ∷ record { file = 2; spelled = codes "b" } ∷ record { file = 2; spelled = codes "c" } ∷ []) 2 ≡ codes "b")
      × (spelled_file [] 1 ≡ codes "\"\"")
  pub hash :
      (hashes_are_followed (codes "a" ∷ []) (read_macro (codes "f(a) #a ##a # a")).body ≡ true)
      × (hashes_are_followed (codes "a" ∷ []) (read_macro (codes "f(a) #b")).body ≡ false)
      × (hashes_are_followed (codes "a" ∷ []) (read_macro (codes "f(a) a #")).body ≡ false)
      × (hashes_are_followed (codes "a" ∷ []) (read_macro (codes "f(a) # #a")).body ≡ false)
  pub paste :
      (begins_with_paste (read_macro (codes "f ## a")).body ≡ true)
      × (ends_with_paste (read_macro (codes "f a ##")).body ≡ true)
      × (ends_with_paste (read_macro (codes "f a ## a")).body ≡ false)
      × (begins_with_paste (read_macro (codes "f %:%: a")).body ≡ true)
  pub different :
      (are_different (codes "a" ∷ codes "b" ∷ []) ≡ true)
      × (are_different (codes "a" ∷ codes "b" ∷ codes "a" ∷ []) ≡ false)
  pub well_formed :
      IsWellFormed (read_macro (codes "f(a, r...) #a ## r"))
      × IsWellFormed (read_macro (codes "f # x"))
      × IsWellFormed (read_macro (codes "f()"))
