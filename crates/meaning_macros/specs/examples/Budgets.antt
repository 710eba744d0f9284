-- Worked rows with budgets.
use Rattle.std.specs.Prelude.{◌≡◌, [], ◌∷◌, Some, None, codes}
use Rattle.meaning_macros.specs.Expansion.{WrongArguments, BadPaste, MadeTokens, Replacements, Finished, Failed, Passed, cost}
use Rattle.meaning_macros.specs.examples.Reading.{hiding_of}
use Rattle.meaning_macros.specs.examples.Rows.{EndsWithin, budget, ample, table_of, at_line}

-- What is used up, and when it is passed
pub record BudgetExamples : Type 0 where
  pub argument_and_body :
      EndsWithin (budget 2 3 0) (codes "a 1" ∷ codes "d(x) x x" ∷ []) (codes "d(a)") (codes "1 1") (Finished (budget 0 0 0))
      × EndsWithin (budget 2 2 0) (codes "a 1" ∷ codes "d(x) x x" ∷ []) (codes "d(a)") (codes "") (Passed MadeTokens)
      × EndsWithin (budget 1 9 0) (codes "a 1" ∷ codes "d(x) x x" ∷ []) (codes "d(a)") (codes "") (Passed Replacements)
  pub unused_argument :
      EndsWithin (budget 1 0 0) (codes "a 1" ∷ codes "n(x)" ∷ []) (codes "n(a)") (codes "") (Finished (budget 0 0 0))
  pub before_a_bad_paste :
      EndsWithin (budget 1 1 0) (codes "c(a,b) 1 2 a ## b" ∷ []) (codes "c(+,*)") (codes "") (Passed MadeTokens)
      × EndsWithin (budget 1 2 0) (codes "c(a,b) 1 2 a ## b" ∷ []) (codes "c(+,*)") (codes "") (Failed BadPaste (at_line 1 1))
  pub behind_tokens :
      EndsWithin (budget 0 1 0) (codes "f(a) a" ∷ []) (codes "f f f(1)") (codes "f f") (Passed Replacements)
  -- a replacement is counted before its arguments are expanded
  pub call_before_arguments :
      EndsWithin (budget 0 9 0) (codes "f(a) a" ∷ codes "g(a,b) a" ∷ []) (codes "f(g(1))") (codes "") (Passed Replacements)
      × EndsWithin (budget 1 9 0) (codes "f(a) a" ∷ codes "g(a,b) a" ∷ []) (codes "f(g(1))") (codes "") (Failed WrongArguments (at_line 1 1))
      × EndsWithin (budget 1 0 0) (codes "a 1" ∷ codes "d(x) x x" ∷ []) (codes "d(a)") (codes "") (Passed Replacements)
  pub predefined :
      EndsWithin (budget 2 0 7) [] (codes "__LINE__ __COUNTER__") (codes "1 7") (Finished (budget 0 0 8))
      × EndsWithin (budget 1 9 7) [] (codes "__LINE__ __COUNTER__") (codes "1") (Passed Replacements)
      × EndsWithin (budget 2 9 7) [] (codes "__LINE__") (codes "1") (Finished (budget 1 9 7))
      × EndsWithin (budget 2 9 7) [] (codes "__FILE__") (codes "\"t.c\"") (Finished (budget 1 9 7))
  pub costs :
      (cost (table_of (codes "f(a) a*g" ∷ codes "g(a) f(a)" ∷ [])) ample (hiding_of (codes "f(2)(9)")) ≡ Some (record { replacements = 3; tokens = 10 }))
      × (cost (table_of (codes "a 1" ∷ codes "d(x) x x" ∷ [])) ample (hiding_of (codes "d(a) x")) ≡ Some (record { replacements = 2; tokens = 3 }))
      × (cost (table_of (codes "f(a) a" ∷ [])) ample (hiding_of (codes "f(")) ≡ None)
