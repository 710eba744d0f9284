-- Worked examples: what stands between the parentheses of context statements, and their changes.
use Rattle.std.specs.Prelude.{◌≡◌, ℕ, ℤ, pos, neg_ℤ, Option, Some, None, Result, Ok, Err, List, [], ◌∷◌, map, replicate, codes}
use Rattle.meaning_text.specs.Lexing.{Lexed, Tokens, Refused, lexed_file}
use Rattle.meaning_attributes.specs.Contexts.{ChangeFault, BadChange, ChangePassesLimit, change_of}

abbrev pub change_lexed : Lexed → Option (Result ℤ ChangeFault)
change_lexed (Tokens tokens) = Some (change_of tokens)
change_lexed (Refused fault) = None

-- the changes of these texts
abbrev pub changes_in : List (List ℕ) → List (Option (Result ℤ ChangeFault))
changes_in texts = map (λ text. change_lexed (lexed_file 1 text)) texts

abbrev pub changes : List ℤ → List (Option (Result ℤ ChangeFault))
changes numbers = map (λ number. Some (Ok number)) numbers

pub record StatementExamples : Type 0 where
  pub good :
      changes_in (codes "a, 1" ∷ codes "1" ∷ codes "a, -1" ∷ codes "(a, b), +2" ∷ codes "a, 1000000" ∷ codes "a, -1000000" ∷ codes "-0" ∷ codes "__extension__ 0x1L" ∷ [])
      ≡ changes (pos 1 ∷ pos 1 ∷ neg_ℤ (pos 1) ∷ pos 2 ∷ pos 1000000 ∷ neg_ℤ (pos 1000000) ∷ pos 0 ∷ pos 1 ∷ [])
  pub bad :
      changes_in (codes "" ∷ codes "a, b" ∷ codes "a, - -1" ∷ codes "a, " ∷ codes ", 1" ∷ codes "a, b, 1" ∷ codes "a, ~1" ∷ codes "a, 'b'" ∷ codes "a, 09" ∷ codes "a, 1.0" ∷ codes "__extension__, 1" ∷ [])
      ≡ replicate 11 (Some (Err BadChange))
  pub beyond : changes_in (codes "a, 1000001" ∷ codes "a, -1000001" ∷ codes "1000001" ∷ []) ≡ replicate 3 (Some (Err ChangePassesLimit))
