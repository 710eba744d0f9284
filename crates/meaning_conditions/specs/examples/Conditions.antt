-- Worked examples: short lists of tokens behind `#if`, and their answers.
use Rattle.std.specs.Prelude.{◌≡◌, ℕ, ◌-◌, ◌^◌, true, false, Option, Some, None, List, [], ◌∷◌, map, replicate, codes}
use Rattle.meaning_text.specs.Lexing.{Lexed, Tokens, Refused, lexed_file}
use Rattle.meaning_conditions.specs.Answers.{Answer, HasValue, HasBadIndex, HasZeroDivisor}
use Rattle.meaning_conditions.specs.plain.Reading.{answer_of}

-- the answer to the tokens of a text that has some
abbrev pub answer_to_lexed : Lexed → Option Answer
answer_to_lexed (Tokens tokens) = Some (answer_of tokens)
answer_to_lexed (Refused fault) = None

-- the answer to what stands behind an `#if`
abbrev pub answer_to : List ℕ → Option Answer
answer_to text = answer_to_lexed (lexed_file 1 text)

abbrev pub answers_to : List (List ℕ) → List (Option Answer)
answers_to texts = map answer_to texts

abbrev pub signed : ℕ → Option Answer
signed bits = Some (HasValue (record { bits = bits; unsigned = false }))

abbrev pub unsigned : ℕ → Option Answer
unsigned bits = Some (HasValue (record { bits = bits; unsigned = true }))

abbrev pub wrong_at : ℕ → Option Answer
wrong_at index = Some (HasBadIndex index)

abbrev pub zero_at : ℕ → Option Answer
zero_at index = Some (HasZeroDivisor index)

-- a number below 0, so far from it
abbrev pub below_0 : ℕ → Option Answer
below_0 n = signed (2 ^ 64 - n)

pub record GroupingExamples : Type 0 where
  pub all_ranks : answer_to (codes "1 + 2 * 3 - 4 / 2 << 1 & 7 ^ 1 | 8") ≡ signed 11
  pub bits_by_rank : answer_to (codes "1 | 2 ^ 3 & 4") ≡ signed 3
  pub from_the_left :
      answers_to (codes "5 - 3 - 1" ∷ codes "1 == 1 == 1" ∷ codes "3 > 2 > 1" ∷ codes "1 <= 2 >= 1" ∷ []) ≡ signed 1 ∷ signed 1 ∷ signed 0 ∷ signed 1 ∷ []
  pub conditionals :
      answers_to (codes "1 ? 0 ? 3 : 4 : 5" ∷ codes "1 ? 2 : 0 ? 3 : 1/0" ∷ codes "x ? y : z" ∷ []) ≡ signed 4 ∷ signed 2 ∷ signed 0 ∷ []

pub record OperatorExamples : Type 0 where
  pub neighbouring_ranks :
      answers_to (codes "2 && 1 | 4" ∷ codes "1 | 1 ^ 1" ∷ codes "1 ^ 1 & 0" ∷ codes "2 & 2 == 2" ∷ codes "2 == 1 < 3" ∷ codes "1 < 1 << 1" ∷ codes "1 << 1 + 1" ∷ codes "1 || 0 && 0" ∷ codes "1 || 0 ? 2 : 3" ∷ codes "!0 + 1" ∷ [])
      ≡ map signed (1 ∷ 1 ∷ 1 ∷ 0 ∷ 0 ∷ 1 ∷ 4 ∷ 1 ∷ 2 ∷ 2 ∷ [])
  pub each_operator :
      answers_to (codes "6 & 3" ∷ codes "6 | 3" ∷ codes "6 ^ 3" ∷ codes "7 * 6" ∷ codes "9 % 5" ∷ codes "2 && 4" ∷ codes "2 && 0" ∷ codes "0 || 4" ∷ codes "2 || 0" ∷ codes "!5" ∷ codes "+5" ∷ codes "1 != 2" ∷ codes "1 != 1" ∷ codes "2 == 2" ∷ [])
      ≡ map signed (2 ∷ 7 ∷ 5 ∷ 42 ∷ 4 ∷ 1 ∷ 0 ∷ 1 ∷ 1 ∷ 0 ∷ 5 ∷ 1 ∷ 0 ∷ 1 ∷ [])
  pub orders :
      answers_to (codes "1 < 1" ∷ codes "1 <= 1" ∷ codes "1 > 1" ∷ codes "1 >= 1" ∷ codes "2 >= 1" ∷ codes "1 >= 2" ∷ codes "2 <= 1" ∷ codes "-1 < 0" ∷ [])
      ≡ map signed (0 ∷ 1 ∷ 0 ∷ 1 ∷ 1 ∷ 0 ∷ 0 ∷ 1 ∷ [])
  pub shifted_out : answer_to (codes "3 << 63") ≡ signed (2 ^ 63)
  pub complements : answers_to (codes "~5" ∷ codes "~0u" ∷ []) ≡ below_0 6 ∷ unsigned (2 ^ 64 - 1) ∷ []
  pub each_truth_is_signed : answers_to (codes "(1u < 2) - 2 < 0" ∷ codes "(1u <= 2) - 2 < 0" ∷ codes "(2u >= 1) - 2 < 0" ∷ codes "(1u == 1) - 2 < 0" ∷ codes "(1u != 2) - 2 < 0" ∷ codes "(1u && 1u) - 2 < 0" ∷ []) ≡ replicate 6 (signed 1)
  pub one_unsigned_operand : answers_to (codes "(0u * 1) - 1 > 0" ∷ codes "(0u / 1) - 1 > 0" ∷ codes "(0 % 1u) - 1 > 0" ∷ codes "0 + 0u - 1 > 0" ∷ codes "(0u - 0) - 1 > 0" ∷ codes "(0 & 0u) - 1 > 0" ∷ codes "(0u ^ 0) - 1 > 0" ∷ codes "(0 | 0u) - 1 > 0" ∷ codes "+0u - 1 > 0" ∷ codes "-0u - 1 > 0" ∷ codes "~~0u - 1 > 0" ∷ codes "(0u << 1) - 1 > 0" ∷ []) ≡ replicate 12 (signed 1)
  pub a_count_is_no_operand : answers_to (codes "(1 << 1u) - 3 < 0" ∷ codes "(2 >> 1u) - 3 < 0" ∷ []) ≡ replicate 2 (signed 1)
  pub great_numbers :
      answers_to (codes "0xffffffffffffffff / 2" ∷ codes "-7 % 2u" ∷ codes "0x8000000000000000 >> 63" ∷ []) ≡ unsigned (2 ^ 63 - 1) ∷ unsigned 1 ∷ unsigned 1 ∷ []

pub record TypeExamples : Type 0 where
  pub mixed_comparisons :
      answers_to (codes "-1 > 0u" ∷ codes "-1 < 0u" ∷ codes "-1 <= 1u" ∷ codes "-1 == 0xffffffffffffffff" ∷ []) ≡ signed 1 ∷ signed 0 ∷ signed 0 ∷ signed 1 ∷ []
  pub by_value_and_suffix : answer_to (codes "-1 < 0x80000000") ≡ signed 1
  pub above_the_greatest : answer_to (codes "0x8000000000000000") ≡ unsigned (2 ^ 63)
  pub sums_wrap : answer_to (codes "9223372036854775807 + 1") ≡ signed (2 ^ 63)
  pub unsigned_sums_wrap : answer_to (codes "0xffffffffffffffff + 1") ≡ unsigned 0
  pub wrapped_sign : answers_to (codes "0x7fffffffffffffff + 1 < 0" ∷ codes "0x7fffffffffffffff + 1u < 0" ∷ []) ≡ signed 1 ∷ signed 0 ∷ []
  pub by_both_arms : answer_to (codes "1 ? -1 : 0u") ≡ unsigned (2 ^ 64 - 1)
  pub by_the_other_arm : answer_to (codes "(0 ? 1u : -1) > 0") ≡ signed 1
  pub by_an_unevaluated_arm : answer_to (codes "0 ? 1u/0 : 1 - 2 < 0") ≡ unsigned 1
  pub truths_are_signed :
      answers_to (codes "!1u - 1 < 0" ∷ codes "(2u > 1) - 2 < 0" ∷ codes "(1 || 0u) - 2 < 0" ∷ []) ≡ replicate 3 (signed 1)

pub record NumberExamples : Type 0 where
  pub right_shifts : answers_to (codes "-1 >> 63" ∷ codes "-1u >> 63" ∷ codes "-8 >> 1u" ∷ []) ≡ below_0 1 ∷ unsigned 1 ∷ below_0 4 ∷ []
  pub counts_are_taken_modulo_64 :
      answers_to (codes "1 << 64" ∷ codes "1 << -1" ∷ codes "1 << 63 >> 63" ∷ codes "2 >> 65" ∷ []) ≡ signed 1 ∷ signed (2 ^ 63) ∷ below_0 1 ∷ signed 1 ∷ []
  pub quotients :
      answers_to (codes "-7 / 2" ∷ codes "-7 % 2" ∷ codes "7 / -2" ∷ codes "7 % -2" ∷ codes "-7 / 2u" ∷ [])
      ≡ below_0 3 ∷ below_0 1 ∷ below_0 3 ∷ signed 1 ∷ unsigned 9223372036854775804 ∷ []
  pub least_by_minus_one :
      answers_to (codes "(-9223372036854775807 - 1) / -1" ∷ codes "(-9223372036854775807 - 1) % -1" ∷ []) ≡ signed (2 ^ 63) ∷ signed 0 ∷ []
  pub characters : answers_to (codes "'a'" ∷ codes "'\\377' < 0" ∷ codes "'\\0'" ∷ []) ≡ signed 97 ∷ signed 1 ∷ signed 0 ∷ []
  pub identifiers : answers_to (codes "a + 1" ∷ codes "defined" ∷ codes "int" ∷ []) ≡ signed 1 ∷ signed 0 ∷ signed 0 ∷ []

pub record ZeroExamples : Type 0 where
  pub unevaluated :
      answers_to (codes "1 || 1/0" ∷ codes "0 && 1/0" ∷ codes "0 ? 1/0 : 3" ∷ codes "(1 || 1/0) && 0 / 1" ∷ codes "1 || 0 && 1/0" ∷ [])
      ≡ signed 1 ∷ signed 0 ∷ signed 3 ∷ signed 0 ∷ signed 1 ∷ []
  pub evaluated :
      answers_to
      (codes "1 && 1/0" ∷ codes "0 || 1 % 0" ∷ codes "1/0/0" ∷ codes "0 / 0u" ∷ codes "(1 - 1) / (2 - 2) + 5 % 0" ∷ codes "0 ? 1/0 : 2/0" ∷ codes "(0 && 1/0) + 1/0" ∷ [])
      ≡ map zero_at (3 ∷ 3 ∷ 1 ∷ 1 ∷ 5 ∷ 7 ∷ 9 ∷ [])

pub record WrongExamples : Type 0 where
  pub unfinished :
      answers_to ([] ∷ codes "1 +" ∷ codes "( 1" ∷ codes "1 )" ∷ codes "1 2" ∷ codes ": 1" ∷ codes "()" ∷ []) ≡ map wrong_at (0 ∷ 2 ∷ 2 ∷ 1 ∷ 1 ∷ 0 ∷ 1 ∷ [])
  pub conditionals :
      answers_to (codes "1 ? 2" ∷ codes "1 ? : 2" ∷ codes "1 ?: 2" ∷ codes "1 ? 2 : 3 : 4" ∷ []) ≡ map wrong_at (3 ∷ 2 ∷ 2 ∷ 5 ∷ [])
  pub operators :
      answers_to (codes "(1,2)" ∷ codes "1,2" ∷ codes "1 = 2" ∷ codes "1 ++ 2" ∷ codes "++1" ∷ codes "2--1" ∷ codes "1 &&& 1" ∷ [])
      ≡ map wrong_at (2 ∷ 1 ∷ 1 ∷ 1 ∷ 0 ∷ 1 ∷ 2 ∷ [])
  pub one_sided : answers_to (codes "1 ~ 2" ∷ codes "1 ! 2" ∷ codes "* 1" ∷ []) ≡ map wrong_at (1 ∷ 1 ∷ 0 ∷ [])
  pub strangers :
      answers_to (codes "a(1)" ∷ codes "sizeof(int)" ∷ codes "(int)1" ∷ codes "\"x\"" ∷ codes "1 <: 2" ∷ codes "@" ∷ []) ≡ map wrong_at (1 ∷ 1 ∷ 3 ∷ 0 ∷ 1 ∷ 0 ∷ [])
  pub refused_numbers :
      answers_to
      (codes "1.0" ∷ codes "09" ∷ codes "1uu" ∷ codes "0x" ∷ codes "18446744073709551616" ∷ codes "9223372036854775808" ∷ [])
      ≡ replicate 6 (wrong_at 0)
  pub refused_characters : answers_to (codes "L'a'" ∷ codes "''" ∷ codes "'ab'" ∷ codes "'\\q'" ∷ []) ≡ replicate 4 (wrong_at 0)
  pub refused_unevaluated :
      answers_to (codes "1 && 1.0" ∷ codes "0 && ( 1.0" ∷ codes "1 / 18446744073709551615" ∷ []) ≡ map wrong_at (2 ∷ 3 ∷ 2 ∷ [])
