-- The lines of what is answered of nodes.
use Rattle.std.proofs.Common.{◌≡◌, ℕ, suc, ◌<◌, Bool, true, false, List, ◌++◌, get_or, length, refl, ap, ◌∙◌, sym, inl, inr}
use Rattle.meaning_typing.specs.Rows.{Row}
use Rattle.meaning_typing.specs.Surroundings.{Surrounding}
use Rattle.meaning_typing.specs.Typing.{token_at}
use Rattle.meaning_typing.specs.Units.{UnitNodes, kind_at}
use Rattle.unit_commands.specs.Known.{next_row}
use Rattle.warn_print.specs.declared.show.Show.{Show}
use Rattle.unit_commands.specs.declared.answers.Answer.{Answer}
use Rattle.unit_commands.specs.declared.answers.Answer.TheVariants as answers
use Rattle.unit_commands.specs.Answers.{AreAnswers, IsAnswerBy, IsAnswerIf, nothing}
use Rattle.unit_commands.specs.Asked.{is_asked}
use Rattle.unit_commands.specs.Types.{AreLines, IsLineIf, IsRowLine, answer_line, fact_line, shown_of}

module _ (show : Show) (token : ℕ) (row : Row) where
  line_by : (answer : Answer) → IsAnswerBy show.types.now row answer → IsRowLine (shown_of show) token row (answer_line show token answer)
  line_by (answers.Known fact) is = inl (is.unbroken, ap (fact_line (shown_of show) token) is.fact)
  line_by (answers.Breaks broken) is = inr (broken, is, refl)

  line_if : (asked : Bool) (answer : Answer) → IsAnswerIf asked show.types.now row answer → IsLineIf asked (shown_of show) token row (answer_line show token answer)
  line_if true answer is = line_by answer is
  line_if false answer is = ap (answer_line show token) is

-- the line of the next node
pub lines_more :
    (show : Show) (nodes : UnitNodes) (surroundings : List Surrounding) (list : List Answer) → AreAnswers nodes surroundings show.types.now list
    → (count : ℕ) (text more : List ℕ) (token : ℕ) (answer : Answer) → AreLines nodes surroundings (shown_of show) count text → count < length list
    → token_at nodes count ≡ token → answer ≡ get_or list count nothing → more ≡ text ++ answer_line show token answer
    → AreLines nodes surroundings (shown_of show) (suc count) more
lines_more show nodes surroundings list are count text more token answer lines within stands is appended =
    let own = get_or list count nothing in (
      text,
      lines,
      (
        answer_line show (token_at nodes count) own,
        line_if show (token_at nodes count) (next_row nodes surroundings count) (is_asked (kind_at nodes count)) own (are count within),
        appended ∙ (λ i. text ++ answer_line show (sym stands i) (is i)),
      ),
    )
