-- Where the end is taken nothing is left.
use Rattle.std.proofs.Common.{◌≡◌, [], ◌∷◌, refl, subst}
use Rattle.std.proofs.lemmas.Option.{same_Some}
use Rattle.vocabulary.specs.declared.token_class.TokenClass.TheVariants.{End}
use Rattle.vocabulary.specs.declared.production_item.ProductionItem.TheVariants.{Passed}
use Rattle.meaning_grammar.specs.Sorts.{ATree}
use Rattle.meaning_derivation.specs.Actions.{act}
use Rattle.meaning_derivation.specs.Derivation.{none_left}
use Rattle.meaning_derivation.specs.Leading.{ComesTo}
use Rattle.meaning_derivation.specs.State.{Done}
use Rattle.meaning_derivation.specs.Taking.{take_one}
use Rattle.meaning_derivation.proofs.Stepping.{terminal_leads, terminal_fails}
use Rattle.parse_state.specs.Seen.{state_of}
use Rattle.c_parse.specs.Moments.{standing_with}
use Rattle.c_parse.specs.Telling.{IsTold}
use Rattle.meaning_derivation.proofs.Taken.{taken, taken_sorted, left_behind_end}
use Rattle.c_parse.proofs.Told.{told_so, passed_on}
use Rattle.meaning_derivation.proofs.Unended.{end_left}
use Rattle.c_parse.proofs.parsing.end.Goals as goal

pub returns-in_err-take-clause-told : goal.returns-in_err-take-clause-told
returns-in_err-take-clause-told c =
    passed_on (IsTold (ComesTo act (standing_with [] c.args.parser.now))) _ c.from_residual.result c.from_residual.ensures.1
    (told_so (λ outcome. take_one (Passed End) (state_of c.args.parser.now.state) c.args.parser.now.terminals.terminals ≡ outcome)
    (ComesTo act (standing_with [] c.args.parser.now)) _
    (λ why decided stands is.
    terminal_fails act (Passed End) [] (state_of c.args.parser.now.state) c.args.parser.now.terminals.terminals why decided stands refl is)
    c.in_err-take.ensures.told)

pub returns-clause-done : goal.returns-clause-done
returns-clause-done c =
    let goes = c.in_ok-take.ensures.goes in
    let none = end_left (state_of c.args.parser.now.state) c.args.parser.now.terminals.terminals c.requires.unended
    (taken (Passed End) (state_of c.args.parser.now.state) _ c.args.parser.now.terminals.terminals _ goes).0 in
    let left = left_behind_end c.args.parser.now.terminals.terminals _ none c.in_ok-take.ensures.left in
    subst (λ rest. ComesTo act (standing_with [] c.args.parser.now) (Done (state_of c.take.new.state) rest)) left
    (terminal_leads act (Passed End) [] (state_of c.args.parser.now.state) _ c.args.parser.now.terminals.terminals _ refl goes (Done (state_of c.take.new.state) c.take.new.terminals.terminals) none_left)

pub returns-clause-sorted : goal.returns-clause-sorted
returns-clause-sorted c =
    same_Some _ _ (taken_sorted (Passed End) [] (state_of c.args.parser.now.state) _ c.args.parser.now.terminals.terminals _ (ATree ∷ []) refl refl c.in_ok-take.ensures.goes c.requires.sorted)
