-- One number more, the last one, or what is wrong with it.
use Rattle.std.proofs.Common.{◌≡◌, ℕ, List, [], ◌∷◌, ◌++◌, ◌-◌, ◌^◌, length, sym, ap, ◌∙◌, subst, arith}
use Rattle.std.proofs.lemmas.List.{length-append, map-append}
use Rattle.control_flow.specs.Seen.{targets}
use Rattle.flows.specs.Reading.{Reads, behind_spaces, number_at}
use Rattle.flows.specs.Lines.{begins_number, right_there, successors_at}
use Rattle.flows.specs.Answers.{IsReadingOf}
use Rattle.flows.proofs.ElementLemmas.{ReadsOn, ends, fails, goes-further}
use Rattle.flows.proofs.LineLemmas.{handed-on}
use Rattle.flows.proofs.line.read_successors.Goals as goal

pub returns-in_err-number-clause-fails : goal.returns-in_err-number-clause-fails
returns-in_err-number-clause-fails c =
    handed-on (IsReadingOf (successors_at c.args.text.now)) _ c.from_residual.result c.from_residual.ensures.1
    (fails (number_at (2 ^ 30 - 1)) begins_number right_there (targets c.numbers.next) c.numbers.rest.now (successors_at c.args.text.now) _ _ c.numbers.invariant.on c.in_err-number.ensures.fails)

pub returns-then-not-begins_number-clause-reads : goal.returns-then-not-begins_number-clause-reads
returns-then-not-begins_number-clause-reads c =
    let before = targets c.numbers.next in
    let one = c.in_ok-number.number in
    let more : targets c.push.new.self ≡ before ++ one ∷ [] = ap targets c.in_ok-push.ensures.ok ∙ map-append (λ (pair : ℕ × ℕ). pair.0) c.numbers.next ((c.in_ok-number.number, 0) ∷ []) in
    let last = ap begins_number (sym c.behind_spaces-rest.ensures.text) ∙ sym c.begins_number.ensures ∙ c.if-not-begins_number.true in
    ends (number_at (2 ^ 30 - 1)) begins_number right_there before c.numbers.rest.now (successors_at c.args.text.now) one c.in_ok-number.behind.now c.numbers.invariant.on c.in_ok-number.ensures.reads last
    ∙ ap (λ (all : List ℕ). Reads all (behind_spaces c.in_ok-number.behind.now)) (sym more)
    ∙ ap (λ (rest : List _). Reads (targets c.push.new.self) rest) (sym c.behind_spaces-rest.ensures.text)

pub numbers-preserved : goal.numbers-preserved
numbers-preserved c =
    let before = targets c.numbers.next in
    let one = c.in_ok-number.number in
    let whole = successors_at c.args.text.now in
    let more : targets c.push.new.self ≡ before ++ one ∷ [] = ap targets c.in_ok-push.ensures.ok ∙ map-append (λ (pair : ℕ × ℕ). pair.0) c.numbers.next ((c.in_ok-number.number, 0) ∷ []) in
    let on_it_goes = ap begins_number (sym c.behind_spaces-rest.ensures.text) ∙ sym c.begins_number.ensures ∙ c.if-not-begins_number.false in
    let behind = c.behind_spaces-rest.ensures.text in
    record {
      on = subst (λ (front : List ℕ). ReadsOn (number_at (2 ^ 30 - 1)) begins_number right_there front c.behind_spaces-rest.result.now whole) (sym more)
          (subst (λ (rest : List _). ReadsOn (number_at (2 ^ 30 - 1)) begins_number right_there (before ++ one ∷ []) rest whole) (sym behind)
          (goes-further (number_at (2 ^ 30 - 1)) begins_number right_there before c.numbers.rest.now whole one c.in_ok-number.behind.now c.numbers.invariant.on c.in_ok-number.ensures.reads (omega (arith, ap length behind, c.behind_spaces-rest.ensures.shorter, c.in_ok-number.ensures.shorter)) on_it_goes));
      shorter = omega (arith, ap length c.in_ok-push.ensures.ok, length-append c.numbers.next ((c.in_ok-number.number, 0) ∷ []), c.numbers.invariant.shorter, c.behind_spaces-rest.ensures.shorter, c.in_ok-number.ensures.shorter);
    }
