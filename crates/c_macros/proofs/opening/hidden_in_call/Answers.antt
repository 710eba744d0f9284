use Rattle.std.proofs.Common.{◌∙◌, sym, ap, []}
use Rattle.std.proofs.lemmas.List.{append-nil}
use Rattle.meaning_macros.specs.Hiding.{NameSet, joined, only}
use Rattle.c_macros.proofs.HideLemmas.{Reads-earlier, hidden-intersection, hidden-with}
use Rattle.c_macros.proofs.opening.hidden_in_call.Goals as goal

pub returns-clause-read : goal.returns-clause-read
returns-clause-read c = λ names r reads.
    let name = c.args.name.now in
    let mid = c.intersection.new.self in
    let grown = c.hidden_too.new.sets in
    hidden-with names mid grown r c.in_ok-hides.ensures.keeps reads c.in_ok-both.both c.in_ok-hides.hides name.token.name c.in_ok-both.ensures.set c.in_ok-hides.ensures.set c.in_ok-hides.ensures.numbers
    ∙ ap (λ (hides : NameSet). joined hides (only (r.spelled name.token.name)))
    (hidden-intersection names c.args.sets.now mid r c.in_ok-both.ensures.keeps (Reads-earlier names names mid grown r ([], sym (append-nil names)) c.in_ok-hides.ensures.keeps reads)
    name.hides c.args.closing.now.hides c.in_ok-both.both c.requires.name c.requires.closing c.in_ok-both.ensures.set c.in_ok-both.ensures.numbers)
