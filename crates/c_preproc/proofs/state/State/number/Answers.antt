use Rattle.std.proofs.Common.{Some, sym, ap, arith, ◌∙◌}
use Rattle.meaning_preprocessing.specs.State.{spelled_path}
use Rattle.c_preproc.proofs.NumberLemmas.{main-numbered, main-only, next-numbered}
use Rattle.c_preproc.proofs.state.State.number.Goals as goal

pub returns-then-is_main-clause-number : goal.returns-then-is_main-clause-number
returns-then-is_main-clause-number c = λ main s holds numberable.
    main-numbered c.args.names.now main c.args.self.now s holds c.args.path (sym c.is_main.ensures ∙ c.if-is_main.true)

pub returns-clause-number : goal.returns-clause-number
returns-clause-number c = λ main s holds numberable.
    next-numbered c.args.names.now main c.args.self.now s holds c.tell_file.new.names c.tell_file.ensures.keeps c.apart-2.ensures.apart c.args.path c.requires.known
    (numberable (main-only c.args.names.now main c.args.self.now s holds c.apart.ensures.apart c.args.path c.requires.known (sym c.is_main.ensures ∙ c.if-is_main.false)))
    c.tell_file.new.macros c.tell_file.ensures.macros (c.in_ok-tell_file.ensures.knows holds.knows) c.in-Ok.number (omega (arith, c.in-Ok.ensures, c.len.ensures))
    (c.in_ok-tell_file.ensures.told ∙ ap (λ t. Some (spelled_path t)) (c.deref.ensures.value ∙ c.in_ok-spelling.ensures.items ∙ c.spelling.ensures.seen)) c.tell_file.ensures.others c.push.new.self c.in_ok-push.ensures.items
