use Rattle.std.proofs.Common.{[], unwrap_or, ap, ◌∙◌}
use Rattle.c_tokens.proofs.SeenLemmas.{Extends-Extends, IsKnown-Extends, text_of-Extends}
use Rattle.c_macros.proofs.KnowsLemmas.{KnowsAll-Extends}
use Rattle.c_preproc.proofs.FirstLemmas.{number-has}
use Rattle.c_preproc.proofs.StateLemmas.{has-later}
use Rattle.c_preproc.proofs.first_state.define_number.Goals as goal

pub returns-in-Ok-clause-defined : goal.returns-in-Ok-clause-defined
returns-in-Ok-clause-defined c = λ definitions has knows none.
    let old = c.args.names.now in
    let mid = c.intern.new.self in
    let later = c.number_macro.new.names in
    let more = Extends-Extends old mid later c.intern.ensures.keeps c.number_macro.ensures.keeps in
    number-has later c.apart.ensures.apart definitions c.args.macros.now c.define.new.self c.in_ok-id.id c.in_ok-m.m c.args.name.now c.args.text.now
    (text_of-Extends mid later c.number_macro.ensures.keeps c.in_ok-id.id c.in_ok-id.ensures.known ∙ ap (λ found. unwrap_or found []) c.in_ok-id.ensures.stands)
    c.in_ok-m.ensures.seen (IsKnown-Extends mid later c.number_macro.ensures.keeps c.in_ok-id.id c.in_ok-id.ensures.known) c.in_ok-m.ensures.known
    (has-later old later more c.apart.ensures.apart definitions c.args.macros.now knows has) none c.in-Ok.ensures.defined c.define.ensures.others

pub returns-in-Ok-clause-knows : goal.returns-in-Ok-clause-knows
returns-in-Ok-clause-knows c = λ knows.
    let old = c.args.names.now in
    let mid = c.intern.new.self in
    let later = c.number_macro.new.names in
    c.define.ensures.known later
    (KnowsAll-Extends old later c.args.macros.now (Extends-Extends old mid later c.intern.ensures.keeps c.number_macro.ensures.keeps) knows)
    (IsKnown-Extends mid later c.number_macro.ensures.keeps c.in_ok-id.id c.in_ok-id.ensures.known) c.in_ok-m.ensures.known
