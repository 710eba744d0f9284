use Rattle.std.proofs.Common.{◌∙◌, sym, ap, unwrap_or, option_map, codes}
use Rattle.c_macros.proofs.PredefinedLemmas.{spelled-found, stands-read}
use Rattle.c_macros.proofs.predefined.file_spelling.Goals as goal

pub returns-in-Some-clause-read : goal.returns-in-Some-clause-read
returns-in-Some-clause-read c = λ r reads.
    sym (spelled-found r.spelled c.args.table.now.files c.args.file ∙ ap (λ found. unwrap_or (option_map r.spelled found) (codes "\"\"")) (sym c.file_spelling.ensures ∙ c.in-Some.is))

pub returns-in_ok-spelled-in-None-clause-read : goal.returns-in_ok-spelled-in-None-clause-read
returns-in_ok-spelled-in-None-clause-read c = λ r reads.
    stands-read c.intern.new.self r reads c.in_ok-spelled-in-None.spelled _ c.in_ok-spelled-in-None.ensures.known c.in_ok-spelled-in-None.ensures.stands
    ∙ sym (spelled-found r.spelled c.args.table.now.files c.args.file ∙ ap (λ found. unwrap_or (option_map r.spelled found) (codes "\"\"")) (sym c.file_spelling.ensures ∙ c.in-None.is))
