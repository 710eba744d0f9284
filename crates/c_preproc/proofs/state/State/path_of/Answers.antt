use Rattle.std.proofs.Common.{[], ap, unwrap_or}
use Rattle.c_preproc.proofs.StateLemmas.{path-found, path-missing}
use Rattle.c_preproc.proofs.state.State.path_of.Goals as goal

pub returns-in-Some-clause-path : goal.returns-in-Some-clause-path
returns-in-Some-clause-path c = λ path s holds.
    path-found c.args.names.now path c.args.self.now s holds c.deref.result.now c.args.file c.in-Some.field-0.now c.deref.ensures.value c.in-Some.ensures.lookup.0 c.in-Some.ensures.lookup.1

pub returns-in-None-clause-path : goal.returns-in-None-clause-path
returns-in-None-clause-path c = λ path s holds.
    path-missing c.args.names.now path c.args.self.now s holds c.deref.result.now c.args.file _ c.deref.ensures.value c.in-None.ensures.lookup.0 (ap (λ found. unwrap_or found []) c.apart.ensures.empty)
