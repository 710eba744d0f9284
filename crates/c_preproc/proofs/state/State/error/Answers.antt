use Rattle.std.proofs.Common.{Some, ap}
use Rattle.meaning_preprocessing.specs.State.{Refuses}
use Rattle.c_tokens.specs.Seen.{at_of, text_of}
use Rattle.c_preproc.proofs.state.State.error.Goals as goal

pub returns-clause-stop : goal.returns-clause-stop
returns-clause-stop c = λ path s holds.
    ap (λ file. Some (Refuses (record { kind = c.args.kind; place = at_of c.args.place; path = file; word = text_of c.args.names.now c.args.word }))) (c.path_of.ensures.path path s holds)

pub returns-clause-known : goal.returns-clause-known
returns-clause-known c = λ path s holds known. (known, c.path_of.ensures.known path s holds)
