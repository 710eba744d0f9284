use Rattle.std.proofs.Common.{ℕ, List, sym, ap}
use Rattle.meaning_preprocessing.specs.Groups.{Includes}
use Rattle.c_tokens.specs.Seen.{at_of}
use Rattle.c_directives.specs.Headers.{header_seen}
use Rattle.c_preproc.proofs.state.State.asked.Goals as goal

pub returns-clause-asked : goal.returns-clause-asked
returns-clause-asked c = λ path s holds.
    ap (λ (file : List ℕ). Includes (record { header = header_seen c.args.names.now c.args.header; asking = file; place = at_of c.args.first.now.place }) s) (sym (c.path_of.ensures.path path s holds))

pub returns-clause-known : goal.returns-clause-known
returns-clause-known c = λ held known. (known, c.path_of.ensures.known held.0 held.1 held.2)
