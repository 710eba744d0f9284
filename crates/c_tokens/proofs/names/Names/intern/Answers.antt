use Rattle.std.proofs.Common.{sym}
use Rattle.std.proofs.lemmas.Option.{slice_get_within}
use Rattle.c_tokens.proofs.TableLemmas.{is_among-stands, with_spelling-known}
use Rattle.c_tokens.proofs.names.Names.intern.Goals as goal

pub returns-in-Some-clause-table : goal.returns-in-Some-clause-table
returns-in-Some-clause-table c =
    sym (with_spelling-known c.args.self.now c.args.text.now (is_among-stands c.args.text.now c.args.self.now c.in-Some.id.0 c.in-Some.ensures.stands))

pub returns-in-Some-clause-known : goal.returns-in-Some-clause-known
returns-in-Some-clause-known c = slice_get_within c.args.self.now c.in-Some.id.0 c.args.text.now c.in-Some.ensures.stands
