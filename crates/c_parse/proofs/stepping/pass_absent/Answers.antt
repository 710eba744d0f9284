-- Operators that aren't there are passed over.
use Rattle.std.proofs.Common.{refl, sym, ◌∙◌}
use Rattle.meaning_derivation.specs.Derivation.{symbols}
use Rattle.c_parse.proofs.Moving.{absent_moves}
use Rattle.c_parse.proofs.stepping.pass_absent.Goals as goal

pub returns : goal.returns
returns c =
    absent_moves c.args.symbol c.pass_absent.ensures.0 c.args.looks c.args.parser.now _ (symbols c.args.parser.now.pending) c.requires.ready c.requires.looked c.requires.absent
    (c.pass_absent.ensures.2 c.args.looks.behind) (sym c.note_waiting.ensures.same ∙ c.pass_absent.ensures.1) refl c.note_waiting.ensures.few c.note_waiting.ensures.state refl
    c.note_waiting.ensures.names refl
