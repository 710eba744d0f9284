use Rattle.std.proofs.Common.{sym, ◌∙◌}
use Rattle.c_preproc.proofs.OpenLemmas.{worth-passed}
use Rattle.c_preproc.proofs.file.OpenFile.pass_part.Goals as goal

pub returns : goal.returns
returns c = λ names are.
    worth-passed names c.args.kept.now.files.items c.args.self.now c.in-Some.end (sym c.are_read.ensures ∙ c.if-are_read.false) are (sym c.in-Some.ensures)
