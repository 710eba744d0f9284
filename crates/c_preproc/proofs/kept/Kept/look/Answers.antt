use Rattle.std.proofs.Common.{[], ◌++◌, Ok, Some, unwrap_or, sym, ap, subst, ◌∙◌}
use Rattle.meaning_outside.specs.Loads.{loads_since}
use Rattle.c_preproc.specs.Loads.{IsLooked}
use Rattle.c_preproc.specs.declared.loads.Source.TheVariants as source
use Rattle.c_preproc.proofs.KeptLemmas.{keeps-later}
use Rattle.c_preproc.proofs.LookLemmas.{looked-kept, looked-memory, looked-none}
use Rattle.c_preproc.proofs.kept.Kept.look.Goals as goal

pub returns-in_err-id-clause-found : goal.returns-in_err-id-clause-found
returns-in_err-id-clause-found g c = λ known earlier keeps.
    looked-memory c.args.names.now c.intern.new.self known earlier (g.F.Files.loads c.args.files.now) c.args.self.now c.args.path.now keeps c.from_residual.result c.from_residual.ensures.1

pub returns-in-Some-File-clause-found : goal.returns-in-Some-File-clause-found
returns-in-Some-File-clause-found g c = λ known earlier keeps.
    let given = earlier ++ loads_since (g.F.Files.loads c.args.files.now) (g.F.Files.loads c.args.files.now) in
    subst (λ place. IsLooked c.intern.new.self known given c.args.self.now c.args.path.now (Ok (Some (source.Kept place)))) (sym c.in-Some-File.place-is)
    (looked-kept c.args.names.now c.intern.new.self c.intern.ensures.keeps known earlier (g.F.Files.loads c.args.files.now) c.args.self.now c.in_ok-id.id c.args.path.now keeps
    (ap (λ found. unwrap_or found []) c.in_ok-id.ensures.stands) c.in-Some-File.place (sym c.in-Some-File.ensures ∙ ap Some c.in-Some-File.field-0-is))

pub returns-in-Some-Nothing-clause-found : goal.returns-in-Some-Nothing-clause-found
returns-in-Some-Nothing-clause-found g c = λ known earlier keeps.
    looked-none c.args.names.now c.intern.new.self c.intern.ensures.keeps known earlier (g.F.Files.loads c.args.files.now) c.args.self.now c.in_ok-id.id c.args.path.now keeps
    (ap (λ found. unwrap_or found []) c.in_ok-id.ensures.stands) (sym c.in-Some-Nothing.ensures ∙ ap Some c.in-Some-Nothing.field-0-is)

pub returns-in-None-clause-found : goal.returns-in-None-clause-found
returns-in-None-clause-found g c = λ known earlier keeps.
    c.load.ensures.found c.intern.new.self known earlier (keeps-later c.args.names.now c.intern.new.self c.intern.ensures.keeps known earlier c.args.self.now keeps)
    c.apart.ensures.apart c.in_ok-id.ensures.known (ap (λ found. unwrap_or found []) c.in_ok-id.ensures.stands) (sym c.in-None.ensures)
