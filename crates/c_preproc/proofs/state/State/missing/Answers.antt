use Rattle.std.proofs.Common.{◌≡◌, [], IfSome, unwrap_or, sym, subst, ap}
use Rattle.std.proofs.lemmas.Option.{slice_get_within}
use Rattle.vocabulary.specs.declared.error_kind.ErrorKind.TheVariants.{NoSuchFile}
use Rattle.meaning_text.specs.Places.{main_file, start_of}
use Rattle.meaning_preprocessing.specs.State.{refused}
use Rattle.c_preproc.proofs.StateLemmas.{Holds-later}
use Rattle.c_preproc.proofs.state.State.missing.Goals as goal

pub returns-in-Ok-clause-told : goal.returns-in-Ok-clause-told
returns-in-Ok-clause-told c = λ main s holds.
    let later = Holds-later c.args.names.now c.intern.new.self c.intern.ensures.keeps c.apart.ensures.apart main c.args.self.now s holds in
    subst (λ found. IfSome found (λ stop. stop ≡ refused s NoSuchFile (start_of main_file) c.args.path.now)) (sym (c.error.ensures.stop main s later))
    (ap (λ found. refused s NoSuchFile (start_of main_file) (unwrap_or found [])) c.in-Ok.ensures.stands)

pub returns-in-Ok-clause-known : goal.returns-in-Ok-clause-known
returns-in-Ok-clause-known c =
    let held = c.requires.held in
    c.error.ensures.known held.0 held.1 (Holds-later c.args.names.now c.intern.new.self c.intern.ensures.keeps c.apart.ensures.apart held.0 c.args.self.now held.1 held.2)
    (slice_get_within _ _ _ c.in-Ok.ensures.stands)
