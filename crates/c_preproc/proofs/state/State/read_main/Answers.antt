use Rattle.std.proofs.Common.{◌++◌, Ok, sym, subst}
use Rattle.meaning_outside.specs.Loads.{loads_since}
use Rattle.c_tokens.proofs.SeenLemmas.{Extends-Extends}
use Rattle.c_preproc.specs.Begins.{IsReadMain}
use Rattle.c_preproc.specs.Loads.{IsLooked, paths_seen}
use Rattle.c_preproc.proofs.BeginLemmas.{held-keeps, main-fault, main-found, main-missing, main-read, main-refused}
use Rattle.c_preproc.proofs.LoadLemmas.{agrees-front, loaded-then, ok-err, since-behind}
use Rattle.c_preproc.proofs.StateLemmas.{Holds-later}
use Rattle.c_preproc.proofs.state.State.read_main.Goals as goal

pub open-requires : goal.open-requires
open-requires g c =
    let held = c.requires.held in
    let kept = c.requires.kept in
    let given = kept.0 ++ loads_since (g.F.Files.loads c.args.files.now) (g.F.Files.loads c.look.new.files) in
    let source = main-found c.args.names.now c.look.new.names held.0 c.args.self.now held.1 held.2 kept.0 (loads_since (g.F.Files.loads c.args.files.now) (g.F.Files.loads c.look.new.files)) c.args.kept.now c.look.new.self c.args.path.now c.in-Ok-Some.field-0 c.in-Ok-Some.source c.in-Ok-Some.field-0-is c.in-Ok-Some.ensures.found kept.1 in
    let later = Holds-later c.args.names.now c.look.new.names c.look.ensures.keeps c.apart.ensures.apart held.0 c.args.self.now held.1 held.2 in
    record { found = (held.0, held.1, given, c.args.path.now, later, source) }

pub read_files-requires-clause-held : goal.read_files-requires-clause-held
read_files-requires-clause-held g c =
    let held = c.requires.held in
    let kept = c.requires.kept in
    let given = kept.0 ++ loads_since (g.F.Files.loads c.args.files.now) (g.F.Files.loads c.look.new.files) in
    let source = main-found c.args.names.now c.look.new.names held.0 c.args.self.now held.1 held.2 kept.0 (loads_since (g.F.Files.loads c.args.files.now) (g.F.Files.loads c.look.new.files)) c.args.kept.now c.look.new.self c.args.path.now c.in-Ok-Some.field-0 c.in-Ok-Some.source c.in-Ok-Some.field-0-is c.in-Ok-Some.ensures.found kept.1 in
    let later = Holds-later c.args.names.now c.look.new.names c.look.ensures.keeps c.apart.ensures.apart held.0 c.args.self.now held.1 held.2 in
    let opened = c.in-Ok.ensures.opened held.0 held.1 given c.args.path.now later source in
    (held.0, opened.0, opened.1)

pub read_files-requires-clause-kept : goal.read_files-requires-clause-kept
read_files-requires-clause-kept g c =
    let held = c.requires.held in
    let kept = c.requires.kept in
    let given = kept.0 ++ loads_since (g.F.Files.loads c.args.files.now) (g.F.Files.loads c.look.new.files) in
    let source = main-found c.args.names.now c.look.new.names held.0 c.args.self.now held.1 held.2 kept.0 (loads_since (g.F.Files.loads c.args.files.now) (g.F.Files.loads c.look.new.files)) c.args.kept.now c.look.new.self c.args.path.now c.in-Ok-Some.field-0 c.in-Ok-Some.source c.in-Ok-Some.field-0-is c.in-Ok-Some.ensures.found kept.1 in
    let later = Holds-later c.args.names.now c.look.new.names c.look.ensures.keeps c.apart.ensures.apart held.0 c.args.self.now held.1 held.2 in
    let opened = c.in-Ok.ensures.opened held.0 held.1 given c.args.path.now later source in
    (given, held-keeps c.open.new.names held.0 c.open.new.self opened.0 opened.1 given c.open.new.kept opened.2)

pub read_files-requires-clause-place : goal.read_files-requires-clause-place
read_files-requires-clause-place g c =
    let held = c.requires.held in
    let kept = c.requires.kept in
    let given = kept.0 ++ loads_since (g.F.Files.loads c.args.files.now) (g.F.Files.loads c.look.new.files) in
    let source = main-found c.args.names.now c.look.new.names held.0 c.args.self.now held.1 held.2 kept.0 (loads_since (g.F.Files.loads c.args.files.now) (g.F.Files.loads c.look.new.files)) c.args.kept.now c.look.new.self c.args.path.now c.in-Ok-Some.field-0 c.in-Ok-Some.source c.in-Ok-Some.field-0-is c.in-Ok-Some.ensures.found kept.1 in
    let later = Holds-later c.args.names.now c.look.new.names c.look.ensures.keeps c.apart.ensures.apart held.0 c.args.self.now held.1 held.2 in
    (c.in-Ok.ensures.opened held.0 held.1 given c.args.path.now later source).3

pub missing-requires : goal.missing-requires
missing-requires g c =
    let held = c.requires.held in
    record { held = (held.0, held.1, Holds-later c.args.names.now c.look.new.names c.look.ensures.keeps c.apart-in-Ok-None.ensures.apart held.0 c.args.self.now held.1 held.2) }

pub returns-in-Ok-clause-read : goal.returns-in-Ok-clause-read
returns-in-Ok-clause-read g c = λ earlier keeps.
    let first = g.F.Files.loads c.args.files.now in
    let mid = g.F.Files.loads c.look.new.files in
    let last = g.F.Files.loads c.read_files.new.files in
    let given = earlier ++ loads_since first mid in
    let held = c.requires.held in
    let source_held = main-found c.args.names.now c.look.new.names held.0 c.args.self.now held.1 held.2 earlier (loads_since (g.F.Files.loads c.args.files.now) (g.F.Files.loads c.look.new.files)) c.args.kept.now c.look.new.self c.args.path.now c.in-Ok-Some.field-0 c.in-Ok-Some.source c.in-Ok-Some.field-0-is c.in-Ok-Some.ensures.found keeps in
    let opened_held = c.in-Ok.ensures.opened held.0 held.1 given c.args.path.now (Holds-later c.args.names.now c.look.new.names c.look.ensures.keeps c.apart.ensures.apart held.0 c.args.self.now held.1 held.2) source_held in
    subst (λ all. IsReadMain c.args.names.now c.read_files.new.names c.args.self.now c.read_files.new.self all c.args.directories.now c.args.path.now c.read_files.result)
    (sym (since-behind first mid last c.look.ensures.loads.stay c.read_files.ensures.loads.stay earlier))
    (main-read c.args.names.now c.args.self.now c.args.directories.now c.args.path.now c.open.new.names c.read_files.new.names (Extends-Extends c.args.names.now c.look.new.names c.open.new.names c.look.ensures.keeps c.open.ensures.keeps) c.open.new.self c.read_files.new.self c.open.ensures.put
    given (given ++ loads_since mid last) (λ files agrees. agrees-front files given (loads_since mid last) agrees) c.open.new.kept c.read_files.new.kept c.in-Ok.place
    (λ s holds. c.in-Ok.ensures.opened c.args.path.now s given c.args.path.now (Holds-later c.args.names.now c.look.new.names c.look.ensures.keeps c.apart.ensures.apart c.args.path.now c.args.self.now s holds)
    (main-found c.args.names.now c.look.new.names c.args.path.now c.args.self.now s holds earlier (loads_since (g.F.Files.loads c.args.files.now) (g.F.Files.loads c.look.new.files)) c.args.kept.now c.look.new.self c.args.path.now c.in-Ok-Some.field-0 c.in-Ok-Some.source c.in-Ok-Some.field-0-is c.in-Ok-Some.ensures.found keeps))
    c.read_files.result (c.read_files.ensures.read given (held-keeps c.open.new.names held.0 c.open.new.self opened_held.0 opened_held.1 given c.open.new.kept opened_held.2)))

pub returns-in-Ok-clause-loads : goal.returns-in-Ok-clause-loads
returns-in-Ok-clause-loads g c =
    loaded-then (g.F.Files.loads c.args.files.now) (g.F.Files.loads c.look.new.files) (g.F.Files.loads c.read_files.new.files) _ _ _ _ _ _ _ _ (ok-err _ _) c.in-Ok-Some.ensures.loads c.read_files.ensures.loads

pub returns-in-Err-open-clause-read : goal.returns-in-Err-open-clause-read
returns-in-Err-open-clause-read g c = λ earlier keeps.
    let held = c.requires.held in
    let given = earlier ++ loads_since (g.F.Files.loads c.args.files.now) (g.F.Files.loads c.look.new.files) in
    main-refused c.args.names.now c.args.self.now c.args.directories.now c.args.path.now c.open.new.names c.open.new.self c.open.new.self given c.open.new.kept c.in-Err-open.fault
    (c.in-Err-open.ensures.opened held.0 held.1 given c.args.path.now (Holds-later c.args.names.now c.look.new.names c.look.ensures.keeps c.apart.ensures.apart held.0 c.args.self.now held.1 held.2)
    (main-found c.args.names.now c.look.new.names held.0 c.args.self.now held.1 held.2 earlier (loads_since (g.F.Files.loads c.args.files.now) (g.F.Files.loads c.look.new.files)) c.args.kept.now c.look.new.self c.args.path.now c.in-Ok-Some.field-0 c.in-Ok-Some.source c.in-Ok-Some.field-0-is c.in-Ok-Some.ensures.found keeps)).0
    (λ s holds. c.in-Err-open.ensures.opened c.args.path.now s given c.args.path.now (Holds-later c.args.names.now c.look.new.names c.look.ensures.keeps c.apart.ensures.apart c.args.path.now c.args.self.now s holds)
    (main-found c.args.names.now c.look.new.names c.args.path.now c.args.self.now s holds earlier (loads_since (g.F.Files.loads c.args.files.now) (g.F.Files.loads c.look.new.files)) c.args.kept.now c.look.new.self c.args.path.now c.in-Ok-Some.field-0 c.in-Ok-Some.source c.in-Ok-Some.field-0-is c.in-Ok-Some.ensures.found keeps))

pub returns-in-Ok-None-clause-read : goal.returns-in-Ok-None-clause-read
returns-in-Ok-None-clause-read g c = λ earlier keeps.
    let given = earlier ++ loads_since (g.F.Files.loads c.args.files.now) (g.F.Files.loads c.look.new.files) in
    let known = paths_seen c.args.names.now c.args.self.now in
    main-missing c.args.names.now c.args.self.now c.args.directories.now c.args.path.now c.look.new.names c.missing.new.names c.args.self.now known given c.look.new.self c.missing.result
    (subst (λ found. IsLooked c.look.new.names known given c.look.new.self c.args.path.now (Ok found)) c.in-Ok-None.field-0-is (c.in-Ok-None.ensures.found known earlier keeps))
    (λ s holds. c.missing.ensures.told c.args.path.now s (Holds-later c.args.names.now c.look.new.names c.look.ensures.keeps c.apart-in-Ok-None.ensures.apart c.args.path.now c.args.self.now s holds))

pub returns-in-Err-clause-read : goal.returns-in-Err-clause-read
returns-in-Err-clause-read g c = λ earlier keeps.
    let known = paths_seen c.args.names.now c.args.self.now in
    main-fault c.args.names.now c.args.self.now c.args.directories.now c.args.path.now c.look.new.names c.args.self.now known _ c.look.new.self c.in-Err.fault (c.in-Err.ensures.found known earlier keeps)

pub returns-in-Err-clause-known : goal.returns-in-Err-clause-known
returns-in-Err-clause-known g c = c.in-Err.ensures.known c.look.new.names
