use Rattle.std.proofs.Common.{◌≡◌, ◌++◌, Ok, Err, Some, None, ℕ, map, refl, subst, ap, ◌∙◌}
use Rattle.vocabulary.specs.declared.error_kind.ErrorKind.TheVariants.{IncludeNotFound}
use Rattle.meaning_outside.specs.Loads.{loads_since}
use Rattle.meaning_preprocessing.specs.Search.{name_of_header, paths_for}
use Rattle.meaning_preprocessing.specs.State.{refused}
use Rattle.c_tokens.specs.Seen.{at_of}
use Rattle.c_directives.specs.Headers.{bytes_of, header_seen}
use Rattle.c_preproc.specs.Loads.{IsSearched}
use Rattle.c_preproc.specs.Requests.{request_seen}
use Rattle.c_preproc.proofs.IncludeLemmas.{header-later, included-fault, included-missing, included-opened, keeps-held}
use Rattle.c_preproc.proofs.LoadLemmas.{loaded-so, ok-err, text-err}
use Rattle.c_preproc.proofs.PieceLemmas.{known-fault}
use Rattle.c_preproc.proofs.StateLemmas.{Holds-later}
use Rattle.c_preproc.proofs.state.State.include.Goals as goal

pub open-requires : goal.open-requires
open-requires g c =
    let held = c.requires.held in
    let given = c.requires.kept.0 ++ loads_since (g.F.Files.loads c.args.files.now) (g.F.Files.loads c.search.new.files) in
    let found = subst (λ found. IsSearched c.search.new.names held.1.paths given c.search.new.self (map bytes_of c.in_ok-paths.paths.items) (Ok found)) c.in-Ok-Some.field-0-is
    (c.in-Ok-Some.ensures.found held.1.paths c.requires.kept.0 (keeps-held c.args.names.now held.0 c.args.self.now held.1 held.2 c.requires.kept.0 c.args.kept.now c.requires.kept.1)) in
    record { found = (held.0, held.1, given, found.0, Holds-later c.args.names.now c.search.new.names c.search.ensures.keeps c.apart-in-Ok-Some.ensures.apart held.0 c.args.self.now held.1 held.2, found.1) }

pub returns-in-Ok-Some-clause-included : goal.returns-in-Ok-Some-clause-included
returns-in-Ok-Some-clause-included g c = λ main s earlier holds keeps.
    let given = earlier ++ loads_since (g.F.Files.loads c.args.files.now) (g.F.Files.loads c.search.new.files) in
    let wanted = map bytes_of c.in_ok-paths.paths.items in
    let found = subst (λ found. IsSearched c.search.new.names s.paths given c.search.new.self wanted (Ok found)) c.in-Ok-Some.field-0-is (c.in-Ok-Some.ensures.found s.paths earlier keeps) in
    let later = Holds-later c.args.names.now c.search.new.names c.search.ensures.keeps c.apart-in-Ok-Some.ensures.apart main c.args.self.now s holds in
    included-opened c.open.new.names main c.open.new.self given c.open.new.kept c.args.directories.now (request_seen c.args.names.now c.args.request) c.args.depth s wanted
    (c.in_ok-paths.ensures ∙ ap (λ asking. paths_for (header_seen c.args.names.now c.args.request.header) asking c.args.directories.now) c.spelling-asking.ensures.seen)
    c.search.new.names c.search.new.self c.in-Ok-Some.source found c.open.result (c.open.ensures.opened main s given found.0 later found.1)

pub returns-in-Ok-None-clause-included : goal.returns-in-Ok-None-clause-included
returns-in-Ok-None-clause-included g c = λ main s earlier holds keeps.
    let given = earlier ++ loads_since (g.F.Files.loads c.args.files.now) (g.F.Files.loads c.search.new.files) in
    let wanted = map bytes_of c.in_ok-paths.paths.items in
    let found = subst (λ found. IsSearched c.search.new.names s.paths given c.search.new.self wanted (Ok found)) c.in-Ok-None.field-0-is (c.in-Ok-None.ensures.found s.paths earlier keeps) in
    let later = Holds-later c.args.names.now c.search.new.names c.search.ensures.keeps c.apart-in-Ok-None.ensures.apart main c.args.self.now s holds in
    included-missing c.search.new.names main c.args.self.now given c.search.new.self c.args.directories.now (request_seen c.args.names.now c.args.request) c.args.depth s wanted
    (c.in_ok-paths.ensures ∙ ap (λ asking. paths_for (header_seen c.args.names.now c.args.request.header) asking c.args.directories.now) c.spelling-asking.ensures.seen)
    c.search.new.names c.search.new.self c.error.result found
    (c.error.ensures.stop main s later
    ∙ ap (λ text. Some (refused s IncludeNotFound (at_of c.args.request.place) text))
    (c.name_of_header-word.ensures.name ∙ ap name_of_header (header-later c.args.names.now c.search.new.names c.search.ensures.keeps c.args.request.header c.requires.known.0)))

pub returns-in-Ok-None-clause-loads : goal.returns-in-Ok-None-clause-loads
returns-in-Ok-None-clause-loads g c =
    let held = c.requires.held in
    let later = Holds-later c.args.names.now c.search.new.names c.search.ensures.keeps c.apart-in-Ok-None.ensures.apart held.0 c.args.self.now held.1 held.2 in
    loaded-so _ _ _ _ _ _ _ _ (λ is. absurd (ok-err _ _ is))
    (λ is. absurd (text-err c.search.new.names c.error.result (c.error.ensures.known held.0 held.1 later c.name_of_header-word.ensures.known) is)) c.in-Ok-None.ensures.loads

pub returns-in-Ok-None-clause-known : goal.returns-in-Ok-None-clause-known
returns-in-Ok-None-clause-known g c =
    let held = c.requires.held in
    let later = Holds-later c.args.names.now c.search.new.names c.search.ensures.keeps c.apart-in-Ok-None.ensures.apart held.0 c.args.self.now held.1 held.2 in
    known-fault c.search.new.names c.error.result (c.error.ensures.known held.0 held.1 later c.name_of_header-word.ensures.known)

pub returns-clause-included : goal.returns-clause-included
returns-clause-included g c = λ main s earlier holds keeps.
    let given = earlier ++ loads_since (g.F.Files.loads c.args.files.now) (g.F.Files.loads c.search.new.files) in
    included-fault c.search.new.names main c.args.self.now given c.search.new.self c.args.directories.now (request_seen c.args.names.now c.args.request) c.args.depth s (map bytes_of c.in_ok-paths.paths.items)
    (c.in_ok-paths.ensures ∙ ap (λ asking. paths_for (header_seen c.args.names.now c.args.request.header) asking c.args.directories.now) c.spelling-asking.ensures.seen)
    c.search.new.names c.search.new.self c.in-Err.fault (c.in-Err.ensures.found s.paths earlier keeps) refl

pub returns-clause-known : goal.returns-clause-known
returns-clause-known g c = c.in-Err.ensures.known c.search.new.names
