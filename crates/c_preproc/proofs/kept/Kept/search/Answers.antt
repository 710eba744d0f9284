use Rattle.std.proofs.Common.{◌++◌, Ok, Err, List, ℕ, map, subst, ◌∙◌}
use Rattle.std.proofs.lemmas.List.{nil_from_length}
use Rattle.std.specs.Global.{Vec}
use Rattle.meaning_outside.specs.Loads.{loads_since}
use Rattle.c_tokens.proofs.SeenLemmas.{Extends-Extends}
use Rattle.c_directives.specs.Headers.{bytes_of}
use Rattle.c_preproc.specs.Loads.{IsLooked}
use Rattle.c_preproc.proofs.LoadLemmas.{loaded-so, loaded-then, ok-err}
use Rattle.c_preproc.proofs.LookLemmas.{IsLeft, left-next, searched-fault, searched-found}
use Rattle.c_preproc.proofs.kept.Kept.search.Goals as goal

pub wanted-preserved : goal.wanted-preserved
wanted-preserved g c =
    let first = g.F.Files.loads c.args.files.now in
    let mid = g.F.Files.loads c.wanted.files in
    let last = g.F.Files.loads c.look.new.files in
    let passed = loaded-so mid last _ _ _ _ _ ⊥ (ok-err _ _) (λ e. absurd e) c.in-Ok-None.ensures.loads in
    record {
      keeps = Extends-Extends c.args.names.now c.wanted.names c.look.new.names c.wanted.invariant.keeps c.look.ensures.keeps;
      files = c.look.ensures.files ∙ c.wanted.invariant.files;
      loaded = loaded-then first mid last _ _ _ _ _ _ ⊥ ⊥ (λ e. e) c.wanted.invariant.loaded passed;
      found = λ known earlier keeps.
          let wanted = map bytes_of c.args.paths.now.items in
          let left = subst (λ (ps : List (Vec ℕ)). IsLeft c.wanted.names known (earlier ++ loads_since first mid) c.wanted.self wanted (map bytes_of ps)) c.in-Some.ensures.cases.0 (c.wanted.invariant.found known earlier keeps) in
          let given = (earlier ++ loads_since first mid) ++ loads_since mid last in
          let looked = subst (λ path. IsLooked c.look.new.names known given c.look.new.self path (Ok c.in-Ok-None.field-0)) c.as_slice.ensures.value (c.in-Ok-None.ensures.found known (earlier ++ loads_since first mid) left.0) in
          left-next c.wanted.names c.look.new.names known earlier first mid last c.wanted.invariant.loaded.stay c.look.ensures.loads.stay c.wanted.self c.look.new.self wanted c.in-Some.path.now.items (map bytes_of c.in-Some.others.now) left
          (subst (λ found. IsLooked c.look.new.names known given c.look.new.self c.in-Some.path.now.items (Ok found)) c.in-Ok-None.field-0-is looked);
    }

pub returns-in-Ok-Some-clause-found : goal.returns-in-Ok-Some-clause-found
returns-in-Ok-Some-clause-found g c = λ known earlier keeps.
    let first = g.F.Files.loads c.args.files.now in
    let mid = g.F.Files.loads c.wanted.files in
    let last = g.F.Files.loads c.look.new.files in
    let wanted = map bytes_of c.args.paths.now.items in
    let left = subst (λ (ps : List (Vec ℕ)). IsLeft c.wanted.names known (earlier ++ loads_since first mid) c.wanted.self wanted (map bytes_of ps)) c.in-Some.ensures.cases.0 (c.wanted.invariant.found known earlier keeps) in
    let given = (earlier ++ loads_since first mid) ++ loads_since mid last in
    let looked = subst (λ path. IsLooked c.look.new.names known given c.look.new.self path (Ok c.in-Ok-Some.field-0)) c.as_slice.ensures.value (c.in-Ok-Some.ensures.found known (earlier ++ loads_since first mid) left.0) in
    searched-found c.wanted.names c.look.new.names known earlier first mid last c.wanted.invariant.loaded.stay c.look.ensures.loads.stay c.wanted.self c.look.new.self wanted c.in-Some.path.now.items (map bytes_of c.in-Some.others.now) left
    c.in-Ok-Some.source (subst (λ found. IsLooked c.look.new.names known given c.look.new.self c.in-Some.path.now.items (Ok found)) c.in-Ok-Some.field-0-is looked)

pub returns-in-Ok-Some-clause-loads : goal.returns-in-Ok-Some-clause-loads
returns-in-Ok-Some-clause-loads g c =
    loaded-then (g.F.Files.loads c.args.files.now) (g.F.Files.loads c.wanted.files) (g.F.Files.loads c.look.new.files) _ _ _ _ _ _ ⊥ _ (λ e. e) c.wanted.invariant.loaded
    (loaded-so _ _ _ _ _ _ _ _ (λ e. absurd (ok-err _ _ e)) (λ e. absurd (ok-err _ _ e)) c.in-Ok-Some.ensures.loads)

pub returns-in-Err-clause-found : goal.returns-in-Err-clause-found
returns-in-Err-clause-found g c = λ known earlier keeps.
    let first = g.F.Files.loads c.args.files.now in
    let mid = g.F.Files.loads c.wanted.files in
    let last = g.F.Files.loads c.look.new.files in
    let wanted = map bytes_of c.args.paths.now.items in
    let left = subst (λ (ps : List (Vec ℕ)). IsLeft c.wanted.names known (earlier ++ loads_since first mid) c.wanted.self wanted (map bytes_of ps)) c.in-Some.ensures.cases.0 (c.wanted.invariant.found known earlier keeps) in
    let given = (earlier ++ loads_since first mid) ++ loads_since mid last in
    searched-fault c.wanted.names c.look.new.names known earlier first mid last c.wanted.invariant.loaded.stay c.look.ensures.loads.stay c.wanted.self c.look.new.self wanted c.in-Some.path.now.items (map bytes_of c.in-Some.others.now) left
    c.in-Err.fault (subst (λ path. IsLooked c.look.new.names known given c.look.new.self path (Err c.in-Err.fault)) c.as_slice.ensures.value (c.in-Err.ensures.found known (earlier ++ loads_since first mid) left.0))

pub returns-in-Err-clause-loads : goal.returns-in-Err-clause-loads
returns-in-Err-clause-loads g c =
    loaded-then (g.F.Files.loads c.args.files.now) (g.F.Files.loads c.wanted.files) (g.F.Files.loads c.look.new.files) _ _ _ _ _ _ ⊥ _ (λ e. e) c.wanted.invariant.loaded c.in-Err.ensures.loads

pub returns-clause-found : goal.returns-clause-found
returns-clause-found g c = λ known earlier keeps.
    let first = g.F.Files.loads c.args.files.now in
    let mid = g.F.Files.loads c.wanted.files in
    subst (λ (ps : List (Vec ℕ)). IsLeft c.wanted.names known (earlier ++ loads_since first mid) c.wanted.self (map bytes_of c.args.paths.now.items) (map bytes_of ps)) (nil_from_length _ c.in_default.ensures.cases) (c.wanted.invariant.found known earlier keeps)
