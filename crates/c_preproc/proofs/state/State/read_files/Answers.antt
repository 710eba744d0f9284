use Rattle.std.proofs.Common.{◌++◌, ◌∷◌, [], sym, ap, subst, ◌∙◌}
use Rattle.std.proofs.lemmas.List.{append-nil, nil_from_length}
use Rattle.meaning_outside.specs.Loads.{loads_since}
use Rattle.c_tokens.proofs.SeenLemmas.{Extends-Extends}
use Rattle.c_preproc.specs.Loads.{IsPlace}
use Rattle.c_preproc.specs.Steps.{ArePlaced}
use Rattle.c_preproc.proofs.LoadLemmas.{loaded-none, loaded-so, loaded-then, ok-err, since-behind}
use Rattle.c_preproc.proofs.ReadLemmas.{IsReadOn, read-begins, read-ends, read-on}
use Rattle.c_preproc.proofs.StepLemmas.{first-placed, since-still}
use Rattle.c_preproc.proofs.state.State.read_files.Goals as goal

pub files-init : goal.files-init
files-init g c =
    let names = c.args.names.now in
    let all = g.F.Files.loads c.args.files.now in
    let first = c.new.result in
    let waiting_is = c.in_ok-push.ensures.items ∙ ap (λ on_way. on_way ++ first ∷ []) c.new-waiting.ensures.items in
    record {
      keeps = ([], sym (append-nil names));
      held = c.requires.held;
      placed = subst (ArePlaced c.args.kept.now.files.items) (sym waiting_is) (first-placed c.args.kept.now.files.items first (subst (IsPlace c.args.kept.now.files.items) (sym c.new.ensures.place) c.requires.place));
      loaded = loaded-none all _ _ ⊥ (λ e. e);
      read = λ earlier keeps.
          subst (IsReadOn names names c.args.self.now c.args.self.now (earlier ++ loads_since all all) c.args.kept.now c.args.kept.now c.args.directories.now c.args.first) (sym waiting_is)
          (subst (λ given. IsReadOn names names c.args.self.now c.args.self.now given c.args.kept.now c.args.kept.now c.args.directories.now c.args.first (first ∷ [])) (sym (since-still earlier all))
          (read-begins names c.args.self.now earlier c.args.kept.now c.args.directories.now c.args.first first c.new.ensures.place c.new.ensures.left c.new.ensures.groups keeps));
    }

pub files-preserved : goal.files-preserved
files-preserved g c =
    let first = g.F.Files.loads c.args.files.now in
    let mid = g.F.Files.loads c.files.files in
    let last = g.F.Files.loads c.step.new.files in
    let passed = loaded-so mid last _ _ _ _ _ ⊥ (ok-err _ _) (λ e. absurd e) c.in-Ok.ensures.loads in
    record {
      keeps = Extends-Extends c.args.names.now c.files.names c.step.new.names c.files.invariant.keeps c.step.ensures.keeps;
      held = c.in-Ok.ensures.held;
      placed = c.in-Ok.ensures.placed;
      loaded = loaded-then first mid last _ _ _ _ _ _ ⊥ ⊥ (λ e. e) c.files.invariant.loaded passed;
      read = λ earlier keeps.
          let before = earlier ++ loads_since first mid in
          let waiting = c.pop.new.self.items ++ c.in-Some.file ∷ [] in
          let on = subst (IsReadOn c.args.names.now c.files.names c.args.self.now c.files.self before c.args.kept.now c.files.kept c.args.directories.now c.args.first) c.in-Some.ensures.items (c.files.invariant.read earlier keeps) in
          read-on c.args.names.now c.files.names c.step.new.names c.args.self.now c.files.self c.step.new.self before (loads_since mid last) (earlier ++ loads_since first last)
          (since-behind first mid last c.files.invariant.loaded.stay c.step.ensures.loads.stay earlier)
          c.args.kept.now c.files.kept c.step.new.kept c.args.directories.now c.args.first waiting c.step.new.waiting.items on (c.in-Ok.ensures.read before on.0);
    }

pub returns-in-Err-clause-read : goal.returns-in-Err-clause-read
returns-in-Err-clause-read g c = λ earlier keeps.
    let first = g.F.Files.loads c.args.files.now in
    let mid = g.F.Files.loads c.files.files in
    let last = g.F.Files.loads c.step.new.files in
    let before = earlier ++ loads_since first mid in
    let waiting = c.pop.new.self.items ++ c.in-Some.file ∷ [] in
    let on = subst (IsReadOn c.args.names.now c.files.names c.args.self.now c.files.self before c.args.kept.now c.files.kept c.args.directories.now c.args.first) c.in-Some.ensures.items (c.files.invariant.read earlier keeps) in
    read-ends c.args.names.now c.files.names c.step.new.names c.args.self.now c.files.self c.step.new.self before (loads_since mid last) (earlier ++ loads_since first last)
    (since-behind first mid last c.files.invariant.loaded.stay c.step.ensures.loads.stay earlier)
    c.args.kept.now c.files.kept c.step.new.kept c.args.directories.now c.args.first waiting c.step.new.waiting.items on c.in-Err.fault (c.in-Err.ensures.read before on.0)

pub returns-in-Err-clause-loads : goal.returns-in-Err-clause-loads
returns-in-Err-clause-loads g c =
    loaded-then (g.F.Files.loads c.args.files.now) (g.F.Files.loads c.files.files) (g.F.Files.loads c.step.new.files) _ _ _ _ _ _ ⊥ _ (λ e. e) c.files.invariant.loaded c.in-Err.ensures.loads

pub returns-clause-read : goal.returns-clause-read
returns-clause-read g c = λ earlier keeps.
    let given = earlier ++ loads_since (g.F.Files.loads c.args.files.now) (g.F.Files.loads c.files.files) in
    subst (IsReadOn c.args.names.now c.files.names c.args.self.now c.files.self given c.args.kept.now c.files.kept c.args.directories.now c.args.first)
    (nil_from_length _ (sym c.files.waiting.ok.0 ∙ c.in_default.ensures.cases.0)) (c.files.invariant.read earlier keeps)
