use Rattle.std.proofs.Common.{◌<◌, ◌∷◌, ◌++◌, [], Ok, arith, sym, subst, ap, length, ◌∙◌}
use Rattle.meaning_outside.specs.Loads.{loads_since}
use Rattle.c_preproc.specs.Files.{IsShorter}
use Rattle.c_preproc.specs.Kept.{tokens_kept}
use Rattle.c_preproc.specs.Loads.{IsPlace}
use Rattle.c_preproc.specs.Opens.{IsCounted, left_of, work_left}
use Rattle.c_preproc.specs.Steps.{ArePlaced, IsStepped}
use Rattle.c_preproc.proofs.StepLemmas.{Reads, end-is-stepped, end-less, end-placed, fault-is-stepped, include-held, include-is-forgotten, include-is-refused, include-is-stepped, include-kept, include-place, inner-less, inner-placed, keeps-seen, next-less, next-placed, part-is-stepped, reads-held, reads-passed}
use Rattle.c_preproc.proofs.state.State.step.Goals as goal

pub include-requires-clause-held : goal.include-requires-clause-held
include-requires-clause-held g c =
    reads-held c.args.names.now c.read_part.new.names c.args.self.now c.read_part.new.self c.args.kept.now.files.items c.args.file c.read_part.new.file c.requires.held c.in-Ok-Include.field-0 c.in-Ok-Include.ensures.read

pub include-requires-clause-kept : goal.include-requires-clause-kept
include-requires-clause-kept g c = (
  c.requires.kept.0,
  keeps-seen c.args.names.now c.read_part.new.names c.read_part.ensures.keeps c.args.self.now c.read_part.new.self c.requires.held c.read_part.ensures.paths c.requires.kept.0 c.args.kept.now c.requires.kept.1,
)

-- A directive was done

pub returns-in_ok-push-in-Ok-Part-clause-read : goal.returns-in_ok-push-in-Ok-Part-clause-read
returns-in_ok-push-in-Ok-Part-clause-read g c = λ earlier keeps.
    let names = c.args.names.now in
    let later = c.read_part.new.names in
    let old = c.args.self.now in
    let new = c.read_part.new.self in
    let kept = c.args.kept.now in
    let waiting = c.args.waiting.now.items in
    let all = g.F.Files.loads c.args.files.now in
    let reads = subst (λ found. Reads names later old new kept.files.items c.args.file c.read_part.new.file (Ok found)) c.in-Ok-Part.field-0-is c.in-Ok-Part.ensures.read in
    let now = keeps-seen names later c.read_part.ensures.keeps old new c.requires.held c.read_part.ensures.paths earlier kept keeps in
    let worth = c.pass_part.ensures later (now.ends c.read_part.new.file.place) in
    subst (λ on_way. IsStepped names later old new (earlier ++ loads_since all all) kept kept c.args.directories.now (waiting ++ c.args.file ∷ []) on_way (Ok tt)) (sym c.in_ok-push-in-Ok-Part.ensures.items)
    (part-is-stepped names later c.read_part.ensures.keeps old new c.requires.held c.read_part.ensures.paths kept c.args.directories.now waiting c.args.file c.pass_part.new.self c.requires.placed earlier keeps all
    (reads-passed names later old new kept.files.items c.args.file c.read_part.new.file c.pass_part.new.self worth reads))

pub returns-in_ok-push-in-Ok-Part-clause-held : goal.returns-in_ok-push-in-Ok-Part-clause-held
returns-in_ok-push-in-Ok-Part-clause-held g c =
    reads-held c.args.names.now c.read_part.new.names c.args.self.now c.read_part.new.self c.args.kept.now.files.items c.args.file c.read_part.new.file c.requires.held c.in-Ok-Part.field-0 c.in-Ok-Part.ensures.read

pub returns-in_ok-push-in-Ok-Part-clause-placed : goal.returns-in_ok-push-in-Ok-Part-clause-placed
returns-in_ok-push-in-Ok-Part-clause-placed g c =
    let worth = c.pass_part.ensures c.args.names.now (c.requires.kept.1.ends c.read_part.new.file.place) in
    subst (ArePlaced c.args.kept.now.files.items) (sym c.in_ok-push-in-Ok-Part.ensures.items)
    (next-placed c.args.kept.now.files.items c.args.waiting.now.items c.args.file c.pass_part.new.self (worth.place ∙ c.read_part.ensures.place) c.requires.placed)

pub returns-in_ok-push-in-Ok-Part-clause-less : goal.returns-in_ok-push-in-Ok-Part-clause-less
returns-in_ok-push-in-Ok-Part-clause-less g c =
    let files = c.args.kept.now.files.items in
    let waiting = c.args.waiting.now.items in
    let worth = c.pass_part.ensures c.args.names.now (c.requires.kept.1.ends c.read_part.new.file.place) in
    let shorter = subst (IsShorter (left_of files c.args.file) (left_of files c.read_part.new.file)) c.in-Ok-Part.field-0-is c.in-Ok-Part.ensures.left in
    subst (λ on_way. work_left c.read_part.new.self files on_way < work_left c.args.self.now files (waiting ++ c.args.file ∷ [])) (sym c.in_ok-push-in-Ok-Part.ensures.items)
    (next-less files waiting c.args.file c.pass_part.new.self c.args.self.now c.read_part.new.self c.read_part.ensures.bytes (omega (arith, shorter, worth.fewer)))

-- The file was at its end

pub returns-in-Ok-End-clause-read : goal.returns-in-Ok-End-clause-read
returns-in-Ok-End-clause-read g c = λ earlier keeps.
    let names = c.args.names.now in
    let later = c.read_part.new.names in
    let old = c.args.self.now in
    let new = c.read_part.new.self in
    let kept = c.args.kept.now in
    let reads = subst (λ found. Reads names later old new kept.files.items c.args.file c.read_part.new.file (Ok found)) c.in-Ok-End.field-0-is c.in-Ok-End.ensures.read in
    end-is-stepped names later c.read_part.ensures.keeps old new c.requires.held c.read_part.ensures.paths kept c.args.directories.now c.args.waiting.now.items c.args.file c.read_part.new.file c.requires.placed earlier keeps
    (g.F.Files.loads c.args.files.now) reads

pub returns-in-Ok-End-clause-held : goal.returns-in-Ok-End-clause-held
returns-in-Ok-End-clause-held g c =
    reads-held c.args.names.now c.read_part.new.names c.args.self.now c.read_part.new.self c.args.kept.now.files.items c.args.file c.read_part.new.file c.requires.held c.in-Ok-End.field-0 c.in-Ok-End.ensures.read

pub returns-in-Ok-End-clause-placed : goal.returns-in-Ok-End-clause-placed
returns-in-Ok-End-clause-placed g c = end-placed c.args.kept.now.files.items c.args.waiting.now.items c.args.file c.requires.placed

pub returns-in-Ok-End-clause-less : goal.returns-in-Ok-End-clause-less
returns-in-Ok-End-clause-less g c = end-less c.args.kept.now.files.items c.args.waiting.now.items c.args.file c.args.self.now c.read_part.new.self c.read_part.ensures.bytes

-- The unit ended within it

pub returns-in-Err-clause-read : goal.returns-in-Err-clause-read
returns-in-Err-clause-read g c = λ earlier keeps.
    fault-is-stepped c.args.names.now c.read_part.new.names c.read_part.ensures.keeps c.args.self.now c.read_part.new.self c.requires.held c.read_part.ensures.paths c.args.kept.now c.args.directories.now c.args.waiting.now.items c.args.file c.read_part.new.file
    c.requires.placed earlier keeps (g.F.Files.loads c.args.files.now) c.in-Err.fault c.args.waiting.now.items c.in-Err.ensures.read

-- A file was asked for

pub returns-in_ok-push-in-Ok-clause-read : goal.returns-in_ok-push-in-Ok-clause-read
returns-in_ok-push-in-Ok-clause-read g c = λ earlier keeps.
    let names = c.args.names.now in
    let later = c.read_part.new.names in
    let old = c.args.self.now in
    let new = c.read_part.new.self in
    let kept = c.args.kept.now in
    let waiting = c.args.waiting.now.items in
    let file = c.args.file in
    let next = c.read_part.new.file in
    let since = loads_since (g.F.Files.loads c.args.files.now) (g.F.Files.loads c.include.new.files) in
    let reads = subst (λ found. Reads names later old new kept.files.items file next (Ok found)) c.in-Ok-Include.field-0-is c.in-Ok-Include.ensures.read in
    let deep = c.len-depth.ensures ∙ c.push-in-Ok-Include.new.self.ok.0 ∙ ap length c.in_ok-push-in-Ok-Include.ensures.items in
    subst (λ on_way. IsStepped names c.include.new.names old c.include.new.self (earlier ++ since) kept c.include.new.kept c.args.directories.now (waiting ++ file ∷ []) on_way (Ok tt))
    (sym (c.in_ok-push-in-Ok.ensures.items ∙ ap (λ on_way. on_way ++ c.new.result ∷ []) c.in_ok-push-in-Ok-Include.ensures.items))
    (include-is-stepped names later c.read_part.ensures.keeps old new c.requires.held c.read_part.ensures.paths kept c.args.directories.now waiting file next c.requires.placed earlier keeps
    c.in-Ok-Include.request reads c.read_part.ensures.place c.len-depth.result deep c.include.new.names c.include.ensures.keeps c.include.new.self c.include.ensures.put c.include.new.kept c.include.ensures.stay since
    c.in-Ok.place c.in-Ok.ensures.included c.new.result c.new.ensures.place c.new.ensures.left c.new.ensures.groups)

pub returns-in_ok-push-in-Ok-clause-held : goal.returns-in_ok-push-in-Ok-clause-held
returns-in_ok-push-in-Ok-clause-held g c =
    let names = c.args.names.now in
    let later = c.read_part.new.names in
    let old = c.args.self.now in
    let new = c.read_part.new.self in
    let kept = c.args.kept.now in
    let waiting = c.args.waiting.now.items in
    let file = c.args.file in
    let next = c.read_part.new.file in
    let since = loads_since (g.F.Files.loads c.args.files.now) (g.F.Files.loads c.include.new.files) in
    let reads = subst (λ found. Reads names later old new kept.files.items file next (Ok found)) c.in-Ok-Include.field-0-is c.in-Ok-Include.ensures.read in
    let deep = c.len-depth.ensures ∙ c.push-in-Ok-Include.new.self.ok.0 ∙ ap length c.in_ok-push-in-Ok-Include.ensures.items in
    include-held names later c.read_part.ensures.keeps old new c.requires.held c.read_part.ensures.paths kept c.args.directories.now waiting file next c.requires.placed c.requires.kept.0 c.requires.kept.1
    c.in-Ok-Include.request reads c.read_part.ensures.place c.len-depth.result deep c.include.new.names c.include.ensures.keeps c.include.new.self c.include.ensures.put c.include.new.kept c.include.ensures.stay since
    c.in-Ok.place c.in-Ok.ensures.included

pub returns-in_ok-push-in-Ok-clause-placed : goal.returns-in_ok-push-in-Ok-clause-placed
returns-in_ok-push-in-Ok-clause-placed g c =
    let names = c.args.names.now in
    let later = c.read_part.new.names in
    let old = c.args.self.now in
    let new = c.read_part.new.self in
    let kept = c.args.kept.now in
    let waiting = c.args.waiting.now.items in
    let file = c.args.file in
    let next = c.read_part.new.file in
    let since = loads_since (g.F.Files.loads c.args.files.now) (g.F.Files.loads c.include.new.files) in
    let reads = subst (λ found. Reads names later old new kept.files.items file next (Ok found)) c.in-Ok-Include.field-0-is c.in-Ok-Include.ensures.read in
    let deep = c.len-depth.ensures ∙ c.push-in-Ok-Include.new.self.ok.0 ∙ ap length c.in_ok-push-in-Ok-Include.ensures.items in
    let place = include-place names later c.read_part.ensures.keeps old new c.requires.held c.read_part.ensures.paths kept c.args.directories.now waiting file next c.requires.placed c.requires.kept.0 c.requires.kept.1
    c.in-Ok-Include.request reads c.read_part.ensures.place c.len-depth.result deep c.include.new.names c.include.ensures.keeps c.include.new.self c.include.ensures.put c.include.new.kept c.include.ensures.stay since
    c.in-Ok.place c.in-Ok.ensures.included in
    let files = c.include.new.kept.files.items in
    subst (ArePlaced files) (sym (c.in_ok-push-in-Ok.ensures.items ∙ ap (λ on_way. on_way ++ c.new.result ∷ []) c.in_ok-push-in-Ok-Include.ensures.items))
    (inner-placed kept.files.items files c.include.ensures.stay (waiting ++ next ∷ []) c.new.result (next-placed kept.files.items waiting file next c.read_part.ensures.place c.requires.placed)
    (omega (arith, deep, c.in-Ok.ensures.deep)) (subst (IsPlace files) (sym c.new.ensures.place) place))

pub returns-in_ok-push-in-Ok-clause-less : goal.returns-in_ok-push-in-Ok-clause-less
returns-in_ok-push-in-Ok-clause-less g c =
    let names = c.args.names.now in
    let later = c.read_part.new.names in
    let old = c.args.self.now in
    let new = c.read_part.new.self in
    let kept = c.args.kept.now in
    let waiting = c.args.waiting.now.items in
    let file = c.args.file in
    let next = c.read_part.new.file in
    let since = loads_since (g.F.Files.loads c.args.files.now) (g.F.Files.loads c.include.new.files) in
    let reads = subst (λ found. Reads names later old new kept.files.items file next (Ok found)) c.in-Ok-Include.field-0-is c.in-Ok-Include.ensures.read in
    let deep = c.len-depth.ensures ∙ c.push-in-Ok-Include.new.self.ok.0 ∙ ap length c.in_ok-push-in-Ok-Include.ensures.items in
    let keeps_now = include-kept names later c.read_part.ensures.keeps old new c.requires.held c.read_part.ensures.paths kept c.args.directories.now waiting file next c.requires.placed c.requires.kept.0 c.requires.kept.1
    c.in-Ok-Include.request reads c.read_part.ensures.place c.len-depth.result deep c.include.new.names c.include.ensures.keeps c.include.new.self c.include.ensures.put c.include.new.kept c.include.ensures.stay since
    c.in-Ok.place c.in-Ok.ensures.included in
    let files = c.include.new.kept.files.items in
    let inner = c.new.result in
    subst (λ on_way. work_left c.include.new.self files on_way < work_left old kept.files.items (waiting ++ file ∷ [])) (sym (c.in_ok-push-in-Ok.ensures.items ∙ ap (λ on_way. on_way ++ inner ∷ []) c.in_ok-push-in-Ok-Include.ensures.items))
    (inner-less kept.files.items c.include.new.kept c.include.ensures.stay waiting file next inner (next-placed kept.files.items waiting file next c.read_part.ensures.place c.requires.placed) old new c.include.new.self c.read_part.ensures.bytes
    (subst (IsShorter (left_of kept.files.items file) (left_of kept.files.items next)) c.in-Ok-Include.field-0-is c.in-Ok-Include.ensures.left)
    (subst (IsCounted new c.include.new.self c.include.new.kept) (sym c.new.ensures.place) c.in-Ok.ensures.counted)
    (c.new.ensures.left ∙ ap (λ place. length (tokens_kept files place)) (sym c.new.ensures.place)) (keeps_now.small inner.place))

pub returns-in_err-push-in-Ok-clause-read : goal.returns-in_err-push-in-Ok-clause-read
returns-in_err-push-in-Ok-clause-read g c = λ earlier keeps.
    let names = c.args.names.now in
    let later = c.read_part.new.names in
    let old = c.args.self.now in
    let new = c.read_part.new.self in
    let kept = c.args.kept.now in
    let waiting = c.args.waiting.now.items in
    let file = c.args.file in
    let next = c.read_part.new.file in
    let since = loads_since (g.F.Files.loads c.args.files.now) (g.F.Files.loads c.include.new.files) in
    let reads = subst (λ found. Reads names later old new kept.files.items file next (Ok found)) c.in-Ok-Include.field-0-is c.in-Ok-Include.ensures.read in
    let deep = c.len-depth.ensures ∙ c.push-in-Ok-Include.new.self.ok.0 ∙ ap length c.in_ok-push-in-Ok-Include.ensures.items in
    include-is-forgotten names later c.read_part.ensures.keeps old new c.requires.held c.read_part.ensures.paths kept c.args.directories.now waiting file next c.requires.placed earlier keeps
    c.in-Ok-Include.request reads c.read_part.ensures.place c.len-depth.result deep c.include.new.names c.include.ensures.keeps c.include.new.self c.include.ensures.put c.include.new.kept c.include.ensures.stay since
    c.in-Ok.place c.in-Ok.ensures.included c.push-in-Ok.new.self.items c.from_residual-in_err-push-in-Ok.result c.from_residual-in_err-push-in-Ok.ensures.1

pub returns-in-Err-include-clause-read : goal.returns-in-Err-include-clause-read
returns-in-Err-include-clause-read g c = λ earlier keeps.
    let names = c.args.names.now in
    let later = c.read_part.new.names in
    let old = c.args.self.now in
    let new = c.read_part.new.self in
    let kept = c.args.kept.now in
    let waiting = c.args.waiting.now.items in
    let file = c.args.file in
    let next = c.read_part.new.file in
    let since = loads_since (g.F.Files.loads c.args.files.now) (g.F.Files.loads c.include.new.files) in
    let reads = subst (λ found. Reads names later old new kept.files.items file next (Ok found)) c.in-Ok-Include.field-0-is c.in-Ok-Include.ensures.read in
    let deep = c.len-depth.ensures ∙ c.push-in-Ok-Include.new.self.ok.0 ∙ ap length c.in_ok-push-in-Ok-Include.ensures.items in
    include-is-refused names later c.read_part.ensures.keeps old new c.requires.held c.read_part.ensures.paths kept c.args.directories.now waiting file next c.requires.placed earlier keeps
    c.in-Ok-Include.request reads c.read_part.ensures.place c.len-depth.result deep c.include.new.names c.include.ensures.keeps c.include.new.self c.include.ensures.put c.include.new.kept c.include.ensures.stay since
    c.in-Err-include.fault c.push-in-Ok-Include.new.self.items c.in-Err-include.ensures.included
