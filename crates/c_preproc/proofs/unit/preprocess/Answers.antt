use Rattle.std.proofs.Common.{Err, sym, subst, ◌∙◌}
use Rattle.meaning_outside.specs.Loads.{AgreesWith, EachPathIsLoadedOnce, loads_since}
use Rattle.meaning_conditions.proofs.Valuing.{answers_exist}
use Rattle.meaning_conditions.specs.plain.Reading.{answer_of}
use Rattle.meaning_preprocessing.specs.Unit.{first_state, main_piece, unit_limits}
use Rattle.c_tokens.proofs.SeenLemmas.{Extends-Extends}
use Rattle.c_preproc.specs.States.{EndsUnit}
use Rattle.c_preproc.specs.Steps.{directories_alone}
use Rattle.c_preproc.specs.Units.{options_seen, setting_of}
use Rattle.c_preproc.proofs.LoadLemmas.{agrees-front, loaded-so, ok-err, since-then}
use Rattle.c_preproc.proofs.UnitLemmas.{begins, fault-err, loaded-both, memory-err, unit-ends, unit-known, unit-made}
use Rattle.c_preproc.proofs.unit.preprocess.Goals as goal

pub returns-in_err-into_unit-in-Ok-read_main-clause-told : goal.returns-in_err-into_unit-in-Ok-read_main-clause-told
returns-in_err-into_unit-in-Ok-read_main-clause-told g c =
    (loaded-both (g.F.Files.loads c.args.files.now) (g.F.Files.loads c.read_command.new.files) (g.F.Files.loads c.read_main.new.files) _ _ _ _ _ _ _ _ c.in-Ok.ensures.loads c.read_main.ensures.loads).told

pub returns-in_err-into_unit-in-Ok-read_main-clause-cause : goal.returns-in_err-into_unit-in-Ok-read_main-clause-cause
returns-in_err-into_unit-in-Ok-read_main-clause-cause g c = (loaded-both (g.F.Files.loads c.args.files.now) (g.F.Files.loads c.read_command.new.files) (g.F.Files.loads c.read_main.new.files) _ _ _ _ _ _ _ _ c.in-Ok.ensures.loads (loaded-so _ _ _ _ _ _ _ _ (λ is. absurd (ok-err _ _ is)) (λ is. absurd (memory-err c.from_residual-in_err-into_unit-in-Ok-read_main.result c.from_residual-in_err-into_unit-in-Ok-read_main.ensures.1 is)) c.in-Ok-read_main.ensures.loads)).cause

pub returns-in_err-into_unit-in-Ok-read_main-clause-keeps : goal.returns-in_err-into_unit-in-Ok-read_main-clause-keeps
returns-in_err-into_unit-in-Ok-read_main-clause-keeps g c =
    Extends-Extends c.args.names.now c.read_command.new.names c.read_main.new.names
    (Extends-Extends c.args.names.now c.first_state.new.names c.read_command.new.names c.first_state.ensures.keeps c.read_command.ensures.keeps) c.read_main.ensures.keeps

pub returns-in_ok-into_unit-in-Ok-read_main-clause-unit : goal.returns-in_ok-into_unit-in-Ok-read_main-clause-unit
returns-in_ok-into_unit-in-Ok-read_main-clause-unit g c = λ files agrees.
    let path = c.args.main.now in
    let options = options_seen c.args.options.now in
    let setting = setting_of (directories_alone c.as_slice-directories.result.now options.command) files answer_of in
    let first = g.F.Files.loads c.args.files.now in
    let mid = g.F.Files.loads c.read_command.new.files in
    let last = g.F.Files.loads c.read_main.new.files in
    let all = subst (AgreesWith files) (since-then first mid last c.read_command.ensures.loads.stay c.read_main.ensures.loads.stay) agrees in
    let goes = c.in-Ok.ensures.read.1 answer_of files options.command path (first_state unit_limits path) (main_piece setting path) answers_exist (agrees-front files (loads_since first mid) (loads_since mid last) all) c.in_ok-state.ensures.holds in
    let done = (c.in-Ok-read_main.ensures.read (loads_since first mid) c.in-Ok.ensures.read.0).1 answer_of files options.command goes.0 answers_exist all goes.1 in
    unit-made options files path c.read_main.new.names c.read_main.new.self done.0 c.in_ok-into_unit-in-Ok-read_main.field-0 done.1
    (done.2 ∙ goes.2 ∙ begins options files path c.first_state.new.names c.in_ok-state.state c.as_slice-directories.result.now c.as_slice-text.result.now c.in_ok-state.ensures.empty c.as_slice-directories.ensures c.as_slice-text.ensures)
    c.in_ok-into_unit-in-Ok-read_main.ensures.tokens c.in_ok-into_unit-in-Ok-read_main.ensures.undef_tokens c.in_ok-into_unit-in-Ok-read_main.ensures.files

pub returns-in_ok-into_unit-in-Ok-read_main-clause-once : goal.returns-in_ok-into_unit-in-Ok-read_main-clause-once
returns-in_ok-into_unit-in-Ok-read_main-clause-once g c =
    let first = g.F.Files.loads c.args.files.now in
    let mid = g.F.Files.loads c.read_command.new.files in
    let last = g.F.Files.loads c.read_main.new.files in
    subst EachPathIsLoadedOnce (sym (since-then first mid last c.read_command.ensures.loads.stay c.read_main.ensures.loads.stay))
    (c.in-Ok-read_main.ensures.read (loads_since first mid) c.in-Ok.ensures.read.0).0

pub returns-in_ok-into_unit-in-Ok-read_main-clause-told : goal.returns-in_ok-into_unit-in-Ok-read_main-clause-told
returns-in_ok-into_unit-in-Ok-read_main-clause-told g c =
    (loaded-both (g.F.Files.loads c.args.files.now) (g.F.Files.loads c.read_command.new.files) (g.F.Files.loads c.read_main.new.files) _ _ _ _ _ _ _ _ c.in-Ok.ensures.loads c.read_main.ensures.loads).told

pub returns-in_ok-into_unit-in-Ok-read_main-clause-cause : goal.returns-in_ok-into_unit-in-Ok-read_main-clause-cause
returns-in_ok-into_unit-in-Ok-read_main-clause-cause g c = (loaded-both (g.F.Files.loads c.args.files.now) (g.F.Files.loads c.read_command.new.files) (g.F.Files.loads c.read_main.new.files) _ _ _ _ _ _ _ _ c.in-Ok.ensures.loads (loaded-so _ _ _ _ _ _ _ _ (λ is. absurd (ok-err _ _ is)) (λ is. absurd (ok-err _ _ is)) c.in-Ok-read_main.ensures.loads)).cause

pub returns-in_ok-into_unit-in-Ok-read_main-clause-keeps : goal.returns-in_ok-into_unit-in-Ok-read_main-clause-keeps
returns-in_ok-into_unit-in-Ok-read_main-clause-keeps g c =
    Extends-Extends c.args.names.now c.read_command.new.names c.read_main.new.names
    (Extends-Extends c.args.names.now c.first_state.new.names c.read_command.new.names c.first_state.ensures.keeps c.read_command.ensures.keeps) c.read_main.ensures.keeps

pub returns-in_ok-into_unit-in-Ok-read_main-clause-known : goal.returns-in_ok-into_unit-in-Ok-read_main-clause-known
returns-in_ok-into_unit-in-Ok-read_main-clause-known g c =
    unit-known c.read_main.new.names c.read_main.new.self c.in-Ok-read_main.ensures.held c.in_ok-into_unit-in-Ok-read_main.field-0
    c.in_ok-into_unit-in-Ok-read_main.ensures.tokens c.in_ok-into_unit-in-Ok-read_main.ensures.undef_tokens c.in_ok-into_unit-in-Ok-read_main.ensures.files

pub returns-in-Err-read_main-clause-fault : goal.returns-in-Err-read_main-clause-fault
returns-in-Err-read_main-clause-fault g c = λ files agrees.
    let path = c.args.main.now in
    let options = options_seen c.args.options.now in
    let setting = setting_of (directories_alone c.as_slice-directories.result.now options.command) files answer_of in
    let first = g.F.Files.loads c.args.files.now in
    let mid = g.F.Files.loads c.read_command.new.files in
    let last = g.F.Files.loads c.read_main.new.files in
    let all = subst (AgreesWith files) (since-then first mid last c.read_command.ensures.loads.stay c.read_main.ensures.loads.stay) agrees in
    let goes = c.in-Ok.ensures.read.1 answer_of files options.command path (first_state unit_limits path) (main_piece setting path) answers_exist (agrees-front files (loads_since first mid) (loads_since mid last) all) c.in_ok-state.ensures.holds in
    unit-ends options files path c.read_main.new.names c.in-Err-read_main.fault
    (subst (λ whole. EndsUnit c.read_main.new.names whole c.in-Err-read_main.fault)
    (goes.2 ∙ begins options files path c.first_state.new.names c.in_ok-state.state c.as_slice-directories.result.now c.as_slice-text.result.now c.in_ok-state.ensures.empty c.as_slice-directories.ensures c.as_slice-text.ensures)
    ((c.in-Err-read_main.ensures.read (loads_since first mid) c.in-Ok.ensures.read.0).1 answer_of files options.command goes.0 answers_exist all goes.1))

pub returns-in-Err-read_main-clause-told : goal.returns-in-Err-read_main-clause-told
returns-in-Err-read_main-clause-told g c =
    (loaded-both (g.F.Files.loads c.args.files.now) (g.F.Files.loads c.read_command.new.files) (g.F.Files.loads c.read_main.new.files) _ _ _ _ _ _ _ _ c.in-Ok.ensures.loads c.read_main.ensures.loads).told

pub returns-in-Err-read_main-clause-cause : goal.returns-in-Err-read_main-clause-cause
returns-in-Err-read_main-clause-cause g c = (loaded-both (g.F.Files.loads c.args.files.now) (g.F.Files.loads c.read_command.new.files) (g.F.Files.loads c.read_main.new.files) _ _ _ _ _ _ _ _ c.in-Ok.ensures.loads (loaded-so _ _ _ _ _ _ _ _ (fault-err c.in-Err-read_main.fault) (fault-err c.in-Err-read_main.fault) c.in-Err-read_main.ensures.loads)).cause

pub returns-in-Err-read_main-clause-keeps : goal.returns-in-Err-read_main-clause-keeps
returns-in-Err-read_main-clause-keeps g c =
    Extends-Extends c.args.names.now c.read_command.new.names c.read_main.new.names
    (Extends-Extends c.args.names.now c.first_state.new.names c.read_command.new.names c.first_state.ensures.keeps c.read_command.ensures.keeps) c.read_main.ensures.keeps

pub returns-in-Err-clause-fault : goal.returns-in-Err-clause-fault
returns-in-Err-clause-fault g c = λ files agrees.
    let path = c.args.main.now in
    let options = options_seen c.args.options.now in
    let setting = setting_of (directories_alone c.as_slice-directories.result.now options.command) files answer_of in
    unit-ends options files path c.read_command.new.names c.in-Err.fault
    (subst (λ whole. EndsUnit c.read_command.new.names whole c.in-Err.fault)
    (begins options files path c.first_state.new.names c.in_ok-state.state c.as_slice-directories.result.now c.as_slice-text.result.now c.in_ok-state.ensures.empty c.as_slice-directories.ensures c.as_slice-text.ensures)
    (c.in-Err.ensures.read.1 answer_of files options.command path (first_state unit_limits path) (main_piece setting path) answers_exist agrees c.in_ok-state.ensures.holds))
