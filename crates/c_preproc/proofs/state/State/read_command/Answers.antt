use Rattle.std.proofs.Common.{[], length, sym, subst, ap, arith}
use Rattle.meaning_outside.specs.Loads.{EachPathIsLoadedOnce}
use Rattle.meaning_preprocessing.specs.Unit.{reader, text_of_file, unit_limits}
use Rattle.c_preproc.specs.Kept.{tokens_in_kept}
use Rattle.c_preproc.specs.States.{put_of}
use Rattle.c_preproc.specs.Steps.{directories_alone}
use Rattle.c_preproc.specs.Units.{setting_of}
use Rattle.c_preproc.proofs.BeginLemmas.{command-kept, command-read, ends-so}
use Rattle.c_preproc.proofs.FileLemmas.{text-refused}
use Rattle.c_preproc.proofs.KeepLemmas.{last-place}
use Rattle.c_preproc.proofs.LoadLemmas.{loaded-none, since-none, text-err}
use Rattle.c_preproc.proofs.PieceLemmas.{ends-then, known-fault}
use Rattle.c_preproc.proofs.StateLemmas.{Holds-later}
use Rattle.c_preproc.proofs.state.State.read_command.Goals as goal

pub read_files-requires-clause-held : goal.read_files-requires-clause-held
read_files-requires-clause-held g c =
    let held = c.requires.held in
    (held.0, held.1, Holds-later c.args.names.now c.lex.new.names c.lex.ensures.keeps c.apart.ensures.apart held.0 c.args.self.now held.1 held.2)

pub read_files-requires-clause-kept : goal.read_files-requires-clause-kept
read_files-requires-clause-kept g c = (
  [],
  command-kept c.args.names.now c.lex.new.names c.lex.ensures.keeps c.apart.ensures.apart c.args.self.now c.requires.held c.requires.paths c.args.kept.now c.keep_file.new.self c.requires.fresh
      (record { bytes = length c.args.text.now; tokens = c.in-Ok.tokens; ends = c.in_ok-ends-in-Ok.ends }) c.in_ok-place-in-Ok.ensures.files c.keep_file.ensures.paths c.in-Ok.ensures.known (omega (arith, c.in-Ok.ensures.count)) c.in_ok-ends-in-Ok.ensures,
)

pub returns-in_ok-place-in-Ok-clause-read : goal.returns-in_ok-place-in-Ok-clause-read
returns-in_ok-place-in-Ok-clause-read g c =
    command-read c.args.names.now c.lex.new.names c.read_files.new.names c.lex.ensures.keeps c.apart.ensures.apart c.args.self.now c.read_files.new.self _ c.keep_file.new.self c.read_files.new.kept c.args.directories.now c.in_ok-place-in-Ok.place c.args.text.now c.in-Ok.tokens.items
    c.in-Ok.ensures.tokens (ap tokens_in_kept (last-place c.args.kept.now.files.items c.keep_file.new.self.files.items _ c.in_ok-place-in-Ok.place c.in_ok-place-in-Ok.ensures.place c.in_ok-place-in-Ok.ensures.files))
    c.read_files.result (c.read_files.ensures.read []
    (command-kept c.args.names.now c.lex.new.names c.lex.ensures.keeps c.apart.ensures.apart c.args.self.now c.requires.held c.requires.paths c.args.kept.now c.keep_file.new.self c.requires.fresh
    (record { bytes = length c.args.text.now; tokens = c.in-Ok.tokens; ends = c.in_ok-ends-in-Ok.ends }) c.in_ok-place-in-Ok.ensures.files c.keep_file.ensures.paths c.in-Ok.ensures.known (omega (arith, c.in-Ok.ensures.count)) c.in_ok-ends-in-Ok.ensures))

pub returns-in-Err-clause-read : goal.returns-in-Err-clause-read
returns-in-Err-clause-read g c = (
  subst EachPathIsLoadedOnce (sym (since-none (g.F.Files.loads c.args.files.now))) tt,
  λ value files command path s end right agrees holds.
      let later = Holds-later c.args.names.now c.lex.new.names c.lex.ensures.keeps c.apart-in-Err.ensures.apart path c.args.self.now s holds in
      let include = reader (setting_of (directories_alone c.args.directories.now command) files value) unit_limits.include_depth in
      ends-then c.lex.new.names (put_of c.args.names.now c.args.self.now) (text_of_file value include 0 c.args.text.now s) end c.lex_error.result
      (ends-so c.args.names.now c.lex.new.names path c.args.self.now s holds c.lex_error.result (text_of_file value include 0 c.args.text.now s)
      (text-refused value include c.lex.new.names 0 c.args.text.now s c.in-Err.fault c.lex_error.result c.in-Err.ensures.fault (c.lex_error.ensures.stop path s later))),
)

pub returns-in-Err-clause-loads : goal.returns-in-Err-clause-loads
returns-in-Err-clause-loads g c =
    let held = c.requires.held in
    let later = Holds-later c.args.names.now c.lex.new.names c.lex.ensures.keeps c.apart-in-Err.ensures.apart held.0 c.args.self.now held.1 held.2 in
    loaded-none _ _ _ _ (text-err c.lex.new.names c.lex_error.result (c.lex_error.ensures.known held.0 held.1 later))

pub returns-in-Err-clause-known : goal.returns-in-Err-clause-known
returns-in-Err-clause-known g c =
    let held = c.requires.held in
    let later = Holds-later c.args.names.now c.lex.new.names c.lex.ensures.keeps c.apart-in-Err.ensures.apart held.0 c.args.self.now held.1 held.2 in
    known-fault c.lex.new.names c.lex_error.result (c.lex_error.ensures.known held.0 held.1 later)
