use Rattle.std.proofs.Common.{IfSome, length, subst, ap, ◌∙◌, arith}
use Rattle.meaning_text.specs.Tokens.{LexesFile, OpensFile}
use Rattle.c_tokens.specs.Seen.{fault_of, toks_of}
use Rattle.c_preproc.specs.Kept.{bytes_in_kept, found_at}
use Rattle.c_preproc.proofs.KeepLemmas.{is-numberable, kept-now, last-place, not-kept, stays-as, with-path-holds}
use Rattle.c_preproc.proofs.state.State.keep.Goals as goal

pub returns-in_err-place-in-Ok-clause-stay : goal.returns-in_err-place-in-Ok-clause-stay
returns-in_err-place-in-Ok-clause-stay c = stays-as c.args.kept.now.files.items c.keep_file.new.self.files.items c.in_err-place-in-Ok.ensures.refused

pub returns-in_ok-keep_path-in-Ok-clause-kept : goal.returns-in_ok-keep_path-in-Ok-clause-kept
returns-in_ok-keep_path-in-Ok-clause-kept c = λ main s given asked holds new.
    kept-now c.args.names.now c.number.new.names c.lex.new.names c.number.ensures.keeps c.lex.ensures.keeps c.apart-in-Ok.ensures.apart main c.number.new.self s given c.args.kept.now asked c.args.path c.args.text.now.items new c.in_ok-number.number
    (c.in_ok-number.ensures.number main s holds (is-numberable c.args.names.now c.apart.ensures.apart main c.args.self.now s holds given c.args.kept.now asked c.args.path c.args.text.now.items new))
    c.keep_path.new.self c.in_ok-place-in-Ok.place _ c.in_ok-place-in-Ok.ensures.place (ap (λ files. files.items) c.keep_path.ensures.files ∙ c.in_ok-place-in-Ok.ensures.files) c.in_ok-keep_path-in-Ok.ensures.there
    (λ other apart. c.in_ok-keep_path-in-Ok.ensures.others other apart ∙ ap (λ paths. found_at (record c.args.kept.now { paths = paths }) other) c.keep_file.ensures.paths)
    (omega (arith, c.len-bytes.ensures, c.as_slice.ensures.len, ap length c.as_slice.ensures.value))
    (subst (λ text. LexesFile c.in_ok-number.number text (toks_of c.lex.new.names c.in-Ok.tokens.items)) c.as_slice.ensures.value c.in-Ok.ensures.tokens)
    c.in-Ok.ensures.known
    (omega (arith, c.in-Ok.ensures.count, ap length c.as_slice.ensures.value))
    c.in_ok-ends-in-Ok.ensures

pub returns-in_ok-keep_path-in-Ok-clause-counted : goal.returns-in_ok-keep_path-in-Ok-clause-counted
returns-in_ok-keep_path-in-Ok-clause-counted c =
    ap bytes_in_kept (last-place c.args.kept.now.files.items c.keep_path.new.self.files.items _ c.in_ok-place-in-Ok.place c.in_ok-place-in-Ok.ensures.place (ap (λ files. files.items) c.keep_path.ensures.files ∙ c.in_ok-place-in-Ok.ensures.files))
    ∙ omega (arith, c.len-bytes.ensures, c.as_slice.ensures.len, ap length c.as_slice.ensures.value)

pub returns-in-Err-clause-kept : goal.returns-in-Err-clause-kept
returns-in-Err-clause-kept c = λ main s given asked holds new.
    not-kept c.args.names.now c.number.new.names c.lex.new.names c.number.ensures.keeps c.lex.ensures.keeps c.apart-in-Err.ensures.apart main c.number.new.self s given c.args.kept.now asked c.args.path c.args.text.now.items new c.in_ok-number.number
    (c.in_ok-number.ensures.number main s holds (is-numberable c.args.names.now c.apart.ensures.apart main c.args.self.now s holds given c.args.kept.now asked c.args.path c.args.text.now.items new))
    c.args.kept.now c.in-Err.fault c.lex_error.result (subst (λ text. IfSome (fault_of c.in-Err.fault) (OpensFile c.in_ok-number.number text)) c.as_slice.ensures.value c.in-Err.ensures.fault) (λ t is. c.lex_error.ensures.stop main t is)

pub returns-in-Err-clause-known : goal.returns-in-Err-clause-known
returns-in-Err-clause-known c =
    let ready = c.requires.new in
    c.lex_error.ensures.known ready.0 _
    (with-path-holds c.args.names.now c.number.new.names c.lex.new.names c.number.ensures.keeps c.lex.ensures.keeps c.apart-in-Err.ensures.apart ready.0 c.number.new.self ready.1 ready.2 c.args.kept.now ready.3 c.args.path c.args.text.now.items ready.5 c.in_ok-number.number
    (c.in_ok-number.ensures.number ready.0 ready.1 ready.4 (is-numberable c.args.names.now c.apart.ensures.apart ready.0 c.args.self.now ready.1 ready.4 ready.2 c.args.kept.now ready.3 c.args.path c.args.text.now.items ready.5)))
