use Rattle.std.proofs.Common.{◌≡◌, ◌+◌, Ok, ℕ, length, refl, sym, subst, ap, ◌∙◌, arith}
use Rattle.c_preproc.specs.Loads.{IsSource}
use Rattle.c_preproc.specs.Numbers.{IsKeptNow, IsPassed}
use Rattle.c_preproc.specs.Opens.{IsOpened}
use Rattle.c_preproc.specs.States.{Holds}
use Rattle.c_preproc.proofs.OpenedLemmas.{new-opened, new-passed, opened-kept}
use Rattle.c_preproc.proofs.StateLemmas.{with-bytes}
use Rattle.c_preproc.proofs.state.State.open.Goals as goal

pub returns-in-Ok-clause-opened : goal.returns-in-Ok-clause-opened
returns-in-Ok-clause-opened c = λ main s given path holds found.
    subst (λ state. IsOpened c.args.names.now main state given c.args.kept.now path c.args.depth s (Ok c.in-Kept.place))
    (ap (λ n. record c.args.self.now { bytes = c.args.self.now.bytes + n }) (sym c.bytes.ensures) ∙ sym c.in-Ok.ensures.counted)
    (opened-kept c.args.names.now main c.args.self.now s holds given path c.args.depth c.args.kept.now c.in-Kept.place
    (subst (IsSource c.args.names.now s.paths given c.args.kept.now path) c.in-Kept.is found)
    (omega (arith, c.in-Ok.ensures.within.0, c.bytes.ensures)) c.in-Ok.ensures.within.1)

pub keep-requires : goal.keep-requires
keep-requires c =
    let ready = c.requires.found in
    record {
      new = (
        ready.0,
        record ready.1 { bytes = ready.1.bytes + c.len.result },
        ready.2,
        ready.3,
        subst (λ state. Holds c.args.names.now ready.0 state (record ready.1 { bytes = ready.1.bytes + c.len.result })) (sym c.in-Ok-enter.ensures.counted)
            (with-bytes c.args.names.now ready.0 c.args.self.now ready.1 c.len.result ready.4),
        subst (IsSource c.args.names.now ready.1.paths ready.2 c.args.kept.now ready.3) c.in-Loaded.is ready.5,
      );
    }

pub returns-in-Ok-enter-clause-opened : goal.returns-in-Ok-enter-clause-opened
returns-in-Ok-enter-clause-opened c = λ main s given path holds found.
    let count : c.len.result ≡ length c.in-Loaded.text.items = omega (arith, c.len.ensures) in
    let new = subst (IsSource c.args.names.now s.paths given c.args.kept.now path) c.in-Loaded.is found in
    let counted = record s { bytes = s.bytes + c.len.result } in
    let entered = subst (λ state. Holds c.args.names.now main state counted) (sym c.in-Ok-enter.ensures.counted) (with-bytes c.args.names.now main c.args.self.now s c.len.result holds) in
    new-opened c.args.names.now main c.args.self.now s holds given path c.args.depth c.apart.ensures.apart c.args.kept.now c.in-Loaded.path c.in-Loaded.text.items new
    (omega (arith, c.in-Ok-enter.ensures.within.0, count)) c.in-Ok-enter.ensures.within.1 c.keep.new.names c.keep.new.self c.keep.new.kept c.keep.result
    (subst (λ n. IsKeptNow c.keep.new.names main c.keep.new.self given c.keep.new.kept path c.in-Loaded.text.items (record s { bytes = s.bytes + n }) c.keep.result) count
    (c.keep.ensures.kept main counted given path entered new))

pub returns-clause-opened : goal.returns-clause-opened
returns-clause-opened c = λ main s given path holds found.
    let count : c.len.result ≡ length c.in-Loaded.text.items = omega (arith, c.len.ensures) in
    new-passed c.args.names.now main c.args.self.now s holds given path c.args.depth c.apart.ensures.apart c.args.kept.now c.in-Loaded.path c.in-Loaded.text.items
    (subst (IsSource c.args.names.now s.paths given c.args.kept.now path) c.in-Loaded.is found) c.args.kept.now c.args.names.now c.enter-in-Loaded.new.self c.in-Err-enter.fault refl
    (subst (λ n. IsPassed c.args.self.now.bytes n c.args.depth c.in-Err-enter.fault) count c.in-Err-enter.ensures.limit)
