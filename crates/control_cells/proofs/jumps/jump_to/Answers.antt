-- The next one is the last before the bound: none is passed over.
use Rattle.std.proofs.Common.{◌≡◌, ◌≢◌, ◌+◌, ◌<◌, ◌≤◌, Some, None, sym, subst, ◌∙◌, arith}
use Rattle.std.proofs.lemmas.List.{get_or_read}
use Rattle.control_cells.specs.Jumps.{HaveJoinedFrom, IsLastOf, kinds_of}
use Rattle.control_cells.specs.Labels.{rows}
use Rattle.control_cells.proofs.JumpLemmas.{all_joined, none_joined, none_left, one_joined, some_left}
use Rattle.control_cells.proofs.jumps.jump_to.Goals as goal

pub loop-next-init : goal.loop-next-init
loop-next-init c =
    record {
      bound = c.args.count;
      within = omega arith;
      next = subst (λ found. IsLastOf (kinds_of c.args.cells.now) c.args.name c.args.count found) (sym (c.copied-next.ensures ∙ c.get.ensures.value)) (c.requires.gotos.last c.args.name);
      joined = none_joined (kinds_of c.args.cells.now) c.args.name c.args.first c.args.count c.args.label (rows c.args.jumps.now.items);
    }

pub loop-next-preserved : goal.loop-next-preserved
loop-next-preserved c =
    let kinds = kinds_of c.args.cells.now in
    let before = c.loop-next.invariant in
    let last : IsLastOf kinds c.args.name before.bound (Some c.in-Some.goto) = subst (λ found. IsLastOf kinds c.args.name before.bound found) c.in-Some.is before.next in
    let within : c.in-Some.goto < c.args.count = omega (arith, last.0, before.within) in
    record {
      bound = c.in-Some.goto;
      within = omega (arith, within);
      next = subst (λ found. IsLastOf kinds c.args.name c.in-Some.goto found)
          (sym (get_or_read c.args.gotos.now.earlier.items c.in-Some.goto c.index-next.result.now (omega (arith, within, c.requires.gotos.length_is)) c.index-next.ensures None))
          (c.requires.gotos.earlier c.in-Some.goto c.args.name within last.1);
      joined = subst (λ lists. HaveJoinedFrom kinds c.args.name c.args.first c.in-Some.goto c.args.count c.args.label (rows c.args.jumps.now.items) lists) (sym c.in_ok-push_to.ensures)
          (one_joined kinds c.args.name c.args.first c.args.count c.args.label before.bound (rows c.args.jumps.now.items) (rows c.loop-next.jumps.items) before.joined c.in-Some.goto last before.within
          (omega (arith, c.if-goto-first.false)));
    }

pub returns-then-goto-first : goal.returns-then-goto-first
returns-then-goto-first c =
    let kinds = kinds_of c.args.cells.now in
    let before = c.loop-next.invariant in
    let last : IsLastOf kinds c.args.name before.bound (Some c.in-Some.goto) = subst (λ found. IsLastOf kinds c.args.name before.bound found) c.in-Some.is before.next in
    all_joined kinds c.args.name c.args.first c.args.count c.args.label before.bound (rows c.args.jumps.now.items) (rows c.loop-next.jumps.items) before.joined
    (some_left kinds c.args.name c.args.first before.bound c.in-Some.goto last c.if-goto-first.true)

pub index-next-requires : goal.index-next-requires
index-next-requires c =
    let before = c.loop-next.invariant in
    let last : IsLastOf (kinds_of c.args.cells.now) c.args.name before.bound (Some c.in-Some.goto) =
    subst (λ found. IsLastOf (kinds_of c.args.cells.now) c.args.name before.bound found) c.in-Some.is before.next in
    omega (arith, last.0, before.within, c.requires.gotos.length_is, c.args.gotos.now.earlier.ok)

pub returns : goal.returns
returns c =
    let kinds = kinds_of c.args.cells.now in
    let before = c.loop-next.invariant in
    let last : IsLastOf kinds c.args.name before.bound None = subst (λ found. IsLastOf kinds c.args.name before.bound found) c.in_default.is before.next in
    all_joined kinds c.args.name c.args.first c.args.count c.args.label before.bound (rows c.args.jumps.now.items) (rows c.loop-next.jumps.items) before.joined
    (none_left kinds c.args.name c.args.first before.bound last)
