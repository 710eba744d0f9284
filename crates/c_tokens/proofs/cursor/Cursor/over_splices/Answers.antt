use Rattle.std.proofs.Common.{ap, sym, ◌∙◌, arith}
use Rattle.c_tokens.specs.Remaining.{remaining_at}
use Rattle.c_tokens.proofs.RemainingLemmas.{splice-split, begins_splice-none, length-remaining_at, remaining_at-splice}
use Rattle.c_tokens.proofs.cursor.Cursor.over_splices.Goals as goal

pub loop-rest-preserved : goal.loop-rest-preserved
loop-rest-preserved c =
    let before = c.loop-rest.invariant in
    let split = splice-split c.loop-rest.bytes.now c.in-Some.ensures.cases.0 in
    let shorter = c.in-Some.ensures.cases.2 in
    let passed = remaining_at-splice c.args.line_is_open c.loop-rest.place c.behind.result c.behind-place.result _ c.behind.ensures.at c.behind-place.ensures.at in
    let second = c.behind-place.ensures.at in
    record {
      same = ap (remaining_at c.args.line_is_open c.behind-place.result) c.in-Some.ensures.cases.1 ∙ sym passed
          ∙ ap (remaining_at c.args.line_is_open c.loop-rest.place) (sym split) ∙ before.same;
      within = omega (arith, before.within, shorter);
      lines = omega (arith, ap (λ at. at.line) second, ap (λ at. at.line) c.behind.ensures.at, before.lines, shorter);
      columns = omega (arith, ap (λ at. at.column) second, before.columns, shorter);
      file = c.behind-place.ensures.file ∙ c.behind.ensures.file ∙ before.file;
    }

pub invariant_of-result : goal.invariant_of-result
invariant_of-result c =
    record {
      settled = begins_splice-none c.loop-rest.bytes.now c.in_default.ensures.cases;
      lines = c.loop-rest.invariant.lines;
      columns = c.loop-rest.invariant.columns;
      short = omega (arith, length-remaining_at c.args.line_is_open c.loop-rest.place c.loop-rest.bytes.now, c.loop-rest.invariant.lines);
    }
