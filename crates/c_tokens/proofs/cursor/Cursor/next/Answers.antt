use Rattle.std.proofs.Common.{drop, ap, sym, ◌∙◌, arith, false}
use Rattle.c_tokens.specs.Cursor.{remaining}
use Rattle.c_tokens.proofs.CursorLemmas.{remaining-byte, remaining-ends, behind-bytes, behind-length}
use Rattle.c_tokens.proofs.RemainingLemmas.{length-remaining_at}
use Rattle.c_tokens.proofs.cursor.Cursor.next.Goals as goal

pub invariant_of-result : goal.invariant_of-result
invariant_of-result c =
    let cursor = c.args.self.now in
    record {
      settled = cursor.settled;
      lines = cursor.lines;
      columns = cursor.columns;
      short = omega (arith, length-remaining_at false cursor.place cursor.bytes.now, cursor.lines);
    }

pub returns-in_default-clause-behind : goal.returns-in_default-clause-behind
returns-in_default-clause-behind c = remaining-ends c.args.self.now c.in_default.ensures.cases

pub returns-in_default-clause-bytes : goal.returns-in_default-clause-bytes
returns-in_default-clause-bytes c = behind-bytes (remaining c.args.self.now) _ (returns-in_default-clause-behind c)

pub returns-in_default-clause-fewer : goal.returns-in_default-clause-fewer
returns-in_default-clause-fewer c = behind-length (remaining c.args.self.now) _ (returns-in_default-clause-behind c)

pub returns-clause-behind : goal.returns-clause-behind
returns-clause-behind c =
    c.over_splices.ensures.same
    ∙ sym (ap (drop 1) (remaining-byte c.args.self.now _ _ c.in-Some.ensures.cases.0 c.behind.result c.behind.ensures.at))

pub returns-clause-bytes : goal.returns-clause-bytes
returns-clause-bytes c = behind-bytes (remaining c.args.self.now) (remaining c.over_splices.result) (returns-clause-behind c)

pub returns-clause-fewer : goal.returns-clause-fewer
returns-clause-fewer c = behind-length (remaining c.args.self.now) (remaining c.over_splices.result) (returns-clause-behind c)
