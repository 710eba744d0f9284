use Rattle.std.proofs.Common.{◌∙◌, ap, drop}
use Rattle.c_macros.proofs.EndLemmas.{in-row}
use Rattle.c_macros.proofs.ending.arguments_in.Goals as goal

pub returns-clause-row : goal.returns-clause-row
returns-clause-row c = λ lists row.
    let is = in-row c.args.items.now.items c.args.ends.now.items c.args.first c.args.first_end lists row in
    record {
      before = is.0;
      items = c.as_slice.ensures.value ∙ is.1.0;
      first = is.1.1.0;
      ends = c.from_on.ensures ∙ ap (drop c.args.first_end) c.as_slice-2.ensures.value ∙ is.1.1.1;
    }
