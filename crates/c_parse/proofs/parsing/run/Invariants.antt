-- What comes of the items that wait comes of all, and each step shortens the way.
use Rattle.std.proofs.Common.{◌≡◌}
use Rattle.meaning_derivation.specs.Actions.{act}
use Rattle.meaning_derivation.specs.Leading.{LeadsTo}
use Rattle.c_parse.specs.Moments.{IsReady, standing_with, way}
use Rattle.c_parse.proofs.parsing.run.Given as goal

abbrev pub invariant-loop-item : goal.invariant-loop-item
invariant-loop-item l =
    record {
      leads : LeadsTo act (standing_with l.fn.parser.pending l.fn.parser) (standing_with l.parser.pending l.parser);
      ready : IsReady l.parser.pending l.parser;
      names : l.parser.state.names ≡ l.fn.parser.state.names;
    }

abbrev pub decreases-loop-item : goal.decreases-loop-item
decreases-loop-item l = way l.parser.pending l.parser
