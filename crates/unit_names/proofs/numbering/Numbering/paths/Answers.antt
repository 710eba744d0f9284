-- One path more.
use Rattle.c_tokens.proofs.SeenLemmas.{Extends-Extends}
use Rattle.unit_names.proofs.ListLemmas.{paths-known, paths-next, paths-table-next}
use Rattle.unit_names.proofs.numbering.Numbering.paths.Goals as goal

pub loop-path-preserved : goal.loop-path-preserved
loop-path-preserved c =
    let names = c.args.names.now in
    let old = c.loop-path.self.table in
    let new = c.number.new.self.table in
    let list = c.loop-path.list.items in
    let later = c.push.new.self.items in
    let name = c.in_ok-number.field-0 in
    let named = c.in_ok-number.ensures in
    record {
      kept = c.number.ensures.kept;
      keeps = Extends-Extends c.args.self.now.table old new c.loop-path.invariant.keeps c.number.ensures.keeps;
      known = paths-known old new list later name c.in_ok-push.ensures.items c.number.ensures.keeps c.loop-path.invariant.known named.known;
      table =
          paths-table-next names c.args.self.now.table old new c.args.paths.now c.loop-path.path-index c.loop-path-test.true c.in_ok-number.ensures.table
          c.loop-path.invariant.table;
      seen =
          paths-next names old new c.args.paths.now list later c.loop-path.path-index name c.loop-path-test.true c.in_ok-push.ensures.items c.number.ensures.keeps
          c.loop-path.invariant.known named.stands c.loop-path.invariant.seen;
    }
