-- One token more.
use Rattle.std.proofs.Common.{get_or}
use Rattle.c_tokens.proofs.SeenLemmas.{Extends-Extends}
use Rattle.unit_names.proofs.ListLemmas.{no_token, table-next, tokens-known, toks-next}
use Rattle.unit_names.proofs.numbering.Numbering.tokens.Goals as goal

pub loop-token-preserved : goal.loop-token-preserved
loop-token-preserved c =
    let names = c.args.names.now in
    let old = c.loop-token.self.table in
    let new = c.number.new.self.table in
    let tokens = c.args.tokens.now in
    let list = c.loop-token.list.items in
    let later = c.push.new.self.items in
    let index = c.loop-token.token-index in
    let name = c.in_ok-name.name in
    let named = c.in_ok-name.ensures in
    record {
      kept = c.number.ensures.kept;
      keeps = Extends-Extends c.args.self.now.table old new c.loop-token.invariant.keeps c.number.ensures.keeps;
      known =
          tokens-known old new list later (record (get_or tokens index no_token) { name = name }) c.in_ok-push.ensures.items c.number.ensures.keeps
          c.loop-token.invariant.known named.known;
      seen =
          toks-next names old new tokens list later index name c.loop-token-test.true c.in_ok-push.ensures.items c.number.ensures.keeps c.loop-token.invariant.known
          named.stands c.loop-token.invariant.seen;
      table = table-next names c.args.self.now.table old new tokens index c.loop-token-test.true named.table c.loop-token.invariant.table;
    }
