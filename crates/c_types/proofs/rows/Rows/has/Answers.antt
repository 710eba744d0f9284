-- There are as many types as rows.
use Rattle.std.proofs.Common.{rules, ◌<◌, ◌↔◌, IsTrue, nat_lt, sym, ◌∙◌, subst}
use Rattle.c_types.proofs.RowLemmas.{length-types_of}
use Rattle.c_types.proofs.rows.Rows.has.Goals as goal

pub returns : goal.returns
returns c =
    subst (λ n. IsTrue (nat_lt c.args.number c.len.result) ↔ (c.args.number < n)) (c.len.ensures.count ∙ sym (length-types_of c.args.self.now.rows.entries))
    (search rules)
