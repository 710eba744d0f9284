-- The new entry is the last one of its name.
use Rattle.std.proofs.Common.{Some, cond, sym, ◌∙◌, subst, arith}
use Rattle.std.specs.Map.{lookup}
use Rattle.c_types.specs.Chains.{IsIndexed}
use Rattle.c_types.specs.Members.{is_name}
use Rattle.c_types.proofs.ChainLemmas.{indexed-push}
use Rattle.c_types.proofs.NameLemmas.{OnOk-is}
use Rattle.c_types.proofs.chains.NameChain.enter.Goals as goal

pub invariant_of-self-2 : goal.invariant_of-self-2
invariant_of-self-2 c =
    let links = c.self.inside.links.items in
    let es = c.self.inside.entries.items in
    let count = c.len-index.ensures ∙ c.self.inside.entries.ok.0 in
    let updates = OnOk-is c.insert.result c.unwrap.result c.unwrap.ensures c.insert.ensures.updates in
    subst (IsIndexed c.insert.new.self.entries links) (sym c.in_ok-push.ensures.items)
    (indexed-push c.self.inside.last.entries c.insert.new.self.entries links es c.self.invariant (record { name = c.args.name; found = c.args.found; level = c.len.result; hides = c.copied-hides.result })
    (c.len.ensures ∙ c.self.inside.links.ok.0) (c.copied-hides.ensures ∙ c.get.ensures.value ∙ c.self.invariant.last c.args.name) (omega (arith, count, c.if-index-ge-MAX_ENTRIES.false))
    (λ asked. updates.0 asked ∙ (λ i. cond (is_name c.args.name asked) (Some (count i)) (lookup (is_name asked) (c.reserve.ensures.entries i)))))
