-- One name more is entered.
use Rattle.std.proofs.Common.{[], ◌∙◌, sym, subst, append-nil, arith}
use Rattle.c_types.specs.Chains.{AreKnownEntries}
use Rattle.c_types.specs.Members.{AreKnownNames}
use Rattle.c_types.specs.Table.{IsLonger}
use Rattle.c_types.proofs.ChainLemmas.{entered-step, entry-known, entry-longer}
use Rattle.c_types.proofs.MapLemmas.{grows-through, longer-length}
use Rattle.c_types.proofs.chains.NameChain.enter_all.Goals as goal

pub names-preserved : goal.names-preserved
names-preserved c =
    let chain = c.names.self in
    let new = c.enter.new.self in
    let name = c.in-Some.entry.now.0 in
    let found = c.in-Some.entry.now.1 in
    let split = c.in-Some.ensures.cases.0 in
    let entries = c.in_ok-enter.ensures.entries in
    let longer : IsLonger chain.entries new.entries = subst (IsLonger chain.entries) (sym entries) (entry-longer chain c.args.first name found) in
    record {
      links = c.enter.ensures.links ∙ c.names.invariant.links;
      grows =
          grows-through c.args.self.now chain new c.names.invariant.grows (record { links = ([], c.enter.ensures.links ∙ sym (append-nil chain.links)); entries = longer });
      first = omega (arith, c.names.invariant.first, longer-length chain.entries new.entries longer);
      known = λ types old names.
          let before = c.names.invariant.known types old names in
          let rest = subst (AreKnownNames types) split before.1 in
          (subst (AreKnownEntries types) (sym entries) (entry-known chain c.args.first name found types before.0 rest.0), rest.1);
      named = λ told asked.
          entered-step told chain new c.args.first name found c.names.invariant.first asked c.enter.ensures.links entries c.in-Some.others.now c.names.rest.now split ∙ c.names.invariant.named told asked;
    }
