-- A member that can be written decides nothing.
use Rattle.std.proofs.Common.{◌≡◌, ◌||◌, All, ◌∷◌, ap, subst, sym, ◌∙◌}
use Rattle.std.proofs.lemmas.List.Elements.{All-tail}
use Rattle.c_types.specs.declared.bodies.Member.{Member}
use Rattle.c_types.specs.Table.{IsTypeId}
use Rattle.whole_rows.specs.ConstAggregates.{is_among, is_one_const}
use Rattle.whole_rows.proofs.const_aggregates.ConstAggregates.is_one_const.Goals as goal

pub members-preserved : goal.members-preserved
members-preserved c =
    let table = c.args.types.now in
    let has_const = is_among c.args.self.now in
    let member = c.in-Some.member.now in
    let others = c.in-Some.others.now in
    let split : c.members.rest.now ≡ member ∷ others = c.in-Some.ensures.cases.0 in
    record {
      same =
          sym
          (ap (is_one_const has_const table) split
          ∙ ap (λ test. test || is_one_const has_const table others) (sym c.is_const_within.ensures ∙ c.if-is_const_within.false))
          ∙ c.members.invariant.same;
      known =
          All-tail (λ (member : Member). IsTypeId table member.of) member others
          (subst (All (λ (member : Member). IsTypeId table member.of)) split c.members.invariant.known);
    }
