-- The function joins without parameters, and then with one more each time.
use Rattle.std.proofs.Common.{◌<◌, Some, length, refl, sym, ap, ◌∙◌, subst, arith}
use Rattle.std.proofs.lemmas.List.Elements.{All-pop}
use Rattle.c_types.specs.Rows.{Grows, MayJoin, type_seen, types_of}
use Rattle.c_types.proofs.Parameters.{parameter-may, partly-more, partly-none}
use Rattle.c_types.proofs.RowLemmas.{Grows-Grows}
use Rattle.c_types.proofs.Singles.{function-may}
use Rattle.c_types.proofs.rows.Rows.make_function.Goals as goal

pub add-number-requires-clause-may : goal.add-number-requires-clause-may
add-number-requires-clause-may c =
    subst (λ rows. MayJoin rows c.unmarked.result) (sym c.reserve.ensures.same)
    (function-may c.args.self.now.rows.entries c.requires.rows c.args.answer c.args.variadic c.unmarked.result c.unmarked.ensures c.requires.answer)

pub loop-parameter-init : goal.loop-parameter-init
loop-parameter-init c =
    let old = c.args.self.now.rows.entries in
    let new = c.add-number.new.self.rows.entries in
    record {
      rows = c.add-number.ensures.rows;
      grows = subst (λ rows. Grows rows new) c.reserve.ensures.same c.add-number.ensures.grows;
      partly =
          partly-none (types_of old) c.args.answer c.args.parameters.now c.args.variadic c.unmarked.result (types_of new) c.add-number.result c.unmarked.ensures
          (c.add-number.ensures.stands ∙ ap (λ rows. Some (type_seen (types_of rows) c.unmarked.result)) c.reserve.ensures.same);
      known = c.requires.parameters;
      room = omega (arith, c.in_ok-reserve.ensures.room, c.add-number.ensures.spare);
      few = omega (arith, c.in_ok-reserve.ensures.few, c.add-number.ensures.three);
    }

pub add-number-requires-in-Some-clause-may : goal.add-number-requires-in-Some-clause-may
add-number-requires-in-Some-clause-may c =
    let types = types_of c.args.self.now.rows.entries in
    let known = All-pop (λ id. id.0 < length types) c.loop-parameter.rest.now c.in-Some.front.now (Some c.in-Some.parameter.now) c.in-Some.ensures.cases.0 c.loop-parameter.invariant.known in
    parameter-may c.args.self.now.rows.entries c.loop-parameter.self.rows.entries c.loop-parameter.invariant.rows c.loop-parameter.invariant.grows c.args.answer c.args.parameters.now
    c.loop-parameter.rest.now c.args.variadic c.loop-parameter.number c.loop-parameter.invariant.partly c.in-Some.parameter.now.0 known.1 c.unmarked-in-Some.result c.unmarked-in-Some.ensures

pub loop-parameter-preserved : goal.loop-parameter-preserved
loop-parameter-preserved c =
    let old = c.args.self.now.rows.entries in
    let mid = c.loop-parameter.self.rows.entries in
    let new = c.add-number-in-Some.new.self.rows.entries in
    let known = All-pop (λ id. id.0 < length (types_of old)) c.loop-parameter.rest.now c.in-Some.front.now (Some c.in-Some.parameter.now) c.in-Some.ensures.cases.0 c.loop-parameter.invariant.known in
    record {
      rows = c.add-number-in-Some.ensures.rows;
      grows = Grows-Grows old mid new c.loop-parameter.invariant.grows c.add-number-in-Some.ensures.grows;
      partly =
          partly-more old mid c.loop-parameter.invariant.rows c.loop-parameter.invariant.grows c.args.answer c.args.parameters.now
          c.loop-parameter.rest.now c.args.variadic c.loop-parameter.number c.loop-parameter.invariant.partly c.in-Some.parameter.now.0 known.1 c.unmarked-in-Some.result c.unmarked-in-Some.ensures
          c.in-Some.front.now c.in-Some.parameter.now refl c.in-Some.ensures.cases.0 (types_of new) c.add-number-in-Some.result c.add-number-in-Some.ensures.stands;
      known = known.0;
      room = omega (arith, c.in-Some.ensures.cases.1, c.loop-parameter.invariant.room, c.add-number-in-Some.ensures.spare);
      few = omega (arith, c.in-Some.ensures.cases.1, c.loop-parameter.invariant.few, c.add-number-in-Some.ensures.three);
    }
