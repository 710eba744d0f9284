-- One more integer joins.
use Rattle.std.proofs.Common.{◌≡◌, Some, get_or, slice_get, length, sym, ap, ◌∙◌, subst, arith}
use Rattle.std.proofs.lemmas.Option.{slice_get-get_or}
use Rattle.vocabulary.specs.declared.int_kind.IntKind.TheVariants as kinds
use Rattle.meaning_types.specs.Equality.{all_kinds}
use Rattle.c_types.specs.Rows.{AreRows, type_seen, types_behind, types_of}
use Rattle.c_types.proofs.Finding.{AreRows-none}
use Rattle.c_types.proofs.Integers.{integer-right, integers-more}
use Rattle.c_types.proofs.RowLemmas.{length-types_of}
use Rattle.c_types.proofs.rows.Rows.join_integers.Goals as goal

pub loop-kind-init : goal.loop-kind-init
unfolding types_behind
loop-kind-init c =
    record {
      rows = subst AreRows (sym c.requires.none) AreRows-none;
      types = ap types_of c.requires.none;
      few = omega (arith, ap length c.requires.none);
      room = omega (arith, c.requires.room);
    }

pub join-requires-clause-right : goal.join-requires-clause-right
join-requires-clause-right c =
    integer-right c.loop-kind.self.rows.entries _ c.unmarked.result c.len-own.result c.len-own.ensures.count c.unmarked.ensures

pub loop-kind-preserved : goal.loop-kind-preserved
loop-kind-preserved c =
    let old = c.loop-kind.self.rows.entries in
    let new = c.join.new.self.rows.entries in
    let kind = get_or c.args.kinds.now c.loop-kind.kind-index kinds.Bool in
    let at : slice_get all_kinds c.loop-kind.kind-index ≡ Some kind =
    ap (λ all. slice_get all c.loop-kind.kind-index) (sym c.requires.all) ∙ slice_get-get_or c.args.kinds.now c.loop-kind.kind-index kinds.Bool c.loop-kind-test.true
    in
    record {
      rows = c.join.ensures.rows;
      types =
          integers-more old new c.loop-kind.kind-index c.join.result kind c.loop-kind.invariant.types at c.join.ensures.grows
          (omega (arith, c.join.ensures.one, length-types_of old, length-types_of new))
          (c.join.ensures.stands ∙ ap (λ shape. Some (type_seen (types_of old) shape)) c.unmarked.ensures);
      few = omega (arith, c.join.ensures.one, c.loop-kind.invariant.few);
      room = omega (arith, c.join.ensures.spare, c.loop-kind.invariant.room);
    }
