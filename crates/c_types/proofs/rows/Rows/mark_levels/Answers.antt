-- The next level has the marked one as its element.
use Rattle.std.proofs.Common.{[], ◌∷◌, Some, length, ap, ◌∙◌, subst, arith, length-append}
use Rattle.std.proofs.lemmas.Option.{slice_get_within}
use Rattle.meaning_types.specs.Marks.{marked}
use Rattle.c_types.specs.Rows.{flags_in, qualifiers_in, type_numbered, types_of}
use Rattle.c_types.specs.Levels.{IsChain, over_element}
use Rattle.c_types.proofs.Forms.{numbered-is}
use Rattle.c_types.proofs.LevelLemmas.{IsChain-pop, level-marked}
use Rattle.c_types.proofs.RowLemmas.{Grows-Grows, numbered-Grows}
use Rattle.c_types.proofs.rows.Rows.mark_levels.Goals as goal

pub replace_element-number-requires-clause-array : goal.replace_element-number-requires-clause-array
replace_element-number-requires-clause-array c =
    let old = c.args.self.now.rows.entries in
    let below = c.loop-array.invariant.level.0 in
    let parts = IsChain-pop old c.args.levels.whole c.pop.new.self.items c.in-Some.array below (subst (λ arrays. IsChain old c.args.levels.whole arrays below) c.in-Some.ensures.items c.loop-array.invariant.level.1) in
    let grows = c.loop-array.invariant.grows in
    omega (arith, slice_get_within old c.in-Some.array parts.1.0 parts.1.1, ap length grows.1, length-append old grows.0)

pub replace_element-number-requires-clause-element : goal.replace_element-number-requires-clause-element
replace_element-number-requires-clause-element c =
    slice_get_within (types_of c.loop-array.self.rows.entries) c.loop-array.number _ c.loop-array.invariant.level.2

pub loop-array-preserved : goal.loop-array-preserved
loop-array-preserved c =
    let old = c.args.self.now.rows.entries in
    let mid = c.loop-array.self.rows.entries in
    let new = c.replace_element-number.new.self.rows.entries in
    let level = c.loop-array.invariant.level in
    let parts = IsChain-pop old c.args.levels.whole c.pop.new.self.items c.in-Some.array level.0 (subst (λ arrays. IsChain old c.args.levels.whole arrays level.0) c.in-Some.ensures.items level.1) in
    let element = numbered-is (types_of mid) c.loop-array.number (marked (qualifiers_in c.args.marks) (flags_in c.args.marks) (type_numbered (types_of old) level.0)) level.2 in
    let array = numbered-Grows old mid c.loop-array.invariant.grows c.in-Some.array (slice_get_within old c.in-Some.array parts.1.0 parts.1.1) in
    let popped = ap length c.in-Some.ensures.items ∙ length-append c.pop.new.self.items (c.in-Some.array ∷ []) in
    record {
      rows = c.replace_element-number.ensures.rows;
      grows = Grows-Grows old mid new c.loop-array.invariant.grows c.replace_element-number.ensures.grows;
      level = (c.in-Some.array, parts.0, c.replace_element-number.ensures.stands ∙ ap Some ((λ i. over_element (array i) (element i)) ∙ level-marked old c.requires.rows c.args.marks c.in-Some.array level.0 parts.1));
      room = omega (arith, popped, c.loop-array.invariant.room, c.replace_element-number.ensures.spare);
      few = omega (arith, popped, c.loop-array.invariant.few, c.replace_element-number.ensures.three);
      more = omega (arith, popped, c.loop-array.invariant.more, c.replace_element-number.ensures.three);
      spare = omega (arith, popped, c.loop-array.invariant.spare, c.replace_element-number.ensures.spare);
    }
