-- The largest member and the largest alignment.
use Rattle.std.proofs.Common.{map, max, sym, ap, ◌∙◌, arith}
use Rattle.std.proofs.lemmas.List.{nil_from_length}
use Rattle.meaning_layout.specs.Placing.{largest_align, largest_bits}
use Rattle.body_layout.specs.Seen.{member_seen}
use Rattle.body_layout.proofs.PlacingLemmas.{bits_more, first-placed, largest_align-more, largest_bits-more, narrow-first, one_more-first, rest-placed, union-fits}
use Rattle.body_layout.proofs.union.union_extent.Goals as goal

pub members-init : goal.members-init
members-init c =
    record {
      bits = largest_bits-more c.args.members.now;
      align = largest_align-more c.args.packed c.args.members.now;
      placed = c.requires.members;
      few = omega arith;
      narrow = omega arith;
      some = omega arith;
    }

pub members-preserved : goal.members-preserved
members-preserved c =
    let packed = c.args.packed in
    let before = c.members.invariant in
    let split = c.in-Some.ensures.cases.0 in
    record {
      bits =
          before.bits ∙ ap (λ members. max c.members.bits (largest_bits (map member_seen members))) split
          ∙ bits_more c.members.bits c.in-Some.member.now c.in-Some.others.now c.bits.result c.max-bits.result c.bits.ensures.bits c.max-bits.ensures;
      align =
          before.align ∙ ap (λ members. max c.members.align (largest_align packed (map member_seen members))) split
          ∙ one_more-first c.members.align packed c.in-Some.member.now c.in-Some.others.now c.gives_align.result c.max-align.result c.gives_align.ensures c.max-align.ensures;
      placed = rest-placed c.members.rest.now c.in-Some.member.now c.in-Some.others.now split before.placed;
      few = omega (arith, before.few, c.bits.ensures.few, c.max-bits.ensures);
      narrow = narrow-first packed c.in-Some.member.now c.members.align c.gives_align.result c.max-align.result (first-placed c.members.rest.now c.in-Some.member.now c.in-Some.others.now split before.placed) before.narrow c.gives_align.ensures c.max-align.ensures;
      some = omega (arith, before.some, c.max-align.ensures);
    }

pub returns : goal.returns
returns c =
    let packed = c.args.packed in
    let before = c.members.invariant in
    let none = nil_from_length c.members.rest.now c.in_default.ensures.cases in
    sym
    (union-fits packed c.args.written c.args.members.now c.members.bits c.members.align c.max-align-2.result c.next_multiple-size.result before.some
    (before.bits ∙ ap (λ members. max c.members.bits (largest_bits (map member_seen members))) none)
    (before.align ∙ ap (λ members. max c.members.align (largest_align packed (map member_seen members))) none)
    (c.max-align-2.ensures ∙ ap (max c.members.align) c.from.ensures) c.next_multiple-size.ensures.next (omega (arith, c.if-size-gt-MOST_BYTES.false)))
