-- One member more is placed.
use Rattle.std.proofs.Common.{◌≡◌, ◌+◌, [], ◌∷◌, ◌++◌, map, max, refl, sym, ap, ◌∙◌, arith, append-nil, append_assoc}
use Rattle.std.proofs.lemmas.List.{nil_from_length}
use Rattle.meaning_layout.specs.Placing.{bit_behind, bits_of, first_bit, first_bits, largest_align}
use Rattle.body_layout.specs.Seen.{member_seen}
use Rattle.body_layout.proofs.PlacingLemmas.{bit_behind-le, first-placed, largest_align-more, max-one, narrow-more, one_more, rest-placed}
use Rattle.body_layout.proofs.placing.place_members.Goals as goal

pub members-init : goal.members-init
members-init c =
    record {
      bits = ap (λ items. items ++ first_bits c.args.packed (map member_seen c.args.members.now) 0) (sym c.new.ensures.items);
      behind = refl;
      align = largest_align-more c.args.packed c.args.members.now;
      placed = c.requires;
      few = omega arith;
      narrow = omega arith;
      some = omega arith;
    }

pub first_bit-first-requires-clause-placed : goal.first_bit-first-requires-clause-placed
first_bit-first-requires-clause-placed c = first-placed c.members.rest.now c.in-Some.member.now c.in-Some.others.now c.in-Some.ensures.cases.0 c.members.invariant.placed

pub bits-requires : goal.bits-requires
bits-requires c = first-placed c.members.rest.now c.in-Some.member.now c.in-Some.others.now c.in-Some.ensures.cases.0 c.members.invariant.placed

pub returns-then-placing-clause-none : goal.returns-then-placing-clause-none
returns-then-placing-clause-none c =
    let packed = c.args.packed in
    let member = member_seen c.in-Some.member.now in
    let behind = bit_behind-le packed c.in-Some.others.now (c.first_bit-first.result + c.bits.result)
    (rest-placed c.members.rest.now c.in-Some.member.now c.in-Some.others.now c.in-Some.ensures.cases.0 c.members.invariant.placed)
    in
    omega (
      arith,
      c.if-placing.true,
      behind,
      c.members.invariant.behind
          ∙ ap (λ members. bit_behind packed (map member_seen members) c.members.placing.next) c.in-Some.ensures.cases.0
          ∙ (λ i. bit_behind packed (map member_seen c.in-Some.others.now) (sym c.first_bit-first.ensures.first i + sym c.bits.ensures.bits i)),
    )

pub members-preserved : goal.members-preserved
members-preserved c =
    let packed = c.args.packed in
    let before = c.members.invariant in
    let rest = map member_seen c.in-Some.others.now in
    let split = c.in-Some.ensures.cases.0 in
    let member = member_seen c.in-Some.member.now in
    let next : first_bit packed member c.members.placing.next + bits_of member ≡ c.first_bit-first.result + c.bits.result =
    λ i. sym c.first_bit-first.ensures.first i + sym c.bits.ensures.bits i
    in
    record {
      bits =
          before.bits
          ∙ ap (λ members. c.members.placing.first_bits.items ++ first_bits packed (map member_seen members) c.members.placing.next) split
          ∙ (λ i. c.members.placing.first_bits.items ++ sym c.first_bit-first.ensures.first i ∷ first_bits packed rest (next i))
          ∙ sym (append_assoc c.members.placing.first_bits.items (c.first_bit-first.result ∷ []) (first_bits packed rest (c.first_bit-first.result + c.bits.result)))
          ∙ ap (λ items. items ++ first_bits packed rest (c.first_bit-first.result + c.bits.result)) (sym c.in_ok-push.ensures.items);
      behind = before.behind ∙ ap (λ members. bit_behind packed (map member_seen members) c.members.placing.next) split ∙ (λ i. bit_behind packed rest (next i));
      align =
          before.align ∙ ap (λ members. max c.members.placing.align (largest_align packed (map member_seen members))) split
          ∙ one_more c.members.placing.align packed c.in-Some.member.now c.in-Some.others.now c.gives_align.result c.max.result c.gives_align.ensures c.max.ensures;
      placed = rest-placed c.members.rest.now c.in-Some.member.now c.in-Some.others.now split before.placed;
      few = omega (arith, c.if-placing.false);
      narrow = narrow-more packed c.in-Some.member.now c.members.placing.align c.gives_align.result c.max.result (first-placed c.members.rest.now c.in-Some.member.now c.in-Some.others.now split before.placed) before.narrow c.gives_align.ensures c.max.ensures;
      some = omega (arith, before.some, c.max.ensures);
    }

pub returns-clause-some : goal.returns-clause-some
returns-clause-some c =
    let packed = c.args.packed in
    let before = c.members.invariant in
    let none = nil_from_length c.members.rest.now c.in_default.ensures.cases in
    record {
      bits =
          before.bits ∙ ap (λ members. c.members.placing.first_bits.items ++ first_bits packed (map member_seen members) c.members.placing.next) none
          ∙ append-nil c.members.placing.first_bits.items;
      behind = before.behind ∙ ap (λ members. bit_behind packed (map member_seen members) c.members.placing.next) none;
      align = before.align ∙ ap (λ members. max c.members.placing.align (largest_align packed (map member_seen members))) none ∙ max-one c.members.placing.align before.some;
      few = before.few;
      narrow = before.narrow;
      some = before.some;
    }
