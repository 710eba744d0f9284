-- What is laid out has a size and an alignment that an object may have.
use Rattle.std.proofs.Common.{◌≡◌, ℕ, ◌<◌, ◌≤◌, ◌^◌, Bool, true, false, nat_le, cond, Result, Ok, Err, List, [], ◌∷◌, All, map, refl, subst, arith}
use Rattle.std.proofs.lemmas.Bool.{leb-true}
use Rattle.std.proofs.lemmas.List.Elements.{All-head, All-tail}
use Rattle.meaning_layout.specs.Bodies.{LayoutBody}
use Rattle.meaning_layout.specs.Placing.{largest_align}
use Rattle.meaning_layout.specs.Layouts.{Layout, LayoutFault, TooLarge, align_of_body, layout_of, most_bytes, size_of_body}
use Rattle.meaning_layout.proofs.LayoutLemmas.{made_by}
use Rattle.body_layout.specs.declared.member.PlacedMember.{PlacedMember}
use Rattle.body_layout.specs.Seen.{IsNarrow, IsPlaced, member_seen, structure_body, union_body}
use Rattle.body_layout.proofs.PlacingLemmas.{given-narrow}

largest-narrow : (packed : Bool) (members : List PlacedMember) → All IsPlaced members → largest_align packed (map member_seen members) ≤ 2 ^ 32
largest-narrow packed [] are = omega arith
largest-narrow packed (member ∷ members) are =
    omega (arith, given-narrow member.named packed member (All-head IsPlaced member members are), largest-narrow packed members (All-tail IsPlaced member members are))

few-made : (fits : Bool) (size : ℕ) (made layout : Layout) → nat_le size most_bytes ≡ fits → cond {A = Result Layout LayoutFault} fits (Ok made) (Err TooLarge) ≡ Ok layout → size ≤ most_bytes
few-made true size made layout e is = leb-true size most_bytes e
few-made false size made layout e is = absurd (cc is)

body-narrow : (body : LayoutBody) (layout : Layout) → 0 < body.written → align_of_body body ≤ 2 ^ 32 → layout_of body ≡ Ok layout → IsNarrow layout.size layout.align
body-narrow body layout some narrow is =
    subst (λ (l : Layout). IsNarrow l.size l.align) (made_by body layout is)
    (record {
      few = few-made (nat_le (size_of_body body) most_bytes) (size_of_body body) _ layout refl is;
      some = omega (arith, some);
      narrow = narrow;
    })

module _ (packed : Bool) (written : ℕ) (members : List PlacedMember) (are : All IsPlaced members) (some : 0 < written) (few : written < 2 ^ 32) (layout : Layout) where
  pub structure-narrow : layout_of (structure_body packed written members) ≡ Ok layout → IsNarrow layout.size layout.align
  structure-narrow is = body-narrow (structure_body packed written members) layout some (omega (arith, largest-narrow packed members are, few)) is

  pub union-narrow : layout_of (union_body packed written members) ≡ Ok layout → IsNarrow layout.size layout.align
  union-narrow is = body-narrow (union_body packed written members) layout some (omega (arith, largest-narrow packed members are, few)) is
