-- What was handed in of a table holds over one that types joined.
use Rattle.std.proofs.Common.{◌≡◌, ℕ, ◌<◌, List, [], ◌∷◌, All, length, sym, subst}
use Rattle.std.proofs.lemmas.List.Elements.{All-cons, All-head, All-nil, All-tail}
use Rattle.c_types.specs.declared.bodies.AggregateBody.{AggregateBody}
use Rattle.c_types.specs.declared.bodies.Member.{Member}
use Rattle.c_types.specs.Table.{TypeTable, IsBodyOver, types_in}
use Rattle.node_facts.specs.Growing.{TypesJoin}
use Rattle.node_facts.proofs.GrowthLemmas.{id_later}
use Rattle.whole_judge.specs.Known.{AreKnownBodies}

module _ (old new : TypeTable) (join : TypesJoin old new) where
  members_later : (members : List Member) → All (λ member. member.of.0 < length (types_in old)) members → All (λ member. member.of.0 < length (types_in new)) members
  members_later [] known = All-nil (λ (member : Member). member.of.0 < length (types_in new))
  members_later (member ∷ members) known =
      All-cons (λ (member : Member). member.of.0 < length (types_in new)) member members
      (id_later old new join member.of (All-head (λ (member : Member). member.of.0 < length (types_in old)) member members known))
      (members_later members (All-tail (λ (member : Member). member.of.0 < length (types_in old)) member members known))

  all_later : (bodies : List (ℕ × AggregateBody)) → All (λ entry. IsBodyOver (types_in old) entry.1) bodies → All (λ entry. IsBodyOver (types_in new) entry.1) bodies
  all_later [] known = All-nil (λ (entry : ℕ × AggregateBody). IsBodyOver (types_in new) entry.1)
  all_later (entry ∷ bodies) known =
      All-cons (λ (entry : ℕ × AggregateBody). IsBodyOver (types_in new) entry.1) entry bodies
      (members_later entry.1.members (All-head (λ (entry : ℕ × AggregateBody). IsBodyOver (types_in old) entry.1) entry bodies known))
      (all_later bodies (All-tail (λ (entry : ℕ × AggregateBody). IsBodyOver (types_in old) entry.1) entry bodies known))

  pub bodies_later : AreKnownBodies old → AreKnownBodies new
  bodies_later known =
      subst (λ (bodies : List (ℕ × AggregateBody)). All (λ entry. IsBodyOver (types_in new) entry.1) bodies) (sym join.tells.bodies)
      (all_later old.bodies known)
