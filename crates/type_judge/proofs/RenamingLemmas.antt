-- What is seen over a table with other names.
use Rattle.std.proofs.Common.{◌≡◌, List, [], ◌∷◌, All, refl}
use Rattle.std.proofs.lemmas.List.Elements.{All-cons, All-head, All-nil, All-tail}
use Rattle.sparse_model.specs.declared.failure.Failure.{Failure}
use Rattle.sparse_model.specs.declared.ids.NameId.{NameId}
use Rattle.c_types.specs.declared.bodies.Named.{Named}
use Rattle.c_types.specs.Table.{TypeTable}
use Rattle.node_facts.specs.declared.fact.NodeFact.{NodeFact}
use Rattle.node_facts.specs.declared.fact.NodeFact.TheVariants as facts
use Rattle.node_facts.specs.Facts.{IsKnownNodeFact, node_seen, nodes_seen}
use Rattle.expr_judge.specs.Found.{AreKnownFailures, found_seen}
use Rattle.node_judge.specs.NamedTypes.{renamed}

module _ (table : TypeTable) (names : List (Named × NameId)) where
  node_renamed : (fact : NodeFact) → node_seen (renamed table names) fact ≡ node_seen table fact
  node_renamed facts.Unknown = refl
  node_renamed (facts.Expression expression) = refl
  node_renamed (facts.Specified specifiers) = refl
  node_renamed (facts.Declared declaration) = refl
  node_renamed (facts.NamedType of) = refl

  known_renamed : (fact : NodeFact) → IsKnownNodeFact table fact → IsKnownNodeFact (renamed table names) fact
  known_renamed facts.Unknown known = known
  known_renamed (facts.Expression expression) known = known
  known_renamed (facts.Specified specifiers) known = known
  known_renamed (facts.Declared declaration) known = known
  known_renamed (facts.NamedType of) known = known

  pub nodes_renamed : (facts : List NodeFact) → nodes_seen (renamed table names) facts ≡ nodes_seen table facts
  nodes_renamed [] = refl
  nodes_renamed (fact ∷ others) = λ i. node_renamed fact i ∷ nodes_renamed others i

  pub all_renamed : (facts : List NodeFact) → All (IsKnownNodeFact table) facts → All (IsKnownNodeFact (renamed table names)) facts
  all_renamed [] known = All-nil (IsKnownNodeFact (renamed table names))
  all_renamed (fact ∷ others) known =
      All-cons (IsKnownNodeFact (renamed table names)) fact others (known_renamed fact (All-head (IsKnownNodeFact table) fact others known))
      (all_renamed others (All-tail (IsKnownNodeFact table) fact others known))

  pub found_renamed : (failures : List Failure) → found_seen (renamed table names) failures ≡ found_seen table failures
  found_renamed failures = refl

  pub failures_renamed : (failures : List Failure) → AreKnownFailures table failures → AreKnownFailures (renamed table names) failures
  failures_renamed failures known = known
