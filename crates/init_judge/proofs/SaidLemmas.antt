-- One finding more.
use Rattle.std.proofs.Common.{◌≡◌, ℕ, Bool, true, false, List, [], ◌∷◌, ◌++◌, map, All, Option, Some, None, IfSome, option_map, refl, sym, ap, ap₂, subst, ◌∙◌, append-nil, append_assoc, if◌then◌else◌}
use Rattle.std.proofs.lemmas.List.{map-append}
use Rattle.std.proofs.lemmas.List.Elements.{All-append, All-cons, All-head, All-nil, All-tail}
use Rattle.sparse_model.specs.declared.failure.Failure.{Failure}
use Rattle.meaning_types.specs.Types.{TypeTree}
use Rattle.meaning_operands.specs.Failures as meaning
use Rattle.meaning_typing.specs.Facts.{Fact}
use Rattle.meaning_typing.specs.Units.{UnitNodes}
use Rattle.meaning_rules.specs.Rules.{least_broken, lesser}
use Rattle.meaning_initializers.specs.Parts.{bounded}
use Rattle.meaning_initializers.specs.Plans.{Leaf, Plan, Refusal, value_plan}
use Rattle.meaning_initializers.specs.Reading.{given_at, initializer_failures, is_told_before, leaf_failures, lesser_refusal, refusal_told}
use Rattle.c_types.specs.Table.{IsTypeId, TypeTable}
use Rattle.node_facts.specs.Growing.{TypesJoin}
use Rattle.node_facts.proofs.GrowthLemmas.{id_later, joins_none, joins_on, type_later}
use Rattle.expression_rows.specs.declared.row.Broken as rows
use Rattle.expression_rows.specs.Arguments.{Appends}
use Rattle.expression_rows.specs.Rows.{IsKnownFailure, broken_seen}
use Rattle.expression_rows.proofs.LeastLemmas.{lesser_on}
use Rattle.expr_judge.proofs.GrowthLemmas.{appended_both, appended_later}
use Rattle.initializer_levels.specs.declared.met.Finding.{Finding}
use Rattle.initializer_levels.specs.declared.met.Finding.TheVariants as findings
use Rattle.initializer_levels.specs.declared.met.Placed.{Placed}
use Rattle.initializer_levels.specs.declared.parts.PartType.{PartType}
use Rattle.initializer_levels.specs.Met.{IsFindingIn, IsPlacedIn, finding_plan}
use Rattle.initializer_levels.specs.Parts.{type_seen}
use Rattle.initializer_levels.specs.Paths.{path_at}
use Rattle.initializer_levels.specs.Turns.{Found, found_behind, nothing_found, told_behind, told_with}
use Rattle.init_judge.specs.declared.leaf.Said.{Said}
use Rattle.init_judge.specs.Leaves.{leaf_seen, listed_leaf}
use Rattle.init_judge.specs.Said.{HasJudged, HasType, KeptPlan, Says, broken_of, plan_kept, said_seen}

-- Refusals that are told one by one are told as the least constraint

told_one : (told : Option Refusal) (refusal : Refusal) → option_map broken_of (told_with told refusal) ≡ lesser (option_map broken_of told) (Some (broken_of refusal))
told_one None refusal = refl
told_one (Some told) refusal = by (is_told_before refusal told)
  where
    by : (test : Bool) → option_map broken_of (Some (if test then refusal else told)) ≡ (if test then Some (broken_of refusal) else Some (broken_of told))
    by true = refl
    by false = refl

pub told_lesser : (told : Option Refusal) (refusals : List Refusal)
    → option_map broken_of (told_behind told refusals) ≡ lesser (option_map broken_of told) (least_broken (map broken_of refusals))
told_lesser None [] = refl
told_lesser (Some told) [] = refl
told_lesser told (refusal ∷ refusals) =
    told_lesser (told_with told refusal) refusals
    ∙ (ap (λ (o : Option meaning.Broken). lesser o (least_broken (map broken_of refusals))) (told_one told refusal)
    ∙ sym (lesser_on (option_map broken_of told) (Some (broken_of refusal)) (least_broken (map broken_of refusals))))

-- all at once
told_of : (refusal : Refusal) (other : Option Refusal) → Some (broken_of (lesser_refusal refusal other)) ≡ lesser (Some (broken_of refusal)) (option_map broken_of other)
told_of refusal None = refl
told_of refusal (Some other) = by (is_told_before other refusal)
  where
    by : (test : Bool) → Some (broken_of (if test then other else refusal)) ≡ (if test then Some (broken_of other) else Some (broken_of refusal))
    by true = refl
    by false = refl

pub told_least : (refusals : List Refusal) → option_map broken_of (refusal_told refusals) ≡ least_broken (map broken_of refusals)
told_least [] = refl
told_least (refusal ∷ refusals) = told_of refusal (refusal_told refusals) ∙ ap (lesser (Some (broken_of refusal))) (told_least refusals)

-- Failures at leaves, one behind another

failures_append : (nodes : UnitNodes) (facts : List Fact) (leaves more : List Leaf)
    → initializer_failures nodes facts (leaves ++ more) ≡ initializer_failures nodes facts leaves ++ initializer_failures nodes facts more
failures_append nodes facts [] more = refl
failures_append nodes facts (leaf ∷ leaves) more =
    ap (λ (fs : List meaning.Failure). leaf_failures nodes facts leaf ++ fs) (failures_append nodes facts leaves more)
    ∙ sym (append_assoc (leaf_failures nodes facts leaf) (initializer_failures nodes facts leaves) (initializer_failures nodes facts more))

-- What types join the table stays as it is

module _ (old new : TypeTable) (join : TypesJoin old new) where
  pub part_type_later : (of : PartType) → IsTypeId old of.of → type_seen new of ≡ type_seen old of
  part_type_later of known = ap (λ (t : TypeTree). if of.is_member then bounded t else t) (type_later old new join of.of known)

  pub leaf_later : (paths : List (List ℕ)) (placed : Placed) → IsPlacedIn old paths placed → leaf_seen new paths placed ≡ leaf_seen old paths placed
  leaf_later paths placed known = ap with_type (part_type_later placed.of known.0)
    where
      with_type : TypeTree → Leaf
      with_type type_ = record { path = path_at paths placed.path; type_ = type_; expression = placed.initializer; is_moved = placed.is_moved }

  pub finding_later : (nodes : UnitNodes) (facts : List Fact) (is_static : Bool) (paths : List (List ℕ)) (finding : Finding) → IsFindingIn old paths finding
      → finding_plan nodes facts is_static new paths finding ≡ finding_plan nodes facts is_static old paths finding
  finding_later nodes facts is_static paths (findings.Leaf placed) known =
      ap (λ (t : TypeTree). value_plan is_static t (path_at paths placed.path) placed.is_moved (given_at nodes facts placed.initializer)) (part_type_later placed.of known.0)
  finding_later nodes facts is_static paths (findings.Extra initializer) known = refl
  finding_later nodes facts is_static paths (findings.NoPart designator) known = refl

  pub has_type : (paths : List (List ℕ)) (finding : Finding) → IsFindingIn old paths finding → HasType new finding
  has_type paths (findings.Leaf placed) known = id_later old new join placed.of.of known.0
  has_type paths (findings.Extra initializer) known = tt
  has_type paths (findings.NoPart designator) known = tt

  one_later : (paths : List (List ℕ)) (leaf : Option Placed) → IfSome leaf (IsPlacedIn old paths)
      → map (leaf_seen new paths) (listed_leaf leaf) ≡ map (leaf_seen old paths) (listed_leaf leaf)
  one_later paths None known = refl
  one_later paths (Some placed) known = ap (λ (l : Leaf). l ∷ []) (leaf_later paths placed known)

  pub leaves_later : (paths : List (List ℕ)) (leaves : List Placed) → All (IsPlacedIn old paths) leaves → map (leaf_seen new paths) leaves ≡ map (leaf_seen old paths) leaves
  leaves_later paths [] known = refl
  leaves_later paths (placed ∷ others) known =
      ap₂ (λ (l : Leaf) (ls : List Leaf). l ∷ ls) (leaf_later paths placed (All-head (IsPlacedIn old paths) placed others known))
      (leaves_later paths others (All-tail (IsPlacedIn old paths) placed others known))

  pub placed_later : (paths : List (List ℕ)) (leaves : List Placed) → All (IsPlacedIn old paths) leaves → All (IsPlacedIn new paths) leaves
  placed_later paths leaves known i e within = (id_later old new join _ (known i e within).0, (known i e within).1)

one_known : (table : TypeTable) (paths : List (List ℕ)) (leaf : Option Placed) → IfSome leaf (IsPlacedIn table paths) → All (IsPlacedIn table paths) (listed_leaf leaf)
one_known table paths None known = All-nil (IsPlacedIn table paths)
one_known table paths (Some placed) known = All-cons (IsPlacedIn table paths) placed [] known (All-nil (IsPlacedIn table paths))

-- Together

pub nothing_judged : (nodes : UnitNodes) (facts : List Fact) (table : TypeTable) (paths : List (List ℕ)) (found : List Failure)
    → HasJudged nodes facts table table paths found found [] None nothing_found
nothing_judged nodes facts table paths found =
    record {
      leaves = refl;
      known = All-nil (IsPlacedIn table paths);
      broken = refl;
      failures = ([], sym (append-nil found), refl, All-nil (IsKnownFailure table));
      keeps = joins_none table;
    }

module _ (nodes : UnitNodes) (facts : List Fact) (is_static : Bool) (table between new : TypeTable) (paths : List (List ℕ)) where
  pub judged_more : (before middle after : List Failure) (leaves more : List Placed) (broken least : Option rows.Broken) (found : Found) (finding : Finding) (said : Said)
      → HasJudged nodes facts table between paths before middle leaves broken found → IsFindingIn table paths finding
      → Says nodes facts between new paths middle after said (finding_plan nodes facts is_static between paths finding)
      → IfSome said.leaf (IsPlacedIn table paths) → more ≡ leaves ++ listed_leaf said.leaf
      → option_map broken_seen least ≡ lesser (option_map broken_seen broken) (option_map broken_seen said.broken)
      → HasJudged nodes facts table new paths before after more least (found_behind found (finding_plan nodes facts is_static table paths finding))
  judged_more before middle after leaves more broken least found finding said judged known says placed pushed lesser_is =
      let plan = finding_plan nodes facts is_static table paths finding in
      let same : finding_plan nodes facts is_static between paths finding ≡ plan = finding_later table between judged.keeps nodes facts is_static paths finding known in
      let kept : said_seen between paths said ≡ plan_kept plan = says.kept ∙ ap plan_kept same in
      record {
        leaves =
            ap (map (leaf_seen table paths)) pushed
            ∙ (map-append (leaf_seen table paths) leaves (listed_leaf said.leaf)
            ∙ ap₂ (λ (a b : List Leaf). a ++ b) judged.leaves
            (sym (one_later table between judged.keeps paths said.leaf placed) ∙ ap (λ (k : KeptPlan). k.leaves) kept));
        known = subst (All (IsPlacedIn table paths)) (sym pushed) (All-append (IsPlacedIn table paths) leaves (listed_leaf said.leaf) judged.known (one_known table paths said.leaf placed));
        broken = lesser_is ∙ (ap₂ lesser judged.broken (ap (λ (k : KeptPlan). k.broken) kept) ∙ sym (told_lesser found.told plan.refusals));
        failures =
            subst (Appends new before after)
            (ap (λ (p : Plan). initializer_failures nodes facts found.leaves ++ initializer_failures nodes facts p.leaves) same ∙ sym (failures_append nodes facts found.leaves plan.leaves))
            (appended_both new before middle after _ _ (appended_later between new says.keeps before middle _ judged.failures) says.failures);
        keeps = joins_on table between new judged.keeps says.keeps;
      }
