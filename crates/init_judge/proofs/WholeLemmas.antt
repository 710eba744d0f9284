-- What an object receives as a whole is what was found.
use Rattle.std.proofs.Common.{◌≡◌, ℕ, max, Bool, true, false, List, [], Some, None, option_map, Result, Ok, Err, IfOk, refl, sym, ap, subst, ◌∙◌, arith}
use Rattle.vocabulary.specs.declared.node_kind.NodeKind.{NodeKind}
use Rattle.vocabulary.specs.declared.node_kind.NodeKind.TheVariants as kinds
use Rattle.sparse_model.specs.declared.ids.TypeId.{TypeId}
use Rattle.meaning_types.specs.Types.{TypeTree}
use Rattle.meaning_tree.specs.Nodes.{ChildrenStandBefore}
use Rattle.meaning_typing.specs.Facts.{Fact}
use Rattle.meaning_typing.specs.Units.{UnitNodes, children_at, kind_at, node_at, unit_list}
use Rattle.meaning_initializers.specs.Items.{Given, Initializer, Value, Braces, Items}
use Rattle.meaning_initializers.specs.Parts.{Aggregates, string_before}
use Rattle.meaning_initializers.specs.Plans.{Plan, string_alone, value_plan}
use Rattle.meaning_initializers.specs.Filling.{Receives, a_string, a_value}
use Rattle.meaning_initializers.specs.Reading.{given_at, initializer_at, initializer_by, items_of}
use Rattle.c_types.specs.Table.{TypeTable, type_at}
use Rattle.initializer_levels.specs.declared.plan.Plan as code
use Rattle.initializer_levels.specs.Laws as laws
use Rattle.initializer_levels.specs.Laws.{InitializersAreOfParts, WalksComeToPlans}
use Rattle.initializer_levels.specs.Met.{found_with}
use Rattle.initializer_levels.specs.Reading.{is_braces}
use Rattle.initializer_levels.specs.Turns.{Comes, Found, begun, found_behind, nothing_found}
use Rattle.init_judge.specs.Said.{broken_of}
use Rattle.init_judge.specs.Whole.{IsFound, IsReceived}
use Rattle.init_judge.proofs.SaidLemmas.{told_least, told_lesser}

-- what is found behind nothing
found_of : (plan : Plan) (found : Found) (length : ℕ) → found ≡ found_behind nothing_found plan → length ≡ plan.length → IsFound plan found length
found_of plan found length is len =
    record {
      leaves = sym (ap (λ (f : Found). f.leaves) is);
      broken = told_least plan.refusals ∙ sym (told_lesser None plan.refusals) ∙ sym (ap (λ (f : Found). option_map broken_of f.told) is);
      len = sym len;
    }

max_none : (n : ℕ) → max n 0 ≡ n
max_none n = omega arith

-- Initializers by the kinds of their nodes

module _ (nodes : UnitNodes) (facts : List Fact) where
  braces_by : (handle : ℕ) (kind : NodeKind) → is_braces kind ≡ true
      → initializer_by nodes facts (initializer_at nodes facts) handle kind
      ≡ Braces handle (node_at nodes handle).token (items_of nodes facts (initializer_at nodes facts) (children_at nodes handle))
  braces_by handle kinds.BracedInitializer is = refl
  braces_by handle kind is = absurd (cc is)

  value_by : (handle : ℕ) (kind : NodeKind) → is_braces kind ≡ false → initializer_by nodes facts (initializer_at nodes facts) handle kind ≡ Value (given_at nodes facts handle)
  value_by handle kinds.BracedInitializer is = absurd (cc is)
  value_by handle kind is = refl

  module _ (parts : InitializersAreOfParts) (order : ChildrenStandBefore (unit_list nodes)) (handle : ℕ) where
    braces_at : is_braces (kind_at nodes handle) ≡ true
        → initializer_at nodes facts handle ≡ Braces handle (node_at nodes handle).token (items_of nodes facts (initializer_at nodes facts) (children_at nodes handle))
    braces_at is = parts nodes facts order handle ∙ braces_by handle (kind_at nodes handle) is

    value_at : is_braces (kind_at nodes handle) ≡ false → initializer_at nodes facts handle ≡ Value (given_at nodes facts handle)
    value_at is = parts nodes facts order handle ∙ value_by handle (kind_at nodes handle) is

module _ (are_of_parts : InitializersAreOfParts) (aggregates : Aggregates) (is_static : Bool) (table : TypeTable) (nodes : UnitNodes) (facts : List Fact) (order : ChildrenStandBefore (unit_list nodes)) (object : TypeId) (init : ℕ) (plan : code.Plan) where
  abbrev type_ : TypeTree
  type_ = type_at table object

  abbrev found : Found
  found = found_with nodes facts is_static table plan.paths nothing_found plan.findings.items

  pub value_received : is_braces (kind_at nodes init) ≡ false → found ≡ found_behind nothing_found (value_plan is_static type_ [] false (given_at nodes facts init))
      → plan.length ≡ (value_plan is_static type_ [] false (given_at nodes facts init)).length → IsReceived aggregates is_static table nodes facts object init plan
  value_received is is_found len =
      let meant = value_plan is_static type_ [] false (given_at nodes facts init) in (
        meant,
        subst (λ (i : Initializer). Receives aggregates is_static type_ [] false i meant) (sym (value_at nodes facts are_of_parts order init is)) a_value,
        found_of meant found plan.length is_found len,
      )

  abbrev items : Items
  items = items_of nodes facts (initializer_at nodes facts) (children_at nodes init)

  received_braces : is_braces (kind_at nodes init) ≡ true → (meant : Plan) → Receives aggregates is_static type_ [] false (Braces init (node_at nodes init).token items) meant
      → IsFound meant found plan.length → IsReceived aggregates is_static table nodes facts object init plan
  received_braces is meant receives found_is =
      (meant, subst (λ (i : Initializer). Receives aggregates is_static type_ [] false i meant) (sym (braces_at nodes facts are_of_parts order init is)) receives, found_is)

  pub string_received : is_braces (kind_at nodes init) ≡ true → (string : Given) (behind : Items) → string_before type_ items ≡ Some (string, behind)
      → found ≡ found_behind nothing_found (string_alone is_static type_ [] false string behind)
      → plan.length ≡ (value_plan is_static type_ [] false string).length → IsReceived aggregates is_static table nodes facts object init plan
  string_received is string behind before is_found len =
      let meant = string_alone is_static type_ [] false string behind in
      received_braces is meant (a_string before)
      (found_of meant found plan.length is_found (len ∙ sym (max_none (value_plan is_static type_ [] false string).length)))

  walked_found : (walked : Plan) → laws.IsFoundOf walked found plan.length → IsFound walked found plan.length
  walked_found walked is = record { leaves = is.leaves; broken = ap (option_map broken_of) is.told; len = is.len }

  pub list_received : WalksComeToPlans → is_braces (kind_at nodes init) ≡ true → (list : Items) → list ≡ items → string_before type_ list ≡ None
      → Comes aggregates is_static (begun type_ list) found plan.length → IsReceived aggregates is_static table nodes facts object init plan
  list_received walks_come is list same none comes =
      let walked = walks_come aggregates is_static type_ init (node_at nodes init).token list found plan.length none comes in
      received_braces is walked.0 (subst (λ (i : Items). Receives aggregates is_static type_ [] false (Braces init (node_at nodes init).token i) walked.0) same walked.1) (walked_found walked.0 walked.2)

-- Answers of which two facts are known

pub both_ok : {T E : Type 0} (result : Result T E) (First Second Both : T → Type 0) → IfOk result First → IfOk result Second
    → ((value : T) → First value → Second value → Both value) → IfOk result Both
both_ok (Ok value) First Second Both first second both = both value first second
both_ok (Err fault) First Second Both first second both = tt
