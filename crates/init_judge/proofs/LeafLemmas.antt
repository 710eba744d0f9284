-- What is said of one finding is what its plan says.
use Rattle.std.proofs.Common.{◌≡◌, ℕ, Bool, true, false, List, [], ◌∷◌, Option, Some, None, refl, sym, ap, subst, ◌∙◌, append-nil, if◌then◌else◌}
use Rattle.std.proofs.lemmas.List.Elements.{All-nil}
use Rattle.vocabulary.specs.declared.error_kind.ErrorKind.TheVariants.{ExtraInitializer}
use Rattle.vocabulary.specs.declared.node_kind.NodeKind.{NodeKind}
use Rattle.vocabulary.specs.declared.node_kind.NodeKind.TheVariants as kinds
use Rattle.sparse_model.specs.declared.failure.Failure.{Failure}
use Rattle.meaning_types.specs.Types.{TypeTree}
use Rattle.meaning_typing.specs.Facts.{Fact, fact_at}
use Rattle.meaning_typing.specs.Units.{UnitNodes, kind_at, node_at}
use Rattle.meaning_initializers.specs.Items.{Given, Initializer, Value, token_of}
use Rattle.meaning_initializers.specs.Parts.{is_array_of_characters}
use Rattle.meaning_initializers.specs.Plans.{Plan, extra, is_longer, leaf_of, no_plan, plan_of_elements, refused, string_plan, value_plan}
use Rattle.meaning_initializers.specs.Reading.{given_at, initializer_at, initializer_by, initializer_failures, initializer_within}
use Rattle.c_types.specs.Table.{TypeTable}
use Rattle.node_facts.specs.Growing.{TypesJoin}
use Rattle.node_facts.proofs.GrowthLemmas.{joins_none}
use Rattle.expression_rows.specs.Arguments.{Appends}
use Rattle.expression_rows.specs.Rows.{IsKnownFailure}
use Rattle.init_judge.specs.declared.leaf.Said.{Said}
use Rattle.leaf_rows.specs.Leaves.{leaf_told}
use Rattle.leaf_rows.proofs.ConversionLemmas.{string_silent}
use Rattle.init_judge.specs.Said.{Says, one_kept, plan_kept, refused_at, said_seen}
use Rattle.init_judge.proofs.RefusalLemmas.{told_refusals}
use Rattle.init_judge.proofs.StringLemmas.{elements_for, for_characters}

-- What has no place

token_by : (nodes : UnitNodes) (facts : List Fact) (part : ℕ → Initializer) (handle : ℕ) (kind : NodeKind)
    → token_of (initializer_by nodes facts part handle kind) ≡ (node_at nodes handle).token
token_by nodes facts part handle kinds.BracedInitializer = refl
token_by nodes facts part handle kind = refl

pub extra_kept : (nodes : UnitNodes) (facts : List Fact) (handle : ℕ)
    → refused_at ExtraInitializer (node_at nodes handle).token ≡ plan_kept (refused (extra (initializer_at nodes facts handle)) no_plan)
extra_kept nodes facts handle =
    ap (refused_at ExtraInitializer) (sym (token_by nodes facts (λ part. initializer_within nodes facts handle part) handle (kind_at nodes handle)))

-- no rule fails
pub silent_says : (nodes : UnitNodes) (facts : List Fact) (table : TypeTable) (paths : List (List ℕ)) (found : List Failure) (said : Said) (plan : Plan)
    → said_seen table paths said ≡ plan_kept plan → initializer_failures nodes facts plan.leaves ≡ [] → Says nodes facts table table paths found found said plan
silent_says nodes facts table paths found said plan is silent =
    record { kept = is; failures = ([], sym (append-nil found), sym silent, All-nil (IsKnownFailure table)); keeps = joins_none table }

-- Strings

module _ (type_ : TypeTree) (path : List ℕ) (is_moved : Bool) (given : Given) (elements : ℕ) where
  abbrev string_if : Bool → Plan
  string_if longer =
      if longer then refused (extra (Value given)) no_plan
      else record { leaves = leaf_of type_ path is_moved given ∷ []; refusals = []; length = elements }

  pub long_kept : is_longer elements type_ ≡ true → refused_at ExtraInitializer given.token ≡ plan_kept (string_plan elements type_ path is_moved given)
  long_kept is = ap (λ (longer : Bool). plan_kept (string_if longer)) (sym is)

  pub short_kept : is_longer elements type_ ≡ false
      → one_kept (leaf_of type_ path is_moved given) None ≡ plan_kept (string_plan elements type_ path is_moved given)
  short_kept is = ap (λ (longer : Bool). plan_kept (string_if longer)) (sym is)

module _ (nodes : UnitNodes) (facts : List Fact) (type_ : TypeTree) (path : List ℕ) (is_moved : Bool) (handle : ℕ) (elements : ℕ) where
  silent_if : is_array_of_characters type_ ≡ true → (longer : Bool)
      → initializer_failures nodes facts (string_if type_ path is_moved (given_at nodes facts handle) elements longer).leaves ≡ []
  silent_if is true = refl
  silent_if is false = append-nil _ ∙ string_silent (node_at nodes handle).token type_ (fact_at facts handle) is

  pub string_says : (is_static : Bool) (table : TypeTable) (paths : List (List ℕ)) (found : List Failure) (said : Said)
      → elements_for type_ (given_at nodes facts handle) ≡ Some elements
      → said_seen table paths said ≡ plan_kept (string_plan elements type_ path is_moved (given_at nodes facts handle))
      → Says nodes facts table table paths found found said (value_plan is_static type_ path is_moved (given_at nodes facts handle))
  string_says is_static table paths found said is kept =
      let given = given_at nodes facts handle in
      let plan : value_plan is_static type_ path is_moved given ≡ string_plan elements type_ path is_moved given =
      ap (λ (e : Option ℕ). plan_of_elements is_static e type_ path is_moved given) is in
      silent_says nodes facts table paths found said (value_plan is_static type_ path is_moved given) (kept ∙ ap plan_kept (sym plan))
      (ap (λ (p : Plan). initializer_failures nodes facts p.leaves) plan ∙ silent_if (for_characters type_ given elements is) (is_longer elements type_))

  -- Others

  pub value_says : (is_static : Bool) (old new : TypeTable) (paths : List (List ℕ)) (before after : List Failure) (said : Said)
      → elements_for type_ (given_at nodes facts handle) ≡ None
      → said_seen old paths said ≡ one_kept (leaf_of type_ path is_moved (given_at nodes facts handle)) (leaf_told is_static type_ (node_at nodes handle).token (fact_at facts handle)).broken
      → Appends new before after (leaf_told is_static type_ (node_at nodes handle).token (fact_at facts handle)).failures → TypesJoin old new
      → Says nodes facts old new paths before after said (value_plan is_static type_ path is_moved (given_at nodes facts handle))
  value_says is_static old new paths before after said is kept failures join =
      let given = given_at nodes facts handle in
      record {
        kept = kept
            ∙ ap (one_kept (leaf_of type_ path is_moved given)) (sym (told_refusals is_static type_ given))
            ∙ ap (λ (e : Option ℕ). plan_kept (plan_of_elements is_static e type_ path is_moved given)) (sym is);
        failures =
            subst (Appends new before after)
            (sym (append-nil _) ∙ ap (λ (e : Option ℕ). initializer_failures nodes facts (plan_of_elements is_static e type_ path is_moved given).leaves) (sym is))
            failures;
        keeps = join;
      }
