-- Steps one behind the other, and the row behind all of them: it is told by the least constraint and by where they have led.
use Rattle.std.proofs.Common.{◌≡◌, ℕ, Bool, List, [], ◌++◌, Option, Some, None, option_map, if◌then◌else◌, refl, sym, ap, ◌∙◌, subst, append-nil}
use Rattle.std.proofs.lemmas.List.{append_assoc}
use Rattle.vocabulary.specs.declared.int_kind.IntKind.TheVariants as integers
use Rattle.meaning_operands.specs.Failures as failures
use Rattle.meaning_rules.specs.Rules.{least_broken, lesser}
use Rattle.meaning_typing.specs.Facts.{Unknown, Expression, value}
use Rattle.meaning_typing.specs.OffsetRows as meaning
use Rattle.meaning_typing.specs.Operators.{integer}
use Rattle.c_types.specs.Table.{TypeTable}
use Rattle.expression_rows.specs.declared.row.Broken.{Broken}
use Rattle.expression_rows.specs.Arguments.{without_failures}
use Rattle.expression_rows.specs.Rows.{broken_seen, told}
use Rattle.expression_rows.proofs.LeastLemmas.{least_both, lesser_on, unless_told}
use Rattle.member_rows.specs.declared.reached.Reached.{Reached}
use Rattle.member_rows.specs.Laws.{LeadsOn, WalksEnd, WalksGoOn}
use Rattle.member_rows.specs.Steps.{IsWalked, ToldWalk, offset_with, reached_seen}

pub offset_told : (table : TypeTable) (token : ℕ) (broken least : Option Broken) (reached : Option Reached) (led : Bool)
    → option_map broken_seen least ≡ lesser (option_map broken_seen broken) (least_broken (meaning.field_broken token (option_map (reached_seen table) reached)))
    → led ≡ meaning.is_led (option_map (reached_seen table) reached)
    → (walk : meaning.Walk) → IsWalked table broken reached walk → offset_with (option_map broken_seen least) led ≡ told (without_failures (meaning.offset_by token walk))
offset_told table token broken least reached led least_is led_is walk walked =
    let fields = meaning.field_broken token walk.reached in
    let all = walk.broken ++ fields in
    let same : option_map broken_seen least ≡ least_broken all =
    least_is ∙ (λ i. lesser (walked.least i) (least_broken (meaning.field_broken token (walked.leads i)))) ∙ sym (least_both walk.broken fields) in
    let leads : led ≡ meaning.is_led walk.reached = led_is ∙ ap meaning.is_led walked.leads in
    (λ i. offset_with (same i) (leads i))
    ∙ (λ i. record {
      fact = unless_told all (if meaning.is_led walk.reached then Expression (value (integer integers.ULong)) else Unknown) i;
      broken = least_broken all;
      failures = [];
      passed = [];
    })

-- Steps

lesser_none : (least : Option failures.Broken) → lesser least None ≡ least
lesser_none None = refl
lesser_none (Some broken) = refl

-- what a step finds, and what those behind it find
goes_on : (least : Option failures.Broken) (found : List failures.Failure) (one behind whole : meaning.Walk) → LeadsOn least found (meaning.and_behind one behind) whole
    → LeadsOn (lesser least (least_broken one.broken)) (found ++ one.failures) behind whole
goes_on least found one behind whole leads =
    record {
      broken =
          sym (lesser_on least (least_broken one.broken) (least_broken behind.broken))
          ∙ ap (lesser least) (sym (least_both one.broken behind.broken))
          ∙ leads.broken;
      failures = append_assoc found one.failures behind.failures ∙ leads.failures;
      reached = leads.reached;
    }

pub walks_go_on : WalksGoOn
walks_go_on aggregates step steps reached told least found whole is leads =
    subst
    (λ (told : ToldWalk). LeadsOn (lesser least told.broken) (found ++ told.failures) (meaning.walk_from aggregates steps told.reached) whole)
    (sym is)
    (goes_on least found (meaning.step_to aggregates reached step)
    (meaning.walk_from aggregates steps (meaning.step_to aggregates reached step).reached) whole leads)

pub walks_end : WalksEnd
walks_end least found reached whole leads =
    (sym (lesser_none least) ∙ leads.broken, sym (append-nil found) ∙ leads.failures, leads.reached)
