-- Each arm writes the row of its rule.
use Rattle.std.proofs.Common.{◌≡◌, ◌++◌, ℕ, List, OnOk, codes, subst, sym}
use Rattle.std.specs.Fmt.{signed_decimal}
use Rattle.vocabulary.specs.declared.rule.RuleCode.{RuleCode}
use Rattle.meaning_warnings.specs.Warnings as meaning
use Rattle.warn_print.specs.Seen.{failure_seen, unit_shown}
use Rattle.warn_print.proofs.warnings.write_message.Goals as goal

pub returns-in-C1 : goal.returns-in-C1
returns-in-C1 c =
    subst (λ (rule : RuleCode). OnOk c.write_imbalance.result (c.write_imbalance.new.text.items ≡ c.args.text.now.items ++ (meaning.warning_of (unit_shown c.args.show.now) c.args.spelling.now (failure_seen c.args.show.now.names.now c.args.show.now.types.now c.args.failure) rule).text)) (sym c.in-C1.is)
    (subst (λ (name : List ℕ). OnOk c.write_imbalance.result (c.write_imbalance.new.text.items ≡ c.args.text.now.items ++ meaning.imbalance name (codes "different counts at this point"))) c.spelling_of-name.ensures c.write_imbalance.ensures)

pub returns-in-C2 : goal.returns-in-C2
returns-in-C2 c =
    subst (λ (rule : RuleCode). OnOk c.write_imbalance-in-C2.result (c.write_imbalance-in-C2.new.text.items ≡ c.args.text.now.items ++ (meaning.warning_of (unit_shown c.args.show.now) c.args.spelling.now (failure_seen c.args.show.now.names.now c.args.show.now.types.now c.args.failure) rule).text)) (sym c.in-C2.is)
    (subst (λ (name : List ℕ). OnOk c.write_imbalance-in-C2.result (c.write_imbalance-in-C2.new.text.items ≡ c.args.text.now.items ++ meaning.imbalance name (codes "unexpected release"))) c.spelling_of-name.ensures c.write_imbalance-in-C2.ensures)

pub returns-in-C3 : goal.returns-in-C3
returns-in-C3 c =
    subst (λ (rule : RuleCode). OnOk c.write_wrong_count.result (c.write_wrong_count.new.text.items ≡ c.args.text.now.items ++ (meaning.warning_of (unit_shown c.args.show.now) c.args.spelling.now (failure_seen c.args.show.now.names.now c.args.show.now.types.now c.args.failure) rule).text)) (sym c.in-C3.is)
    (subst (λ (name : List ℕ). OnOk c.write_wrong_count.result (c.write_wrong_count.new.text.items ≡ c.args.text.now.items ++ meaning.imbalance name (codes "wrong count at exit (" ++ signed_decimal c.args.failure.number ++ codes " instead of " ++ signed_decimal c.args.failure.wanted ++ codes ")"))) c.spelling_of-name.ensures c.write_wrong_count.ensures)

pub returns-in-S1 : goal.returns-in-S1
returns-in-S1 c =
    subst (λ (rule : RuleCode). OnOk c.write_named-in-S1.result (c.write_named-in-S1.new.text.items ≡ c.args.text.now.items ++ (meaning.warning_of (unit_shown c.args.show.now) c.args.spelling.now (failure_seen c.args.show.now.names.now c.args.show.now.types.now c.args.failure) rule).text)) (sym c.in-S1.is)
    (subst (λ (name : List ℕ). OnOk c.write_named-in-S1.result (c.write_named-in-S1.new.text.items ≡ c.args.text.now.items ++ (codes "symbol '" ++ name ++ codes "' was not declared. Should it be static?"))) c.spelling_of-name.ensures c.write_named-in-S1.ensures)

pub returns-in-S4 : goal.returns-in-S4
returns-in-S4 c =
    subst (λ (rule : RuleCode). OnOk c.write_words-in-S4.result (c.write_words-in-S4.new.text.items ≡ c.args.text.now.items ++ (meaning.warning_of (unit_shown c.args.show.now) c.args.spelling.now (failure_seen c.args.show.now.names.now c.args.show.now.types.now c.args.failure) rule).text)) (sym c.in-S4.is)
    c.write_words-in-S4.ensures

pub returns-in-S5 : goal.returns-in-S5
returns-in-S5 c =
    subst (λ (rule : RuleCode). OnOk c.write_words-in-S5.result (c.write_words-in-S5.new.text.items ≡ c.args.text.now.items ++ (meaning.warning_of (unit_shown c.args.show.now) c.args.spelling.now (failure_seen c.args.show.now.names.now c.args.show.now.types.now c.args.failure) rule).text)) (sym c.in-S5.is)
    c.write_words-in-S5.ensures

pub returns-in-S6 : goal.returns-in-S6
returns-in-S6 c =
    subst (λ (rule : RuleCode). OnOk c.write_words-in-S6.result (c.write_words-in-S6.new.text.items ≡ c.args.text.now.items ++ (meaning.warning_of (unit_shown c.args.show.now) c.args.spelling.now (failure_seen c.args.show.now.names.now c.args.show.now.types.now c.args.failure) rule).text)) (sym c.in-S6.is)
    c.write_words-in-S6.ensures
