use Rattle.std.proofs.Common.{false, sym, ap, ◌∙◌}
use Rattle.std.proofs.lemmas.Bool.{eqb-true}
use Rattle.std.proofs.lemmas.List.{nil_from_length}
use Rattle.meaning_text.specs.Kinds.{kind_in}
use Rattle.meaning_text.proofs.FrontFacts.{kind_in-nil}
use Rattle.c_tokens.proofs.JoinedLemmas.{found_token-line, kind_in-new_line, kind_in-whole, kind_in-part, kind_in-none}
use Rattle.c_tokens.proofs.joined.kind_of.Goals as goal

pub returns-then-is_empty : goal.returns-then-is_empty
returns-then-is_empty c =
    sym (ap (kind_in false) (nil_from_length c.args.text.now (eqb-true _ 0 (sym c.is_empty.ensures ∙ c.if-is_empty.true))) ∙ kind_in-nil false)

pub returns-then-contains : goal.returns-then-contains
returns-then-contains c = sym (kind_in-new_line c.args.text.now (sym c.contains.ensures.value ∙ c.if-contains.true))

pub returns-in_err-kind : goal.returns-in_err-kind
returns-in_err-kind c =
    c.from_residual.ensures
    ∙ kind_in-none c.args.text.now
    (sym c.in_err-kind.was ∙ c.found_token.ensures
    ∙ found_token-line c.args.text.now _ (sym c.is_empty.ensures ∙ c.if-is_empty.false) (sym c.contains.ensures.value ∙ c.if-contains.false) c.new.ensures.all)

pub returns-then-count-text : goal.returns-then-count-text
returns-then-count-text c =
    kind_in-whole c.args.text.now c.in_ok-kind.kind c.in_ok-kind.count
    (sym c.in_ok-kind.was ∙ c.found_token.ensures
    ∙ found_token-line c.args.text.now _ (sym c.is_empty.ensures ∙ c.if-is_empty.false) (sym c.contains.ensures.value ∙ c.if-contains.false) c.new.ensures.all)
    c.if-count-text.true

pub returns-else-count-text : goal.returns-else-count-text
returns-else-count-text c =
    kind_in-part c.args.text.now c.in_ok-kind.kind c.in_ok-kind.count
    (sym c.in_ok-kind.was ∙ c.found_token.ensures
    ∙ found_token-line c.args.text.now _ (sym c.is_empty.ensures ∙ c.if-is_empty.false) (sym c.contains.ensures.value ∙ c.if-contains.false) c.new.ensures.all)
    c.if-count-text.false
