-- The combination is that of the number, or stands behind the others.
use Rattle.std.proofs.Common.{◌≡◌, length, slice_get, Some, refl, sym, ap, ◌∙◌}
use Rattle.std.proofs.lemmas.Option.{slice_get_read}
use Rattle.statement_judge.proofs.KeptLemmas.{same_enclosing, setting_last}
use Rattle.statement_judge.proofs.enclosings.number_of.Goals as goal

pub returns-then-eq-clause-stands : goal.returns-then-eq-clause-stands
returns-then-eq-clause-stands c =
    let settings = c.args.settings.now.items in
    slice_get_read settings (length settings) c.args.outer c.index.result.now refl c.requires c.index.ensures
    ∙ ap Some (same_enclosing c.index.result.now c.args.enclosing (sym c.eq.ensures ∙ c.if-eq.true))

pub returns-clause-stands : goal.returns-clause-stands
returns-clause-stands c =
    let settings = c.args.settings.now.items in
    ap (slice_get c.push.new.self.items) (c.len-count.ensures ∙ c.args.settings.now.ok.0)
    ∙ ap (λ list. slice_get list (length settings)) c.in_ok-push.ensures.items ∙ setting_last settings c.args.enclosing
