-- A name more is copied.
use Rattle.std.proofs.Common.{◌≡◌, ◌-◌, ◌∷◌, ◌++◌, [], Some, length, slice_get, take, refl, ap, ◌∙◌, subst, arith}
use Rattle.std.proofs.lemmas.Option.{slice_get_read}
use Rattle.c_types.specs.Layouts.{told_kept}
use Rattle.c_types.proofs.ChainLemmas.{copy-step}
use Rattle.c_types.proofs.chains.NameChain.copy_names.Goals as goal

pub loop-index-preserved : goal.loop-index-preserved
loop-index-preserved c =
    let told = told_kept c.args.layouts.now.kept.entries in
    let chain = c.args.self.now in
    let seen = ap (λ one. one.entries) c.self.view_is in
    let index = c.loop-index.index in
    let entry = c.index-entry.result.now in
    let stands : slice_get chain.entries (index - 1) ≡ Some entry =
    subst (λ all. slice_get all (index - 1) ≡ Some entry) seen
    (slice_get_read c.self.inside.entries.items (length c.self.inside.entries.items) (index - 1) entry refl (omega (arith, c.loop-index-test.true, c.loop-index.invariant.within, ap length seen)) c.index-entry.ensures)
    in
    record {
      within = omega (arith, c.loop-index.invariant.within);
      names =
          copy-step told c.args.anonymous (take c.args.level chain.links) chain.entries c.loop-index.names.items c.push.new.self.items index (index - 1) entry c.raised-found.result (omega (arith, c.loop-index-test.true)) stands
          c.raised-found.ensures (c.in_ok-push.ensures.items ∙ ap (λ found. c.loop-index.names.items ++ (entry.name, found) ∷ []) c.around.ensures)
          ∙ c.loop-index.invariant.names;
    }
