-- The other lists stay.
use Rattle.std.proofs.Common.{◌≡◌, Some, IfOk, slice_get, sym, subst}
use Rattle.node_surroundings.proofs.SettingLemmas.{err_kept, list_at-set, lists_longer}
use Rattle.node_surroundings.proofs.settings.number_in.Goals as goal

pub returns-clause-stands : goal.returns-clause-stands
returns-clause-stands c =
    subst (λ settings. IfOk c.number_of.result (λ number. slice_get settings number ≡ Some c.args.around))
    (sym (list_at-set c.args.lists.now.items c.args.list c.number_of.new.settings c.requires)) c.number_of.ensures.stands

pub returns-clause-grows : goal.returns-clause-grows
returns-clause-grows c =
    lists_longer c.args.lists.now.items c.args.list c.index_mut.result.now c.number_of.new.settings c.requires c.index_mut.ensures.value c.number_of.ensures.grows

pub returns-clause-err : goal.returns-clause-err
returns-clause-err c =
    err_kept c.number_of.result c.args.lists.now.items c.args.list c.index_mut.result.now c.number_of.new.settings c.requires c.index_mut.ensures.value c.number_of.ensures.err
