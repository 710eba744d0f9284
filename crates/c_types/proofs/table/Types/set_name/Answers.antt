-- A name that was told stays, and a new one joins the others at their end.
use Rattle.std.proofs.Common.{◌≡◌, true, is_some, sym, ap, ◌∙◌}
use Rattle.std.specs.Map.{lookup}
use Rattle.indexmap.proofs.CallerLemmas.{insert_entry-new}
use Rattle.c_types.specs.contracts.bodies.NamedPartialEq.TheImpl as named_keys
use Rattle.c_types.specs.Table.{is_named, with_name}
use Rattle.c_types.proofs.Finding.{none_from}
use Rattle.c_types.proofs.TableLemmas.{names-join, names-lookup, names-stay}
use Rattle.c_types.proofs.table.Types.set_name.Goals as goal

pub returns-then-contains_key-clause-told : goal.returns-then-contains_key-clause-told
returns-then-contains_key-clause-told c =
    let named : is_some (lookup (is_named c.args.what) c.args.self.now.names) ≡ true =
    ap (λ table. is_some (lookup (is_named c.args.what) table.names)) (sym c.self.view_is)
    ∙ ap is_some (sym (names-lookup c.args.what c.self.inside.names.entries)) ∙ sym c.contains_key.ensures ∙ c.if-contains_key.true
    in
    λ i. record { rows = c.args.self.now.rows; bodies = c.args.self.now.bodies; names = sym (names-stay c.args.what c.args.name c.args.self.now.names named) i }

pub returns-clause-told : goal.returns-clause-told
returns-clause-told c =
    let absent = sym c.if-contains_key.false ∙ c.contains_key.ensures in
    let grown =
    c.in_ok-insert.ensures.entries
    ∙ insert_entry-new named_keys.eq-value.it c.self.inside.names c.args.what c.args.name (none_from _ absent)
    ∙ sym (names-join c.args.what c.args.name c.self.inside.names.entries (ap is_some (sym (names-lookup c.args.what c.self.inside.names.entries)) ∙ sym absent))
    in
    (λ i. record { rows = c.self.inside.maker.rows.rows.entries; bodies = c.self.inside.bodies.entries; names = grown i })
    ∙ ap (λ table. record { rows = table.rows; bodies = table.bodies; names = with_name table.names c.args.what c.args.name }) c.self.view_is
