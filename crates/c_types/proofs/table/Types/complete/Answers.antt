-- The body joins the others at their end, and its layout and its names are kept.
use Rattle.std.proofs.Common.{◌≡◌, ℕ, List, nat_eq, [], ◌∷◌, ◌++◌, None, sym, ap, ◌∙◌, subst}
use Rattle.std.specs.Map.{lookup}
use Rattle.indexmap.specs.IndexMap.{insert_entry}
use Rattle.indexmap.proofs.CallerLemmas.{insert_entry-new}
use Rattle.c_types.specs.declared.layouts.AggregateLayout.{AggregateLayout}
use Rattle.c_types.specs.declared.maps.Standing.{Standing}
use Rattle.c_types.specs.Chains.{Chain}
use Rattle.c_types.specs.Kept.{IsKept}
use Rattle.c_types.specs.Layouts.{told_in, told_kept}
use Rattle.c_types.specs.Maps.{AreNamed, IsEntered}
use Rattle.c_types.specs.Members.{names_in}
use Rattle.c_types.specs.Rows.{types_of}
use Rattle.c_types.specs.Table.{IsBodyOver, types_in}
use Rattle.c_types.proofs.LayoutLemmas.{narrow-push, told_kept-push, told_of_bodies-push}
use Rattle.c_types.proofs.MapLemmas.{alike-push, layouts-stay, maps-push, now-told}
use Rattle.c_types.proofs.NameLemmas.{OnOk-is, names_of_bodies-push}
use Rattle.c_types.proofs.TableLemmas.{kept-body, kept-grown}
use Rattle.c_types.proofs.table.Types.complete.Goals as goal

pub invariant_of-self-in_err-standing : goal.invariant_of-self-in_err-standing
invariant_of-self-in_err-standing c =
    let rows = c.self.inside.maker.rows.rows.entries in
    let types = types_of rows in
    let markings = c.self.inside.maker.markings.entries in
    let bodies = c.self.inside.bodies.entries in
    let layouts = c.self.inside.layouts.kept.entries in
    let chains = c.self.inside.members.chains.items in
    let kept = c.self.inside.members.kept.entries in
    let more = c.enter.new.self.chains.items in
    let right : IsEntered types (told_kept layouts) chains more kept =
    subst (λ (all : List (ℕ × AggregateLayout)). IsEntered types (told_kept all) chains more kept) c.reserve.ensures.same
    (subst (λ (all : List Chain). IsEntered types (told_kept c.reserve.new.self.kept.entries) all more kept) c.reserve-2.ensures.chains
    (subst (IsEntered types (told_kept c.reserve.new.self.kept.entries) c.reserve-2.new.self.chains.items more) c.reserve-2.ensures.same c.enter.ensures.right))
    in
    subst (λ all. IsKept rows markings all c.reserve.new.self.kept.entries more c.enter.new.self.kept.entries) (sym c.reserve-3.ensures.entries)
    (subst (λ (all : List (ℕ × AggregateLayout)). IsKept rows markings bodies all more c.enter.new.self.kept.entries) (sym c.reserve.ensures.same)
    (subst (IsKept rows markings bodies layouts more) (sym (ap (λ map. map.entries) c.enter.ensures.kept ∙ c.reserve-2.ensures.same)) (kept-grown rows markings bodies layouts chains more kept c.self.invariant right)))

pub invariant_of-self-2 : goal.invariant_of-self-2
invariant_of-self-2 c =
    let rows = c.self.inside.maker.rows.rows.entries in
    let types = types_of rows in
    let markings = c.self.inside.maker.markings.entries in
    let bodies = c.self.inside.bodies.entries in
    let layouts = c.self.inside.layouts.kept.entries in
    let chains = c.self.inside.members.chains.items in
    let kept = c.self.inside.members.kept.entries in
    let more = c.enter.new.self.chains.items in
    let standing = c.in_ok-standing.standing in
    let aggregate = c.args.aggregate in
    let body = c.args.body in
    let layout = c.in_ok-layout.layout in
    let none : lookup (nat_eq aggregate) bodies ≡ None = ap (λ table. lookup (nat_eq aggregate) table.bodies) c.self.view_is ∙ c.requires.untold in
    let right : IsEntered types (told_kept layouts) chains more kept =
    subst (λ (all : List (ℕ × AggregateLayout)). IsEntered types (told_kept all) chains more kept) c.reserve.ensures.same
    (subst (λ (all : List Chain). IsEntered types (told_kept c.reserve.new.self.kept.entries) all more kept) c.reserve-2.ensures.chains
    (subst (IsEntered types (told_kept c.reserve.new.self.kept.entries) c.reserve-2.new.self.chains.items more) c.reserve-2.ensures.same c.enter.ensures.right))
    in
    let named : AreNamed types (told_kept layouts) chains more kept body.members standing =
    subst (λ (all : List (ℕ × AggregateLayout)). AreNamed types (told_kept all) chains more kept body.members standing) c.reserve.ensures.same
    (subst (λ (all : List Chain). AreNamed types (told_kept c.reserve.new.self.kept.entries) all more kept body.members standing) c.reserve-2.ensures.chains
    (subst (λ (all : List (ℕ × Standing)). AreNamed types (told_kept c.reserve.new.self.kept.entries) c.reserve-2.new.self.chains.items more all body.members standing) c.reserve-2.ensures.same
    (subst (λ all. AreNamed types (told_kept c.reserve.new.self.kept.entries) c.reserve-2.new.self.chains.items more c.reserve-2.new.self.kept.entries all standing) c.as_slice.ensures c.in_ok-standing.ensures.named)))
    in
    let grown = insert_entry nat_eq layouts aggregate layout in
    let entered = insert_entry nat_eq kept aggregate standing in
    let layouts_right = c.self.invariant.layouts_right in
    let maps = c.self.invariant.members_kept in
    subst (λ all. IsKept rows markings all c.keep.new.self.kept.entries c.keep-2.new.self.chains.items c.keep-2.new.self.kept.entries)
    (sym
    (OnOk-is c.insert.result c.unwrap.result c.unwrap.ensures c.insert.ensures.entries ∙ ap (λ all. insert_entry nat_eq all aggregate body) c.reserve-3.ensures.entries
    ∙ insert_entry-new nat_eq c.self.inside.bodies aggregate body none))
    (subst (λ (all : List (ℕ × AggregateLayout)). IsKept rows markings (bodies ++ (aggregate, body) ∷ []) all c.keep-2.new.self.chains.items c.keep-2.new.self.kept.entries)
    (sym (c.keep.ensures ∙ ap (λ all. insert_entry nat_eq all aggregate layout) c.reserve.ensures.same))
    (subst (λ (all : List Chain). IsKept rows markings (bodies ++ (aggregate, body) ∷ []) grown all c.keep-2.new.self.kept.entries) (sym c.keep-2.ensures.chains)
    (subst (IsKept rows markings (bodies ++ (aggregate, body) ∷ []) grown more)
    (sym (c.keep-2.ensures.kept ∙ ap (λ all. insert_entry nat_eq all aggregate standing) (ap (λ map. map.entries) c.enter.ensures.kept ∙ c.reserve-2.ensures.same)))
    (kept-body rows markings bodies layouts grown chains kept more entered aggregate body c.self.invariant (subst (λ table. IsBodyOver (types_in table) body) (sym c.self.view_is) c.requires.known)
    (told_kept-push types bodies layouts aggregate body layout layouts_right none c.in_ok-layout.ensures.structure c.in_ok-layout.ensures.union)
    (narrow-push types bodies layouts aggregate body layout c.self.invariant.layouts_narrow c.in_ok-layout.ensures.narrow)
    (maps-push types (told_kept layouts) (told_kept grown) (layouts-stay types bodies layouts aggregate body layout layouts_right none) more kept right.maps aggregate standing named.stands
    (now-told types bodies layouts aggregate body layout layouts_right none))
    (alike-push types bodies layouts aggregate body layout layouts_right none chains more kept standing maps right.grow right.maps c.self.invariant.members_right named.named)))))

pub returns-clause-told : goal.returns-clause-told
returns-clause-told c =
    let bodies = c.self.inside.bodies.entries in
    let none : lookup (nat_eq c.args.aggregate) bodies ≡ None = ap (λ table. lookup (nat_eq c.args.aggregate) table.bodies) c.self.view_is ∙ c.requires.untold in
    let grown : c.insert.new.self.entries ≡ bodies ++ (c.args.aggregate, c.args.body) ∷ [] =
    OnOk-is c.insert.result c.unwrap.result c.unwrap.ensures c.insert.ensures.entries ∙ ap (λ all. insert_entry nat_eq all c.args.aggregate c.args.body) c.reserve-3.ensures.entries
    ∙ insert_entry-new nat_eq c.self.inside.bodies c.args.aggregate c.args.body none
    in
    (λ i. record { rows = c.self.inside.maker.rows.rows.entries; bodies = grown i; names = c.self.inside.names.entries })
    ∙ ap (λ table. record { rows = table.rows; bodies = table.bodies ++ (c.args.aggregate, c.args.body) ∷ []; names = table.names }) c.self.view_is

pub returns-clause-layouts : goal.returns-clause-layouts
returns-clause-layouts c = ap told_in (returns-clause-told c) ∙ told_of_bodies-push (types_in c.args.self.now) c.args.self.now.bodies c.args.aggregate c.args.body

pub returns-clause-members : goal.returns-clause-members
returns-clause-members c = ap names_in (returns-clause-told c) ∙ names_of_bodies-push (types_in c.args.self.now) c.args.self.now.bodies c.args.aggregate c.args.body
