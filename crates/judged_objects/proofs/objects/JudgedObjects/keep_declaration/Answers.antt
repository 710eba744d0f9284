-- By whether it has linkage, and whether it is a typedef.
use Rattle.std.proofs.Common.{◌≡◌, ℕ, ◌&&◌, Some, if◌then◌else◌}
use Rattle.std.proofs.lemmas.Result.{IfOk-weaker}
use Rattle.sparse_model.specs.declared.ids.NameId.{NameId}
use Rattle.indexmap.specs.IndexMap.{get}
use Rattle.decl_judge.specs.Units.{nodes_of}
use Rattle.node_surroundings.specs.Seen.{surrounding_seen}
use Rattle.judged_objects.specs.Kept.{linked_with, same_handle, same_name}
use Rattle.judged_objects.specs.Notes.{says_something}
use Rattle.judged_objects.proofs.KeptLemmas.{kept_alone, kept_linked, kept_typedef}
use Rattle.judged_objects.proofs.objects.JudgedObjects.keep_declaration.Goals as goal

pub returns-then-declaration : goal.returns-then-declaration
returns-then-declaration c =
    let old = c.args.self.now in
    let linked = get same_name old.linked in
    let unlinked = get same_handle old.unlinked in
    let later = get same_name c.keep_linked.new.linked in
    let handle = c.args.handle in
    let name = c.args.declaration.name in
    let note = c.in_ok-note.note in
    IfOk-weaker c.keep_linked.result
    (λ _. (other : NameId) → later other ≡ (if same_name name other then Some (linked_with (linked name) handle note) else linked other)) _
    (λ _ updates table surroundings known here within stood kept.
    kept_linked (nodes_of c.args.unit.now) surroundings known table c.args.declaration handle (surrounding_seen c.args.surrounding) linked unlinked here within stood kept
    later note c.if-declaration.true c.in_ok-note.ensures updates)
    c.keep_linked.ensures

pub returns-then-declaration-2 : goal.returns-then-declaration-2
returns-then-declaration-2 c = λ table surroundings known here within stood kept.
    let old = c.args.self.now in
    kept_typedef (nodes_of c.args.unit.now) surroundings known table c.args.declaration c.args.handle (surrounding_seen c.args.surrounding)
    (get same_name old.linked) (get same_handle old.unlinked) here within stood kept c.if-declaration.false c.if-declaration-2.true

pub returns : goal.returns
returns c =
    let old = c.args.self.now in
    let linked = get same_name old.linked in
    let unlinked = get same_handle old.unlinked in
    let alone = get same_handle c.keep_unlinked.new.unlinked in
    let handle = c.args.handle in
    let note = c.in_ok-note-2.note in
    IfOk-weaker c.keep_unlinked.result
    (λ _. (other : ℕ) → alone other ≡ (if same_handle handle other && says_something note then Some note else unlinked other)) _
    (λ _ updates table surroundings known here within stood kept.
    kept_alone (nodes_of c.args.unit.now) surroundings known table c.args.declaration handle (surrounding_seen c.args.surrounding) linked unlinked here within stood kept
    alone note c.if-declaration.false c.if-declaration-2.false c.in_ok-note-2.ensures updates)
    c.keep_unlinked.ensures
