use Rattle.std.proofs.Common.{◌+◌, ◌++◌, [], ◌∷◌, map, take, sym, ap, ◌∙◌}
use Rattle.std.proofs.lemmas.List.{append-nil, map-append}
use Rattle.c_scope.specs.declared.slot.Slot.TheVariants.{Mark, Name}
use Rattle.c_scope.specs.Seen.{entry_of}
use Rattle.c_scope.specs.Slots.{entries_in}
use Rattle.c_scope.proofs.StackLemmas.{entries_in-more}
use Rattle.c_scope.proofs.slot.bindings_of.Goals as goal
use Rattle.c_scope.proofs.slot.bindings_of.Goals.{in-Name+in_ok-push, in_default}

pub loop-slot-preserved : goal.loop-slot-preserved
loop-slot-preserved c = elim c.match-slot.branch [
  | in-Name+in_ok-push w ↦
      ap (λ bindings. map entry_of bindings.items) w.bindings-is
      ∙ ap (map entry_of) w.in_ok-push.ensures.items
      ∙ map-append entry_of c.loop-slot.bindings.items (w.in-Name.binding ∷ [])
      ∙ ap (λ entries. entries ++ entry_of w.in-Name.binding ∷ []) c.loop-slot.invariant
      ∙ sym (entries_in-more c.args.slots.now c.loop-slot.slot-index (Mark 0) (Name w.in-Name.binding w.in-Name.field-1) c.loop-slot-test.true w.in-Name.is)
  | in_default w ↦
      ap (λ bindings. map entry_of bindings.items) w.bindings-is
      ∙ c.loop-slot.invariant
      ∙ sym (append-nil (entries_in (take c.loop-slot.slot-index c.args.slots.now)))
      ∙ sym (entries_in-more c.args.slots.now c.loop-slot.slot-index (Mark 0) (Mark w.in_default.field-0) c.loop-slot-test.true w.in_default.is)
]
