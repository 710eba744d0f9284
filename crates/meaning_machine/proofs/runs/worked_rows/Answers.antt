-- Each example computes, or its premise does.
use Rattle.std.proofs.Common.{◌≡◌, zero, suc, true, false, [], ◌∷◌, refl, sym, ap, ◌∙◌, arith}
use Rattle.std.proofs.lemmas.Bool.{false≢true, leb-true}
use Rattle.std.specs.Int.Signed.{le_z_yes}
use Rattle.std.proofs.lemmas.Option.{none-some, same_Some}
use Rattle.meaning_machine.specs.Values.{Block}
use Rattle.meaning_machine.specs.Memory.{is_read_only}
use Rattle.meaning_machine.specs.laws.Soundness.{Last}
use Rattle.meaning_machine.specs.examples.Rows.{int_block}
use Rattle.meaning_machine.specs.examples.Runs.{plain_int, const_int, indeterminate_block}
use Rattle.meaning_machine.proofs.runs.worked_rows.Goals as goal

-- of lists of one block, the second outlasts the first
one_stays :
    (block later : Block) → later.made ≡ block.made → (block.is_alive ≡ false → later.is_alive ≡ false) → Last (block ∷ []) (later ∷ [])
one_stays block later made dead zero one there =
    (later, refl, made ∙ ap (λ b. b.made) (same_Some _ _ there), λ is. dead (ap (λ b. b.is_alive) (same_Some _ _ there) ∙ is))
one_stays block later made dead (suc number) one there = absurd (none-some _ there)

pub returns-clause-rows : goal.returns-clause-rows
returns-clause-rows c = record {
  opening_blocks = refl;
  loaded = refl;
  const_loaded = refl;
  foreign_loaded = refl;
  dead_loaded = refl;
  loaded_behind_the_end = refl;
  dead_loaded_behind_the_end = refl;
  loaded_as_pointer = refl;
  noderef_null_loaded = refl;
  space_null_loaded = refl;
  function_loaded = refl;
  no_block_loaded = refl;
  stored = refl;
  indeterminate_stored = refl;
  dead_stored = refl;
  stored_behind_the_end = refl;
  const_stored = refl;
  dead_stored_behind_the_end = refl;
  const_stored_behind_the_end = refl;
  no_block_stored = refl;
  zero_adopted = refl;
  one_adopted = refl;
  negative_adopted = refl;
  pointer_adopted_by_int = refl;
  null_adopted_by_bool = refl;
  pointers_adopted_by_bool = refl;
  other_kind_adopted = refl;
  wider_adopted = refl;
  adopted_by_bool = refl;
  restricted_adopted = refl;
  restricted_zero_adopted = refl;
  restricted_fouled_adopted = refl;
  restricted_adopted_by_pointer = refl;
  fouled_adopted = refl;
  flags_lost = refl;
  deeper_flags_lost = refl;
  other_target_adopted = refl;
  other_flagged_target_adopted = refl;
}

pub returns-clause-cells : goal.returns-clause-cells
returns-clause-cells c = record { found = refl; none = refl; written = refl; nowhere = refl; rest_kept = refl }

pub returns-clause-fits : goal.returns-clause-fits
returns-clause-fits c = record {
  least_fits = (refl, refl, refl, (le_z_yes tt, le_z_yes tt));
  greatest_fits = (refl, refl, refl, (le_z_yes tt, le_z_yes tt));
  one_less = λ fits. grind arith;
  one_more = λ fits. grind arith;
  null = (refl, tt);
  foreign = (refl, tt);
  behind = (refl, (int_block plain_int true 3, refl, (plain_int, refl, refl, refl, refl), leb-true _ _ refl));
  further = λ fits. omega (arith, fits.1.3);
  into_dead = (refl, (int_block plain_int false 3, refl, (plain_int, refl, refl, refl, refl), leb-true _ _ refl));
  no_block = λ fits. none-some _ fits.1.1;
  function = λ fits. grind arith;
  two_elements = λ fits. omega (arith, fits.1.2.3);
  part = λ fits. cc (fits.1.2.2);
  const_target = (refl, (int_block plain_int true 3, refl, (plain_int, refl, refl, refl, refl), omega arith));
  other_flags = λ fits. grind arith;
  other_block = λ fits. grind arith;
  other_kind = λ fits. cc (fits.0);
  restricted = λ fits. cc (fits.1);
  fouled = λ fits. cc (fits.2);
  written = (plain_int, _, refl, refl, refl, (refl, refl, refl, (le_z_yes tt, le_z_yes tt)));
  const_written = (const_int, _, refl, refl, refl, (refl, refl, refl, (le_z_yes tt, le_z_yes tt)));
  indeterminate_written = (plain_int, _, refl, refl, refl, (refl, refl, refl, (le_z_yes tt, le_z_yes tt)));
  indeterminate_moved = λ unit.
      (indeterminate_block, refl, (plain_int, _, refl, refl, refl, (refl, refl, refl, (le_z_yes tt, le_z_yes tt))), refl);
  dead_written = λ is. false≢true is.3;
  no_cell = λ is. none-some _ is.4;
}

pub returns-clause-last : goal.returns-clause-last
returns-clause-last c = record {
  written = one_stays _ _ refl (λ dead. dead);
  killed = one_stays _ _ refl (λ dead. refl);
  more = λ number block there. absurd (none-some _ there);
  lives_again = λ last. false≢true (sym ((last 0 _ refl).3 refl) ∙ ap (λ b. b.is_alive) (sym (same_Some _ _ (last 0 _ refl).1)));
  made_for_another = λ last. false≢true (sym (ap (λ b. is_read_only b.made) (same_Some _ _ (last 0 _ refl).1) ∙ ap is_read_only (last 0 _ refl).2));
  gone = λ last. none-some _ (last 0 _ refl).1;
}

pub returns-clause-steps : goal.returns-clause-steps
returns-clause-steps c = record {
  empty_body = λ scope blocks. refl;
  last_statement = λ scope. refl;
  left = λ scope blocks. refl;
  finished = λ scope blocks. refl;
  object_entered = λ blocks. refl;
  first_entered = λ blocks. refl;
  function_entered = λ blocks. refl;
  unknown_entered = λ blocks. refl;
  null_moved = λ scope blocks. refl;
  number_moved = λ scope blocks. refl;
  null_loaded = λ scope blocks. refl;
  noderef_stored = λ scope blocks. refl;
  space_stored = λ scope blocks. refl;
  assignment_valued = λ scope. refl;
}
