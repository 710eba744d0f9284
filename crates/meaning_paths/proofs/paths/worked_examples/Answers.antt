-- The walks of the examples.
use Rattle.std.proofs.Common.{pos, false, [], refl, inl, inr, arith}
use Rattle.std.proofs.lemmas.Int.{ints}
use Rattle.meaning_paths.specs.Walks.{begins, passes, turns}
use Rattle.meaning_paths.proofs.ExampleLemmas.{no_turn_leaves_out_a_step}
use Rattle.meaning_paths.proofs.paths.worked_examples.Goals as goal

pub returns-clause-loops : goal.returns-clause-loops
returns-clause-loops c = record {
  path = (0, [], passes (passes (turns (passes (passes (begins refl))) (inl refl) refl)));
  counted = refl;
  whole = no_turn_leaves_out_a_step;
  differs = (false, pos 0, pos 1, ([], (0, _, passes (begins refl)), refl), (_, (0, _, passes (turns (passes (passes (begins refl))) (inl refl) refl)), refl), λ equal. cc);
  again = (1, _, passes (turns (passes (passes (passes (passes (turns (passes (turns (passes (begins refl)) (inl refl) refl)) (inl refl) refl))))) (inl refl) refl));
  as_before = refl;
  leaves = (_, (3, [], passes (passes (turns (passes (turns (passes (begins refl)) (inl refl) refl)) (inr (inl refl)) refl))), refl);
}

pub returns-clause-joins : goal.returns-clause-joins
returns-clause-joins c = record {
  differs = (
    false,
    pos 0,
    pos 1,
    (_, (2, _, passes (turns (passes (begins refl)) (inr (inl refl)) refl)), refl),
    (_, (2, _, passes (turns (passes (passes (turns (passes (begins refl)) (inl refl) refl))) (inl refl) refl)), refl),
    λ equal. cc,
  );
  wrong = ((_, (2, [], passes (passes (turns (passes (passes (turns (passes (begins refl)) (inl refl) refl))) (inl refl) refl))), refl), λ equal. cc);
}

pub returns-clause-calls : goal.returns-clause-calls
returns-clause-calls c = record { counted = refl; meets_too_few = (refl, inl (omega (arith, ints))); leaves_too_few = (refl, inr (omega (arith, ints))) }
