-- What is left comes in order, and from the back in reverse.
use Rattle.std.proofs.Common.{ℕ, ap, length}
use Rattle.std.proofs.iter.runs.Sources.{from_front, from_back, as_is, as_is_back}
use Rattle.std.specs.Map.Iter.{TakesFirst, TakesLast}
use Rattle.tag_list.proofs.list.TagList.iter.Goals as goal

pub returns-clause-runs : goal.returns-clause-runs
returns-clause-runs c = λ p seen. as_is p p.from (from_front (TakesFirst {X = ℕ × ℕ} (λ x. x)) (λ x. x) (λ s. s) (λ s t h. ap length h.0) (λ s x t h. h) p seen)

pub returns-clause-runs_back : goal.returns-clause-runs_back
returns-clause-runs_back c = λ p seen. as_is_back p p.from (from_back (TakesLast {X = ℕ × ℕ} (λ x. x)) (λ x. x) (λ s. s) (λ s t h. ap length h.0) (λ s x t h. h) p seen)
