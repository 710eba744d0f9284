use Rattle.meaning_paths.proofs.RuleLemmas.{equal_answers, one_answer}
use Rattle.meaning_paths.proofs.paths.sets_of_paths_have_one_answer.Goals as goal

pub returns-clause-one : goal.returns-clause-one
returns-clause-one g c = one_answer g.P.PathSet.is_path

pub returns-clause-equal : goal.returns-clause-equal
returns-clause-equal g c = equal_answers g.P.PathSet.is_path g.Q.PathSet.is_path
