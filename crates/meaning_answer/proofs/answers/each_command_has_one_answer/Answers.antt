use Rattle.meaning_answer.proofs.Existence.{answers_exist}
use Rattle.meaning_answer.proofs.Replies.{answers_are_unique, plain_answers_are_right}
use Rattle.meaning_answer.proofs.ShapesOfReplies.{answers_are_shaped, answers_tell_faults}
use Rattle.meaning_answer.proofs.answers.each_command_has_one_answer.Goals as goal

pub returns-clause-exist : goal.returns-clause-exist
returns-clause-exist c = answers_exist

pub returns-clause-unique : goal.returns-clause-unique
returns-clause-unique c = answers_are_unique

pub returns-clause-plain : goal.returns-clause-plain
returns-clause-plain c = plain_answers_are_right

pub returns-clause-shaped : goal.returns-clause-shaped
returns-clause-shaped c = answers_are_shaped

pub returns-clause-faults : goal.returns-clause-faults
returns-clause-faults c = answers_tell_faults
