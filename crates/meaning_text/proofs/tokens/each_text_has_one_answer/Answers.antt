use Rattle.meaning_text.proofs.Lexing.{tokens_exist, tokens_are_unique, faults_exist, faults_are_unique, each_text_has_one_answer}
use Rattle.meaning_text.proofs.tokens.each_text_has_one_answer.Goals as goal

pub returns-clause-tokens : goal.returns-clause-tokens
returns-clause-tokens c = tokens_exist

pub returns-clause-no_other_tokens : goal.returns-clause-no_other_tokens
returns-clause-no_other_tokens c = tokens_are_unique

pub returns-clause-fault : goal.returns-clause-fault
returns-clause-fault c = faults_exist

pub returns-clause-no_other_fault : goal.returns-clause-no_other_fault
returns-clause-no_other_fault c = faults_are_unique

pub returns-clause-one_answer : goal.returns-clause-one_answer
returns-clause-one_answer c = each_text_has_one_answer
