use Rattle.meaning_rules.proofs.Least.{least_stands_first, least_token_is_first}
use Rattle.meaning_rules.proofs.rules.the_least_is_told.Goals as goal

pub returns-clause-broken : goal.returns-clause-broken
returns-clause-broken c = least_stands_first

pub returns-clause-passed : goal.returns-clause-passed
returns-clause-passed c = least_token_is_first
