use Rattle.meaning_scopes.proofs.Finding.{find_from-first, find-innermost, same_space-Decides}
use Rattle.std.proofs.Common.{true}
use Rattle.meaning_scopes.proofs.scopes.names_are_found.Goals as goal

pub returns-clause-first : goal.returns-clause-first
returns-clause-first g c = λ same items space name. find_from-first same true items space name

pub returns-clause-innermost : goal.returns-clause-innermost
returns-clause-innermost g c = λ same items space name. find-innermost same items space name

pub returns-clause-spaces : goal.returns-clause-spaces
returns-clause-spaces g c = same_space-Decides
