-- The four laws are lemmas over plain lists.
use Rattle.meaning_syntax.proofs.Derivations.{read_units_derive, derived_trees_are_those, derived_trees_are_unique, derived_trees_are_in_first_form}
use Rattle.meaning_syntax.proofs.form.each_token_list_derives_at_most_one_tree.Goals as goal

pub returns-clause-read : goal.returns-clause-read
returns-clause-read c = read_units_derive

pub returns-clause-those : goal.returns-clause-those
returns-clause-those c = derived_trees_are_those

pub returns-clause-unique : goal.returns-clause-unique
returns-clause-unique c = derived_trees_are_unique

pub returns-clause-in_form : goal.returns-clause-in_form
returns-clause-in_form c = derived_trees_are_in_first_form
