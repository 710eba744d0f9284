-- Each example computes.
use Rattle.std.proofs.Common.{refl}
use Rattle.meaning_grammar.proofs.examples.worked_examples.Goals as goal

pub returns-clause-choices : goal.returns-clause-choices
returns-clause-choices c = record {
  cast = refl;
  no_cast = refl;
  size_of_type = refl;
  size_of_expression = refl;
  labels = (refl, refl);
  declared = (refl, refl);
  evaluated = refl;
  label_of_statement = (refl, refl);
  expression_statement = refl;
  suffixes = refl;
  parenthesized = refl;
  parameters = (refl, refl, refl, refl);
  ellipsis = refl;
  empty_lists = (refl, refl, refl, refl, refl);
  array_sizes = (refl, refl, refl);
  else_belongs_to_the_nearest_if = (refl, refl);
  balanced = (refl, refl, refl);
  unsupported_string_ends_a_row = (refl, refl);
  end_of_unit = (refl, refl);
}

pub returns-clause-plain : goal.returns-clause-plain
returns-clause-plain c = record { initializer = refl; additive = refl; case_ = refl; for_ = refl }

pub returns-clause-words : goal.returns-clause-words
returns-clause-words c = record {
  once = refl;
  keywords = refl;
  reserved = refl;
  gnu_words = refl;
  before = refl;
  around = refl;
  assembly = refl;
  refused_words = refl;
  plain_names = refl;
}

pub returns-clause-terminals : goal.returns-clause-terminals
returns-clause-terminals c = record { extension = refl; literals = refl; others = refl }
