-- The examples compute, once the digits of numbers and the tests of words unfold.
use Rattle.std.proofs.Common.{ℕ, refl}
use Rattle.std.specs.Fmt.{digits}
use Rattle.meaning_text.specs.Punctuators.{punctuator_of, punctuators, plain_punctuators, digraphs}
use Rattle.meaning_text.specs.Kinds.{kind_in}
use Rattle.meaning_text.specs.Fronts.{front_of}
use Rattle.meaning_macros.specs.Expansion.{within, expansion}
use Rattle.meaning_preprocessing.specs.Unit.{reader}
use Rattle.meaning_answer.proofs.answers.worked_examples.Goals as goal

-- names what an example opens
opened : ℕ
unfolding digits front_of punctuator_of punctuators plain_punctuators digraphs kind_in within expansion reader
opened = 0

pub returns-clause-answers : goal.returns-clause-answers
unfolding opened
returns-clause-answers c = record {
  statuses = refl;
  empty = refl;
  definition = refl;
  declaration = refl;
  open_comment = refl;
  open_literal = refl;
  prefixed = refl;
  opening_first = refl;
  directive_first = refl;
  comments = refl;
  declared_twice = refl;
  missing = refl;
  no_header = refl;
  header_error = refl;
  no_word = λ files. refl;
  option = λ files. refl;
  command = λ files. refl;
  generator = λ files. refl;
  second_file = λ files. refl;
  space_lost = refl;
  lost_in_a_macro = refl;
  lost_in_a_header = refl;
  undefined_off = refl;
  undefined_on = refl;
  undefined_first = refl;
  classes_off = refl;
}

pub returns-clause-judged : goal.returns-clause-judged
unfolding opened
returns-clause-judged c = record {
  device_read = refl;
  bitwise_off = refl;
  silent = refl;
  tagged = refl;
  undeclared_off = refl;
  undeclared_on = refl;
  null_alone = refl;
  both = refl;
  neither = refl;
  truncated = refl;
  several_classes = refl;
  undefined_first = refl;
  negative = refl;
  no_member = refl;
  least = refl;
  in_header = refl;
  too_large = refl;
  behind_constraint = refl;
  no_context = refl;
  context = refl;
  context_statement = refl;
  context_behind_constraint = refl;
  context_behind_limit = refl;
}

pub returns-clause-parsing : goal.returns-clause-parsing
unfolding opened
returns-clause-parsing c = record {
  unexpected = refl;
  from_a_macro = refl;
  in_a_header = refl;
  digraph = refl;
  last_token = refl;
  end_of_file = refl;
  behind_extension = refl;
  undeclared = refl;
  redeclared = refl;
  unsupported = refl;
  behind_preprocessing = refl;
  before_the_form = refl;
  limit = refl;
  too_few = refl;
}

pub returns-clause-expanded : goal.returns-clause-expanded
unfolding opened
returns-clause-expanded c = record {
  empty = refl;
  one_line = refl;
  lines = refl;
  call = refl;
  joined = refl;
  refused = refl;
  any_tokens = refl;
}

pub returns-clause-requests : goal.returns-clause-requests
unfolding opened
returns-clause-requests c = record {
  file = refl;
  empty_word = refl;
  hyphen_alone = refl;
  hyphen_inside = refl;
  commands = refl;
  longer_than_a_command = refl;
  later_command = refl;
  any_order = refl;
  first_bad_word = refl;
  second_operand = refl;
  no_operand = refl;
  directories = refl;
  definitions = refl;
  universal_name = refl;
  bad_options = refl;
  bad_classes = refl;
  class_on = refl;
  class_off = refl;
  later_class = refl;
}
