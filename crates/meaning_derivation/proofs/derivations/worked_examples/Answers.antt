-- Each example computes.
use Rattle.std.proofs.Common.{ℕ, refl}
use Rattle.meaning_text.specs.Punctuators.{plain_punctuators, digraphs, punctuators, punctuator_of}
use Rattle.meaning_text.specs.Kinds.{kind_in}
use Rattle.meaning_text.specs.Fronts.{front_of}
use Rattle.meaning_derivation.proofs.derivations.worked_examples.Goals as goal

-- names what an example opens
opened : ℕ
unfolding plain_punctuators digraphs punctuators punctuator_of kind_in front_of
opened = 0

pub returns-clause-trees : goal.returns-clause-trees
unfolding opened
returns-clause-trees c = record {
  empty = refl;
  declaration = refl;
  typedef_name = refl;
  external = refl;
  function = refl;
  declarator = refl;
}

pub returns-clause-bodies : goal.returns-clause-bodies
unfolding opened
returns-clause-bodies c = record {
  parameter = refl;
  redeclared = refl;
  hidden = refl;
  own = refl;
  other = refl;
  inner = refl;
  earlier = refl;
  hides = refl;
  own_scope = refl;
}

pub returns-clause-binds : goal.returns-clause-binds
unfolding opened
returns-clause-binds c = record {
  file = refl;
  block = refl;
  external = refl;
  functions = refl;
  one_external = refl;
  further = refl;
  further_block = refl;
  enumerator = refl;
  enumerators = refl;
  parameters = refl;
  nameless = refl;
}

pub returns-clause-hiding : goal.returns-clause-hiding
unfolding opened
returns-clause-hiding c = record {
  object = refl;
  typedef = refl;
  enumerator = refl;
  linked = refl;
  parameter = refl;
  hidden_enumerator = refl;
  blocks = refl;
  behind = refl;
  file = refl;
  again = refl;
  own_name = refl;
  nested_list = refl;
  own_prototype = refl;
  later_body = refl;
  tag = refl;
}

pub returns-clause-chains : goal.returns-clause-chains
unfolding opened
returns-clause-chains c = record {
  multiplied = refl;
  subtracted = refl;
  shifted = refl;
  ordered = refl;
  compared = refl;
  anded = refl;
  exclusive = refl;
  inclusive = refl;
  both = refl;
  either = refl;
}

pub returns-clause-refusals : goal.returns-clause-refusals
unfolding opened
returns-clause-refusals c = record {
  word = refl;
  action = refl;
  syntax = refl;
  limit = refl;
  no_limit = refl;
  action_at_limit = refl;
  syntax_behind_limit = refl;
  end = refl;
  behind_extension = refl;
  action_first = refl;
  word_first = refl;
  expected = refl;
  nested = refl;
}

pub returns-clause-sets : goal.returns-clause-sets
returns-clause-sets c = record {
  one = refl;
  two = refl;
  three = refl;
  four = refl;
}

pub returns-clause-specifiers : goal.returns-clause-specifiers
unfolding opened
returns-clause-specifiers c = record {
  taken = refl;
  syntax = refl;
  word = refl;
  none = refl;
  class_alone = refl;
  qualifier_alone = refl;
  function_alone = refl;
  attributes = refl;
  attributes_of_name = refl;
  typedefs = refl;
  typedef_and_word = refl;
  structure_and_word = refl;
  enumeration_and_word = refl;
  typeof_and_word = refl;
  classes = refl;
  class_twice = refl;
  automatic = refl;
  in_register = refl;
  block = refl;
  block_classes = refl;
}

pub returns-clause-places : goal.returns-clause-places
unfolding opened
returns-clause-places c = record {
  parameter = refl;
  automatic_parameter = refl;
  inline_parameter = refl;
  register_parameter = refl;
  typeless = refl;
  typeless_class = refl;
  without_tokens = refl;
  member = refl;
  register_member = refl;
  member_of_no_type = refl;
  qualifier_of_member = refl;
  type_name = refl;
  no_type_name = refl;
  named_type_name = refl;
  named_within = refl;
  nameless = refl;
}

pub returns-clause-functions : goal.returns-clause-functions
unfolding opened
returns-clause-functions c = record {
  object = refl;
  pointer = refl;
  array = refl;
  typedef = refl;
  by_typedef = refl;
  in_parentheses = refl;
  of_function = refl;
  pointer_to_function = refl;
  later = refl;
  behind_initializer = refl;
}

pub returns-clause-literals : goal.returns-clause-literals
unfolding opened
returns-clause-literals c = record {
  unsigned_long = refl;
  character = refl;
  string = refl;
  bad_digit = refl;
  bad_suffix = refl;
  too_large = refl;
  too_large_signed = refl;
  empty = refl;
  two_characters = refl;
  above_a_byte = refl;
  leftmost = refl;
  unsupported_first = refl;
  not_in_the_row = refl;
  floating = refl;
  universal = refl;
  literal_first = refl;
}

pub returns-clause-contexts : goal.returns-clause-contexts
unfolding opened
returns-clause-contexts c = record {
  alone = refl;
  with_words = refl;
  down = refl;
  up = refl;
  empty = refl;
  words_alone = refl;
  bad_number = refl;
  unended = refl;
  greatest = refl;
  too_great = refl;
  too_far_down = refl;
}

pub returns-clause-words : goal.returns-clause-words
unfolding opened
returns-clause-words c = record {
  whole = refl;
  typedef_name = refl;
  signs = refl;
  signed_words = refl;
  alone = refl;
  parameters = refl;
  members = refl;
  functions = refl;
  qualified = refl;
  second_class = refl;
}

pub returns-clause-tags : goal.returns-clause-tags
unfolding opened
returns-clause-tags c = record {
  one_type = refl;
  members_define = refl;
  alone = refl;
  union_alone = refl;
  qualified = refl;
  member = refl;
  enumeration = refl;
  again = refl;
  parameters = refl;
  prototype = refl;
  without_tags = refl;
}
