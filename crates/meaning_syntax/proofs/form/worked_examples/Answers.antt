-- Each example computes.
use Rattle.std.proofs.Common.{ℕ, refl}
use Rattle.meaning_syntax.specs.Words.{is_keyword, is_reserved, is_predefined_macro, is_name, is_space_number, is_space_name, is_space_id}
use Rattle.meaning_syntax.specs.plain.Reading.{read_up_to, read_many, read_noderef, read_space, read_word, read_further_word, read_word_list, read_attribute, read_stars, read_object, read_assignment, read_assignment_through, read_address_assignment, read_statement, read_opening, read_function, read_item, read_items, read_unit}
use Rattle.meaning_syntax.proofs.form.worked_examples.Goals as goal

-- names what an example opens, each reader and each test of a word
opened : ℕ
unfolding is_keyword is_reserved is_predefined_macro is_name is_space_number is_space_name is_space_id read_up_to read_many read_noderef read_space read_word read_further_word read_word_list read_attribute read_stars read_object read_assignment read_assignment_through read_address_assignment read_statement read_opening read_function read_item read_items read_unit
opened = 0

pub returns-clause-read : goal.returns-clause-read
unfolding opened
returns-clause-read c = record {
  by_spaces = refl;
  each_part = refl;
  three_stars = refl;
  one_underscore = refl;
  no_statement = refl;
  through_pointer = refl;
  address = refl;
  each_statement = refl;
}

pub returns-clause-misspelled : goal.returns-clause-misspelled
unfolding opened
returns-clause-misspelled c = record {
  no_keyword_is_a_name = refl;
  four_stars = (refl, refl);
  keyword_as_name = (refl, refl);
  character_as_name = (refl, refl);
  string_as_name = (refl, refl);
  universal_name = (refl, refl);
  universal_name_behind_a_letter = (refl, refl);
  two_underscores = (refl, refl);
  reserved_name = (refl, refl);
  typeof_name = (refl, refl);
  pragma_name = (refl, refl);
  empty_attribute = (refl, refl);
  comma_at_end = (refl, refl);
  no_end = (refl, refl);
  through_two_stars = (refl, refl);
  address_through_pointer = (refl, refl);
  address_as_target = (refl, refl);
  star_at_source = (refl, refl);
}

pub returns-clause-unbound : goal.returns-clause-unbound
unfolding opened
returns-clause-unbound c = record {
  declared_twice = (refl, refl);
  object_and_function = (refl, refl);
  function_and_object = (refl, refl);
  function_twice = (refl, refl);
  used_before_declared = (refl, refl);
  function_assigned = (refl, refl);
  unequal_stars = (refl, refl);
  fewer_stars_at_source = (refl, refl);
  through_number = (refl, refl);
  through_two_stars_more = (refl, refl);
  through_function = (refl, refl);
  address_of_equal_stars = (refl, refl);
  address_in_number = (refl, refl);
  address_of_function = (refl, refl);
}

pub returns-clause-spaces : goal.returns-clause-spaces
unfolding opened
returns-clause-spaces c = record {
  one = refl;
  largest = refl;
  asm_word = refl;
  universal_name = (refl, refl);
  character = (refl, refl);
  zero = (refl, refl);
  leading_zero = (refl, refl);
  too_large = (refl, refl);
  keyword = (refl, refl);
  no_keyword = refl;
  predefined_macro = (refl, refl);
  no_predefined_macro = refl;
  digits_and_letters = (refl, refl);
}

pub returns-clause-trees : goal.returns-clause-trees
returns-clause-trees c = record {
  empty = refl;
  whole = refl;
  numbered_space = refl;
  through = refl;
  address = refl;
  two_stars = refl;
  word_behind_space = refl;
  statements = refl;
}
