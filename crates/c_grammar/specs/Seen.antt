-- How the definitions see the two classes at which a row is chosen.
use Rattle.std.specs.Prelude.{List, slice_index_or}
use Rattle.vocabulary.specs.declared.token_class.TokenClass.{TokenClass}
use Rattle.vocabulary.specs.declared.token_class.TokenClass.TheVariants.{End}

-- the class of the token that comes next
abbrev pub next_of : List TokenClass → TokenClass
next_of look = slice_index_or look 0 End

-- the class of the one behind it
abbrev pub behind_of : List TokenClass → TokenClass
behind_of look = slice_index_or look 1 End
