-- What an item may mean.
use Rattle.meaning_attributes.specs.Attributes.{Attribute}

-- which arguments are bad
pub data Bad : Type 0 where
  BadSpace : Bad
  BadContext : Bad
  BadAlign : Bad

-- the meaning of an item, or what is bad in it
pub data Meaning : Type 0 where
  Means : Attribute → Meaning
  MeansNothing : Meaning
  IsBad : Bad → Meaning
  -- its form is that of a context, and a number in it is beyond the limit of a step
  PassesLimit : Meaning
