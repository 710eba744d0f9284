-- What a call says of the loads that it makes.
use Rattle.std.specs.Prelude.{List, Option, IfSome}
use Rattle.meaning_outside.specs.Files.{FileMap}
use Rattle.meaning_outside.specs.Loads.{Loaded, AgreesWith, EachPathIsLoadedOnce, loads_since, LoadsStay}

-- What was loaded before stays, no path is loaded twice, and a map that the files tell agrees with each load.
pub record Loading (holds : Option FileMap) (before now : List Loaded) : Type 0 where
  pub stay : LoadsStay before now
  pub once : EachPathIsLoadedOnce (loads_since before now)
  pub told : IfSome holds (λ files. AgreesWith files (loads_since before now))
