-- What holds of loads.
use Rattle.std.specs.Prelude.{List}
use Rattle.meaning_outside.specs.Files.{FileMap}
use Rattle.meaning_outside.specs.Loads.{Loaded, AgreesWith, EachPathIsLoadedOnce}

-- Where no path is loaded twice, whatever the loads gave, some map agrees with all of them.
abbrev pub LoadsOfEachPathOnceAgree : Type 0
LoadsOfEachPathOnceAgree = (loads : List Loaded) → EachPathIsLoadedOnce loads → (files : FileMap) × AgreesWith files loads
