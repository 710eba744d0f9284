-- A log of added files as the map that it stands for.
use Rattle.std.specs.Prelude.{ℕ, List, map}
use Rattle.std.specs.FinMap.{from_entries, code}
use Rattle.std.specs.Coded.{Coded, coded_ℕ, coded_list}
use Rattle.meaning_outside.specs.Files.{FileMap}
use Rattle.sparse_outside.specs.declared.log.File.{File}

-- the code of a map of files
abbrev pub file_map_code : Coded FileMap
file_map_code = code (coded_list coded_ℕ) (coded_list coded_ℕ)

-- a file as its path and its bytes
abbrev pub entry_of : File → List ℕ × List ℕ
entry_of file = (file.path.items, file.bytes.items)

-- the map of files of which the first ones were added last
abbrev pub file_map : List File → FileMap
file_map files = from_entries (map entry_of files)
