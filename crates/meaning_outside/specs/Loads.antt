-- What loads gave, and the maps of files that agree with it.
use Rattle.std.specs.Prelude.{◌≡◌, ◌≢◌, ◌<◌, ℕ, List, [], ◌∷◌, ◌++◌, length, drop, Option, Some, None, IsSomeAnd}
use Rattle.meaning_outside.specs.Files.{FileMap, file_at}

-- what a load gave
pub data Given : Type 0 where
  -- the file, which has these bytes
  Whole : (bytes : List ℕ) → Given
  -- there is no such file
  Missing : Given
  -- the file has more bytes than were asked for
  TooLong : Given
  -- the outside failed, which says nothing of the file
  Failed : Given
  -- memory was wanting, which says nothing either
  NoMemory : Given

-- A load: the path, the most bytes that were asked for, and what it gave.
pub record Loaded : Type 0 where
  pub path : List ℕ
  pub most : ℕ
  pub given : Given

-- where this is found, a load that asked for so many bytes at most may give that
abbrev pub MayGive : Option (List ℕ) → (most : ℕ) → Given → Type 0
MayGive found most (Whole bytes) = found ≡ Some bytes
MayGive found most Missing = found ≡ None
MayGive found most TooLong = IsSomeAnd found (λ bytes. most < length bytes)
MayGive found most Failed = Unit {0}
MayGive found most NoMemory = Unit {0}

-- the map agrees with a load
abbrev pub AgreesWithLoad : FileMap → Loaded → Type 0
AgreesWithLoad files load = MayGive (file_at files load.path) load.most load.given

-- the map agrees with each of the loads
abbrev pub AgreesWith : FileMap → List Loaded → Type 0
AgreesWith files [] = Unit {0}
AgreesWith files (load ∷ loads) = AgreesWithLoad files load × AgreesWith files loads

-- none of the loads is of this path
abbrev pub NoneIsOf : (path : List ℕ) → List Loaded → Type 0
NoneIsOf path [] = Unit {0}
NoneIsOf path (load ∷ loads) = (load.path ≢ path) × NoneIsOf path loads

-- no path is loaded twice
abbrev pub EachPathIsLoadedOnce : List Loaded → Type 0
EachPathIsLoadedOnce [] = Unit {0}
EachPathIsLoadedOnce (load ∷ loads) = NoneIsOf load.path loads × EachPathIsLoadedOnce loads

-- The loads of a call. There were those before it, and there are these now: what was loaded stays.
abbrev pub loads_since : (before now : List Loaded) → List Loaded
loads_since before now = drop (length before) now

-- what was loaded stays, and what is loaded comes behind it
abbrev pub LoadsStay : (before now : List Loaded) → Type 0
LoadsStay before now = now ≡ before ++ loads_since before now
