-- Worked examples: counts of faults before and after a call, files by their paths, and what loads of them gave.
use Rattle.std.specs.Prelude.{◌≡◌, ℕ, ◌-◌, ◌^◌, List, [], ◌∷◌, codes, Some, None, ⊤}
use Rattle.std.specs.FinMap as map
use Rattle.meaning_outside.specs.Faults.{Rose, Told, ToldOfTwo}
use Rattle.meaning_outside.specs.Files.{FileMap, file_at}
use Rattle.meaning_outside.specs.Loads.{Given, Whole, Missing, TooLong, Failed, NoMemory, Loaded, AgreesWith, EachPathIsLoadedOnce, loads_since, LoadsStay}

-- the greatest count
abbrev pub end_of_counts : ℕ
end_of_counts = 2 ^ 64 - 1

pub record RisenExamples : Type 0 where
  pub by_one : Rose 0 1
  pub by_more : Rose 3 5
  pub to_the_end : Rose (end_of_counts - 1) end_of_counts
  -- a count at the end can't rise, and says nothing
  pub at_the_end : Rose end_of_counts end_of_counts
  pub not_standing : Rose 0 0 → ⊥
  pub not_standing_before_the_end : Rose (end_of_counts - 1) (end_of_counts - 1) → ⊥
  pub not_falling : Rose 2 1 → ⊥

-- A call fails (⊤), or it doesn't (⊥).
pub record ToldExamples : Type 0 where
  pub fault : Told 0 1 ⊤
  pub several_faults : Told 3 5 ⊤
  pub no_fault : Told 3 3 ⊥
  -- at the end either answer may come
  pub fault_at_the_end : Told end_of_counts end_of_counts ⊤
  pub no_fault_at_the_end : Told end_of_counts end_of_counts ⊥
  pub not_without_a_rise : Told 3 3 ⊤ → ⊥
  pub not_kept_back : Told 3 4 ⊥ → ⊥
  pub not_falling : Told 3 2 ⊥ → ⊥

-- the counts of `out` before and after the call, and then those of `err`
pub record TwoSinkExamples : Type 0 where
  pub out_alone : ToldOfTwo 0 1 7 7 ⊤
  pub err_alone : ToldOfTwo 7 7 0 1 ⊤
  pub both : ToldOfTwo 0 1 7 8 ⊤
  pub no_fault : ToldOfTwo 7 7 3 3 ⊥
  pub not_without_a_rise : ToldOfTwo 7 7 3 3 ⊤ → ⊥
  pub out_not_kept_back : ToldOfTwo 7 8 3 3 ⊥ → ⊥
  pub err_not_kept_back : ToldOfTwo 7 7 3 4 ⊥ → ⊥
  pub out_not_falling : ToldOfTwo 7 6 3 4 ⊤ → ⊥
  pub err_not_falling : ToldOfTwo 7 8 3 2 ⊤ → ⊥

-- `a.c` is empty, and `b.c` has one line
abbrev pub two_entries : List (List ℕ × List ℕ)
two_entries = (codes "a.c", []) ∷ (codes "b.c", codes "int x;\n") ∷ []

abbrev pub two_files : FileMap
two_files = map.from_entries two_entries

pub record FileExamples : Type 0 where
  pub empty_file : file_at two_files (codes "a.c") ≡ Some []
  pub other_file : file_at two_files (codes "b.c") ≡ Some (codes "int x;\n")
  -- paths are compared whole
  pub front_of_a_path : file_at two_files (codes "a") ≡ None
  pub longer_path : file_at two_files (codes "a.c.c") ≡ None
  pub empty_path : file_at two_files [] ≡ None

abbrev pub load_of : (path : List ℕ) (most : ℕ) → Given → Loaded
load_of path most given = record { path = path; most = most; given = given }

abbrev pub empty_load : Loaded
empty_load = load_of (codes "a.c") 100 (Whole [])

abbrev pub line_load : Loaded
line_load = load_of (codes "b.c") 7 (Whole (codes "int x;\n"))

pub record AgreementExamples : Type 0 where
  pub no_load : AgreesWith two_files []
  pub loads : AgreesWith two_files (empty_load ∷ line_load ∷ load_of (codes "c.c") 100 Missing ∷ [])
  -- the line has seven bytes
  pub too_long : AgreesWith two_files (load_of (codes "b.c") 6 TooLong ∷ [])
  pub not_too_long : AgreesWith two_files (load_of (codes "b.c") 7 TooLong ∷ []) → ⊥
  -- a fault and want of memory say nothing of the file
  pub nothing_said : AgreesWith two_files (load_of (codes "a.c") 0 Failed ∷ load_of (codes "c.c") 0 NoMemory ∷ [])
  pub other_bytes : AgreesWith two_files (load_of (codes "a.c") 100 (Whole (codes "x")) ∷ []) → ⊥
  pub not_missing : AgreesWith two_files (empty_load ∷ load_of (codes "b.c") 100 Missing ∷ []) → ⊥
  pub not_there : AgreesWith two_files (load_of (codes "c.c") 100 (Whole []) ∷ []) → ⊥
  -- no map agrees with two texts of one path
  pub two_texts : (files : FileMap) → AgreesWith files (empty_load ∷ load_of (codes "a.c") 100 (Whole (codes "x")) ∷ []) → ⊥
  pub each_once : EachPathIsLoadedOnce (empty_load ∷ line_load ∷ [])
  pub not_once : EachPathIsLoadedOnce (empty_load ∷ line_load ∷ load_of (codes "a.c") 0 Failed ∷ []) → ⊥
  -- the loads of a call stand behind those of before
  pub of_a_call : loads_since (empty_load ∷ []) (empty_load ∷ line_load ∷ []) ≡ line_load ∷ []
  pub stay : LoadsStay (empty_load ∷ []) (empty_load ∷ line_load ∷ [])
  pub not_lost : LoadsStay (empty_load ∷ []) (line_load ∷ line_load ∷ []) → ⊥
