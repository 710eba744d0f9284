-- What holds of paths to members.
use Rattle.std.specs.Prelude.{◌≡◌, ℕ, List, is_some}
use Rattle.std.specs.Str.{bytes_eq}
use Rattle.meaning_layout.specs.Members.{named_member, names_told}
use Rattle.meaning_typing.specs.Aggregates.{Bodies}
use Rattle.meaning_objects.specs.MemberPaths.{member_path}

-- a path leads to each member that a name names, and to no other
abbrev pub PathsAreFound : Type 0
PathsAreFound =
    (bodies : Bodies) (number : ℕ) (name : List ℕ)
    → is_some (member_path bodies number name) ≡ is_some (named_member bytes_eq (names_told bodies number) name)
