-- Which names the items of a unit say, and that other names for them are told apart.
use Rattle.std.proofs.Common.{◌≡◌, ◌⊎◌, inl, inr, Bool, true, false, List, [], ◌∷◌, ◌++◌, Contains, flat_map, if◌then◌else◌, refl, sym, ap, subst, ◌∙◌, ℕ}
use Rattle.std.proofs.lemmas.List.Elements.{Contains-append_left, Contains-append_right}
use Rattle.meaning_types.specs.Types.{Space, NoSpace, NumberedSpace, NamedSpace, Flags, no_flags}
use Rattle.meaning_syntax.specs.Items.{Word, Noderef, AddressSpace, Item, Object, Function}
use Rattle.meaning_syntax.specs.Binding.{are_bound, item_name}
use Rattle.meaning_syntax.specs.Words.{is_plain_identifier, number_of}
use Rattle.meaning_first_rules.specs.Typing.{flagged, space_of}
use Rattle.meaning_first_rules.proofs.Elements.{Contains-nil, Contains-cons_cases, Contains-cons_head, Contains-cons_tail}
use Rattle.meaning_first_units.specs.Units.{IsNameOf, Renaming, TellsApart, names_said, space_names}
use Rattle.meaning_first_units.proofs.Distinct.{same-item}
use Rattle.meaning_first_units.proofs.Renamed.{renamed_flags, renamed_space}

in-flat : {A B : Type 0} (f : A → List B) (xs : List A) (x : A) (y : B) → Contains xs x → Contains (f x) y → Contains (flat_map f xs) y
in-flat f [] x y among is = absurd (Contains-nil x among)
in-flat f (first ∷ xs) x y among is =
    elim (Contains-cons_cases first xs x among) [
      | inl same ↦ Contains-append_left (f first) (flat_map f xs) y (subst (λ one. Contains (f one) y) (sym same) is)
      | inr behind ↦ Contains-append_right (f first) (flat_map f xs) y (in-flat f xs x y behind is)
    ]

-- Names of items

own-name : (item : Item) → Contains (names_said item) (item_name item)
own-name (Object words stars name) = Contains-cons_head name (flat_map space_names words)
own-name (Function name statements) = Contains-cons_head name []

pub item-says : (items : List Item) (item : Item) → Contains items item → IsNameOf items (item_name item)
item-says items item among = in-flat names_said items item (item_name item) among (own-name item)

pub words-say : (items : List Item) (words : List Word) (stars : ℕ) (name space : List ℕ) → Contains items (Object words stars name)
    → Contains (flat_map space_names words) space → IsNameOf items space
words-say items words stars name space among is =
    in-flat names_said items (Object words stars name) space among (Contains-cons_tail name (flat_map space_names words) space is)

-- items whose names are alike under the renaming are one
pub told-item :
    (renaming : Renaming) (items : List Item) (one other : Item) → TellsApart renaming items → are_bound [] items ≡ true → Contains items one → Contains items other
    → renaming (item_name one) ≡ renaming (item_name other) → one ≡ other
told-item renaming items one other told bound among also same =
    same-item [] items one other bound among also
    (told.apart (item_name one) (item_name other) (item-says items one among) (item-says items other also) same)

-- Spaces

-- of these words a name stays one
pub record KeepsNames (renaming : Renaming) (words : List Word) : Type 0 where
  pub nothing : renaming [] ≡ []
  pub something : (name : List ℕ) → Contains (flat_map space_names words) name → renaming name ≡ [] → name ≡ []

pub keeps-names : (renaming : Renaming) (items : List Item) (words : List Word) (stars : ℕ) (name : List ℕ) → TellsApart renaming items
    → Contains items (Object words stars name) → KeepsNames renaming words
keeps-names renaming items words stars name told among =
    record { nothing = told.nothing; something = λ space is. told.something space (words-say items words stars name space among is) }

-- a plain identifier is the name of its word
pub first-said : (id : List ℕ) (words : List Word) → is_plain_identifier id ≡ true → Contains (flat_map space_names (AddressSpace id ∷ words)) id
first-said id words plain =
    subst (λ (b : Bool). Contains ((if b then id ∷ [] else []) ++ flat_map space_names words) id) (sym plain) (Contains-cons_head id (flat_map space_names words))

pub keeps-behind : (renaming : Renaming) (word : Word) (words : List Word) → KeepsNames renaming (word ∷ words) → KeepsNames renaming words
keeps-behind renaming word words keeps =
    record { nothing = keeps.nothing; something = λ name is. keeps.something name (Contains-append_right (space_names word) (flat_map space_names words) name is) }

-- the space of some flags has a name among those
abbrev pub IsSaid : List Item → Flags → Type 0
IsSaid items flags = (name : List ℕ) → flags.space ≡ NamedSpace name → IsNameOf items name

abbrev space_name : Space → List ℕ
space_name (NamedSpace name) = name
space_name space = []

space-said : (id : List ℕ) (words : List Word) (name : List ℕ) → space_of id ≡ NamedSpace name → Contains (flat_map space_names (AddressSpace id ∷ words)) name
space-said id words name is = by (is_plain_identifier id) refl is
  where
    by : (test : Bool) → is_plain_identifier id ≡ test → (if test then NamedSpace id else NumberedSpace (number_of id)) ≡ NamedSpace name
        → Contains (flat_map space_names (AddressSpace id ∷ words)) name
    by true plain same = subst (Contains (flat_map space_names (AddressSpace id ∷ words))) (ap space_name same) (first-said id words plain)
    by false plain same = absurd (cc same)

flags-said : (words : List Word) (flags : Flags) (name : List ℕ) → (flagged flags words).space ≡ NamedSpace name
    → (flags.space ≡ NamedSpace name) ⊎ Contains (flat_map space_names words) name
flags-said [] flags name is = inl is
flags-said (Noderef ∷ words) flags name is = flags-said words (record flags { noderef = true }) name is
flags-said (AddressSpace id ∷ words) flags name is =
    elim (flags-said words (record flags { space = space_of id }) name is) [
      | inl here ↦ inr (space-said id words name here)
      | inr behind ↦ inr (Contains-append_right (space_names (AddressSpace id)) (flat_map space_names words) name behind)
    ]

pub object-said : (items : List Item) (words : List Word) (stars : ℕ) (name : List ℕ) → Contains items (Object words stars name) → IsSaid items (flagged no_flags words)
object-said items words stars name among space is =
    elim (flags-said words no_flags space is) [
      | inl none ↦ absurd (cc none)
      | inr said ↦ words-say items words stars name space among said
    ]

-- flags whose spaces are alike under the renaming are the same
module _ (renaming : Renaming) (items : List Item) (told : TellsApart renaming items) where
  told-space : (space other : Space) → ((name : List ℕ) → space ≡ NamedSpace name → IsNameOf items name)
      → ((name : List ℕ) → other ≡ NamedSpace name → IsNameOf items name) → renamed_space renaming space ≡ renamed_space renaming other → space ≡ other
  told-space NoSpace NoSpace said also same = refl
  told-space NoSpace (NumberedSpace number) said also same = absurd (cc same)
  told-space NoSpace (NamedSpace name) said also same = absurd (cc same)
  told-space (NumberedSpace number) NoSpace said also same = absurd (cc same)
  told-space (NumberedSpace number) (NumberedSpace more) said also same = same
  told-space (NumberedSpace number) (NamedSpace name) said also same = absurd (cc same)
  told-space (NamedSpace name) NoSpace said also same = absurd (cc same)
  told-space (NamedSpace name) (NumberedSpace number) said also same = absurd (cc same)
  told-space (NamedSpace name) (NamedSpace other) said also same =
      ap NamedSpace (told.apart name other (said name refl) (also other refl) (ap space_name same))

  pub told-flags : (flags other : Flags) → IsSaid items flags → IsSaid items other → renamed_flags renaming flags ≡ renamed_flags renaming other → flags ≡ other
  told-flags flags other said also same =
      ap (λ (b : Bool). record { noderef = b; space = flags.space }) (ap (λ (f : Flags). f.noderef) same)
      ∙ ap (λ space. record other { space = space }) (told-space flags.space other.space said also (ap (λ (f : Flags). f.space) same))
