-- What holds of a list, and of what is left behind its first element.
use Rattle.std.proofs.Common.{◌≡◌, Bool, false, ◌||◌, List, ◌∷◌, map, All, sym, ap, subst, ◌∙◌}
use Rattle.std.specs.List.{list_any}
use Rattle.std.proofs.lemmas.List.Elements.{All-head, All-tail}

pub all_behind : {X : Type 0} (P : X → Type 0) (left others : List X) (x : X) → left ≡ x ∷ others → All P left → All P others
all_behind P left others x front all = All-tail P x others (subst (All P) front all)

pub all_first : {X : Type 0} (P : X → Type 0) (left others : List X) (x : X) → left ≡ x ∷ others → All P left → P x
all_first P left others x front all = All-head P x others (subst (All P) front all)

-- none is what the first isn't
pub any_behind : {X Y : Type 0} (f : X → Y) (p : Y → Bool) (left others : List X) (x : X) (here all : Bool) → left ≡ x ∷ others → here ≡ p (f x) → here ≡ false → list_any p (map f left) ≡ all → list_any p (map f others) ≡ all
any_behind f p left others x here all front is fails given =
    ap (λ found. found || list_any p (map f others)) (sym fails ∙ is) ∙ ap (λ xs. list_any p (map f xs)) (sym front) ∙ given
