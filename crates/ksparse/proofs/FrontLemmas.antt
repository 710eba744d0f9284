-- What holds of a list, and of what is left behind its first element.
use Rattle.std.proofs.Common.{◌≡◌, List, ◌∷◌, All, subst}
use Rattle.std.proofs.lemmas.List.Elements.{All-head, All-tail}

pub all_behind : {X : Type 0} (P : X → Type 0) (left others : List X) (x : X) → left ≡ x ∷ others → All P left → All P others
all_behind P left others x front all = All-tail P x others (subst (All P) front all)

pub all_first : {X : Type 0} (P : X → Type 0) (left others : List X) (x : X) → left ≡ x ∷ others → All P left → P x
all_first P left others x front all = All-head P x others (subst (All P) front all)
