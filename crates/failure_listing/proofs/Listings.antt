-- What is in order stays in order however else types and names are seen, and is its own listing.
use Rattle.std.proofs.Common.{◌≡◌, ℕ, List, [], ◌∷◌, map, sym, ap, ◌∙◌}
use Rattle.vocabulary.specs.declared.class.Class.{Class}
use Rattle.sparse_model.specs.declared.failure.Failure.{Failure}
use Rattle.meaning_operands.specs.Failures as meaning
use Rattle.meaning_warnings.specs.Listing.{AreOrdered, IsUnitText, order_of, unit_lines}
use Rattle.meaning_warnings.specs.Places.{ShownUnit}
use Rattle.meaning_warnings.proofs.Listings.{AreBehind, unique}
use Rattle.failure_listing.specs.Ranks.{KeepsRank}
use Rattle.failure_listing.proofs.OrderLemmas.{order-seen}

module _ (seen other : Failure → meaning.Failure) (rank : KeepsRank seen) (other_rank : KeepsRank other) where
  same-order : (f g : Failure) → order_of (other f) (other g) ≡ order_of (seen f) (seen g)
  same-order f g = order-seen other other_rank f g ∙ sym (order-seen seen rank f g)

  behind-otherwise : (f : Failure) (fs : List Failure) → AreBehind (seen f) (map seen fs) → AreBehind (other f) (map other fs)
  behind-otherwise f [] all = tt
  behind-otherwise f (g ∷ fs) all = (same-order f g ∙ all.0, behind-otherwise f fs all.1)

  pub ordered-otherwise : (fs : List Failure) → AreOrdered (map seen fs) → AreOrdered (map other fs)
  ordered-otherwise [] up = tt
  ordered-otherwise (f ∷ fs) up = (behind-otherwise f fs up.0, ordered-otherwise fs up.1)

-- the text of a listing has the lines of that listing, and no others
pub listed-lines :
    (shown : ShownUnit) (classes : List Class) (listing : List meaning.Failure) (text : List ℕ) → AreOrdered listing
    → IsUnitText shown classes listing text → text ≡ unit_lines shown classes listing
listed-lines shown classes listing text up is =
    is.tells ∙ ap (unit_lines shown classes) (unique is.listing listing is.lists.ordered up is.lists.same)
