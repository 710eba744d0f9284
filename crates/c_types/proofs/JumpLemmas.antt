-- Jumps of a chain: what they do with a member where they are put together, where the chain goes on, and where more is told.
use Rattle.std.proofs.Common.{◌≡◌, ℕ, zero, suc, ◌<◌, ◌≤◌, ◌+◌, ◌-◌, Bool, List, [], ◌∷◌, ◌++◌, Some, IsSome, drop, length, slice_get, take, refl, sym, ap, ◌∙◌, subst, length-append, arith}
use Rattle.std.proofs.lemmas.List.{drop-append-le, take-append-le, take_all}
use Rattle.std.proofs.lemmas.Option.{none-some, same_Some}
use Rattle.meaning_layout.specs.Sizes.{Told}
use Rattle.c_types.specs.declared.chains.Jump.{Jump}
use Rattle.c_types.specs.declared.chains.Link.{Link}
use Rattle.c_types.specs.declared.members.Anonymous.{Anonymous}
use Rattle.c_types.specs.declared.members.FoundMember.{FoundMember}
use Rattle.c_types.specs.Chains.{AreJumpsOver, AreToldLinks, Each, IsJumpOver, IsToldLink, IsToldMember, raised}
use Rattle.c_types.specs.Members.{anonymous_around, found_around}
use Rattle.c_types.proofs.ChainLemmas.{push-cases, raised-append}
use Rattle.c_types.proofs.PlaceLemmas.{around-later, found-twice}

-- Parts of lists

module _ {X : Type 0} where
  -- from one place to another over one between
  between : (low middle high : ℕ) (xs : List X) → low ≤ middle → middle ≤ high → drop low (take high xs) ≡ drop low (take middle xs) ++ drop middle (take high xs)
  between zero zero high xs lower higher = refl
  between zero (suc middle) zero xs lower higher = absurd (omega (arith, higher))
  between zero (suc middle) (suc high) [] lower higher = refl
  between zero (suc middle) (suc high) (x ∷ xs) lower higher = ap (λ rest. x ∷ rest) (between zero middle high xs (omega arith) (omega (arith, higher)))
  between (suc low) zero high xs lower higher = absurd (omega (arith, lower))
  between (suc low) (suc middle) zero xs lower higher = absurd (omega (arith, higher))
  between (suc low) (suc middle) (suc high) [] lower higher = refl
  between (suc low) (suc middle) (suc high) (x ∷ xs) lower higher = between low middle high xs (omega (arith, lower)) (omega (arith, higher))

  one-between : (xs : List X) (index : ℕ) (x : X) → slice_get xs index ≡ Some x → drop index (take (suc index) xs) ≡ x ∷ []
  one-between [] index x is = absurd (none-some x is)
  one-between (y ∷ xs) zero x is = ap (λ first. first ∷ []) (same_Some _ _ is)
  one-between (y ∷ xs) (suc index) x is = one-between xs index x is

  none-between : (low high : ℕ) (xs : List X) → high ≤ low → drop low (take high xs) ≡ []
  none-between zero zero xs le = refl
  none-between (suc low) zero xs le = refl
  none-between zero (suc high) xs le = absurd (omega (arith, le))
  none-between (suc low) (suc high) [] le = refl
  none-between (suc low) (suc high) (x ∷ xs) le = none-between low high xs (omega (arith, le))

  pub each-take : (P : X → Type 0) (count : ℕ) (xs : List X) → Each P xs → Each P (take count xs)
  each-take P zero xs each index x found = absurd (none-some x found)
  each-take P (suc count) [] each index x found = absurd (none-some x found)
  each-take P (suc count) (y ∷ xs) each zero x found = each zero x found
  each-take P (suc count) (y ∷ xs) each (suc index) x found = each-take P count xs (λ i. each (suc i)) index x found

  pub each-drop : (P : X → Type 0) (count : ℕ) (xs : List X) → Each P xs → Each P (drop count xs)
  each-drop P zero xs each = each
  each-drop P (suc count) [] each = each
  each-drop P (suc count) (y ∷ xs) each = each-drop P count xs (λ i. each (suc i))

-- What jumps do

module _ (told : Told) (links : List Link) where
  -- no links
  pub raised-none : (low high : ℕ) (found : FoundMember) → high ≤ low → raised told (drop low (take high links)) found ≡ found
  raised-none low high found le = ap (λ rest. raised told rest found) (none-between low high links le)

  -- a link alone
  pub jump-alone : (index : ℕ) (link : Link) → slice_get links index ≡ Some link → IsJumpOver told links (suc index) (record { level = index; anonymous = link.anonymous })
  jump-alone index link stands found = sym (ap (λ rest. raised told rest found) (one-between links index link stands))

  -- the jump of the link below a level
  pub jump-below : (level : ℕ) (link : Link) → 0 < level → slice_get links (level - 1) ≡ Some link → AreJumpsOver told links → IsJumpOver told links level link.jump
  jump-below level link some stands are =
      let next : suc (level - 1) ≡ level = omega (arith, some) in
      subst (λ n. IsJumpOver told links n link.jump) next (are (level - 1) link stands)

  -- two jumps, one of which begins where the other ends
  pub jump-over : (level : ℕ) (inner outer : Jump) → inner.level ≤ outer.level → outer.level ≤ level → IsJumpOver told links outer.level inner → IsJumpOver told links level outer
      → IsJumpOver told links level (record { level = inner.level; anonymous = anonymous_around told outer.anonymous inner.anonymous })
  jump-over level inner outer lower higher inside outside found =
      let below = drop inner.level (take outer.level links) in
      let above = drop outer.level (take level links) in
      found-twice told outer.anonymous inner.anonymous found ∙ ap (found_around told outer.anonymous) (inside found) ∙ outside (raised told below found)
      ∙ sym (ap (λ rest. raised told rest found) (between inner.level outer.level level links lower higher) ∙ raised-append told below above found)

  -- a jump to the outermost aggregate, and a link
  pub jump-next : (jump : Jump) (anonymous : Anonymous) → IsJumpOver told links (length links) jump → (found : FoundMember)
      → found_around told (anonymous_around told anonymous jump.anonymous) found ≡ found_around told anonymous (raised told (drop jump.level links) found)
  jump-next jump anonymous is found =
      found-twice told anonymous jump.anonymous found
      ∙ ap (found_around told anonymous) (is found ∙ ap (λ rest. raised told (drop jump.level rest) found) (take_all (length links) links (omega arith)))

  jump-stays : (more : List Link) (level : ℕ) (jump : Jump) → level ≤ length links → IsJumpOver told links level jump → IsJumpOver told (links ++ more) level jump
  jump-stays more level jump within is found = is found ∙ sym (ap (λ rest. raised told (drop jump.level rest) found) (take-append-le level links more within))

  -- one more link
  pub jumps-push : (link : Link) → AreJumpsOver told links → link.jump.level ≤ length links
      → ((found : FoundMember) → found_around told link.jump.anonymous found ≡ found_around told link.anonymous (raised told (drop link.jump.level links) found)) → AreJumpsOver told (links ++ link ∷ [])
  jumps-push link are within is index one stands =
      push-cases links link index one stands (λ less old. jump-stays (link ∷ []) (suc index) one.jump (omega (arith, less)) (are index one old))
      (λ at same. subst (λ (each : Link). IsJumpOver told (links ++ link ∷ []) (suc index) each.jump) same (newest at))
    where
      newest : index ≡ length links → IsJumpOver told (links ++ link ∷ []) (suc index) link.jump
      newest at found =
          is found ∙ sym (raised-append told (drop link.jump.level links) (link ∷ []) found)
          ∙ sym
          (ap (λ rest. raised told (drop link.jump.level rest) found) (take_all (suc index) (links ++ link ∷ []) (omega (arith, at, length-append links (link ∷ []))))
          ∙ ap (λ rest. raised told rest found) (drop-append-le link.jump.level links (link ∷ []) within))

-- More is told

module _ (told later : Told) (stay : (number : ℕ) (is_union : Bool) → IsSome (told number is_union) → later number is_union ≡ told number is_union) where
  member-later : (anonymous : Anonymous) → IsToldMember told anonymous → IsToldMember later anonymous
  member-later anonymous is = subst IsSome (sym (stay anonymous.number anonymous.is_union is)) is

  pub links-later : (links : List Link) → AreToldLinks told links → AreToldLinks later links
  links-later links each index link stands =
      let is = each index link stands in
      record { own = member-later link.anonymous is.own; jump = member-later link.jump.anonymous is.jump }

  pub raised-later : (links : List Link) → AreToldLinks told links → (found : FoundMember) → raised later links found ≡ raised told links found
  raised-later [] each found = refl
  raised-later (link ∷ links) each found =
      ap (raised later links) (around-later told later stay link.anonymous (each 0 link refl).own found) ∙ raised-later links (λ i. each (suc i)) (found_around told link.anonymous found)

  pub jumps-later : (links : List Link) → AreToldLinks told links → AreJumpsOver told links → AreJumpsOver later links
  jumps-later links each are index link stands found =
      around-later told later stay link.jump.anonymous (each index link stands).jump found ∙ are index link stands found
      ∙ sym (raised-later (drop link.jump.level (take (suc index) links)) (each-drop (IsToldLink told) link.jump.level (take (suc index) links) (each-take (IsToldLink told) (suc index) links each)) found)
