-- What is left of a shape joins the rows before it.
use Rattle.std.proofs.Common.{◌≡◌, ℕ, List, [], ◌∷◌, ◌++◌, Some, length, slice_get, sym, ap, ◌∙◌, subst}
use Rattle.meaning_types.specs.Types.{TypeTree, bare, without_flags}
use Rattle.meaning_types.specs.Marks.{IsNormal}
use Rattle.meaning_types.proofs.Levels.{bare-without_flags, bare-bare, without_flags-twice, IsNormal-bare, IsNormal-without_flags}
use Rattle.c_types.specs.declared.form.Shape.{Shape}
use Rattle.c_types.specs.Rows.{Row, type_seen, types_of, IsInside, Grows, MayJoin, JoinsRight}
use Rattle.c_types.proofs.Lists.{slice_get-last, stands-append}
use Rattle.c_types.proofs.RowLemmas.{length-types_of, seen-Grows, stands-Grows, Grows-Grows}

-- the type that joins stands at the end
pub own-stands : (rows : List Row) (tree : TypeTree) (own : ℕ) → own ≡ length rows → slice_get (types_of rows ++ tree ∷ []) own ≡ Some tree
own-stands rows tree own is =
    ap (slice_get (types_of rows ++ tree ∷ [])) (is ∙ sym (length-types_of rows)) ∙ slice_get-last (types_of rows) tree

bare-of_plain : (type_ : TypeTree) → bare (without_flags (bare type_)) ≡ without_flags (bare type_)
bare-of_plain type_ = bare-without_flags (bare type_) ∙ ap without_flags (bare-bare type_)

plain-of_plain : (type_ : TypeTree) → without_flags (bare (without_flags (bare type_))) ≡ without_flags (bare type_)
plain-of_plain type_ = ap without_flags (bare-of_plain type_) ∙ without_flags-twice (bare type_)

module _ (rows : List Row) (shape left : Shape) (own : ℕ) (is_own : own ≡ length rows) (may : MayJoin rows shape) where
  abbrev types : List TypeTree
  types = types_of rows

  abbrev whole : TypeTree
  whole = type_seen types shape

  -- what has neither qualifiers nor flags
  module _ (seen : type_seen types left ≡ without_flags (bare whole)) (inside : IsInside types left.form) where
    pub plain-may : MayJoin rows left
    plain-may = record { inside = inside; normal = subst IsNormal (sym seen) (IsNormal-without_flags (bare whole) (IsNormal-bare whole may.normal)) }

    pub plain-right : JoinsRight rows left (record { bare = own; plain = own })
    plain-right =
        record {
          bare_stands = own-stands rows (type_seen types left) own is_own ∙ ap Some (seen ∙ sym (bare-of_plain whole) ∙ ap bare (sym seen));
          plain_stands = own-stands rows (type_seen types left) own is_own ∙ ap Some (seen ∙ sym (plain-of_plain whole) ∙ ap (λ t. without_flags (bare t)) (sym seen));
        }

  -- what has no qualifiers, behind what has no flags either
  module _ (seen : type_seen types left ≡ bare whole) (inside : IsInside types left.form) (plain : ℕ) (stands : slice_get types plain ≡ Some (without_flags (bare whole))) where
    pub bare-may : MayJoin rows left
    bare-may = record { inside = inside; normal = subst IsNormal (sym seen) (IsNormal-bare whole may.normal) }

    pub bare-right : JoinsRight rows left (record { bare = own; plain = plain })
    bare-right =
        record {
          bare_stands = own-stands rows (type_seen types left) own is_own ∙ ap Some (seen ∙ sym (bare-bare whole) ∙ ap bare (sym seen));
          plain_stands =
              stands-append types (type_seen types left ∷ []) plain (without_flags (bare whole)) stands
              ∙ ap (λ t. Some (without_flags t)) (sym (bare-bare whole) ∙ ap bare (sym seen));
        }

-- the shape itself, behind both
module _ (old mid new : List Row) (first : Grows old mid) (later : Grows mid new) (shape : Shape) (may : MayJoin old shape) (bared plain : ℕ) where
  pub plain-later : slice_get (types_of mid) plain ≡ Some (without_flags (bare (type_seen (types_of old) shape)))
      → slice_get (types_of mid) plain ≡ Some (without_flags (bare (type_seen (types_of mid) shape)))
  plain-later stands = stands ∙ ap (λ t. Some (without_flags (bare t))) (sym (seen-Grows old mid first shape may.inside))

  pub whole-right : slice_get (types_of mid) plain ≡ Some (without_flags (bare (type_seen (types_of old) shape)))
      → slice_get (types_of new) bared ≡ Some (bare (type_seen (types_of mid) shape))
      → JoinsRight new shape (record { bare = bared; plain = plain })
  whole-right plain_stands bare_stands =
      let both : Grows old new = Grows-Grows old mid new first later in
      let same = sym (seen-Grows old new both shape may.inside) in
      let same_mid = seen-Grows old mid first shape may.inside in
      record {
        bare_stands = stands-append (types_of new) (type_seen (types_of new) shape ∷ []) bared _ bare_stands ∙ ap (λ t. Some (bare t)) (same_mid ∙ same);
        plain_stands =
            stands-append (types_of new) (type_seen (types_of new) shape ∷ []) plain _ (stands-Grows mid new later plain _ plain_stands)
            ∙ ap (λ t. Some (without_flags (bare t))) same;
      }
