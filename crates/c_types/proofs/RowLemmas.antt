-- Rows that grow by one.
use Rattle.std.proofs.Common.{◌≡◌, ◌≢◌, ℕ, ◌<◌, ◌+◌, ◌^◌, List, [], ◌∷◌, ◌++◌, Some, length, slice_get, refl, sym, ap, ◌∙◌, subst, ⊎_elim, append_assoc, append-nil, arith, length-append}
use Rattle.std.proofs.lemmas.Bool.{cases_lt}
use Rattle.std.proofs.lemmas.Option.{same_Some, slice_get_within, slice_get-get_or}
use Rattle.meaning_types.specs.Types.{TypeTree, bare, without_flags}
use Rattle.meaning_types.specs.Marks.{IsNormal}
use Rattle.c_types.specs.declared.form.Shape.{Shape}
use Rattle.c_types.specs.declared.form.Reduced.{Reduced}
use Rattle.c_types.specs.declared.elements.Elements.{Elements}
use Rattle.c_types.specs.Elements.{AreElements}
use Rattle.c_types.specs.Rows.{Row, base_of, form_seen, type_numbered, type_seen, IsFunction, IsInside, types_behind, types_of, IsRow, StandOnce, AreRows, Grows, MayJoin, JoinsRight}
use Rattle.c_types.proofs.Lists.{slice_get-append, slice_get-last, stands-append, last_place}
use Rattle.c_types.proofs.Forms.{same_shape, seen-kept, inside-kept, earlier-next, numbered-is, numbered-kept, IsFunction-bare, IsFunction-unflagged}

-- the types of more rows stand behind those of the first ones
types_behind-append : (types : List TypeTree) (rows more : List Row) → types_behind types (rows ++ more) ≡ types_behind (types_behind types rows) more
unfolding types_behind
types_behind-append types [] more = refl
types_behind-append types (row ∷ rows) more = types_behind-append (types ++ type_seen types row.0 ∷ []) rows more

-- they grow by the types of rows
types_behind-extends : (types : List TypeTree) (rows : List Row) → (more : List TypeTree) × (types_behind types rows ≡ types ++ more)
unfolding types_behind
types_behind-extends types [] = ([], sym (append-nil types))
types_behind-extends types (row ∷ rows) =
    let one : List TypeTree = type_seen types row.0 ∷ [] in
    let later = types_behind-extends (types ++ one) rows in
    (one ++ later.0, later.1 ∙ append_assoc types one later.0)

length-types_behind : (types : List TypeTree) (rows : List Row) → length (types_behind types rows) ≡ length types + length rows
unfolding types_behind
length-types_behind types [] = omega arith
length-types_behind types (row ∷ rows) =
    omega (arith, length-types_behind (types ++ type_seen types row.0 ∷ []) rows, length-append types (type_seen types row.0 ∷ []))

-- as many types as rows
pub length-types_of : (rows : List Row) → length (types_of rows) ≡ length rows
length-types_of rows = omega (arith, length-types_behind [] rows)

-- one row more adds one type
pub types_of-push : (rows : List Row) (row : Row) → types_of (rows ++ row ∷ []) ≡ types_of rows ++ type_seen (types_of rows) row.0 ∷ []
unfolding types_behind
types_of-push rows row = types_behind-append [] rows (row ∷ [])

-- the types of the first rows stay where more come
pub types_of-Grows : (old new : List Row) → Grows old new → (more : List TypeTree) × (types_of new ≡ types_of old ++ more)
types_of-Grows old new grows =
    let later = types_behind-extends (types_of old) grows.0 in
    (later.0, ap types_of grows.1 ∙ types_behind-append [] old grows.0 ∙ later.1)

pub Grows-refl : (rows : List Row) → Grows rows rows
Grows-refl rows = ([], sym (append-nil rows))

pub Grows-Grows : (old mid new : List Row) → Grows old mid → Grows mid new → Grows old new
Grows-Grows old mid new first later = (first.0 ++ later.0, later.1 ∙ ap (λ rows. rows ++ later.0) first.1 ∙ append_assoc old first.0 later.0)

-- the same of shapes, and of what stands
pub seen-Grows : (old new : List Row) → Grows old new → (shape : Shape) → IsInside (types_of old) shape.form → type_seen (types_of new) shape ≡ type_seen (types_of old) shape
seen-Grows old new grows shape inside =
    let more = types_of-Grows old new grows in
    ap (λ types. type_seen types shape) more.1 ∙ seen-kept (types_of old) more.0 shape inside

pub stands-Grows : (old new : List Row) → Grows old new → (number : ℕ) (type_ : TypeTree) → slice_get (types_of old) number ≡ Some type_ → slice_get (types_of new) number ≡ Some type_
stands-Grows old new grows number type_ stands =
    let more = types_of-Grows old new grows in
    ap (λ types. slice_get types number) more.1 ∙ stands-append (types_of old) more.0 number type_ stands

pub numbered-Grows : (old new : List Row) → Grows old new → (number : ℕ) → number < length old → type_numbered (types_of new) number ≡ type_numbered (types_of old) number
numbered-Grows old new grows number below =
    let more = types_of-Grows old new grows in
    ap (λ types. type_numbered types number) more.1 ∙ numbered-kept (types_of old) more.0 number (omega (arith, below, length-types_of old))

pub MayJoin-Grows : (old new : List Row) → Grows old new → (shape : Shape) → MayJoin old shape → MayJoin new shape
MayJoin-Grows old new grows shape may =
    let more = types_of-Grows old new grows in
    record {
      inside = subst (λ types. IsInside types shape.form) (sym more.1) (inside-kept (types_of old) more.0 shape.form may.inside);
      normal = subst IsNormal (sym (seen-Grows old new grows shape may.inside)) may.normal;
    }

-- a row is right among more types too
IsRow-kept : (types more : List TypeTree) (number : ℕ) (row : Row) → IsRow types number row → IsRow (types ++ more) number row
IsRow-kept types more number row is =
    let same = seen-kept types more row.0 is.inside in
    record {
      stands = stands-append types more number _ is.stands ∙ ap Some (sym same);
      inside = inside-kept types more row.0.form is.inside;
      earlier = is.earlier;
      normal = subst IsNormal (sym same) is.normal;
      bare_stands = stands-append types more row.1.bare _ is.bare_stands ∙ ap (λ t. Some (bare t)) (sym same);
      plain_stands = stands-append types more row.1.plain _ is.plain_stands ∙ ap (λ t. Some (without_flags (bare t))) (sym same);
      elements = subst (λ t. AreElements (base_of t) row.1.elements) (sym same) is.elements;
    }

-- What a row tells

module _ (rows : List Row) (are : AreRows rows) (number : ℕ) (row : Row) (found : slice_get rows number ≡ Some row) where
  pub numbered-row : type_numbered (types_of rows) number ≡ type_seen (types_of rows) row.0
  numbered-row = numbered-is (types_of rows) number (type_seen (types_of rows) row.0) (are.each number row found).stands

  pub bare-known : row.1.bare < length (types_of rows)
  bare-known = slice_get_within (types_of rows) row.1.bare (bare (type_seen (types_of rows) row.0)) (are.each number row found).bare_stands

  pub plain-known : row.1.plain < length (types_of rows)
  plain-known = slice_get_within (types_of rows) row.1.plain (without_flags (bare (type_seen (types_of rows) row.0))) (are.each number row found).plain_stands

  pub numbered-bare : type_numbered (types_of rows) row.1.bare ≡ bare (type_numbered (types_of rows) number)
  numbered-bare = numbered-is (types_of rows) row.1.bare (bare (type_seen (types_of rows) row.0)) (are.each number row found).bare_stands ∙ ap bare (sym numbered-row)

  pub numbered-plain : type_numbered (types_of rows) row.1.plain ≡ without_flags (bare (type_numbered (types_of rows) number))
  numbered-plain =
      numbered-is (types_of rows) row.1.plain (without_flags (bare (type_seen (types_of rows) row.0))) (are.each number row found).plain_stands
      ∙ ap (λ t. without_flags (bare t)) (sym numbered-row)

  pub function-bare : IsFunction (type_numbered (types_of rows) number) → IsFunction (type_numbered (types_of rows) row.1.bare)
  function-bare is = subst IsFunction (sym numbered-bare) (IsFunction-bare (type_numbered (types_of rows) number) is)

  pub function-plain : IsFunction (type_numbered (types_of rows) number) → IsFunction (type_numbered (types_of rows) row.1.plain)
  function-plain is =
      subst IsFunction (sym numbered-plain)
      (IsFunction-unflagged (bare (type_numbered (types_of rows) number)) (IsFunction-bare (type_numbered (types_of rows) number) is))

-- One row more

module _ (rows : List Row) (are : AreRows rows) (shape : Shape) (reduced : Reduced) (elements : Elements) (may : MayJoin rows shape) (right : JoinsRight rows shape reduced)
    (made : AreElements (form_seen (types_of rows) shape.form) elements) (absent : (number : ℕ) (row : Row) → slice_get rows number ≡ Some row → row.0 ≢ shape) where
  abbrev types : List TypeTree
  types = types_of rows

  abbrev tree : TypeTree
  tree = type_seen types shape

  abbrev new : Row
  new = (shape, record { bare = reduced.bare; plain = reduced.plain; elements = elements })

  abbrev more : List Row
  more = rows ++ new ∷ []

  kept : type_seen (types ++ tree ∷ []) shape ≡ tree
  kept = seen-kept types (tree ∷ []) shape may.inside

  -- the new row is right
  new_row : IsRow (types ++ tree ∷ []) (length rows) new
  new_row =
      record {
        stands = ap (slice_get (types ++ tree ∷ [])) (sym (length-types_of rows)) ∙ slice_get-last types tree ∙ ap Some (sym kept);
        inside = inside-kept types (tree ∷ []) shape.form may.inside;
        earlier = earlier-next types (length rows) shape.form (length-types_of rows) may.inside;
        normal = subst IsNormal (sym kept) may.normal;
        bare_stands = right.bare_stands ∙ ap (λ t. Some (bare t)) (sym kept);
        plain_stands = right.plain_stands ∙ ap (λ t. Some (without_flags (bare t))) (sym kept);
        elements = subst (λ t. AreElements (base_of t) elements) (sym kept) made;
      }

  row_at : (number : ℕ) (row : Row) → slice_get more number ≡ Some row → IsRow (types ++ tree ∷ []) number row
  row_at number row found =
      ⊎_elim
      (λ old. IsRow-kept types (tree ∷ []) number row (are.each number row (sym (slice_get-append rows (new ∷ []) number old) ∙ found)))
      (λ past.
      let last = last_place rows new number row found past in
      subst (λ n. IsRow (types ++ tree ∷ []) n row) (sym last.0) (subst (IsRow (types ++ tree ∷ []) (length rows)) last.1 new_row))
      (cases_lt number (length rows))

  -- no earlier type is the new one
  is_new : (number : ℕ) → slice_get types number ≡ Some tree → ⊥
  is_new number found =
      let below : number < length rows = omega (arith, slice_get_within types number tree found, length-types_of rows) in
      let row : Row = type_row number below in
      let stands : slice_get rows number ≡ Some row = row_stands number below in
      let is = are.each number row stands in
      absent number row stands
      (same_shape types are.apart row.0 shape is.inside may.inside (same_Some _ _ (sym is.stands ∙ found)))
    where
      type_row : (number : ℕ) → number < length rows → Row
      type_row number below = Rattle.std.specs.Prelude.get_or rows number new

      row_stands : (number : ℕ) (below : number < length rows) → slice_get rows number ≡ Some (type_row number below)
      row_stands number below = slice_get-get_or rows number new below

  -- each type stands once
  apart_still : StandOnce (types ++ tree ∷ [])
  apart_still i j type_ first second =
      ⊎_elim
      (λ low. ⊎_elim
      (λ high. are.apart i j type_ (sym (slice_get-append types (tree ∷ []) i low) ∙ first) (sym (slice_get-append types (tree ∷ []) j high) ∙ second))
      (λ past. absurd (is_new i (sym (slice_get-append types (tree ∷ []) i low) ∙ first ∙ ap Some (sym (last_place types tree j type_ second past).1))))
      (cases_lt j (length types)))
      (λ past. ⊎_elim
      (λ high. absurd (is_new j (sym (slice_get-append types (tree ∷ []) j high) ∙ second ∙ ap Some (sym (last_place types tree i type_ first past).1))))
      (λ beyond. (last_place types tree i type_ first past).0 ∙ sym (last_place types tree j type_ second beyond).0)
      (cases_lt j (length types)))
      (cases_lt i (length types))

  pub AreRows-push : length rows < 2 ^ 30 → AreRows more
  AreRows-push room =
      let pushed = types_of-push rows new in
      record {
        each = λ number row found. subst (λ ts. IsRow ts number row) (sym pushed) (row_at number row found);
        apart = subst StandOnce (sym pushed) apart_still;
        few = omega (arith, room, length-append rows (new ∷ []));
      }

  -- the type of the new shape stands at the end
  pub stands-push : slice_get (types_of more) (length rows) ≡ Some tree
  stands-push =
      ap (λ ts. slice_get ts (length rows)) (types_of-push rows new) ∙ new_row.stands ∙ ap Some kept
