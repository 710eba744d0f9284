-- Tentative objects, and what they break at the end of a unit.
use Rattle.std.proofs.Common.{◌≡◌, ℕ, zero, suc, Bool, true, false, ◌&&◌, not, List, [], ◌∷◌, ◌++◌, if◌then◌else◌, refl, sym, ap, ◌∙◌, append-nil}
use Rattle.std.specs.List.{flat_map}
use Rattle.std.proofs.lemmas.Grind.{flat_map-append}
use Rattle.meaning_layout.specs.Sizes.{Told}
use Rattle.meaning_operands.specs.Failures.{Broken}
use Rattle.meaning_typing.specs.DeclarationRows.{fact_of_declarator, has_initializer, is_declaration_kind, is_extern_said, is_tentative, tentative_broken, tentative_of, unit_end_broken}
use Rattle.meaning_typing.specs.Declarators.{in_file, is_function, specifiers_of}
use Rattle.meaning_typing.specs.Facts.{Fact, Unknown, Expression, Specified, Declared, NamedType, DeclaredFact}
use Rattle.meaning_typing.specs.Names.{type_of_name}
use Rattle.meaning_typing.specs.Surroundings.{Surrounding, surrounding_at}
use Rattle.meaning_typing.specs.Units.{UnitNodes, kind_at, node_at}
use Rattle.declaration_rows.specs.Kept.{at_end, may_be_tentative, tentative_below, tentative_by}

and_on : (a b c d e f : Bool) → (a && (b && (c && (d && e)))) && f ≡ a && (b && (c && (d && (e && f))))
and_on true true true true true f = refl
and_on true true true true false f = refl
and_on true true true false e f = refl
and_on true true false d e f = refl
and_on true false c d e f = refl
and_on false b c d e f = refl

module _ (nodes : UnitNodes) (facts : List Fact) (surrounding : Surrounding) where
  pub tentative_told : (declaration : DeclaredFact)
      → may_be_tentative nodes surrounding declaration && not (is_extern_said (specifiers_of nodes facts surrounding.parent))
      ≡ is_tentative nodes facts surrounding declaration
  tentative_told declaration =
      and_on (is_declaration_kind (kind_at nodes surrounding.parent)) (in_file nodes surrounding) (not declaration.is_typedef)
      (not (is_function declaration.type_)) (not (has_initializer nodes surrounding))
      (not (is_extern_said (specifiers_of nodes facts surrounding.parent)))

  module _ (told : Told) (token handle : ℕ) where
    -- what is not kept says nothing
    by_test : (declaration : DeclaredFact) (may extern : Bool) → may && extern ≡ is_tentative nodes facts surrounding declaration
        → (if is_tentative nodes facts surrounding declaration then tentative_broken told token (type_of_name facts declaration) else [])
        ≡ flat_map (λ other. tentative_of told nodes facts token surrounding (Declared declaration)) (if may then handle ∷ [] else [])
    by_test declaration true extern is =
        sym (append-nil (if is_tentative nodes facts surrounding declaration then tentative_broken told token (type_of_name facts declaration) else []))
    by_test declaration false extern is =
        ap (λ test. if test then tentative_broken told token (type_of_name facts declaration) else []) (sym is)

    pub one_kept : (fact : Fact)
        → tentative_of told nodes facts token surrounding fact
        ≡ flat_map (λ other. tentative_of told nodes facts token surrounding fact) (tentative_by nodes handle surrounding fact)
    one_kept Unknown = refl
    one_kept (Expression expression) = refl
    one_kept (Specified specifiers) = refl
    one_kept (Declared declaration) =
        by_test declaration (may_be_tentative nodes surrounding declaration)
        (not (is_extern_said (specifiers_of nodes facts surrounding.parent))) (tentative_told declaration)
    one_kept (NamedType type_) = refl

-- one handle, of which something is said by its number
alone_by : {X : Type 0} (f : ℕ → List X) (handle : ℕ) (test : Bool)
    → flat_map (λ other. f handle) (if test then handle ∷ [] else []) ≡ flat_map f (if test then handle ∷ [] else [])
alone_by f handle true = refl
alone_by f handle false = refl

module _ (told : Told) (nodes : UnitNodes) (surroundings : List Surrounding) (facts : List Fact) where
  alone : (handle : ℕ) (surrounding : Surrounding) (fact : Fact) (f : ℕ → List Broken)
      → flat_map (λ other. f handle) (tentative_by nodes handle surrounding fact) ≡ flat_map f (tentative_by nodes handle surrounding fact)
  alone handle surrounding Unknown f = refl
  alone handle surrounding (Expression expression) f = refl
  alone handle surrounding (Specified specifiers) f = refl
  alone handle surrounding (Declared declaration) f = alone_by f handle (may_be_tentative nodes surrounding declaration)
  alone handle surrounding (NamedType type_) f = refl

  pub end_told : (count : ℕ)
      → flat_map (at_end told nodes surroundings facts) (tentative_below nodes surroundings facts count)
      ≡ unit_end_broken told nodes surroundings facts count
  end_told zero = refl
  end_told (suc count) =
      let surrounding = surrounding_at surroundings count in
      let fact = fact_of_declarator nodes facts count in
      let own = tentative_by nodes count surrounding fact in
      flat_map-append (at_end told nodes surroundings facts) (tentative_below nodes surroundings facts count) own
      ∙ ap (λ others. others ++ flat_map (at_end told nodes surroundings facts) own) (end_told count)
      ∙ ap (λ mine. unit_end_broken told nodes surroundings facts count ++ mine)
      (sym (alone count surrounding fact (at_end told nodes surroundings facts))
      ∙ sym (one_kept nodes facts surrounding told (node_at nodes count).token count fact))
