-- Each `goto` so far, and the labels that those below a cell may go to.
use Rattle.std.proofs.Common.{◌≡◌, ◌≢◌, ◌⊎◌, inl, inr, ℕ, ◌+◌, ◌<◌, ◌≤◌, true, false, List, [], ◌∷◌, ◌++◌, Option, Some, None, length, get_or, refl, sym, ap, subst, ◌∙◌, arith, length-set, if◌then◌else◌}
use Rattle.std.proofs.lemmas.Bool.{cases_Bool, cases_lt, eqb-true, eq-eqb, cond-true, cond-false}
use Rattle.std.proofs.lemmas.List.{get_or_push, length_push}
use Rattle.std.proofs.lemmas.Option.{none-some, same_Some}
use Rattle.sparse_model.specs.declared.ids.NameId.{NameId}
use Rattle.indexmap.specs.IndexMap.{get}
use Rattle.meaning_paths.specs.Walks.{IsIn}
use Rattle.control_cells.specs.Jumps.{AreGotos, AreJumps, HaveAllJoined, HaveJoined, HaveJoinedFrom, IsGotoBelow, IsJump, IsLastOf, goto_name, kind_at, label_name, same_name}
use Rattle.control_cells.specs.Labels.{row_at, with_pushed}
use Rattle.control_cells.specs.Trees.{first_at}
use Rattle.control_cells.specs.declared.jumps.Gotos.{Gotos}
use Rattle.control_cells.specs.declared.kind.ControlKind.{ControlKind}
use Rattle.control_cells.specs.declared.kind.ControlKind.TheVariants.{Goto, Label}
use Rattle.control_cells.proofs.LabelLemmas.{last_or_before}
use Rattle.control_cells.proofs.ListLemmas.{AreEmpty, get_or-more, in_pushed_from, in_pushed_to, row_pushed_from, row_pushed_to}

-- Kinds

pub named_goto : (kind : ControlKind) (name : NameId) → goto_name kind ≡ Some name → kind ≡ Goto name
named_goto (Goto other) name is = ap (λ it. Goto it) (same_Some other name is)
named_goto kind name is = absurd (none-some name is)

pub no_goto : (kind : ControlKind) → goto_name kind ≡ None → (name : NameId) → kind ≢ Goto name
no_goto kind none name is = none-some name (sym none ∙ ap goto_name is)

pub named_label : (kind : ControlKind) (name : NameId) → label_name kind ≡ Some name → kind ≡ Label name
named_label (Label other) name is = ap (λ it. Label it) (same_Some other name is)
named_label kind name is = absurd (none-some name is)

pub no_label : (kind : ControlKind) → label_name kind ≡ None → (name : NameId) → kind ≢ Label name
no_label kind none name is = none-some name (sym none ∙ ap label_name is)

-- Each `goto` so far

same_id : (name other : NameId) → same_name name other ≡ true → name ≡ other
same_id name other same = λ i. record { 0 = eqb-true name.0 other.0 same i }

abbrev goto_of : ControlKind → NameId → NameId
goto_of (Goto name) other = name
goto_of kind other = other

one_name : (name other : NameId) → Goto name ≡ Goto other → name ≡ other
one_name name other same = ap (λ kind. goto_of kind name) same

pub last_stays : (kinds : List ControlKind) (name : NameId) (count : ℕ) (found : Option ℕ) → IsLastOf kinds name count found → kind_at kinds count ≢ Goto name
    → IsLastOf kinds name (count + 1) found
last_stays kinds name count None last other =
    λ number before.
    elim (last_or_before number count before) [
      | inl is ↦ subst (λ k. kind_at kinds k ≢ Goto name) (sym is) other
      | inr earlier ↦ last number earlier
    ]
last_stays kinds name count (Some found) (within, is, none) other = (
  omega (arith, within),
  is,
  (λ number behind before.
      elim (last_or_before number count before) [
        | inl same ↦ subst (λ k. kind_at kinds k ≢ Goto name) (sym same) other
        | inr earlier ↦ none number behind earlier
      ]),
)

pub last_is : (kinds : List ControlKind) (name : NameId) (count : ℕ) → kind_at kinds count ≡ Goto name → IsLastOf kinds name (count + 1) (Some count)
last_is kinds name count is = (omega arith, is, (λ number behind before. absurd (omega (arith, behind, before))))

pub no_gotos : (kinds : List ControlKind) (gotos : Gotos) → gotos.earlier.items ≡ [] → ((name : NameId) → get same_name gotos.last name ≡ None) → AreGotos kinds 0 gotos
no_gotos kinds gotos none empty =
    record {
      length_is = ap length none;
      last = λ name. subst (λ found. IsLastOf kinds name 0 found) (sym (empty name)) (λ number before. absurd (omega (arith, before)));
      earlier = λ number name before is. absurd (omega (arith, before));
    }

module _ (kinds : List ControlKind) (count : ℕ) (old new : Gotos) (are : AreGotos kinds count old) where
  -- what was kept for the cells before stays
  kept : (before : Option ℕ) → new.earlier.items ≡ old.earlier.items ++ before ∷ [] → (number : ℕ) (name : NameId) → number < count → kind_at kinds number ≡ Goto name
      → IsLastOf kinds name number (get_or new.earlier.items number None)
  kept before grown number name within is =
      subst (λ found. IsLastOf kinds name number found)
      (sym (ap (λ all. get_or all number None) grown ∙ get_or-more old.earlier.items before None number (omega (arith, within, are.length_is))))
      (are.earlier number name within is)

  longer : (before : Option ℕ) → new.earlier.items ≡ old.earlier.items ++ before ∷ [] → length new.earlier.items ≡ count + 1
  longer before grown = omega (arith, ap length grown, length_push old.earlier.items before, are.length_is)

  pub another_cell : ((name : NameId) → kind_at kinds count ≢ Goto name) → new.earlier.items ≡ old.earlier.items ++ None ∷ []
      → ((name : NameId) → get same_name new.last name ≡ get same_name old.last name) → AreGotos kinds (count + 1) new
  another_cell other grown same =
      record {
        length_is = longer None grown;
        last = λ name. subst (λ found. IsLastOf kinds name (count + 1) found) (sym (same name)) (last_stays kinds name count (get same_name old.last name) (are.last name) (other name));
        earlier = λ number name within is.
            elim (last_or_before number count within) [
              | inl here ↦ absurd (other name (ap (kind_at kinds) (sym here) ∙ is))
              | inr before ↦ kept None grown number name before is
            ];
      }

  module _ (goto : NameId) (is_goto : kind_at kinds count ≡ Goto goto) (grown : new.earlier.items ≡ old.earlier.items ++ get same_name old.last goto ∷ [])
      (joined : (name : NameId) → get same_name new.last name ≡ (if same_name goto name then Some count else get same_name old.last name))
    where
      last_of : (name : NameId) → IsLastOf kinds name (count + 1) (get same_name new.last name)
      last_of name =
          elim (cases_Bool (same_name goto name)) [
            | inl same ↦
                subst (λ found. IsLastOf kinds name (count + 1) found) (sym (joined name ∙ cond-true (same_name goto name) (Some count) (get same_name old.last name) same))
                (last_is kinds name count (is_goto ∙ ap (λ it. Goto it) (same_id goto name same)))
            | inr apart ↦
                subst (λ found. IsLastOf kinds name (count + 1) found) (sym (joined name ∙ cond-false (same_name goto name) (Some count) (get same_name old.last name) apart))
                (last_stays kinds name count (get same_name old.last name) (are.last name)
                (λ is. differ (sym apart ∙ eq-eqb goto.0 name.0 (ap (λ (it : NameId). it.0) (one_name goto name (sym is_goto ∙ is))))))
          ]
        where
          differ : false ≡ true → ⊥
          differ same = cc

      here_of : (number : ℕ) (name : NameId) → number ≡ count → kind_at kinds number ≡ Goto name → IsLastOf kinds name number (get_or new.earlier.items number None)
      here_of number name here is =
          subst (λ k. IsLastOf kinds name k (get_or new.earlier.items k None)) (sym here)
          (subst (λ found. IsLastOf kinds name count found)
          (ap (get same_name old.last) (sym (one_name goto name (sym is_goto ∙ ap (kind_at kinds) (sym here) ∙ is)))
          ∙ sym (ap (λ all. get_or all count None) grown ∙ get_or_push old.earlier.items (get same_name old.last goto) None count are.length_is))
          (are.last name))

      pub another_goto : AreGotos kinds (count + 1) new
      another_goto =
          record {
            length_is = longer (get same_name old.last goto) grown;
            last = last_of;
            earlier = λ number name within is.
                elim (last_or_before number count within) [
                  | inl here ↦ here_of number name here is
                  | inr before ↦ kept (get same_name old.last goto) grown number name before is
                ];
          }

-- One label

module _ (kinds : List ControlKind) (name : NameId) (first count label : ℕ) where
  -- at first none has joined
  pub none_joined : (lists : List (List ℕ)) → HaveJoinedFrom kinds name first count count label lists lists
  none_joined lists =
      record {
        length_is = refl;
        each = λ number other within. ((λ there. inl there), (λ joined. elim joined [ inl there ↦ there | inr more ↦ absurd (omega (arith, more.1, more.2.before)) ]));
      }

  module _ (bound : ℕ) (old lists : List (List ℕ)) (have : HaveJoinedFrom kinds name first bound count label old lists) where
    -- none is left
    pub all_joined : ((number : ℕ) → first ≤ number → number < bound → kind_at kinds number ≢ Goto name) → HaveJoined kinds name first count label old lists
    all_joined none =
        record {
          length_is = have.length_is;
          each = λ number other within. (
            (λ there. elim ((have.each number other within).0 there) [ inl before ↦ inl before | inr joined ↦ inr (joined.0, omega arith, joined.2) ]),
            (λ joined. (have.each number other within).1 (elim joined [ inl before ↦ inl before | inr more ↦ inr (more.0, from number more.2, more.2) ])),
          );
        }
      where
        from : (number : ℕ) → IsGotoBelow kinds name first count number → bound ≤ number
        from number below =
            elim (cases_lt number bound) [
              | inl before ↦ absurd (none number below.behind before below.is)
              | inr behind ↦ behind
            ]

    -- the next one joins
    module _ (goto : ℕ) (last : IsLastOf kinds name bound (Some goto)) (bounded : bound ≤ count) (behind : first ≤ goto) where
      pub one_joined : HaveJoinedFrom kinds name first goto count label old (with_pushed lists goto label)
      one_joined =
          record {
            length_is = length-set lists goto (row_at lists goto ++ label ∷ []) ∙ have.length_is;
            each = λ number other within. (
              (λ there. from number other within (row_pushed_from lists goto label number (omega (arith, within, have.length_is)) other there)),
              (λ joined. row_pushed_to lists goto label number (omega (arith, within, have.length_is)) other (to number other within joined)),
            );
          }
        where
          from : (number other : ℕ) → number < length old → IsIn other (row_at lists number) ⊎ ((other ≡ label) × (number ≡ goto))
              → IsIn other (row_at old number) ⊎ ((other ≡ label) × (goto ≤ number) × IsGotoBelow kinds name first count number)
          from number other within (inl there) =
              elim ((have.each number other within).0 there) [
                | inl before ↦ inl before
                | inr joined ↦ inr (joined.0, omega (arith, joined.1, last.0), joined.2)
              ]
          from number other within (inr (is, here)) =
              inr (is, omega (arith, here), record { behind = omega (arith, here, behind); before = omega (arith, here, last.0, bounded); is = ap (kind_at kinds) here ∙ last.1 })

          to : (number other : ℕ) → number < length old → IsIn other (row_at old number) ⊎ ((other ≡ label) × (goto ≤ number) × IsGotoBelow kinds name first count number)
              → IsIn other (row_at lists number) ⊎ ((other ≡ label) × (number ≡ goto))
          to number other within (inl before) = inl ((have.each number other within).1 (inl before))
          to number other within (inr (is, reached, below)) =
              elim (cases_lt number bound) [
                | inl before ↦ inr (is, this number reached before below.is)
                | inr past ↦ inl ((have.each number other within).1 (inr (is, past, below)))
              ]
            where
              this : (number : ℕ) → goto ≤ number → number < bound → kind_at kinds number ≡ Goto name → number ≡ goto
              this number reached before is =
                  elim (cases_lt goto number) [
                    | inl later ↦ absurd (last.2 number later before is)
                    | inr past ↦ omega (arith, past, reached)
                  ]

-- All labels of a cell

module _ (kinds : List ControlKind) (first count : ℕ) where
  pub no_labels_joined : (lists : List (List ℕ)) → HaveAllJoined kinds first count [] lists lists
  no_labels_joined lists =
      record { length_is = refl; each = λ number label within. ((λ there. inl there), (λ joined. elim joined [ inl there ↦ there | inr jump ↦ absurd jump.among ])) }

  module _ (labels : List ℕ) (label : ℕ) (old lists : List (List ℕ)) (have : HaveAllJoined kinds first count labels old lists) where
    more_among : (number other : ℕ) → IsJump kinds first count labels number other → IsJump kinds first count (labels ++ label ∷ []) number other
    more_among number other jump =
        record { name = jump.name; goto = jump.goto; among = in_pushed_to labels label other (inl jump.among); is = jump.is }

    -- one that isn't a label
    pub no_label_joined : ((name : NameId) → kind_at kinds label ≢ Label name) → HaveAllJoined kinds first count (labels ++ label ∷ []) old lists
    no_label_joined none =
        record {
          length_is = have.length_is;
          each = λ number other within. (
            (λ there. elim ((have.each number other within).0 there) [ inl before ↦ inl before | inr jump ↦ inr (more_among number other jump) ]),
            (λ joined. (have.each number other within).1 (elim joined [ inl before ↦ inl before | inr jump ↦ inr (fewer number other jump) ])),
          );
        }
      where
        fewer : (number other : ℕ) → IsJump kinds first count (labels ++ label ∷ []) number other → IsJump kinds first count labels number other
        fewer number other jump =
            elim (in_pushed_from labels label other jump.among) [
              | inl among ↦ record { name = jump.name; goto = jump.goto; among = among; is = jump.is }
              | inr same ↦ absurd (none jump.name (ap (kind_at kinds) (sym same) ∙ jump.is))
            ]

    abbrev label_of : ControlKind → NameId → NameId
    label_of (Label name) other = name
    label_of kind other = other

    pub label_joined : (name : NameId) (new : List (List ℕ)) → kind_at kinds label ≡ Label name → HaveJoined kinds name first count label lists new
        → HaveAllJoined kinds first count (labels ++ label ∷ []) old new
    label_joined name new is joined =
        record {
          length_is = joined.length_is ∙ have.length_is;
          each = λ number other within. (
            (λ there. from number other within ((joined.each number other (omega (arith, within, have.length_is))).0 there)),
            (λ jumps. (joined.each number other (omega (arith, within, have.length_is))).1 (to number other within jumps)),
          );
        }
      where
        from : (number other : ℕ) → number < length old → IsIn other (row_at lists number) ⊎ ((other ≡ label) × (0 ≤ number) × IsGotoBelow kinds name first count number)
            → IsIn other (row_at old number) ⊎ IsJump kinds first count (labels ++ label ∷ []) number other
        from number other within (inl there) =
            elim ((have.each number other within).0 there) [
              | inl before ↦ inl before
              | inr jump ↦ inr (more_among number other jump)
            ]
        from number other within (inr (same, reached, below)) =
            inr (record { name = name; goto = below; among = in_pushed_to labels label other (inr same); is = ap (kind_at kinds) same ∙ is })

        to : (number other : ℕ) → number < length old → IsIn other (row_at old number) ⊎ IsJump kinds first count (labels ++ label ∷ []) number other
            → IsIn other (row_at lists number) ⊎ ((other ≡ label) × (0 ≤ number) × IsGotoBelow kinds name first count number)
        to number other within (inl before) = inl ((have.each number other within).1 (inl before))
        to number other within (inr jump) =
            elim (in_pushed_from labels label other jump.among) [
              | inl among ↦ inl ((have.each number other within).1 (inr (record { name = jump.name; goto = jump.goto; among = among; is = jump.is })))
              | inr same ↦
                  let named : jump.name ≡ name = ap (λ kind. label_of kind name) (sym jump.is ∙ ap (kind_at kinds) same ∙ is) in
                  inr (same, omega arith, subst (λ it. IsGotoBelow kinds it first count number) named jump.goto)
            ]

-- All cells

pub no_jumps : (kinds : List ControlKind) (firsts : List ℕ) (labels lists : List (List ℕ)) → AreEmpty (length kinds) lists → AreJumps kinds firsts labels 0 lists
no_jumps kinds firsts labels lists empty =
    record {
      length_is = empty.length_is;
      each = λ number label within. (
        (λ there. absurd (subst (λ row. IsIn label row) (empty.none number) there)),
        (λ jump. absurd (omega (arith, jump.1))),
      );
    }

pub more_jumps : (kinds : List ControlKind) (firsts : List ℕ) (labels : List (List ℕ)) (count : ℕ) (old new : List (List ℕ)) → AreJumps kinds firsts labels count old
    → HaveAllJoined kinds (first_at firsts count) count (row_at labels count) old new → AreJumps kinds firsts labels (count + 1) new
more_jumps kinds firsts labels count old new are joined =
    record {
      length_is = joined.length_is ∙ are.length_is;
      each = λ number label within. (
        (λ there.
            elim ((joined.each number label (omega (arith, within, are.length_is))).0 there) [
              | inl before ↦ let (body, earlier, jump) = (are.each number label within).0 before in (body, omega (arith, earlier), jump)
              | inr jump ↦ (count, omega arith, jump)
            ]),
        (λ jumps.
            (joined.each number label (omega (arith, within, are.length_is))).1
            (elim (last_or_before jumps.0 count jumps.1) [
              | inl last ↦ inr (subst (λ body. IsJump kinds (first_at firsts body) body (row_at labels body) number label) last jumps.2)
              | inr before ↦ inl ((are.each number label within).1 (jumps.0, before, jumps.2))
            ])),
      );
    }

-- What is left where the next one stands before the first cell, and where there is none
pub some_left : (kinds : List ControlKind) (name : NameId) (first bound goto : ℕ) → IsLastOf kinds name bound (Some goto) → goto < first
    → (number : ℕ) → first ≤ number → number < bound → kind_at kinds number ≢ Goto name
some_left kinds name first bound goto last before number behind within = last.2 number (omega (arith, before, behind)) within

pub none_left : (kinds : List ControlKind) (name : NameId) (first bound : ℕ) → IsLastOf kinds name bound None
    → (number : ℕ) → first ≤ number → number < bound → kind_at kinds number ≢ Goto name
none_left kinds name first bound last number behind within = last number within
