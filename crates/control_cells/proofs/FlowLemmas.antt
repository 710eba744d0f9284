-- The blocks of a body make a flow that keeps its equations.
use Rattle.std.proofs.Common.{◌≡◌, ◌↔◌, ◌⊎◌, inl, inr, ℕ, zero, suc, ◌+◌, ◌-◌, ◌<◌, ◌≤◌, Bool, true, false, List, [], ◌∷◌, ◌++◌, Option, Some, None, length, get_or, slice_get, refl, sym, ap, subst, ◌∙◌, arith, if◌then◌else◌}
use Rattle.std.proofs.lemmas.Bool.{both_ways, cond-false, cond-true, eqb-true, eq-eqb}
use Rattle.std.proofs.lemmas.List.{length-map}
use Rattle.std.proofs.lemmas.Option.{get_or_from_slice_get, none-some}
use Rattle.sparse_model.specs.declared.ids.NameId.{NameId}
use Rattle.meaning_paths.specs.Walks.{IsIn}
use Rattle.meaning_paths.specs.Graphs.{BasicBlock, empty_block}
use Rattle.meaning_control.specs.Kinds as meaning
use Rattle.meaning_control.specs.Kinds.{is_body, is_case, is_label, is_switch}
use Rattle.meaning_control.specs.Choices.{is_named, named, number_of}
use Rattle.meaning_control.specs.Rows.{Going, On, Breaks, Continues, Jumps, Picks, Way, Into, Moment, Out, begins, entry_steps, moment_steps, onward, outs}
use Rattle.meaning_control.specs.States.{ends_cases}
use Rattle.meaning_control.specs.laws.Cells.{Cell, IsBlock, IsFlowOf, LabelledBlock, Tables, all_gone_blocks, entry_or as entry_in, gone_block, led_block, stops}
use Rattle.control_cells.specs.Blocks.{closing_block, entry_block, first_block, graph_by, labelled, labelled_block, moment_block, tables_seen}
use Rattle.control_cells.specs.Exits.{AreExits, HasPart, exits_at, exits_to, handed}
use Rattle.control_cells.specs.Flows.{HasPathsOf, KeepsApart}
use Rattle.control_cells.specs.Jumps.{AreJumps, kind_at, kinds_of}
use Rattle.control_cells.specs.Labels.{AreOwned, owner_at, row_at, rows}
use Rattle.control_cells.specs.Numbers.{closing_of, numbers_of}
use Rattle.control_cells.specs.Seen.{cell_at, cell_seen, cells_seen, kind_seen, may_have_moment}
use Rattle.control_cells.specs.Tables.{tables_of}
use Rattle.control_cells.specs.Trees.{IsOneTree, firsts_of}
use Rattle.control_cells.specs.declared.cell.Cell.{Cell as KeptCell}
use Rattle.control_cells.specs.declared.exits.Exits.{Exits}
use Rattle.control_cells.specs.declared.kind.ControlKind.{ControlKind}
use Rattle.control_cells.specs.declared.kind.ControlKind.TheVariants as kinds
use Rattle.control_cells.specs.declared.numbers.BlockNumbers.{BlockNumbers}
use Rattle.control_cells.specs.declared.tables.CellTables.{CellTables}
use Rattle.control_cells.proofs.ChoiceLemmas.{SameMembers, mapped_from, mapped_to, places_from, places_to, same_joined, same_picked}
use Rattle.control_cells.proofs.FoundLemmas.{label_of_owner, owner_ends, owner_has}
use Rattle.control_cells.proofs.GraphLemmas.{blocks_of_cell, closes, opens}
use Rattle.control_cells.proofs.MomentLemmas.{may_have}
use Rattle.control_cells.proofs.SeenLemmas.{seen_from, seen_to}
use Rattle.control_cells.proofs.TableLemmas.{keep, root-exits, tables_by}
use Rattle.meaning_control.proofs.Flows.{has_the_paths}

-- Kinds

labels_are_no_cases : (kind : meaning.ControlKind) → is_case kind ≡ true → is_label kind ≡ false
labels_are_no_cases (meaning.Label name) is = cc
labels_are_no_cases kind is = refl

switches_are_no_bodies : (kind : meaning.ControlKind) → is_switch kind ≡ true → is_body kind ≡ false
switches_are_no_bodies meaning.Body is = cc
switches_are_no_bodies kind is = refl

switches_end : (kind : meaning.ControlKind) → is_switch kind ≡ true → ends_cases kind ≡ true
switches_end kind is = ap (λ test. if test then true else is_body kind) is

-- where control jumps from, and where it picks
abbrev name_of_jump : Going → List ℕ
name_of_jump (Jumps name) = name
name_of_jump going = []

abbrev name_of_goto : meaning.ControlKind → List ℕ
name_of_goto (meaning.Goto name) = name
name_of_goto kind = []

only_on : (outcomes : List Bool) (going : Going) → IsIn going (outs outcomes) → (outcome : Bool) × (going ≡ On (Out outcome))
only_on [] going there = absurd there
only_on (outcome ∷ outcomes) going (inl is) = (outcome, is)
only_on (outcome ∷ outcomes) going (inr there) = only_on outcomes going there

no_jump_on : (outcome : Bool) (name : List ℕ) → Jumps name ≡ On (Out outcome) → ⊥
no_jump_on outcome name is = cc

no_pick_on : (outcome : Bool) → Picks ≡ On (Out outcome) → ⊥
no_pick_on outcome is = cc

jumps_begin : (kind : meaning.ControlKind) (parts : ℕ) (name : List ℕ) → IsIn (Jumps name) (begins kind parts) → kind ≡ meaning.Goto name
jumps_begin (meaning.Goto other) parts name (inl is) = ap (λ going. meaning.Goto (name_of_jump going)) (sym is)
jumps_begin (meaning.Goto other) parts name (inr none) = absurd none
jumps_begin (meaning.Value outcomes) zero name there = let (outcome, is) = only_on outcomes (Jumps name) there in absurd (no_jump_on outcome name is)
jumps_begin kind zero name (inl is) = absurd (cc)
jumps_begin kind zero name (inr none) = absurd none
jumps_begin kind (suc parts) name (inl is) = absurd (cc)
jumps_begin kind (suc parts) name (inr none) = absurd none

jumps_on : (kind : meaning.ControlKind) (name : List ℕ) → IsIn (Jumps name) (onward kind) → ⊥
jumps_on (meaning.Value outcomes) name there = let (outcome, is) = only_on outcomes (Jumps name) there in no_jump_on outcome name is
jumps_on (meaning.Calling passes outcomes) name there = let (outcome, is) = only_on outcomes (Jumps name) there in no_jump_on outcome name is
jumps_on (meaning.Switch number) name (inl is) = cc
jumps_on (meaning.Switch number) name (inr none) = none
jumps_on meaning.While name (inl is) = cc
jumps_on meaning.While name (inr none) = none
jumps_on (meaning.Do while_token) name (inl is) = cc
jumps_on (meaning.Do while_token) name (inr none) = none
jumps_on (meaning.For has_condition) name (inl is) = cc
jumps_on (meaning.For has_condition) name (inr none) = none
jumps_on kind name there = there

abbrev any_picks : List Going → Bool
any_picks [] = false
any_picks (Picks ∷ goings) = true
any_picks (going ∷ goings) = any_picks goings

none_out : (outcomes : List Bool) → any_picks (outs outcomes) ≡ false
none_out [] = refl
none_out (outcome ∷ outcomes) = none_out outcomes

none_begin : (kind : meaning.ControlKind) (parts : ℕ) → any_picks (begins kind parts) ≡ false
none_begin meaning.While parts = refl
none_begin (meaning.Value outcomes) zero = none_out outcomes
none_begin (meaning.Value outcomes) (suc parts) = refl
none_begin kind zero = refl
none_begin kind (suc parts) = refl

some_pick : (goings : List Going) → IsIn Picks goings → any_picks goings ≡ true
some_pick [] there = absurd there
some_pick (Picks ∷ goings) there = refl
some_pick (going ∷ goings) (inl is) = absurd (cc)
some_pick (going ∷ goings) (inr there) = some_pick goings there

picks_begin : (kind : meaning.ControlKind) (parts : ℕ) → IsIn Picks (begins kind parts) → ⊥
picks_begin kind parts there = both_ways (any_picks (begins kind parts)) (none_begin kind parts) (some_pick (begins kind parts) there)

picks_on : (kind : meaning.ControlKind) → IsIn Picks (onward kind) → is_switch kind ≡ true
picks_on (meaning.Switch number) there = refl
picks_on (meaning.Value outcomes) there = let (outcome, is) = only_on outcomes Picks there in absurd (no_pick_on outcome is)
picks_on (meaning.Calling passes outcomes) there = let (outcome, is) = only_on outcomes Picks there in absurd (no_pick_on outcome is)
picks_on meaning.While (inl is) = absurd (cc)
picks_on meaning.While (inr none) = absurd none
picks_on (meaning.Do while_token) (inl is) = absurd (cc)
picks_on (meaning.Do while_token) (inr none) = absurd none
picks_on (meaning.For has_condition) (inl is) = absurd (cc)
picks_on (meaning.For has_condition) (inr none) = absurd none
picks_on kind there = absurd there

-- As they are kept

module _ (names : NameId → List ℕ) where
  goto_seen : (token : ℕ) (kind : ControlKind) (name : List ℕ) → kind_seen names token kind ≡ meaning.Goto name → (id : NameId) × (kind ≡ kinds.Goto id) × (names id ≡ name)
  goto_seen token (kinds.Goto id) name is = (id, refl, ap name_of_goto is)
  goto_seen token kind name is = absurd (cc)

  label_seen : (token : ℕ) (kind : ControlKind) → is_label (kind_seen names token kind) ≡ true → (id : NameId) × (kind ≡ kinds.Label id)
  label_seen token (kinds.Label id) is = (id, refl)
  label_seen token kind is = absurd (cc)

  -- a cell is seen as it is kept, whether it is there or not
  kind_kept : (kept : List KeptCell) (number : ℕ) → (token : ℕ) × ((cell_at (cells_seen names kept) number).kind ≡ kind_seen names token (kind_at (kinds_of kept) number))
  kind_kept [] number = (0, refl)
  kind_kept (cell ∷ kept) zero = (cell.token, refl)
  kind_kept (cell ∷ kept) (suc number) = kind_kept kept number

-- Flows

module _ (names : NameId → List ℕ) (apart : KeepsApart names) (kept : List KeptCell) (tree : IsOneTree (cells_seen names kept)) (exits : List Exits)
    (are : AreExits (cells_seen names kept) (numbers_of (cells_seen names kept)) (closing_of (cells_seen names kept)) exits) (labels jumps : List (List ℕ))
    (owned : AreOwned (cells_seen names kept) exits (length (cells_seen names kept)) labels)
    (jumped : AreJumps (kinds_of kept) (firsts_of (cells_seen names kept)) labels (length kept) jumps)
  where
    abbrev cells : List Cell
    cells = cells_seen names kept

    abbrev kind : ℕ → meaning.ControlKind
    kind number = (cell_at cells number).kind

    abbrev real : Tables
    real = tables_of cells (numbers_of cells) exits

    -- what the code has in their place
    abbrev pub known : Tables
    known =
        tables_by (numbers_of cells) exits (λ number. []) (λ number. labelled cells (numbers_of cells) (row_at labels number))
        (λ number. labelled cells (numbers_of cells) (row_at jumps number))

    same_length : length cells ≡ length kept
    same_length = length-map kept (cell_seen names)

    same_kinds : length (kinds_of kept) ≡ length kept
    same_kinds = length-map kept (λ cell. cell.kind)

    -- Around

    abbrev body_around : ℕ → Option ℕ
    body_around number = (exits_at exits number).body

    abbrev chooser_around : ℕ → Option ℕ
    chooser_around number = (exits_at exits number).chooser

    told : (number place part : ℕ) → HasPart cells number place part → exits_at exits part ≡ handed (numbers_of cells) number (exits_at exits number) (cell_at cells number) place
    told number place part at = get_or_from_slice_get exits part _ (exits_to 0) (are.parts number place part at)

    no_body : body_around (length cells - 1) ≡ None
    no_body = ap (λ (e : Exits). e.body) (root-exits cells exits are tree.some)

    no_chooser : chooser_around (length cells - 1) ≡ None
    no_chooser = ap (λ (e : Exits). e.chooser) (root-exits cells exits are tree.some)

    body_told : (number place part : ℕ) → HasPart cells number place part → body_around part ≡ (if is_body (kind number) then Some number else body_around number)
    body_told number place part at = ap (λ (e : Exits). e.body) (told number place part at)

    chooser_told : (number place part : ℕ) → HasPart cells number place part → chooser_around part ≡ (if ends_cases (kind number) then Some number else chooser_around number)
    chooser_told number place part at = ap (λ (e : Exits). e.chooser) (told number place part at)

    -- of a label, and of a `case`
    label_owner : (label : ℕ) → is_label (kind label) ≡ true → owner_at cells exits label ≡ body_around label
    label_owner label is = cond-true (is_label (kind label)) (body_around label) (if is_case (kind label) then chooser_around label else None) is

    case_owner : (label : ℕ) → is_case (kind label) ≡ true → owner_at cells exits label ≡ chooser_around label
    case_owner label is =
        cond-false (is_label (kind label)) (body_around label) (if is_case (kind label) then chooser_around label else None) (labels_are_no_cases (kind label) is)
        ∙ cond-true (is_case (kind label)) (chooser_around label) None is

    -- what has an owner is one of both
    record_of : (label place : ℕ) → owner_at cells exits label ≡ Some place
        → ((is_label (kind label) ≡ true) × (body_around label ≡ Some place)) ⊎ ((is_case (kind label) ≡ true) × (chooser_around label ≡ Some place))
    record_of label place is = of_both (is_label (kind label)) (is_case (kind label)) refl refl is
      where
        of_both : (one other : Bool) → is_label (kind label) ≡ one → is_case (kind label) ≡ other
            → (if one then body_around label else (if other then chooser_around label else None)) ≡ Some place
            → ((is_label (kind label) ≡ true) × (body_around label ≡ Some place)) ⊎ ((is_case (kind label) ≡ true) × (chooser_around label ≡ Some place))
        of_both true other first second is = inl (first, is)
        of_both false true first second is = inr (second, is)
        of_both false false first second is = absurd (none-some place is)

    -- Switches

    same_cases : (number : ℕ) → number < length cells → is_switch (kind number) ≡ true → SameMembers (known.cases number) (real.cases number)
    same_cases number within is x = (to, from)
      where
        found : (label : ℕ) → IsIn label (row_at labels number) → IsIn (labelled_block cells (numbers_of cells) label) (real.cases number)
        found label among =
            let (before, has) = (owned.each number label within).0 among in
            elim (record_of label number has) [
              | inl body ↦
                  absurd
                  (both_ways (is_body (kind number)) (switches_are_no_bodies (kind number) is)
                  (owner_ends is_label is_body cells tree real.entry body_around no_body body_told (length cells) label number (omega arith) before body.1).0)
              | inr choice ↦ owner_has is_case ends_cases cells tree real.entry chooser_around no_chooser chooser_told label number before choice.0 choice.1
            ]

        to : IsIn x (known.cases number) → IsIn x (real.cases number)
        to there =
            let (label, among, same) = mapped_from (labelled_block cells (numbers_of cells)) (row_at labels number) x there in
            subst (λ it. IsIn it (real.cases number)) (sym same) (found label among)

        from : IsIn x (real.cases number) → IsIn x (known.cases number)
        from there =
            let label = label_of_owner is_case ends_cases cells tree real.entry chooser_around no_chooser chooser_told number x (switches_end (kind number) is) there in
            subst (λ it. IsIn it (known.cases number)) (sym label.is)
            (mapped_to (labelled_block cells (numbers_of cells)) (row_at labels number) label.label
            ((owned.each number label.label within).1 (label.within, case_owner label.label label.sought ∙ label.owned)))

    -- Jumps

    same_named : (number : ℕ) (name : List ℕ) → number < length cells → kind number ≡ meaning.Goto name → SameMembers (named name (known.seen number)) (named name (real.seen number))
    same_named number name within is block = (to, from)
      where
        goto : (id : NameId) × (kind_at (kinds_of kept) number ≡ kinds.Goto id) × (names id ≡ name)
        goto =
            let (token, seen) = kind_kept names kept number in
            goto_seen names token (kind_at (kinds_of kept) number) name (sym seen ∙ is)

        within_kinds : number < length (kinds_of kept)
        within_kinds = omega (arith, within, same_length, same_kinds)

        gone : (label : ℕ) → IsIn label (row_at jumps number) → IsIn (labelled_block cells (numbers_of cells) label) (real.seen number)
        gone label among =
            let (body, before, jump) = (jumped.each number label within_kinds).0 among in
            let body_within : body < length cells = omega (arith, before, same_length) in
            let (label_within, has) = (owned.each body label body_within).0 jump.among in
            let (token, seen) = kind_kept names kept label in
            let sought : is_label (kind label) ≡ true = ap is_label seen ∙ ap (λ it. is_label (kind_seen names token it)) jump.is in
            let around : body_around label ≡ Some body = sym (label_owner label sought) ∙ has in
            seen_to cells tree real.labels number (length cells) 0 (labelled_block cells (numbers_of cells) label)
            (record {
              body = body;
              later = jump.goto.before;
              within = body_within;
              kind = (owner_ends is_label is_body cells tree real.entry body_around no_body body_told (length cells) label body (omega arith) label_within around).0;
              begins = jump.goto.behind;
              there = owner_has is_label is_body cells tree real.entry body_around no_body body_told label body label_within sought around;
            })
            (omega arith) (omega (arith, body_within))

        to : IsIn block (named name (known.seen number)) → IsIn block (named name (real.seen number))
        to there =
            let (found, among, such) = places_from (is_named name) (known.seen number) block there in
            let (label, in_row, same) = mapped_from (labelled_block cells (numbers_of cells)) (row_at jumps number) (found, block) among in
            places_to (is_named name) (real.seen number) (found, block) (subst (λ it. IsIn it (real.seen number)) (sym same) (gone label in_row)) such

        -- a label of the name is one whose id is that of the `goto`
        named_alike : (label : ℕ) → is_label (kind label) ≡ true → is_named name (kind label) ≡ true → kind_at (kinds_of kept) label ≡ kinds.Label goto.0
        named_alike label sought such =
            let (token, seen) = kind_kept names kept label in
            let (id, kept_so) = label_seen names token (kind_at (kinds_of kept) label) (sym (ap is_label seen) ∙ sought) in
            let alike : is_named (names goto.0) (kind_seen names token (kinds.Label id)) ≡ true =
            ap (λ it. is_named it (kind_seen names token (kinds.Label id))) goto.2 ∙ ap (λ it. is_named name (kind_seen names token it)) (sym kept_so) ∙ ap (is_named name) (sym seen) ∙ such in
            let same : id.0 ≡ goto.0.0 = eqb-true id.0 goto.0.0 (sym (apart id goto.0) ∙ alike) in
            kept_so ∙ (λ i. kinds.Label (record { 0 = same i }))

        from : IsIn block (named name (real.seen number)) → IsIn block (named name (known.seen number))
        from there =
            let (found, among, such) = places_from (is_named name) (real.seen number) block there in
            let seen = seen_from cells tree real.labels number (length cells) 0 (found, block) (omega arith) among in
            let label = label_of_owner is_label is_body cells tree real.entry body_around no_body body_told seen.body (found, block) seen.kind seen.there in
            places_to (is_named name) (known.seen number) (found, block)
            (subst (λ it. IsIn it (known.seen number)) (sym label.is)
            (mapped_to (labelled_block cells (numbers_of cells)) (row_at jumps number) label.label
            ((jumped.each number label.label within_kinds).1 (
              seen.body,
              omega (arith, seen.within, same_length),
              record {
                name = goto.0;
                goto = record { behind = seen.begins; before = seen.later; is = goto.1 };
                among = (owned.each seen.body label.label seen.within).1 (label.within, label_owner label.label label.sought ∙ label.owned);
                is = named_alike label.label label.sought (ap (λ (it : LabelledBlock). is_named name it.0) (sym label.is) ∙ such);
              },
            ))))
            such

    -- Goings

    same_entry : (part : Option ℕ) (otherwise : ℕ) → entry_in known part otherwise ≡ entry_in real part otherwise
    same_entry None otherwise = refl
    same_entry (Some part) otherwise = refl

    same_led : (number : ℕ) (parts : List ℕ) (way : Way) → led_block known number parts way ≡ led_block real number parts way
    same_led number parts (Into place) = same_entry (slice_get parts place) (real.hit number)
    same_led number parts Moment = refl
    same_led number parts (Out outcome) = refl

    same_itself : (xs : List ℕ) → SameMembers xs xs
    same_itself xs x = ((λ there. there), (λ there. there))

    same_gone : (number : ℕ) → number < length cells → (going : Going) → ((name : List ℕ) → going ≡ Jumps name → kind number ≡ meaning.Goto name)
        → (going ≡ Picks → is_switch (kind number) ≡ true)
        → SameMembers (gone_block known number (cell_at cells number) going) (gone_block real number (cell_at cells number) going)
    same_gone number within (On way) jumps_so picks_so =
        subst (λ block. SameMembers (led_block known number (cell_at cells number).parts way ∷ []) (block ∷ [])) (same_led number (cell_at cells number).parts way)
        (same_itself (led_block known number (cell_at cells number).parts way ∷ []))
    same_gone number within Breaks jumps_so picks_so = same_itself (real.broken number ∷ [])
    same_gone number within Continues jumps_so picks_so = same_itself (real.continued number ∷ [])
    same_gone number within (Jumps name) jumps_so picks_so = same_named number name within (jumps_so name refl)
    same_gone number within Picks jumps_so picks_so =
        same_picked (number_of (kind number)) (known.cases number) (real.cases number) (real.hit number) (same_cases number within (picks_so refl))

    same_all : (number : ℕ) → number < length cells → (goings : List Going) → ((name : List ℕ) → IsIn (Jumps name) goings → kind number ≡ meaning.Goto name)
        → (IsIn Picks goings → is_switch (kind number) ≡ true)
        → SameMembers (all_gone_blocks known number (cell_at cells number) goings) (all_gone_blocks real number (cell_at cells number) goings)
    same_all number within [] jumps_so picks_so = same_itself []
    same_all number within (going ∷ goings) jumps_so picks_so =
        same_joined (gone_block known number (cell_at cells number) going) (gone_block real number (cell_at cells number) going)
        (all_gone_blocks known number (cell_at cells number) goings) (all_gone_blocks real number (cell_at cells number) goings)
        (same_gone number within going (λ name is. jumps_so name (inl (sym is))) (λ is. picks_so (inl (sym is))))
        (same_all number within goings (λ name there. jumps_so name (inr there)) (λ there. picks_so (inr there)))

    -- The graph

    abbrev graph : ℕ → List BasicBlock
    graph brace = graph_by known brace cells

    block_is : (brace number : ℕ) (block : BasicBlock) (others : List ℕ) → get_or (graph brace) number empty_block ≡ block → SameMembers block.successors others
        → IsBlock (graph brace) number block.steps others
    block_is brace number block others is same = (
      ap (λ (it : BasicBlock). it.steps) is,
      (λ other. subst (λ (it : BasicBlock). IsIn other it.successors ↔ IsIn other others) (sym is) (same other)),
    )

    cell_within : (number : ℕ) (cell : Cell) → slice_get cells number ≡ Some cell → (cell_at cells number ≡ cell) × (number < length cells)
    cell_within number cell has = (get_or_from_slice_get cells number cell _ has, slice_within cells number cell has)
      where
        slice_within : (all : List Cell) (number : ℕ) (cell : Cell) → slice_get all number ≡ Some cell → number < length all
        slice_within [] number cell has = absurd (none-some cell has)
        slice_within (first ∷ all) zero cell has = omega arith
        slice_within (first ∷ all) (suc number) cell has = omega (arith, slice_within all number cell has)

    pub keeps : (brace : ℕ) → IsFlowOf cells (length cells - 1) brace (closing_of cells) real (graph brace)
    keeps brace =
        record {
          begins_so = block_is brace 0 (first_block known (length cells - 1)) (real.entry (length cells - 1) ∷ []) (opens known brace cells) (same_itself (real.entry (length cells - 1) ∷ []));
          closes = block_is brace (closing_of cells) (closing_block brace) [] (closes known brace cells) (same_itself []);
          entries = λ number cell has stopped.
              let (is, within) = cell_within number cell has in
              subst (λ it. IsBlock (graph brace) (real.entry number) (entry_steps it.kind it.token) (all_gone_blocks real number it (begins it.kind (length it.parts)))) is
              (block_is brace (real.entry number) (entry_block known number (cell_at cells number)) (all_gone_blocks real number (cell_at cells number) (begins (kind number) (length (cell_at cells number).parts)))
              ((blocks_of_cell known brace cells number (cell_at cells number) (has ∙ ap (λ it. Some it) (sym is))).entry (ap stops is ∙ stopped))
              (same_all number within (begins (kind number) (length (cell_at cells number).parts))
              (λ name there. jumps_begin (kind number) (length (cell_at cells number).parts) name there)
              (λ there. absurd (picks_begin (kind number) (length (cell_at cells number).parts) there))));
          moments = λ number cell has moment.
              let (is, within) = cell_within number cell has in
              subst (λ it. IsBlock (graph brace) (real.moment number) (moment_steps it.kind it.token) (all_gone_blocks real number it (onward it.kind))) is
              (block_is brace (real.moment number) (moment_block known number (cell_at cells number)) (all_gone_blocks real number (cell_at cells number) (onward (kind number)))
              ((blocks_of_cell known brace cells number (cell_at cells number) (has ∙ ap (λ it. Some it) (sym is))).moment
              (ap (λ it. may_have_moment it.kind (length it.parts)) is ∙ may_have cell moment))
              (same_all number within (onward (kind number)) (λ name there. absurd (jumps_on (kind number) name there)) (λ there. picks_on (kind number) there)));
        }

    pub has_paths : (brace : ℕ) → HasPathsOf cells brace (graph brace)
    has_paths brace body is path =
        has_the_paths cells (length cells - 1) brace (closing_of cells) real (graph brace) (keep cells exits are tree) (keeps brace) body is path

-- As the code has them

abbrev by : List Cell → CellTables → List BlockNumbers → Tables
by cells tables numbers =
    tables_by numbers tables.exits.items (λ number. []) (λ number. labelled cells numbers (row_at (rows tables.labels.items) number))
    (λ number. labelled cells numbers (row_at (rows tables.jumps.items) number))

pub returned : (names : NameId → List ℕ) → KeepsApart names → (kept : List KeptCell) → IsOneTree (cells_seen names kept) → (tables : CellTables) (closing brace : ℕ) (firsts : List ℕ)
    (graph : List BasicBlock)
    → tables.numbers.items ≡ numbers_of (cells_seen names kept) → closing ≡ closing_of (cells_seen names kept) → firsts ≡ firsts_of (cells_seen names kept)
    → AreExits (cells_seen names kept) tables.numbers.items closing tables.exits.items
    → AreOwned (cells_seen names kept) tables.exits.items (length kept) (rows tables.labels.items)
    → AreJumps (kinds_of kept) firsts (rows tables.labels.items) (length kept) (rows tables.jumps.items)
    → graph ≡ graph_by (tables_seen (cells_seen names kept) tables) brace (cells_seen names kept) → HasPathsOf (cells_seen names kept) brace graph
returned names apart kept tree tables closing brace firsts graph numbers closes_at begin are owned jumped is =
    subst (λ it. HasPathsOf (cells_seen names kept) brace it) (sym (is ∙ ap (λ it. graph_by (by (cells_seen names kept) tables it) brace (cells_seen names kept)) numbers))
    (has_paths names apart kept tree tables.exits.items
    (subst (λ it. AreExits (cells_seen names kept) (numbers_of (cells_seen names kept)) it tables.exits.items) closes_at
    (subst (λ it. AreExits (cells_seen names kept) it closing tables.exits.items) numbers are))
    (rows tables.labels.items) (rows tables.jumps.items)
    (subst (λ it. AreOwned (cells_seen names kept) tables.exits.items it (rows tables.labels.items)) (sym (length-map kept (cell_seen names))) owned)
    (subst (λ it. AreJumps (kinds_of kept) it (rows tables.labels.items) (length kept) (rows tables.jumps.items)) begin jumped) brace)
