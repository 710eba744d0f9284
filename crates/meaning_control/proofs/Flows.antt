-- A flow that keeps the equations of a body has its paths.
use Rattle.std.proofs.Common.{◌≡◌, ◌↔◌, inl, inr, ℕ, true, List, [], ◌∷◌, length, refl, sym, ap, subst, ◌∙◌}
use Rattle.std.specs.List.{AllZip}
use Rattle.meaning_paths.specs.Steps.{Step}
use Rattle.meaning_paths.specs.Walks.{IsIn, IsPath}
use Rattle.meaning_paths.specs.Graphs.{BasicBlock, steps_at, successors_at, IsPathOf}
use Rattle.meaning_control.specs.Choices.{number_of, is_named}
use Rattle.meaning_control.specs.Rows.{Moment, Going, On, Breaks, Continues, Jumps, Picks, begins, onward}
use Rattle.meaning_control.specs.States.{ControlNode, kind_of, parts_of, Frame, State, Before, AtMoment, Closing, enter, after, cases_in, labels_seen, gone, all_gone, next_states, steps_in, IsControlPath}
use Rattle.meaning_control.specs.laws.Cells.{Cell, IsNodeOf, HasMoment, Tables, AreTables, gone_block, all_gone_blocks, IsFlowOf}
use Rattle.meaning_control.proofs.Simulations.{path_follows, same_from_before}
use Rattle.meaning_control.proofs.Standing.{cell_of, HasCell, as_many, StandsIn, BlockOf, enters, leads, leaves, breaks, continues}
use Rattle.meaning_control.proofs.Labels.{zipped_append, zipped_into, zipped_from, chosen, picks, finds_cases, sees}

module _ (cells : List Cell) (root brace closing : ℕ) (tables : Tables) (graph : List BasicBlock) (are : AreTables cells root closing tables)
    (flow : IsFlowOf cells root brace closing tables graph)
  where
    abbrev Stands : State → ℕ → Type 0
    Stands state block = BlockOf cells root closing tables are state block

    -- where control goes from a cell

    goes : (node : ControlNode) (numbers : List ℕ) (number : ℕ) (frames : List Frame) → HasCell cells root closing tables are number node numbers
        → StandsIn cells root closing tables are number frames → (going : Going) → (going ≡ On Moment → HasMoment (cell_of cells root closing tables are node numbers))
        → AllZip Stands (gone node frames going) (gone_block tables number (cell_of cells root closing tables are node numbers) going)
    goes node numbers number frames has stands (On way) moment = (
      leads cells root closing tables are node numbers number frames has stands (leaves cells root closing tables are frames number stands) way
          (λ is. moment (ap On is)),
      tt,
    )
    goes node numbers number frames has stands Breaks moment = (breaks cells root closing tables are frames number stands, tt)
    goes node numbers number frames has stands Continues moment = (continues cells root closing tables are frames number stands, tt)
    goes node numbers number frames has stands (Jumps name) moment =
        chosen Stands (is_named name) (labels_seen frames) (tables.seen number) (sees cells root closing tables are frames number stands)
    goes node numbers number frames has stands Picks moment =
        picks Stands (number_of (kind_of node)) (cases_in node frames) (tables.cases number) (after frames true) (tables.hit number)
        (finds_cases cells root closing tables are node number numbers frames has stands)
        (leaves cells root closing tables are frames number stands).0

    all_go : (node : ControlNode) (numbers : List ℕ) (number : ℕ) (frames : List Frame) → HasCell cells root closing tables are number node numbers
        → StandsIn cells root closing tables are number frames → (goings : List Going)
        → (IsIn (On Moment) goings → HasMoment (cell_of cells root closing tables are node numbers))
        → AllZip Stands (all_gone node frames goings) (all_gone_blocks tables number (cell_of cells root closing tables are node numbers) goings)
    all_go node numbers number frames has stands [] moment = tt
    all_go node numbers number frames has stands (going ∷ goings) moment =
        zipped_append Stands (gone node frames going) (all_gone node frames goings)
        (gone_block tables number (cell_of cells root closing tables are node numbers) going)
        (all_gone_blocks tables number (cell_of cells root closing tables are node numbers) goings)
        (goes node numbers number frames has stands going (λ is. moment (inl (sym is))))
        (all_go node numbers number frames has stands goings (λ there. moment (inr there)))

    -- The states behind one, and the blocks behind that which stands for it
    abbrev GoesOn : State → ℕ → Type 0
    GoesOn state block =
        (numbers : List ℕ) × AllZip Stands (next_states state) numbers × ((other : ℕ) → IsIn other (successors_at graph block) ↔ IsIn other numbers)

    goes_on : (state : State) (block : ℕ) → Stands state block → GoesOn state block
    goes_on (Before node frames) block (number, numbers, has, stands, stopped, at) = (
      _,
      subst (λ count. AllZip Stands (all_gone node frames (begins (kind_of node) count)) (all_gone_blocks tables number (cell_of cells root closing tables are node numbers) (begins (kind_of node) (length numbers))))
          (sym (as_many cells root closing tables are numbers (parts_of node) has.1))
          (all_go node numbers number frames has stands (begins (kind_of node) (length numbers)) (λ there. inl there)),
      subst (λ now. (other : ℕ) → IsIn other (successors_at graph now) ↔ IsIn other (all_gone_blocks tables number (cell_of cells root closing tables are node numbers) (begins (kind_of node) (length numbers))))
          (sym at)
          (flow.entries number _ has.0 stopped).1,
    )
    goes_on (AtMoment node frames) block (number, numbers, has, stands, moment, at) = (
      _,
      all_go node numbers number frames has stands (onward (kind_of node)) (λ there. inr (inl there)),
      subst (λ now. (other : ℕ) → IsIn other (successors_at graph now) ↔ IsIn other (all_gone_blocks tables number (cell_of cells root closing tables are node numbers) (onward (kind_of node))))
          (sym at)
          (flow.moments number _ has.0 moment).1,
    )
    goes_on Closing block at = ([], tt, subst (λ now. (other : ℕ) → IsIn other (successors_at graph now) ↔ IsIn other []) (sym at) flow.closes.1)

    same_steps : (state : State) (block : ℕ) → Stands state block → steps_at graph block ≡ steps_in brace state
    same_steps (Before node frames) block (number, numbers, has, stands, stopped, at) = ap (steps_at graph) at ∙ (flow.entries number _ has.0 stopped).0
    same_steps (AtMoment node frames) block (number, numbers, has, stands, moment, at) = ap (steps_at graph) at ∙ (flow.moments number _ has.0 moment).0
    same_steps Closing block at = ap (steps_at graph) at ∙ flow.closes.0

    -- both ways

    forth : (state behind : State) (block : ℕ) → Stands state block → IsIn behind (next_states state)
        → (further : ℕ) × IsIn further (successors_at graph block) × Stands behind further
    forth state behind block stands there =
        let (numbers, zipped, successors) = goes_on state block stands in
        let (further, into, stands_behind) = zipped_into Stands (next_states state) numbers zipped behind there in
        (further, (successors further).1 into, stands_behind)

    back : (block further : ℕ) (state : State) → Stands state block → IsIn further (successors_at graph block)
        → (behind : State) × IsIn behind (next_states state) × Stands behind further
    back block further state stands there =
        let (numbers, zipped, successors) = goes_on state block stands in
        zipped_from Stands (next_states state) numbers zipped further ((successors further).0 there)

    pub has_the_paths : (body : ControlNode) → IsNodeOf cells root body → (path : List Step) → IsControlPath brace body path ↔ IsPathOf graph path
    has_the_paths body is path = (
      (λ goes. (from_before path).0 (path_follows (steps_in brace) next_states (enter body []) (steps_at graph) (successors_at graph) (tables.entry root) Stands begun same_steps forth path goes)),
      (λ goes.
          path_follows (steps_at graph) (successors_at graph) (tables.entry root) (steps_in brace) next_states (enter body []) (λ block state. Stands state block) begun
          (λ block state stands. sym (same_steps state block stands)) back path ((from_before path).1 goes)),
    )
      where
        begun : Stands (enter body []) (tables.entry root)
        begun = enters cells root closing tables are body root [] is refl

        from_before : (path : List Step) → IsPath (steps_at graph) (successors_at graph) (tables.entry root) path ↔ IsPathOf graph path
        from_before = same_from_before (steps_at graph) (successors_at graph) 0 (tables.entry root) flow.begins_so.0 flow.begins_so.1
