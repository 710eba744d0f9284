-- Statements of the first form: where no rule fails by the rules of all units, none does by those of the form.
use Rattle.std.proofs.Common.{◌≡◌, ◌≢◌, ℕ, zero, suc, ◌+◌, ◌<◌, true, false, ◌&&◌, List, [], ◌∷◌, ◌++◌, length, take, All, Contains, Option, Some, None, option_map, option_and_then, slice_get, refl, sym, ap, ap₂, subst, ◌∙◌}
use Rattle.std.proofs.lemmas.Bool.{false_from_ne_true}
use Rattle.std.proofs.lemmas.Option.{none-some, same_Some, get_or_from_slice_get, slice_get-map}
use Rattle.std.proofs.lemmas.List.Elements.{All-nil, All-cons, All-append, Contains-append_left, Contains-append_right}
use Rattle.vocabulary.specs.Rules.{rule_class}
use Rattle.vocabulary.specs.declared.rule.RuleCode.TheVariants.{A1, A4}
use Rattle.vocabulary.specs.declared.class.Class.TheVariants.{AddressSpace}
use Rattle.vocabulary.specs.declared.node_kind.NodeKind.{NodeKind}
use Rattle.vocabulary.specs.declared.node_kind.NodeKind.TheVariants as kinds
use Rattle.vocabulary.specs.declared.role.Role.TheVariants.{Evaluated}
use Rattle.vocabulary.specs.Roles.{role_of}
use Rattle.meaning_types.specs.Types.{Flags, TypeTree, flags_of, has_flag, no_flags, pointer_to, value_type}
use Rattle.meaning_types.specs.Spaces.{MixSpaces}
use Rattle.meaning_operands.specs.Failures.{Failure}
use Rattle.meaning_tree.specs.Trees.{SyntaxTree, Node, NoParts}
use Rattle.meaning_syntax.specs.Items.{Statement, Assign, AssignThrough, AssignAddress, Item, Object}
use Rattle.meaning_syntax.specs.Binding.{object_of}
use Rattle.meaning_syntax.specs.Trees.{address_tree, assignment_tree, indirection_tree, name_tree, one_part, statement_tree, two_parts}
use Rattle.meaning_first_rules.specs.Evaluation.{Access, Conversion, access_at, assignment_at}
use Rattle.meaning_first_rules.specs.Expressions.{target_of}
use Rattle.meaning_first_rules.specs.Placed.{statement_accesses, statement_conversions}
use Rattle.meaning_first_rules.specs.Typing.{address_type_of, declared_type, flagged, target_type_of, type_of, value_type_of}
use Rattle.meaning_first_rules.proofs.Elements.{Contains-cons_head}
use Rattle.meaning_typing.specs.Facts.{Fact, Expression, ExpressionFact, Addressed, NotAddress, fact_at, type_of_value}
use Rattle.meaning_typing.specs.Rows.{fails_with}
use Rattle.meaning_typing.specs.Surroundings.{Surrounding, AreSurroundings, asked, surrounding_at, wanted}
use Rattle.meaning_typing.specs.Typing.{access_failures, accesses, part_fact, token_at}
use Rattle.meaning_typing.specs.Units.{UnitNodes, child_at, children_at, kind_at, node_at}
use Rattle.meaning_typing.specs.laws.Surroundings.{IsLaidUnit}
use Rattle.meaning_judgements.specs.UnitRows.{unit_row_at}
use Rattle.meaning_judgements.specs.WholeFacts.{AreWholeFacts, whole_failures_at}
use Rattle.meaning_first_units.specs.Laws.{IsSilent}
use Rattle.meaning_first_units.specs.Units.{IsFirstFormUnit, Renaming}
use Rattle.meaning_first_units.proofs.Distinct.{found}
use Rattle.meaning_first_units.proofs.Named.{around-is, earlier-is, fact-is, object-name}
use Rattle.meaning_first_units.proofs.Reaching.{child-before}
use Rattle.meaning_first_units.proofs.Renamed.{flag-stays, mixed-renamed, renamed_flags, renamed_scalar}
use Rattle.meaning_first_units.proofs.Rows.{access-fails, address-fact, addressed, assignment-fails, indirection-fact, located}
use Rattle.meaning_first_units.proofs.Saying.{IsSaid, object-said, told-flags}
use Rattle.meaning_first_units.proofs.Scalars.{scalar}
use Rattle.meaning_first_units.proofs.Standing.{Makes, first-part, leaf-of, node-of}

-- Accesses and conversions at which no rule of the form fails

abbrev pub QuietAccess : Access → Type 0
QuietAccess access = has_flag (flags_of access.place) ≡ false

abbrev pub QuietConversion : Conversion → Type 0
QuietConversion conversion = MixSpaces conversion.to conversion.from → ⊥

access-quiet : (token : ℕ) (place : Option TypeTree) → ((type_ : TypeTree) → place ≡ Some type_ → has_flag (flags_of type_) ≡ false) → All QuietAccess (access_at token place)
access-quiet token None quiet = All-nil QuietAccess
access-quiet token (Some type_) quiet = All-cons QuietAccess (record { token = token; place = type_ }) [] (quiet type_ refl) (All-nil QuietAccess)

conversion-quiet :
    (token : ℕ) (to from : Option TypeTree) → ((type_ other : TypeTree) → to ≡ Some type_ → from ≡ Some other → MixSpaces type_ other → ⊥)
    → All QuietConversion (assignment_at token to from)
conversion-quiet token None from quiet = All-nil QuietConversion
conversion-quiet token (Some type_) None quiet = All-nil QuietConversion
conversion-quiet token (Some type_) (Some other) quiet = All-cons QuietConversion _ [] (quiet type_ other refl refl) (All-nil QuietConversion)

-- Types of names

-- what a map of an option comes from
mapped : {A B : Type 0} (f : A → B) (found : Option A) (y : B) → option_map f found ≡ Some y → (x : A) × (found ≡ Some x) × (f x ≡ y)
mapped f None y is = absurd (none-some y is)
mapped f (Some x) y is = (x, refl, same_Some (f x) y is)

chained : {A B : Type 0} (f : A → Option B) (found : Option A) (y : B) → option_and_then f found ≡ Some y → (x : A) × (found ≡ Some x) × (f x ≡ Some y)
chained f None y is = absurd (none-some y is)
chained f (Some x) y is = (x, refl, is)

-- the node is known to designate a place of this type, whose space has another name there
pub record IsPlace (renaming : Renaming) (items : List Item) (fact : Fact) (type_ : TypeTree) : Type 0 where
  pub stars : ℕ
  pub flags : Flags
  pub address : Addressed
  pub said : IsSaid items flags
  pub known : fact ≡ Expression (located (renamed_scalar renaming stars flags) address)
  pub is : type_ ≡ scalar stars flags

-- and to have a value of this type
pub record IsOperand (renaming : Renaming) (items : List Item) (fact : Fact) (type_ : TypeTree) : Type 0 where
  pub stars : ℕ
  pub flags : Flags
  pub expression : ExpressionFact
  pub said : IsSaid items flags
  pub known : fact ≡ Expression expression
  pub known_type : type_of_value expression ≡ value_type (renamed_scalar renaming stars flags)
  pub is : type_ ≡ value_type (scalar stars flags)
  pub no_null : expression.is_null ≡ false

value-is : (stars : ℕ) (flags : Flags) (address : Addressed) → type_of_value (located (scalar stars flags) address) ≡ value_type (scalar stars flags)
value-is zero flags address = refl
value-is (suc stars) flags address = refl

-- the value of a place
loaded : (renaming : Renaming) (items : List Item) (fact : Fact) (type_ : TypeTree) → IsPlace renaming items fact type_ → IsOperand renaming items fact (value_type type_)
loaded renaming items fact type_ place =
    record {
      stars = place.stars;
      flags = place.flags;
      expression = located (renamed_scalar renaming place.stars place.flags) place.address;
      said = place.said;
      known = place.known;
      known_type = value-is place.stars (renamed_flags renaming place.flags) place.address;
      is = ap value_type place.is;
      no_null = refl;
    }

-- behind a pointer lies a place
pub record Behind (stars : ℕ) (flags : Flags) (target : TypeTree) : Type 0 where
  pub fewer : ℕ
  pub more : stars ≡ suc fewer
  pub is : target ≡ scalar fewer flags

behind : (stars : ℕ) (flags : Flags) (target : TypeTree) → target_of (value_type (scalar stars flags)) ≡ Some target → Behind stars flags target
behind zero flags target is = absurd (none-some target is)
behind (suc stars) flags target is = record { fewer = stars; more = refl; is = sym (same_Some (scalar stars flags) target is) }

module _ (renaming : Renaming) (nodes : UnitNodes) (items : List Item) (surroundings : List Surrounding) (facts : List Fact) (unit : IsLaidUnit nodes) (form : IsFirstFormUnit renaming nodes items)
    (are : AreSurroundings nodes surroundings) (known : AreWholeFacts nodes surroundings facts) (silent : IsSilent nodes) where
  -- no rule of the class fails at a node
  none-fails : (handle : ℕ) → handle < length nodes → (failure : Failure) → Contains (whole_failures_at nodes surroundings facts handle) failure → rule_class failure.rule ≢ AddressSpace
  none-fails handle within failure among = silent failure (surroundings, facts, handle, are, known, within, among)

  unflagged :
      (handle : ℕ) (type_ : TypeTree) → handle < length nodes → IsPlace renaming items (fact_at facts handle) type_ → (surrounding_at surroundings handle).is_evaluated ≡ true
      → accesses (surrounding_at surroundings handle).want ≡ true → has_flag (flags_of type_) ≡ false
  unflagged handle type_ within place evaluated wanted =
      false_from_ne_true (has_flag (flags_of type_)) (λ flagged.
      let surrounding = surrounding_at surroundings handle in
      let token = token_at nodes handle in
      let failure : Failure = fails_with A4 token 0 (Some (renamed_scalar renaming place.stars place.flags)) None [] in
      let fails : access_failures token surrounding (fact_at facts handle) ≡ failure ∷ [] =
      ap (access_failures token surrounding) place.known
      ∙ access-fails token place.stars (renamed_flags renaming place.flags) place.address surrounding evaluated wanted
      (flag-stays renaming place.stars place.flags ∙ ap (λ t. has_flag (flags_of t)) (sym place.is) ∙ flagged) in
      none-fails handle within failure
      (Contains-append_right (unit_row_at nodes surroundings (take handle facts) handle).failures (access_failures token surrounding (fact_at facts handle)) failure
      (subst (λ failures. Contains failures failure) (sym fails) (Contains-cons_head failure []))) refl)

  -- an assignment of a value to a place mixes no spaces
  unmixed :
      (handle : ℕ) (type_ other : TypeTree) → handle < length nodes → kind_at nodes handle ≡ kinds.Assignment
      → IsPlace renaming items (part_fact nodes (take handle facts) handle 0) type_ → IsOperand renaming items (part_fact nodes (take handle facts) handle 1) other
      → MixSpaces type_ other → ⊥
  unmixed handle type_ other within is_kind place operand mixed =
      let token = token_at nodes handle in
      let right = operand.expression in
      let flags = renamed_flags renaming place.flags in
      let failure : Failure = fails_with A1 token 0 (Some (scalar place.stars flags)) (Some (type_of_value right)) [] in
      let told = told-flags renaming items form.told_apart place.flags operand.flags place.said operand.said in
      let fails : (unit_row_at nodes surroundings (take handle facts) handle).failures ≡ failure ∷ [] =
      assignment-fails nodes surroundings (take handle facts) handle place.stars flags place.address right is_kind place.known operand.known operand.no_null
      (subst (MixSpaces (scalar place.stars flags)) (sym operand.known_type)
      (mixed-renamed renaming place.flags operand.flags told place.stars operand.stars
      (subst (λ t. MixSpaces t (value_type (scalar operand.stars operand.flags))) place.is (subst (MixSpaces type_) operand.is mixed)))) in
      none-fails handle within failure
      (Contains-append_left (unit_row_at nodes surroundings (take handle facts) handle).failures
      (access_failures token (surrounding_at surroundings handle) (fact_at facts handle)) failure
      (subst (λ failures. Contains failures failure) (sym fails) (Contains-cons_head failure []))) refl

  -- A part of a node that is evaluated

  pub record Below (parent place : ℕ) (kind : NodeKind) (tree : SyntaxTree) : Type 0 where
    pub handle : ℕ
    pub makes : Makes renaming nodes handle tree
    pub before : handle < parent
    pub is_child : child_at nodes parent place ≡ handle
    pub evaluated : (surrounding_at surroundings handle).is_evaluated ≡ true
    pub want : (surrounding_at surroundings handle).want ≡ wanted kind place Evaluated

  below :
      (parent place : ℕ) (kind : NodeKind) (child : ℕ × ℕ) (tree : SyntaxTree) → parent < length nodes → kind_at nodes parent ≡ kind
      → (surrounding_at surroundings parent).is_evaluated ≡ true → slice_get (node_at nodes parent).children place ≡ Some child → Evaluated ≡ role_of child.1
      → Makes renaming nodes child.0 tree → Below parent place kind tree
  below parent place kind child tree within is_kind evaluated at in_role makes =
      let around =
      around-is renaming nodes items surroundings facts unit form are known parent place child at
      ∙ ap₂ (λ k role. asked k parent place role (surrounding_at surroundings parent)) is_kind (sym in_role) in
      record {
        handle = child.0;
        makes = makes;
        before = child-before nodes unit parent place child within at;
        is_child =
            get_or_from_slice_get (children_at nodes parent) place child.0 (length nodes)
            (slice_get-map (λ (c : ℕ × ℕ). c.0) (node_at nodes parent).children place ∙ ap (option_map (λ (c : ℕ × ℕ). c.0)) at);
        evaluated = ap (λ (s : Surrounding). s.is_evaluated) around ∙ ap (λ b. b && true) evaluated;
        want = ap (λ (s : Surrounding). s.want) around;
      }

  -- the only part of a node, and two of them
  below-one :
      (handle : ℕ) (kind : NodeKind) (token : ℕ) (name : List ℕ) (number : ℕ) (tree : SyntaxTree) → Makes renaming nodes handle (Node kind token name number (one_part tree))
      → (surrounding_at surroundings handle).is_evaluated ≡ true → Below handle 0 kind tree
  below-one handle kind token name number tree makes evaluated =
      let is = node-of renaming nodes handle kind token name number (one_part tree) makes in
      let part = first-part renaming nodes is.0 Evaluated tree NoParts is.2 in
      below handle 0 kind part.child tree is.1.within is.1.is_kind evaluated
      (ap (λ children. slice_get children 0) (is.1.are_children ∙ part.are)) part.in_role part.makes

  below-first :
      (handle : ℕ) (kind : NodeKind) (token : ℕ) (name : List ℕ) (number : ℕ) (left right : SyntaxTree) → Makes renaming nodes handle (Node kind token name number (two_parts left right))
      → (surrounding_at surroundings handle).is_evaluated ≡ true → Below handle 0 kind left
  below-first handle kind token name number left right makes evaluated =
      let is = node-of renaming nodes handle kind token name number (two_parts left right) makes in
      let part = first-part renaming nodes is.0 Evaluated left (one_part right) is.2 in
      below handle 0 kind part.child left is.1.within is.1.is_kind evaluated
      (ap (λ children. slice_get children 0) (is.1.are_children ∙ part.are)) part.in_role part.makes

  below-second :
      (handle : ℕ) (kind : NodeKind) (token : ℕ) (name : List ℕ) (number : ℕ) (left right : SyntaxTree) → Makes renaming nodes handle (Node kind token name number (two_parts left right))
      → (surrounding_at surroundings handle).is_evaluated ≡ true → Below handle 1 kind right
  below-second handle kind token name number left right makes evaluated =
      let is = node-of renaming nodes handle kind token name number (two_parts left right) makes in
      let part = first-part renaming nodes is.0 Evaluated left (one_part right) is.2 in
      let last = first-part renaming nodes part.others Evaluated right NoParts part.make in
      below handle 1 kind last.child right is.1.within is.1.is_kind evaluated
      (ap (λ children. slice_get children 1) (is.1.are_children ∙ part.are ∙ ap (λ others. part.child ∷ others) last.are)) last.in_role last.makes

  -- what is known of a part where the node's own row asks
  part-is : (handle place : ℕ) (kind : NodeKind) (tree : SyntaxTree) (part : Below handle place kind tree) → part_fact nodes (take handle facts) handle place ≡ fact_at facts part.handle
  part-is handle place kind tree part =
      ap (fact_at (take handle facts)) part.is_child ∙ earlier-is renaming nodes items surroundings facts unit form are known handle part.handle part.before

  -- Expressions, behind these items

  module _ (before : List Item) (among : (item : Item) → Contains before item → Contains items item) where
    named-place : (handle token : ℕ) (name : List ℕ) (type_ : TypeTree) → Makes renaming nodes handle (name_tree token name) → type_of before name ≡ Some type_ → IsPlace renaming items (fact_at facts handle) type_
    named-place handle token name type_ makes is =
        let node = leaf-of renaming nodes handle kinds.Name token name 0 makes in
        let from = mapped declared_type (object_of before name) type_ is in
        let object = among (Object from.0.words from.0.stars name) (found before name from.0 from.1) in
        let known_as =
        object-name renaming nodes items surroundings facts unit form are known from.0.words from.0.stars name object handle node.within node.is_kind node.is_name in
        record {
          stars = from.0.stars;
          flags = flagged no_flags from.0.words;
          address = known_as.0;
          said = object-said items from.0.words from.0.stars name object;
          known = known_as.1;
          is = sym from.2;
        }

    -- a name whose value is wanted
    named-quiet :
        (parent place : ℕ) (kind : NodeKind) (token : ℕ) (name : List ℕ) → Below parent place kind (name_tree token name) → accesses (wanted kind place Evaluated) ≡ true
        → All QuietAccess (access_at token (type_of before name))
    named-quiet parent place kind token name part asked_for =
        access-quiet token (type_of before name) (λ type_ is.
        unflagged part.handle type_ (leaf-of renaming nodes part.handle kinds.Name token name 0 part.makes).within
        (named-place part.handle token name type_ part.makes is) part.evaluated (ap accesses part.want ∙ asked_for))

    named-value :
        (handle token : ℕ) (name : List ℕ) (type_ : TypeTree) → Makes renaming nodes handle (name_tree token name) → value_type_of before name ≡ Some type_
        → IsOperand renaming items (fact_at facts handle) type_
    named-value handle token name type_ makes is =
        let from = mapped value_type (type_of before name) type_ is in
        subst (IsOperand renaming items (fact_at facts handle)) from.2 (loaded renaming items (fact_at facts handle) from.0 (named-place handle token name from.0 makes from.1))

    -- `*pointer`
    pointed-place :
        (handle token inner : ℕ) (pointer : List ℕ) (type_ : TypeTree) → Makes renaming nodes handle (indirection_tree token (name_tree inner pointer))
        → (surrounding_at surroundings handle).is_evaluated ≡ true → target_type_of before pointer ≡ Some type_ → IsPlace renaming items (fact_at facts handle) type_
    pointed-place handle token inner pointer type_ makes evaluated is =
        let node = node-of renaming nodes handle kinds.Indirection token [] 0 (one_part (name_tree inner pointer)) makes in
        let part = below-one handle kinds.Indirection token [] 0 (name_tree inner pointer) makes evaluated in
        let target = chained target_of (value_type_of before pointer) type_ is in
        let from = mapped value_type (type_of before pointer) target.0 target.1 in
        let place = named-place part.handle inner pointer from.0 part.makes from.1 in
        let lies =
        behind place.stars place.flags type_ (ap (λ t. target_of (value_type t)) (sym place.is) ∙ ap target_of from.2 ∙ target.2) in
        let flags = renamed_flags renaming place.flags in
        let operand = located (scalar place.stars flags) place.address in
        record {
          stars = lies.fewer;
          flags = place.flags;
          address = NotAddress;
          said = place.said;
          known =
              fact-is renaming nodes items surroundings facts unit form are known handle node.1.within
              ∙ indirection-fact nodes surroundings (take handle facts) handle operand lies.fewer flags node.1.is_kind
              (part-is handle 0 kinds.Indirection (name_tree inner pointer) part ∙ place.known)
              (value-is place.stars flags place.address ∙ ap (λ stars. value_type (scalar stars flags)) lies.more);
          is = lies.is;
        }

    pointed-quiet :
        (parent place : ℕ) (kind : NodeKind) (token inner : ℕ) (pointer : List ℕ) → Below parent place kind (indirection_tree token (name_tree inner pointer))
        → accesses (wanted kind place Evaluated) ≡ true → All QuietAccess (access_at token (target_type_of before pointer))
    pointed-quiet parent place kind token inner pointer part asked_for =
        access-quiet token (target_type_of before pointer) (λ type_ is.
        unflagged part.handle type_ (node-of renaming nodes part.handle kinds.Indirection token [] 0 (one_part (name_tree inner pointer)) part.makes).1.within
        (pointed-place part.handle token inner pointer type_ part.makes part.evaluated is) part.evaluated (ap accesses part.want ∙ asked_for))

    -- `&object`
    address-value :
        (handle token inner : ℕ) (object : List ℕ) (type_ : TypeTree) → Makes renaming nodes handle (address_tree token (name_tree inner object))
        → (surrounding_at surroundings handle).is_evaluated ≡ true → address_type_of before object ≡ Some type_ → IsOperand renaming items (fact_at facts handle) type_
    address-value handle token inner object type_ makes evaluated is =
        let node = node-of renaming nodes handle kinds.Address token [] 0 (one_part (name_tree inner object)) makes in
        let part = below-one handle kinds.Address token [] 0 (name_tree inner object) makes evaluated in
        let from = mapped pointer_to (type_of before object) type_ is in
        let place = named-place part.handle inner object from.0 part.makes from.1 in
        let flags = renamed_flags renaming place.flags in
        record {
          stars = suc place.stars;
          flags = place.flags;
          expression = addressed nodes surroundings (take handle facts) handle place.stars flags place.address;
          said = place.said;
          known =
              fact-is renaming nodes items surroundings facts unit form are known handle node.1.within
              ∙ address-fact nodes surroundings (take handle facts) handle place.stars flags place.address node.1.is_kind
              (part-is handle 0 kinds.Address (name_tree inner object) part ∙ place.known);
          known_type = refl;
          is = sym from.2 ∙ ap pointer_to place.is;
          no_null = refl;
        }

    -- Statements

    abbrev pub IsQuiet : ℕ → Statement → Type 0
    IsQuiet first statement = All QuietAccess (statement_accesses before first statement) × All QuietConversion (statement_conversions before first statement)

    -- an assignment by what is known of its sides
    assigned-quiet :
        (handle token at : ℕ) (left right : SyntaxTree) (to from : Option TypeTree) → Makes renaming nodes handle (assignment_tree token left right)
        → (surrounding_at surroundings handle).is_evaluated ≡ true
        → ((part : Below handle 0 kinds.Assignment left) (type_ : TypeTree) → to ≡ Some type_ → IsPlace renaming items (fact_at facts part.handle) type_)
        → ((part : Below handle 1 kinds.Assignment right) (type_ : TypeTree) → from ≡ Some type_ → IsOperand renaming items (fact_at facts part.handle) type_)
        → All QuietConversion (assignment_at at to from)
    assigned-quiet handle token at left right to from makes evaluated place operand =
        let node = node-of renaming nodes handle kinds.Assignment token [] 0 (two_parts left right) makes in
        let first = below-first handle kinds.Assignment token [] 0 left right makes evaluated in
        let second = below-second handle kinds.Assignment token [] 0 left right makes evaluated in
        conversion-quiet at to from (λ type_ other is also.
        unmixed handle type_ other node.1.within node.1.is_kind
        (subst (λ fact. IsPlace renaming items fact type_) (sym (part-is handle 0 kinds.Assignment left first)) (place first type_ is))
        (subst (λ fact. IsOperand renaming items fact other) (sym (part-is handle 1 kinds.Assignment right second)) (operand second other also)))

    pub statement-quiet :
        (handle first : ℕ) (statement : Statement) → Makes renaming nodes handle (statement_tree first statement)
        → (surrounding_at surroundings handle).is_evaluated ≡ true → IsQuiet first statement
    statement-quiet handle first (Assign target source) makes evaluated =
        let left = name_tree first target in
        let right = name_tree (first + 2) source in
        let whole = below-one handle kinds.ExpressionStatement first [] 0 (assignment_tree (first + 1) left right) makes evaluated in
        let one = below-first whole.handle kinds.Assignment (first + 1) [] 0 left right whole.makes whole.evaluated in
        let other = below-second whole.handle kinds.Assignment (first + 1) [] 0 left right whole.makes whole.evaluated in (
          All-append QuietAccess (access_at first (type_of before target)) (access_at (first + 2) (type_of before source))
              (named-quiet whole.handle 0 kinds.Assignment first target one refl)
              (named-quiet whole.handle 1 kinds.Assignment (first + 2) source other refl),
          assigned-quiet whole.handle (first + 1) (first + 1) left right (type_of before target) (value_type_of before source) whole.makes whole.evaluated
              (λ part type_ is. named-place part.handle first target type_ part.makes is)
              (λ part type_ is. named-value part.handle (first + 2) source type_ part.makes is),
        )
    statement-quiet handle first (AssignThrough pointer source) makes evaluated =
        let left = indirection_tree first (name_tree (first + 1) pointer) in
        let right = name_tree (first + 3) source in
        let whole = below-one handle kinds.ExpressionStatement first [] 0 (assignment_tree (first + 2) left right) makes evaluated in
        let one = below-first whole.handle kinds.Assignment (first + 2) [] 0 left right whole.makes whole.evaluated in
        let inner = below-one one.handle kinds.Indirection first [] 0 (name_tree (first + 1) pointer) one.makes one.evaluated in
        let other = below-second whole.handle kinds.Assignment (first + 2) [] 0 left right whole.makes whole.evaluated in (
          All-append QuietAccess (access_at first (target_type_of before pointer) ++ access_at (first + 1) (type_of before pointer)) (access_at (first + 3) (type_of before source))
              (All-append QuietAccess (access_at first (target_type_of before pointer)) (access_at (first + 1) (type_of before pointer))
              (pointed-quiet whole.handle 0 kinds.Assignment first (first + 1) pointer one refl)
              (named-quiet one.handle 0 kinds.Indirection (first + 1) pointer inner refl))
              (named-quiet whole.handle 1 kinds.Assignment (first + 3) source other refl),
          assigned-quiet whole.handle (first + 2) (first + 2) left right (target_type_of before pointer) (value_type_of before source) whole.makes whole.evaluated
              (λ part type_ is. pointed-place part.handle first (first + 1) pointer type_ part.makes part.evaluated is)
              (λ part type_ is. named-value part.handle (first + 3) source type_ part.makes is),
        )
    statement-quiet handle first (AssignAddress target object) makes evaluated =
        let left = name_tree first target in
        let right = address_tree (first + 2) (name_tree (first + 3) object) in
        let whole = below-one handle kinds.ExpressionStatement first [] 0 (assignment_tree (first + 1) left right) makes evaluated in
        let one = below-first whole.handle kinds.Assignment (first + 1) [] 0 left right whole.makes whole.evaluated in (
          named-quiet whole.handle 0 kinds.Assignment first target one refl,
          assigned-quiet whole.handle (first + 1) (first + 1) left right (type_of before target) (address_type_of before object) whole.makes whole.evaluated
              (λ part type_ is. named-place part.handle first target type_ part.makes is)
              (λ part type_ is. address-value part.handle (first + 2) (first + 3) object type_ part.makes part.evaluated is),
        )
