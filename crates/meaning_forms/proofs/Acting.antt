-- What each action leaves is known.
use Rattle.std.proofs.Common.{◌≡◌, ℕ, Bool, true, false, ◌&&◌, List, [], ◌∷◌, ◌++◌, drop, reverse, Option, Some, None, Result, Ok, Err, ℤ, IfSome, nat_lt, refl, sym, ap, subst, ◌∙◌, if◌then◌else◌}
use Rattle.std.proofs.lemmas.Option.{same_Some}
use Rattle.vocabulary.specs.declared.error_kind.ErrorKind.TheVariants.{BadDeclaration}
use Rattle.vocabulary.specs.declared.role.Role.{Role}
use Rattle.vocabulary.specs.declared.role.Role.TheVariants.{Evaluated, TypePart}
use Rattle.vocabulary.specs.declared.scope.Bound.{Bound}
use Rattle.vocabulary.specs.declared.scope.Bound.TheVariants.{Enumerator, Unlinked}
use Rattle.vocabulary.specs.declared.scope.NameSpace.TheVariants.{Ordinary, Tags}
use Rattle.vocabulary.specs.declared.limit.LimitKind.TheVariants.{Parameters}
use Rattle.vocabulary.specs.declared.int_kind.IntKind.{IntKind}
use Rattle.vocabulary.specs.declared.node_kind.NodeKind.{NodeKind}
use Rattle.vocabulary.specs.declared.node_kind.NodeKind.TheVariants as kinds
use Rattle.vocabulary.specs.declared.action.Action.{Action}
use Rattle.vocabulary.specs.declared.action.Action.TheVariants.{Append, AppendAttribute, AppendDeclarator, AppendLeadingAttributes, AwaitBody, BeginAtNext, BeginDeclarators, BeginList, BindDeclarator, BindEnumerator, BindFurtherDeclarator, BindParameter, CloseParameters, CloseScope, CountParameter, DeclareTag, DefineTag, JoinAnyParts, JoinParts, JoinSuffixes, MakeAttributeList, MakeBlockSpecifiers, MakeCharacterConstant, MakeContextStatement, MakeFileSpecifiers, MakeForPart, MakeIntegerConstant, MakeMemberSpecifiers, MakeOptionalDeclarator, MakeParameterSpecifiers, MakeParenthesizedAttributes, MakeStringLiteral, MakeTypeName, MakeTypeNameSpecifiers, NoteFunctionDeclarator, OpenBody, OpenScope, RequireType, RequireTypeOrAttributes, UseName, UseTag, UseTypedefName, WithoutTag}
use Rattle.meaning_tree.specs.Trees.{SyntaxTree, Node, Parts, NoParts, Part, with_parts}
use Rattle.meaning_tree.specs.Forms.{PartSort, LeadingLists, SpecifierList, ADeclarator, ADeclaratorPart, AnAttribute, ASpecifier, AnExpression, AConstant, AString, attribute_lists, expressions, optional_expressions, IsOf, Slot, One, Perhaps, Each, slots_of, Fits, nothing, one, left_out, there, no_more, one_more, no_declarator, declarator, no_member, member, IsFormedTree, AreFormedTrees, AStatement, kind_of, sort_of_kind, is_among_sorts}
use Rattle.meaning_scopes.specs.Scopes.{Found, is_open}
use Rattle.meaning_attributes.specs.Pieces.{in_parentheses}
use Rattle.meaning_types.specs.Types.{Space, NoSpace, NumberedSpace, NamedSpace}
use Rattle.meaning_attributes.specs.Integers.{PlacedConstant, constants_from}
use Rattle.meaning_attributes.specs.Words.{Flag, NoderefFlag, BitwiseFlag, ForceFlag, PackedFlag, NoreturnFlag}
use Rattle.meaning_attributes.specs.Attributes.{Attributes, Attribute, HasSpace, HasContext, HasAlign, HasFlag, no_attributes}
use Rattle.meaning_attributes.specs.Items.{attribute_of}
use Rattle.meaning_attributes.specs.Reading.{Refusal, HasBad, HasLimit, attributes_read}
use Rattle.meaning_attributes.specs.Contexts.{ChangeFault, BadChange, ChangePassesLimit, change_of}
use Rattle.meaning_literals.specs.Constants.{Constant, Fault}
use Rattle.meaning_literals.specs.Integers.{integer_of}
use Rattle.meaning_literals.specs.Quoted.{char_of}
use Rattle.meaning_scopes.specs.Redeclaration.{bound_here, is_redeclared}
use Rattle.meaning_derivation.specs.Values.{Value, WordValue, TreeValue, ListValue, value_at, token_of, text_of, parts_of, before, name_of, plain_tree}
use Rattle.meaning_derivation.specs.State.{State, Goes, made_as, made, with_limit}
use Rattle.meaning_derivation.specs.Lists.{reversed_before, part_count, most_parameters, appended, joined, suffixed, has_spelling, name_or, unnamed_declarator, attributes_list, leading_attributes, part_of_for, first_tree_token, type_name, type_name_tree}
use Rattle.meaning_derivation.specs.Storage.{has_kind, specifiers_tree}
use Rattle.meaning_derivation.specs.Specifiers.{is_bad_in_file, is_bad_in_block, is_bad_member, is_refused_parameter, parameter_error, held_where}
use Rattle.meaning_derivation.specs.Contexts.{tokens_behind, context_made}
use Rattle.meaning_derivation.specs.Attributes.{tokens_from, listed_tokens, attributes_made, kind_of_flag, space_tree, context_appended, item_appended}
use Rattle.meaning_derivation.specs.Literals.{BadLiteral, bad_piece, constant_made, constant_tree, string_made}
use Rattle.meaning_derivation.specs.Scoping.{declared, bound_as, hidden_by_body, hidden_number, hiding_bound, numbered, top_numbered, first_changed, is_declarator_of, is_parameter_of, parameter_numbered, list_numbered, own_list_numbered, declarator_numbered, own_name_hidden, are_without_form, parameter_bound, tag_at, is_member_list, is_lone_tag, is_new_here, with_own_keyword, tag_declared, found_name, found_here, parts_below, ends_with_parameters, name_used, typedef_named, without_closed}
use Rattle.meaning_derivation.specs.Shapes.{Shape, shape_of, shaped_tree}
use Rattle.meaning_derivation.specs.Actions.{act, below, specified}
use Rattle.meaning_derivation.proofs.Shaping.{shapes_are_made}
use Rattle.meaning_derivation.proofs.Sorting.{attribute_appended-values, context_appended-values}
use Rattle.meaning_forms.proofs.Slots.{is_within, IsOf-more, within-fits, both}
use Rattle.meaning_forms.proofs.Knowledge.{Known, AWord, ATree, AList, AreOf, Is, grown, is_list, grown-is, alone-is, are_of-behind, with_parts-none}
use Rattle.meaning_forms.proofs.Effects.{behind_known, behind_shape, type_name_shape, specifiers_known, where_, declarator_parts, one_attribute, lists_of_attributes, slots_from}
use Rattle.meaning_forms.proofs.Fronts.{Stand, beneath, word_first, tree_first, list_first, stand_more, stand_same}
use Rattle.meaning_forms.proofs.Making.{reached, reached_unless, made-values, made_stands}

-- a test that holds, and what is known then
where_holds : (test : Bool) (known after : List Known) → where_ test known ≡ Some after → (test ≡ true) × (known ≡ after)
where_holds true known after is = (refl, same_Some known after is)
where_holds false known after is = absurd (cc is)

-- Attribute lists, where there are any
some_lists : (role : Role) (tree : SyntaxTree) (parts : Parts (List ℕ)) → Fits (Each TypePart attribute_lists ∷ []) (Part role tree parts)
    → Fits (One TypePart attribute_lists ∷ Each TypePart attribute_lists ∷ []) (Part role tree parts)
some_lists role tree parts (one_more is fits) = one is fits
some_lists role tree parts (no_more fits) = elim fits [ ]

-- parts of one role the other way round, before others
reversed-fits : (role : Role) (sorts : List PartSort) (slots : List Slot) (parts others : Parts (List ℕ)) → Fits (Each role sorts ∷ []) parts → Fits (Each role sorts ∷ slots) others
    → Fits (Each role sorts ∷ slots) (reversed_before parts others)
reversed-fits role sorts slots NoParts others (no_more fits) further = further
reversed-fits role sorts slots (Part its_role tree parts) others (no_more fits) further = elim fits [ ]
reversed-fits role sorts slots (Part its_role tree parts) others (one_more is fits) further =
    reversed-fits role sorts slots parts (Part its_role tree others) fits (one_more is further)

reversed-formed : (parts others : Parts (List ℕ)) → AreFormedTrees parts → AreFormedTrees others → AreFormedTrees (reversed_before parts others)
reversed-formed NoParts others formed also = also
reversed-formed (Part role tree parts) others formed also = reversed-formed parts (Part role tree others) formed.1 (formed.0, also)

-- a tree with another number
with_number-fits :
    {slots : List Slot} {role : Role} {kind : NodeKind} {token number other : ℕ} {name : List ℕ} {parts others : Parts (List ℕ)}
    → Fits slots (Part role (Node kind token name number parts) others) → Fits slots (Part role (Node kind token name other parts) others)
with_number-fits (one is fits) = one is fits
with_number-fits (left_out fits) = left_out (with_number-fits fits)
with_number-fits (there is fits) = there is fits
with_number-fits (no_more fits) = no_more (with_number-fits fits)
with_number-fits (one_more is fits) = one_more is fits
with_number-fits (no_declarator fits) = no_declarator (with_number-fits fits)
with_number-fits (declarator fits) = declarator (with_number-fits fits)
with_number-fits (no_member fits) = no_member (with_number-fits fits)
with_number-fits (member fits) = member (with_number-fits fits)

-- trees that are changed where they have other numbers alone

-- of the same kind, and formed
abbrev Keeps : (SyntaxTree → SyntaxTree) → Type 0
Keeps changed = (tree : SyntaxTree) → (kind_of (changed tree) ≡ kind_of tree) × (IsFormedTree tree → IsFormedTree (changed tree))

-- the same kinds in the same roles
abbrev AreAlike : Parts (List ℕ) → Parts (List ℕ) → Type 0
AreAlike NoParts NoParts = Unit {0}
AreAlike (Part role tree parts) (Part other_role other others) = (role ≡ other_role) × (kind_of tree ≡ kind_of other) × AreAlike parts others
AreAlike NoParts (Part other_role other others) = ⊥
AreAlike (Part role tree parts) NoParts = ⊥

alike-itself : (parts : Parts (List ℕ)) → AreAlike parts parts
alike-itself NoParts = tt
alike-itself (Part role tree parts) = (refl, refl, alike-itself parts)

like_sorts : (sorts : List PartSort) (tree other : SyntaxTree) → kind_of tree ≡ kind_of other → IsOf sorts tree → IsOf sorts other
like_sorts sorts tree other same is = subst (λ kind. is_among_sorts (sort_of_kind kind) sorts ≡ true) same is

alike-fits : {slots : List Slot} {parts : Parts (List ℕ)} → Fits slots parts → (others : Parts (List ℕ)) → AreAlike parts others → Fits slots others
alike-fits nothing NoParts alike = nothing
alike-fits nothing (Part role tree parts) alike = absurd alike
alike-fits (one is fits) NoParts alike = absurd alike
alike-fits (one {role} {sorts} {slots} {tree} is fits) (Part other_role other others) alike =
    subst (λ (its : Role). Fits (One role sorts ∷ slots) (Part its other others)) alike.0 (one (like_sorts sorts tree other alike.1 is) (alike-fits fits others alike.2))
alike-fits (left_out fits) others alike = left_out (alike-fits fits others alike)
alike-fits (there is fits) NoParts alike = absurd alike
alike-fits (there {role} {sorts} {slots} {tree} is fits) (Part other_role other others) alike =
    subst (λ (its : Role). Fits (Perhaps role sorts ∷ slots) (Part its other others)) alike.0 (there (like_sorts sorts tree other alike.1 is) (alike-fits fits others alike.2))
alike-fits (no_more fits) others alike = no_more (alike-fits fits others alike)
alike-fits (one_more is fits) NoParts alike = absurd alike
alike-fits (one_more {role} {sorts} {slots} {tree} is fits) (Part other_role other others) alike =
    subst (λ (its : Role). Fits (Each role sorts ∷ slots) (Part its other others)) alike.0 (one_more (like_sorts sorts tree other alike.1 is) (alike-fits fits others alike.2))
alike-fits (no_declarator fits) others alike = no_declarator (alike-fits fits others alike)
alike-fits (declarator fits) others alike = declarator (alike-fits fits others alike)
alike-fits (no_member fits) others alike = no_member (alike-fits fits others alike)
alike-fits (member fits) others alike = member (alike-fits fits others alike)

-- parts that are alike and formed where these are
abbrev KeepsParts : Parts (List ℕ) → Parts (List ℕ) → Type 0
KeepsParts parts others = AreAlike parts others × (AreFormedTrees parts → AreFormedTrees others)

changed_if : (test : Bool) (role : Role) (changed : SyntaxTree → SyntaxTree) → Keeps changed → (tree : SyntaxTree) (parts others : Parts (List ℕ)) → KeepsParts parts others
    → KeepsParts (Part role tree parts) (if test then Part role (changed tree) parts else Part role tree others)
changed_if true role changed keeps tree parts others kept =
    ((refl, sym (keeps tree).0, alike-itself parts), λ formed. ((keeps tree).1 formed.0, formed.1))
changed_if false role changed keeps tree parts others kept = ((refl, refl, kept.0), λ formed. (formed.0, kept.1 formed.1))

first_changed-keeps : (is_so : SyntaxTree → Bool) (changed : SyntaxTree → SyntaxTree) → Keeps changed → (parts : Parts (List ℕ)) → KeepsParts parts (first_changed is_so changed parts)
first_changed-keeps is_so changed keeps NoParts = (tt, λ formed. formed)
first_changed-keeps is_so changed keeps (Part role tree parts) =
    changed_if (is_so tree) role changed keeps tree parts (first_changed is_so changed parts) (first_changed-keeps is_so changed keeps parts)

-- a node over such parts
over-keeps : (kind : NodeKind) (parts others : Parts (List ℕ)) → KeepsParts parts others → Fits (slots_of kind) parts × AreFormedTrees parts → Fits (slots_of kind) others × AreFormedTrees others
over-keeps kind parts others kept formed = (alike-fits formed.0 others kept.0, kept.1 formed.1)

numbered-keeps : (number : ℕ) → Keeps (numbered number)
numbered-keeps number (Node kind token name other parts) = (refl, λ formed. formed)

parameter_numbered-keeps : (name : List ℕ) (number : ℕ) → Keeps (parameter_numbered name number)
parameter_numbered-keeps name number (Node kind token other own parts) =
    (refl, over-keeps kind parts _ (first_changed-keeps (λ tree. is_declarator_of name tree) (numbered number) (numbered-keeps number) parts))

list_numbered-keeps : (name : List ℕ) (number : ℕ) → Keeps (list_numbered name number)
list_numbered-keeps name number (Node kinds.FunctionDeclarator token other own parts) = (
  refl,
  over-keeps kinds.FunctionDeclarator parts _
      (first_changed-keeps (λ tree. is_parameter_of name tree) (parameter_numbered name number) (parameter_numbered-keeps name number) parts),
)
list_numbered-keeps name number (Node kind token other own parts) = (refl, λ formed. formed)

own_list_numbered-keeps : (name : List ℕ) (number : ℕ) (parts : Parts (List ℕ)) → KeepsParts parts (own_list_numbered name number parts)
own_list_numbered-keeps name number NoParts = (tt, λ formed. formed)
own_list_numbered-keeps name number (Part role tree parts) =
    changed_if (are_without_form parts) role (list_numbered name number) (list_numbered-keeps name number) tree parts (own_list_numbered name number parts)
    (own_list_numbered-keeps name number parts)

declarator_numbered-keeps : (number : ℕ) → Keeps (declarator_numbered number)
declarator_numbered-keeps number (Node kind token name own parts) = (refl, over-keeps kind parts _ (own_list_numbered-keeps name number parts))

-- each attribute's node is formed

space_is : (token : ℕ) (space : Space) → IsFormedTree (space_tree token space) × IsOf (AnAttribute ∷ []) (space_tree token space)
space_is token NoSpace = ((nothing, tt), refl)
space_is token (NumberedSpace number) = ((nothing, tt), refl)
space_is token (NamedSpace name) = ((nothing, tt), refl)

flag_is : (token : ℕ) (flag : Flag) → IsFormedTree (plain_tree (kind_of_flag flag) token NoParts) × IsOf (AnAttribute ∷ []) (plain_tree (kind_of_flag flag) token NoParts)
flag_is token NoderefFlag = ((nothing, tt), refl)
flag_is token BitwiseFlag = ((nothing, tt), refl)
flag_is token ForceFlag = ((nothing, tt), refl)
flag_is token PackedFlag = ((nothing, tt), refl)
flag_is token NoreturnFlag = ((nothing, tt), refl)

module _ (begun : Parts (List ℕ)) (s next : State) (rest : List Value) where
  abbrev Stands : List Known → Type 0
  Stands known = Stand begun known s.values rest

  abbrev Leaves : List Known → Type 0
  Leaves after = Stand begun after next.values rest

  -- what is known is this
  leaves_same : (known after : List Known) → known ≡ after → Leaves known → Leaves after
  leaves_same known after same stand = subst Leaves same stand

  -- nothing changed
  kept : (known after : List Known) → next.values ≡ s.values → Some known ≡ Some after → Stands known → Leaves after
  kept known after is same stand = leaves_same known after (same_Some known after same) (stand_same begun known s.values next.values rest is stand)

  -- one more value
  put : (it : Known) (known after : List Known) (value : Value) → next.values ≡ value ∷ s.values → Is begun it value → it ∷ known ≡ after → Stands known → Leaves after
  put it known after value is so same stand =
      leaves_same (it ∷ known) after same
      (stand_same begun (it ∷ known) (value ∷ s.values) next.values rest is (stand_more begun it known value s.values rest so stand))

  -- a value in the place of others
  replace : (it : Known) (known after : List Known) (value : Value) (others : List Value) → next.values ≡ value ∷ others → Is begun it value → it ∷ known ≡ after
      → Stand begun known others rest → Leaves after
  replace it known after value others is so same stand =
      leaves_same (it ∷ known) after same (stand_same begun (it ∷ known) (value ∷ others) next.values rest is (stand_more begun it known value others rest so stand))

  -- a formed tree in the place of a word
  in_place_of_word : (tree : SyntaxTree) (sorts : List PartSort) (known after : List Known) → made_as s 1 (TreeValue tree) ≡ Goes next → IsFormedTree tree → IsOf sorts tree
      → Some (ATree sorts ∷ known) ≡ Some after → Stands (AWord ∷ known) → Leaves after
  in_place_of_word tree sorts known after is formed of same stand =
      let (token, text, others, top, below_it) = word_first begun known s.values rest stand in
      replace (ATree sorts) known after (TreeValue tree) others (made-values s next 1 (TreeValue tree) is ∙ ap (λ all. TreeValue tree ∷ drop 1 all) top)
      (formed, of) (same_Some _ _ same) below_it

  append_acts :
      (role : Role) (sorts : List PartSort) (list : Known) (known after : List Known) → act (Append role) s ≡ Goes next
      → where_ (is_list list) (grown list (One role sorts ∷ []) ∷ known) ≡ Some after → Stands (ATree sorts ∷ list ∷ known) → Leaves after
  append_acts role sorts list known after is found stand =
      let tests = where_holds (is_list list) (grown list (One role sorts ∷ []) ∷ known) after found in
      let (tree, others, top, formed, second) = tree_first begun sorts (list ∷ known) s.values rest stand in
      let (parts, left, under, list_is, below_it) = list_first begun list known others rest tests.0 second in
      replace (grown list (One role sorts ∷ [])) known after (ListValue (with_parts parts (Part role tree NoParts))) left
      (reached _ next is ∙ ap (λ all. appended role (value_at all 1) (value_at all 0) ∷ drop 2 all) (top ∙ ap (λ all. TreeValue tree ∷ all) under))
      (grown-is begun list parts (Part role tree NoParts) (One role sorts ∷ []) tests.0 list_is (alone-is role sorts tree formed.0 formed.1)) tests.1 below_it

  begin_declarators_acts :
      (slots : List Slot) (sorts : List PartSort) (known after : List Known) → act BeginDeclarators s ≡ Goes next
      → Some (AList (One Evaluated sorts ∷ slots) ∷ known) ≡ Some after → Stands (AList slots ∷ ATree sorts ∷ known) → Leaves after
  begin_declarators_acts slots sorts known after is found stand =
      let (parts, others, top, are, second) = list_first begun (AList slots) (ATree sorts ∷ known) s.values rest refl stand in
      let (tree, left, under, formed, below_it) = tree_first begun sorts known others rest second in
      replace (AList (One Evaluated sorts ∷ slots)) known after (ListValue (Part Evaluated tree parts)) left
      (reached _ next is
      ∙ ap (λ all. ListValue (before Evaluated (value_at all 1) (parts_of (value_at all 0))) ∷ drop 2 all) (top ∙ ap (λ all. ListValue parts ∷ all) under))
      (one formed.1 are.0, (formed.0, are.1)) (same_Some _ _ found) below_it

  append_declarator_acts :
      (slots : List Slot) (sorts : List PartSort) (list : Known) (known after : List Known) → act AppendDeclarator s ≡ Goes next
      → where_ (is_list list) (grown list (One Evaluated sorts ∷ slots) ∷ known) ≡ Some after → Stands (AList slots ∷ ATree sorts ∷ list ∷ known) → Leaves after
  append_declarator_acts slots sorts list known after is found stand =
      let tests = where_holds (is_list list) (grown list (One Evaluated sorts ∷ slots) ∷ known) after found in
      let (own, others, top, are, second) = list_first begun (AList slots) (ATree sorts ∷ list ∷ known) s.values rest refl stand in
      let (tree, left, under, formed, third) = tree_first begun sorts (list ∷ known) others rest second in
      let (parts, lowest, lower, list_is, below_it) = list_first begun list known left rest tests.0 third in
      replace (grown list (One Evaluated sorts ∷ slots)) known after (ListValue (with_parts parts (Part Evaluated tree own))) lowest
      (reached _ next is
      ∙ ap (λ all. ListValue (with_parts (parts_of (value_at all 2)) (before Evaluated (value_at all 1) (parts_of (value_at all 0)))) ∷ drop 3 all)
      (top ∙ ap (λ all. ListValue own ∷ all) (under ∙ ap (λ all. TreeValue tree ∷ all) lower)))
      (grown-is begun list parts (Part Evaluated tree own) (One Evaluated sorts ∷ slots) tests.0 list_is (one formed.1 are.0, (formed.0, are.1))) tests.1 below_it

  leading_acts :
      (own : Parts (List ℕ)) (list : Known) (parts : Parts (List ℕ)) (known after : List Known) (left : List Value) → s.values ≡ ListValue own ∷ ListValue parts ∷ left
      → leading_attributes s (value_at s.values 1) own ≡ Goes next → AreOf lists_of_attributes own → is_list list ≡ true → Is begun list (ListValue parts)
      → grown list (Perhaps TypePart (LeadingLists ∷ []) ∷ []) ∷ known ≡ after → Stand begun known left rest → Leaves after
  leading_acts NoParts list parts known after left values is are test list_is same stand =
      replace (grown list (Perhaps TypePart (LeadingLists ∷ []) ∷ [])) known after (ListValue parts) left
      (reached _ next is ∙ ap (λ all. value_at all 1 ∷ drop 2 all) values)
      (subst (λ p. Is begun (grown list (Perhaps TypePart (LeadingLists ∷ []) ∷ [])) (ListValue p)) (with_parts-none parts)
      (grown-is begun list parts NoParts (Perhaps TypePart (LeadingLists ∷ []) ∷ []) test list_is (left_out nothing, tt))) same stand
  leading_acts (Part role tree others) list parts known after left values is are test list_is same stand =
      replace (grown list (Perhaps TypePart (LeadingLists ∷ []) ∷ [])) known after
      (ListValue (with_parts parts (Part TypePart (plain_tree kinds.LeadingAttributes (first_tree_token (Part role tree others)) (Part role tree others)) NoParts))) left
      (made-values s next 2 _ is
      ∙ ap
      (λ all. appended TypePart (value_at all 1) (TreeValue (plain_tree kinds.LeadingAttributes (first_tree_token (Part role tree others)) (Part role tree others))) ∷ drop 2 all)
      values)
      (grown-is begun list parts _ (Perhaps TypePart (LeadingLists ∷ []) ∷ []) test list_is
      (there refl nothing, ((some_lists role tree others are.0, are.1), tt))) same stand

  append_leading_acts :
      (slots : List Slot) (list : Known) (known after : List Known) → act AppendLeadingAttributes s ≡ Goes next
      → where_ (is_list list && is_within slots lists_of_attributes) (grown list (Perhaps TypePart (LeadingLists ∷ []) ∷ []) ∷ known) ≡ Some after
      → Stands (AList slots ∷ list ∷ known) → Leaves after
  append_leading_acts slots list known after is found stand =
      let tests = where_holds (is_list list && is_within slots lists_of_attributes) (grown list (Perhaps TypePart (LeadingLists ∷ []) ∷ []) ∷ known) after found in
      let passed = both (is_list list) (is_within slots lists_of_attributes) tests.0 in
      let (own, others, top, are, second) = list_first begun (AList slots) (list ∷ known) s.values rest refl stand in
      let (parts, left, under, list_is, below_it) = list_first begun list known others rest passed.0 second in
      let values = top ∙ ap (λ all. ListValue own ∷ all) under in
      leading_acts own list parts known after left values
      (subst (λ value. leading_attributes s (value_at s.values 1) (parts_of value) ≡ Goes next) (ap (λ all. value_at all 0) values) is)
      (within-fits slots lists_of_attributes passed.1 own are.0, are.1) passed.0 list_is tests.1 below_it

  join_acts :
      (slots first : List Slot) (known after : List Known) → act JoinParts s ≡ Goes next → Some (AList (first ++ slots) ∷ AWord ∷ known) ≡ Some after
      → Stands (AList slots ∷ AWord ∷ AList first ∷ known) → Leaves after
  join_acts slots first known after is found stand =
      let (own, others, top, are, second) = list_first begun (AList slots) (AWord ∷ AList first ∷ known) s.values rest refl stand in
      let (token, text, left, under, third) = word_first begun (AList first ∷ known) others rest second in
      let (parts, lowest, lower, first_are, below_it) = list_first begun (AList first) known left rest refl third in
      replace (AList (first ++ slots)) (AWord ∷ known) after (ListValue (with_parts parts own)) (WordValue token text ∷ lowest)
      (reached _ next is
      ∙ ap (λ all. joined (value_at all 2) (value_at all 0) ∷ value_at all 1 ∷ drop 3 all)
      (top ∙ ap (λ all. ListValue own ∷ all) (under ∙ ap (λ all. WordValue token text ∷ all) lower)))
      (are_of-behind first slots parts own first_are are) (same_Some _ _ found)
      (stand_more begun AWord known (WordValue token text) lowest rest tt below_it)

  word_of : (test : Bool) (place name : Value) → Is begun AWord place → Is begun AWord name → Is begun AWord (if test then name else place)
  word_of true place name is also = also
  word_of false place name is also = is

  join_any_acts :
      (slots first : List Slot) (known after : List Known) → act JoinAnyParts s ≡ Goes next → Some (AList (first ++ slots) ∷ AWord ∷ known) ≡ Some after
      → Stands (AList slots ∷ AWord ∷ AList first ∷ AWord ∷ known) → Leaves after
  join_any_acts slots first known after is found stand =
      let (own, others, top, are, second) = list_first begun (AList slots) (AWord ∷ AList first ∷ AWord ∷ known) s.values rest refl stand in
      let (token, text, left, under, third) = word_first begun (AList first ∷ AWord ∷ known) others rest second in
      let (parts, lower, third_is, first_are, fourth) = list_first begun (AList first) (AWord ∷ known) left rest refl third in
      let (place, spelling, lowest, fourth_is, below_it) = word_first begun known lower rest fourth in
      replace (AList (first ++ slots)) (AWord ∷ known) after (ListValue (with_parts parts own))
      (name_or (WordValue place spelling) (WordValue token text) ∷ lowest)
      (reached _ next is
      ∙ ap (λ all. joined (value_at all 2) (value_at all 0) ∷ name_or (value_at all 3) (value_at all 1) ∷ drop 4 all)
      (top
      ∙ ap (λ all. ListValue own ∷ all)
      (under ∙ ap (λ all. WordValue token text ∷ all) (third_is ∙ ap (λ all. ListValue parts ∷ all) fourth_is))))
      (are_of-behind first slots parts own first_are are) (same_Some _ _ found)
      (stand_more begun AWord known (name_or (WordValue place spelling) (WordValue token text)) lowest rest
      (word_of (has_spelling (WordValue token text)) (WordValue place spelling) (WordValue token text) tt tt) below_it)

  join_suffixes_acts :
      (suffixes inner : List Slot) (known after : List Known) → act JoinSuffixes s ≡ Goes next
      → where_ (is_within suffixes declarator_parts) (AList (Each TypePart (ADeclaratorPart ∷ []) ∷ inner) ∷ known) ≡ Some after
      → Stands (AList suffixes ∷ AList inner ∷ known) → Leaves after
  join_suffixes_acts suffixes inner known after is found stand =
      let tests = where_holds (is_within suffixes declarator_parts) (AList (Each TypePart (ADeclaratorPart ∷ []) ∷ inner) ∷ known) after found in
      let (own, others, top, are, second) = list_first begun (AList suffixes) (AList inner ∷ known) s.values rest refl stand in
      let (parts, left, under, inner_are, below_it) = list_first begun (AList inner) known others rest refl second in
      replace (AList (Each TypePart (ADeclaratorPart ∷ []) ∷ inner)) known after (ListValue (reversed_before own parts)) left
      (reached _ next is ∙ ap (λ all. suffixed (value_at all 0) (value_at all 1) ∷ drop 2 all) (top ∙ ap (λ all. ListValue own ∷ all) under)) (
        reversed-fits TypePart (ADeclaratorPart ∷ []) inner own parts (within-fits suffixes declarator_parts tests.0 own are.0) (no_more inner_are.0),
        reversed-formed own parts are.1 inner_are.1,
      ) tests.1 below_it

  attributes_acts :
      (own : Parts (List ℕ)) (word : Value) (known after : List Known) (left : List Value) → drop 2 s.values ≡ left → attributes_list s word own ≡ Goes next
      → AreOf lists_of_attributes own → AList (Perhaps TypePart (ADeclaratorPart ∷ []) ∷ []) ∷ known ≡ after → Stand begun known left rest → Leaves after
  attributes_acts NoParts word known after left values is are same stand =
      replace (AList (Perhaps TypePart (ADeclaratorPart ∷ []) ∷ [])) known after (ListValue NoParts) left
      (reached _ next is ∙ ap (λ all. ListValue NoParts ∷ all) values) (left_out nothing, tt) same stand
  attributes_acts (Part role tree others) word known after left values is are same stand =
      replace (AList (Perhaps TypePart (ADeclaratorPart ∷ []) ∷ [])) known after _ left
      (made-values s next 2 _ is ∙ beneath values) (there refl nothing, ((some_lists role tree others are.0, are.1), tt)) same stand

  parenthesized_acts :
      (slots : List Slot) (known after : List Known) → act MakeParenthesizedAttributes s ≡ Goes next
      → where_ (is_within slots lists_of_attributes) (AList (Perhaps TypePart (ADeclaratorPart ∷ []) ∷ []) ∷ known) ≡ Some after
      → Stands (AList slots ∷ AWord ∷ known) → Leaves after
  parenthesized_acts slots known after is found stand =
      let tests = where_holds (is_within slots lists_of_attributes) (AList (Perhaps TypePart (ADeclaratorPart ∷ []) ∷ []) ∷ known) after found in
      let (own, others, top, are, second) = list_first begun (AList slots) (AWord ∷ known) s.values rest refl stand in
      let (token, text, left, under, below_it) = word_first begun known others rest second in
      let values = top ∙ ap (λ all. ListValue own ∷ all) under in
      attributes_acts own (value_at s.values 1) known after left (ap (drop 2) values)
      (subst (λ value. attributes_list s (value_at s.values 1) (parts_of value) ≡ Goes next) (ap (λ all. value_at all 0) values) is)
      (within-fits slots lists_of_attributes tests.0 own are.0, are.1) tests.1 below_it

  unnamed_acts :
      (own : Parts (List ℕ)) (place : Value) (known after : List Known) (left : List Value) → drop 2 s.values ≡ left → unnamed_declarator s place own ≡ Goes next
      → AreOf declarator_parts own → AList (Perhaps TypePart (ADeclarator ∷ []) ∷ []) ∷ known ≡ after → Stand begun known left rest → Leaves after
  unnamed_acts NoParts place known after left values is are same stand =
      replace (AList (Perhaps TypePart (ADeclarator ∷ []) ∷ [])) known after (ListValue NoParts) left
      (reached _ next is ∙ ap (λ all. ListValue NoParts ∷ all) values) (left_out nothing, tt) same stand
  unnamed_acts (Part role tree others) place known after left values is are same stand =
      replace (AList (Perhaps TypePart (ADeclarator ∷ []) ∷ [])) known after _ left
      (made-values s next 2 _ is ∙ beneath values) (there refl nothing, ((are.0, are.1), tt)) same stand

  optional_acts :
      (test : Bool) (own : Parts (List ℕ)) (name : List ℕ) (token : ℕ) (place : Value) (known after : List Known) (left : List Value) → drop 2 s.values ≡ left
      → (if test then made_as s 2 (ListValue (Part TypePart (Node kinds.Declarator token name 0 own) NoParts)) else unnamed_declarator s place own) ≡ Goes next
      → AreOf declarator_parts own → AList (Perhaps TypePart (ADeclarator ∷ []) ∷ []) ∷ known ≡ after → Stand begun known left rest → Leaves after
  optional_acts true own name token place known after left values is are same stand =
      replace (AList (Perhaps TypePart (ADeclarator ∷ []) ∷ [])) known after _ left
      (made-values s next 2 _ is ∙ beneath values) (there refl nothing, ((are.0, are.1), tt)) same stand
  optional_acts false own name token place known after left values is are same stand = unnamed_acts own place known after left values is are same stand

  optional_declarator_acts :
      (slots : List Slot) (known after : List Known) → act MakeOptionalDeclarator s ≡ Goes next
      → where_ (is_within slots declarator_parts) (AList (Perhaps TypePart (ADeclarator ∷ []) ∷ []) ∷ known) ≡ Some after
      → Stands (AList slots ∷ AWord ∷ known) → Leaves after
  optional_declarator_acts slots known after is found stand =
      let tests = where_holds (is_within slots declarator_parts) (AList (Perhaps TypePart (ADeclarator ∷ []) ∷ []) ∷ known) after found in
      let (own, others, top, are, second) = list_first begun (AList slots) (AWord ∷ known) s.values rest refl stand in
      let (token, text, left, under, below_it) = word_first begun known others rest second in
      let values = top ∙ ap (λ all. ListValue own ∷ all) under in
      optional_acts (has_spelling (value_at s.values 1)) own (text_of (value_at s.values 1)) (token_of (value_at s.values 1)) (value_at s.values 1) known after left
      (ap (drop 2) values)
      (subst
      (λ value. (if has_spelling (value_at s.values 1) then made_as s 2 (ListValue (Part TypePart (Node kinds.Declarator (token_of (value_at s.values 1)) (text_of (value_at s.values 1)) 0 (parts_of value)) NoParts)) else unnamed_declarator s (value_at s.values 1) (parts_of value)) ≡ Goes next)
      (ap (λ all. value_at all 0) values) is)
      (within-fits slots declarator_parts tests.0 own are.0, are.1) tests.1 below_it

  for_part_acts :
      (own : Parts (List ℕ)) (word : Value) (known after : List Known) (left : List Value) → drop 2 s.values ≡ left → part_of_for s own word ≡ Goes next
      → AreOf (Perhaps Evaluated expressions ∷ []) own → ATree optional_expressions ∷ known ≡ after → Stand begun known left rest → Leaves after
  for_part_acts NoParts word known after left values is are same stand =
      replace (ATree optional_expressions) known after _ left (made-values s next 2 _ is ∙ beneath values) ((nothing, tt), refl) same stand
  for_part_acts (Part role tree (Part other_role other others)) word known after left values is are same stand = absurd (no_further role tree other_role other others are.0)
    where
      no_further :
          (its_role : Role) (operand : SyntaxTree) (next_role : Role) (further : SyntaxTree) (more : Parts (List ℕ))
          → Fits (Perhaps Evaluated expressions ∷ []) (Part its_role operand (Part next_role further more)) → ⊥
      no_further its_role operand next_role further more (there of fits) = elim fits [ ]
      no_further its_role operand next_role further more (left_out fits) = elim fits [ ]
  for_part_acts (Part role tree NoParts) word known after left values is are same stand =
      replace (ATree optional_expressions) known after (TreeValue tree) left (reached _ next is ∙ ap (λ all. TreeValue tree ∷ all) values)
      (are.1.0, an_operand role tree NoParts are.0) same stand
    where
      an_operand : (its_role : Role) (operand : SyntaxTree) (more : Parts (List ℕ)) → Fits (Perhaps Evaluated expressions ∷ []) (Part its_role operand more)
          → IsOf optional_expressions operand
      an_operand its_role operand more (there of fits) = IsOf-more expressions optional_expressions operand refl of
      an_operand its_role operand more (left_out fits) = elim fits [ ]

  make_for_part_acts :
      (slots : List Slot) (known after : List Known) → act MakeForPart s ≡ Goes next
      → where_ (is_within slots (Perhaps Evaluated expressions ∷ [])) (ATree optional_expressions ∷ known) ≡ Some after
      → Stands (AWord ∷ AList slots ∷ known) → Leaves after
  make_for_part_acts slots known after is found stand =
      let tests = where_holds (is_within slots (Perhaps Evaluated expressions ∷ [])) (ATree optional_expressions ∷ known) after found in
      let (token, text, others, top, second) = word_first begun (AList slots ∷ known) s.values rest stand in
      let (own, left, under, are, below_it) = list_first begun (AList slots) known others rest refl second in
      let values = top ∙ ap (λ all. WordValue token text ∷ all) under in
      for_part_acts own (value_at s.values 0) known after left (ap (drop 2) values)
      (subst (λ value. part_of_for s (parts_of value) (value_at s.values 0) ≡ Goes next) (ap (λ all. value_at all 1) values) is)
      (within-fits slots (Perhaps Evaluated expressions ∷ []) tests.0 own are.0, are.1) tests.1 below_it

  -- an attribute at the end of its list
  put_attribute :
      (token : ℕ) (text : List ℕ) (tree : SyntaxTree) (list : Known) (parts : Parts (List ℕ)) (known after : List Known) (left : List Value)
      → s.values ≡ WordValue token text ∷ ListValue parts ∷ left
      → next.values ≡ appended TypePart (value_at (drop 1 s.values) 0) (TreeValue tree) ∷ drop 1 (drop 1 s.values)
      → IsFormedTree tree × IsOf (AnAttribute ∷ []) tree → is_list list ≡ true → Is begun list (ListValue parts)
      → grown list one_attribute ∷ known ≡ after → Stand begun known left rest → Leaves after
  put_attribute token text tree list parts known after left values is formed test list_is same stand =
      replace (grown list one_attribute) known after (ListValue (with_parts parts (Part TypePart tree NoParts))) left
      (is ∙ ap (λ all. appended TypePart (value_at (drop 1 all) 0) (TreeValue tree) ∷ drop 1 (drop 1 all)) values)
      (grown-is begun list parts (Part TypePart tree NoParts) one_attribute test list_is (there formed.1 nothing, (formed.0, tt))) same stand

  -- or none
  put_no_attribute :
      (token : ℕ) (text : List ℕ) (list : Known) (parts : Parts (List ℕ)) (known after : List Known) (left : List Value)
      → s.values ≡ WordValue token text ∷ ListValue parts ∷ left → next.values ≡ drop 1 s.values
      → is_list list ≡ true → Is begun list (ListValue parts)
      → grown list one_attribute ∷ known ≡ after → Stand begun known left rest → Leaves after
  put_no_attribute token text list parts known after left values is test list_is same stand =
      replace (grown list one_attribute) known after (ListValue parts) left
      (is ∙ ap (drop 1) values)
      (subst (λ p. Is begun (grown list one_attribute) (ListValue p)) (with_parts-none parts)
      (grown-is begun list parts NoParts one_attribute test list_is (left_out nothing, tt))) same stand

  item_acts :
      (word : Value) (found : Option Attribute) (token : ℕ) (text : List ℕ) (list : Known) (parts : Parts (List ℕ)) (known after : List Known) (left : List Value)
      → item_appended s word found ≡ Goes next → s.values ≡ WordValue token text ∷ ListValue parts ∷ left
      → is_list list ≡ true → Is begun list (ListValue parts)
      → grown list one_attribute ∷ known ≡ after → Stand begun known left rest → Leaves after
  item_acts word None token text list parts known after left is values test list_is same stand =
      put_no_attribute token text list parts known after left values (reached _ next is) test list_is same stand
  item_acts word (Some (HasSpace space)) token text list parts known after left is values test list_is same stand =
      put_attribute token text _ list parts known after left values (attribute_appended-values s next 1 _ is) (space_is (token_of word) space) test list_is same stand
  item_acts word (Some (HasAlign align)) token text list parts known after left is values test list_is same stand =
      put_attribute token text _ list parts known after left values (attribute_appended-values s next 1 _ is) ((nothing, tt), refl) test list_is same stand
  item_acts word (Some (HasFlag flag)) token text list parts known after left is values test list_is same stand =
      put_attribute token text _ list parts known after left values (attribute_appended-values s next 1 _ is) (flag_is (token_of word) flag) test list_is same stand
  item_acts word (Some (HasContext context)) token text list parts known after left is values test list_is same stand =
      context_item (reverse (constants_from (token_of word) (tokens_from s word))) is
    where
      context_item : (constants : List PlacedConstant) → context_appended s word constants ≡ Goes next → Leaves after
      context_item [] goes = put_no_attribute token text list parts known after left values (reached _ next goes) test list_is same stand
      context_item (only ∷ []) goes = put_no_attribute token text list parts known after left values (reached _ next goes) test list_is same stand
      context_item (leaves ∷ enters ∷ others) goes =
          put_attribute token text _ list parts known after left values (context_appended-values s next word leaves enters others goes)
          ((one refl (one refl nothing), ((nothing, tt), ((nothing, tt), tt))), refl) test list_is same stand

  append_attribute_acts :
      (list : Known) (known after : List Known) → act AppendAttribute s ≡ Goes next → where_ (is_list list) (grown list one_attribute ∷ known) ≡ Some after
      → Stands (AWord ∷ list ∷ known) → Leaves after
  append_attribute_acts list known after is found stand =
      let tests = where_holds (is_list list) (grown list one_attribute ∷ known) after found in
      let (token, text, others, top, second) = word_first begun (list ∷ known) s.values rest stand in
      let (parts, left, under, list_is, below_it) = list_first begun list known others rest tests.0 second in
      item_acts (below s 0) (attribute_of (tokens_from s (below s 0))) token text list parts known after left is
      (top ∙ ap (λ all. WordValue token text ∷ all) under) tests.0 list_is tests.1 below_it

  -- a list of attributes that isn't refused
  attributes_made-values :
      (word list : Value) (found : Result Attributes Refusal) → attributes_made s word list found ≡ Goes next
      → next.values ≡ TreeValue (Node kinds.AttributeList (token_of word) [] s.next_token (parts_of list)) ∷ drop 2 s.values
  attributes_made-values word list (Ok attributes) is = made-values s next 2 _ is
  attributes_made-values word list (Err (HasBad bad index)) is = absurd (cc is)
  attributes_made-values word list (Err HasLimit) is = absurd (cc is)

  attribute_list_acts :
      (slots : List Slot) (known after : List Known) → act MakeAttributeList s ≡ Goes next
      → where_ (is_within slots (slots_of kinds.AttributeList)) (ATree attribute_lists ∷ known) ≡ Some after → Stands (AList slots ∷ AWord ∷ known) → Leaves after
  attribute_list_acts slots known after is found stand =
      let tests = where_holds (is_within slots (slots_of kinds.AttributeList)) (ATree attribute_lists ∷ known) after found in
      let (own, others, top, are, second) = list_first begun (AList slots) (AWord ∷ known) s.values rest refl stand in
      let (token, text, left, under, below_it) = word_first begun known others rest second in
      let values = top ∙ ap (λ all. ListValue own ∷ all) under in
      replace (ATree attribute_lists) known after _ left
      (attributes_made-values (below s 1) (below s 0) (attributes_read no_attributes (listed_tokens s (below s 1))) is ∙ beneath (ap (drop 2) values)) (
        subst (λ value. AreOf (slots_of kinds.AttributeList) (parts_of value)) (sym (ap (λ all. value_at all 0) values))
            (within-fits slots (slots_of kinds.AttributeList) tests.0 own are.0, are.1),
        refl,
      ) tests.1 below_it

  -- a constant that has a value
  constant_acts :
      (kind_of : IntKind → NodeKind) (found_value : Result Constant Fault) (sorts : List PartSort) (known after : List Known)
      → constant_made s kind_of (below s 0) found_value ≡ Goes next
      → ((constant : Constant) → IsFormedTree (constant_tree kind_of (below s 0) constant) × IsOf sorts (constant_tree kind_of (below s 0) constant))
      → Some (ATree sorts ∷ known) ≡ Some after → Stands (AWord ∷ known) → Leaves after
  constant_acts kind_of (Ok constant) sorts known after is formed found stand =
      in_place_of_word _ sorts known after is (formed constant).0 (formed constant).1 found stand
  constant_acts kind_of (Err fault) sorts known after is formed found stand = absurd (cc is)

  -- a context statement that has a change
  context_acts :
      (change : Result ℤ ChangeFault) (known after : List Known) → context_made s (below s 0) change ≡ Goes next
      → Some (ATree (AStatement ∷ []) ∷ known) ≡ Some after → Stands (AWord ∷ known) → Leaves after
  context_acts (Ok change) known after is found stand = in_place_of_word _ (AStatement ∷ []) known after is (nothing, tt) refl found stand
  context_acts (Err BadChange) known after is found stand = absurd (cc is)
  context_acts (Err ChangePassesLimit) known after is found stand = absurd (cc is)

  -- literals that have values
  string_made_so :
      (word list : Value) (bad : Option BadLiteral) → string_made s word list bad ≡ Goes next → string_made s word list None ≡ Goes next
  string_made_so word list None is = is
  string_made_so word list (Some bad) is = absurd (cc is)

  string_acts :
      (slots : List Slot) (known after : List Known) → string_made s (below s 1) (below s 0) None ≡ Goes next
      → where_ (is_within slots (slots_of kinds.StringLiteral)) (ATree (AString ∷ []) ∷ known) ≡ Some after → Stands (AList slots ∷ AWord ∷ known) → Leaves after
  string_acts slots known after is found stand =
      let tests = where_holds (is_within slots (slots_of kinds.StringLiteral)) (ATree (AString ∷ []) ∷ known) after found in
      let (own, others, top, are, second) = list_first begun (AList slots) (AWord ∷ known) s.values rest refl stand in
      let (token, text, left, under, below_it) = word_first begun known others rest second in
      let values = top ∙ ap (λ all. ListValue own ∷ all) under in
      replace (ATree (AString ∷ [])) known after _ left (made-values s next 2 _ is ∙ beneath (ap (drop 2) values)) (
        subst (λ value. AreOf (slots_of kinds.StringLiteral) (parts_of value)) (sym (ap (λ all. value_at all 0) values))
            (within-fits slots (slots_of kinds.StringLiteral) tests.0 own are.0, are.1),
        refl,
      ) tests.1 below_it

  specifiers_act :
      (known after : List Known) → next.values ≡ TreeValue (specifiers_tree (below s 1) (below s 0)) ∷ drop 2 s.values
      → specifiers_known known ≡ Some after → Stands known → Leaves after
  specifiers_act (AList slots ∷ AWord ∷ known) after is found stand =
      let tests = where_holds (is_within slots (slots_of kinds.Specifiers)) (ATree (SpecifierList ∷ []) ∷ known) after found in
      let (own, others, top, are, second) = list_first begun (AList slots) (AWord ∷ known) s.values rest refl stand in
      let (token, text, left, under, below_it) = word_first begun known others rest second in
      let values = top ∙ ap (λ all. ListValue own ∷ all) under in
      replace (ATree (SpecifierList ∷ [])) known after _ left (is ∙ beneath (ap (drop 2) values)) (
        subst (λ value. AreOf (slots_of kinds.Specifiers) (parts_of value)) (sym (ap (λ all. value_at all 0) values))
            (within-fits slots (slots_of kinds.Specifiers) tests.0 own are.0, are.1),
        refl,
      ) tests.1 below_it
  specifiers_act known after is found stand = absurd (cc found)

  -- Names

  -- the number of the tree on top has no say in its form

  numbered_formed : (number : ℕ) (tree : SyntaxTree) (sorts : List PartSort) → IsFormedTree tree × IsOf sorts tree → IsFormedTree (numbered number tree) × IsOf sorts (numbered number tree)
  numbered_formed number (Node kind token name other parts) sorts formed = formed

  numbered_part : (number : ℕ) (slots : List Slot) (role : Role) (tree : SyntaxTree) → AreOf slots (Part role tree NoParts) → AreOf slots (Part role (numbered number tree) NoParts)
  numbered_part number slots role (Node kind token name other parts) are = (with_number-fits are.0, are.1)

  abbrev number_of : (tree : Value) → ℕ
  number_of tree = hidden_number (found_name s Ordinary (name_of tree))

  -- where this stands on top
  declared_values : (tree : Value) (new : Bound) (top : Value) (others : List Value) → s.values ≡ top ∷ others → declared s tree new ≡ Goes next
      → next.values ≡ (top_numbered s (number_of tree) top).values
  declared_values tree new top others stands is =
      reached_unless (is_redeclared (bound_here (found_name s Ordinary (name_of tree))) new) (hiding_bound s (name_of tree) new) next _ _ is
      ∙ ap (λ (all : List Value). (top_numbered s (number_of tree) (value_at all 0)).values) stands

  declared_acts :
      (new : Bound) (sorts : List PartSort) (known after : List Known) → declared s (below s 0) new ≡ Goes next → Some (ATree sorts ∷ known) ≡ Some after
      → Stands (ATree sorts ∷ known) → Leaves after
  declared_acts new sorts known after is found stand =
      let (tree, others, top, formed, below_it) = tree_first begun sorts known s.values rest stand in
      replace (ATree sorts) known after (TreeValue (numbered (number_of (below s 0)) tree)) others
      (declared_values (below s 0) new (TreeValue tree) others top is ∙ beneath (ap (drop 1) top))
      (numbered_formed (number_of (below s 0)) tree sorts formed) (same_Some _ _ found) below_it

  parameter_acts :
      (specifiers : Value) (slots : List Slot) (own : Parts (List ℕ)) (known after : List Known) (others : List Value) → s.values ≡ ListValue own ∷ others
      → parameter_bound s specifiers own ≡ Goes next → AreOf slots own → Some (AList slots ∷ known) ≡ Some after → Stands (AList slots ∷ known)
      → Stand begun known others rest → Leaves after
  parameter_acts specifiers slots NoParts known after others top is are found stand below_it = kept (AList slots ∷ known) after (reached _ next is) found stand
  parameter_acts specifiers slots (Part role (Node kind token [] number parts) further) known after others top is are found stand below_it =
      kept (AList slots ∷ known) after (reached _ next is) found stand
  parameter_acts specifiers slots (Part role (Node kind token (byte ∷ bytes) number parts) NoParts) known after others top is are found stand below_it =
      let tree : SyntaxTree = Node kind token (byte ∷ bytes) number parts in
      replace (AList slots) known after (ListValue (Part role (numbered (number_of (TreeValue tree)) tree) NoParts)) others
      (declared_values (TreeValue tree) Unlinked (ListValue (Part role tree NoParts)) others top is ∙ beneath (ap (drop 1) top))
      (numbered_part (number_of (TreeValue tree)) slots role tree are) (same_Some _ _ found) below_it
  parameter_acts specifiers slots (Part role (Node kind token (byte ∷ bytes) number parts) (Part other_role other further)) known after others top is are found stand below_it =
      let tree : SyntaxTree = Node kind token (byte ∷ bytes) number parts in
      kept (AList slots ∷ known) after (declared_values (TreeValue tree) Unlinked (ListValue (Part role tree (Part other_role other further))) others top is) found stand

  bind_parameter_acts :
      (slots : List Slot) (known after : List Known) → act BindParameter s ≡ Goes next → Some (AList slots ∷ known) ≡ Some after → Stands (AList slots ∷ known) → Leaves after
  bind_parameter_acts slots known after is found stand =
      let (own, others, top, are, below_it) = list_first begun (AList slots) known s.values rest refl stand in
      parameter_acts (below s 1) slots own known after others top
      (subst (λ value. parameter_bound s (below s 1) (parts_of value) ≡ Goes next) (ap (λ all. value_at all 0) top) is) are found stand below_it

  -- so has the parameter of a function's own name
  await_body_acts :
      (slots : List Slot) (sorts : List PartSort) (known after : List Known) → act AwaitBody s ≡ Goes next → Some (AList slots ∷ ATree sorts ∷ known) ≡ Some after
      → Stands (AList slots ∷ ATree sorts ∷ known) → Leaves after
  await_body_acts slots sorts known after is found stand =
      let (own, others, top, are, second) = list_first begun (AList slots) (ATree sorts ∷ known) s.values rest refl stand in
      let (tree, left, under, formed, below_it) = tree_first begun sorts known others rest second in
      let values : s.values ≡ ListValue own ∷ TreeValue tree ∷ left = top ∙ ap (λ all. ListValue own ∷ all) under in
      let number : ℕ = hidden_by_body (found_name s Ordinary (name_of (TreeValue tree))) in
      let keeps = declarator_numbered-keeps number tree in
      leaves_same (AList slots ∷ ATree sorts ∷ known) after (same_Some _ _ found)
      (stand_same begun (AList slots ∷ ATree sorts ∷ known) (ListValue own ∷ TreeValue (declarator_numbered number tree) ∷ left) next.values rest
      (reached _ next is ∙ ap (λ (value : Value). (own_name_hidden s value).values) (ap (λ all. value_at all 1) values)
      ∙ ap (λ (all : List Value). value_at all 0 ∷ TreeValue (declarator_numbered number tree) ∷ drop 2 all) values)
      (stand_more begun (AList slots) (ATree sorts ∷ known) (ListValue own) (TreeValue (declarator_numbered number tree) ∷ left) rest are
      (stand_more begun (ATree sorts) known (TreeValue (declarator_numbered number tree)) left rest
      (keeps.1 formed.0, like_sorts sorts tree (declarator_numbered number tree) (sym keeps.0) formed.1) below_it)))

  tag_acts :
      (found : Option (Found (List ℕ))) (tag : List ℕ) (keyword : ℕ) (known after : List Known) → tag_at s found tag keyword ≡ Goes next
      → Some (AWord ∷ known) ≡ Some after → Stands known → Leaves after
  tag_acts None tag keyword known after is same stand = put AWord known after (WordValue keyword []) (reached _ next is) tt (same_Some _ _ same) stand
  tag_acts (Some first) tag keyword known after is same stand =
      put AWord known after (WordValue first.entry.declaration []) (reached _ next is) tt (same_Some _ _ same) stand

  -- a specifier's number has no say in its form
  with_number_acts :
      (test : Bool) (tag : List ℕ) (keyword : ℕ) (tree : SyntaxTree) (sorts : List PartSort) (known after : List Known) (left : List Value) → drop 1 s.values ≡ left
      → Goes (if test then with_own_keyword s tag keyword tree else s) ≡ Goes next → IsFormedTree tree × IsOf sorts tree
      → ATree sorts ∷ known ≡ after → Stands (ATree sorts ∷ known) → Stand begun known left rest → Leaves after
  with_number_acts true tag keyword tree sorts known after left values is formed same stand below_it =
      replace (ATree sorts) known after (TreeValue tree) left (reached _ next is ∙ beneath values) formed same below_it
  with_number_acts false tag keyword tree sorts known after left values is formed same stand below_it =
      kept (ATree sorts ∷ known) after (reached _ next is) (ap Some same) stand

  declared_tag_acts :
      (tree : SyntaxTree) (sorts : List PartSort) (known after : List Known) (left : List Value) → drop 1 s.values ≡ left
      → tag_declared s (TreeValue tree) ≡ Goes next → IsFormedTree tree × IsOf sorts tree
      → ATree sorts ∷ known ≡ after → Stands (ATree sorts ∷ known) → Stand begun known left rest → Leaves after
  declared_tag_acts (Node kind token name number NoParts) sorts known after left values is formed same stand below_it =
      kept (ATree sorts ∷ known) after (reached _ next is) (ap Some same) stand
  declared_tag_acts (Node kind token name number (Part role (Node specifier keyword tag first parts) (Part other_role other others))) sorts known after left values is formed same stand below_it =
      kept (ATree sorts ∷ known) after (reached _ next is) (ap Some same) stand
  declared_tag_acts (Node kind token name number (Part role (Node specifier keyword tag first parts) NoParts)) sorts known after left values is formed same stand below_it =
      with_number_acts (is_lone_tag specifier tag (has_kind is_member_list parts) && is_new_here s tag) tag keyword
      (Node kind token name number (Part role (Node specifier keyword tag keyword parts) NoParts)) sorts known after left values is
      ((with_number-fits formed.0.0, formed.0.1), formed.1) same stand below_it

  declare_tag_acts :
      (sorts : List PartSort) (known after : List Known) → act DeclareTag s ≡ Goes next → Some (ATree sorts ∷ known) ≡ Some after
      → Stands (ATree sorts ∷ known) → Leaves after
  declare_tag_acts sorts known after is found stand =
      let (tree, others, top, formed, below_it) = tree_first begun sorts known s.values rest stand in
      declared_tag_acts tree sorts known after others (ap (drop 1) top)
      (subst (λ value. tag_declared s value ≡ Goes next) (ap (λ all. value_at all 0) top) is) formed (same_Some _ _ found) stand below_it

  name_acts :
      (found : Option (Found (List ℕ))) (word : Value) (known after : List Known) → name_used s found word ≡ Goes next → Some (ATree (AnExpression ∷ []) ∷ known) ≡ Some after
      → Stands (AWord ∷ known) → Leaves after
  name_acts None word known after is same stand = absurd (cc is)
  name_acts (Some declaration) word known after is same stand = in_place_of_word _ (AnExpression ∷ []) known after is (nothing, tt) refl same stand

  typedef_acts :
      (found : Option (Found (List ℕ))) (word : Value) (known after : List Known) → typedef_named s found word ≡ Goes next → Some (ATree (ASpecifier ∷ []) ∷ known) ≡ Some after
      → Stands (AWord ∷ known) → Leaves after
  typedef_acts None word known after is same stand = absurd (cc is)
  typedef_acts (Some declaration) word known after is same stand = in_place_of_word _ (ASpecifier ∷ []) known after is (nothing, tt) refl same stand

  -- something is noted, or not
  noted_values : (test : Bool) (noted : State) → noted.values ≡ s.values → (if test then noted else s).values ≡ s.values
  noted_values true noted is = is
  noted_values false noted is = refl

  limited_values : (test : Bool) (limited : State) → limited.values ≡ s.values → (if test then s else limited).values ≡ s.values
  limited_values true limited is = refl
  limited_values false limited is = is

  -- Shapes

  shape_acts :
      (action : Action) (known after : List Known) (shape : Option Shape) → IfSome shape (λ it. act action s ≡ made s it.takes (shaped_tree it s.values)) → act action s ≡ Goes next
      → behind_shape known shape ≡ Some after → Stands known → Leaves after
  shape_acts action known after None makes is found stand = absurd (cc found)
  shape_acts action known after (Some shape) makes is found stand =
      made_stands begun known s.values rest stand shape (slots_from shape.sources known) after next.values refl found
      (made-values s next shape.takes (TreeValue (shaped_tree shape s.values)) (sym makes ∙ is))

  -- a type name, where no name stands in it
  type_name_values : (parts : Parts (List ℕ)) → type_name s (below s 1) parts ≡ Goes next → next.values ≡ TreeValue (type_name_tree (below s 1) parts) ∷ drop 2 s.values
  type_name_values NoParts is = made-values s next 2 _ is
  type_name_values (Part role (Node kind token [] number parts) others) is = made-values s next 2 _ is
  type_name_values (Part role (Node kind token (byte ∷ bytes) number parts) others) is = absurd (cc is)

  -- Each action

  pub acts : (action : Action) (known after : List Known) → act action s ≡ Goes next → behind_known action known ≡ Some after → Stands known → Leaves after
  acts BeginList known after is found stand = put (AList []) known after (ListValue NoParts) (reached _ next is) (nothing, tt) (same_Some _ _ found) stand
  acts BeginAtNext known after is found stand =
      leaves_same (AList [] ∷ AWord ∷ known) after (same_Some _ _ found)
      (stand_same begun (AList [] ∷ AWord ∷ known) (ListValue NoParts ∷ WordValue s.next_token [] ∷ s.values) next.values rest (reached _ next is)
      (stand_more begun (AList []) (AWord ∷ known) (ListValue NoParts) (WordValue s.next_token [] ∷ s.values) rest (nothing, tt)
      (stand_more begun AWord known (WordValue s.next_token []) s.values rest tt stand)))
  acts (Append role) (ATree sorts ∷ list ∷ known) after is found stand = append_acts role sorts list known after is found stand
  acts (Append role) known after is found stand = absurd (cc found)
  acts BeginDeclarators (AList slots ∷ ATree sorts ∷ known) after is found stand = begin_declarators_acts slots sorts known after is found stand
  acts BeginDeclarators known after is found stand = absurd (cc found)
  acts AppendDeclarator (AList slots ∷ ATree sorts ∷ list ∷ known) after is found stand = append_declarator_acts slots sorts list known after is found stand
  acts AppendDeclarator known after is found stand = absurd (cc found)
  acts AppendLeadingAttributes (AList slots ∷ list ∷ known) after is found stand = append_leading_acts slots list known after is found stand
  acts AppendLeadingAttributes known after is found stand = absurd (cc found)
  acts BindDeclarator (ATree sorts ∷ known) after is found stand = declared_acts (bound_as s (below s 1) (below s 0)) sorts known after is found stand
  acts BindDeclarator known after is found stand = absurd (cc found)
  acts BindFurtherDeclarator (ATree sorts ∷ known) after is found stand = declared_acts (bound_as s (below s 2) (below s 0)) sorts known after is found stand
  acts BindFurtherDeclarator known after is found stand = absurd (cc found)
  acts NoteFunctionDeclarator known after is found stand =
      kept known after (reached _ next is ∙ noted_values (is_open s.scopes && ends_with_parameters (parts_below (below s 1))) (record s { function_end = Some s.taken }) refl) found stand
  acts AwaitBody (AList slots ∷ ATree sorts ∷ known) after is found stand = await_body_acts slots sorts known after is found stand
  acts AwaitBody known after is found stand = absurd (cc found)
  acts MakeFileSpecifiers known after is found stand =
      specifiers_act known after (made-values (held_where (is_bad_in_file (specified s)) BadDeclaration (token_of (below s 1)) (without_closed s)) next 2 (TreeValue (specifiers_tree (below s 1) (below s 0))) is) found stand
  acts MakeBlockSpecifiers known after is found stand =
      specifiers_act known after (made-values (held_where (is_bad_in_block (specified s)) BadDeclaration (token_of (below s 1)) s) next 2 (TreeValue (specifiers_tree (below s 1) (below s 0))) is) found stand
  acts MakeMemberSpecifiers known after is found stand =
      specifiers_act known after (made-values (held_where (is_bad_member (specified s)) BadDeclaration (token_of (below s 1)) s) next 2 (TreeValue (specifiers_tree (below s 1) (below s 0))) is) found stand
  acts MakeParameterSpecifiers known after is found stand =
      specifiers_act known after (made-values (held_where (is_refused_parameter (specified s)) (parameter_error (specified s)) (token_of (below s 1)) s) next 2 (TreeValue (specifiers_tree (below s 1) (below s 0))) is) found stand
  acts MakeTypeNameSpecifiers known after is found stand =
      specifiers_act known after (made-values (held_where (is_bad_member (specified s)) BadDeclaration (token_of (below s 1)) s) next 2 (TreeValue (specifiers_tree (below s 1) (below s 0))) is) found stand
  acts RequireType known after is found stand = kept known after (reached _ next is) found stand
  acts RequireTypeOrAttributes known after is found stand = kept known after (reached _ next is) found stand
  acts DeclareTag (ATree sorts ∷ known) after is found stand = declare_tag_acts sorts known after is found stand
  acts DeclareTag known after is found stand = absurd (cc found)
  acts UseTypedefName (AWord ∷ known) after is found stand = typedef_acts (found_name s Ordinary (text_of (below s 0))) (below s 0) known after is found stand
  acts UseTypedefName known after is found stand = absurd (cc found)
  acts DefineTag known after is found stand =
      tag_acts (found_here (found_name s Tags (text_of (below s 0)))) (text_of (below s 0)) (token_of (below s 2)) known after is found stand
  acts UseTag known after is found stand = tag_acts (found_name s Tags (text_of (below s 0))) (text_of (below s 0)) (token_of (below s 2)) known after is found stand
  acts WithoutTag known after is found stand =
      leaves_same (AWord ∷ AWord ∷ known) after (same_Some _ _ found)
      (stand_same begun (AWord ∷ AWord ∷ known) (WordValue (token_of (below s 1)) [] ∷ WordValue (token_of (below s 1)) [] ∷ s.values) next.values rest (reached _ next is)
      (stand_more begun AWord (AWord ∷ known) (WordValue (token_of (below s 1)) []) (WordValue (token_of (below s 1)) [] ∷ s.values) rest tt
      (stand_more begun AWord known (WordValue (token_of (below s 1)) []) s.values rest tt stand)))
  acts BindEnumerator (ATree sorts ∷ known) after is found stand = declared_acts Enumerator sorts known after is found stand
  acts BindEnumerator known after is found stand = absurd (cc found)
  acts MakeAttributeList (AList slots ∷ AWord ∷ known) after is found stand = attribute_list_acts slots known after is found stand
  acts MakeAttributeList known after is found stand = absurd (cc found)
  acts AppendAttribute (AWord ∷ list ∷ known) after is found stand = append_attribute_acts list known after is found stand
  acts AppendAttribute known after is found stand = absurd (cc found)
  acts JoinParts (AList slots ∷ AWord ∷ AList first ∷ known) after is found stand = join_acts slots first known after is found stand
  acts JoinParts known after is found stand = absurd (cc found)
  acts JoinAnyParts (AList slots ∷ AWord ∷ AList first ∷ AWord ∷ known) after is found stand = join_any_acts slots first known after is found stand
  acts JoinAnyParts known after is found stand = absurd (cc found)
  acts JoinSuffixes (AList suffixes ∷ AList inner ∷ known) after is found stand = join_suffixes_acts suffixes inner known after is found stand
  acts JoinSuffixes known after is found stand = absurd (cc found)
  acts MakeParenthesizedAttributes (AList slots ∷ AWord ∷ known) after is found stand = parenthesized_acts slots known after is found stand
  acts MakeParenthesizedAttributes known after is found stand = absurd (cc found)
  acts MakeOptionalDeclarator (AList slots ∷ AWord ∷ known) after is found stand = optional_declarator_acts slots known after is found stand
  acts MakeOptionalDeclarator known after is found stand = absurd (cc found)
  acts MakeTypeName known after is found stand =
      made_stands begun known s.values rest stand type_name_shape (slots_from type_name_shape.sources known) after next.values refl found
      (type_name_values (parts_of (below s 0)) is)
  acts CountParameter known after is found stand =
      kept known after (reached _ next is ∙ limited_values (nat_lt (part_count (parts_of (below s 0))) most_parameters) (with_limit Parameters s) refl) found stand
  acts BindParameter (AList slots ∷ known) after is found stand = bind_parameter_acts slots known after is found stand
  acts BindParameter known after is found stand = absurd (cc found)
  acts CloseParameters known after is found stand = kept known after (reached _ next is) found stand
  acts OpenScope known after is found stand = kept known after (reached _ next is) found stand
  acts CloseScope known after is found stand = kept known after (reached _ next is) found stand
  acts OpenBody known after is found stand = kept known after (reached _ next is) found stand
  acts MakeForPart (AWord ∷ AList slots ∷ known) after is found stand = make_for_part_acts slots known after is found stand
  acts MakeForPart known after is found stand = absurd (cc found)
  acts UseName (AWord ∷ known) after is found stand = name_acts (found_name s Ordinary (text_of (below s 0))) (below s 0) known after is found stand
  acts UseName known after is found stand = absurd (cc found)
  acts MakeContextStatement (AWord ∷ known) after is found stand =
      context_acts (change_of (in_parentheses (tokens_behind s (below s 0)))) known after is found stand
  acts MakeContextStatement known after is found stand = absurd (cc found)
  acts MakeIntegerConstant (AWord ∷ known) after is found stand = constant_acts kinds.IntegerConstant (integer_of (text_of (below s 0))) (AConstant ∷ []) known after is (λ constant. ((nothing, tt), refl)) found stand
  acts MakeIntegerConstant known after is found stand = absurd (cc found)
  acts MakeCharacterConstant (AWord ∷ known) after is found stand = constant_acts kinds.CharacterConstant (char_of (text_of (below s 0))) (AnExpression ∷ []) known after is (λ constant. ((nothing, tt), refl)) found stand
  acts MakeCharacterConstant known after is found stand = absurd (cc found)
  acts MakeStringLiteral (AList slots ∷ AWord ∷ known) after is found stand =
      string_acts slots known after (string_made_so (below s 1) (below s 0) (bad_piece (parts_of (below s 0))) is) found stand
  acts MakeStringLiteral known after is found stand = absurd (cc found)
  -- each other one makes the node of its shape
  acts action known after is found stand = shape_acts action known after (shape_of action) (shapes_are_made action s) is found stand
