-- What is entered into a new chain is what is found there.
use Rattle.std.proofs.Common.{◌∙◌, map}
use Rattle.std.specs.Map.{lookup}
use Rattle.meaning_layout.specs.Members.{names_of_members}
use Rattle.c_types.specs.Chains.{or_later, own_name}
use Rattle.c_types.specs.Layouts.{told_kept}
use Rattle.c_types.specs.Maps.{names_kept}
use Rattle.c_types.specs.Members.{is_name, member_declared}
use Rattle.c_types.specs.Rows.{types_of}
use Rattle.c_types.proofs.MapLemmas.{fresh-names}
use Rattle.c_types.proofs.maps.MemberMaps.chain_of.Goals as goal

pub returns-clause-named : goal.returns-clause-named
returns-clause-named c = λ asked.
    let types = types_of c.args.rows.now.rows.entries in
    let told = told_kept c.args.layouts.now.kept.entries in
    fresh-names types told c.enter_all.new.self c.in_ok-names.names.items
    (names_of_members told (names_kept types told c.args.self.now.chains.items c.args.self.now.kept.entries) 0 (map (member_declared types) c.args.members.now)) asked
    (c.in_ok-enter_all.ensures.named told asked ∙ (λ i. or_later (own_name told (c.new-chain.ensures i) 0 asked) (lookup (is_name asked) (c.as_slice.ensures.value i)))) c.in_ok-names.ensures.names
