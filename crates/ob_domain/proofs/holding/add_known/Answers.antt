-- A known row is put in, another left out.
use Rattle.std.proofs.Common.{◌≡◌, true, sym, ◌∙◌}
use Rattle.std.proofs.lemmas.Map.Views.{All-insert_key}
use Rattle.ob_base.specs.declared.id.RecId.{RecId}
use Rattle.ob_domain.proofs.Ids.{same_id}
use Rattle.ob_domain.proofs.AnyOf.{any-insert_key}
use Rattle.ob_domain.proofs.holding.add_known.Goals as goal

pub returns-clause-told : goal.returns-clause-told
returns-clause-told g c = λ told tells test.
    let knows : told.knows c.args.row.model c.args.row.id ≡ true = sym (c.in_ok-is_known.ensures.told told tells) ∙ c.if-not-branch.false in
    rw (c.in_ok-insert.ensures.keys, knows) (any-insert_key _ test c.args.row.id c.args.named.now.keys (λ x e. same_id c.args.row.id x e))

pub returns-clause-known : goal.returns-clause-known
returns-clause-known g c = λ told tells all.
    let knows : told.knows c.args.row.model c.args.row.id ≡ true = sym (c.in_ok-is_known.ensures.told told tells) ∙ c.if-not-branch.false in
    rw c.in_ok-insert.ensures.keys (All-insert_key _ c.args.row.id (λ (id : RecId). told.knows c.args.row.model id ≡ true) c.args.named.now.keys all knows)
