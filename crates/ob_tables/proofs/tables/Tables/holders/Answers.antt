use Rattle.std.proofs.Common.{◌≡◌, ◌<◌, IsSome, map, sym, subst, ◌∙◌}
use Rattle.ob_base.specs.declared.id.RecId.{RecId}
use Rattle.ob_schema.specs.Plain.{naming}
use Rattle.ob_schema.specs.Tables.{Standing, key_of, row_at}
use Rattle.ob_tables.proofs.Shown.{has-shown_rows}
use Rattle.ob_tables.proofs.tables.Tables.holders.Goals as goal

pub holders-requires : goal.holders-requires
holders-requires c id there =
    let low = subst (λ (s : Standing). (id : RecId) → IsSome (row_at s.tables c.args.model id) → id.0 < c.next.result) (sym c.self.view_is) c.next.ensures.above in
    low id (has-shown_rows c.self.inside.rows (key_of c.args.model id) ∙ there)

pub returns : goal.returns
returns c = subst (λ (s : Standing). map (λ entry. entry.0.holder) c.holders.result ≡ naming s.tables c.args.model c.args.field c.args.id) c.self.view_is c.holders.ensures
