use Rattle.std.proofs.Common.{◌≡◌, ◌<◌, IsSome, map, filter, sym, subst, ◌∙◌}
use Rattle.std.specs.Prelude.{nat_lt}
use Rattle.ob_base.specs.declared.id.RecId.{RecId}
use Rattle.ob_schema.specs.Plain.{naming}
use Rattle.ob_schema.specs.Tables.{Standing, key_of, row_at}
use Rattle.ob_tables.proofs.Shown.{has-shown_rows}
use Rattle.ob_tables.proofs.tables.Tables.holders_above.Goals as goal

pub holders_above-requires : goal.holders_above-requires
holders_above-requires c id there =
    let low = subst (λ (s : Standing). (id : RecId) → IsSome (row_at s.tables c.args.model id) → id.0 < c.next.result) (sym c.self.view_is) c.next.ensures.above in
    low id (has-shown_rows c.self.inside.rows (key_of c.args.model id) ∙ there)

pub returns : goal.returns
returns c =
    subst (λ (s : Standing). map (λ entry. entry.0.holder) c.holders_above.result ≡ filter (λ (id : RecId). nat_lt c.args.after.0 id.0) (naming s.tables c.args.model c.args.field c.args.id)) c.self.view_is
    c.holders_above.ensures
