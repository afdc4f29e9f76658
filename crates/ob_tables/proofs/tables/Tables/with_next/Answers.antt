use Rattle.std.proofs.Common.{◌≡◌, ◌<◌, IsSome, ap, sym, subst, ◌∙◌}
use Rattle.ob_base.specs.declared.id.RecId.{RecId}
use Rattle.ob_schema.specs.Models.{HasModel}
use Rattle.ob_tables.specs.After.{with_next_id}
use Rattle.ob_tables.specs.Rooms.{shown_tables}
use Rattle.ob_schema.specs.Tables.{Standing, Tables, row_at}
use Rattle.ob_tables.proofs.Edits.{fits-raised, shows-next}
use Rattle.ob_tables.proofs.tables.Tables.with_next.Goals as goal

pub invariant_of-tables : goal.invariant_of-tables
invariant_of-tables c =
    let same = sym (c.tables.view_is ∙ c.in_ok-tables.ensures) in record {
      fits = fits-raised c.tables.inside.schema.now c.tables.inside.rows c.tables.inside.next_ids c.tables.invariant.fits c.insert.new.self c.args.model c.args.next
          (subst (λ (s : Standing). HasModel s.models c.args.model) same c.requires.model) c.in_ok-insert.ensures.updates.0 c.requires.low
          (subst (λ (s : Standing). (id : RecId) → IsSome (row_at s.tables c.args.model id) → id.0 < c.args.next) same c.requires.above);
      digested = c.tables.invariant.digested;
    }

pub returns : goal.returns
returns c =
    let same = c.tables.view_is ∙ c.in_ok-tables.ensures in
    let models = c.tables.inside.schema.now in
    let Is = λ (s t : Standing). s ≡ t in
    subst (λ (s : Standing). Is (record { models = models; tables = shown_tables models c.tables.inside.rows c.insert.new.self }) (record { models = s.models; tables = with_next_id c.args.model c.args.next s.tables })) same
    (ap (λ (t : Tables). record { models = models; tables = t })
    (shows-next models c.tables.inside.rows c.tables.inside.next_ids c.insert.new.self c.args.model c.args.next
    (subst (λ (s : Standing). HasModel s.models c.args.model) (sym same) c.requires.model) c.in_ok-insert.ensures.updates.0))
