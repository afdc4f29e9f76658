use Rattle.std.proofs.Common.{List, Some, refl}
use Rattle.ob_query.proofs.CallerLemmas.{by_items}
use Rattle.ob_group.specs.GroupForms.{items_in}
use Rattle.serde_json.specs.Data.{Data}
use Rattle.ob_group.proofs.written.items_of.Goals as goal

pub returns-in-Array : goal.returns-in-Array
returns-in-Array c = by_items (λ (d : Data). items_in (Some d)) (λ (ds : List Data). ds) c.args.json.now c.in-Array.items c.as_slice.result.now c.in-Array.is c.as_slice.ensures.value refl
