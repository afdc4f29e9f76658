use Rattle.std.proofs.Common.{◌≡◌, Option, None, Some, ℕ, map, sym, ◌∙◌, refl}
use Rattle.std.specs.Prelude.{IfSome, slice_get}
use Rattle.toml.specs.View.{table_view}
use Rattle.ob_module.specs.Modules.{Module}
use Rattle.ob_module.proofs.Entries.{as_module, has-lookup, modules-apart, numbered-name}
use Rattle.ob_module.proofs.modules.Modules.number_of.Goals as goal

pub returns-clause-at : goal.returns-clause-at
returns-clause-at c = by c.get_index_of.result refl
  where
    by : (o : Option ℕ) → c.get_index_of.result ≡ o
        → IfSome o (λ n. (m : Module) × (slice_get (map (as_module table_view) c.args.self.now.documents.entries) n ≡ Some m) × (m.name ≡ c.args.name.now))
    by None is = tt
    by (Some n) is = numbered-name table_view c.args.self.now.documents.entries c.args.name.now n (sym c.get_index_of.ensures.index ∙ is)

pub returns-clause-found : goal.returns-clause-found
returns-clause-found c = has-lookup table_view c.args.self.now.documents.entries c.args.name.now ∙ sym c.get_index_of.ensures.found

pub returns-clause-apart : goal.returns-clause-apart
returns-clause-apart c = modules-apart table_view c.args.self.now.documents.entries c.get_index_of.ensures.unique
