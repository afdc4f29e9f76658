use Rattle.std.proofs.Common.{◌≡◌, None, List, subst, sym, ◌∙◌}
use Rattle.ob_cache.specs.Changing.{form_of}
use Rattle.ob_cache.proofs.Gathering.{form-absent, turned-alike}
use Rattle.ob_cache.proofs.KeptValues.{found-none}
use Rattle.ob_schema.specs.Models.{model_at}
use Rattle.ob_schema.specs.declared.info.ModelInfo.{ModelInfo}
use Rattle.ob_cache.proofs.flushing.add_row.Goals as goal

pub returns-then-is_none : goal.returns-then-is_none
returns-then-is_none c =
    let old = c.args.old.now in
    let new = c.args.new.now in
    let key = c.args.key in
    let none : model_at c.args.schema.now key.model ≡ None = found-none (λ i. i.now) c.find_model.result (model_at c.args.schema.now key.model) c.find_model.ensures c.if-is_none.ensures in
    let in_old : model_at old.models key.model ≡ None = subst (λ (m : List ModelInfo). model_at m key.model ≡ None) (sym c.requires.old) none in
    let in_new : model_at new.models key.model ≡ None = subst (λ (m : List ModelInfo). model_at m key.model ≡ None) (sym c.requires.new) none in
    turned-alike old.models key (form_of old key) (form_of new key) (form-absent old key in_old ∙ sym (form-absent new key in_new)) c.args.changes.now
