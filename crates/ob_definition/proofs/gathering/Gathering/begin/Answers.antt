use Rattle.std.proofs.Common.{arith, ◌≡◌, ℕ, nat_le, List, [], ◌∷◌, ◌++◌, length, Some, is_some, sym, ap, subst, ◌∙◌}
use Rattle.std.specs.Bool.{then_some}
use Rattle.std.proofs.lemmas.Result.{IfOk-weaker}
use Rattle.ob_base.specs.Limits.{max_models}
use Rattle.ob_definition.specs.declared.wrong.Wrong.TheVariants as wrong
use Rattle.ob_definition.specs.Findings.{Adds, IsAt}
use Rattle.ob_definition.specs.Gathered.{Gathered, added, begun, model_of}
use Rattle.ob_definition.specs.Rooms.{IsAdditionFault, spot_at}
use Rattle.ob_definition.proofs.EntryFaults.{none_some}
use Rattle.ob_definition.proofs.Taking.{found-begun, found-taken, is_taken-by, no_some, opened-free, opened-taken}
use Rattle.ob_definition.proofs.gathering.Gathering.begin.Goals as goal

pub returns-then-is_some-clause-models : goal.returns-then-is_some-clause-models
returns-then-is_some-clause-models c =
    let models = c.args.self.now in
    let name = c.args.model.name in
    let test : c.is_some.result ≡ is_some (model_of models name) =
    is_taken-by models name c.model.inside.name.now c.place.result c.is_some.result (ap (λ (g : Gathered). g.name) c.model.view_is) c.place.ensures.at c.is_some.ensures in
    IfOk-weaker c.at_entry.result _ _ (λ _ _. sym (opened-taken models c.args.def.now c.args.model c.args.model.entry (sym test ∙ c.if-is_some.true))) c.at_entry.ensures.found

pub returns-then-is_some-clause-faults : goal.returns-then-is_some-clause-faults
returns-then-is_some-clause-faults c =
    let models = c.args.self.now in
    let name = c.args.model.name in
    let same : c.model.inside.entry ≡ c.args.model.entry = ap (λ (g : Gathered). g.entry) c.model.view_is in
    let test : c.is_some.result ≡ is_some (model_of models name) =
    is_taken-by models name c.model.inside.name.now c.place.result c.is_some.result (ap (λ (g : Gathered). g.name) c.model.view_is) c.place.ensures.at c.is_some.ensures in
    IfOk-weaker c.at_entry.result _ _
    (λ _ adds. found-taken models c.args.def.now c.args.model c.args.first.now c.at_entry.new.self (sym test ∙ c.if-is_some.true)
    (subst (λ (k : ℕ). Adds (IsAt (Some wrong.Twice) (spot_at k [])) c.args.first.now c.at_entry.new.self) same adds))
    c.at_entry.ensures.found

pub push-requires : goal.push-requires
push-requires c =
    let models = c.args.self.now in
    let name = c.args.model.name in
    let test : c.is_some.result ≡ is_some (model_of models name) =
    is_taken-by models name c.model.inside.name.now c.place.result c.is_some.result (ap (λ (g : Gathered). g.name) c.model.view_is) c.place.ensures.at c.is_some.ensures in
    let kept : c.add.new.self.name ≡ name = c.in_ok-add.ensures.named ∙ ap (λ (g : Gathered). g.name) c.declare.ensures in
    ap (model_of models) kept ∙ no_some (model_of models name) (sym test ∙ c.if-is_some.false)

pub returns-clause-models : goal.returns-clause-models
returns-clause-models c =
    let models = c.args.self.now in
    let def = c.args.def.now in
    let model = c.args.model in
    let same : c.model.inside.entry ≡ model.entry = ap (λ (g : Gathered). g.entry) c.model.view_is in
    let test : c.is_some.result ≡ is_some (model_of models model.name) =
    is_taken-by models model.name c.model.inside.name.now c.place.result c.is_some.result (ap (λ (g : Gathered). g.name) c.model.view_is) c.place.ensures.at c.is_some.ensures in
    let full : c.add.new.self ≡ added model.entry def (begun def model) =
    c.in_ok-add.ensures.model ∙ ap (λ (g : Gathered). added c.model.inside.entry def g) c.declare.ensures ∙ ap (λ (k : ℕ). added k def (begun def model)) same in
    IfOk-weaker c.push.result _ _ (λ _ new. new ∙ ap (λ (g : Gathered). models ++ g ∷ []) full ∙ sym (opened-free models def model model.entry (sym test ∙ c.if-is_some.false))) c.push.ensures

pub returns-clause-faults : goal.returns-clause-faults
returns-clause-faults c =
    let models = c.args.self.now in
    let def = c.args.def.now in
    let model = c.args.model in
    let same : c.model.inside.entry ≡ model.entry = ap (λ (g : Gathered). g.entry) c.model.view_is in
    let test : c.is_some.result ≡ is_some (model_of models model.name) =
    is_taken-by models model.name c.model.inside.name.now c.place.result c.is_some.result (ap (λ (g : Gathered). g.name) c.model.view_is) c.place.ensures.at c.is_some.ensures in
    let held : length c.self.inside.models.items ≡ length models = ap (λ (l : List Gathered). length l) c.self.view_is in
    let size : c.len-is_full.result ≡ length models = omega (arith, c.len-is_full.ensures, held, c.self.inside.models.ok.0) in
    let full = nat_le max_models c.len-is_full.result in
    let told = rw c.then_some.ensures at c.in_ok-at_entry.ensures.found in
    let limit : Adds (IsAt (then_some full wrong.Limit) (spot_at model.entry [])) c.args.first.now c.at_entry-2.new.self =
    subst (λ (k : ℕ). Adds (IsAt (then_some full wrong.Limit) (spot_at k [])) c.args.first.now c.at_entry-2.new.self) same told in
    let rest : Adds (IsAdditionFault model.entry def (begun def model)) c.at_entry-2.new.self c.add.new.first =
    subst (λ (k : ℕ). Adds (IsAdditionFault k def (begun def model)) c.at_entry-2.new.self c.add.new.first) same
    (subst (λ (g : Gathered). Adds (IsAdditionFault c.model.inside.entry def g) c.at_entry-2.new.self c.add.new.first) c.declare.ensures c.in_ok-add.ensures.faults) in
    IfOk-weaker c.push.result _ _
    (λ _ _. found-begun models def model full c.args.first.now c.at_entry-2.new.self c.add.new.first (none_some (model_of models model.name) (sym test ∙ c.if-is_some.false)) (ap (nat_le max_models) size) limit rest)
    c.push.ensures
