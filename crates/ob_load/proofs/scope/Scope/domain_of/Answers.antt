-- The domain is that of the text, or is told of its rule.
use Rattle.std.proofs.Common.{◌≡◌, ◌≢◌, [], ◌∷◌, List, ℕ, Ok, Err, subst, arith}
use Rattle.std.specs.Prelude.{codes}
use Rattle.toml.specs.View.{view}
use Rattle.ob_base.specs.declared.place.PathStep.{PathStep}
use Rattle.ob_base.specs.declared.place.PathStep.TheVariants.{Item, Key}
use Rattle.ob_domain.specs.Trees.{tree_of_domain}
use Rattle.ob_domain.specs.declared.fault.DomainFault.TheVariants as domain
use Rattle.ob_load.specs.Access.{domain_in}
use Rattle.ob_module.specs.Meaning.{word_at}
use Rattle.ob_load.specs.Rooms.{Refuses}
use Rattle.ob_load.specs.declared.fault.LoadFault.TheVariants as load
use Rattle.ob_load.specs.declared.fault.ModuleFault.TheVariants as fault
use Rattle.ob_load.proofs.AccessForms.{domain-told}
use Rattle.ob_load.proofs.Told.{err_is}
use Rattle.ob_load.proofs.scope.Scope.domain_of.Goals as goal

pub returns-in-Ok-clause-told : goal.returns-in-Ok-clause-told
returns-in-Ok-clause-told c = subst (λ (t : List ℕ). domain_in c.args.self.now.schema.now c.args.model t ≡ Ok (tree_of_domain c.in-Ok.domain)) c.word_at.ensures c.in-Ok.ensures.told

pub returns-in-Err-clause-fault : goal.returns-in-Err-clause-fault
returns-in-Err-clause-fault c = λ called faulty same.
    let models = c.args.self.now.schema.now in
    let owner = c.args.self.now.owner.now in
    let table = c.args.entry.table.now in
    let n = c.args.entry.number in
    let text = word_at (codes "domain") (view c.args.entry.value.now) in
    let other : c.in-Err.fault ≢ domain.NoMemory = grind arith in
    let is : domain_in models c.args.model text ≡ Err c.in-Err.fault = subst (λ (t : List ℕ). domain_in models c.args.model t ≡ Err c.in-Err.fault) c.word_at.ensures (c.in-Err.ensures.fault other) in
    let own : Refuses (record { name = owner; place = Key table ∷ (Item n ∷ []); fault = fault.Domain c.in-Err.fault }) c.refused.result =
    subst (λ (w : List PathStep). Refuses (record { name = owner; place = Key table ∷ (Item n ∷ w); fault = fault.Domain c.in-Err.fault }) c.refused.result) c.here-whole.ensures c.refused.ensures.told in
    domain-told owner table n (domain_in models c.args.model text) c.in-Err.fault c.refused.result faulty is called own (err_is c.refused.result (load.Module faulty) same)
