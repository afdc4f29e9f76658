use Rattle.std.proofs.Common.{◌⊎◌, inl, inr, sym, ◌∙◌, rules}
use Rattle.std.specs.Prelude.{◌↔◌, Any, IsTrue}
use Rattle.std.proofs.lemmas.Bool.{false≢true}
use Rattle.std.proofs.lemmas.Iterator.{cases_from_any, YieldsList-from_slice}
use Rattle.ob_definition.specs.declared.wrong.Wrong.TheVariants as wrong
use Rattle.ob_schema.specs.declared.info.Path.{Path}
use Rattle.ob_registry.specs.Graphs.{IsSelfWrong, LeadsToItselfBy}
use Rattle.ob_registry.specs.ModelFields.{member_of}
use Rattle.ob_schema.specs.Paths.{EndsIn}
use Rattle.ob_schema.specs.Strata.{IsToChildren, IsToParent}
use Rattle.ob_registry.specs.Telling.{steps_in}
use Rattle.ob_registry.proofs.PathTests.{any-is}
use Rattle.ob_registry.proofs.SelfReading.{ends-there, reads-itself, recursion-by, recursion-is, self-along, self-circle, self-fine, self-none, told-none, told-one}
use borrow.Author.Tests.{tests}
use Rattle.ob_registry.proofs.strata.wrong_self.Goals as goal
use Rattle.ob_registry.proofs.strata.wrong_self.Goals.{else-not-reads_up-via-then-not-reads_up+else-not-reads_down, else-not-reads_up-via-else-not-reads_up}

pub returns-then-not-any : goal.returns-then-not-any
returns-then-not-any c = λ g is are.
    let Ends : Path → Type 0 = λ path. EndsIn path.steps c.args.own in
    let any : IsTrue c.any.result ↔ Any Ends c.args.paths.now = any-is Ends c.args.paths.now c.any.result
    (cases_from_any _ _ _ Ends (λ path. Ends path → ⊥) c.any.ensures.ran (YieldsList-from_slice c.args.paths.now c.iter.ensures.rest) (λ x q k. search (rules, tests)) (λ x q k. search (rules, tests))) in
    told-none (IsSelfWrong c.args.models.now c.args.own (member_of c.args.member.now))
    (self-none c.args.models.now c.args.own (member_of c.args.member.now) (λ reads. false≢true (sym c.if-not-any.true ∙ any.1 (ends-there c.args.models.now c.args.own c.args.paths.now are reads))))

pub returns-then-not-reads_down : goal.returns-then-not-reads_down
returns-then-not-reads_down c = λ g is are.
    let Ends : Path → Type 0 = λ path. EndsIn path.steps c.args.own in
    let any : IsTrue c.any.result ↔ Any Ends c.args.paths.now = any-is Ends c.args.paths.now c.any.result
    (cases_from_any _ _ _ Ends (λ path. Ends path → ⊥) c.any.ensures.ran (YieldsList-from_slice c.args.paths.now c.iter.ensures.rest) (λ x q k. search (rules, tests)) (λ x q k. search (rules, tests))) in
    let neither : LeadsToItselfBy (IsToParent c.args.models.now c.args.own.model) c.args.own (steps_in c.args.paths.now) ⊎ LeadsToItselfBy (IsToChildren c.args.models.now c.args.own.model) c.args.own (steps_in c.args.paths.now) → ⊥ =
    λ by. elim by [ inl up ↦ false≢true (sym c.if-not-reads_up.true ∙ c.reads_up.ensures.1 up) | inr down ↦ false≢true (sym c.if-not-reads_down.true ∙ c.reads_down.ensures.1 down) ] in
    let no = λ (along : _). neither (recursion-by c.args.models.now c.args.own c.args.paths.now are along) in
    told-one (IsSelfWrong c.args.models.now c.args.own (member_of c.args.member.now)) wrong.Cycle
    (reads-itself c.args.models.now c.args.own c.args.paths.now are (any.0 c.if-not-any.false), no) (self-circle c.args.models.now c.args.own (member_of c.args.member.now) no)

pub returns-then-is_set : goal.returns-then-is_set
returns-then-is_set c = λ g is are.
    let by : LeadsToItselfBy (IsToParent c.args.models.now c.args.own.model) c.args.own (steps_in c.args.paths.now)
    ⊎ LeadsToItselfBy (IsToChildren c.args.models.now c.args.own.model) c.args.own (steps_in c.args.paths.now) = elim c.else-not-reads_up.branch [
      | else-not-reads_up-via-then-not-reads_up+else-not-reads_down w ↦ inr (w.reads_down.ensures.0 w.if-not-reads_down.false)
      | else-not-reads_up-via-else-not-reads_up w ↦ inl (c.reads_up.ensures.0 w.if-not-reads_up.false)
    ] in
    let set = sym c.is_set.ensures ∙ c.if-is_set.true in
    told-none (IsSelfWrong c.args.models.now c.args.own (member_of c.args.member.now))
    (self-fine c.args.models.now c.args.own (member_of c.args.member.now) (recursion-is c.args.models.now c.args.own c.args.paths.now are by) set)

pub returns-else-is_set : goal.returns-else-is_set
returns-else-is_set c = λ g is are.
    let Ends : Path → Type 0 = λ path. EndsIn path.steps c.args.own in
    let any : IsTrue c.any.result ↔ Any Ends c.args.paths.now = any-is Ends c.args.paths.now c.any.result
    (cases_from_any _ _ _ Ends (λ path. Ends path → ⊥) c.any.ensures.ran (YieldsList-from_slice c.args.paths.now c.iter.ensures.rest) (λ x q k. search (rules, tests)) (λ x q k. search (rules, tests))) in
    let by : LeadsToItselfBy (IsToParent c.args.models.now c.args.own.model) c.args.own (steps_in c.args.paths.now)
    ⊎ LeadsToItselfBy (IsToChildren c.args.models.now c.args.own.model) c.args.own (steps_in c.args.paths.now) = elim c.else-not-reads_up.branch [
      | else-not-reads_up-via-then-not-reads_up+else-not-reads_down w ↦ inr (w.reads_down.ensures.0 w.if-not-reads_down.false)
      | else-not-reads_up-via-else-not-reads_up w ↦ inl (c.reads_up.ensures.0 w.if-not-reads_up.false)
    ] in
    let along = recursion-is c.args.models.now c.args.own c.args.paths.now are by in
    let unset = sym c.is_set.ensures ∙ c.if-is_set.false in
    told-one (IsSelfWrong c.args.models.now c.args.own (member_of c.args.member.now)) wrong.Recursion
    (reads-itself c.args.models.now c.args.own c.args.paths.now are (any.0 c.if-not-any.false), along, unset) (self-along c.args.models.now c.args.own (member_of c.args.member.now) along)
