use Rattle.std.proofs.Common.{◌≡◌, ℕ, List, Option, Some, None, sym, ap, subst, ◌∙◌}
use Rattle.std.proofs.lemmas.Result.{IfOk-weaker}
use Rattle.ob_definition.specs.Findings.{Adds}
use Rattle.ob_definition.specs.Gathered.{Gathered, begun_new, blank, copied, model_of, with_opened}
use Rattle.ob_definition.specs.Rooms.{IsBeginningFault, IsExtensionFault}
use Rattle.ob_definition.proofs.EntryFaults.{opened-is}
use Rattle.ob_definition.proofs.Taking.{found-blank, found-copy, found-extending, found-nameless, found-no_base, opens-blank}
use Rattle.ob_definition.proofs.gathering.Gathering.take.Goals as goal

pub returns-in-None-None : goal.returns-in-None-None
returns-in-None-None c =
    let models = c.args.self.now in
    let n = c.args.entry in
    let def = c.args.def.now in
    let kind = rw (c.then_some.ensures, c.is_wrong_entry.ensures) at c.in_ok-at_entry.ensures.found in
    let e = c.in-None-None.is-0 in
    let h = c.in-None-None.is-1 in
    record {
      models = IfOk-weaker c.at_entry-in-None-None.result _ _ (λ _ _. sym (ap (λ (o : Option Gathered). with_opened n def o models) (opened-is models n def None None e h))) c.at_entry-in-None-None.ensures.found;
      faults = IfOk-weaker c.at_entry-in-None-None.result _ _ (λ _ adds. found-nameless models n def c.args.first.now c.at_entry.new.self c.at_entry-in-None-None.new.self kind e h adds) c.at_entry-in-None-None.ensures.found;
    }

pub returns-in-None-Some : goal.returns-in-None-Some
returns-in-None-Some c =
    let models = c.args.self.now in
    let n = c.args.entry in
    let def = c.args.def.now in
    let base = c.in-None-Some.base in
    let kind = rw (c.then_some.ensures, c.is_wrong_entry.ensures) at c.in_ok-at_entry.ensures.found in
    let e = c.in-None-Some.is-0 in
    let h = c.in-None-Some.is-1 in
    record {
      models = IfOk-weaker c.extend.result _ _
          (λ _ is. is ∙ ap (λ (b : List ℕ). with_opened n def (model_of models b) models) c.as_str.ensures ∙ sym (ap (λ (o : Option Gathered). with_opened n def o models) (opened-is models n def None (Some base) e h)))
          c.extend.ensures.models;
      faults = IfOk-weaker c.extend.result _ _
          (λ _ adds. found-extending models n def c.args.first.now c.at_entry.new.self c.extend.new.first kind base e h
          (subst (λ (b : List ℕ). Adds (IsExtensionFault models n def b) c.at_entry.new.self c.extend.new.first) c.as_str.ensures adds))
          c.extend.ensures.faults;
    }

pub returns-in-Some-None : goal.returns-in-Some-None
returns-in-Some-None c =
    let models = c.args.self.now in
    let n = c.args.entry in
    let def = c.args.def.now in
    let name = c.in-Some-None.name in
    let kind = rw (c.then_some.ensures, c.is_wrong_entry.ensures) at c.in_ok-at_entry.ensures.found in
    let e = c.in-Some-None.is-0 in
    let h = c.in-Some-None.is-1 in
    let is : c.new-model.result ≡ blank n name = c.new-model.ensures ∙ ap (blank n) c.as_str-in-Some-None.ensures in
    record {
      models = IfOk-weaker c.begin.result _ _
          (λ _ made. made ∙ ap (λ (m : Gathered). with_opened m.entry def (begun_new models def m) models) is ∙ sym (ap (λ (o : Option Gathered). with_opened n def o models) (opens-blank models n def name e h)))
          c.begin.ensures.models;
      faults = IfOk-weaker c.begin.result _ _
          (λ _ adds. found-blank models n def c.args.first.now c.at_entry.new.self c.begin.new.first kind name e h
          (subst (λ (m : Gathered). Adds (IsBeginningFault models def m) c.at_entry.new.self c.begin.new.first) is adds))
          c.begin.ensures.faults;
    }

pub returns-in_ok-model-in-Some-clause-faults : goal.returns-in_ok-model-in-Some-clause-faults
returns-in_ok-model-in-Some-clause-faults c =
    let models = c.args.self.now in
    let n = c.args.entry in
    let def = c.args.def.now in
    let name = c.in-Some-Some.name in
    let base = c.in-Some-Some.base in
    let m = c.in-Some.base.now in
    let kind = rw (c.then_some.ensures, c.is_wrong_entry.ensures) at c.in_ok-at_entry.ensures.found in
    let there : model_of models base ≡ Some m = sym (ap (model_of models) c.as_str-in-Some-Some.ensures) ∙ sym c.in-Some.ensures in
    let is : c.in_ok-model-in-Some.model ≡ copied n name m = c.in_ok-model-in-Some.ensures ∙ ap (λ (x : List ℕ). copied n x m) c.as_str-in-Some.ensures in
    IfOk-weaker c.begin-in-Some.result _ _
    (λ _ adds. found-copy models n def c.args.first.now c.at_entry.new.self c.begin-in-Some.new.first kind name base m c.in-Some-Some.is-0 c.in-Some-Some.is-1 there
    (subst (λ (g : Gathered). Adds (IsBeginningFault models def g) c.at_entry.new.self c.begin-in-Some.new.first) is adds))
    c.begin-in-Some.ensures.faults

pub returns-in-None-clause-faults : goal.returns-in-None-clause-faults
returns-in-None-clause-faults c =
    let models = c.args.self.now in
    let base = c.in-Some-Some.base in
    let kind = rw (c.then_some.ensures, c.is_wrong_entry.ensures) at c.in_ok-at_entry.ensures.found in
    let none : model_of models base ≡ None = sym (ap (model_of models) c.as_str-in-Some-Some.ensures) ∙ sym c.in-None.ensures in
    IfOk-weaker c.at_entry-in-None.result _ _
    (λ _ adds. found-no_base models c.args.entry c.args.def.now c.args.first.now c.at_entry.new.self c.at_entry-in-None.new.self kind c.in-Some-Some.name base c.in-Some-Some.is-0 c.in-Some-Some.is-1 none adds)
    c.at_entry-in-None.ensures.found
