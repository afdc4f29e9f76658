-- There is a table of values, or none.
use Rattle.std.proofs.Common.{◌≡◌, [], List, sym, subst, ◌∙◌}
use Rattle.std.specs.Prelude.{IsSomeAnd}
use Rattle.std.proofs.lemmas.Result.{IfOk-weaker}
use Rattle.toml.specs.View.{view}
use Rattle.ob_load.specs.Preset.{values_given, values_of}
use Rattle.ob_load.specs.Rooms.{AreGivenTo}
use Rattle.ob_load.proofs.ValueSteps.{AreValuesTo, Given, given-over, values-none, values-of, values-of-none}
use Rattle.ob_load.proofs.values.RowScope.values_of.Goals as goal
use Rattle.ob_schema.specs.Models.{model_at}
use Rattle.ob_schema.specs.declared.info.ModelInfo.{ModelInfo}

pub returns-in-Some-clause-given : goal.returns-in-Some-clause-given
returns-in-Some-clause-given c =
    let s = c.args.self.now in
    let fields = c.fields-own.result.now in
    let d = view c.args.entry.now in
    let values = view c.in-Some.values.now in
    IfOk-weaker c.values_in.result (λ (g : List Given). g ≡ values_given s.scope.schema.now s.scope.groups.now s.first s.refs.now values 1 fields)
    (λ (g : List Given). g ≡ values_of s.scope.schema.now s.scope.groups.now s.first s.refs.now c.args.model d)
    (λ g is. values-of s.scope.schema.now s.scope.groups.now s.first s.refs.now c.args.model d values fields g c.fields-own.ensures.same (sym c.in-Some.ensures) is) c.values_in.ensures.given

pub returns-in-Some-clause-fit : goal.returns-in-Some-clause-fit
returns-in-Some-clause-fit c =
    let s = c.args.self.now in
    let fields = c.fields-own.result.now in
    IfOk-weaker c.values_in.result (λ (g : List Given). AreGivenTo s.scope.schema.now s.scope.groups.now s.first s.refs.now fields g)
    (λ (g : List Given). IsSomeAnd (model_at s.scope.schema.now c.args.model) (λ (info : ModelInfo). AreGivenTo s.scope.schema.now s.scope.groups.now s.first s.refs.now info.fields g))
    (λ g are. given-over s.scope.schema.now s.scope.groups.now s.first s.refs.now c.args.model fields g c.fields-own.ensures.same are) c.values_in.ensures.fit

pub returns-in-None-clause-given : goal.returns-in-None-clause-given
returns-in-None-clause-given c =
    let s = c.args.self.now in
    c.new.ensures ∙ values-of-none s.scope.schema.now s.scope.groups.now s.first s.refs.now c.args.model (view c.args.entry.now) (sym c.in-None.ensures)

pub returns-in-None-clause-fit : goal.returns-in-None-clause-fit
returns-in-None-clause-fit c =
    let s = c.args.self.now in
    let fields = c.fields-own.result.now in
    let none : AreValuesTo s.scope.schema.now s.scope.groups.now s.first s.refs.now (view c.args.entry.now) fields 0 [] = values-none s.scope.schema.now s.scope.groups.now s.first s.refs.now (view c.args.entry.now) fields in
    given-over s.scope.schema.now s.scope.groups.now s.first s.refs.now c.args.model fields c.new.result c.fields-own.ensures.same
    (subst (λ (l : List Given). AreGivenTo s.scope.schema.now s.scope.groups.now s.first s.refs.now fields l) (sym c.new.ensures) none.fit)
