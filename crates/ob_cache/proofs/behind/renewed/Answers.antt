use Rattle.std.proofs.Common.{List, refl, subst, sym}
use Rattle.std.specs.Prelude.{IsOk}
use Rattle.ob_cache.specs.Behind.{AreMarked}
use Rattle.ob_cache.proofs.LastingForms.{forms-last}
use Rattle.ob_cache.proofs.Standings.{standing-over}
use Rattle.ob_cache.proofs.Ticking.{marked-evaluated, none-evaluated, not-done}
use Rattle.ob_change.specs.Changing.{models_of, sides_of}
use Rattle.ob_schema.specs.Broken.{AreSound}
use Rattle.ob_schema.specs.Models.{IsRegistry}
use Rattle.ob_schema.specs.Tables.{Fits, Standing}
use Rattle.ob_schema.specs.declared.info.ModelInfo.{ModelInfo}
use Rattle.ob_cache.proofs.behind.renewed.Goals as goal

pub reached-requires-clause-sound : goal.reached-requires-clause-sound
reached-requires-clause-sound g c =
    let change = c.args.change in
    subst (λ (m : List ModelInfo). AreSound m change.before.now.tables) change.before_over (subst (λ (s : Standing). AreSound s.models s.tables) c.requires.whole c.laws.ensures.readable.sound)

pub values_behind-requires-clause-sound : goal.values_behind-requires-clause-sound
values_behind-requires-clause-sound g c =
    let change = c.args.change in
    subst (λ (m : List ModelInfo). AreSound m change.before.now.tables) change.before_over (subst (λ (s : Standing). AreSound s.models s.tables) c.requires.whole c.laws.ensures.readable.sound)

pub returns-clause-sound : goal.returns-clause-sound
returns-clause-sound g c =
    let change = c.args.change in
    let models = models_of change in
    let sides = sides_of change in
    let sound : AreSound models sides.before = subst (λ (m : List ModelInfo). AreSound m sides.before) change.before_over (subst (λ (s : Standing). AreSound s.models s.tables) c.requires.whole c.laws.ensures.readable.sound) in
    let registry : IsRegistry models = subst IsRegistry change.behind_over c.fit_together.ensures.registry in
    let fits : Fits models sides.behind = subst (λ (m : List ModelInfo). Fits m sides.behind) change.behind_over c.fit_together.ensures.fits in
    let cells = c.as_slice.result.now in
    let marked : AreMarked models sides cells = subst (AreMarked models sides) (sym c.as_slice.ensures.same) c.in_ok-marked.ensures.marked in
    c.still_sound.ensures models sides cells registry sound fits c.in_ok-marked.ensures.pass marked.changed c.in_ok-values.ensures.unbroken.passes

pub returns-clause-forms : goal.returns-clause-forms
returns-clause-forms g c =
    let change = c.args.change in
    let models = models_of change in
    let sides = sides_of change in
    let sound : AreSound models sides.before = subst (λ (m : List ModelInfo). AreSound m sides.before) change.before_over (subst (λ (s : Standing). AreSound s.models s.tables) c.requires.whole c.laws.ensures.readable.sound) in
    let registry : IsRegistry models = subst IsRegistry change.behind_over c.fit_together.ensures.registry in
    let fits : Fits models sides.behind = subst (λ (m : List ModelInfo). Fits m sides.behind) change.behind_over c.fit_together.ensures.fits in
    let cells = c.as_slice.result.now in
    let marked : AreMarked models sides cells = subst (AreMarked models sides) (sym c.as_slice.ensures.same) c.in_ok-marked.ensures.marked in
    let listed = c.as_slice-2.result.now in
    let behind = c.still_sound.ensures models sides cells registry sound fits c.in_ok-marked.ensures.pass marked.changed c.in_ok-values.ensures.unbroken.passes in
    forms-last models sides registry sound behind (λ cell computed not. c.others_keep_values.ensures models sides cell registry sound computed not) listed
    (subst (AreMarked models sides) (sym c.as_slice-2.ensures.same) c.in_ok-marked.ensures.marked) change.touched.now c.requires.touches c.add_rows.new.listed.items c.in_ok-add_rows.ensures.touched c.in_ok-add_rows.ensures.marked
    change.before.now change.behind.now (standing-over change.before.now models change.before_over) (standing-over change.behind.now models change.behind_over)

pub returns-in_err-marked-clause-evaluated : goal.returns-in_err-marked-clause-evaluated
returns-in_err-marked-clause-evaluated g c = none-evaluated g.L.Ledger.noted (models_of c.args.change) (sides_of c.args.change) _ c.args.steps.now (λ is. absurd (not-done _ c.from_residual.result c.from_residual.ensures.1 is))

pub returns-in_err-values-clause-evaluated : goal.returns-in_err-values-clause-evaluated
returns-in_err-values-clause-evaluated g c =
    let models = models_of c.args.change in
    let sides = sides_of c.args.change in
    let marked = subst (AreMarked models sides) (sym c.as_slice.ensures.same) c.in_ok-marked.ensures.marked in
    marked-evaluated g.L.Ledger.noted models sides c.as_slice.result.now marked (IsOk c.values_behind.result) _ (λ is. absurd (not-done _ c.from_residual-in_err-values.result c.from_residual-in_err-values.ensures.1 is)) c.args.steps.now c.values_behind.new.steps c.values_behind.ensures.ticks

pub returns-in_err-add_rows-clause-evaluated : goal.returns-in_err-add_rows-clause-evaluated
returns-in_err-add_rows-clause-evaluated g c =
    let models = models_of c.args.change in
    let sides = sides_of c.args.change in
    let marked = subst (AreMarked models sides) (sym c.as_slice.ensures.same) c.in_ok-marked.ensures.marked in
    marked-evaluated g.L.Ledger.noted models sides c.as_slice.result.now marked (IsOk c.values_behind.result) _ (λ is. absurd (not-done _ c.from_residual-in_err-add_rows.result c.from_residual-in_err-add_rows.ensures.1 is)) c.args.steps.now c.values_behind.new.steps c.values_behind.ensures.ticks

pub returns-clause-evaluated : goal.returns-clause-evaluated
returns-clause-evaluated g c =
    let models = models_of c.args.change in
    let sides = sides_of c.args.change in
    let marked = subst (AreMarked models sides) (sym c.as_slice.ensures.same) c.in_ok-marked.ensures.marked in
    marked-evaluated g.L.Ledger.noted models sides c.as_slice.result.now marked (IsOk c.values_behind.result) _ (λ is. subst IsOk (sym c.in_ok-values.was) refl) c.args.steps.now c.values_behind.new.steps c.values_behind.ensures.ticks
