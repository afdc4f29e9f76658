use Rattle.std.proofs.Common.{List, subst, sym}
use Rattle.ob_cache.proofs.Unbroken.{passes-tie}
use Rattle.ob_change.specs.Changing.{TellsBroken, models_of, sides_of}
use Rattle.ob_schema.specs.Broken.{IsBroken}
use Rattle.ob_schema.specs.Models.{IsRegistry}
use Rattle.ob_schema.specs.declared.info.ModelInfo.{ModelInfo}
use Rattle.ob_sound.specs.EditsBreak.{EditsPass}
use Rattle.ob_tables.proofs.CallerLemmas.{sound-tied}
use Rattle.ob_cache.proofs.behind.reached.Goals as goal

pub returns-in-Some-clause-fault : goal.returns-in-Some-clause-fault
returns-in-Some-clause-fault c =
    let change = c.args.change in
    let models = models_of change in
    let sides = sides_of change in
    subst (λ (m : List ModelInfo). IsBroken m sides.behind c.in-Some.broken) (sym change.behind_over)
    (subst (TellsBroken models sides.behind (EditsPass models sides)) c.in-Some.is c.in_ok-broken.ensures.told)

pub marked_cells-requires-clause-before : goal.marked_cells-requires-clause-before
marked_cells-requires-clause-before c = sound-tied (models_of c.args.change) c.args.change.before.now.tables c.requires.sound

pub marked_cells-requires-clause-behind : goal.marked_cells-requires-clause-behind
marked_cells-requires-clause-behind c =
    let change = c.args.change in
    let models = models_of change in
    let sides = sides_of change in
    let pass = subst (TellsBroken models sides.behind (EditsPass models sides)) c.in_default.is c.in_ok-broken.ensures.told in
    c.still_tied.ensures models sides (subst IsRegistry change.behind_over c.fit_together.ensures.registry) (sound-tied models sides.before c.requires.sound) (passes-tie models sides pass)

pub returns-clause-pass : goal.returns-clause-pass
returns-clause-pass c =
    let models = models_of c.args.change in
    let sides = sides_of c.args.change in
    subst (TellsBroken models sides.behind (EditsPass models sides)) c.in_default.is c.in_ok-broken.ensures.told

pub returns-clause-tied : goal.returns-clause-tied
returns-clause-tied c =
    let change = c.args.change in
    let models = models_of change in
    let sides = sides_of change in
    let pass = subst (TellsBroken models sides.behind (EditsPass models sides)) c.in_default.is c.in_ok-broken.ensures.told in
    c.still_tied.ensures models sides (subst IsRegistry change.behind_over c.fit_together.ensures.registry) (sound-tied models sides.before c.requires.sound) (passes-tie models sides pass)
