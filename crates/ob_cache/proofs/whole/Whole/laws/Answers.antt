use Rattle.std.proofs.Common.{sym, subst}
use Rattle.ob_cache.specs.Native.{IsNativeRegistry}
use Rattle.ob_cache.proofs.NativeValues.{native-values}
use Rattle.ob_schema.specs.Broken.{AreSound}
use Rattle.ob_schema.specs.Models.{IsRegistry}
use Rattle.ob_schema.specs.Tables.{Standing}
use Rattle.ob_cache.proofs.whole.Whole.laws.Goals as goal

pub returns-clause-readable : goal.returns-clause-readable
returns-clause-readable c =
    let models = c.args.self.now.models in
    let tables = c.args.self.now.tables in
    let registry : IsRegistry models = subst (λ (s : Standing). IsRegistry s.models) c.self.view_is c.fit_together.ensures.registry in
    let native : IsNativeRegistry models = subst (λ (s : Standing). IsNativeRegistry s.models) c.self.view_is (subst IsNativeRegistry (sym c.self.invariant.over) c.self.invariant.native) in
    let sound : AreSound models tables = subst (λ (s : Standing). AreSound s.models s.tables) c.self.view_is c.self.invariant.sound in
    record {
      sound = sound;
      typed = c.sound_values.ensures.typed models tables registry sound;
      valued = c.sound_values.ensures.valued models tables registry sound;
      native = native-values models tables registry native sound;
    }
