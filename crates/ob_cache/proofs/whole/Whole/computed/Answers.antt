use Rattle.std.proofs.Common.{◌≡◌, true, ap, sym, ◌∙◌}
use Rattle.std.specs.Option.{option_copied}
use Rattle.ob_cache.proofs.Inserting.{told-computed}
use Rattle.ob_cache.proofs.TypedCells.{computed-typed}
use Rattle.ob_schema.specs.Models.{field_at, is_computed_from}
use Rattle.ob_schema.specs.declared.info.FieldInfo.{FieldInfo}
use Rattle.ob_tables.proofs.CallerLemmas.{told_and}
use Rattle.ob_cache.proofs.whole.Whole.computed.Goals as goal

pub returns-in_ok-try_clone-in-Some-clause-told : goal.returns-in_ok-try_clone-in-Some-clause-told
returns-in_ok-try_clone-in-Some-clause-told c =
    told-computed c.self.inside.tables c.args.self.now c.self.inside.values c.self.view_is c.self.invariant.values c.args.cell c.in-Some.value.now c.in_ok-try_clone-in-Some.field-0
    (sym c.get.ensures.value ∙ ap option_copied c.in-Some.is) c.in_ok-try_clone-in-Some.ensures

pub returns-in_ok-try_clone-in-Some-clause-typed : goal.returns-in_ok-try_clone-in-Some-clause-typed
returns-in_ok-try_clone-in-Some-clause-typed c =
    let s = c.args.self.now in
    let cell = c.args.cell in
    let info = told_and (field_at s.models cell.model cell.field) (λ (i : FieldInfo). is_computed_from i.origin ≡ true) c.requires in
    computed-typed s.models s.tables c.laws.ensures.registry c.laws.ensures.readable.sound.fits c.laws.ensures.readable cell info.0 info.1 info.2 c.in_ok-try_clone-in-Some.field-0
    (told-computed c.self.inside.tables s c.self.inside.values c.self.view_is c.self.invariant.values cell c.in-Some.value.now c.in_ok-try_clone-in-Some.field-0
    (sym c.get.ensures.value ∙ ap option_copied c.in-Some.is) c.in_ok-try_clone-in-Some.ensures)
