use Rattle.std.proofs.Common.{◌≡◌, ◌^◌, ◌<◌, true, false, is_some, ap, sym, ◌∙◌, arith}
use Rattle.ob_cache.specs.Changing.{form_of}
use Rattle.ob_cache.proofs.Gathering.{form-none, turned-alike, turned-gone}
use Rattle.ob_cache.proofs.KeptValues.{none-there}
use Rattle.ob_cache.proofs.SoundForms.{id-within}
use Rattle.ob_schema.specs.Tables.{Standing, row_at}
use Rattle.ob_cache.proofs.flushing.add_gone.Goals as goal

pub returns-in_ok-push : goal.returns-in_ok-push
returns-in_ok-push c =
    let old = c.args.old.now in
    let new = c.args.new.now in
    let key = c.args.key in
    let there : is_some (row_at old.tables key.model key.id) ≡ true =
    ap (λ (s : Standing). is_some (row_at s.tables key.model key.id)) (sym c.tables.ensures) ∙ sym c.has_row.ensures ∙ c.if-has_row.true in
    let within = (id-within old.models old.tables c.laws.ensures.registry c.laws.ensures.readable.sound key.model key.id there).1 in
    let fit : key.id.0 < 2 ^ 63 = omega (arith, within) in
    turned-gone old.models key (form_of old key) (form_of new key) c.requires.model c.args.changes.now c.push.new.self fit (form-none new key c.requires.none) c.in_ok-push.ensures.ok

pub returns-else-has_row : goal.returns-else-has_row
returns-else-has_row c =
    let old = c.args.old.now in
    let new = c.args.new.now in
    let key = c.args.key in
    let none : is_some (row_at old.tables key.model key.id) ≡ false =
    ap (λ (s : Standing). is_some (row_at s.tables key.model key.id)) (sym c.tables.ensures) ∙ sym c.has_row.ensures ∙ c.if-has_row.false in
    turned-alike old.models key (form_of old key) (form_of new key) (form-none old key (none-there (row_at old.tables key.model key.id) none) ∙ sym (form-none new key c.requires.none)) c.args.changes.now
