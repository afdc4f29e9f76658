use Rattle.std.proofs.Common.{◌≡◌, ◌^◌, ◌<◌, ap, ◌∙◌, arith}
use Rattle.ob_cache.proofs.Gathering.{next-pushed}
use Rattle.ob_schema.specs.Tables.{Standing, next_of}
use Rattle.ob_cache.proofs.flushing.add_next.Goals as goal

pub returns-in_ok-push-clause-rows : goal.returns-in_ok-push-clause-rows
returns-in_ok-push-clause-rows c =
    let is : c.next-next.result ≡ next_of c.args.new.now.tables c.args.model = c.next-next.ensures.next ∙ ap (λ (s : Standing). next_of s.tables c.args.model) c.tables.ensures in
    let fits = c.requires.fits in
    let low : c.next-next.result < 2 ^ 63 = omega (arith, is, fits) in
    (next-pushed c.args.model c.next-next.result c.args.changes.now c.push.new.self c.in_ok-push.ensures.ok low).1

pub returns-in_ok-push-clause-others : goal.returns-in_ok-push-clause-others
returns-in_ok-push-clause-others c =
    let is : c.next-next.result ≡ next_of c.args.new.now.tables c.args.model = c.next-next.ensures.next ∙ ap (λ (s : Standing). next_of s.tables c.args.model) c.tables.ensures in
    let fits = c.requires.fits in
    let low : c.next-next.result < 2 ^ 63 = omega (arith, is, fits) in
    (next-pushed c.args.model c.next-next.result c.args.changes.now c.push.new.self c.in_ok-push.ensures.ok low).2

pub returns-in_ok-push-clause-next : goal.returns-in_ok-push-clause-next
returns-in_ok-push-clause-next c =
    let is : c.next-next.result ≡ next_of c.args.new.now.tables c.args.model = c.next-next.ensures.next ∙ ap (λ (s : Standing). next_of s.tables c.args.model) c.tables.ensures in
    let fits = c.requires.fits in
    let low : c.next-next.result < 2 ^ 63 = omega (arith, is, fits) in
    λ before. (next-pushed c.args.model c.next-next.result c.args.changes.now c.push.new.self c.in_ok-push.ensures.ok low).3 (next_of c.args.old.now.tables c.args.model) ∙ is
