use Rattle.std.proofs.Common.{◌∙◌, ap, sym, subst, is_lt, rules}
use Rattle.std.specs.Cmp.Lexicographic.{lists_total, slice_cmp}
use Rattle.std.specs.Option.{option_copied}
use Rattle.std.proofs.lemmas.List.Sorted.{answers_always, ranks_by}
use Rattle.ob_base.proofs.CallerLemmas.{value_order_total}
use Rattle.ob_base.specs.ValueOrder.{value_order}
use Rattle.ob_tables.specs.declared.unique.Member.{Member}
use Rattle.ob_tables.specs.Finding.{Finds}
use Rattle.ob_tables.specs.Sets.{IsAscending, SharesAmong, SharesInSet}
use Rattle.ob_tables.proofs.Finds.{finds-as, finds-none}
use Rattle.ob_tables.proofs.Neighbours.{values_of}
use Rattle.ob_tables.proofs.SharedSets.{begins, from-shared, no-first, to-shared}
use Rattle.ob_tables.proofs.unique.find_in_set.Goals as goal

pub returns-in_default : goal.returns-in_default
returns-in_default c =
    finds-none (SharesInSet c.args.tables.now.models c.args.tables.now.tables c.args.model c.args.set.now) c.args.findings.now
    (λ b h. no-first c.args.set.now b.cell.field h.shared.0.0 (sym c.first.ensures.value ∙ ap option_copied c.in_default.is) h.shared.0.1)

pub find_alike-requires : goal.find_alike-requires
find_alike-requires c =
    subst IsAscending (sym c.as_slice.ensures.value) (c.in_ok-sort_by.ensures.sorted (λ (x y : Member). is_lt (slice_cmp value_order (values_of x) (values_of y))) (ranks_by (lists_total value_order_total) values_of)
    (answers_always _ _ _ (λ f a r q k. search rules)))

pub returns : goal.returns
returns c =
    let models = c.args.tables.now.models in
    let t = c.args.tables.now.tables in
    let set = c.args.set.now in
    let first = c.in-Some.first.now in
    let members = c.in_ok-members.members.items in
    let sorted = c.sort_by.new.self.items in
    let start = begins set first (sym c.first.ensures.value ∙ ap option_copied c.in-Some.is) in
    finds-as (SharesAmong c.args.model first sorted) (SharesInSet models t c.args.model set) c.args.findings.now c.find_alike.new.findings
    (to-shared models t c.args.model c.fit_together.ensures.registry c.fit_together.ensures.fits first set c.args.ids.now members sorted
    c.requires.ids c.requires.fields c.in_ok-members.ensures c.in_ok-sort_by.ensures.permutation start.0 start.1)
    (from-shared models t c.args.model c.fit_together.ensures.registry c.fit_together.ensures.fits first set c.args.ids.now members sorted
    c.requires.ids c.requires.fields c.in_ok-members.ensures c.in_ok-sort_by.ensures.permutation start.0 start.1)
    (subst (λ l. Finds (SharesAmong c.args.model first l) c.args.findings.now c.find_alike.new.findings) c.as_slice.ensures.value c.find_alike.ensures)
