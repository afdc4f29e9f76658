use Rattle.std.proofs.Common.{◌≡◌, ap, sym, ◌∙◌, Some, None, arith}
use Rattle.std.specs.BTreeMap as tree
use Rattle.wh_quant.specs.Spots.{spot_cmp, is_at}
use Rattle.wh_quant.proofs.Places.{at_first, none_first}
use Rattle.wh_quant.proofs.indexed.IndexedQuants.find.Goals as goal

pub index-requires : goal.index-requires
index-requires c =
    let at : tree.get spot_cmp c.args.self.now.places c.args.spot ≡ Some c.in-Some.place.now = sym c.in-Some.ensures.value in
    let within = (at_first (is_at c.args.spot) c.args.self.now.quants.items c.in-Some.place.now (sym (c.requires c.args.spot) ∙ at)).0 in
    omega (arith, within)

pub returns-in-Some : goal.returns-in-Some
returns-in-Some c =
    let at : tree.get spot_cmp c.args.self.now.places c.args.spot ≡ Some c.in-Some.place.now = sym c.in-Some.ensures.value in
    let found = (at_first (is_at c.args.spot) c.args.self.now.quants.items c.in-Some.place.now (sym (c.requires c.args.spot) ∙ at)).1 c.index.result.now in
    ap Some c.index.ensures ∙ sym found.1

pub returns-in-None : goal.returns-in-None
returns-in-None c =
    let none : tree.get spot_cmp c.args.self.now.places c.args.spot ≡ None = sym c.in-None.ensures.value in
    sym (none_first (is_at c.args.spot) c.args.self.now.quants.items (sym (c.requires c.args.spot) ∙ none))
