use Rattle.std.proofs.Common.{◌≡◌, ap, sym, ◌∙◌, Some, None, refl, length, arith}
use Rattle.std.specs.BTreeMap as tree
use Rattle.wh_quant.specs.Spots.{spot_cmp, spot_of, is_at}
use Rattle.wh_quant.specs.Indexed.{holdings_of}
use Rattle.wh_quant.proofs.Places.{at_first, indexed_set, indexed_push, put_first, put_last}
use Rattle.wh_quant.proofs.indexed.IndexedQuants.put.Goals as goal

pub index_mut-requires : goal.index_mut-requires
index_mut-requires c =
    let at : tree.get spot_cmp c.args.self.now.places (spot_of c.args.quant) ≡ Some c.in-Some.place.now = ap (tree.get spot_cmp c.args.self.now.places) (sym c.spot.ensures) ∙ sym
    c.in-Some.ensures.value in
    let within = (at_first (is_at (spot_of c.args.quant)) c.args.self.now.quants.items c.in-Some.place.now (sym (c.requires.indexed (spot_of c.args.quant)) ∙ at)).0 in
    omega (arith, within)

pub returns-in-Some-clause-put : goal.returns-in-Some-clause-put
returns-in-Some-clause-put c =
    let at : tree.get spot_cmp c.args.self.now.places (spot_of c.args.quant) ≡ Some c.in-Some.place.now = ap (tree.get spot_cmp c.args.self.now.places) (sym c.spot.ensures) ∙ sym
    c.in-Some.ensures.value in
    put_first (holdings_of c.args.self.now) c.args.quant c.in-Some.place.now (sym (c.requires.indexed (spot_of c.args.quant)) ∙ at)

pub returns-in-Some-clause-still : goal.returns-in-Some-clause-still
returns-in-Some-clause-still c =
    let at : tree.get spot_cmp c.args.self.now.places (spot_of c.args.quant) ≡ Some c.in-Some.place.now = ap (tree.get spot_cmp c.args.self.now.places) (sym c.spot.ensures) ∙ sym
    c.in-Some.ensures.value in
    indexed_set c.args.self.now.places c.args.self.now.quants.items c.args.quant c.in-Some.place.now c.requires.indexed at

pub returns-in_ok-push-in-None-clause-put : goal.returns-in_ok-push-in-None-clause-put
returns-in_ok-push-in-None-clause-put c =
    let none : tree.get spot_cmp c.args.self.now.places (spot_of c.args.quant) ≡ None = ap (tree.get spot_cmp c.args.self.now.places) (sym c.spot.ensures) ∙ sym c.in-None.ensures.value in
    rw c.in_ok-push-in-None.ensures.items (put_last (holdings_of c.args.self.now) c.args.quant (sym (c.requires.indexed (spot_of c.args.quant)) ∙ none))

pub returns-in_ok-push-in-None-clause-still : goal.returns-in_ok-push-in-None-clause-still
returns-in_ok-push-in-None-clause-still c =
    let none : tree.get spot_cmp c.args.self.now.places (spot_of c.args.quant) ≡ None = ap (tree.get spot_cmp c.args.self.now.places) (sym c.spot.ensures) ∙ sym c.in-None.ensures.value in
    let end : c.len.result ≡ length c.args.self.now.quants.items = omega arith in
    rw c.in_ok-push-in-None.ensures.items
    (indexed_push c.args.self.now.places c.insert.new.self c.args.self.now.quants.items c.args.quant c.requires.indexed none
    (λ spot. c.in_ok-insert-in-None.ensures.updates.0 spot ∙ rw (c.spot-in-None.ensures, end) refl))
