use Rattle.std.proofs.Common.{rules, refl, sym}
use Rattle.std.specs.List.Sorted.{IsPermutation}
use Rattle.std.proofs.lemmas.List.Sorted.{IsNonDecreasingBy-from_sort_by_key}
use Rattle.wh_quant.proofs.Starts.{id_of, RiseById-sorted}
use Rattle.wh_quant.proofs.indexed.IndexedQuants.open.Goals as goal

pub returns-clause-start : goal.returns-clause-start
returns-clause-start c =
    let moved : IsPermutation c.args.quants.now c.sort_by_key.new.self.items = rw (sym c.in_ok-by_id.ensures.items) c.sort_by_key.ensures.permutation in
    record {
      same = moved;
      rising = RiseById-sorted c.args.quants.now c.sort_by_key.new.self.items c.requires moved
          (IsNonDecreasingBy-from_sort_by_key id_of _ c.in_ok-sort_by_key.ensures.sorted (λ a r q k. search rules));
      next_is = refl;
    }
