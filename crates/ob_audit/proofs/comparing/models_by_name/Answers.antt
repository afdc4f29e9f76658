-- The closure compares names.
use Rattle.std.proofs.Common.{List, ℕ, rules, subst}
use Rattle.std.specs.Prelude.{IsPermutation}
use Rattle.std.specs.Cmp.Lexicographic.{slice_cmp}
use Rattle.std.specs.Ordering.{is_lt, nat_cmp}
use Rattle.std.proofs.lemmas.Cmp.{nat_list_cmp_total}
use Rattle.std.proofs.lemmas.List.Sorted.{answers_always, ranks_by}
use Rattle.ob_base.specs.declared.id.ModelNo.{ModelNo}
use Rattle.ob_audit.proofs.comparing.models_by_name.Goals as goal

pub returns : goal.returns
returns c = record {
  all = subst (λ (l : List (ModelNo × List ℕ)). IsPermutation l c.sort_by.new.self.items) c.in_ok-named.ensures c.sort_by.ensures.permutation;
  sorted = c.in_ok-sort_by.ensures.sorted (λ (x y : ModelNo × List ℕ). is_lt (slice_cmp nat_cmp x.1 y.1)) (ranks_by nat_list_cmp_total (λ (x : ModelNo × List ℕ). x.1)) (answers_always _ _ _ (λ f a r q k. search rules));
}
