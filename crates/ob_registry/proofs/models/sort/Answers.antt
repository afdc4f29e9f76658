-- The closure compares names.
use Rattle.std.specs.Cmp.Lexicographic.{slice_cmp}
use Rattle.std.specs.Ordering.{is_lt, nat_cmp}
use Rattle.std.proofs.Common.{rules}
use Rattle.std.proofs.lemmas.Cmp.{nat_list_cmp_total}
use Rattle.std.proofs.lemmas.List.Sorted.{IsPermutation-map, answers_always, ranks_by}
use Rattle.ob_registry.specs.declared.model.Member.{Member}
use Rattle.ob_registry.specs.ModelFields.{member_of}
use Rattle.ob_registry.proofs.NameSort.{AreInNameOrder-from_sort}
use Rattle.ob_registry.proofs.models.sort.Goals as goal

pub returns-clause-ordered : goal.returns-clause-ordered
returns-clause-ordered c =
    AreInNameOrder-from_sort c.args.members.now.items _ c.requires c.in_ok-sort_by.ensures.permutation
    (c.in_ok-sort_by.ensures.sorted (λ (x y : Member). is_lt (slice_cmp nat_cmp x.def.now.name y.def.now.name)) (ranks_by nat_list_cmp_total (λ (x : Member). x.def.now.name)) (answers_always _ _ _ (λ f a r q k. search rules)))

pub returns-clause-permutation : goal.returns-clause-permutation
returns-clause-permutation c = IsPermutation-map member_of c.args.members.now.items _ c.in_ok-sort_by.ensures.permutation
