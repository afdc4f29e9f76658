-- The closure compares names.
use Rattle.std.specs.Cmp.Lexicographic.{slice_cmp}
use Rattle.std.specs.Ordering.{is_lt, nat_cmp}
use Rattle.std.proofs.Common.{rules}
use Rattle.std.proofs.lemmas.Cmp.{nat_list_cmp_total}
use Rattle.std.proofs.lemmas.List.Sorted.{answers_always, ranks_by}
use Rattle.ob_definition.specs.declared.made.Condition.{Condition}
use Rattle.ob_definition.proofs.made.by_name.Goals as goal

pub returns-clause-sorted : goal.returns-clause-sorted
returns-clause-sorted c =
    c.in_ok-sort_by.ensures.sorted (λ (x y : Condition). is_lt (slice_cmp nat_cmp x.field.name y.field.name)) (ranks_by nat_list_cmp_total (λ (x : Condition). x.field.name)) (answers_always _ _ _ (λ f a r q k. search rules))
