-- What a key that is put in makes of a test of some key.
use Rattle.std.proofs.Common.{◌≡◌, ℕ, ◌||◌, ◌==◌, Bool, true, false, List, [], ◌∷◌, refl, ap, sym, ◌∙◌}
use Rattle.std.proofs.Math.Bool.{or_assoc, or_comm}
use Rattle.std.specs.BTreeSet.{insert_key}
use Rattle.std.specs.FinMap.{nat_cmp-IsAntisymmetric}
use Rattle.std.specs.List.{list_any}
use Rattle.std.specs.Ordering.{match_ordering, nat_cmp}
use Rattle.std.specs.declared.cmp.Ordering.{Ordering}
use Rattle.std.specs.declared.cmp.Ordering.TheVariants.{Less, Equal, Greater}
use Rattle.ob_base.specs.declared.id.RecId.{RecId}
use Rattle.ob_access.specs.Groups.{has_group}

any_again : (a b : Bool) → (a || b) ≡ (a || b || a)
any_again true b = refl
any_again false true = refl
any_again false false = refl

any_ordered : {A : Type 0} (p : A → Bool) (o : Ordering) (k x : A) (ks rest : List A) → (o ≡ Equal → k ≡ x) → list_any p rest ≡ (list_any p ks || p k)
    → list_any p (match_ordering o (k ∷ x ∷ ks) (x ∷ ks) (x ∷ rest)) ≡ (list_any p (x ∷ ks) || p k)
any_ordered p Less k x ks rest same more = or_comm (p k) (p x || list_any p ks)
any_ordered p Equal k x ks rest same more = rw (same refl) (any_again (p x) (list_any p ks))
any_ordered p Greater k x ks rest same more = ap (λ (b : Bool). p x || b) more ∙ sym (or_assoc (p x) (list_any p ks) (p k))

any-insert_key : {A : Type 0} (cmp : A → A → Ordering) (p : A → Bool) (k : A) (ks : List A) → ((x : A) → cmp k x ≡ Equal → k ≡ x)
    → list_any p (insert_key cmp ks k) ≡ (list_any p ks || p k)
any-insert_key cmp p k [] same = or_comm (p k) false
any-insert_key cmp p k (x ∷ ks) same = any_ordered p (cmp k x) k x ks (insert_key cmp ks k) (same x) (any-insert_key cmp p k ks same)

same_id : (k x : RecId) → nat_cmp k.0 x.0 ≡ Equal → k ≡ x
same_id k x e = ap (λ (n : ℕ). let id : RecId = record { 0 = n } in id) (nat_cmp-IsAntisymmetric k.0 x.0 e)

-- a group that is put in is found beside those before
pub has-insert : (ks new : List RecId) (k : RecId) → new ≡ insert_key (λ (a : RecId) (b : RecId). nat_cmp a.0 b.0) ks k → (other : RecId) → has_group new other ≡ (has_group ks other || (other.0 == k.0))
has-insert ks new k is other =
    ap (λ (l : List RecId). has_group l other) is ∙ any-insert_key (λ (a : RecId) (b : RecId). nat_cmp a.0 b.0) (λ (mine : RecId). other.0 == mine.0) k ks (same_id k)
