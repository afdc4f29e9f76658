-- The conditions of a model: those of its checks in byte order of their names, and then `locked`.
use Rattle.std.proofs.Common.{◌≡◌, ◌≢◌, ℕ, false, List, [], ◌∷◌, ◌++◌, map, drop, get_or, Option, Some, None, refl, sym, ap, subst, ◌∙◌, Ordering, arith}
use Rattle.std.specs.Prelude.{codes}
use Rattle.std.specs.List.{AllPairs}
use Rattle.std.specs.List.Sorted.{IsPermutation, IsSortedByKey}
use Rattle.std.specs.Cmp.Lexicographic.{slice_cmp}
use Rattle.std.specs.FinMap.{nat_cmp-IsAntisymmetric, slice_cmp-IsAntisymmetric}
use Rattle.std.specs.Ordering.{is_lt, nat_cmp, ordering_reverse}
use Rattle.std.specs.Str.{bytes_eq}
use Rattle.std.specs.declared.cmp.Ordering.TheVariants.{Less, Equal, Greater}
use Rattle.std.proofs.lemmas.Bool.{false≢true}
use Rattle.std.proofs.lemmas.Cmp.{nat_list_cmp_total}
use Rattle.std.proofs.lemmas.List.Sorted.{IsPermutation-map, ranks_by, sorted_far}
use Rattle.std.proofs.lemmas.Map.Keys.{IsDistinct-IsPermutation}
use Rattle.std.proofs.lemmas.Map.Made.{AllPairs-from_IsDistinct, IsDistinct-from_AllPairs}
use Rattle.std.proofs.lemmas.Slice.Eq.{bytes_eq-Decides}
use Rattle.ob_definition.specs.declared.made.Condition.{Condition}
use Rattle.ob_definition.specs.Gathered.{DeclaredCheck, Gathered}
use Rattle.ob_definition.specs.Making.{AreHidden, conditions_of}
use Rattle.ob_definition.specs.Members.{AreInNameOrder, Member, check_member, check_members, condition_def, hidden_member, locked_members}
use Rattle.ob_definition.proofs.ByName.{map-push}
use Rattle.ob_definition.proofs.LinkSteps.{append-none}
use Rattle.ob_definition.proofs.OwnNames.{bytes_eq-sym}
use Rattle.ob_definition.proofs.WellNamed.{pairs-map, pairs-unmap}

not_back : (o : Ordering) → is_lt (ordering_reverse o) ≡ false → (o ≡ Equal → ⊥) → o ≡ Less
not_back Less e other = refl
not_back Equal e other = absurd (other refl)
not_back Greater e other = absurd (false≢true (sym e))

abbrev name_of : Condition → List ℕ
name_of h = h.field.name

-- sorted conditions whose names differ are in order
in_order : (hidden : List Condition) → IsSortedByKey name_of (slice_cmp nat_cmp) hidden → AllPairs (λ a b. name_of a ≢ name_of b) hidden → AreInNameOrder (conditions_of hidden)
in_order hidden sorted apart = pairs-map (λ a b. slice_cmp nat_cmp a.def.name b.def.name ≡ Less) (λ (h : Condition). hidden_member h.entry h.field) hidden less
  where
    less : AllPairs (λ a b. slice_cmp nat_cmp (name_of a) (name_of b) ≡ Less) hidden
    less i j d lt within =
        let a = name_of (get_or hidden i d) in
        let b = name_of (get_or hidden j d) in
        let far : is_lt (slice_cmp nat_cmp b a) ≡ false = sorted_far (λ (x y : Condition). is_lt (slice_cmp nat_cmp (name_of x) (name_of y))) (ranks_by nat_list_cmp_total name_of) hidden sorted i j d (omega (arith, lt)) within in
        let back : is_lt (ordering_reverse (slice_cmp nat_cmp a b)) ≡ false = sym (ap is_lt (nat_list_cmp_total.antisymm b a)) ∙ far in
        not_back (slice_cmp nat_cmp a b) back (λ tie. apart i j d lt within (slice_cmp-IsAntisymmetric nat_cmp-IsAntisymmetric a b tie))

-- the fields of checks whose names differ have different names
check_names-apart : (checks : List DeclaredCheck) → AllPairs (λ a b. a.check.name ≢ b.check.name) checks → AllPairs (λ x y. x ≢ y) (map (λ (m : Member). m.def.name) (map check_member checks))
check_names-apart checks apart =
    pairs-map (λ (x y : List ℕ). x ≢ y) (λ (m : Member). m.def.name) (map check_member checks)
    (pairs-map (λ (a b : Member). a.def.name ≢ b.def.name) check_member checks (λ i j d lt within same. apart i j d lt within (ap (λ (l : List ℕ). drop 6 l) same)))

-- sorted conditions of the checks
module _ (g : Gathered) (fields sorted : List Condition) (are : conditions_of fields ≡ check_members g) (moved : IsPermutation fields sorted) (ordered : IsSortedByKey (λ (h : Condition). h.field.name) (slice_cmp nat_cmp) sorted)
    (apart : AllPairs (λ a b. a.check.name ≢ b.check.name) g.checks) where
  same_members : IsPermutation (check_members g) (conditions_of sorted)
  same_members = subst (λ (ms : List Member). IsPermutation ms (conditions_of sorted)) are (IsPermutation-map (λ (h : Condition). hidden_member h.entry h.field) fields sorted moved)

  sorted-apart : AllPairs (λ a b. name_of a ≢ name_of b) sorted
  sorted-apart =
      let name = λ (m : Member). m.def.name in
      let names = map name (check_members g) in
      let news = map name (conditions_of sorted) in
      let kept = IsDistinct-IsPermutation bytes_eq bytes_eq-sym names news (IsPermutation-map name (check_members g) (conditions_of sorted) same_members)
      (IsDistinct-from_AllPairs bytes_eq-Decides names (check_names-apart g.checks apart)) in
      pairs-unmap (λ (a b : Member). name a ≢ name b) (λ (h : Condition). hidden_member h.entry h.field) sorted
      (pairs-unmap (λ (x y : List ℕ). x ≢ y) name (conditions_of sorted) (AllPairs-from_IsDistinct bytes_eq-Decides news kept))

  hidden-none : g.locked ≡ None → AreHidden g (conditions_of sorted)
  hidden-none e = record {
    checks = conditions_of sorted;
    same = same_members;
    ordered = in_order sorted ordered sorted-apart;
    all = sym (append-none (conditions_of sorted)) ∙ sym (ap (λ (o : Option (List ℕ)). conditions_of sorted ++ locked_members g o) e);
  }

  pub hidden-same : (new : List Condition) → g.locked ≡ None → new ≡ sorted → AreHidden g (conditions_of new)
  hidden-same new e same = subst (λ (hs : List Condition). AreHidden g (conditions_of hs)) (sym same) (hidden-none e)

  pub hidden-locked : (text : List ℕ) (one : Condition) (new : List Condition) → g.locked ≡ Some text → one.entry ≡ g.entry → one.field ≡ condition_def (codes "locked") text → new ≡ sorted ++ one ∷ []
      → AreHidden g (conditions_of new)
  hidden-locked text one new e entry field grown =
      let member = λ (h : Condition). hidden_member h.entry h.field in
      let made : member one ≡ hidden_member g.entry (condition_def (codes "locked") text) = ap (λ (n : ℕ). hidden_member n one.field) entry ∙ ap (hidden_member g.entry) field in
      record {
        checks = conditions_of sorted;
        same = same_members;
        ordered = in_order sorted ordered sorted-apart;
        all = ap conditions_of grown ∙ map-push member sorted one ∙ ap (λ (m : Member). conditions_of sorted ++ m ∷ []) made
            ∙ sym (ap (λ (o : Option (List ℕ)). conditions_of sorted ++ locked_members g o) e);
      }
