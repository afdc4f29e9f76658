-- Members beside each other that have the same values, among members that ascend.
use Rattle.std.proofs.Common.{◌≡◌, ◌⊎◌, ◌↔◌, ◌<◌, ◌≤◌, ◌+◌, ◌-◌, ℕ, zero, suc, Bool, true, List, length, get_or, Some, refl, sym, ap, subst, ◌∙◌, inl, inr, ⊎_elim, arith}
use Rattle.std.specs.Prelude.{IsTrue, slice_get}
use Rattle.std.specs.Borrow.{Bor}
use Rattle.std.specs.Cmp.{tied_itself}
use Rattle.std.specs.Ordering.{is_eq}
use Rattle.std.specs.declared.cmp.Ordering.{Ordering}
use Rattle.std.specs.declared.cmp.Ordering.TheVariants.{Less, Equal, Greater}
use Rattle.std.specs.Cmp.Lexicographic.{lists_total, slice_cmp}
use Rattle.std.specs.FinMap.{slice_cmp-IsAntisymmetric}
use Rattle.std.proofs.lemmas.Bool.{cases_lt}
use Rattle.std.proofs.lemmas.Option.{same_Some, slice_get-get_or, slice_get_within}
use Rattle.ob_base.proofs.CallerLemmas.{value_order_exact, value_order_total}
use Rattle.ob_base.specs.ValueOrder.{value_order}
use Rattle.ob_base.specs.declared.id.FieldNo.{FieldNo}
use Rattle.ob_base.specs.declared.id.ModelNo.{ModelNo}
use Rattle.ob_base.specs.declared.refusal.Broken.{Broken}
use Rattle.ob_base.specs.declared.refusal.BrokenKind.TheVariants as kind
use Rattle.ob_base.specs.declared.value.Value.{Value}
use Rattle.ob_tables.specs.declared.findings.Findings.{Findings}
use Rattle.ob_tables.specs.declared.unique.Member.{Member}
use Rattle.ob_tables.specs.Finding.{Finds}
use Rattle.ob_tables.specs.Sets.{IsAscending, IsPair, SharesAmong, values_in}
use Rattle.ob_tables.proofs.Finds.{Below, below-more, finds-as, finds-then}
use Rattle.ob_tables.proofs.Squeezed.{alike-after, alike-before}

abbrev pub values_of : Member → List Value
values_of m = values_in m.values.items

tied_is : (o : Ordering) → is_eq o ≡ true → o ≡ Equal
tied_is Less e = cc
tied_is Equal e = refl
tied_is Greater e = cc

-- what a comparison tells of two members
pub alike-told : (one next : Member) (a b : List (Bor Value)) (o : Ordering) (alike : Bool) → a ≡ one.values.items → b ≡ next.values.items → o ≡ slice_cmp value_order (values_in a) (values_in b)
    → alike ≡ is_eq o → IsTrue alike ↔ (values_of one ≡ values_of next)
alike-told one next a b o alike at_a at_b is told = (
  λ h. slice_cmp-IsAntisymmetric value_order_exact (values_of one) (values_of next) (tied_is (slice_cmp value_order (values_of one) (values_of next)) (sym same ∙ h)),
  λ e. same ∙ ap (λ vs. is_eq (slice_cmp value_order vs (values_of next))) e ∙ ap is_eq (tied_itself (lists_total value_order_total) (values_of next)),
)
  where
    same : alike ≡ is_eq (slice_cmp value_order (values_of one) (values_of next))
    same = told ∙ ap is_eq is ∙ (λ i. is_eq (slice_cmp value_order (values_in (at_a i)) (values_in (at_b i))))

module _ (model : ModelNo) (first : FieldNo) (members : List Member) where
  abbrev shared_by : Member → Broken
  shared_by m = record { kind = kind.Unique; cell = record { model = model; id = m.id; field = first } }

  -- the first cell of a member at a place or of the next, which are alike
  pub record AreAlike (k : ℕ) (b : Broken) : Type 0 where
    pub one : Member
    pub next : Member
    pub one_at : slice_get members k ≡ Some one
    pub next_at : slice_get members (suc k) ≡ Some next
    pub alike : values_of one ≡ values_of next
    pub is : (b ≡ shared_by one) ⊎ (b ≡ shared_by next)

  -- what is told of two neighbours
  abbrev pub Told : Bool → Member → Broken → Type 0
  Told alike m b = (b ≡ record { kind = kind.Unique; cell = record { model = model; id = m.id; field = first } }) × IsTrue alike

  -- one more place
  pub alike-more : (place : ℕ) (one next : Member) (alike : Bool) (a b c d : Findings) → 1 ≤ place → slice_get members (place - 1) ≡ Some one → slice_get members place ≡ Some next
      → IsTrue alike ↔ (values_of one ≡ values_of next) → Finds (Below AreAlike (place - 1)) a b → Finds (Told alike one) b c → Finds (Told alike next) c d → Finds (Below AreAlike (place + 1 - 1)) a d
  alike-more place one next alike a b c d low one_at next_at told so_far f g =
      subst (λ n. Finds (Below AreAlike n) a d) (omega arith) (below-more AreAlike (place - 1) a b d so_far
      (finds-as (λ x. Told alike one x ⊎ Told alike next x) (AreAlike (place - 1)) b d
      (λ x h. ⊎_elim (λ t. record { one = one; next = next; one_at = one_at; next_at = at_next; alike = told.0 t.1; is = inl t.0 })
      (λ t. record { one = one; next = next; one_at = one_at; next_at = at_next; alike = told.0 t.1; is = inr t.0 }) h)
      (λ x h.
      let first_is : h.one ≡ one = same_Some h.one one (sym h.one_at ∙ one_at) in
      let next_is : h.next ≡ next = same_Some h.next next (sym h.next_at ∙ at_next) in
      let holds = told.1 (ap values_of (sym first_is) ∙ h.alike ∙ ap values_of next_is) in
      ⊎_elim (λ e. inl (e ∙ ap shared_by first_is, holds)) (λ e. inr (e ∙ ap shared_by next_is, holds)) h.is)
      (finds-then (Told alike one) (Told alike next) b c d f g)))
    where
      at_next : slice_get members (suc (place - 1)) ≡ Some next
      at_next = ap (λ n. slice_get members n) (omega arith) ∙ next_at

  abbrev Shares : Broken → Type 0
  Shares b = SharesAmong model first members b

  -- neighbours that are alike share the set
  to_shares : (k : ℕ) (b : Broken) → AreAlike k b → Shares b
  to_shares k b h = ⊎_elim
      (λ e. (k, suc k, h.one, h.next, record { one_at = h.one_at; other_at = h.next_at; apart = λ same. absurd (omega (arith, same)); alike = h.alike }, e))
      (λ e. (suc k, k, h.next, h.one, record { one_at = h.next_at; other_at = h.one_at; apart = λ same. absurd (omega (arith, same)); alike = sym h.alike }, e))
      h.is

  module _ (ascending : IsAscending members) where
    by_place : (b : Broken) (i j : ℕ) (one other : Member) → IsPair members i j one other → b ≡ shared_by one → (i < j) ⊎ (j ≤ i) → (k : ℕ) × AreAlike k b
    by_place b i j one other pair is (inl low) =
        let inside = slice_get_within members j other pair.other_at in
        let next = get_or members (suc i) one in
        let next_at = slice_get-get_or members (suc i) one (omega (arith, low, inside)) in (
          i,
          record {
            one = one;
            next = next;
            one_at = pair.one_at;
            next_at = next_at;
            alike = alike-after (lists_total value_order_total) (slice_cmp-IsAntisymmetric value_order_exact) values_of members ascending i j one other next low pair.one_at pair.other_at next_at pair.alike;
            is = inl is;
          },
        )
    by_place b zero j one other pair is (inr low) = absurd (pair.apart (omega (arith, low)))
    by_place b (suc k) j one other pair is (inr low) =
        let inside = slice_get_within members (suc k) one pair.one_at in
        let below : j ≤ k = ⊎_elim (λ less. omega (arith, less)) (λ above. absurd (pair.apart (omega (arith, above, low)))) (cases_lt j (suc k)) in
        let last = get_or members k one in
        let last_at = slice_get-get_or members k one (omega (arith, inside)) in (
          k,
          record {
            one = last;
            next = one;
            one_at = last_at;
            next_at = pair.one_at;
            alike = alike-before (lists_total value_order_total) (slice_cmp-IsAntisymmetric value_order_exact) values_of members ascending j k other one last below pair.other_at pair.one_at last_at (sym pair.alike);
            is = inr is;
          },
        )

    -- of two members that share it, the one is alike with a neighbour
    from_shares : (b : Broken) → Shares b → (k : ℕ) × AreAlike k b
    from_shares b h = by_place b h.0 h.1 h.2 h.3 h.4 h.5 (cases_lt h.0 h.1)

    -- so all that share it are found
    pub alike-all : (place : ℕ) (a b : Findings) → length members ≤ place → Finds (Below AreAlike (place - 1)) a b → Finds Shares a b
    alike-all place a b past so_far = finds-as (Below AreAlike (place - 1)) Shares a b (λ x h. to_shares h.place x h.here)
        (λ x h.
        let found = from_shares x h in
        let inside = slice_get_within members (suc found.0) found.1.next found.1.next_at in
        record { place = found.0; low = omega (arith, inside, past); here = found.1 })
        so_far
