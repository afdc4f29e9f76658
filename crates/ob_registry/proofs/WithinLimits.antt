-- Where nothing stands against the models, their fields are few and their strata low.
use Rattle.std.proofs.Common.{◌≡◌, ℕ, zero, suc, ◌<◌, ◌≤◌, Some, List, [], ◌∷◌, length, inl, inr, refl, sym, ap, subst, arith}
use Rattle.std.specs.Prelude.{Any, Contains}
use Rattle.std.proofs.lemmas.Bool.{cases_lt}
use Rattle.ob_base.specs.Limits.{max_fields, max_stratum}
use Rattle.ob_base.specs.declared.id.ModelNo.{ModelNo}
use Rattle.ob_definition.specs.declared.wrong.Wrong.TheVariants as wrong
use Rattle.ob_definition.specs.Findings.{fault_at}
use Rattle.ob_definition.specs.Gathered.{Gathered}
use Rattle.ob_definition.specs.Members.{Member, members_of, model_at}
use Rattle.ob_definition.specs.Rooms.{spot_at}
use Rattle.ob_schema.specs.declared.info.Step.{Step}
use Rattle.ob_registry.specs.Building.{AreResolved}
use Rattle.ob_schema.specs.Strata.{Chain, IsCircle, IsMember, IsStratum, ReadsAnother}
use Rattle.ob_registry.specs.Telling.{spot_of}
use Rattle.ob_registry.proofs.Circles.{HasChain-shorter}
use Rattle.ob_registry.proofs.Resolved.{right_key}

-- the last entry that gives one of these fields
last_entry : (m : Member) (members : List Member) → (n : ℕ) × Any (λ m. m.entry ≡ n) (m ∷ members) × ((o : Member) → Contains (m ∷ members) o → o.entry ≤ n)
last_entry m [] = (m.entry, (0, m, omega arith, refl, refl), one)
  where
    one : (o : Member) → Contains (m ∷ []) o → o.entry ≤ m.entry
    one o (zero, within, is) = let same : m.entry ≡ o.entry = ap (λ (x : Member). x.entry) is in omega arith
    one o (suc k, within, is) = absurd (omega arith)
last_entry m (x ∷ xs) = by (last_entry x xs)
  where
    by : ((n : ℕ) × Any (λ m. m.entry ≡ n) (x ∷ xs) × ((o : Member) → Contains (x ∷ xs) o → o.entry ≤ n))
        → (n : ℕ) × Any (λ m. m.entry ≡ n) (m ∷ x ∷ xs) × ((o : Member) → Contains (m ∷ x ∷ xs) o → o.entry ≤ n)
    by (n, (k, y, within, at, is), most) = elim (cases_lt n m.entry) [
      | inl below ↦ (m.entry, (0, m, omega arith, refl, refl), above m.entry (omega arith) (λ o here. let le = most o here in omega arith))
      | inr over ↦ (n, (suc k, y, omega arith, at, is), above n over most)
    ]
      where
        above : (top : ℕ) → m.entry ≤ top → ((o : Member) → Contains (x ∷ xs) o → o.entry ≤ top) → (o : Member) → Contains (m ∷ x ∷ xs) o → o.entry ≤ top
        above top own others o (zero, within, is) = let same : m.entry ≡ o.entry = ap (λ (z : Member). z.entry) is in omega arith
        above top own others o (suc j, within, is) = others o (j, omega arith, is)

module _ (models : List Gathered) (resolved : AreResolved models) where
  -- a model has no more fields than it may have
  pub few_fields : (number : ModelNo) (g : Gathered) → model_at models number.0 ≡ Some g → length (members_of models g) ≤ max_fields
  few_fields number g there = by (members_of models g) refl
    where
      by : (members : List Member) → members_of models g ≡ members → length members ≤ max_fields
      by [] e = omega arith
      by (m ∷ members) e = elim (cases_lt max_fields (length (m ∷ members))) [
        | inl past ↦
            (let last = last_entry m members in
            let why = fault_at wrong.Limit (spot_at last.0 []) in
            let P : List Member → Type 0 = λ l. (max_fields < length l) × Any (λ m. m.entry ≡ last.0) l × ((o : Member) → Contains l o → o.entry ≤ last.0) in
            absurd (right_key models resolved number g there why (inl (last.0, subst P (sym e) (past, last.1, last.2), refl))))
        | inr within ↦ within
      ]

  member_right : (at : Step) (g : Gathered) (m : Member) → IsMember models at g m → IsCircle models at → ⊥
  member_right at g m is circle = resolved.chains (fault_at wrong.Cycle (spot_of m)) (at, g, m, is, (wrong.Cycle, circle, refl))

  -- no field is in a circle
  pub no_circle : (at : Step) → IsCircle models at → ⊥
  no_circle at (inl (zero, reads)) = let path = reads.0.1.1 in member_right at path.model path.member path.is_member (inl (zero, reads))
  no_circle at (inl (suc n, (b, reads, more))) = let path = reads.0.1.1 in member_right at path.model path.member path.is_member (inl (suc n, (b, reads, more)))
  no_circle at (inr both) = let path = both.0.1.1 in member_right at path.model path.member path.is_member (inr both)

  -- a stratum is within its limit
  pub low_stratum : (at : Step) (g : Gathered) (m : Member) → IsMember models at g m → (n : ℕ) → IsStratum models at n → n ≤ max_stratum
  low_stratum at g m is n stratum = elim (cases_lt max_stratum n) [
    | inl past ↦
        (let chain : Chain models (suc max_stratum) at = HasChain-shorter (ReadsAnother models) n (suc max_stratum) at (omega arith) stratum.chain in
        absurd (resolved.chains (fault_at wrong.Limit (spot_of m)) (at, g, m, is, (wrong.Limit, (chain, λ meets. no_circle meets.0 (inl meets.2)), refl))))
    | inr within ↦ within
  ]
