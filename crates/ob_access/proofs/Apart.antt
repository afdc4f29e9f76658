-- Names that are pairwise apart, one group more at a time.
use Rattle.std.proofs.Common.{◌≡◌, ◌≢◌, ◌+◌, ◌<◌, ℕ, List, length, get_or, take, arith, sym, ap, subst, ◌∙◌}
use Rattle.std.specs.List.{Any}
use Rattle.std.proofs.lemmas.List.{get_or_default, get_or-take, length-take-le, take_more}
use Rattle.std.proofs.lemmas.List.Quantifiers.{all_pairs_push}
use Rattle.ob_access.specs.Policies.{AreNamedApart}
use Rattle.ob_access.specs.declared.policy.Group.{Group}

-- some group has the name
abbrev HasNamed : List ℕ → List Group → Type 0
HasNamed name groups = Any (λ (group : Group). group.name ≡ name) groups

-- at the next place stands a group of this name
module _ (groups : List Group) (i : ℕ) (d : Group) (name : List ℕ) (within : i < length groups) (here : name ≡ (get_or groups i d).name) where
  -- where no group before it has the name, the groups up to it are apart too
  pub named_next : (HasNamed name (take i groups) → ⊥) → AreNamedApart (take i groups) → AreNamedApart (take (i + 1) groups)
  named_next none apart = subst AreNamedApart (sym (take_more groups i d within)) (all_pairs_push (λ (a b : Group). a.name ≢ b.name) (take i groups) (get_or groups i d) apart first)
    where
      first : (j : ℕ) (e : Group) → j < length (take i groups) → (get_or (take i groups) j e).name ≢ (get_or groups i d).name
      first j e lt same =
          none (j, get_or (take i groups) j e, lt, get_or_default (take i groups) j (get_or (take i groups) j e) e lt, same ∙ sym here)

  -- where one has it, they aren't
  pub named_twice : HasNamed name (take i groups) → AreNamedApart groups → ⊥
  named_twice (j, x, lt, is, same) apart =
      let before : j < i = omega (arith, length-take-le i groups (omega arith)) in
      let at : get_or groups j d ≡ x = get_or_default groups j d x (omega arith) ∙ sym (get_or-take i groups j x before) ∙ is in
      apart j i d before within (ap (λ (group : Group). group.name) at ∙ same ∙ here)
