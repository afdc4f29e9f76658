-- What holds of each of some values holds of the one that is picked of them, as the least and the greatest are.
use Rattle.std.proofs.Common.{◌≡◌, List, [], ◌∷◌, Bool, true, false, not, Result, Ok, filter, unwrap_or, subst, cond}
use Rattle.std.specs.Prelude.{⊤}
use Rattle.std.specs.List.{fold, reduce}
use Rattle.ob_base.specs.declared.id.RecId.{RecId}
use Rattle.ob_base.specs.declared.value.Value.{Value}
use Rattle.ob_expr.specs.declared.typed.Extreme.{Extreme}
use Rattle.ob_expr.specs.declared.typed.Extreme.TheVariants.{Least, Greatest}
use Rattle.ob_expr.specs.Chain.{and_then, each}
use Rattle.ob_expr.specs.Computing.{Lack, is_unset, chosen_value}
use Rattle.ob_expr.proofs.Outcomes.{then_ok, valued}

module _ (P : Value → Type 0) where
  pub is_same : (v w : Value) → P v → valued v ≡ Ok w → P w
  is_same v w has is = let same : v ≡ w = cc in subst P same has

  -- each of the values has it
  abbrev pub AllHave : List Value → Type 0
  AllHave [] = ⊤
  AllHave (v ∷ vs) = P v × AllHave vs

  taken : (b : Bool) (a c : Value) → P a → P c → P (cond b a c)
  taken true a c p q = p
  taken false a c p q = q

  pub chosen-has : (which : Extreme) (a b : Value) → P a → P b → P (chosen_value which a b)
  chosen-has Least a b p q = taken _ b a q p
  chosen-has Greatest a b p q = taken _ b a q p

  fold-has : (which : Extreme) (v : Value) (vs : List Value) → P v → AllHave vs → P (fold (chosen_value which) v vs)
  fold-has which v [] has all = has
  fold-has which v (w ∷ ws) has all = fold-has which (chosen_value which v w) ws (chosen-has which v w has all.0) all.1

  pub set-have : (vs : List Value) → AllHave vs → AllHave (filter (λ v. not (is_unset v)) vs)
  set-have [] all = tt
  set-have (v ∷ vs) all =
      let rest : AllHave (filter (λ v. not (is_unset v)) vs) = set-have vs all.1 in
      elim (not (is_unset v)) as (λ b. AllHave (cond b (v ∷ filter (λ v. not (is_unset v)) vs) (filter (λ v. not (is_unset v)) vs)))
      [ true ↦ (all.0, rest) | false ↦ rest ]

  pub extreme-has : (which : Extreme) (none : Value) (vs : List Value) → P none → AllHave vs → P (unwrap_or (reduce (chosen_value which) vs) none)
  extreme-has which none [] has all = has
  extreme-has which none (v ∷ vs) has all = fold-has which v vs all.0 all.1

  pub each-has : (f : RecId → Result Value Lack) (ids : List RecId) (vs : List Value) → ((id : RecId) (v : Value) → f id ≡ Ok v → P v)
      → each f ids ≡ Ok vs → AllHave vs
  each-has f [] vs of is = let same : [] ≡ vs = cc in subst AllHave same tt
  each-has f (id ∷ ids) vs of is =
      let t = then_ok (f id) (λ v. and_then (each f ids) (λ vs. Ok (v ∷ vs))) vs is in
      let u = then_ok (each f ids) (λ vs. Ok (t.0 ∷ vs)) vs t.2 in
      let last : valued (t.0 ∷ u.0) ≡ Ok vs = u.2 in
      let same : t.0 ∷ u.0 ≡ vs = cc in
      subst AllHave same (of id t.0 t.1, each-has f ids u.0 of u.1)
