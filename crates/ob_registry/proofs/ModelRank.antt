-- Models by number and by name, and what holds of one in a list.
use Rattle.std.proofs.Common.{◌≡◌, ℕ, zero, suc, ◌<◌, Bool, true, false, cond, ltb, List, length, get_or, Some, None, option_map, refl, sym, ap, ◌∙◌, arith}
use Rattle.std.specs.Prelude.{Any, Contains}
use Rattle.std.specs.List.{position, position_or_len}
use Rattle.std.specs.Str.{bytes_eq}
use Rattle.std.proofs.lemmas.Bool.{false_from_ne_true}
use Rattle.std.proofs.lemmas.Bool.Decides.{nat_tests}
use Rattle.std.proofs.lemmas.List.Sums.{position_or_len_is}
use Rattle.std.proofs.lemmas.Option.{get_or_from_slice_get, none-some, slice_get-get_or, slice_get_within}
use Rattle.std.proofs.lemmas.Slice.Eq.{bytes_eq-Decides}
use Rattle.ob_base.specs.declared.id.ModelNo.{ModelNo}
use Rattle.ob_definition.specs.declared.fault.Spot.{Spot}
use Rattle.ob_definition.specs.Gathered.{AreWellNamed, Gathered}
use Rattle.ob_definition.specs.Members.{model_at, model_number}
use Rattle.ob_definition.specs.Rooms.{spot_at}

-- one that is there and of which something holds
pub any_there : {X : Type 0} (P : X → Type 0) (xs : List X) (x : X) → Contains xs x → P x → Any P xs
any_there P xs x (k, within, is) p = (k, x, within, is, p)

pub there_any : {X : Type 0} (P : X → Type 0) (xs : List X) → Any P xs → (x : X) × Contains xs x × P x
there_any P xs (k, x, within, is, p) = (x, (k, within, is), p)

-- a spot by its parts
pub spot_is : (spot : Spot) (n : ℕ) (field : List ℕ) → n ≡ spot.entry → field ≡ spot.field → spot_at n field ≡ spot
spot_is spot n field entry name = ap (λ (k : ℕ). spot_at k field) entry ∙ ap (λ (f : List ℕ). spot_at spot.entry f) name

module _ (models : List Gathered) where
  -- a model of a number is one of them
  pub model_among : (n : ℕ) (g : Gathered) → model_at models n ≡ Some g → Contains models g
  model_among zero g known = absurd (none-some g known)
  model_among (suc k) g known = (k, slice_get_within models k g known, get_or_from_slice_get models k g g known)

  -- each has a number
  pub number_there : (g : Gathered) → Contains models g → (number : ModelNo) × (model_at models number.0 ≡ Some g)
  number_there g (k, within, is) = (record { 0 = suc k }, slice_get-get_or models k g within ∙ ap (λ (x : Gathered). Some x) is)

  -- and, where names are distinct, it is the number of its name
  pub number_of_name : AreWellNamed models → (number : ModelNo) (g : Gathered) → model_at models number.0 ≡ Some g → model_number models g.name ≡ Some number
  number_of_name named number g known = by number.0 refl known
    where
      test : Gathered → Bool
      test m = bytes_eq m.name g.name

      by : (n : ℕ) → number.0 ≡ n → model_at models n ≡ Some g → model_number models g.name ≡ Some number
      by zero e at = absurd (none-some g at)
      by (suc k) e at =
          let within : k < length models = slice_get_within models k g at in
          let here : get_or models k g ≡ g = get_or_from_slice_get models k g g at in
          let before : (j : ℕ) → j < k → test (get_or models j g) ≡ false =
          λ j less. false_from_ne_true (test (get_or models j g)) (λ same.
          named.distinct j k g less within ((bytes_eq-Decides (get_or models j g).name g.name).0 same ∙ ap (λ (m : Gathered). m.name) (sym here))) in
          let passes : test (get_or models k g) ≡ true = (bytes_eq-Decides (get_or models k g).name g.name).1 (ap (λ (m : Gathered). m.name) here) in
          let place : position_or_len test models ≡ k = position_or_len_is test models k g (omega arith) before (λ _. passes) in
          let low : ltb (position_or_len test models) (length models) ≡ true = grind (arith, nat_tests) in
          let found : position test models ≡ Some k = ap (λ (b : Bool). cond b (Some (position_or_len test models)) None) low ∙ ap (λ (i : ℕ). Some i) place in
          let number_of : ℕ → ModelNo = λ i. record { 0 = suc i } in
          ap (option_map number_of) found ∙ ap (λ (i : ℕ). let no : ModelNo = record { 0 = i } in Some no) (sym e)
