-- Rows with their values in a set, row by row.
use Rattle.std.proofs.Common.{◌≡◌, ◌<◌, ◌≤◌, ◌+◌, ◌++◌, ℕ, List, [], ◌∷◌, map, length, get_or, take, Option, Some, None, option_map, refl, sym, ap, subst, ◌∙◌}
use Rattle.std.specs.List.{cons_option, filter_map}
use Rattle.std.proofs.lemmas.List.{map-append, take_all, take_more}
use Rattle.ob_base.specs.declared.id.FieldNo.{FieldNo}
use Rattle.ob_base.specs.declared.id.ModelNo.{ModelNo}
use Rattle.ob_base.specs.declared.id.RecId.{RecId}
use Rattle.ob_base.specs.declared.value.Value.{Value}
use Rattle.ob_schema.specs.Tables.{Tables}
use Rattle.ob_tables.specs.declared.unique.Member.{Member}
use Rattle.ob_tables.specs.Sets.{AreMembers, set_values, shown_member, values_in}

module _ {X Y : Type 0} (f : X → Option Y) where
  -- what one more item gives comes last
  filter_map-push : (xs : List X) (y : X) → filter_map f (xs ++ y ∷ []) ≡ filter_map f xs ++ cons_option (f y) []
  filter_map-push [] y = refl
  filter_map-push (x ∷ xs) y = by (f x) (filter_map-push xs y)
    where
      by : (o : Option Y) → filter_map f (xs ++ y ∷ []) ≡ filter_map f xs ++ cons_option (f y) [] → cons_option o (filter_map f (xs ++ y ∷ [])) ≡ cons_option o (filter_map f xs) ++ cons_option (f y) []
      by None e = e
      by (Some v) e = ap (λ l. v ∷ l) e

append_nil : {X : Type 0} (xs : List X) → xs ++ [] ≡ xs
append_nil [] = refl
append_nil (x ∷ xs) = ap (λ l. x ∷ l) (append_nil xs)

module _ (t : Tables) (model : ModelNo) (set : List FieldNo) (ids : List RecId) (i : ℕ) (d : RecId) where
  abbrev with_values : RecId → Option (RecId × List Value)
  with_values id = option_map (λ vs. (id, vs)) (set_values t model id set)

  step : (o : Option (List Value)) → i < length ids → set_values t model (get_or ids i d) set ≡ o
      → filter_map with_values (take (i + 1) ids) ≡ filter_map with_values (take i ids) ++ cons_option (option_map (λ vs. (get_or ids i d, vs)) o) []
  step o low is = ap (filter_map with_values) (take_more ids i d low) ∙ filter_map-push with_values (take i ids) (get_or ids i d)
      ∙ ap (λ o. filter_map with_values (take i ids) ++ cons_option (option_map (λ vs. (get_or ids i d, vs)) o) []) is

  -- one more member
  pub members-more : (old new : List Member) (m : Member) → i < length ids → m.id ≡ get_or ids i d → set_values t model (get_or ids i d) set ≡ Some (values_in m.values.items) → new ≡ old ++ m ∷ []
      → AreMembers t model set (take i ids) old → AreMembers t model set (take (i + 1) ids) new
  members-more old new m low at is more so_far =
      ap (map shown_member) more ∙ map-append shown_member old (m ∷ []) ∙ ap (λ l. l ++ shown_member m ∷ []) so_far ∙ ap (λ id. filter_map with_values (take i ids) ++ (id, values_in m.values.items) ∷ []) at
      ∙ sym (step (Some (values_in m.values.items)) low is)

  -- a row without values is none
  pub members-passed : (old new : List Member) → i < length ids → set_values t model (get_or ids i d) set ≡ None → new ≡ old → AreMembers t model set (take i ids) old → AreMembers t model set (take (i + 1) ids) new
  members-passed old new low is same so_far =
      ap (map shown_member) same ∙ so_far ∙ sym (append_nil (filter_map with_values (take i ids))) ∙ sym (step None low is)

-- and all
pub members-all : (t : Tables) (model : ModelNo) (set : List FieldNo) (ids : List RecId) (i : ℕ) (members : List Member) → length ids ≤ i → AreMembers t model set (take i ids) members → AreMembers t model set ids members
members-all t model set ids i members past so_far = subst (λ l. AreMembers t model set l members) (take_all i ids past) so_far
