-- What more groups keep.
use Rattle.std.proofs.Common.{◌≡◌, ◌≢◌, ◌&&◌, ◌||◌, Bool, true, false, cond, List, [], ◌∷◌, Option, Some, None, refl, sym, subst, ◌∙◌}
use Rattle.std.specs.Prelude.{Contains, filter}
use Rattle.std.specs.List.{list_all, list_any}
use Rattle.std.specs.Option.{option_map_or}
use Rattle.ob_base.specs.declared.id.RecId.{RecId}
use Rattle.ob_access.specs.Admission.{applies_to, pass, some_met, is_global}
use Rattle.ob_access.specs.Groups.{has_group, has_some, is_open_to, is_superuser}
use Rattle.ob_access.specs.Policies.{RuleData}
use Rattle.ob_access.specs.Rights.{allows, is_for}
use Rattle.ob_access.specs.declared.policy.FieldAccess.{FieldAccess}
use Rattle.ob_access.proofs.Having.{Contains-from_has, has-from_Contains}

-- a test that passes keeps passing
abbrev pub Grows : Bool → Bool → Type 0
Grows a b = a ≡ true → b ≡ true

pub either_grows : (a b c d : Bool) → Grows a c → Grows b d → Grows (a || b) (c || d)
either_grows true b c d f g e = subst (λ (v : Bool). (v || d) ≡ true) (sym (f refl)) refl
either_grows false b true d f g e = refl
either_grows false b false d f g e = g e

both_grow : (a b d : Bool) → Grows b d → Grows (a && b) (a && d)
both_grow true b d g e = g e
both_grow false b d g e = e

pub any_grows : {A : Type 0} (p q : A → Bool) → ((x : A) → Grows (p x) (q x)) → (xs : List A) → Grows (list_any p xs) (list_any q xs)
any_grows p q grows [] e = e
any_grows p q grows (x ∷ xs) e = either_grows (p x) (list_any p xs) (q x) (list_any q xs) (grows x) (any_grows p q grows xs) e

module _ (a b : List RecId) (more : (id : RecId) → Contains a id → Contains b id) where
  pub has_grows : (id : RecId) → Grows (has_group a id) (has_group b id)
  has_grows id has = has-from_Contains b id (more id (Contains-from_has a id has))

  some_grows : (ids : List RecId) → Grows (has_some a ids) (has_some b ids)
  some_grows ids = any_grows (has_group a) (has_group b) has_grows ids

  pub for_grows : (group : Option RecId) → Grows (is_for a group) (is_for b group)
  for_grows None e = e
  for_grows (Some id) e = has_grows id e

  open_grows : (groups : Option (List RecId)) → Grows (is_open_to a groups) (is_open_to b groups)
  open_grows None e = e
  open_grows (Some ids) e = some_grows ids e

  allowed : (secret su writing : Bool) (groups : Option (List RecId))
      → Grows (cond secret (writing && is_open_to a groups) (su || is_open_to a groups)) (cond secret (writing && is_open_to b groups) (su || is_open_to b groups))
  allowed true su writing groups e = both_grow writing (is_open_to a groups) (is_open_to b groups) (open_grows groups) e
  allowed false su writing groups e = either_grows su (is_open_to a groups) su (is_open_to b groups) (λ h. h) (open_grows groups) e

  pub field_grows : (user : RecId) (writing : Bool) (access : Option FieldAccess) → Grows (option_map_or (allows a user writing) access false) (option_map_or (allows b user writing) access false)
  field_grows user writing None e = e
  field_grows user writing (Some access) e = allowed access.secret (is_superuser user) writing access.groups e

  named_grows : (groups : Option (List RecId)) → Grows (option_map_or (has_some a) groups false) (option_map_or (has_some b) groups false)
  named_grows None e = e
  named_grows (Some ids) e = some_grows ids e

  pub applies_grows : (rule : RuleData) → Grows (applies_to a rule) (applies_to b rule)
  applies_grows rule e = named_grows rule.groups e

-- whoever passes two tests is one of those that pass the first, and is found among them
kept_now : (met p q : Bool) (xs ys : Bool) → Grows p q → Grows xs ys → Grows (cond p (met || xs) xs) (cond q (met || ys) ys)
kept_now met true q xs ys f g e = subst (λ (v : Bool). cond v (met || ys) ys ≡ true) (sym (f refl)) (either_grows met xs met ys (λ h. h) g e)
kept_now true false true xs ys f g e = refl
kept_now false false true xs ys f g e = g e
kept_now met false false xs ys f g e = g e

any-cond : {A : Type 0} (met : A → Bool) (b : Bool) (x : A) (xs : List A) → list_any met (cond b (x ∷ xs) xs) ≡ cond b (met x || list_any met xs) (list_any met xs)
any-cond met true x xs = refl
any-cond met false x xs = refl

pub filtered_grows : {A : Type 0} (met p q : A → Bool) → ((x : A) → Grows (p x) (q x)) → (xs : List A) → Grows (list_any met (filter p xs)) (list_any met (filter q xs))
filtered_grows met p q grows [] e = e
filtered_grows met p q grows (x ∷ xs) e =
    any-cond met (q x) x (filter q xs)
    ∙ kept_now (met x) (p x) (q x) (list_any met (filter p xs)) (list_any met (filter q xs)) (grows x) (filtered_grows met p q grows xs) (sym (any-cond met (p x) x (filter p xs)) ∙ e)

some_met-any : (met : RuleData → Bool) (rules : List RuleData) → rules ≢ [] → Grows (some_met met rules) (list_any met rules)
some_met-any met [] given e = absurd (given refl)
some_met-any met (rule ∷ rules) given e = e

any-some_met : (met : RuleData → Bool) (rules : List RuleData) → Grows (list_any met rules) (some_met met rules)
any-some_met met [] e = refl
any-some_met met (rule ∷ rules) e = e

-- where a group rule applied already, what passed passes with more groups
pub pass_grows : (met : RuleData → Bool) (a b : List RecId) → ((id : RecId) → Contains a id → Contains b id) → (rules : List RuleData)
    → filter (applies_to a) rules ≢ [] → (su : Bool) → Grows (su || pass met a rules) (su || pass met b rules)
pass_grows met a b more rules applied su e =
    either_grows su (pass met a rules) su (pass met b rules) (λ h. h)
    (both_grow (list_all met (filter is_global rules)) (some_met met (filter (applies_to a) rules)) (some_met met (filter (applies_to b) rules))
    (λ h. any-some_met met (filter (applies_to b) rules) (filtered_grows met (applies_to a) (applies_to b) (applies_grows a b more) rules (some_met-any met (filter (applies_to a) rules) applied h)))) e
