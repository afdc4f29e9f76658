-- Where a delegated field comes from: a link of the model, and a field in the parent's own rows.
use Rattle.std.proofs.Common.{◌≡◌, ℕ, suc, ◌<◌, ◌&&◌, Bool, true, false, cond, not, Option, Some, None, List, [], ◌∷◌, length, get_or, map, ◌⊎◌, inl, inr, refl, sym, subst, ◌∙◌, arith}
use Rattle.std.specs.Prelude.{Contains, All, filter}
use Rattle.std.specs.List.{slice_get}
use Rattle.std.specs.Option.{is_none, option_map_or}
use Rattle.std.specs.Str.{bytes_eq}
use Rattle.std.proofs.lemmas.Bool.{and_parts, false≢true}
use Rattle.std.proofs.lemmas.List.Elements.{All-append, All-cons, All-contains, All-contains_itself, All-filter, All-map, All-nil, All-weaker, Contains-append_cases, Contains-append_left, Contains-append_right, filter_passes}
use Rattle.ob_definition.specs.declared.definition.Inherits.{Inherits}
use Rattle.ob_definition.specs.Definitions.{is_automatic, is_one_of}
use Rattle.ob_definition.specs.Gathered.{Declared, Gathered, is_declared, model_of}
use Rattle.ob_definition.specs.Members.{Member, own, delegated, hidden, automatic_defs, check_member, check_members, delegated_by, delegated_member, delegated_through, given_members, hidden_members, is_link}
use Rattle.ob_definition.specs.Members.{is_own_computed, link_def, links_from, links_of, locked_members, may_inherit, names_of, with_link, members_of, own_member, own_members, path_def, path_members, path_name}
use Rattle.ob_schema.proofs.CallerLemmas.{contains-mapped}

-- a field is a parent's own one, and no automatic one
pub record IsFromParent (models : List Gathered) (i : Inherits) (m : Member) : Type 0 where
  pub parent : Gathered
  pub there : model_of models i.model ≡ Some parent
  pub source : Member
  pub among : Contains (own_members models parent) source
  pub def : source.def ≡ m.def
  pub free : is_automatic m.def.name ≡ false

-- it is delegated through one of these links
abbrev pub IsThrough : List Gathered → List Inherits → Member → Type 0
IsThrough models links m = (i : Inherits) × Contains links i × (m.role ≡ delegated i) × IsFromParent models i m

pub not_true : (b : Bool) → not b ≡ true → b ≡ false
not_true true e = absurd (false≢true e)
not_true false e = refl

pub Contains-here : {X : Type 0} (x : X) (xs : List X) → Contains (x ∷ xs) x
Contains-here x xs = (0, omega arith, refl)

pub Contains-behind : {X : Type 0} (x y : X) (xs : List X) → Contains xs x → Contains (y ∷ xs) x
Contains-behind x y xs (k, within, is) = (suc k, omega arith, is)

module _ (models : List Gathered) where
  abbrev Delegates : Inherits → Member → Type 0
  Delegates i m = (m.role ≡ delegated i) × IsFromParent models i m

  delegates_all : (n : ℕ) (i : Inherits) → All (Delegates i) (delegated_through models n i)
  delegates_all n i = by (model_of models i.model) refl
    where
      free : Member → Bool
      free m = not (is_automatic m.def.name)

      by : (o : Option Gathered) → model_of models i.model ≡ o → All (Delegates i) (option_map_or (λ p. map (delegated_member n i) (filter (λ m. not (is_automatic m.def.name)) (own_members models p))) o [])
      by None there = All-nil (Delegates i)
      by (Some p) there =
          let mine = own_members models p in
          All-map (Delegates i) (delegated_member n i) (filter free mine) (λ (k : ℕ) (d : Member) (within : k < length (filter free mine)). (
            refl,
            record {
              parent = p;
              there = there;
              source = get_or (filter free mine) k d;
              among = All-filter free (Contains mine) mine (All-contains_itself mine) k d within;
              def = refl;
              free = not_true _ (filter_passes free mine k d within);
            },
          ))

  through_all : (g : Gathered) (links : List Inherits) → All (IsThrough models links) (delegated_by models g links)
  through_all g [] = All-nil (IsThrough models [])
  through_all g (i ∷ later) =
      All-append (IsThrough models (i ∷ later)) _ (delegated_by models g later)
      (All-filter _ (IsThrough models (i ∷ later)) (delegated_through models g.entry i)
      (All-weaker (Delegates i) (IsThrough models (i ∷ later)) (λ m from. (i, Contains-here i later, from.0, from.1)) (delegated_through models g.entry i) (delegates_all g.entry i)))
      (All-weaker (IsThrough models later) (IsThrough models (i ∷ later)) (λ m from. (from.0, Contains-behind from.0 i later from.1, from.2, from.3)) (delegated_by models g later) (through_all g later))

  abbrev IsOwnRole : Member → Type 0
  IsOwnRole m = m.role ≡ own

  path_own : (g : Gathered) (parent : Option (List ℕ)) → All IsOwnRole (path_members g parent)
  path_own g None = All-nil IsOwnRole
  path_own g (Some parent) = by (is_declared g.fields path_name)
    where
      by : (b : Bool) → All IsOwnRole (cond b [] (own_member g.entry (path_def parent) ∷ []))
      by true = All-nil IsOwnRole
      by false = λ k d within. let at : k ≡ 0 = omega arith in subst (λ (n : ℕ). (get_or (own_member g.entry (path_def parent) ∷ []) n d).role ≡ own) (sym at) refl

  own_all : (g : Gathered) → All IsOwnRole (own_members models g)
  own_all g =
      All-append IsOwnRole (given_members g) _
      (All-append IsOwnRole (map (own_member g.entry) automatic_defs) _
      (All-map IsOwnRole (own_member g.entry) automatic_defs (λ k d within. refl))
      (All-append IsOwnRole (map (λ f. own_member f.entry f.def) g.fields) _
      (All-map IsOwnRole (λ (f : Declared). own_member f.entry f.def) g.fields (λ k d within. refl))
      (path_own g g.parent)))
      (All-map IsOwnRole (λ (i : Inherits). own_member g.entry (link_def i)) (links_of models g) (λ k d within. refl))

  -- a field in the model's own rows
  pub own_role : (g : Gathered) (m : Member) → Contains (own_members models g) m → m.role ≡ own
  own_role g m here = All-contains IsOwnRole (own_members models g) m (own_all g) here

  -- a delegated field comes from a parent, through one of the model's links
  pub delegated_from : (g : Gathered) (m : Member) (i : Inherits) → Contains (members_of models g) m → m.role ≡ delegated i → Contains (links_of models g) i × IsFromParent models i m
  delegated_from g m i here role = elim (Contains-append_cases (own_members models g) (delegated_by models g (links_of models g)) m here) [
    | inl mine ↦ (let both : own ≡ delegated i = sym (own_role g m mine) ∙ role in absurd (cc))
    | inr through ↦
        (let from : IsThrough models (links_of models g) m = All-contains (IsThrough models (links_of models g)) (delegated_by models g (links_of models g)) m (through_all g (links_of models g)) through in
        let both : delegated from.0 ≡ delegated i = sym from.2 ∙ role in
        let same : from.0 ≡ i = cc in
        subst (λ (j : Inherits). Contains (links_of models g) j × IsFromParent models j m) same (from.1, from.3))
  ]

  -- a named field is in the model's own rows, or delegated
  pub member_cases : (g : Gathered) (m : Member) → Contains (members_of models g) m → Contains (own_members models g) m ⊎ IsThrough models (links_of models g) m
  member_cases g m here = elim (Contains-append_cases (own_members models g) (delegated_by models g (links_of models g)) m here) [
    | inl mine ↦ inl mine
    | inr through ↦ inr (All-contains (IsThrough models (links_of models g)) (delegated_by models g (links_of models g)) m (through_all g (links_of models g)) through)
  ]

  -- a link has its field among the model's own
  pub link_member : (g : Gathered) (i : Inherits) → Contains (links_of models g) i → Contains (own_members models g) (own_member g.entry (link_def i))
  link_member g i (k, within, is) =
      Contains-append_right (given_members g) (map (λ j. own_member g.entry (link_def j)) (links_of models g)) (own_member g.entry (link_def i))
      (contains-mapped (λ (j : Inherits). own_member g.entry (link_def j)) (links_of models g) i (k, within, is))

  -- it leads to a model that may be its parent
  link_may : (g : Gathered) (taken : List (List ℕ)) (links : List Inherits) → All (λ i. may_inherit models g i ≡ true) (links_from models g taken links)
  link_may g taken [] = All-nil (λ i. may_inherit models g i ≡ true)
  link_may g taken (i ∷ more) =
      let P : Inherits → Type 0 = λ i. may_inherit models g i ≡ true in
      All-append P _ (links_from models g (with_link models g taken i) more) (by (is_link models g taken i) refl) (link_may g (with_link models g taken i) more)
    where
      by : (b : Bool) → is_link models g taken i ≡ b → All (λ i. may_inherit models g i ≡ true) (cond b (i ∷ []) [])
      by false e = All-nil (λ i. may_inherit models g i ≡ true)
      by true e = All-cons (λ i. may_inherit models g i ≡ true) i [] (and_parts (may_inherit models g i) (not (is_one_of taken i.link)) e).0 (All-nil (λ i. may_inherit models g i ≡ true))

  pub link_inherits : (g : Gathered) (i : Inherits) → Contains (links_of models g) i → may_inherit models g i ≡ true
  link_inherits g i here = All-contains (λ i. may_inherit models g i ≡ true) (links_of models g) i (link_may g (names_of (given_members g)) g.inherits) here

  pub link_model : (g : Gathered) (i : Inherits) → Contains (links_of models g) i → (p : Gathered) × (model_of models i.model ≡ Some p)
  link_model g i here = by (model_of models i.model) refl (link_inherits g i here)
    where
      by : (o : Option Gathered) → model_of models i.model ≡ o → option_map_or (λ p. not (bytes_eq p.name g.name) && is_none (slice_get p.inherits 0)) o false ≡ true → (p : Gathered) × (model_of models i.model ≡ Some p)
      by None e may = absurd (false≢true may)
      by (Some p) e may = (p, e)

  pub own_among : (g : Gathered) (m : Member) → Contains (own_members models g) m → Contains (members_of models g) m
  own_among g m here = Contains-append_left (own_members models g) (delegated_by models g (links_of models g)) m here

abbrev IsCondition : Member → Type 0
IsCondition m = (m.role ≡ hidden) × (is_own_computed m ≡ true)

locked_conditions : (g : Gathered) (text : Option (List ℕ)) → All IsCondition (locked_members g text)
locked_conditions g None = All-nil IsCondition
locked_conditions g (Some text) = λ k d within. let at : k ≡ 0 = omega arith in subst (λ (n : ℕ). IsCondition (get_or (locked_members g (Some text)) n d)) (sym at) (refl, refl)

-- a condition has an expression
pub hidden_computed : (g : Gathered) (m : Member) → Contains (hidden_members g) m → (m.role ≡ hidden) × (is_own_computed m ≡ true)
hidden_computed g m here =
    All-contains IsCondition (hidden_members g) m
    (All-append IsCondition (check_members g) _ (All-map IsCondition check_member g.checks (λ k d within. (refl, refl))) (locked_conditions g g.locked)) here
