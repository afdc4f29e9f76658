-- What the parents of a model delegate, from the last one to the first.
use Rattle.std.proofs.Common.{◌≡◌, ◌≢◌, ℕ, zero, suc, ◌<◌, ◌≤◌, ◌||◌, ◌&&◌, inl, inr, not, Bool, true, false, cond, ltb, is_some, Option, Some, None, Vec, List, [], ◌∷◌, ◌++◌, map, length}
use Rattle.std.proofs.Common.{get_or, drop, append_assoc, append-nil, ◌-◌, refl, sym, ap, subst, ◌∙◌, arith}
use Rattle.std.specs.Prelude.{slice_get}
use Rattle.std.specs.List.{AllPairs, filter, position_or_len}
use Rattle.std.specs.List.Sorted.{IsPermutation}
use Rattle.std.specs.Option.{is_none, option_map_or}
use Rattle.std.specs.Str.{bytes_eq}
use Rattle.std.specs.declared.alloc.Global.{Global}
use Rattle.std.proofs.lemmas.Bool.{cases_lt}
use Rattle.std.proofs.lemmas.Bool.Decides.{nat_tests}
use Rattle.std.proofs.lemmas.List.{drop_all, get_or-map, length-map}
use Rattle.std.proofs.Math.Seq.{drop-cons}
use Rattle.std.proofs.lemmas.List.Elements.{filter_agree}
use Rattle.std.proofs.lemmas.List.Folds.{find_at}
use Rattle.std.proofs.lemmas.List.Sorted.{IsPermutation-append_comm, IsPermutation-append_left, IsPermutation-append_right, IsPermutation-refl, IsPermutation-trans}
use Rattle.std.proofs.lemmas.Option.{get_or_from_slice_get, slice_get_past, slice_get_within}
use Rattle.ob_definition.specs.declared.definition.Inherits.{Inherits}
use Rattle.ob_definition.specs.declared.made.ParentLink.{ParentLink}
use Rattle.ob_definition.specs.ByName.{place_of}
use Rattle.ob_definition.specs.Definitions.{is_automatic}
use Rattle.ob_definition.specs.Gathered.{AreWellNamed, Gathered, IsWellNamed, model_of}
use Rattle.ob_definition.specs.Members.{Member, before_later, delegated_by, delegated_member, delegated_through, links_of, named, own_members}
use Rattle.ob_registry.specs.declared.model.Member.{Member as KeptMember}
use Rattle.ob_registry.specs.ModelFields.{members_in}
use Rattle.ob_registry.specs.Modelling.{delegated_beside, own_in}
use Rattle.ob_registry.proofs.Distinct.{times, times_found, times_unfound}
use Rattle.ob_registry.proofs.MemberNames.{found-append}
use Rattle.ob_registry.proofs.NameSort.{times-moved}
use Rattle.ob_registry.proofs.OwnNames.{own_apart}

-- ---- names that are free

free-append : (x : List ℕ) (xs ys : List Member) → is_none (named (xs ++ ys) x) ≡ is_none (named xs x) && is_none (named ys x)
free-append x xs ys = ap not (found-append (λ m. bytes_eq m.def.name x) xs ys) ∙ by (is_some (named xs x)) (is_some (named ys x))
  where
    by : (a b : Bool) → not (a || b) ≡ not a && not b
    by true b = refl
    by false b = refl

free-moved : (x : List ℕ) (xs ys : List Member) → IsPermutation xs ys → is_none (named ys x) ≡ is_none (named xs x)
free-moved x xs ys moved =
    let same : times x ys ≡ times x xs = times-moved x xs ys moved in
    elim (cases_lt 0 (times x xs)) [
      | inl some ↦ let more : 0 < times x ys = omega arith in ap not (times_found x ys more ∙ sym (times_found x xs some))
      | inr few ↦ let none : times x xs ≡ 0 = omega arith in let nothing : times x ys ≡ 0 = omega arith in ap not (times_unfound x ys nothing ∙ sym (times_unfound x xs none))
    ]

-- ---- parents

module _ (models : List Gathered) where
  -- the model of a place
  model_at_place : (name : List ℕ) (i : ℕ) → place_of models name ≡ Some i → model_of models name ≡ slice_get models i
  model_at_place name i at = find_at p models ∙ by (ltb (position_or_len p models) (length models)) at
    where
      p : Gathered → Bool
      p m = bytes_eq m.name name

      by : (b : Bool) → cond b (Some (position_or_len p models)) None ≡ Some i → slice_get models (position_or_len p models) ≡ slice_get models i
      by true e = let same : position_or_len p models ≡ i = cc in ap (slice_get models) same
      by false e = absurd (let f : ◌≡◌ {A = Option ℕ} None (Some i) = e in cc)

  pub no_model : (name : List ℕ) → place_of models name ≡ None → model_of models name ≡ None
  no_model name at = find_at p models ∙ by (ltb (position_or_len p models) (length models)) refl at
    where
      p : Gathered → Bool
      p m = bytes_eq m.name name

      by : (b : Bool) → ltb (position_or_len p models) (length models) ≡ b → cond b (Some (position_or_len p models)) None ≡ None → slice_get models (position_or_len p models) ≡ None
      by true e f = absurd (let g : ◌≡◌ {A = Option ℕ} (Some (position_or_len p models)) None = f in cc)
      by false e f = slice_get_past models (position_or_len p models) (grind (arith, nat_tests))

  -- the own fields at a place are those of the model there
  own_from : (own : List (Vec KeptMember Global)) (some : List Gathered) (t : ℕ) (v : Vec KeptMember Global) → own_in own ≡ map (own_members models) some → t < length own → v ≡ get_or own t v
      → (p : Gathered) × (slice_get some t ≡ Some p) × (members_in v.items ≡ own_members models p)
  own_from [] some t v e low is = absurd (omega arith)
  own_from (w ∷ own) [] t v e low is = absurd (let f : ◌≡◌ {A = List (List Member)} (members_in w.items ∷ own_in own) [] = e in cc)
  own_from (w ∷ own) (p ∷ some) zero v e low is =
      let head : members_in w.items ≡ own_members models p = heads (members_in w.items) (own_members models p) (own_in own) (map (own_members models) some) e in
      (p, refl, ap (λ (u : Vec KeptMember Global). members_in u.items) is ∙ head)
    where
      heads : (a b : List Member) (as' bs : List (List Member)) → ◌≡◌ {A = List (List Member)} (a ∷ as') (b ∷ bs) → a ≡ b
      heads a b as' bs e = cc
  own_from (w ∷ own) (p ∷ some) (suc t) v e low is = own_from own some t v (tails (members_in w.items) (own_members models p) (own_in own) (map (own_members models) some) e) (omega arith) is
    where
      tails : (a b : List Member) (as' bs : List (List Member)) → ◌≡◌ {A = List (List Member)} (a ∷ as') (b ∷ bs) → as' ≡ bs
      tails a b as' bs e = cc

  pub own_at : (own : List (Vec KeptMember Global)) (t : ℕ) (v : Vec KeptMember Global) → own_in own ≡ map (own_members models) models → t < length models → v ≡ get_or own t v
      → (p : Gathered) × (slice_get models t ≡ Some p) × (members_in v.items ≡ own_members models p)
  own_at own t v e low is =
      let many : length (own_in own) ≡ length own = length-map own (λ (u : Vec KeptMember Global). members_in u.items) in
      let all : length (map (own_members models) models) ≡ length models = length-map models (own_members models) in
      let same = ap (λ (l : List (List Member)). length l) e in
      own_from own models t v e (omega arith) is

  -- a parent by its place, with its own fields
  pub record IsParent (name : List ℕ) (members : List Member) : Type 0 where
    pub parent : Gathered
    pub found : model_of models name ≡ Some parent
    pub well : IsWellNamed parent
    pub own : members ≡ own_members models parent

  pub IsParent-at : (own : List (Vec KeptMember Global)) (name : List ℕ) (t : ℕ) (v : Vec KeptMember Global) (items : List KeptMember) → AreWellNamed models → own_in own ≡ map (own_members models) models → t < length models
      → v ≡ get_or own t v → items ≡ v.items → place_of models name ≡ Some t → IsParent name (members_in items)
  IsParent-at own name t v items well e low is same at =
      let there = own_at own t v e low is in
      let p = there.0 in
      record {
        parent = p;
        found = model_at_place name t at ∙ there.1;
        well = subst IsWellNamed (get_or_from_slice_get models t p p there.1) (well.each t p (slice_get_within models t p there.1));
        own = ap members_in same ∙ there.2;
      }

  pub parent-apart : (name : List ℕ) (members : List Member) → IsParent name members → AllPairs (λ a b. a.def.name ≢ b.def.name) members
  parent-apart name members parent = subst (λ (l : List Member). AllPairs (λ a b. a.def.name ≢ b.def.name) l) (sym parent.own) (own_apart models parent.parent parent.well)

  -- ---- one parent more

  module _ (g : Gathered) where
    -- a link to no model delegates nothing
    pub delegated_none : (i : Inherits) (later : List Inherits) → model_of models i.model ≡ None → delegated_by models g (i ∷ later) ≡ delegated_by models g later
    delegated_none i later none = ap (λ (o : Option Gathered). before_later models (own_members models g)
        (option_map_or (λ p. map (delegated_member g.entry i) (filter (λ m. not (is_automatic m.def.name)) (own_members models p))) o []) (delegated_by models g later)) none

    -- what a parent's fields add to those of the later ones
    pub delegated_more : (i : Inherits) (later : List Inherits) (members before after : List Member) → IsParent i.model members → IsPermutation (own_members models g ++ delegated_by models g later) before
        → after ≡ before ++ delegated_beside g.entry i members before → IsPermutation (own_members models g ++ delegated_by models g (i ∷ later)) after
    delegated_more i later members before after parent moved is =
        let own = own_members models g in
        let rest = delegated_by models g later in
        let plain = λ (m : Member). not (is_automatic m.def.name) in
        let through = map (delegated_member g.entry i) (filter plain members) in
        let test = λ (m : Member). is_none (named own m.def.name) && is_none (named rest m.def.name) in
        let free = λ (m : Member). is_none (named before m.def.name) in
        let new = filter test through in
        let agree = λ (m : Member). free-moved m.def.name (own ++ rest) before moved ∙ free-append m.def.name own rest in
        let same : filter free through ≡ new = filter_agree free test agree through in
        let turned : IsPermutation (own ++ (new ++ rest)) ((own ++ rest) ++ new) =
        subst (λ (l : List Member). IsPermutation (own ++ (new ++ rest)) l) (sym (append_assoc own rest new)) (IsPermutation-append_right own (new ++ rest) (rest ++ new) (IsPermutation-append_comm new rest)) in
        let whole : IsPermutation (own ++ (new ++ rest)) (before ++ new) =
        IsPermutation-trans (own ++ (new ++ rest)) ((own ++ rest) ++ new) (before ++ new) turned (IsPermutation-append_left new (own ++ rest) before moved) in
        let ends : after ≡ before ++ new = is ∙ ap (λ (l : List Member). before ++ l) same in
        let through' : delegated_through models g.entry i ≡ through =
        ap (λ (o : Option Gathered). option_map_or (λ p. map (delegated_member g.entry i) (filter plain (own_members models p))) o []) parent.found
        ∙ ap (λ (l : List Member). map (delegated_member g.entry i) (filter plain l)) (sym parent.own) in
        subst (λ (l : List Member). IsPermutation (own ++ before_later models own l rest) after) (sym through') (subst (λ (l : List Member). IsPermutation (own ++ (new ++ rest)) l) (sym ends) whole)

-- ---- from the last link to the first

-- a model's own fields with what the parents of some links delegate, in some order
pub record AreJoined (models : List Gathered) (g : Gathered) (links : List Inherits) (members : List Member) : Type 0 where
  pub moved : IsPermutation (own_members models g ++ delegated_by models g links) members

module _ (models : List Gathered) (g : Gathered) where
  pub AreJoined-none : (links : List Inherits) (n : ℕ) (members : List Member) → length links ≤ n → members ≡ own_members models g → AreJoined models g (drop n links) members
  AreJoined-none links n members past is =
      let whole : AreJoined models g [] members = record {
        moved = subst (λ (l : List Member). IsPermutation (own_members models g ++ []) l) (append-nil (own_members models g) ∙ sym is) (IsPermutation-refl (own_members models g ++ []));
      } in
      subst (λ (l : List Inherits). AreJoined models g l members) (sym (drop_all n links past)) whole

  module _ (made : List ParentLink) (left : ℕ) (d : ParentLink) (are : map (λ l. l.parent.now) made ≡ links_of models g) (some : 0 < left) (within : left ≤ length made) where
    abbrev pub this : Inherits
    this = (get_or made (left - 1) d).parent.now

    -- the link before those that are done
    front : drop (left - 1) (links_of models g) ≡ this ∷ drop left (links_of models g)
    front =
        let links = links_of models g in
        let size : length links ≡ length made = ap (λ (l : List Inherits). length l) (sym are) ∙ length-map made (λ (l : ParentLink). l.parent.now) in
        let low : left - 1 < length made = omega arith in
        let inside : left - 1 < length links = omega arith in
        let next : suc (left - 1) ≡ left = omega arith in
        let at : get_or links (left - 1) this ≡ this = ap (λ (l : List Inherits). get_or l (left - 1) this) (sym are) ∙ get_or-map (λ (l : ParentLink). l.parent.now) made (left - 1) d this low in
        drop-cons links (left - 1) this inside ∙ ap (λ (i : Inherits). i ∷ drop (suc (left - 1)) links) at ∙ ap (λ (k : ℕ). this ∷ drop k links) next

    pub AreJoined-skip : (members : List Member) → model_of models this.model ≡ None → AreJoined models g (drop left (links_of models g)) members → AreJoined models g (drop (left - 1) (links_of models g)) members
    AreJoined-skip members none joined =
        let whole : AreJoined models g (this ∷ drop left (links_of models g)) members = record {
          moved = subst (λ (l : List Member). IsPermutation (own_members models g ++ l) members) (sym (delegated_none models g this (drop left (links_of models g)) none)) joined.moved;
        } in
        subst (λ (l : List Inherits). AreJoined models g l members) (sym front) whole

    pub AreJoined-more : (n : ℕ) (members before after : List Member) → n ≡ g.entry → IsParent models this.model members → AreJoined models g (drop left (links_of models g)) before
        → after ≡ before ++ delegated_beside n this members before → AreJoined models g (drop (left - 1) (links_of models g)) after
    AreJoined-more n members before after entry parent joined is =
        let whole : AreJoined models g (this ∷ drop left (links_of models g)) after = record {
          moved = delegated_more models g this (drop left (links_of models g)) members before after parent joined.moved (is ∙ ap (λ (k : ℕ). before ++ delegated_beside k this members before) entry);
        } in
        subst (λ (l : List Inherits). AreJoined models g l after) (sym front) whole
