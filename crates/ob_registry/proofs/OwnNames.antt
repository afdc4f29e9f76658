-- No two named fields of a model share a name.
use Rattle.std.proofs.Common.{◌≡◌, ◌≢◌, ℕ, ◌+◌, ◌<◌, ◌≤◌, ◌||◌, ◌&&◌, inl, inr, not, Bool, true, false, cond, Option, Some, None, List, [], ◌∷◌, ◌++◌, map, get_or, refl, sym, ap, subst, ◌∙◌, arith}
use Rattle.std.specs.Prelude.{count_by}
use Rattle.std.specs.List.{All, AllPairs, filter, find}
use Rattle.std.specs.Option.{is_none, option_map_or}
use Rattle.std.specs.Str.{bytes_eq}
use Rattle.std.proofs.lemmas.Bool.{and_left, and_parts, and_right, cases_lt, false≢true, not-true, or_right}
use Rattle.std.proofs.lemmas.List.Elements.{All-head, All-tail}
use Rattle.std.proofs.lemmas.Slice.Eq.{bytes_eq-Decides}
use Rattle.ob_definition.specs.declared.definition.Inherits.{Inherits}
use Rattle.ob_definition.specs.Definitions.{is_automatic, is_one_of}
use Rattle.ob_definition.specs.Gathered.{Declared, Gathered, IsWellNamed, is_declared, model_of}
use Rattle.ob_definition.specs.Members.{Member, automatic_defs, delegated_by, delegated_member, delegated_through, given_members, is_link, link_def, links_from, links_of, may_inherit, members_of, named, names_of, own_member}
use Rattle.ob_definition.specs.Members.{own_members, path_def, path_members, path_name}
use Rattle.ob_registry.proofs.Distinct.{any_none, apart_once, automatic_count, automatic_counted, bytes_eq-flip, count-filter, count-filter_none, count_none, has}
use Rattle.ob_registry.proofs.Distinct.{once_apart, times, times-append, times_found, times_taken}
use Rattle.ob_registry.proofs.Counting.{count-cons, count-map, none_if, one_if}

-- ---- the fields without links

-- how many declared fields have a name
abbrev declared_times : List ℕ → List Declared → ℕ
declared_times x fields = count_by (λ f. bytes_eq f.def.name x) fields

free_none : (x : List ℕ) (fields : List Declared) → All (λ f. is_automatic f.def.name ≡ false) fields → is_automatic x ≡ true → declared_times x fields ≡ 0
free_none x fields free automatic = count_none (λ (f : Declared). bytes_eq f.def.name x) fields (λ k d lt.
    let name = (get_or fields k d).def.name in
    by name (bytes_eq name x) refl (free k d lt))
  where
    by : (name : List ℕ) (b : Bool) → bytes_eq name x ≡ b → is_automatic name ≡ false → b ≡ false
    by name true e f = absurd (false≢true (sym f ∙ ap is_automatic ((bytes_eq-Decides name x).0 e) ∙ automatic))
    by name false e f = refl

-- the path is one field, and only where no declared one has its name
path_part : (g : Gathered) (x : List ℕ) (parent : Option (List ℕ)) → (times x (path_members g parent) ≤ 1) × (0 < times x (path_members g parent) → (path_name ≡ x) × (is_declared g.fields path_name ≡ false))
path_part g x None = let none : times x [] ≡ 0 = refl in (omega arith, λ some. absurd (omega arith))
path_part g x (Some parent) = by (is_declared g.fields path_name) (bytes_eq path_name x) refl refl
  where
    one : Member
    one = own_member g.entry (path_def parent)

    by : (b t : Bool) → is_declared g.fields path_name ≡ b → bytes_eq path_name x ≡ t
        → (times x (cond b [] (one ∷ [])) ≤ 1) × (0 < times x (cond b [] (one ∷ [])) → (path_name ≡ x) × (is_declared g.fields path_name ≡ false))
    by true t e f = let none : times x [] ≡ 0 = refl in (omega arith, λ some. absurd (omega arith))
    by false true e f =
        let c : times x (one ∷ []) ≡ cond (has x one) 1 0 + times x [] = count-cons (has x) one [] in
        let h : ◌≡◌ {A = ℕ} (cond (has x one) 1 0) 1 = one_if (has x one) f in
        let none : times x [] ≡ 0 = refl in
        (omega arith, λ some. ((bytes_eq-Decides path_name x).0 f, e))
    by false false e f =
        let c : times x (one ∷ []) ≡ cond (has x one) 1 0 + times x [] = count-cons (has x) one [] in
        let h : ◌≡◌ {A = ℕ} (cond (has x one) 1 0) 0 = none_if (has x one) f in
        let none : times x [] ≡ 0 = refl in
        (omega arith, λ some. absurd (omega arith))

given_once : (g : Gathered) → IsWellNamed g → (x : List ℕ) → times x (given_members g) ≤ 1
given_once g well x =
    let automatic = map (own_member g.entry) automatic_defs in
    let declared = map (λ (f : Declared). own_member f.entry f.def) g.fields in
    let path = path_members g g.parent in
    let all : times x (given_members g) ≡ times x (automatic ++ declared) + times x path = times-append x (automatic ++ declared) path in
    let both : times x (automatic ++ declared) ≡ times x automatic + times x declared = times-append x automatic declared in
    let same : times x declared ≡ declared_times x g.fields = count-map (has x) (λ (f : Declared). own_member f.entry f.def) g.fields in
    let few : times x automatic ≤ 1 = automatic_count g.entry x in
    let single : declared_times x g.fields ≤ 1 = once_apart (λ (f : Declared). f.def.name) x g.fields well.fields in
    let part = path_part g x g.parent in
    let one : times x path ≤ 1 = part.0 in
    elim (cases_lt 0 (times x path)) [
      | inl some ↦
          let at = part.1 some in
          let none : declared_times x g.fields ≡ 0 = ap (λ (n : List ℕ). declared_times n g.fields) (sym at.0) ∙ any_none (λ (f : Declared). bytes_eq f.def.name path_name) g.fields at.1 in
          elim (cases_lt 0 (times x automatic)) [
            | inl more ↦ absurd (false≢true (let plain : is_automatic path_name ≡ false = refl in sym plain ∙ ap is_automatic at.0 ∙ automatic_counted g.entry x more))
            | inr quiet ↦ omega arith
          ]
      | inr no_path ↦ elim (cases_lt 0 (times x automatic)) [
        | inl more ↦ let none : declared_times x g.fields ≡ 0 = free_none x g.fields well.free (automatic_counted g.entry x more) in omega arith
        | inr quiet ↦ omega arith
      ]
    ]

-- ---- links

module _ (models : List Gathered) where
  abbrev link_members : Gathered → List Inherits → List Member
  link_members g links = map (λ i. own_member g.entry (link_def i)) links

  -- each link has a name of its own, and none that is taken
  abbrev AreLinkTimes : Gathered → List ℕ → List (List ℕ) → List Inherits → Type 0
  AreLinkTimes g x taken links = (times x (link_members g links) ≤ 1) × (is_one_of taken x ≡ true → times x (link_members g links) ≡ 0)

  link_added : (g : Gathered) (x : List ℕ) (taken : List (List ℕ)) (i : Inherits) (rest : List Inherits) (t : Bool) → bytes_eq i.link x ≡ t → is_link models g taken i ≡ true → AreLinkTimes g x (i.link ∷ taken) rest
      → AreLinkTimes g x taken (i ∷ rest)
  link_added g x taken i rest true same link times' =
      let m = own_member g.entry (link_def i) in
      let c : times x (link_members g (i ∷ rest)) ≡ cond (bytes_eq i.link x) 1 0 + times x (link_members g rest) = count-cons (has x) m (link_members g rest) in
      let h : ◌≡◌ {A = ℕ} (cond (bytes_eq i.link x) 1 0) 1 = one_if (bytes_eq i.link x) same in
      let alone : times x (link_members g rest) ≡ 0 = times'.1 (ap (λ (b : Bool). b || is_one_of taken x) (bytes_eq-flip i.link x same)) in
      let free : is_one_of taken i.link ≡ false = not-true (is_one_of taken i.link) (and_parts (may_inherit models g i) (not (is_one_of taken i.link)) link).1 in
      (omega arith, λ held. absurd (false≢true (sym free ∙ ap (is_one_of taken) ((bytes_eq-Decides i.link x).0 same) ∙ held)))
  link_added g x taken i rest false other link times' =
      let m = own_member g.entry (link_def i) in
      let c : times x (link_members g (i ∷ rest)) ≡ cond (bytes_eq i.link x) 1 0 + times x (link_members g rest) = count-cons (has x) m (link_members g rest) in
      let h : ◌≡◌ {A = ℕ} (cond (bytes_eq i.link x) 1 0) 0 = none_if (bytes_eq i.link x) other in
      let few : times x (link_members g rest) ≤ 1 = times'.0 in
      (omega arith, λ held. let none : times x (link_members g rest) ≡ 0 = times'.1 (or_right (bytes_eq x i.link) (is_one_of taken x) held) in omega arith)

  link_step : (g : Gathered) (x : List ℕ) (taken : List (List ℕ)) (i : Inherits) (more : List Inherits) (b : Bool) → is_link models g taken i ≡ b
      → AreLinkTimes g x (cond b (i.link ∷ taken) taken) (links_from models g (cond b (i.link ∷ taken) taken) more)
      → AreLinkTimes g x taken (cond b (i ∷ []) [] ++ links_from models g (cond b (i.link ∷ taken) taken) more)
  link_step g x taken i more true link rest = link_added g x taken i (links_from models g (i.link ∷ taken) more) (bytes_eq i.link x) refl link rest
  link_step g x taken i more false link rest = rest

  links_once : (g : Gathered) (x : List ℕ) (taken : List (List ℕ)) (inherits : List Inherits) → AreLinkTimes g x taken (links_from models g taken inherits)
  links_once g x taken [] = let none : times x [] ≡ 0 = refl in (omega arith, λ held. none)
  links_once g x taken (i ∷ more) =
      link_step g x taken i more (is_link models g taken i) refl (links_once g x (cond (is_link models g taken i) (i.link ∷ taken) taken) more)

  -- ---- a model's own fields, and those of its parents

  pub own_once : (g : Gathered) → IsWellNamed g → (x : List ℕ) → times x (own_members models g) ≤ 1
  own_once g well x =
      let given = given_members g in
      let links = link_members g (links_of models g) in
      let both : times x (own_members models g) ≡ times x given + times x links = times-append x given links in
      let few : times x given ≤ 1 = given_once g well x in
      let part = links_once g x (names_of given) g.inherits in
      let single : times x links ≤ 1 = part.0 in
      elim (cases_lt 0 (times x given)) [
        | inl some ↦ let none : times x links ≡ 0 = part.1 (times_taken x given some) in omega arith
        | inr none ↦ omega arith
      ]

  pub own_apart : (g : Gathered) → IsWellNamed g → AllPairs (λ a b. a.def.name ≢ b.def.name) (own_members models g)
  own_apart g well = apart_once (λ (m : Member). m.def.name) (own_members models g) (own_once g well)

  module _ (well : All IsWellNamed models) where
    found_well : (some : List Gathered) (test : Gathered → Bool) (g : Gathered) → All IsWellNamed some → find test some ≡ Some g → IsWellNamed g
    found_well [] test g each found = absurd (let e : ◌≡◌ {A = Option Gathered} None (Some g) = found in cc)
    found_well (m ∷ some) test g each found = by (test m) found (found_well some test g (All-tail IsWellNamed m some each))
      where
        by : (b : Bool) → cond b (Some m) (find test some) ≡ Some g → (find test some ≡ Some g → IsWellNamed g) → IsWellNamed g
        by true e rest = let same : m ≡ g = let f : ◌≡◌ {A = Option Gathered} (Some m) (Some g) = e in cc in subst IsWellNamed same (All-head IsWellNamed m some each)
        by false e rest = rest e

    pub parent_well : (name : List ℕ) (g : Gathered) → model_of models name ≡ Some g → IsWellNamed g
    parent_well name g found = found_well models (λ m. bytes_eq m.name name) g well found

    through_once : (n : ℕ) (i : Inherits) (x : List ℕ) → times x (delegated_through models n i) ≤ 1
    through_once n i x = by (model_of models i.model) refl
      where
        through : Gathered → List Member
        through p = map (delegated_member n i) (filter (λ m. not (is_automatic m.def.name)) (own_members models p))

        by : (o : Option Gathered) → model_of models i.model ≡ o → times x (option_map_or through o []) ≤ 1
        by None e = let none : times x [] ≡ 0 = refl in omega arith
        by (Some p) e =
            let own = own_members models p in
            let plain = λ (m : Member). not (is_automatic m.def.name) in
            let same : times x (through p) ≡ times x (filter plain own) = count-map (has x) (delegated_member n i) (filter plain own) in
            let fewer : times x (filter plain own) ≤ times x own = count-filter (has x) plain own in
            let one : times x own ≤ 1 = own_once p (parent_well i.model p e) x in
            omega arith

    -- what a filter by free names leaves of a name
    abbrev left : List Member → List Member → List Member → List Member
    left own later through = filter (λ m. is_none (named own m.def.name) && is_none (named later m.def.name)) through

    none_left_own : (own later through : List Member) (x : List ℕ) → 0 < times x own → times x (left own later through) ≡ 0
    none_left_own own later through x some = count-filter_none (has x) (λ m. is_none (named own m.def.name) && is_none (named later m.def.name)) through
        (λ m same. and_left (is_none (named own m.def.name)) (is_none (named later m.def.name))
        (ap (λ (n : List ℕ). is_none (named own n)) ((bytes_eq-Decides m.def.name x).0 same) ∙ ap not (times_found x own some)))

    none_left_later : (own later through : List Member) (x : List ℕ) → 0 < times x later → times x (left own later through) ≡ 0
    none_left_later own later through x some = count-filter_none (has x) (λ m. is_none (named own m.def.name) && is_none (named later m.def.name)) through
        (λ m same. and_right (is_none (named own m.def.name)) (is_none (named later m.def.name))
        (ap (λ (n : List ℕ). is_none (named later n)) ((bytes_eq-Decides m.def.name x).0 same) ∙ ap not (times_found x later some)))

    delegated_once : (g : Gathered) (x : List ℕ) (links : List Inherits) → (times x (delegated_by models g links) ≤ 1) × (0 < times x (own_members models g) → times x (delegated_by models g links) ≡ 0)
    delegated_once g x [] = let none : times x [] ≡ 0 = refl in (omega arith, λ some. none)
    delegated_once g x (i ∷ links) =
        let own = own_members models g in
        let later = delegated_by models g links in
        let through = delegated_through models g.entry i in
        let test = λ (m : Member). is_none (named own m.def.name) && is_none (named later m.def.name) in
        let both : times x (delegated_by models g (i ∷ links)) ≡ times x (left own later through) + times x later = times-append x (left own later through) later in
        let fewer : times x (left own later through) ≤ times x through = count-filter (has x) test through in
        let one : times x through ≤ 1 = through_once g.entry i x in
        let rest = delegated_once g x links in
        let few : times x later ≤ 1 = rest.0 in
        let first : times x (delegated_by models g (i ∷ links)) ≤ 1 = elim (cases_lt 0 (times x later)) [
          | inl some ↦ let none : times x (left own later through) ≡ 0 = none_left_later own later through x some in omega arith
          | inr none ↦ omega arith
        ] in
        (first, λ some. let none : times x (left own later through) ≡ 0 = none_left_own own later through x some in let nothing : times x later ≡ 0 = rest.1 some in omega arith)

    pub members_once : (g : Gathered) → IsWellNamed g → (x : List ℕ) → times x (members_of models g) ≤ 1
    members_once g named x =
        let own = own_members models g in
        let delegated = delegated_by models g (links_of models g) in
        let both : times x (members_of models g) ≡ times x own + times x delegated = times-append x own delegated in
        let few : times x own ≤ 1 = own_once g named x in
        let part = delegated_once g x (links_of models g) in
        let single : times x delegated ≤ 1 = part.0 in
        elim (cases_lt 0 (times x own)) [
          | inl some ↦ let none : times x delegated ≡ 0 = part.1 some in omega arith
          | inr none ↦ omega arith
        ]
