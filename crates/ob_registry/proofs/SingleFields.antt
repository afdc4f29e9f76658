-- One field stands at a step, where names are distinct.
use Rattle.std.proofs.Common.{◌≡◌, ◌≢◌, ◌⊎◌, inl, inr, ℕ, zero, suc, ◌+◌, ◌<◌, ◌≤◌, Bool, true, false, cond, List}
use Rattle.std.proofs.Common.{[], ◌∷◌, length, drop, get_or, map, Option, Some, None, is_some, refl, sym, ap, subst, ◌∙◌, arith, Ordering}
use Rattle.std.specs.Prelude.{Contains, codes, count_by}
use Rattle.std.specs.List.{AllPairs}
use Rattle.std.specs.Cmp.Lexicographic.{slice_cmp}
use Rattle.std.specs.Ordering.{is_eq, is_lt, nat_cmp, ordering_reverse}
use Rattle.std.specs.Str.{bytes_eq}
use Rattle.std.specs.declared.cmp.Ordering.TheVariants.{Less, Equal, Greater}
use Rattle.std.proofs.lemmas.Cmp.{nat_list_cmp_total, tied_itself}
use Rattle.std.proofs.lemmas.List.{length-map}
use Rattle.std.proofs.lemmas.List.Elements.{Contains-append_cases, All-contains}
use Rattle.std.proofs.lemmas.Map.Text.{is_eq-slice_cmp}
use Rattle.std.proofs.lemmas.Option.{same_Some}
use Rattle.std.proofs.lemmas.Slice.Eq.{bytes_eq-Decides}
use Rattle.ob_base.specs.declared.id.FieldNo.{FieldNo}
use Rattle.ob_definition.specs.Gathered.{AreWellNamed, DeclaredCheck, Gathered, IsWellNamed}
use Rattle.ob_definition.specs.Members.{Member, check_member, check_members, check_name, count_below, hidden_members, hidden_number, locked_members, members_of, model_at, named, names_of, number_of}
use Rattle.ob_definition.proofs.CallerLemmas.{is_less}
use Rattle.ob_schema.specs.declared.info.Step.{Step}
use Rattle.ob_schema.specs.Strata.{IsMember}
use Rattle.ob_registry.proofs.DelegatedFields.{Contains-to_map, named_some}
use Rattle.ob_registry.proofs.Distinct.{apart_once, once_apart, times}
use Rattle.ob_registry.proofs.ModelRank.{model_among}
use Rattle.ob_registry.proofs.NamedFields.{member_parts}
use Rattle.ob_registry.proofs.NameOrder.{named_there}
use Rattle.ob_registry.proofs.OwnNames.{members_once}
use Rattle.ob_registry.proofs.Counting.{count-cons, count-map, count-weaker, one_more}

-- one field stands at a step
abbrev pub AreSingle : List Gathered → Type 0
AreSingle models = (step : Step) (g h : Gathered) (m n : Member) → IsMember models step g m → IsMember models step h n → m ≡ n

-- ---- counts

-- and more where one passes it alone
count_more : {X : Type 0} (p q : X → Bool) (xs : List X) (x : X) → ((x : X) → p x ≡ true → q x ≡ true) → Contains xs x → p x ≡ false → q x ≡ true → count_by p xs < count_by q xs
count_more p q [] x on (k, low, at) fails passes = absurd (omega arith)
count_more p q (y ∷ xs) x on (zero, low, at) fails passes =
    let a = count-cons p y xs in
    let b = count-cons q y xs in
    let none : cond {A = ℕ} (p y) 1 0 ≡ 0 = ap (λ (t : Bool). cond {A = ℕ} t 1 0) (ap p at ∙ fails) in
    let one : cond {A = ℕ} (q y) 1 0 ≡ 1 = ap (λ (t : Bool). cond {A = ℕ} t 1 0) (ap q at ∙ passes) in
    let rest = count-weaker p q on xs in
    omega arith
count_more p q (y ∷ xs) x on (suc k, low, at) fails passes =
    let a = count-cons p y xs in
    let b = count-cons q y xs in
    let first = one_more (p y) (q y) (on y) in
    let rest = count_more p q xs x on (k, omega arith, at) fails passes in
    omega arith

count_all : {X : Type 0} (xs : List X) → count_by (λ (x : X). true) xs ≡ length xs
count_all [] = refl
count_all {X} (x ∷ xs) = let a = count-cons (λ (y : X). true) x xs in let rest = count_all xs in omega arith

-- ---- names

abbrev below : List ℕ → List ℕ → Bool
below name other = is_lt (slice_cmp nat_cmp other name)

not_below : (name : List ℕ) → below name name ≡ false
not_below name = ap is_lt (tied_itself nat_list_cmp_total name)

name_there : (members : List Member) (m : Member) → Contains members m → Contains (names_of members) m.def.name
name_there members m here = Contains-to_map (λ (x : Member). x.def.name) members m here

-- fewer names are below a lesser name
fewer_below : (members : List Member) (m : Member) (name : List ℕ) → Contains members m → slice_cmp nat_cmp m.def.name name ≡ Less → count_below (names_of members) m.def.name < count_below (names_of members) name
fewer_below members m name here less =
    count_more (below m.def.name) (below name) (names_of members) m.def.name
    (λ other lower. ap is_lt (nat_list_cmp_total.trans other m.def.name name (is_less (slice_cmp nat_cmp other m.def.name) lower) less)) (name_there members m here) (not_below m.def.name) (ap is_lt less)

below_all : (members : List Member) (m : Member) → Contains members m → count_below (names_of members) m.def.name < length members
below_all members m here =
    let few = count_more (below m.def.name) (λ (other : List ℕ). true) (names_of members) m.def.name (λ other lower. refl) (name_there members m here) (not_below m.def.name) refl in
    let all = count_all (names_of members) in
    let size = length-map members (λ (x : Member). x.def.name) in
    omega arith

-- so one count is one name
same_name : (members : List Member) (m n : Member) → Contains members m → Contains members n → count_below (names_of members) m.def.name ≡ count_below (names_of members) n.def.name → m.def.name ≡ n.def.name
same_name members m n here there same = by (slice_cmp nat_cmp m.def.name n.def.name) refl
  where
    by : (o : Ordering) → slice_cmp nat_cmp m.def.name n.def.name ≡ o → m.def.name ≡ n.def.name
    by Less e = absurd (let fewer = fewer_below members m n.def.name here e in omega arith)
    by Equal e = (bytes_eq-Decides m.def.name n.def.name).0 (sym (is_eq-slice_cmp m.def.name n.def.name) ∙ ap is_eq e)
    by Greater e = absurd (let fewer = fewer_below members n m.def.name there (nat_list_cmp_total.antisymm n.def.name m.def.name ∙ ap ordering_reverse e) in omega arith)

-- and, where names are distinct, one field
same_field : (members : List Member) → AllPairs (λ a b. a.def.name ≢ b.def.name) members → (m n : Member) → Contains members m → Contains members n
    → count_below (names_of members) m.def.name ≡ count_below (names_of members) n.def.name → m ≡ n
same_field members apart m n here there same =
    same_Some m n (sym (named_there members apart m here) ∙ ap (named members) (same_name members m n here there same) ∙ named_there members apart n there)

-- ---- conditions

check_same : (a b : List ℕ) → check_name a ≡ check_name b → a ≡ b
check_same a b same = ap (λ (l : List ℕ). drop 6 l) same

checks_apart : (g : Gathered) → IsWellNamed g → AllPairs (λ a b. a.def.name ≢ b.def.name) (check_members g)
checks_apart g well = apart_once (λ (m : Member). m.def.name) (check_members g) once
  where
    name : DeclaredCheck → List ℕ
    name c = check_name c.check.name

    once : (x : List ℕ) → times x (check_members g) ≤ 1
    once x =
        let same : times x (check_members g) ≡ count_by (λ (c : DeclaredCheck). bytes_eq (name c) x) g.checks = count-map (λ (m : Member). bytes_eq m.def.name x) check_member g.checks in
        let few : count_by (λ (c : DeclaredCheck). bytes_eq (name c) x) g.checks ≤ 1 =
        once_apart name x g.checks (λ i j d lt low e. well.checks i j d lt low (check_same (get_or g.checks i d).check.name (get_or g.checks j d).check.name e)) in
        omega arith

named_locked : (checks : List DeclaredCheck) → named (map check_member checks) (codes "locked") ≡ None
named_locked [] = refl
named_locked (c ∷ checks) = named_locked checks

locked_name : (g : Gathered) (o : Option (List ℕ)) (m : Member) → Contains (locked_members g o) m → m.def.name ≡ codes "locked"
locked_name g None m (k, low, at) = absurd (omega arith)
locked_name g (Some text) m (zero, low, at) = ap (λ (x : Member). x.def.name) (sym at)
locked_name g (Some text) m (suc k, low, at) = absurd (omega arith)

one_locked : (g : Gathered) (o : Option (List ℕ)) (m n : Member) → Contains (locked_members g o) m → Contains (locked_members g o) n → m ≡ n
one_locked g None m n (k, low, at) there = absurd (omega arith)
one_locked g (Some text) m n (zero, low, at) (zero, low', at') = sym at ∙ at'
one_locked g (Some text) m n (zero, low, at) (suc k, low', at') = absurd (omega arith)
one_locked g (Some text) m n (suc k, low, at) there = absurd (omega arith)

module _ (models : List Gathered) (g : Gathered) where
  abbrev count : Member → ℕ
  count m = count_below (names_of (members_of models g)) m.def.name

  abbrev check_count : Member → ℕ
  check_count m = count_below (names_of (check_members g)) m.def.name

  named_number : (m : Member) → (number_of models g m.def.name).0 ≡ suc (count m)
  unfolding number_of
  named_number m = refl

  check_number : (m : Member) → Contains (check_members g) m → (hidden_number models g m.def.name).0 ≡ suc (length (members_of models g) + check_count m)
  unfolding hidden_number
  check_number m here =
      let found = named_some (check_members g) m here in
      ap (λ (o : Option Member). suc (length (members_of models g) + cond (is_some o) (check_count m) (length g.checks))) found.1

  locked_number : (m : Member) → Contains (locked_members g g.locked) m → (hidden_number models g m.def.name).0 ≡ suc (length (members_of models g) + length g.checks)
  unfolding hidden_number
  locked_number m here =
      let none : named (check_members g) m.def.name ≡ None = ap (named (check_members g)) (locked_name g g.locked m here) ∙ named_locked g.checks in
      ap (λ (o : Option Member). suc (length (members_of models g) + cond (is_some o) (check_count m) (length g.checks))) none

  behind : (m : Member) → Contains (hidden_members g) m → length (members_of models g) < (hidden_number models g m.def.name).0
  behind m here = elim (Contains-append_cases (check_members g) (locked_members g g.locked) m here) [
    | inl check ↦ let number = check_number m check in omega arith
    | inr locked ↦ let number = locked_number m locked in omega arith
  ]

  not_behind : (m : Member) → Contains (members_of models g) m → (number_of models g m.def.name).0 ≤ length (members_of models g)
  not_behind m here = let number = named_number m in let low = below_all (members_of models g) m here in omega arith

  one_hidden : IsWellNamed g → (m n : Member) → Contains (check_members g) m ⊎ Contains (locked_members g g.locked) m → Contains (check_members g) n ⊎ Contains (locked_members g g.locked) n
      → (hidden_number models g m.def.name).0 ≡ (hidden_number models g n.def.name).0 → m ≡ n
  one_hidden well m n (inl a) (inl b) same =
      let x = check_number m a in let y = check_number n b in same_field (check_members g) (checks_apart g well) m n a b (omega arith)
  one_hidden well m n (inl a) (inr b) same =
      absurd (let x = check_number m a in let y = locked_number n b in let low = below_all (check_members g) m a in let size = length-map g.checks check_member in omega arith)
  one_hidden well m n (inr a) (inl b) same =
      absurd (let x = locked_number m a in let y = check_number n b in let low = below_all (check_members g) n b in let size = length-map g.checks check_member in omega arith)
  one_hidden well m n (inr a) (inr b) same = one_locked g g.locked m n a b

-- ---- all models

module _ (models : List Gathered) (named_well : AreWellNamed models) where
  abbrev IsAt : Step → Gathered → Member → Type 0
  IsAt step g m = (Contains (members_of models g) m × (number_of models g m.def.name ≡ step.field)) ⊎ (Contains (hidden_members g) m × (hidden_number models g m.def.name ≡ step.field))

  well : (step : Step) (g : Gathered) → model_at models step.model.0 ≡ Some g → IsWellNamed g
  well step g known = All-contains IsWellNamed models g named_well.each (model_among models step.model.0 g known)

  pub names_apart : (g : Gathered) → IsWellNamed g → AllPairs (λ a b. a.def.name ≢ b.def.name) (members_of models g)
  names_apart g own = apart_once (λ (m : Member). m.def.name) (members_of models g) (members_once models named_well.each g own)

  same_number : (step : Step) (a b : FieldNo) → a ≡ step.field → b ≡ step.field → a.0 ≡ b.0
  same_number step a b e f = ap (λ (n : FieldNo). n.0) (e ∙ sym f)

  one_at : (step : Step) (g : Gathered) (m n : Member) → IsWellNamed g → IsAt step g m → IsAt step g n → m ≡ n
  one_at step g m n own (inl a) (inl b) =
      let same = same_number step (number_of models g m.def.name) (number_of models g n.def.name) a.1 b.1 in
      let x = named_number models g m in let y = named_number models g n in
      same_field (members_of models g) (names_apart g own) m n a.0 b.0 (omega arith)
  one_at step g m n own (inl a) (inr b) =
      absurd (let same = same_number step (number_of models g m.def.name) (hidden_number models g n.def.name) a.1 b.1 in let x = not_behind models g m a.0 in let y = behind models g n b.0 in omega arith)
  one_at step g m n own (inr a) (inl b) =
      absurd (let same = same_number step (hidden_number models g m.def.name) (number_of models g n.def.name) a.1 b.1 in let x = behind models g m a.0 in let y = not_behind models g n b.0 in omega arith)
  one_at step g m n own (inr a) (inr b) =
      one_hidden models g own m n (Contains-append_cases (check_members g) (locked_members g g.locked) m a.0) (Contains-append_cases (check_members g) (locked_members g g.locked) n b.0)
      (same_number step (hidden_number models g m.def.name) (hidden_number models g n.def.name) a.1 b.1)

  pub single : AreSingle models
  single step g h m n is other =
      let a = member_parts models step g m is in
      let b = member_parts models step h n other in
      let same : h ≡ g = same_Some h g (sym b.0 ∙ a.0) in
      one_at step g m n (well step g a.0) a.1 (subst (λ (x : Gathered). IsAt step x n) same b.1)
