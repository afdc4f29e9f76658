-- Names that have more names below them are above those that have fewer.
use Rattle.std.proofs.Common.{◌≡◌, ℕ, suc, ◌<◌, ◌≤◌, true, Ordering, List, length, refl, ap, ◌∙◌, arith}
use Rattle.std.specs.Prelude.{Contains}
use Rattle.std.specs.Cmp.Lexicographic.{slice_cmp}
use Rattle.std.specs.Ordering.{is_lt, nat_cmp, ordering_reverse}
use Rattle.std.specs.declared.cmp.Ordering.TheVariants.{Less, Equal, Greater}
use Rattle.std.proofs.lemmas.Bool.{false≢true}
use Rattle.std.proofs.lemmas.Cmp.{alike_right, nat_list_cmp_total, tied_itself}
use Rattle.std.proofs.lemmas.List.{length-map}
use Rattle.ob_base.specs.declared.id.FieldNo.{FieldNo}
use Rattle.ob_definition.specs.Gathered.{Gathered}
use Rattle.ob_definition.specs.Members.{Member, count_below, hidden_number, members_of, names_of, number_of}
use Rattle.ob_registry.proofs.Counting.{count-fewer, count-weaker}
use Rattle.ob_schema.proofs.CallerLemmas.{contains-mapped}

abbrev order : List ℕ → List ℕ → Ordering
order a b = slice_cmp nat_cmp a b

less_of : (o : Ordering) → is_lt o ≡ true → o ≡ Less
less_of Less e = refl
less_of Equal e = absurd (false≢true e)
less_of Greater e = absurd (false≢true e)

-- a name above which fewer stand is the lower one
pub rises : (names : List (List ℕ)) (a b : List ℕ) → count_below names a < count_below names b → order a b ≡ Less
rises names a b fewer = by (order a b) refl
  where
    most : ((x : List ℕ) → is_lt (order x b) ≡ true → is_lt (order x a) ≡ true) → ⊥
    most weaker = let le = count-weaker (λ x. is_lt (order x b)) (λ x. is_lt (order x a)) weaker names in omega arith

    by : (o : Ordering) → order a b ≡ o → order a b ≡ Less
    by Less e = e
    by Equal e = absurd (most (λ x lt. ap is_lt (alike_right nat_list_cmp_total a b x e) ∙ lt))
    by Greater e =
        let back : order b a ≡ Less = nat_list_cmp_total.antisymm b a ∙ ap ordering_reverse e in
        absurd (most (λ x lt. ap is_lt (nat_list_cmp_total.trans x b a (less_of (order x b) lt) back)))

abbrev pub field_no : ℕ → FieldNo
field_no k = record { 0 = suc k }

-- the number of a named field is that of its place among the names
pub named_place : (models : List Gathered) (g : Gathered) (m : Member) → Contains (members_of models g) m → (k : ℕ) × (number_of models g m.def.name ≡ field_no k) × (k < length (members_of models g))
unfolding number_of
named_place models g m here =
    let names = names_of (members_of models g) in
    let fewer = count-fewer (λ x. is_lt (order x m.def.name)) names m.def.name (contains-mapped (λ (x : Member). x.def.name) (members_of models g) m here) (ap is_lt (tied_itself nat_list_cmp_total m.def.name)) in
    let size = length-map (members_of models g) (λ (x : Member). x.def.name) in
    (count_below names m.def.name, refl, omega arith)

pub place_rank : (models : List Gathered) (g : Gathered) (name : List ℕ) (k : ℕ) → number_of models g name ≡ field_no k → count_below (names_of (members_of models g)) name ≡ k
unfolding number_of
place_rank models g name k is = let e : suc (count_below (names_of (members_of models g)) name) ≡ suc k = ap (λ (f : FieldNo). f.0) is in omega arith

-- a condition stands behind all named fields
pub hidden_high : (models : List Gathered) (g : Gathered) (name : List ℕ) (k : ℕ) → hidden_number models g name ≡ field_no k → length (members_of models g) ≤ k
unfolding hidden_number
hidden_high models g name k is = let e = ap (λ (f : FieldNo). f.0) is in omega arith
