-- Copies of checks in turn: the name of the next is free.
use Rattle.std.proofs.Common.{◌≡◌, ◌≢◌, ℕ, ◌<◌, false, List, length, map, get_or, take, sym, ap, subst, ◌∙◌, arith}
use Rattle.std.specs.List.{All}
use Rattle.std.specs.Str.{bytes_eq}
use Rattle.std.proofs.lemmas.Bool.{false_from_ne_true}
use Rattle.std.proofs.lemmas.List.{get_or-take, get_or_default, length-take-le}
use Rattle.std.proofs.lemmas.List.Elements.{All-map}
use Rattle.std.proofs.lemmas.List.Folds.{list_any_none}
use Rattle.std.proofs.lemmas.Slice.Eq.{bytes_eq-Decides}
use Rattle.ob_definition.specs.declared.by_name.CheckEntry.{CheckEntry}
use Rattle.ob_definition.specs.ByName.{AreApart, declared_checks}
use Rattle.ob_definition.specs.Gathered.{DeclaredCheck, check_at, is_check}
use Rattle.ob_definition.proofs.WellNamed.{pairs-unmap}

-- the checks before one have other names
others_before : (items : List CheckEntry) (i : ℕ) (e : CheckEntry) → AreApart (declared_checks items) → i < length items → e ≡ get_or items i e
    → All (λ (k : CheckEntry). bytes_eq k.check.now.name e.check.now.name ≡ false) (take i items)
others_before items i e apart within is k d low =
    let size : length (take i items) ≡ i = length-take-le i items (omega (arith, within)) in
    let early : k < i = omega (arith, low, size) in
    let pairs = pairs-unmap (λ (a b : DeclaredCheck). a.check.name ≢ b.check.name) (λ (c : CheckEntry). check_at c.entry c.check.now) items apart in
    let here : get_or (take i items) k d ≡ get_or items k d = get_or-take i items k d early in
    let next : e ≡ get_or items i d = is ∙ get_or_default items i e d within in
    false_from_ne_true (bytes_eq (get_or (take i items) k d).check.now.name e.check.now.name)
    (λ same. pairs k i d early within
    (ap (λ (c : CheckEntry). c.check.now.name) (sym here) ∙ (bytes_eq-Decides (get_or (take i items) k d).check.now.name e.check.now.name).0 same ∙ ap (λ (c : CheckEntry). c.check.now.name) next))

pub copy-free : (n : ℕ) (items : List CheckEntry) (i : ℕ) (e : CheckEntry) (copy checks : List DeclaredCheck) → declared_checks items ≡ checks → AreApart checks → i < length items → e ≡ get_or items i e
    → copy ≡ map (λ (k : DeclaredCheck). check_at n k.check) (declared_checks (take i items)) → is_check copy e.check.now.name ≡ false
copy-free n items i e copy checks same apart within is copies =
    let name = e.check.now.name in
    let own : AreApart (declared_checks items) = subst AreApart (sym same) apart in
    let free = λ (k : DeclaredCheck). bytes_eq k.check.name name ≡ false in
    let all = All-map (λ (k : DeclaredCheck). free (check_at n k.check)) (λ (c : CheckEntry). check_at c.entry c.check.now) (take i items) (others_before items i e own within is) in
    ap (λ (l : List DeclaredCheck). is_check l name) copies
    ∙ list_any_none (λ (k : DeclaredCheck). bytes_eq k.check.name name) (map (λ (k : DeclaredCheck). check_at n k.check) (declared_checks (take i items)))
    (All-map free (λ (k : DeclaredCheck). check_at n k.check) (declared_checks (take i items)) all)
