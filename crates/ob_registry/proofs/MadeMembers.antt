-- A model's own fields by what is made of its keys.
use Rattle.std.proofs.Common.{◌≡◌, ℕ, zero, suc, ◌+◌, ◌<◌, ◌≤◌, Option, Some, None, take, drop, length-append, List, [], ◌∷◌, ◌++◌, map, length, get_or, refl, sym, ap, subst, ◌∙◌, arith}
use Rattle.std.specs.Prelude.{IsSomeAnd, slice_get}
use Rattle.std.specs.List.{AllZip}
use Rattle.std.proofs.lemmas.List.{drop_at, length-map, take_at}
use Rattle.std.proofs.lemmas.Option.{get_or_from_slice_get}
use Rattle.ob_definition.specs.declared.made.Made.{Made}
use Rattle.ob_definition.specs.declared.made.ParentLink.{ParentLink}
use Rattle.ob_definition.specs.Gathered.{Gathered}
use Rattle.ob_definition.specs.Making.{IsMade}
use Rattle.ob_definition.specs.Members.{Member, given_members, link_def, links_of, own_member, own_members}
use Rattle.ob_definition.proofs.CallerLemmas.{map_map, zip_more}
use Rattle.ob_registry.specs.declared.model.Member.{Member as KeptMember}
use Rattle.ob_registry.specs.ModelFields.{hidden_in, member_of, members_in, named_in}

pub own-made : (models : List Gathered) (g : Gathered) (made : Made) → IsMade models g made → given_members g ++ map (λ l. own_member g.entry l.field) made.links.items ≡ own_members models g
own-made models g made is =
    let own = own_member g.entry in
    ap (λ (l : List Member). given_members g ++ l)
    (map_map (λ (l : ParentLink). l.field) own made.links.items ∙ ap (map own) is.links.fields ∙ sym (map_map link_def own (links_of models g)))

-- what stands at one place of two lists
pub zip_at : {A B : Type 0} (R : A → B → Type 0) (xs : List A) (ys : List B) (i : ℕ) (d : A) (e : B) → AllZip R xs ys → i < length xs → R (get_or xs i d) (get_or ys i e)
zip_at R [] ys i d e all low = absurd (omega arith)
zip_at R (x ∷ xs) [] i d e all low = absurd all
zip_at R (x ∷ xs) (y ∷ ys) zero d e all low = all.0
zip_at R (x ∷ xs) (y ∷ ys) (suc i) d e all low = zip_at R xs ys i d e all.1 (omega arith)

pub made-at : (models : List Gathered) (made : List Made) (place : ℕ) (g : Gathered) (m : Made) → AllZip (IsMade models) models made → place < length models → g ≡ get_or models place g → m ≡ get_or made place m → IsMade models g m
made-at models made place g m all low at is =
    subst (λ (u : Gathered). IsMade models u m) (sym at) (subst (λ (v : Made). IsMade models (get_or models place g) v) (sym is) (zip_at (IsMade models) models made place g m all low))

-- what stands at one place, and one place more
pub some_from : {X : Type 0} (o : Option X) (Q : X → Type 0) → IsSomeAnd o Q → (x : X) × (o ≡ Some x) × Q x
some_from None Q some = absurd some
some_from (Some x) Q some = (x, refl, some)

pub some_and : {X : Type 0} (Q : X → Type 0) (o : Option X) (x : X) → o ≡ Some x → Q x → IsSomeAnd o Q
some_and {X} Q o x is q = subst (λ (p : Option X). IsSomeAnd p Q) (sym is) q

pub some_at : {X : Type 0} (Q : X → Type 0) (o : Option X) (x : X) → o ≡ Some x → IsSomeAnd o Q → Q x
some_at {X} Q o x is some = subst (λ (p : Option X). IsSomeAnd p Q) is some

pub zip_some : {A B : Type 0} (R : A → B → Type 0) (xs : List A) (ys : List B) (i : ℕ) (y : B) → AllZip R xs ys → i < length xs → y ≡ get_or ys i y → IsSomeAnd (slice_get xs i) (λ x. R x y)
zip_some R [] ys i y all low is = absurd (omega arith)
zip_some R (x ∷ xs) [] i y all low is = absurd all
zip_some {A} {B} R (x ∷ xs) (z ∷ ys) zero y all low is = subst (λ (u : B). R x u) (sym is) all.0
zip_some R (x ∷ xs) (z ∷ ys) (suc i) y all low is = zip_some R xs ys i y all.1 (omega arith) is

pub zip_pushed : {A B : Type 0} (R : A → B → Type 0) (xs : List A) (i : ℕ) (ys : List B) (y : B) → i < length xs → AllZip R (take i xs) ys → IsSomeAnd (slice_get xs i) (λ x. R x y) → AllZip R (take (i + 1) xs) (ys ++ y ∷ [])
zip_pushed R xs i ys y low all some =
    let there = some_from (slice_get xs i) (λ x. R x y) some in
    let x = there.0 in
    zip_more R xs i x ys y low (sym (get_or_from_slice_get xs i x x there.1)) all there.2

-- the named fields stand before the conditions
pub named-front : (items sorted : List KeptMember) (n : ℕ) (more : List Member) → n ≡ length sorted → members_in items ≡ members_in sorted ++ more → named_in n items ≡ members_in sorted
named-front items sorted n more many is = ap (take n) is ∙ take_at (members_in sorted) more n (length-map sorted member_of ∙ sym many)

pub hidden-back : (items sorted : List KeptMember) (n : ℕ) (more : List Member) → n ≡ length sorted → members_in items ≡ members_in sorted ++ more → hidden_in n items ≡ more
hidden-back items sorted n more many is = ap (drop n) is ∙ drop_at (members_in sorted) more n (length-map sorted member_of ∙ sym many)

pub named-within : (items sorted : List KeptMember) (n : ℕ) (more : List Member) → n ≡ length sorted → members_in items ≡ members_in sorted ++ more → n ≤ length items
named-within items sorted n more many is =
    let all : length (members_in items) ≡ length items = length-map items member_of in
    let first : length (members_in sorted) ≡ length sorted = length-map sorted member_of in
    let both : length (members_in items) ≡ length (members_in sorted) + length more = ap (λ (l : List Member). length l) is ∙ length-append (members_in sorted) more in
    omega arith
