-- What the search for a name among a model's fields finds.
use Rattle.std.proofs.Common.{◌≡◌, ℕ, zero, suc, ◌-◌, ◌<◌, ◌≤◌, Bool, true, false, cond, ltb, Some, None, option_map, Result}
use Rattle.std.proofs.Common.{List, [], ◌∷◌, map, take, length, get_or, refl, sym, ap, subst, ◌∙◌, arith}
use Rattle.std.specs.Prelude.{option_and_then, slice_get}
use Rattle.std.specs.Str.{bytes_eq}
use Rattle.std.specs.Cmp.Lexicographic.{slice_cmp}
use Rattle.std.specs.List.{AllPairs, position_or_len}
use Rattle.std.specs.List.Sorted.{IsBinarySearchResult, IsSearchInRange}
use Rattle.std.specs.Ordering.{nat_cmp}
use Rattle.std.specs.Result.{result_ok}
use Rattle.std.specs.declared.cmp.Ordering.TheVariants.{Less}
use Rattle.std.proofs.lemmas.Bool.Decides.{nat_tests}
use Rattle.std.proofs.lemmas.List.Folds.{find_at}
use Rattle.std.proofs.lemmas.Option.{slice_get_past}
use Rattle.std.proofs.lemmas.List.{get_or-map, length-map, take-map}
use Rattle.ob_definition.specs.Members.{AreInNameOrder, Member, named}
use Rattle.ob_base.specs.declared.id.FieldNo.{FieldNo}
use Rattle.ob_registry.specs.declared.model.Member.{Member as KeptMember}
use Rattle.ob_registry.specs.declared.model.Model.{Model}
use Rattle.ob_registry.specs.ModelFields.{member_of, named_in, number_in}
use Rattle.ob_schema.specs.Built.{numbered}
use Rattle.ob_registry.proofs.NamedFields.{numbered_less}
use Rattle.ob_registry.proofs.NameOrder.{number_at}
use Rattle.ob_schema.proofs.CallerLemmas.{has_name, order, position-map, searched}

-- the name of a field as the program has it
abbrev pub kept_name : KeptMember → List ℕ
kept_name m = m.def.now.name

kept_order : (members : List KeptMember) → AreInNameOrder (map member_of members) → AllPairs (λ a b. slice_cmp nat_cmp (kept_name a) (kept_name b) ≡ Less) members
kept_order members ordered = λ i j d lt within.
    let inside : j < length (map member_of members) = let size = length-map members member_of in omega arith in
    let below : i < length members = omega arith in
    ap (λ (m : Member). slice_cmp nat_cmp m.def.name (kept_name (get_or members j d))) (sym (get_or-map member_of members i d (member_of d) below))
    ∙ ap (λ (m : Member). slice_cmp nat_cmp (get_or (map member_of members) i (member_of d)).def.name m.def.name) (sym (get_or-map member_of members j d (member_of d) within))
    ∙ ordered i j (member_of d) lt inside

-- the search answers with the place of the field of that name
pub number_searched : (model : Model) (name : List ℕ) (front : List KeptMember) → front ≡ take model.named model.members.items
    → (r : Result ℕ ℕ) → IsSearchInRange r (length front) → IsBinarySearchResult (order kept_name name) front r
    → number_in (named_in model.named model.members.items) name ≡ option_map number_at (result_ok r)
number_searched model name front is r within answer =
    let same : named_in model.named model.members.items ≡ map member_of front = take-map member_of model.named model.members.items ∙ ap (map member_of) (sym is) in
    let ordered : AreInNameOrder (map member_of front) = subst AreInNameOrder same model.ordered in
    ap (λ (l : List Member). number_in l name) same
    ∙ ap (option_map number_at) (position-map (λ m. has_name (λ (x : Member). x.def.name) name m) member_of front ∙ searched kept_name front (kept_order front ordered) name r within answer)

-- the field of a name stands at its number
pub named_by_number : (members : List Member) (name : List ℕ) → named members name ≡ option_and_then (λ number. numbered members number.0) (number_in members name)
named_by_number members name = find_at p members ∙ by (ltb (position_or_len p members) (length members)) refl
  where
    p : Member → Bool
    p m = bytes_eq m.def.name name

    by : (b : Bool) → ltb (position_or_len p members) (length members) ≡ b
        → slice_get members (position_or_len p members) ≡ option_and_then (λ number. numbered members number.0) (option_map number_at (cond b (Some (position_or_len p members)) None))
    by true e = refl
    by false e = slice_get_past members (position_or_len p members) (grind (arith, nat_tests))

slice_get-take : {X : Type 0} (n : ℕ) (xs : List X) (i : ℕ) → i < n → slice_get (take n xs) i ≡ slice_get xs i
slice_get-take zero xs i low = absurd (omega arith)
slice_get-take (suc n) [] i low = refl
slice_get-take (suc n) (x ∷ xs) zero low = refl
slice_get-take (suc n) (x ∷ xs) (suc i) low = slice_get-take n xs i (omega arith)

numbered-take : {X : Type 0} (n : ℕ) (xs : List X) (number : ℕ) → number ≤ n → numbered (take n xs) number ≡ numbered xs number
numbered-take n xs zero within = refl
numbered-take n xs (suc i) within = slice_get-take n xs i (omega arith)

-- so what is read at the number of a name is the field of that name
pub named_read : (fields : List Member) (count : ℕ) (name : List ℕ) (number : FieldNo) (m : Member) → number_in (take count fields) name ≡ Some number → 0 < number.0 → number.0 ≤ count
    → slice_get fields (number.0 - 1) ≡ Some m → named (take count fields) name ≡ Some m
named_read fields count name number m is low within at =
    named_by_number (take count fields) name ∙ ap (option_and_then (λ n. numbered (take count fields) n.0)) is
    ∙ numbered-take count fields number.0 within ∙ sym (numbered_less fields number.0 low) ∙ at
