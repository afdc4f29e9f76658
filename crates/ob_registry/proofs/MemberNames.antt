-- The names of a model's fields, as fields are added.
use Rattle.std.proofs.Common.{◌≡◌, ℕ, Bool, true, false, cond, not, ◌||◌, is_some, Some, None, List, [], ◌∷◌, ◌++◌, map, refl, sym, ap, ◌∙◌, ◌<◌, ◌≢◌, append-nil, arith, length, get_or, take}
use Rattle.std.specs.BTreeSet.{BTreeSet, contains_text}
use Rattle.std.specs.List.{All, AllPairs, filter, find}
use Rattle.std.specs.Option.{is_none}
use Rattle.std.specs.Str.{bytes_eq}
use Rattle.std.specs.declared.alloc.Global.{Global}
use Rattle.std.specs.declared.string.String.{String}
use Rattle.std.proofs.lemmas.Bool.{false_from_ne_true}
use Rattle.std.proofs.lemmas.List.{get_or-map, get_or-take, length-map, length-take-le, map-append, take-map}
use Rattle.std.proofs.lemmas.List.Elements.{All-filter, All-head, All-map, All-tail, filter-append}
use Rattle.std.proofs.lemmas.Slice.Eq.{bytes_eq-Decides}
use Rattle.ob_definition.specs.declared.definition.Inherits.{Inherits}
use Rattle.ob_definition.specs.Definitions.{is_automatic}
use Rattle.ob_definition.specs.Members.{Member, delegated_member, named}
use Rattle.ob_registry.specs.declared.model.Member.{Member as KeptMember}
use Rattle.ob_registry.specs.ModelFields.{member_of, members_in}
use Rattle.ob_registry.specs.Modelling.{AreMemberNames, delegated_beside}

-- whether one is found among two lists
pub found-append : {X : Type 0} (p : X → Bool) (xs ys : List X) → is_some (find p (xs ++ ys)) ≡ is_some (find p xs) || is_some (find p ys)
found-append p [] ys = refl
found-append p (x ∷ xs) ys = by (p x) (found-append p xs ys)
  where
    by : (b : Bool) → is_some (find p (xs ++ ys)) ≡ is_some (find p xs) || is_some (find p ys) → is_some (cond b (Some x) (find p (xs ++ ys))) ≡ is_some (cond b (Some x) (find p xs)) || is_some (find p ys)
    by true rest = refl
    by false rest = rest

-- one name more
pub AreMemberNames-push : (names new : BTreeSet (String Global)) (members : List Member) (m : Member) → AreMemberNames names members
    → ((name : List ℕ) → contains_text new name ≡ cond (bytes_eq m.def.name name) true (contains_text names name)) → AreMemberNames new (members ++ m ∷ [])
AreMemberNames-push names new members m are updates name =
    updates name ∙ ap (λ (b : Bool). cond (bytes_eq m.def.name name) true b) (are name) ∙ by (bytes_eq m.def.name name) (is_some (named members name)) ∙ sym (found-append (λ f. bytes_eq f.def.name name) members (m ∷ []))
  where
    by : (b t : Bool) → cond b true t ≡ t || is_some (cond b (Some m) None)
    by true true = refl
    by true false = refl
    by false true = refl
    by false false = refl

-- one field more of a parent
pub delegated-push : (n : ℕ) (i : Inherits) (parent : List Member) (m : Member) (beside : List Member) → delegated_beside n i (parent ++ m ∷ []) beside
    ≡ delegated_beside n i parent beside ++ cond (not (is_automatic m.def.name)) (cond (is_none (named beside m.def.name)) (delegated_member n i m ∷ []) []) []
delegated-push n i parent m beside =
    ap (λ (l : List Member). filter free (map (delegated_member n i) l)) (filter-append plain parent (m ∷ []))
    ∙ ap (filter free) (map-append (delegated_member n i) (filter plain parent) (filter plain (m ∷ [])))
    ∙ filter-append free (map (delegated_member n i) (filter plain parent)) (map (delegated_member n i) (filter plain (m ∷ [])))
    ∙ ap (λ (l : List Member). delegated_beside n i parent beside ++ l) (by (not (is_automatic m.def.name)))
  where
    plain : Member → Bool
    plain f = not (is_automatic f.def.name)

    free : Member → Bool
    free f = is_none (named beside f.def.name)

    by : (b : Bool) → filter free (map (delegated_member n i) (cond b (m ∷ []) [])) ≡ cond b (cond (is_none (named beside m.def.name)) (delegated_member n i m ∷ []) []) []
    by true = refl
    by false = refl

-- a field that isn't delegated adds none
pub delegated-skip : (n : ℕ) (i : Inherits) (parent : List Member) (m : Member) (beside : List Member) (b t : Bool) → is_automatic m.def.name ≡ b → is_some (named beside m.def.name) ≡ t → b || t ≡ true
    → delegated_beside n i (parent ++ m ∷ []) beside ≡ delegated_beside n i parent beside
delegated-skip n i parent m beside b t automatic taken either =
    delegated-push n i parent m beside
    ∙ ap (λ (x : Bool). before ++ cond (not x) (cond (is_none (named beside m.def.name)) (delegated_member n i m ∷ []) []) []) automatic
    ∙ ap (λ (x : Bool). before ++ cond (not b) (cond (not x) (delegated_member n i m ∷ []) []) []) taken
    ∙ ap (λ (l : List Member). before ++ l) (by b t either)
    ∙ append-nil before
  where
    before : List Member
    before = delegated_beside n i parent beside

    by : (b t : Bool) → b || t ≡ true → cond (not b) (cond (not t) (delegated_member n i m ∷ []) []) [] ≡ []
    by true t either = refl
    by false true either = refl
    by false false either = cc

-- one that is delegated
pub delegated-one : (n : ℕ) (i : Inherits) (parent : List Member) (m : Member) (beside : List Member) → is_automatic m.def.name ≡ false → is_some (named beside m.def.name) ≡ false
    → delegated_beside n i (parent ++ m ∷ []) beside ≡ delegated_beside n i parent beside ++ delegated_member n i m ∷ []
delegated-one n i parent m beside plain free =
    delegated-push n i parent m beside
    ∙ ap (λ (x : Bool). before ++ cond (not x) (cond (is_none (named beside m.def.name)) (delegated_member n i m ∷ []) []) []) plain
    ∙ ap (λ (x : Bool). before ++ cond (not x) (delegated_member n i m ∷ []) []) free
  where
    before : List Member
    before = delegated_beside n i parent beside

-- a name that none of some fields has
pub none_named : (x : List ℕ) (members : List Member) → All (λ m. m.def.name ≢ x) members → is_some (named members x) ≡ false
none_named x [] other = refl
none_named x (m ∷ members) other =
    by (bytes_eq m.def.name x) (false_from_ne_true (bytes_eq m.def.name x) (λ e. All-head (λ f. f.def.name ≢ x) m members other ((bytes_eq-Decides m.def.name x).0 e))) (none_named x members (All-tail (λ f. f.def.name ≢ x) m members other))
  where
    by : (b : Bool) → b ≡ false → is_some (named members x) ≡ false → is_some (cond b (Some m) (named members x)) ≡ false
    by true e rest = absurd (let f : ◌≡◌ {A = Bool} true false = e in cc)
    by false e rest = rest

-- none of the fields that a parent delegates has it either
pub none_delegated : (n : ℕ) (i : Inherits) (parent beside : List Member) (x : List ℕ) → All (λ m. m.def.name ≢ x) parent → is_some (named (delegated_beside n i parent beside) x) ≡ false
none_delegated n i parent beside x other =
    let plain = λ (m : Member). not (is_automatic m.def.name) in
    let free = λ (m : Member). is_none (named beside m.def.name) in
    let R = λ (m : Member). m.def.name ≢ x in
    none_named x (delegated_beside n i parent beside) (All-filter free R (map (delegated_member n i) (filter plain parent)) (All-map R (delegated_member n i) (filter plain parent) (All-filter plain R parent other)))

-- of fields with distinct names, none before another has its name
pub apart-front : (xs : List KeptMember) (i : ℕ) (m : KeptMember) → i < length xs → m ≡ get_or xs i m → AllPairs (λ a b. a.def.name ≢ b.def.name) (members_in xs) → All (λ f. f.def.name ≢ m.def.now.name) (members_in (take i xs))
apart-front xs i m within is distinct = λ k d low.
    let all = members_in xs in
    let size : length all ≡ length xs = length-map xs member_of in
    let front : length (members_in (take i xs)) ≡ length (take i xs) = length-map (take i xs) member_of in
    let many : length (take i xs) ≡ i = length-take-le i xs (omega arith) in
    let before : k < i = omega arith in
    let here : get_or (members_in (take i xs)) k d ≡ get_or all k d = ap (λ (l : List Member). get_or l k d) (sym (take-map member_of i xs)) ∙ get_or-take i all k d before in
    let there : get_or all i d ≡ member_of m = get_or-map member_of xs i m d within ∙ ap member_of (sym is) in
    let name = λ (f : Member). f.def.name in
    λ e. distinct k i d before (omega arith) (ap name (sym here) ∙ e ∙ ap name (sym there))

-- a name is taken among fields with those that a parent delegates, where it is among the fields
pub taken_beside : (n : ℕ) (i : Inherits) (parent beside : List Member) (x : List ℕ) → All (λ m. m.def.name ≢ x) parent → is_some (named (beside ++ delegated_beside n i parent beside) x) ≡ is_some (named beside x)
taken_beside n i parent beside x other =
    found-append (λ m. bytes_eq m.def.name x) beside (delegated_beside n i parent beside)
    ∙ ap (λ (b : Bool). is_some (named beside x) || b) (none_delegated n i parent beside x other)
    ∙ by (is_some (named beside x))
  where
    by : (b : Bool) → b || false ≡ b
    by true = refl
    by false = refl
