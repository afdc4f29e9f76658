-- The fields of a model, as they are made in turn: the named ones, and then the hidden ones.
use Rattle.std.proofs.Common.{◌≡◌, ℕ, zero, suc, ◌+◌, ◌<◌, ◌≤◌, Option, Some, List, [], ◌∷◌, ◌++◌, length, drop, inl, inr, refl, sym, ap, subst, ◌∙◌, append_assoc, append-nil, length-append, arith, rules}
use Rattle.std.specs.Prelude.{All, IsSomeAnd, option_map, slice_get}
use Rattle.std.proofs.lemmas.Bool.{cases_lt}
use Rattle.std.proofs.lemmas.List.Elements.{All-push}
use Rattle.std.proofs.lemmas.Option.{same_Some, slice_get-map}
use Rattle.ob_base.specs.declared.id.FieldNo.{FieldNo}
use Rattle.ob_base.specs.declared.id.ModelNo.{ModelNo}
use Rattle.ob_definition.specs.Gathered.{Gathered}
use Rattle.ob_definition.specs.Members.{Member}
use Rattle.ob_schema.specs.declared.info.FieldInfo.{FieldInfo}
use Rattle.ob_registry.specs.declared.formulas.DraftFormula.{DraftFormula}
use Rattle.ob_registry.specs.declared.model.Member.{Member as KeptMember}
use Rattle.ob_registry.specs.declared.model.Model.{Model as KeptModel}
use Rattle.ob_registry.specs.Building.{ArePlaced, HasNativeDefault, IsPlaced}
use Rattle.ob_schema.specs.Built.{IsFieldOf}
use Rattle.ob_registry.specs.ModelFields.{member_of, members_in}

pub slice_get-front : {X : Type 0} (xs ys : List X) (k : ℕ) → k < length xs → slice_get (xs ++ ys) k ≡ slice_get xs k
slice_get-front [] ys k within = absurd (omega arith)
slice_get-front (x ∷ xs) ys zero within = refl
slice_get-front (x ∷ xs) ys (suc k) within = slice_get-front xs ys k (omega arith)

pub slice_get-last : {X : Type 0} (xs : List X) (x : X) → slice_get (xs ++ x ∷ []) (length xs) ≡ Some x
slice_get-last [] x = refl
slice_get-last (y ∷ xs) x = slice_get-last xs x

pub slice_get-drop : {X : Type 0} (n : ℕ) (xs : List X) (x : X) (rest : List X) → drop n xs ≡ x ∷ rest → slice_get xs n ≡ Some x
slice_get-drop n [] x rest e = absurd (by n e)
  where
    by : (n : ℕ) → drop n [] ≡ x ∷ rest → ⊥
    by zero e = cc
    by (suc n) e = cc
slice_get-drop zero (y ∷ xs) x rest e = let same : y ≡ x = cc in ap Some same
slice_get-drop (suc n) (y ∷ xs) x rest e = slice_get-drop n xs x rest e

pub drop-behind : {X : Type 0} (n : ℕ) (xs : List X) (x : X) (rest : List X) → drop n xs ≡ x ∷ rest → drop (n + 1) xs ≡ rest
drop-behind n [] x rest e = absurd (by n e)
  where
    by : (n : ℕ) → drop n [] ≡ x ∷ rest → ⊥
    by zero e = cc
    by (suc n) e = cc
drop-behind zero (y ∷ xs) x rest e = let same : xs ≡ rest = cc in same
drop-behind (suc n) (y ∷ xs) x rest e = let next : suc n + 1 ≡ suc (n + 1) = omega arith in rw next (drop-behind n xs x rest e)

pub drop-past : {X : Type 0} (n : ℕ) (xs : List X) → drop n xs ≡ [] → length xs ≤ n
drop-past n [] e = omega arith
drop-past zero (y ∷ xs) e = absurd (let f : y ∷ xs ≡ [] = e in cc)
drop-past (suc n) (y ∷ xs) e = let rest = drop-past n xs e in omega arith

-- each of the first so many fields of a model, by number
abbrev pub AreFieldsUpto : List Gathered → KeptModel → List (Option DraftFormula) → List FieldInfo → ℕ → Type 0
AreFieldsUpto models model formulas infos place =
    (g : Gathered) (number : ModelNo) → ArePlaced models model formulas g number → (k : ℕ) (m : Member) → k < place → slice_get (members_in model.members.items) k ≡ Some m
    → IsSomeAnd (slice_get infos k) (IsFieldOf (record { models = models; number = number; member = m }) g (record { 0 = suc k }))

pub record AreMadeUpto (models : List Gathered) (model : KeptModel) (formulas : List (Option DraftFormula)) (fields hidden : List FieldInfo) (place : ℕ) : Type 0 where
  pub count : length (fields ++ hidden) ≡ place
  pub low : place ≤ model.named → hidden ≡ []
  pub high : model.named ≤ place → length fields ≡ model.named
  pub each : AreFieldsUpto models model formulas (fields ++ hidden) place
  pub native : All HasNativeDefault (fields ++ hidden)

some_found : {X : Type 0} (o : Option X) (x : X) (P : X → Type 0) → o ≡ Some x → P x → IsSomeAnd o P
some_found {X = X} o x P e holds = let Q : Option X → Type 0 = λ o. IsSomeAnd o P in subst Q (sym e) holds

module _ (models : List Gathered) (model : KeptModel) (formulas : List (Option DraftFormula)) where
  -- one field more
  fields_more : (infos : List FieldInfo) (place : ℕ) (member : KeptMember) (formula : Option DraftFormula) (info : FieldInfo) → length infos ≡ place → AreFieldsUpto models model formulas infos place
      → slice_get model.members.items place ≡ Some member → slice_get formulas place ≡ Some formula
      → ((g : Gathered) (number : ModelNo) (field : FieldNo) → IsPlaced models model (member_of member) formula g number field
      → IsFieldOf (record { models = models; number = number; member = member_of member }) g field info)
      → AreFieldsUpto models model formulas (infos ++ info ∷ []) (place + 1)
  fields_more infos place member formula info count each at given of g number placed k m within is = elim (cases_lt k place) [
    | inl before ↦ subst (λ (o : Option FieldInfo). IsSomeAnd o (IsFieldOf (record { models = models; number = number; member = m }) g (record { 0 = suc k })))
        (sym (slice_get-front infos (info ∷ []) k (omega arith))) (each g number placed k m before is)
    | inr after ↦
        (let here : k ≡ place = omega arith in
        let own : slice_get (members_in model.members.items) place ≡ Some (member_of member) = slice_get-map member_of model.members.items place ∙ ap (λ (o : Option KeptMember). option_map member_of o) at in
        let same : m ≡ member_of member = same_Some m (member_of member) (sym is ∙ ap (slice_get (members_in model.members.items)) here ∙ own) in
        let last : slice_get (infos ++ info ∷ []) k ≡ Some info = ap (slice_get (infos ++ info ∷ [])) (here ∙ sym count) ∙ slice_get-last infos info in
        let there : slice_get formulas k ≡ Some formula = ap (slice_get formulas) here ∙ given in
        let is_placed : IsPlaced models model m formula g number (record { 0 = suc k }) = placed k m formula is there in
        some_found (slice_get (infos ++ info ∷ []) k) info (IsFieldOf (record { models = models; number = number; member = m }) g (record { 0 = suc k })) last
        (subst (λ (n : Member). IsPlaced models model n formula g number (record { 0 = suc k }) → IsFieldOf (record { models = models; number = number; member = n }) g (record { 0 = suc k }) info) (sym same)
        (of g number (record { 0 = suc k })) is_placed))
  ]

  pub none_made : AreMadeUpto models model formulas [] [] 0
  none_made = record {
    count = refl;
    low = λ _. refl;
    high = λ le. omega arith;
    each = λ g number placed k m within is. absurd (omega arith);
    native = λ k d within. absurd (omega arith);
  }

  module _ (fields hidden : List FieldInfo) (place : ℕ) (made : AreMadeUpto models model formulas fields hidden place)
      (member : KeptMember) (formula : Option DraftFormula) (info : FieldInfo) (at : slice_get model.members.items place ≡ Some member) (given : slice_get formulas place ≡ Some formula)
      (of : (g : Gathered) (number : ModelNo) (field : FieldNo) → IsPlaced models model (member_of member) formula g number field
      → IsFieldOf (record { models = models; number = number; member = member_of member }) g field info) (native : HasNativeDefault info) where
    grown : (new : List FieldInfo) → new ≡ (fields ++ hidden) ++ info ∷ [] → (length new ≡ place + 1) × AreFieldsUpto models model formulas new (place + 1) × All HasNativeDefault new
    grown new is =
        let one = length-append (fields ++ hidden) (info ∷ []) in
        let P : List FieldInfo → Type 0 = λ l. (length l ≡ place + 1) × AreFieldsUpto models model formulas l (place + 1) × All HasNativeDefault l in
        let count = made.count in
        let longer : length ((fields ++ hidden) ++ info ∷ []) ≡ place + 1 = one ∙ ap (λ (n : ℕ). n + 1) count in
        subst P (sym is) (longer, fields_more (fields ++ hidden) place member formula info made.count made.each at given of, All-push HasNativeDefault (fields ++ hidden) info made.native native)

    -- a named one more
    pub named_made : place < model.named → AreMadeUpto models model formulas (fields ++ info ∷ []) hidden (place + 1)
    named_made under =
        let none : hidden ≡ [] = made.low (omega arith) in
        let whole : (fields ++ info ∷ []) ++ hidden ≡ (fields ++ hidden) ++ info ∷ [] =
        ap (λ (l : List FieldInfo). (fields ++ info ∷ []) ++ l) none ∙ append-nil (fields ++ info ∷ []) ∙ ap (λ (l : List FieldInfo). l ++ info ∷ []) (sym (append-nil fields) ∙ ap (λ (l : List FieldInfo). fields ++ l) (sym none)) in
        let all = grown ((fields ++ info ∷ []) ++ hidden) whole in
        let count = made.count in
        let short : length (fields ++ hidden) ≡ length fields = ap (λ (l : List FieldInfo). length (fields ++ l)) none ∙ ap length (append-nil fields) in
        let one : length (fields ++ info ∷ []) ≡ length fields + 1 = length-append fields (info ∷ []) in
        record { count = all.0; low = λ le. none; high = λ le. omega arith; each = all.1; native = all.2 }

    -- a hidden one more
    pub hidden_made : model.named ≤ place → AreMadeUpto models model formulas fields (hidden ++ info ∷ []) (place + 1)
    hidden_made over =
        let whole : fields ++ (hidden ++ info ∷ []) ≡ (fields ++ hidden) ++ info ∷ [] = search (rules, append_assoc) in
        let all = grown (fields ++ (hidden ++ info ∷ [])) whole in
        record { count = all.0; low = λ le. absurd (omega arith); high = λ le. made.high over; each = all.1; native = all.2 }
