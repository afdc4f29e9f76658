-- Rows that are gone and named still, relation by relation.
use Rattle.std.proofs.Common.{◌≡◌, ◌⊎◌, ◌↔◌, ◌<◌, ◌≤◌, ◌+◌, ◌==◌, eq-eqb, eqb-true, inl, inr, ℕ, suc, Bool, true, false, List, [], ◌∷◌, ◌++◌, get_or, length, take, Some, refl, sym, ap, subst, ◌∙◌, arith}
use Rattle.std.specs.Prelude.{Any, Contains, IsSomeAnd}
use Rattle.std.proofs.Math.Logic.{∥∥₁_elim}
use Rattle.std.proofs.lemmas.Bool.{false≢true}
use Rattle.std.proofs.lemmas.List.{take_all, take_more}
use Rattle.std.proofs.lemmas.List.Elements.{Contains-append_left, Contains-push, Contains-push_cases}
use Rattle.ob_base.specs.Limits.{max_models}
use Rattle.ob_base.specs.declared.id.Cell.{Cell}
use Rattle.ob_base.specs.declared.id.FieldNo.{FieldNo}
use Rattle.ob_base.specs.declared.id.ModelNo.{ModelNo}
use Rattle.ob_base.specs.declared.id.RecId.{RecId}
use Rattle.ob_base.specs.declared.id.RowKey.{RowKey}
use Rattle.ob_base.specs.declared.value.Value.{Value}
use Rattle.ob_expr.specs.Reads.{IsAmong}
use Rattle.ob_schema.proofs.CallerLemmas.{Any-is, Any-none, contains-cases, contains-first, contains-later, contains-none}
use Rattle.ob_schema.specs.Fields.{is_plain_kept}
use Rattle.ob_schema.specs.Links.{Sides}
use Rattle.ob_schema.specs.Models.{FieldHas, IsRegistry, field_at, model_at}
use Rattle.ob_schema.specs.Plain.{names, naming, plain_at}
use Rattle.ob_schema.specs.Tables.{kept_in, row_at}
use Rattle.ob_schema.specs.declared.info.FieldInfo.{FieldInfo}
use Rattle.ob_schema.specs.declared.info.ModelInfo.{ModelInfo}
use Rattle.ob_sound.specs.EditsBreak.{IsGone, NamesGone}
use Rattle.ob_sound.specs.Touched.{TouchesOnly}
use Rattle.ob_tables.proofs.CallerLemmas.{naming-there, not_there, tell_and, there_is, told_and}
use Rattle.ob_change.specs.Testing.{HoldsOne, IsHeldBy}
use Rattle.ob_change.proofs.KeptCells.{kept-named, kept-there, model-of-field, numbered-place}
use Rattle.ob_change.proofs.Turns.{NoneBelow}

-- ---- those that are chosen of a list

-- a list has those of the first of another that are such
abbrev pub Chosen : {X : Type 0} → (X → Type 0) → List X → ℕ → List X → Type 0
Chosen {X} P xs n chosen = (x : X) → Contains chosen x ↔ (P x × Contains (take n xs) x)

module _ {X : Type 0} (P : X → Type 0) (xs : List X) where
  module _ (i : ℕ) (d : X) (low : i < length xs) (old : List X) (so_far : Chosen P xs i old) where
    more : take (i + 1) xs ≡ take i xs ++ get_or xs i d ∷ []
    more = take_more xs i d low

    earlier : (x : X) → Contains (take i xs) x → Contains (take (i + 1) xs) x
    earlier x has = subst (λ (l : List X). Contains l x) (sym more) (Contains-append_left (take i xs) (get_or xs i d ∷ []) x has)

    cases : (x : X) → Contains (take (i + 1) xs) x → Contains (take i xs) x ⊎ (get_or xs i d ≡ x)
    cases x has = Contains-push_cases (take i xs) (get_or xs i d) x (subst (λ (l : List X). Contains l x) more has)

    pub chosen-more : (new : List X) → new ≡ old ++ get_or xs i d ∷ [] → P (get_or xs i d) → Chosen P xs (i + 1) new
    chosen-more new is here x = (
      λ has. elim (Contains-push_cases old (get_or xs i d) x (subst (λ (l : List X). Contains l x) is has)) [
        | inl had ↦ (let both = (so_far x).0 had in (both.0, earlier x both.1))
        | inr same ↦ (subst P same here, subst (λ (l : List X). Contains l x) (sym more) (subst (λ (y : X). Contains (take i xs ++ get_or xs i d ∷ []) y) same (Contains-push (take i xs) (get_or xs i d))))
      ],
      λ both. subst (λ (l : List X). Contains l x) (sym is) (elim (cases x both.1) [
        | inl had ↦ Contains-append_left old (get_or xs i d ∷ []) x ((so_far x).1 (both.0, had))
        | inr same ↦ subst (λ (y : X). Contains (old ++ get_or xs i d ∷ []) y) same (Contains-push old (get_or xs i d))
      ]),
    )

    pub chosen-passed : (P (get_or xs i d) → ⊥) → Chosen P xs (i + 1) old
    chosen-passed not_it x = (
      λ has. let both = (so_far x).0 has in (both.0, earlier x both.1),
      λ both. elim (cases x both.1) [ inl had ↦ (so_far x).1 (both.0, had) | inr same ↦ absurd (not_it (subst P (sym same) both.0)) ],
    )

  pub chosen-all : (i : ℕ) (chosen : List X) → length xs ≤ i → Chosen P xs i chosen → ((x : X) → P x → Contains xs x) → (x : X) → Contains chosen x ↔ P x
  chosen-all i chosen end all whole x =
      let told = subst (λ (l : List X). Contains chosen x ↔ (P x × Contains l x)) (take_all i xs end) (all x) in (λ has. (told.0 has).0, λ is. told.1 (is, whole x is))

-- ---- rows that are gone

-- two rows are one, or two
same_key : (a b : RowKey) (x y : Bool) → (a.model.0 == b.model.0) ≡ x → (a.id.0 == b.id.0) ≡ y → (a ≡ b) ⊎ (a ≡ b → ⊥)
same_key a b true true model id = inl (λ i. record { model = record { 0 = eqb-true a.model.0 b.model.0 model i }; id = record { 0 = eqb-true a.id.0 b.id.0 id i } })
same_key a b true false model id = inr (λ same. false≢true (sym id ∙ eq-eqb a.id.0 b.id.0 (ap (λ (k : RowKey). k.id.0) same)))
same_key a b false y model id = inr (λ same. false≢true (sym model ∙ eq-eqb a.model.0 b.model.0 (ap (λ (k : RowKey). k.model.0) same)))

-- a row is one of a list, or it isn't
among_or_not : (keys : List RowKey) (key : RowKey) → Contains keys key ⊎ (Contains keys key → ⊥)
among_or_not [] key = inr (contains-none key)
among_or_not (first ∷ keys) key = by (same_key first key (first.model.0 == key.model.0) (first.id.0 == key.id.0) refl refl) (among_or_not keys key)
  where
    by : (first ≡ key) ⊎ (first ≡ key → ⊥) → Contains keys key ⊎ (Contains keys key → ⊥) → Contains (first ∷ keys) key ⊎ (Contains (first ∷ keys) key → ⊥)
    by (inl same) rest = inl (subst (λ (k : RowKey). Contains (first ∷ keys) k) same (contains-first first keys))
    by (inr other) (inl later) = inl (contains-later first keys key later)
    by (inr other) (inr none) = inr (λ has. elim (contains-cases first keys key has) [ inl same ↦ other same | inr later ↦ none later ])

module _ (models : List ModelInfo) (sides : Sides) where
  abbrev pub GoneKey : RowKey → Type 0
  GoneKey key = IsGone models sides key.model key.id

  none_two : (x y : ⊥) → x ≡ y
  none_two x y = absurd x

  untouched : (keys : List RowKey) (key : RowKey) → GoneKey key → (Contains keys key → ⊥) → TouchesOnly keys sides → ⊥
  untouched keys key gone not_one touches = elim (touches key.model key.id) [
    | inl same ↦ not_there (row_at sides.before key.model key.id) (same ∙ gone.1) gone.0
    | inr touched ↦ not_one touched
  ]

  -- a row that is gone was touched
  pub gone-touched : (keys : List RowKey) → ∥ TouchesOnly keys sides ∥₁ → (key : RowKey) → GoneKey key → Contains keys key
  gone-touched keys touches key gone = elim (among_or_not keys key) [
    | inl touched ↦ touched
    | inr not_one ↦ absurd (∥∥₁_elim touches none_two (untouched keys key gone not_one))
  ]

  among : (id : RecId) (ids : List RecId) → Contains ids id → IsAmong id ids
  among id [] has = absurd (contains-none id has)
  among id (x ∷ ids) has = elim (contains-cases x ids id has) [ inl is ↦ inl (sym is) | inr later ↦ inr (among id ids later) ]

  module _ (registry : IsRegistry models) (keys : List RowKey) (are_gone : (key : RowKey) → Contains keys key ↔ GoneKey key) where
    abbrev Holds : Cell → Type 0
    Holds cell = HoldsOne models sides.behind keys cell

    -- the field of a cell by which it names one of these
    abbrev By : Cell → FieldInfo → Type 0
    By cell info = Any (λ key. IsHeldBy sides.behind cell.model cell.field info key cell.id) keys

    -- a cell that a list of those that name a gone row has names it
    holder_names : (cell : Cell) (info : FieldInfo) (key : RowKey) → field_at models cell.model cell.field ≡ Some info → GoneKey key → IsHeldBy sides.behind cell.model cell.field info key cell.id
        → NamesGone models sides cell
    holder_names cell info key field gone held =
        let row = naming-there sides.behind cell.model cell.field key.id cell.id (among cell.id (naming sides.behind cell.model cell.field key.id) held.holds) in
        let Names : FieldInfo → Value → Type 0 = λ info v. (id : RecId) × (names id v ≡ true) × IsSomeAnd info.relation (λ target. IsGone models sides target id) in
        let Breaks : FieldInfo → Type 0 = λ info. (is_plain_kept info ≡ true) × IsSomeAnd (plain_at sides.behind models cell) (Names info) in
        let value = kept-there models sides.behind cell info row.0 registry field held.kept row.1 in (
          there_is (row_at sides.behind cell.model cell.id) row.0 row.1,
          tell_and (field_at models cell.model cell.field) info Breaks field (
            held.kept,
            tell_and (plain_at sides.behind models cell) (kept_in row.0 cell.field) (Names info) value
                (key.id, row.2, tell_and info.relation key.model (λ target. IsGone models sides target key.id) held.leads gone),
          ),
        )

    -- so a cell that names one of these names a row that is gone
    pub held-names : (cell : Cell) → Holds cell → NamesGone models sides cell
    held-names cell holds =
        let f = told_and (field_at models cell.model cell.field) (By cell) holds in
        let any : By cell f.0 = f.2 in
        holder_names cell f.0 any.1 f.1 ((are_gone any.1).0 (any.0, any.2, any.3)) any.4

    -- a row that names one that is gone is listed by its field
    pub names-held : (cell : Cell) → ((id : RecId) × FieldHas models (λ info. (is_plain_kept info ≡ true) × IsSomeAnd info.relation (λ target. IsGone models sides target id)) cell.model cell.field
        × Contains (naming sides.behind cell.model cell.field id) cell.id) → Holds cell
    names-held cell (id, has, listed) =
        let f = told_and (field_at models cell.model cell.field) (λ info. (is_plain_kept info ≡ true) × IsSomeAnd info.relation (λ target. IsGone models sides target id)) has in
        let t = told_and f.0.relation (λ target. IsGone models sides target id) f.2.1 in
        let key : RowKey = record { model = t.0; id = id } in
        tell_and (field_at models cell.model cell.field) f.0 (By cell) f.1
        (Any-is (λ key. IsHeldBy sides.behind cell.model cell.field f.0 key cell.id) keys key ((are_gone key).1 t.2) (record { kept = f.2.0; leads = t.1; holds = listed }))

    -- it is of one of the models
    pub holds-placed : (n : ℕ) → max_models ≤ n → NoneBelow (λ k. (cell : Cell) × (cell.model ≡ record { 0 = suc k }) × Holds cell) n → (cell : Cell) → Holds cell → ⊥
    holds-placed n all none cell holds =
        let f = told_and (field_at models cell.model cell.field) (By cell) holds in
        let place = numbered-place models cell.model.0 (model-of-field models cell.model cell.field f.0 f.1) in
        let few = registry.few in
        none place.0 (omega (arith, place.2)) (cell, ap (λ (i : ℕ). record { 0 = i }) place.1, holds)

    -- where no row is gone none is named
    pub none-held : keys ≡ [] → (cell : Cell) → Holds cell → ⊥
    none-held none cell holds =
        let f = told_and (field_at models cell.model cell.field) (By cell) holds in
        Any-none (λ key. IsHeldBy sides.behind cell.model cell.field f.0 key cell.id) (subst (λ (l : List RowKey). Any (λ key. IsHeldBy sides.behind cell.model cell.field f.0 key cell.id) l) none f.2)

module _ (models : List ModelInfo) (sides : Sides) (keys : List RowKey) (model : ModelNo) where
  -- a row of the model names one by the field at a place
  abbrev pub HoldsAt : ℕ → Type 0
  HoldsAt k = (id : RecId) × HoldsOne models sides.behind keys (record { model = model; id = id; field = record { 0 = suc k } })

  -- a field by which one is held is one of the model's named fields
  pub held-placed : (m : ModelInfo) → IsRegistry models → model_at models model ≡ Some m → (n : ℕ) → length m.fields ≤ n → NoneBelow HoldsAt n
      → (cell : Cell) → (cell.model ≡ model) × HoldsOne models sides.behind keys cell → ⊥
  held-placed m registry at n all none cell (same, held) =
      let holds = subst (λ (l : ModelNo). HoldsOne models sides.behind keys (record cell { model = l })) same held in
      let f = told_and (field_at models model cell.field) (λ info. Any (λ key. IsHeldBy sides.behind model cell.field info key cell.id) keys) holds in
      let any : Any (λ key. IsHeldBy sides.behind model cell.field f.0 key cell.id) keys = f.2 in
      let place = kept-named models model m cell.field f.0 at (registry.each model m at).conditions f.1 any.4.kept in
      none place.0 (omega (arith, place.2))
      (cell.id, subst (λ (l : FieldNo). HoldsOne models sides.behind keys (record { model = model; id = cell.id; field = l })) (ap (λ (i : ℕ). record { 0 = i }) place.1) holds)

-- a list without items is empty
pub empty-is : (keys : List RowKey) (count : ℕ) (empty : Bool) → count ≡ length keys → empty ≡ (count == 0) → empty ≡ true → keys ≡ []
empty-is [] count empty long told is = refl
empty-is (key ∷ keys) count empty long told is = absurd (let none : count ≡ 0 = eqb-true count 0 (sym told ∙ is) in omega (arith, none, long))
