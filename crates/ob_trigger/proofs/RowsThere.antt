-- Which rows links lead to: over tied tables rows that are there, and backwards those whose cells lead on.
use Rattle.std.proofs.Common.{◌≡◌, ◌↔◌, inl, inr, ℕ, Bool, true, false, cond, not, ◌&&◌, T, ◌==◌, List, [], ◌∷◌, filter, Option, Some, None, refl, sym, ap, subst, ◌∙◌, eqb-true, eq-eqb}
use Rattle.std.specs.Prelude.{Contains, IsSome, IsSomeAnd, is_none, is_some, option_and_then}
use Rattle.std.specs.declared.cmp.Ordering.{Ordering}
use Rattle.std.specs.declared.cmp.Ordering.TheVariants.{Less, Equal, Greater}
use Rattle.std.specs.List.{list_any}
use Rattle.std.specs.Option.{option_map_or}
use Rattle.std.specs.Ordering.{is_eq, is_lt, nat_cmp, ordering_reverse}
use Rattle.std.specs.Cmp.{IsTotalOrder, nat_cmp_total, tied_itself}
use Rattle.std.specs.FinMap as finite
use Rattle.std.specs.FinMap.Entries.{below_all, find, is_sorted}
use Rattle.std.proofs.lemmas.Cmp.{on_total, then_total}
use Rattle.std.proofs.lemmas.Map.Lookups.{CmpEqualImpliesEq, exact_pairs, exact_unsigned}
use Rattle.std.proofs.lemmas.Map.Views.{tells_apart}
use Rattle.std.proofs.lemmas.Option.{same_Some}
use Rattle.ob_base.specs.Ids.{row_key_cmp}
use Rattle.ob_base.specs.declared.id.Cell.{Cell}
use Rattle.ob_base.specs.declared.id.FieldNo.{FieldNo}
use Rattle.ob_base.specs.declared.id.ModelNo.{ModelNo}
use Rattle.ob_base.specs.declared.id.RecId.{RecId}
use Rattle.ob_base.specs.declared.id.RowKey.{RowKey}
use Rattle.ob_base.specs.declared.value.Value.{Value}
use Rattle.ob_base.specs.declared.value.Value.TheVariants as value
use Rattle.ob_definition.specs.Types.{is_one2many}
use Rattle.ob_schema.specs.declared.info.FieldInfo.{FieldInfo}
use Rattle.ob_schema.specs.declared.info.ModelInfo.{ModelInfo}
use Rattle.ob_schema.specs.declared.info.Origin.{Origin}
use Rattle.ob_schema.specs.declared.info.Origin.TheVariants as origin
use Rattle.ob_schema.specs.Fields.{is_plain_from, is_plain_kept}
use Rattle.ob_schema.specs.Links.{leading_to, led_from, led_to}
use Rattle.ob_schema.specs.Models.{IsRegistry, field_at}
use Rattle.ob_schema.specs.Plain.{names, naming, plain_at, plain_by, plain_from, targets_of}
use Rattle.ob_schema.specs.ReadCells.{targets_at}
use Rattle.ob_schema.specs.Tables.{PlainRow, Tables, ids_in, key_of, kept_in, row_at, rows_in}
use Rattle.ob_schema.specs.Tied.{Dangles, IsTied}
use Rattle.ob_schema.proofs.CallerLemmas.{contains-cases, contains-first, contains-later, contains-none}
use Rattle.ob_trigger.proofs.Known.{Field-at, some_or_none, tell_and, there_is, is_there}
use Rattle.ob_trigger.proofs.Lists.{any-contains, contains-any, contains-filter, contains-kept, contains-map, contains-mapped}

rows_total : IsTotalOrder row_key_cmp
rows_total = then_total (on_total (λ k. k.model.0) nat_cmp_total) (on_total (λ k. k.id.0) nat_cmp_total)

exact_rows : CmpEqualImpliesEq row_key_cmp
exact_rows a b h = ap (λ (p : ℕ × ℕ). record { model = record { 0 = p.0 }; id = record { 0 = p.1 } }) (exact_pairs nat_cmp nat_cmp exact_unsigned exact_unsigned (a.model.0, a.id.0) (b.model.0, b.id.0) h)

-- of two that hold each holds
split_T : (a b : Bool) → T (a && b) → T a × T b
split_T true b both = (tt, both)
split_T false b both = absurd both

-- where one is less, the other is not equal
not_tied : (r s : Ordering) → T (is_lt r) → s ≡ ordering_reverse r → is_eq s ≡ false
not_tied Less s lt is = ap is_eq is
not_tied Equal s lt is = absurd lt
not_tied Greater s lt is = absurd lt

module _ {K X : Type 0} (R : K → K → Ordering) (o : IsTotalOrder R) where
  -- a key below all is less than each
  below-contained : (k : K) (e : K × X) (es : List (K × X)) → T (below_all R k es) → Contains es e → T (is_lt (R k e.0))
  below-contained k e [] below among = absurd (contains-none e among)
  below-contained k e (x ∷ es) below among = elim (contains-cases x es e among) [
    | inl is ↦ subst (λ (y : K × X). T (is_lt (R k y.0))) is (split_T _ _ below).0
    | inr later ↦ below-contained k e es (split_T _ _ below).1 later
  ]

  -- each entry is found by its key
  entry_found : (e : K × X) (es : List (K × X)) → T (is_sorted R es) → Contains es e → find R e.0 es ≡ Some e.1
  entry_found e [] sorted among = absurd (contains-none e among)
  entry_found e (x ∷ es) sorted among = elim (contains-cases x es e among) [
    | inl is ↦ subst (λ (y : K × X). find R y.0 (x ∷ es) ≡ Some y.1) is (ap (λ (r : Ordering). cond (is_eq r) (Some x.1) (find R x.0 es)) (tied_itself o x.0))
    | inr later ↦ (let parts = split_T _ _ sorted in
        ap (λ (b : Bool). cond b (Some x.1) (find R e.0 es)) (not_tied (R x.0 e.0) (R e.0 x.0) (below-contained x.0 e es parts.0 later) (o.antisymm e.0 x.0)) ∙ entry_found e es parts.1 later)
  ]

-- a row among those of a model is there
rows_in-there : (tables : Tables) (model : ModelNo) (entry : RecId × PlainRow) → Contains (rows_in tables model) entry → row_at tables model entry.0 ≡ Some entry.1
rows_in-there tables model entry among =
    let mapped = contains-map (λ (e : RowKey × PlainRow). (e.0.id, e.1)) (filter (λ (e : RowKey × PlainRow). e.0.model.0 == model.0) (finite.entries tables.rows)) entry among in
    let e = mapped.0 in
    let is : entry ≡ (e.0.id, e.1) = sym mapped.2 in
    let kept = contains-filter (λ (e : RowKey × PlainRow). e.0.model.0 == model.0) (finite.entries tables.rows) e mapped.1 in
    let found : find row_key_cmp e.0 (finite.entries tables.rows) ≡ Some e.1 = entry_found row_key_cmp rows_total e (finite.entries tables.rows) (finite.entries_sorted tables.rows) kept.0 in
    let same : e.0.model.0 ≡ model.0 = eqb-true e.0.model.0 model.0 kept.1 in
    let key : key_of model entry.0 ≡ e.0 = λ i. record { model = record { 0 = sym same i }; id = (is i).0 } in
    ap (λ (k : RowKey). finite.get tables.rows k) key ∙ finite.get-entries tables.rows e.0 ∙ found ∙ sym (ap (λ (x : RecId × PlainRow). Some x.1) is)

-- a row that names one by a field is there
naming-there : (tables : Tables) (model : ModelNo) (field : FieldNo) (id child : RecId) → Contains (naming tables model field id) child → IsSome (row_at tables model child)
naming-there tables model field id child among =
    let test = λ (entry : RecId × PlainRow). names id (kept_in entry.1 field) in
    let mapped = contains-map (λ (entry : RecId × PlainRow). entry.0) (filter test (rows_in tables model)) child among in
    let kept = contains-filter test (rows_in tables model) mapped.0 mapped.1 in
    there_is (row_at tables model child) mapped.0.1 (sym (ap (λ (x : RecId). row_at tables model x) mapped.2) ∙ rows_in-there tables model mapped.0 kept.0)

found-at : (q : RowKey) (es : List (RowKey × PlainRow)) (row : PlainRow) → find row_key_cmp q es ≡ Some row → Contains es (q, row)
found-at q [] row e = absurd cc
found-at q (x ∷ es) row e = by (is_eq (row_key_cmp q x.0)) refl e (λ is. found-at q es row is)
  where
    by : (b : Bool) → is_eq (row_key_cmp q x.0) ≡ b → cond b (Some x.1) (find row_key_cmp q es) ≡ Some row → (find row_key_cmp q es ≡ Some row → Contains es (q, row)) → Contains (x ∷ es) (q, row)
    by true same is again =
        let key : q ≡ x.0 = tells_apart exact_rows q x.0 same in
        let val : x.1 ≡ row = same_Some x.1 row is in
        let pair : x ≡ (q, row) = λ i. (sym key i, val i) in
        subst (λ (e : RowKey × PlainRow). Contains (x ∷ es) e) pair (contains-first x es)
    by false same is again = contains-later x es (q, row) (again is)

-- the id of each row that is there is one of its model's
there-ids : (t : Tables) (model : ModelNo) (id : RecId) → IsSome (row_at t model id) → Contains (ids_in t model) id
there-ids t model id h =
    let row = is_there (row_at t model id) h in
    let es = finite.entries t.rows in
    let found = found-at (key_of model id) es row.0 (sym (finite.get-entries t.rows (key_of model id)) ∙ row.1) in
    let kept = contains-kept (λ (e : RowKey × PlainRow). e.0.model.0 == model.0) es (key_of model id, row.0) found (eq-eqb model.0 model.0 refl) in
    contains-mapped (λ (e : RecId × PlainRow). e.0) (rows_in t model) (id, row.0)
    (contains-mapped (λ (e : RowKey × PlainRow). (e.0.id, e.1)) (filter (λ (e : RowKey × PlainRow). e.0.model.0 == model.0) es) (key_of model id, row.0) kept)

single : (x y : RecId) → Contains (x ∷ []) y → x ≡ y
single x y c = elim (contains-cases x [] y c) [ inl is ↦ is | inr none ↦ absurd (contains-none y none) ]

-- a value names each of its targets
contains-names : (v : Value) (id : RecId) → Contains (targets_of v) id → names id v ≡ true
contains-names (value.Ref other) id c = eq-eqb other.0 id.0 (ap (λ i. i.0) (single other id c))
contains-names (value.Refs ids) id c = contains-any id ids c
contains-names value.Nil id c = absurd (contains-none id c)
contains-names (value.Bool b) id c = absurd (contains-none id c)
contains-names (value.Int n) id c = absurd (contains-none id c)
contains-names (value.Word t) id c = absurd (contains-none id c)
contains-names (value.Day n) id c = absurd (contains-none id c)
contains-names (value.Moment n) id c = absurd (contains-none id c)

-- three tests that hold hold together
kept_of : (a b m : Bool) → a ≡ true → false ≡ b → m ≡ true → (a && (not b && m)) ≡ true
kept_of a b m p q r = rw (p, ← q, r) refl

module _ (models : List ModelInfo) (tables : Tables) where
  -- the plain value of a cell of a row that is there
  pub plain_there : (c : Cell) (row : PlainRow) (f : FieldInfo) (o : Origin) → row_at tables c.model c.id ≡ Some row → field_at models c.model c.field ≡ Some f → f.origin ≡ o
      → plain_at tables models c ≡ plain_from tables o f c.field c.id row
  plain_there c row f o there at from =
      ap (λ (i : Option FieldInfo). option_and_then (λ i. option_and_then (plain_from tables i.origin i c.field c.id) (row_at tables c.model c.id)) i) at
      ∙ ap (λ (r : Option PlainRow). option_and_then (plain_from tables f.origin f c.field c.id) r) there
      ∙ ap (λ (o : Origin). plain_from tables o f c.field c.id row) from

  -- a cell of no row has none
  pub plain_none : (c : Cell) → row_at tables c.model c.id ≡ None → plain_at tables models c ≡ None
  plain_none c none = by (field_at models c.model c.field)
    where
      by : (o : Option FieldInfo) → option_and_then (λ i. option_and_then (plain_from tables i.origin i c.field c.id) (row_at tables c.model c.id)) o ≡ None
      by None = refl
      by (Some i) = ap (λ (r : Option PlainRow). option_and_then (plain_from tables i.origin i c.field c.id) r) none

  -- a row whose cell names others is there
  pub targets-there : (c : Cell) (id : RecId) → Contains (targets_at (plain_at tables models) c) id → IsSome (row_at tables c.model c.id)
  targets-there c id among = elim (some_or_none (row_at tables c.model c.id)) [
    | inr some ↦ there_is (row_at tables c.model c.id) some.0 some.1
    | inl none ↦ absurd (contains-none id (subst (λ (o : Option Value). Contains (option_map_or targets_of o []) id) (plain_none c none) among))
  ]

  -- a plain cell leads to the rows that its value names
  led-plain : (c : Cell) (f : FieldInfo) → field_at models c.model c.field ≡ Some f → f.origin ≡ origin.Plain → led_to models tables c ≡ targets_at (plain_at tables models) c
  led-plain c f at from =
      ap (λ (o : Option FieldInfo). option_map_or (λ i. led_from models tables i.origin c) o []) at ∙ ap (λ (o : Origin). led_from models tables o c) from

  -- the rows whose plain cell leads to one are those in which it names that one
  pub leading-names : (model : ModelNo) (field : FieldNo) (f : FieldInfo) (target row : RecId) → field_at models model field ≡ Some f → f.origin ≡ origin.Plain
      → Contains (leading_to models tables model field target) row ↔ Contains (targets_at (plain_at tables models) (record { model = model; id = row; field = field })) target
  leading-names model field f target row at from =
      let cell : RecId → Cell = λ id. record { model = model; id = id; field = field } in
      let test = λ (id : RecId). list_any (λ other. other.0 == target.0) (led_to models tables (cell id)) in (
        λ among.
            let kept = contains-filter test (ids_in tables model) row among in
            subst (λ (l : List RecId). Contains l target) (led-plain (cell row) f at from) (any-contains target (led_to models tables (cell row)) kept.1),
        λ among.
            contains-kept test (ids_in tables model) row (there-ids tables model row (targets-there (cell row) target among))
            (contains-any target (led_to models tables (cell row)) (subst (λ (l : List RecId). Contains l target) (sym (led-plain (cell row) f at from)) among)),
      )

  module _ (registry : IsRegistry models) (tied : IsTied models tables) where
    -- a plain relation leads from a row that is there to rows that are there
    pub step_there : (c : Cell) (row : PlainRow) (f : FieldInfo) (target : ModelNo) (id : RecId) → row_at tables c.model c.id ≡ Some row → field_at models c.model c.field ≡ Some f → f.origin ≡ origin.Plain
        → f.relation ≡ Some target → Contains (targets_at (plain_at tables models) c) id → IsSome (row_at tables target id)
    step_there c row f target id there at from to among =
        by f.inverse f.mirror refl refl (subst (λ (o : Option Value). Contains (option_map_or targets_of o []) id) (plain_there c row f origin.Plain there at from) among)
      where
        back : (field : FieldNo) → Contains (option_map_or (λ to. naming tables to field c.id) f.relation []) id → IsSome (row_at tables target id)
        back field among =
            naming-there tables target field c.id id (subst (λ (o : Option ModelNo). Contains (option_map_or (λ to. naming tables to field c.id) o []) id) to among)

        by : (inverse mirror : Option FieldNo) → f.inverse ≡ inverse → f.mirror ≡ mirror → Contains (targets_of (plain_by tables inverse mirror f c.field c.id row)) id → IsSome (row_at tables target id)
        by (Some inverse) mirror p q on = back inverse on
        by None (Some mirror) p q on = back mirror on
        by None None p q on = elim (some_or_none (row_at tables target id)) [
          | inr some ↦ there_is (row_at tables target id) some.0 some.1
          | inl none ↦ (let right = (Field-at models c.model c.field f registry at).right in
              let kept : is_plain_kept f ≡ true = kept_of (is_plain_from f.origin) (is_one2many f.field_type) (is_none f.mirror) (ap is_plain_from from) (sym (ap is_some p) ∙ right.inverse) (ap is_none q) in
              let plain : plain_at tables models c ≡ Some (kept_in row c.field) =
              plain_there c row f origin.Plain there at from ∙ ap (λ (o : Option FieldNo). Some (plain_by tables o f.mirror f c.field c.id row)) p ∙ ap (λ (o : Option FieldNo). Some (plain_by tables None o f c.field c.id row)) q in
              let missing : IsSomeAnd f.relation (λ to. row_at tables to id ≡ None) = tell_and f.relation target (λ to. row_at tables to id ≡ None) to none in
              let names_it : IsSomeAnd (plain_at tables models c) (λ v. (id : RecId) × (names id v ≡ true) × IsSomeAnd f.relation (λ to. row_at tables to id ≡ None)) =
              tell_and (plain_at tables models c) (kept_in row c.field) (λ v. (id : RecId) × (names id v ≡ true) × IsSomeAnd f.relation (λ to. row_at tables to id ≡ None))
              plain (id, contains-names (kept_in row c.field) id on, missing) in
              let dangles : Dangles models tables c = (
                there_is (row_at tables c.model c.id) row there,
                tell_and (field_at models c.model c.field) f
                    (λ info. (is_plain_kept info ≡ true) × IsSomeAnd (plain_at tables models c) (λ v. (id : RecId) × (names id v ≡ true) × IsSomeAnd info.relation (λ to. row_at tables to id ≡ None))) at (kept, names_it),
              ) in
              absurd (tied.0 c dangles))
        ]
