-- Cells that show that no sound tables have the rows of a store.
use Rattle.std.proofs.Common.{◌≡◌, ◌≢◌, ◌==◌, ◌≤◌, ◌⊎◌, ◌++◌, inl, inr, ℕ, Bool, true, false, cond, List, [], ◌∷◌, map, Some, None, Result, Ok, Err, refl, sym, ap, subst, ◌∙◌, arith, eqb-true, eq-eqb}
use Rattle.std.specs.Prelude.{IsOk, IsSomeAnd}
use Rattle.std.specs.List.{AllByRecursion, cons_option, filter_map, flat_map}
use Rattle.std.specs.Map.{lookup}
use Rattle.std.specs.Result.{result_unwrap_or}
use Rattle.std.proofs.lemmas.Option.{same_Some}
use Rattle.ob_base.specs.Limits.{max_models}
use Rattle.ob_base.specs.declared.id.Cell.{Cell}
use Rattle.ob_base.specs.declared.id.ModelNo.{ModelNo}
use Rattle.ob_base.specs.declared.id.RecId.{RecId}
use Rattle.ob_base.specs.declared.refusal.Broken.{Broken}
use Rattle.ob_base.specs.declared.value.Value.{Value}
use Rattle.ob_base.specs.declared.value.Value.TheVariants as value
use Rattle.ob_cache.specs.Kept.{Kept, KeepsModel, kept_columns, kept_value}
use Rattle.ob_cache.specs.Opening.{ArePlain, IsInconsistent, IsUnreadable, ShowsOther, ShowsUnread, kept_for}
use Rattle.ob_cache.specs.Reading.{IsOneOf, IsReadRow, ReadRow, entries, stored_of, tests_of}
use Rattle.ob_cache.proofs.KeptForms.{IsColumn, columns-at, each-back, each_of, with_values, zip-map}
use Rattle.ob_cache.proofs.OpenedTables.{of-one}
use Rattle.ob_cache.proofs.SameTables.{HaveOneBody, none-unreadable, read-in, same-tables}
use Rattle.ob_cache.proofs.SoundForms.{computed-from, field-of, no_value}
use Rattle.ob_cache.specs.Rooms.{AreReadable}
use Rattle.ob_expr.specs.Computing.{Lack}
use Rattle.ob_io.specs.Store.{Store, next_of as kept_next_of, row_at as kept_row_at}
use Rattle.ob_schema.specs.Broken.{AreSound, IsBroken}
use Rattle.ob_schema.specs.Built.{numbered}
use Rattle.ob_schema.specs.Fields.{Column, is_kept, is_plain_kept, kept_fields}
use Rattle.ob_schema.specs.Models.{IsRegistry, field_at, is_computed_from, model_at}
use Rattle.ob_schema.specs.Tables.{Tables, next_of, row_at}
use Rattle.ob_schema.specs.Val.{val}
use Rattle.ob_schema.specs.declared.info.FieldInfo.{FieldInfo}
use Rattle.ob_schema.specs.declared.info.ModelInfo.{ModelInfo}
use Rattle.ob_tables.proofs.CallerLemmas.{known_if, tell_and, there_is, told_and}

-- ---- lists

one-left-or-right : {X : Type 0} (x : X) (xs ys : List X) → IsOneOf x (xs ++ ys) → IsOneOf x xs ⊎ IsOneOf x ys
one-left-or-right x [] ys one = inr one
one-left-or-right x (y ∷ xs) ys (inl is) = inl (inl is)
one-left-or-right x (y ∷ xs) ys (inr later) = by (one-left-or-right x xs ys later)
  where
    by : IsOneOf x xs ⊎ IsOneOf x ys → IsOneOf x (y ∷ xs) ⊎ IsOneOf x ys
    by (inl left) = inl (inr left)
    by (inr right) = inr right

pub one-of-flat : {X Y : Type 0} (f : X → List Y) (y : Y) (xs : List X) → IsOneOf y (flat_map f xs) → (x : X) × IsOneOf x xs × IsOneOf y (f x)
one-of-flat f y [] one = absurd one
one-of-flat {X = X} f y (x ∷ xs) one = by (one-left-or-right y (f x) (flat_map f xs) one) (λ later. one-of-flat f y xs later)
  where
    by : IsOneOf y (f x) ⊎ IsOneOf y (flat_map f xs) → (IsOneOf y (flat_map f xs) → (z : X) × IsOneOf z xs × IsOneOf y (f z)) → (z : X) × IsOneOf z (x ∷ xs) × IsOneOf y (f z)
    by (inl here) rest = (x, inl refl, here)
    by (inr later) rest = let r = rest later in (r.0, inr r.1, r.2)

module _ (model : ModelNo) (id : RecId) (g : Column → Value) where
  -- what is tested of a column
  abbrev test_of : Column → Cell × Value
  test_of c = (record { model = model; id = id; field = record { 0 = c.0 } }, g c)

  one-stored : (s : Cell × Value) (cols : List Column) → IsOneOf s (filter_map (stored_of model id) (with_values g cols)) → (c : Column) × IsOneOf c cols × (is_plain_kept c.1 ≡ false) × (s ≡ test_of c)
  one-stored s [] one = absurd one
  one-stored s (c ∷ cols) one = by (is_plain_kept c.1) refl one (one-stored s cols)
    where
      by : (b : Bool) → is_plain_kept c.1 ≡ b → IsOneOf s (cons_option (cond b None (Some (test_of c))) (filter_map (stored_of model id) (with_values g cols)))
          → (IsOneOf s (filter_map (stored_of model id) (with_values g cols)) → (d : Column) × IsOneOf d cols × (is_plain_kept d.1 ≡ false) × (s ≡ test_of d))
          → (d : Column) × IsOneOf d (c ∷ cols) × (is_plain_kept d.1 ≡ false) × (s ≡ test_of d)
      by true plain one rest = let r = rest one in (r.0, inr r.1, r.2, r.3)
      by false plain (inl is) rest = (c, inl refl, plain, is)
      by false plain (inr later) rest = let r = rest later in (r.0, inr r.1, r.2, r.3)

-- a column is found by its number
found-column : (fields : List FieldInfo) (g : Column → Value) (c : Column) (cols : List Column) → IsColumn is_kept fields c → AllByRecursion (IsColumn is_kept fields) cols → IsOneOf c cols
    → lookup (λ (d : Column). d.0 == c.0) (with_values g cols) ≡ Some (g c)
found-column fields g c [] at all one = absurd one
found-column fields g c (d ∷ cols) at all one = by (d.0 == c.0) refl one (λ later. found-column fields g c cols at all.1 later)
  where
    by : (b : Bool) → (d.0 == c.0) ≡ b → IsOneOf c (d ∷ cols) → (IsOneOf c cols → lookup (λ (e : Column). e.0 == c.0) (with_values g cols) ≡ Some (g c))
        → cond b (Some (g d)) (lookup (λ (e : Column). e.0 == c.0) (with_values g cols)) ≡ Some (g c)
    by true same one rest =
        let number : d.0 ≡ c.0 = eqb-true d.0 c.0 same in
        let field : d.1 ≡ c.1 = same_Some d.1 c.1 (sym all.0.at ∙ ap (λ (n : ℕ). numbered fields n) number ∙ at.at) in
        λ i. Some (g (number i, field i))
    by false other (inl is) rest = absurd (let both : false ≡ true = sym other ∙ eq-eqb d.0 c.0 (ap (λ (e : Column). e.0) (sym is)) in cc)
    by false other (inr later) rest = rest later

-- a value that there is
has-value : (v : Value) (m : Result Value Lack) → IsOk m → v ≡ result_unwrap_or m value.Nil → m ≡ Ok v
has-value v (Ok w) ok same = ap Ok (sym same)
has-value v (Err lack) ok same = absurd (no_value (Err lack) lack refl ok)

-- ---- cells

module _ (models : List ModelInfo) (registry : IsRegistry models) (readable : (tables : Tables) → AreSound models tables → AreReadable models tables) (one : HaveOneBody) (store : Store) where
  -- no sound tables have a row that can't be read
  unread-none : (cell : Cell) → ShowsUnread models store cell → (tables : Tables) → AreSound models tables → Kept models tables store → ⊥
  unread-none cell shows tables sound keeps =
      let info = told_and (model_at models cell.model) (λ info. IsSomeAnd (kept_row_at store cell.model cell.id) (IsUnreadable store cell.model info cell.id) ⊎ ((cell.id.0 ≡ 0) × (kept_next_of store cell.model ≡ 0))) shows.1 in
      by info.0 info.1 info.2
    where
      by : (info : ModelInfo) → model_at models cell.model ≡ Some info → IsSomeAnd (kept_row_at store cell.model cell.id) (IsUnreadable store cell.model info cell.id) ⊎ ((cell.id.0 ≡ 0) × (kept_next_of store cell.model ≡ 0)) → ⊥
      by info is (inl unread) =
          let kept = told_and (kept_row_at store cell.model cell.id) (IsUnreadable store cell.model info cell.id) unread in
          none-unreadable models registry store tables (readable tables sound) keeps cell.model info is cell.id kept.0 kept.1 kept.2
      by info is (inr zero_next) =
          past (kept_next_of store cell.model) (next_of tables cell.model) zero_next.1 (known_if (model_at models cell.model) info (KeepsModel models tables store cell.model) is (keeps cell.model)).next (sound.fits.low cell.model)
        where
          past : (a b : ℕ) → a ≡ 0 → a ≡ b → 1 ≤ b → ⊥
          past a b none same low = omega arith

  pub unread-inconsistent : (cell : Cell) → ShowsUnread models store cell → IsInconsistent models store cell
  unread-inconsistent cell shows = record { none = unread-none cell shows; shown = inl shows }

  -- nor those that the plain values break
  pub broken-inconsistent : (plain : Tables) → ArePlain models store plain → (broken : Broken) → IsBroken models plain broken → IsInconsistent models store broken.cell
  broken-inconsistent plain are broken breaks = record {
    none = λ tables sound keeps. sound.sound broken (subst (λ (t : Tables). IsBroken models t broken) (sym (same-tables models registry store tables (readable tables sound) keeps one plain are)) breaks);
    shown = inr (inl (plain, are, (broken.kind, breaks)));
  }

  module _ (before : Tables) (reads : List ReadRow) (each : AllByRecursion (λ r. IsReadRow models r.model (next_of before r.model) r × (r.model.0 ≤ max_models)) reads)
      (plain : Tables) (are : ArePlain models store plain) (sound : AreSound models plain) (told : AllByRecursion (λ r. kept_row_at store r.model r.row.id ≡ Some r.row) reads) where
    -- nor those of which a stored cell is another
    pub other-inconsistent : (cell : Cell) (v : Value) → IsOneOf (cell, v) (flat_map tests_of reads) → val models plain cell ≢ Ok v → IsInconsistent models store cell × ShowsOther models store cell
    other-inconsistent cell v among differs =
        let (r, is_read, tested) = one-of-flat tests_of (cell, v) reads among in
        let read = (of-one (λ r. IsReadRow models r.model (next_of before r.model) r × (r.model.0 ≤ max_models)) reads r each is_read).0 in
        at r read (of-one (λ r. kept_row_at store r.model r.row.id ≡ Some r.row) reads r told is_read) tested
      where
        at : (r : ReadRow) → IsReadRow models r.model (next_of before r.model) r → kept_row_at store r.model r.row.id ≡ Some r.row → IsOneOf (cell, v) (tests_of r)
            → IsInconsistent models store cell × ShowsOther models store cell
        at r read kept_is tested =
            let g = each_of r.info r.values in
            let back = each-back r.info r.values read.read_as.hold in
            let entries_are = ap (entries r.info.fields) (sym back) ∙ zip-map g (kept_columns r.info) in
            let (c, among, other, same) = one-stored r.model r.row.id g (cell, v) (kept_columns r.info) (subst (λ (es : List (Column × Value)). IsOneOf (cell, v) (filter_map (stored_of r.model r.row.id) es)) entries_are tested) in
            let column = of-one (IsColumn is_kept r.info.fields) (kept_columns r.info) c (columns-at is_kept r.info) among in
            let cell_is : cell ≡ record { model = r.model; id = r.row.id; field = record { 0 = c.0 } } = ap (λ (s : Cell × Value). s.0) same in
            let v_is : v ≡ g c = ap (λ (s : Cell × Value). s.1) same in
            let field_is = field-of models r.model r.info c.0 c.1 read.info_is column.at in
            let kept_is_v : kept_for r.info r.values (record { 0 = c.0 }) ≡ Some v =
            ap (lookup (λ (d : Column). d.0 == c.0)) entries_are ∙ found-column r.info.fields g c (kept_columns r.info) column (columns-at is_kept r.info) among ∙ ap Some (sym v_is) in
            let here : Cell = record { model = r.model; id = r.row.id; field = record { 0 = c.0 } } in
            let differs_here : val models plain here ≢ Ok v = subst (λ (d : Cell). val models plain d ≢ Ok v) cell_is differs in
            let shows : ShowsOther models store here = record {
              tables = plain;
              plain = are;
              sound = sound;
              info = r.info;
              info_is = read.info_is;
              kept = r.row;
              kept_is = kept_is;
              values = r.values;
              read_as = read.read_as;
              other = tell_and (kept_for r.info r.values (record { 0 = c.0 })) v (λ w. val models plain here ≢ Ok w) kept_is_v differs_here;
              computed = tell_and (field_at models r.model (record { 0 = c.0 })) c.1 (λ field. is_computed_from field.origin ≡ true) field_is (computed-from c.1.origin c.1 column.passes other);
            } in
            let inconsistent : IsInconsistent models store here = record {
              none = λ tables known keeps.
                  (let same_t = same-tables models registry store tables (readable tables known) keeps one plain are in
                  let own = read-in models registry store tables (readable tables known) keeps r.model r.info read.info_is r.row.id r.row kept_is in
                  let values = one (kept_fields r.info) r.values (map (kept_value models tables r.model r.row.id) (kept_columns r.info)) read.read_as.hold own.read_as.hold (sym read.read_as.body ∙ own.read_as.body) in
                  let value_is : g c ≡ kept_value models tables r.model r.row.id c =
                  at-column g (kept_value models tables r.model r.row.id) (kept_columns r.info) c (back ∙ values) among in
                  differs_here (has-value v (val models plain here)
                  ((readable plain sound).valued here (there_is (row_at plain r.model r.row.id) own.row (ap (λ (t : Tables). row_at t r.model r.row.id) (sym same_t) ∙ own.row_is))
                  (there_is (field_at models r.model (record { 0 = c.0 })) c.1 field_is))
                  (v_is ∙ value_is ∙ ap (λ (t : Tables). kept_value models t r.model r.row.id c) same_t)));
              shown = inr (inr shows);
            } in
            subst (λ (d : Cell). IsInconsistent models store d × ShowsOther models store d) (sym cell_is) (inconsistent, shows)
          where
            at-column : (f h : Column → Value) (cols : List Column) (c : Column) → map f cols ≡ map h cols → IsOneOf c cols → f c ≡ h c
            at-column f h [] c same one = absurd one
            at-column f h (d ∷ cols) c same (inl is) = let first : f d ≡ h d = (cc) in subst (λ (e : Column). f e ≡ h e) (sym is) first
            at-column f h (d ∷ cols) c same (inr later) = let rest : map f cols ≡ map h cols = (cc) in at-column f h cols c rest later
