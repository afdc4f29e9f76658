-- Of the tables of a store's plain values there are no others, and sound tables with its rows are those.
use Rattle.std.proofs.Common.{◌≡◌, ◌<◌, ◌≤◌, ◌⊎◌, inl, inr, ℕ, false, List, map, Option, Some, None, unwrap_or, is_some, IsSome, refl, sym, ap, subst, ◌∙◌, arith}
use Rattle.std.specs.Prelude.{IsSomeAnd, option_map}
use Rattle.std.specs.FinMap as finite
use Rattle.std.specs.Cmp.{nat_cmp_total}
use Rattle.std.proofs.lemmas.Map.Lookups.{exact_unsigned}
use Rattle.std.proofs.lemmas.Option.{same_Some}
use Rattle.ob_base.specs.declared.id.ModelNo.{ModelNo}
use Rattle.ob_base.specs.declared.id.RecId.{RecId}
use Rattle.ob_base.specs.declared.value.Value.{Value}
use Rattle.ob_cache.specs.Kept.{Kept, KeepsModel, kept_columns, kept_row, kept_value}
use Rattle.ob_cache.specs.Opening.{ArePlain, HasRowsOf, IsReadAs, IsUnreadable, plain_row}
use Rattle.ob_cache.proofs.SoundForms.{forms-plain, forms-read}
use Rattle.ob_cache.specs.Rooms.{AreReadable}
use Rattle.ob_codec.specs.RowForm.{HoldAll, row_form}
use Rattle.ob_io.specs.Store.{Store, next_of as kept_next_of, row_at as kept_row_at}
use Rattle.ob_io.specs.declared.store.KeptRow.{KeptRow}
use Rattle.ob_schema.specs.Fields.{kept_fields}
use Rattle.ob_schema.specs.Models.{HasModel, IsRegistry, model_at}
use Rattle.ob_schema.specs.Tables.{Fits, IsRowOf, PlainRow, Tables, next_of, row_at}
use Rattle.ob_schema.specs.declared.info.FieldInfo.{FieldInfo}
use Rattle.ob_schema.specs.declared.info.ModelInfo.{ModelInfo}
use Rattle.ob_tables.proofs.CallerLemmas.{exact_rows, known_at, known_if, rows_total, some_or_none, tell_and, there_is, told_and}

-- lists of values that one body stands for are the same
abbrev pub HaveOneBody : Type 0
HaveOneBody = (fields : List FieldInfo) (a b : List Value) → HoldAll fields a → HoldAll fields b → row_form fields a ≡ row_form fields b → a ≡ b

module _ (models : List ModelInfo) (registry : IsRegistry models) (store : Store) where
  -- a model's row that is kept, as one of sound tables
  pub record IsReadIn (tables : Tables) (model : ModelNo) (info : ModelInfo) (id : RecId) (kept : KeptRow) : Type 0 where
    pub row : PlainRow
    pub row_is : row_at tables model id ≡ Some row
    pub kept_is : kept ≡ kept_row models tables model info id row
    pub read_as : IsReadAs info kept (map (kept_value models tables model id) (kept_columns info))
    pub plain : plain_row info (map (kept_value models tables model id) (kept_columns info)) ≡ row

  -- of the tables of the plain values there are no others
  module _ (one : HaveOneBody) (a b : Tables) (of_a : ArePlain models store a) (of_b : ArePlain models store b) where
    rows-of : (t : Tables) → ArePlain models store t → (model : ModelNo) (info : ModelInfo) → model_at models model ≡ Some info → HasRowsOf models store t model info
    rows-of t are model info is = elim (are.rows model) [
      | inl known ↦ known_at (model_at models model) info (HasRowsOf models store t model) is known
      | inr none ↦ absurd (let both : None ≡ Some info = sym none ∙ is in cc)
    ]

    same-row : (model : ModelNo) (id : RecId) → row_at a model id ≡ row_at b model id
    same-row model id = elim (some_or_none (model_at models model)) [
      | inl none ↦ none-at a of_a.fits none ∙ sym (none-at b of_b.fits none)
      | inr some ↦ by some.0 (rows-of a of_a model some.0 some.1) (rows-of b of_b model some.0 some.1) (kept_row_at store model id) refl
    ]
      where
        none-at : (t : Tables) → Fits models t → model_at models model ≡ None → row_at t model id ≡ None
        none-at t fits none = elim (some_or_none (row_at t model id)) [
          | inl is ↦ is
          | inr some ↦ absurd (let of = told_and (model_at models model) (λ i. IsRowOf i some.0) (known_if (row_at t model id) some.0 (λ r. IsSomeAnd (model_at models model) (λ i. IsRowOf i r)) some.1 (fits.rows model id)) in
              let both : None ≡ Some of.0 = sym none ∙ of.1 in cc)
        ]

        by : (info : ModelInfo) → HasRowsOf models store a model info → HasRowsOf models store b model info → (k : Option KeptRow) → kept_row_at store model id ≡ k → row_at a model id ≡ row_at b model id
        by info has_a has_b None none = has_a.none id none ∙ sym (has_b.none id none)
        by info has_a has_b (Some kept) there =
            let first = has_a.there id kept there in
            let second = has_b.there id kept there in
            first.2 ∙ ap (λ (vs : List Value). Some (plain_row info vs)) (one (kept_fields info) first.0 second.0 first.1.hold second.1.hold (sym first.1.body ∙ second.1.body)) ∙ sym second.2

    same-next : (n : ℕ) → finite.get a.next_ids n ≡ finite.get b.next_ids n
    same-next n = elim (some_or_none (model_at models (record { 0 = n }))) [
      | inl none ↦ (let not : HasModel models (record { 0 = n }) → ⊥ = λ h. no (ap is_some none) h in
          gone (finite.get a.next_ids n) (λ h. not ((of_a.fits.next (record { 0 = n })).0 h)) ∙ sym (gone (finite.get b.next_ids n) (λ h. not ((of_b.fits.next (record { 0 = n })).0 h))))
      | inr some ↦ (let there : HasModel models (record { 0 = n }) = ap is_some some.1 in
          equal (finite.get a.next_ids n) (finite.get b.next_ids n) ((of_a.fits.next (record { 0 = n })).1 there ∙ sym ((of_b.fits.next (record { 0 = n })).1 there))
          (sym (rows-of a of_a (record { 0 = n }) some.0 some.1).next ∙ (rows-of b of_b (record { 0 = n }) some.0 some.1).next))
    ]
      where
        equal : (a b : Option ℕ) → is_some a ≡ is_some b → unwrap_or a 1 ≡ unwrap_or b 1 → a ≡ b
        equal None None there same = refl
        equal None (Some y) there same = absurd cc
        equal (Some x) None there same = absurd cc
        equal (Some x) (Some y) there same = ap Some same

        gone : (o : Option ℕ) → (IsSome o → ⊥) → o ≡ None
        gone None not = refl
        gone (Some x) not = absurd (not refl)

        no : is_some (model_at models (record { 0 = n })) ≡ false → HasModel models (record { 0 = n }) → ⊥
        no none there = cc

    pub one-plain : a ≡ b
    one-plain =
        let rows = finite.same_map rows_total exact_rows a.rows b.rows (λ key. same-row key.model key.id) in
        let next_ids = finite.same_map nat_cmp_total exact_unsigned a.next_ids b.next_ids same-next in
        λ i. record { rows = rows i; next_ids = next_ids i }

  module _ (tables : Tables) (known : AreReadable models tables) (keeps : Kept models tables store) where
    keeps-of : (model : ModelNo) (info : ModelInfo) → model_at models model ≡ Some info → KeepsModel models tables store model info
    keeps-of model info is = known_if (model_at models model) info (KeepsModel models tables store model) is (keeps model)

    pub read-in : (model : ModelNo) (info : ModelInfo) → model_at models model ≡ Some info → (id : RecId) (kept : KeptRow) → kept_row_at store model id ≡ Some kept → IsReadIn tables model info id kept
    read-in model info is id kept there = by (row_at tables model id) refl (sym there ∙ (keeps-of model info is).rows id)
      where
        by : (r : Option PlainRow) → row_at tables model id ≡ r → Some kept ≡ option_map (kept_row models tables model info id) r → IsReadIn tables model info id kept
        by None none same = absurd cc
        by (Some row) row_is same =
            let one : kept ≡ kept_row models tables model info id row = same_Some kept (kept_row models tables model info id row) same in
            record {
              row = row;
              row_is = row_is;
              kept_is = one;
              read_as = subst (λ (k : KeptRow). IsReadAs info k (map (kept_value models tables model id) (kept_columns info))) (sym one)
                  (forms-read models tables registry known.sound model id info row is row_is known.typed known.valued known.native);
              plain = forms-plain models tables registry known.sound model id info row is row_is known.typed known.valued known.native;
            }

    -- no row of theirs is unreadable
    pub none-unreadable : (model : ModelNo) (info : ModelInfo) → model_at models model ≡ Some info → (id : RecId) (kept : KeptRow) → kept_row_at store model id ≡ Some kept → IsUnreadable store model info id kept → ⊥
    none-unreadable model info is id kept there (inl past) =
        let read = read-in model info is id kept there in
        let low = known.sound.fits.above model id (there_is (row_at tables model id) read.row read.row_is) in
        by id.0 (kept_next_of store model) (next_of tables model) past (keeps-of model info is).next low
      where
        by : (i a b : ℕ) → a ≤ i → a ≡ b → i < b → ⊥
        by i a b past same low = omega arith
    none-unreadable model info is id kept there (inr none) = let read = read-in model info is id kept there in none (map (kept_value models tables model id) (kept_columns info)) read.read_as

    -- they are the tables of the plain values
    sound-plain : ArePlain models store tables
    sound-plain = record { fits = known.sound.fits; rows = rows }
      where
        rows : (model : ModelNo) → IsSomeAnd (model_at models model) (HasRowsOf models store tables model) ⊎ (model_at models model ≡ None)
        rows model = elim (some_or_none (model_at models model)) [
          | inl none ↦ inr none
          | inr some ↦ inl (tell_and (model_at models model) some.0 (HasRowsOf models store tables model) some.1 (has some.0 some.1))
        ]
          where
            has : (info : ModelInfo) → model_at models model ≡ Some info → HasRowsOf models store tables model info
            has info is = record {
              there = λ id kept at.
                  (let read = read-in model info is id kept at in
                  (map (kept_value models tables model id) (kept_columns info), read.read_as, read.row_is ∙ ap Some (sym read.plain)));
              none = λ id none. at_none id (row_at tables model id) (sym none ∙ (keeps-of model info is).rows id);
              next = (keeps-of model info is).next;
            }
              where
                at_none : (id : RecId) (r : Option PlainRow) → None ≡ option_map (kept_row models tables model info id) r → r ≡ None
                at_none id None same = refl
                at_none id (Some row) same = absurd cc

    pub same-tables : (one : HaveOneBody) (plain : Tables) → ArePlain models store plain → tables ≡ plain
    same-tables one plain are = one-plain one tables plain sound-plain are
