-- The tables that all rows of a store make: they have its plain values, and where what is stored is right, it keeps them.
use Rattle.std.proofs.Common.{◌≡◌, ◌<◌, ◌≤◌, ◌⊎◌, ◌++◌, inl, inr, ℕ, zero, suc, Bool, true, false, cond, List, [], ◌∷◌, map, length, Option, Some, None, unwrap_or, is_some, IsSome, Result, Ok, refl, sym, ap, subst, ◌∙◌, arith}
use Rattle.std.specs.Prelude.{IfSome, IsSomeAnd, option_map}
use Rattle.std.specs.FinMap as finite
use Rattle.std.specs.List.{AllByRecursion, cons_option, filter_map, flat_map}
use Rattle.std.specs.Result.{result_unwrap_or}
use Rattle.std.proofs.lemmas.Option.{same_Some}
use Rattle.ob_base.specs.Ids.{row_key_cmp}
use Rattle.ob_base.specs.Limits.{max_models}
use Rattle.ob_base.specs.declared.id.Cell.{Cell}
use Rattle.ob_base.specs.declared.id.ModelNo.{ModelNo}
use Rattle.ob_base.specs.declared.id.RecId.{RecId}
use Rattle.ob_base.specs.declared.value.Value.{Value}
use Rattle.ob_base.specs.declared.value.Value.TheVariants as value
use Rattle.ob_cache.specs.Kept.{Kept, KeepsModel, kept_columns, kept_row, kept_value}
use Rattle.ob_cache.specs.Opening.{ArePlain, HasRowsOf, IsReadAs, plain_row}
use Rattle.ob_cache.specs.Reading.{AreTold, IsOneOf, IsReadRow, ReadRow, edit_of, entries, stored_of, tests_of}
use Rattle.ob_cache.proofs.KeptForms.{IsColumn, columns-at, each-back, each_of, get-plain_row, kept-at, values-agree, with_values, zip-map}
use Rattle.ob_cache.proofs.MadeTables.{after-none, after-some, is-it, is_it, it-is, next-after, row_for, row_for-plain}
use Rattle.ob_cache.proofs.SameTables.{HaveOneBody}
use Rattle.ob_cache.proofs.SoundForms.{val-plain}
use Rattle.ob_codec.specs.RowForm.{row_form}
use Rattle.ob_expr.specs.Computing.{Lack}
use Rattle.ob_io.specs.Store.{Store, row_at as kept_row_at}
use Rattle.ob_io.specs.declared.store.KeptRow.{KeptRow}
use Rattle.ob_schema.specs.Broken.{AreSound}
use Rattle.ob_schema.specs.Built.{numbered}
use Rattle.ob_schema.specs.Fields.{Column, is_kept, is_plain_kept, kept_fields}
use Rattle.ob_schema.specs.Models.{HasModel, IsRegistry, model_at}
use Rattle.ob_schema.specs.Tables.{Fits, PlainRow, Tables, key_of, kept_in, next_of, row_at}
use Rattle.ob_schema.specs.Val.{val}
use Rattle.ob_schema.specs.declared.info.ModelInfo.{ModelInfo}
use Rattle.ob_tables.specs.After.{after}

-- ---- lists

-- what is known of all is known of one
pub of-one : {X : Type 0} (P : X → Type 0) (xs : List X) (x : X) → AllByRecursion P xs → IsOneOf x xs → P x
of-one P [] x all one = absurd one
of-one P (y ∷ xs) x all (inl is) = subst P (sym is) all.0
of-one P (y ∷ xs) x all (inr later) = of-one P xs x all.1 later

-- and what is known of each one is known of all
pub of-each : {X : Type 0} (P : X → Type 0) (xs : List X) → ((x : X) → IsOneOf x xs → P x) → AllByRecursion P xs
of-each P [] each = tt
of-each P (y ∷ xs) each = (each y (inl refl), of-each P xs (λ x later. each x (inr later)))

pub of-both : {X : Type 0} (P Q : X → Type 0) (xs : List X) → AllByRecursion P xs → AllByRecursion Q xs → AllByRecursion (λ x. P x × Q x) xs
of-both P Q [] ps qs = tt
of-both P Q (x ∷ xs) ps qs = ((ps.0, qs.0), of-both P Q xs ps.1 qs.1)

all-left : {X : Type 0} (P : X → Type 0) (xs ys : List X) → AllByRecursion P (xs ++ ys) → AllByRecursion P xs
all-left P [] ys all = tt
all-left P (x ∷ xs) ys all = (all.0, all-left P xs ys all.1)

all-right : {X : Type 0} (P : X → Type 0) (xs ys : List X) → AllByRecursion P (xs ++ ys) → AllByRecursion P ys
all-right P [] ys all = all
all-right P (x ∷ xs) ys all = all-right P xs ys all.1

-- of lists behind one another
of-flat : {X Y : Type 0} (P : Y → Type 0) (f : X → List Y) (xs : List X) (x : X) → AllByRecursion P (flat_map f xs) → IsOneOf x xs → AllByRecursion P (f x)
of-flat P f [] x all one = absurd one
of-flat P f (y ∷ xs) x all (inl is) = subst (λ (z : _). AllByRecursion P (f z)) (sym is) (all-left P (f y) (flat_map f xs) all)
of-flat P f (y ∷ xs) x all (inr later) = of-flat P f xs x (all-right P (f y) (flat_map f xs) all) later

-- a number at which something stands is within the list
pub within : {X : Type 0} (xs : List X) (n : ℕ) → IsSome (numbered xs n) → n ≤ length xs
within xs zero there = omega arith
within [] (suc n) there = absurd cc
within (x ∷ xs) (suc zero) there = omega arith
within (x ∷ xs) (suc (suc n)) there = let low = within xs (suc n) there in omega arith

-- what is stored of the columns that aren't plain
stored-each : (P : Cell × Value → Type 0) (model : ModelNo) (id : RecId) (g : Column → Value) (cols : List Column) → AllByRecursion P (filter_map (stored_of model id) (with_values g cols))
    → AllByRecursion (λ c. is_plain_kept c.1 ≡ false → P (record { model = model; id = id; field = record { 0 = c.0 } }, g c)) cols
stored-each P model id g [] all = tt
stored-each P model id g (c ∷ cols) all = by (is_plain_kept c.1) refl all (stored-each P model id g cols)
  where
    cell : Cell
    cell = record { model = model; id = id; field = record { 0 = c.0 } }

    by : (b : Bool) → is_plain_kept c.1 ≡ b → AllByRecursion P (cons_option (cond b None (Some (record { model = model; id = id; field = record { 0 = c.0 } }, g c))) (filter_map (stored_of model id) (with_values g cols)))
        → (AllByRecursion P (filter_map (stored_of model id) (with_values g cols)) → AllByRecursion (λ d. is_plain_kept d.1 ≡ false → P (record { model = model; id = id; field = record { 0 = d.0 } }, g d)) cols)
        → (is_plain_kept c.1 ≡ false → P (record { model = model; id = id; field = record { 0 = c.0 } }, g c)) × AllByRecursion (λ d. is_plain_kept d.1 ≡ false → P (record { model = model; id = id; field = record { 0 = d.0 } }, g d)) cols
    by true plain all later = ((λ not. absurd (let both : true ≡ false = sym plain ∙ not in cc)), later all)
    by false plain all later = ((λ not. all.0), later all.1)

-- ---- tables

module _ (models : List ModelInfo) (registry : IsRegistry models) (one : HaveOneBody) (before : Tables) (reads : List ReadRow) (store : Store)
    (each : AllByRecursion (λ r. IsReadRow models r.model (next_of before r.model) r × (r.model.0 ≤ max_models)) reads) (empty : before.rows ≡ finite.empty) (told : AreTold models max_models before reads store) where
  -- the tables that the rows make
  abbrev pub made : Tables
  made = after models before (map edit_of reads)

  low : (model : ModelNo) → HasModel models model → model.0 ≤ max_models
  low model has = let few = registry.few in let in_list = within models model.0 has in omega arith

  read : (r : ReadRow) → IsOneOf r reads → IsReadRow models r.model (next_of before r.model) r
  read r among = (of-one (λ r. IsReadRow models r.model (next_of before r.model) r × (r.model.0 ≤ max_models)) reads r each among).0

  infos : AllByRecursion (λ r. model_at models r.model ≡ Some r.info) reads
  infos = of-each (λ r. model_at models r.model ≡ Some r.info) reads (λ r among. (read r among).info_is)

  kept-there : (r : ReadRow) → IsOneOf r reads → kept_row_at store r.model r.row.id ≡ Some r.row
  kept-there r among = of-one (λ r. kept_row_at store r.model r.row.id ≡ Some r.row) reads r told.row among

  none-before : (model : ModelNo) (id : RecId) → row_at before model id ≡ None
  none-before model id = ap (λ (rows : finite.FinMap row_key_cmp PlainRow). finite.get rows (key_of model id)) empty ∙ finite.get-empty row_key_cmp (key_of model id)

  next-made : (model : ModelNo) → next_of made model ≡ next_of before model
  next-made model = next-after models reads before model (of-each (λ r. (model_at models r.model ≡ Some r.info) × (r.row.id.0 < next_of before r.model)) reads (λ r among. ((read r among).info_is, (read r among).below)))

  -- a row that is kept was read, and it is a row of the tables
  pub record IsMade (model : ModelNo) (info : ModelInfo) (id : RecId) (kept : KeptRow) : Type 0 where
    pub from : ReadRow
    pub among : IsOneOf from reads
    pub model_is : from.model ≡ model
    pub id_is : from.row.id ≡ id
    pub row_is : from.row ≡ kept
    pub info_is : from.info ≡ info
    pub read_as : IsReadAs info kept from.values
    pub made_is : row_at made model id ≡ Some (plain_row info from.values)

  module _ (model : ModelNo) (info : ModelInfo) (is : model_at models model ≡ Some info) (id : RecId) where
    same-info : (r : ReadRow) → IsOneOf r reads → r.model ≡ model → r.info ≡ info
    same-info r among model_is = same_Some r.info info (sym (read r among).info_is ∙ ap (λ (m : ModelNo). model_at models m) model_is ∙ is)

    same-kept : (r : ReadRow) → IsOneOf r reads → r.model ≡ model → r.row.id ≡ id → (kept : KeptRow) → kept_row_at store model id ≡ Some kept → r.row ≡ kept
    same-kept r among model_is id_is kept there = same_Some r.row kept (sym (kept-there r among) ∙ (λ i. kept_row_at store (model_is i) (id_is i)) ∙ there)

    reads-as : (r : ReadRow) → IsOneOf r reads → r.model ≡ model → r.row.id ≡ id → (kept : KeptRow) → kept_row_at store model id ≡ Some kept → IsReadAs info kept r.values
    reads-as r among model_is id_is kept there =
        subst (λ (k : KeptRow). IsReadAs info k r.values) (same-kept r among model_is id_is kept there) (subst (λ (i : ModelInfo). IsReadAs i r.row r.values) (same-info r among model_is) (read r among).read_as)

    pub is-made : (kept : KeptRow) → kept_row_at store model id ≡ Some kept → IsMade model info id kept
    is-made kept there =
        let (r, among, model_is, id_is) = told.all model id kept (ap is_some is) (low model (ap is_some is)) there in
        let as_read = reads-as r among model_is id_is kept there in
        record {
          from = r;
          among = among;
          model_is = model_is;
          id_is = id_is;
          row_is = same-kept r among model_is id_is kept there;
          info_is = same-info r among model_is;
          read_as = as_read;
          made_is = after-some models model id (plain_row info r.values) reads before infos (of-each (λ s. is_it models model id s ≡ true → row_for s ≡ plain_row info r.values) reads (alike r as_read))
              (inr (r, among, it-is models model id r model_is id_is));
        }
      where
        alike : (r : ReadRow) → IsReadAs info kept r.values → (s : ReadRow) → IsOneOf s reads → is_it models model id s ≡ true → row_for s ≡ plain_row info r.values
        alike r as_read s among it =
            let keys = is-it models model id s it in
            let other = reads-as s among keys.0 keys.1 kept there in
            let same : s.values ≡ r.values = one (kept_fields info) s.values r.values other.hold as_read.hold (sym other.body ∙ as_read.body) in
            row_for-plain s ((read s among).read_as.hold) ∙ (λ i. plain_row (same-info s among keys.0 i) (same i))

    pub none-made : kept_row_at store model id ≡ None → row_at made model id ≡ None
    none-made none = after-none models model id reads before infos (of-each (λ r. is_it models model id r ≡ false) reads not-it) (none-before model id)
      where
        not-it : (r : ReadRow) → IsOneOf r reads → is_it models model id r ≡ false
        not-it r among = by (is_it models model id r) refl
          where
            by : (b : Bool) → is_it models model id r ≡ b → b ≡ false
            by true it =
                let keys = is-it models model id r it in
                absurd (let both : Some r.row ≡ None = sym (kept-there r among) ∙ (λ i. kept_row_at store (keys.0 i) (keys.1 i)) ∙ none in cc)
            by false it = refl

  -- they are those of the plain values
  pub are-plain : Fits models made → ArePlain models store made
  are-plain fits = record { fits = fits; rows = rows }
    where
      rows : (model : ModelNo) → IsSomeAnd (model_at models model) (HasRowsOf models store made model) ⊎ (model_at models model ≡ None)
      rows model = by (model_at models model) refl
        where
          by : (o : Option ModelInfo) → model_at models model ≡ o → IsSomeAnd o (HasRowsOf models store made model) ⊎ (o ≡ None)
          by None is = inr refl
          by (Some info) is = inl (record {
            there = λ id kept there. (let m = is-made model info is id kept there in (m.from.values, m.read_as, m.made_is));
            none = λ id none. none-made model info is id none;
            next = told.next model (ap is_some is) (low model (ap is_some is)) ∙ sym (next-made model);
          })

  -- where what is stored is right, the store keeps them
  module _ (sound : AreSound models made) (tested : AllByRecursion (λ s. val models made s.0 ≡ Ok s.1) (flat_map tests_of reads)) where
    values-kept : (model : ModelNo) (info : ModelInfo) → model_at models model ≡ Some info → (id : RecId) (kept : KeptRow) (m : IsMade model info id kept) → m.from.values ≡ map (kept_value models made model id) (kept_columns info)
    values-kept model info is id kept m =
        let g = each_of info m.from.values in
        let back = each-back info m.from.values m.read_as.hold in
        let row_is : row_at made model id ≡ Some (plain_row info (map g (kept_columns info))) = m.made_is ∙ ap (λ (vs : List Value). Some (plain_row info vs)) (sym back) in
        let own = of-flat (λ s. val models made s.0 ≡ Ok s.1) tests_of reads m.from tested m.among in
        let own_here = subst (λ (es : List (Column × Value)). AllByRecursion (λ s. val models made s.0 ≡ Ok s.1) (filter_map (stored_of model id) es)) (ap (entries info.fields) (sym back) ∙ zip-map g (kept_columns info)) (shift own) in
        sym back
        ∙ values-agree (λ c. IsColumn is_kept info.fields c × (is_plain_kept c.1 ≡ false → val models made (record { model = model; id = id; field = record { 0 = c.0 } }) ≡ Ok (g c))) g (kept_value models made model id)
        (λ c known. by g row_is c (is_plain_kept c.1) refl known.0 known.1) (kept_columns info)
        (of-both (IsColumn is_kept info.fields) (λ c. is_plain_kept c.1 ≡ false → val models made (record { model = model; id = id; field = record { 0 = c.0 } }) ≡ Ok (g c)) (kept_columns info) (columns-at is_kept info)
        (stored-each (λ s. val models made s.0 ≡ Ok s.1) model id g (kept_columns info) own_here))
      where
        shift : AllByRecursion (λ s. val models made s.0 ≡ Ok s.1) (tests_of m.from) → AllByRecursion (λ s. val models made s.0 ≡ Ok s.1) (filter_map (stored_of model id) (entries info.fields m.from.values))
        shift all =
            let path : tests_of m.from ≡ filter_map (stored_of model id) (entries info.fields m.from.values) = λ i. filter_map (stored_of (m.model_is i) (m.id_is i)) (entries (m.info_is i).fields m.from.values) in
            subst (λ (l : List (Cell × Value)). AllByRecursion (λ s. val models made s.0 ≡ Ok s.1) l) path all

        by : (g : Column → Value) → row_at made model id ≡ Some (plain_row info (map g (kept_columns info))) → (c : Column) (b : Bool) → is_plain_kept c.1 ≡ b → IsColumn is_kept info.fields c
            → (is_plain_kept c.1 ≡ false → val models made (record { model = model; id = id; field = record { 0 = c.0 } }) ≡ Ok (g c)) → g c ≡ kept_value models made model id c
        by g row_is c true plain at right =
            let row = plain_row info (map g (kept_columns info)) in
            let kept_is : kept_in row (record { 0 = c.0 }) ≡ g c = ap (λ (o : Option Value). unwrap_or o value.Nil) (get-plain_row info g c.0 ∙ kept-at g info.fields c (record { at = at.at; passes = plain })) in
            sym (ap (λ (r : Result Value Lack). result_unwrap_or r value.Nil) (val-plain models made registry sound model id info row is row_is c.0 c.1 at.at plain) ∙ kept_is)
        by g row_is c false plain at right = sym (ap (λ (r : Result Value Lack). result_unwrap_or r value.Nil) (right plain))

    pub keeps-made : Kept models made store
    keeps-made model = by (model_at models model) refl
      where
        by : (o : Option ModelInfo) → model_at models model ≡ o → IfSome o (KeepsModel models made store model)
        by None is = tt
        by (Some info) is = record { rows = λ id. rows id (kept_row_at store model id) refl; next = told.next model (ap is_some is) (low model (ap is_some is)) ∙ sym (next-made model) }
          where
            rows : (id : RecId) (k : Option KeptRow) → kept_row_at store model id ≡ k → kept_row_at store model id ≡ option_map (kept_row models made model info id) (row_at made model id)
            rows id None none = none ∙ sym (ap (option_map (kept_row models made model info id)) (none-made model info is id none))
            rows id (Some kept) there =
                let m = is-made model info is id kept there in
                let values = values-kept model info is id kept m in
                let id_is : kept.id ≡ id = sym (ap (λ (k : KeptRow). k.id) m.row_is) ∙ m.id_is in
                let body_is : kept.body ≡ row_form (kept_fields info) (map (kept_value models made model id) (kept_columns info)) = m.read_as.body ∙ ap (row_form (kept_fields info)) values in
                let same : kept ≡ kept_row models made model info id (plain_row info m.from.values) = λ i. record { id = id_is i; body = body_is i; links = m.read_as.links i } in
                there ∙ ap Some same ∙ sym (ap (option_map (kept_row models made model info id)) m.made_is)
