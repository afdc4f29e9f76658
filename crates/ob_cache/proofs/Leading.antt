-- Which rows lead to a row: those that are found from the other side.
use Rattle.std.proofs.Common.{◌≡◌, ◌==◌, ◌||◌, ℕ, zero, suc, Bool, true, false, cond, List, [], ◌∷◌, map, filter, Option, Some, None, Result, Ok, Err, is_some, IsSome, inl, inr, refl, sym, ap, subst, ◌∙◌, arith}
use Rattle.std.specs.Prelude.{IfOk, option_and_then, slice_get}
use Rattle.std.specs.List.{list_any}
use Rattle.std.specs.Option.{option_map_or, option_or}
use Rattle.std.proofs.lemmas.Option.{same_Some}
use Rattle.ob_base.specs.Rising.{IsRising}
use Rattle.ob_base.specs.declared.id.Cell.{Cell}
use Rattle.ob_base.specs.declared.id.FieldNo.{FieldNo}
use Rattle.ob_base.specs.declared.id.ModelNo.{ModelNo}
use Rattle.ob_base.specs.declared.id.RecId.{RecId}
use Rattle.ob_base.specs.declared.value.Value.{Value}
use Rattle.ob_base.specs.declared.value.Value.TheVariants as value
use Rattle.ob_cache.proofs.Rises.{any-at, at-any, at-filtered, filtered-at, rising-filter, same-rising}
use Rattle.ob_definition.specs.Keys.{is_many2many, is_many2one}
use Rattle.ob_definition.specs.Types.{is_one2many, is_relation}
use Rattle.ob_definition.specs.declared.field_type.FieldType.{FieldType}
use Rattle.ob_definition.specs.declared.field_type.FieldType.TheVariants as type
use Rattle.ob_io.proofs.CallerLemmas.{rising-from_sorted}
use Rattle.ob_schema.specs.Fields.{is_plain_from}
use Rattle.ob_schema.specs.Links.{Leads, leading_to, leads_from, led_from, led_to}
use Rattle.ob_schema.specs.Models.{FieldHas, IsField, IsOriginIn, IsPlainTo, IsRegistry, LeadsBack, field_at}
use Rattle.ob_schema.specs.Plain.{names, naming, naming_back, plain_at, plain_by, plain_from, targets_of}
use Rattle.ob_schema.specs.Tables.{PlainRow, Tables, ids_in, kept_in, row_at, rows_in}
use Rattle.ob_schema.specs.declared.info.FieldInfo.{FieldInfo}
use Rattle.ob_schema.specs.declared.info.ModelInfo.{ModelInfo}
use Rattle.ob_schema.specs.declared.info.Origin.{Origin}
use Rattle.ob_schema.specs.declared.info.Origin.TheVariants as origin
use Rattle.ob_tables.proofs.CallerLemmas.{Field-at, HasAt, Stands, at-names, ids-rise, ids-there, known_if, names-at, rows_in-there, there-ids, there_is, told_and}

no-is-not-yes : false ≡ true → ⊥
no-is-not-yes is = cc

none-is-not-some : {X : Type 0} (x : X) → None ≡ Some x → ⊥
none-is-not-some x is = cc

-- there is one, or not
split-option : {X P : Type 0} (o : Option X) → (o ≡ None → P) → ((x : X) → o ≡ Some x → P) → P
split-option None none some = none refl
split-option (Some x) none some = some x refl

-- what follows from two facts of an answer holds of it
pub both-ok : {X E : Type 0} (r : Result X E) (P Q R : X → Type 0) → ((x : X) → P x → Q x → R x) → IfOk r P → IfOk r Q → IfOk r R
both-ok (Ok x) P Q R follows p q = follows x p q
both-ok (Err e) P Q R follows p q = tt

-- of two where there is none neither is there
pub or-none : {X : Type 0} (a b : Option X) → option_or a b ≡ None → (a ≡ None) × (b ≡ None)
or-none None None is = (refl, refl)
or-none None (Some x) is = absurd (none-is-not-some x (sym is))
or-none (Some x) b is = absurd (none-is-not-some x (sym is))

-- ---- fields that lead to rows

plain-origin : (o : Origin) → is_plain_from o ≡ true → o ≡ origin.Plain
plain-origin origin.Id is = absurd (no-is-not-yes is)
plain-origin origin.Plain is = refl
plain-origin (origin.Delegated to) is = absurd (no-is-not-yes is)
plain-origin (origin.Computed formula) is = absurd (no-is-not-yes is)

many2one-lists-none : (t : FieldType) → is_many2one t ≡ true → is_one2many t ≡ false
many2one-lists-none type.One2many is = absurd (no-is-not-yes is)
many2one-lists-none type.Boolean is = refl
many2one-lists-none type.Integer is = refl
many2one-lists-none type.Char is = refl
many2one-lists-none type.Text is = refl
many2one-lists-none type.Date is = refl
many2one-lists-none type.Datetime is = refl
many2one-lists-none type.Selection is = refl
many2one-lists-none type.Many2one is = refl
many2one-lists-none type.Many2many is = refl

many2many-lists-none : (t : FieldType) → is_many2many t ≡ true → is_one2many t ≡ false
many2many-lists-none type.One2many is = absurd (no-is-not-yes is)
many2many-lists-none type.Boolean is = refl
many2many-lists-none type.Integer is = refl
many2many-lists-none type.Char is = refl
many2many-lists-none type.Text is = refl
many2many-lists-none type.Date is = refl
many2many-lists-none type.Datetime is = refl
many2many-lists-none type.Selection is = refl
many2many-lists-none type.Many2one is = refl
many2many-lists-none type.Many2many is = refl

none-where-no : {X : Type 0} (o : Option X) → is_some o ≡ false → o ≡ None
none-where-no None is = refl
none-where-no (Some x) is = absurd (no-is-not-yes (sym is))

-- a plain field that keeps what it leads to
pub record KeepsLinks (models : List ModelInfo) (model : ModelNo) (number : FieldNo) (field : FieldInfo) : Type 0 where
  pub at : field_at models model number ≡ Some field
  pub plain : field.origin ≡ origin.Plain
  pub no_inverse : field.inverse ≡ None
  pub no_mirror : field.mirror ≡ None

module _ (models : List ModelInfo) (registry : IsRegistry models) where
  -- the field `id` leads to no model
  pub id-alone : (model : ModelNo) (number : FieldNo) (f : FieldInfo) → field_at models model number ≡ Some f → f.origin ≡ origin.Id → f.relation ≡ None
  id-alone model number f at id =
      let own = Field-at models model number f registry at in
      let integer : f.field_type ≡ type.Integer = subst (λ (o : Origin). IsOriginIn models model own.info f o) id own.right.origin in
      none-where-no f.relation (own.right.relation_alone ∙ ap is_relation integer)

  -- what leads without a model is the field `id`, and what leads to one is plain
  pub leads-alone : (model : ModelNo) (number : FieldNo) (f : FieldInfo) → field_at models model number ≡ Some f → Leads f → f.relation ≡ None → f.origin ≡ origin.Id
  leads-alone model number f at leads none = by f.origin refl leads
    where
      by : (o : Origin) → f.origin ≡ o → leads_from o f ≡ true → f.origin ≡ origin.Id
      by origin.Id is leads = is
      by origin.Plain is leads = absurd (no-is-not-yes (sym (sym (Field-at models model number f registry at).right.relation_alone ∙ ap is_some none) ∙ leads))
      by (origin.Delegated to) is leads = absurd (no-is-not-yes leads)
      by (origin.Computed formula) is leads = absurd (no-is-not-yes leads)

  pub leads-plain : (model : ModelNo) (number : FieldNo) (f : FieldInfo) → field_at models model number ≡ Some f → Leads f → (target : ModelNo) → f.relation ≡ Some target → f.origin ≡ origin.Plain
  leads-plain model number f at leads target some = by f.origin refl leads
    where
      by : (o : Origin) → f.origin ≡ o → leads_from o f ≡ true → f.origin ≡ origin.Plain
      by origin.Plain is leads = is
      by origin.Id is leads = absurd (none-is-not-some target (sym (id-alone model number f at is) ∙ some))
      by (origin.Delegated to) is leads = absurd (no-is-not-yes leads)
      by (origin.Computed formula) is leads = absurd (no-is-not-yes leads)

  back-keeps : (model : ModelNo) (f : FieldInfo) (test : FieldType → Bool) → ((t : FieldType) → test t ≡ true → is_one2many t ≡ false) → (target : ModelNo)
      → f.relation ≡ Some target → (back : FieldNo) → LeadsBack models model f test back
      → (other : FieldInfo) × KeepsLinks models target back other × Leads other
  back-keeps model f test lists_none target to back leads =
      let there = told_and f.relation (λ t. FieldHas models (λ other. IsPlainTo model other × (test other.field_type ≡ true) × (other.mirror ≡ None)) t back) leads in
      let field = told_and (field_at models there.0 back) (λ other. IsPlainTo model other × (test other.field_type ≡ true) × (other.mirror ≡ None)) there.2 in
      let other = field.0 in
      let same : there.0 ≡ target = same_Some there.0 target (sym there.1 ∙ to) in
      let at : field_at models target back ≡ Some other = ap (λ (m : ModelNo). field_at models m back) (sym same) ∙ field.1 in
      let right = (Field-at models target back other registry at).right in
      let plain : other.origin ≡ origin.Plain = plain-origin other.origin field.2.0.plain in
      let keeps : KeepsLinks models target back other = record {
        at = at;
        plain = plain;
        no_inverse = none-where-no other.inverse (right.inverse ∙ lists_none other.field_type field.2.1);
        no_mirror = field.2.2;
      } in
      let leads_on : Leads other = ap (λ (o : Origin). leads_from o other) plain ∙ sym right.relation_alone ∙ ap is_some field.2.0.leads in
      (other, keeps, leads_on)

  -- the field back keeps what it leads to
  pub field-back : (model : ModelNo) (number : FieldNo) (f : FieldInfo) → field_at models model number ≡ Some f → f.origin ≡ origin.Plain → (target : ModelNo) → f.relation ≡ Some target
      → (back : FieldNo) → option_or f.inverse f.mirror ≡ Some back
      → (other : FieldInfo) × KeepsLinks models target back other × Leads other
  field-back model number f at plain target to back is = by f.inverse f.mirror refl refl is
    where
      right : IsField models model (Field-at models model number f registry at).info f
      right = (Field-at models model number f registry at).right

      is_plain : is_plain_from f.origin ≡ true
      is_plain = ap is_plain_from plain

      by : (inverse mirror : Option FieldNo) → f.inverse ≡ inverse → f.mirror ≡ mirror → option_or inverse mirror ≡ Some back → (other : FieldInfo) × KeepsLinks models target back other × Leads other
      by (Some inverse) mirror inverse_is mirror_is is =
          back-keeps model f is_many2one many2one-lists-none target to back
          (known_if f.inverse back (LeadsBack models model f is_many2one) (inverse_is ∙ is) (right.inverse_back is_plain))
      by None (Some mirror) inverse_is mirror_is is =
          back-keeps model f is_many2many many2many-lists-none target to back
          (known_if f.mirror back (LeadsBack models model f is_many2many) (mirror_is ∙ is) (right.mirror_back is_plain))
      by None None inverse_is mirror_is is = absurd (none-is-not-some back is)

-- ---- where cells lead

module _ (models : List ModelInfo) (t : Tables) (c : Cell) (f : FieldInfo) (at : field_at models c.model c.field ≡ Some f) where
  led-is : led_to models t c ≡ led_from models t f.origin c
  led-is = ap (λ (i : Option FieldInfo). option_map_or (λ (g : FieldInfo). led_from models t g.origin c) i []) at

  pub led-own : f.origin ≡ origin.Id → led_to models t c ≡ cond (is_some (row_at t c.model c.id)) (c.id ∷ []) []
  led-own id = led-is ∙ ap (λ (o : Origin). led_from models t o c) id

  plain-is : plain_at t models c ≡ option_and_then (plain_from t f.origin f c.field c.id) (row_at t c.model c.id)
  plain-is = ap (λ (i : Option FieldInfo). option_and_then (λ g. option_and_then (plain_from t g.origin g c.field c.id) (row_at t c.model c.id)) i) at

  led-plain : f.origin ≡ origin.Plain → (row : Option PlainRow) → row_at t c.model c.id ≡ row → led_to models t c ≡ option_map_or targets_of (option_and_then (plain_from t origin.Plain f c.field c.id) row) []
  led-plain plain row there =
      led-is ∙ ap (λ (o : Origin). led_from models t o c) plain
      ∙ ap (λ (v : Option Value). option_map_or targets_of v [])
      (plain-is ∙ ap (λ (o : Origin). option_and_then (plain_from t o f c.field c.id) (row_at t c.model c.id)) plain ∙ ap (option_and_then (plain_from t origin.Plain f c.field c.id)) there)

  pub led-none : f.origin ≡ origin.Plain → row_at t c.model c.id ≡ None → led_to models t c ≡ []
  led-none plain none = led-plain plain None none

  pub led-by : f.origin ≡ origin.Plain → (row : PlainRow) → row_at t c.model c.id ≡ Some row → led_to models t c ≡ targets_of (plain_by t f.inverse f.mirror f c.field c.id row)
  led-by plain row there = led-plain plain (Some row) there

  pub led-kept : KeepsLinks models c.model c.field f → (row : PlainRow) → row_at t c.model c.id ≡ Some row → led_to models t c ≡ targets_of (kept_in row c.field)
  led-kept keeps row there =
      led-by keeps.plain row there ∙ ap (λ (o : Option FieldNo). targets_of (plain_by t o f.mirror f c.field c.id row)) keeps.no_inverse
      ∙ ap (λ (o : Option FieldNo). targets_of (plain_by t None o f c.field c.id row)) keeps.no_mirror

  pub led-back : f.origin ≡ origin.Plain → (target : ModelNo) → f.relation ≡ Some target → (back : FieldNo) → option_or f.inverse f.mirror ≡ Some back → (row : PlainRow) → row_at t c.model c.id ≡ Some row
      → led_to models t c ≡ naming t target back c.id
  led-back plain target to back is row there = led-by plain row there ∙ by f.inverse f.mirror is
    where
      listed : (number : FieldNo) → number ≡ back → targets_of (naming_back t f.relation number c.id) ≡ naming t target back c.id
      listed number same = ap (λ (n : FieldNo). targets_of (naming_back t f.relation n c.id)) same ∙ ap (λ (r : Option ModelNo). targets_of (naming_back t r back c.id)) to

      by : (inverse mirror : Option FieldNo) → option_or inverse mirror ≡ Some back → targets_of (plain_by t inverse mirror f c.field c.id row) ≡ naming t target back c.id
      by (Some inverse) mirror is = listed inverse (same_Some inverse back is)
      by None (Some mirror) is = listed mirror (same_Some mirror back is)
      by None None is = absurd (none-is-not-some back is)

-- ---- the rows that name a row

-- the firsts of the pairs that a test keeps are those that a test of them keeps
firsts-filter : {X Y : Type 0} (p : X × Y → Bool) (q : X → Bool) (es : List (X × Y)) → ((e : X × Y) → Stands e es → p e ≡ q e.0) → map (λ (e : X × Y). e.0) (filter p es) ≡ filter q (map (λ (e : X × Y). e.0) es)
firsts-filter p q [] same = refl
firsts-filter {X = X} {Y = Y} p q (e ∷ es) same = by (q e.0) (p e) (same e (inl refl)) (firsts-filter p q es (λ d among. same d (inr among)))
  where
    either : (b : Bool) → map (λ (d : X × Y). d.0) (filter p es) ≡ filter q (map (λ (d : X × Y). d.0) es)
        → map (λ (d : X × Y). d.0) (cond b (e ∷ filter p es) (filter p es)) ≡ cond b (e.0 ∷ filter q (map (λ (d : X × Y). d.0) es)) (filter q (map (λ (d : X × Y). d.0) es))
    either true rest = ap (λ (l : List X). e.0 ∷ l) rest
    either false rest = rest

    by : (b a : Bool) → a ≡ b → map (λ (d : X × Y). d.0) (filter p es) ≡ filter q (map (λ (d : X × Y). d.0) es)
        → map (λ (d : X × Y). d.0) (cond a (e ∷ filter p es) (filter p es)) ≡ cond b (e.0 ∷ filter q (map (λ (d : X × Y). d.0) es)) (filter q (map (λ (d : X × Y). d.0) es))
    by b a is rest = ap (λ (x : Bool). map (λ (d : X × Y). d.0) (cond x (e ∷ filter p es) (filter p es))) is ∙ either b rest

-- whether the row of an id names a row
abbrev names-it : Tables → ModelNo → FieldNo → RecId → RecId → Bool
names-it t model field target id = option_map_or (λ row. names target (kept_in row field)) (row_at t model id) false

naming-filter : (t : Tables) (model : ModelNo) (field : FieldNo) (target : RecId) → naming t model field target ≡ filter (names-it t model field target) (ids_in t model)
naming-filter t model field target =
    firsts-filter (λ (e : RecId × PlainRow). names target (kept_in e.1 field)) (names-it t model field target) (rows_in t model)
    (λ e among. sym (ap (λ (r : Option PlainRow). option_map_or (λ row. names target (kept_in row field)) r false) (rows_in-there t model e among)))

-- filters by tests that agree are the same
filters-agree : {X : Type 0} (p q : X → Bool) → ((x : X) → p x ≡ q x) → (xs : List X) → filter p xs ≡ filter q xs
filters-agree p q same [] = refl
filters-agree {X = X} p q same (x ∷ xs) = ap (λ (b : Bool). cond b (x ∷ filter p xs) (filter p xs)) (same x) ∙ ap (λ (l : List X). cond (q x) (x ∷ l) l) (filters-agree p q same xs)

-- whether a value names a row is whether its targets have it
names-any : (v : Value) (target : RecId) → names target v ≡ list_any (λ other. other.0 == target.0) (targets_of v)
names-any (value.Ref other) target = or-false (other.0 == target.0)
  where
    or-false : (b : Bool) → b ≡ (b || false)
    or-false true = refl
    or-false false = refl
names-any (value.Refs ids) target = refl
names-any value.Nil target = refl
names-any (value.Bool b) target = refl
names-any (value.Int n) target = refl
names-any (value.Word text) target = refl
names-any (value.Day day) target = refl
names-any (value.Moment moment) target = refl

-- a list of one id, or of none, rises
lone-rises : (b : Bool) (x : RecId) → IsRising (cond b (x ∷ []) [])
lone-rises true x = λ k within. absurd (omega arith)
lone-rises false x = λ k within. absurd (omega arith)

-- ---- the rows that lead to one

module _ (models : List ModelInfo) (t : Tables) (registry : IsRegistry models) (model : ModelNo) (number : FieldNo) (target : RecId) (f : FieldInfo) (at : field_at models model number ≡ Some f) where
  abbrev cell_of : RecId → Cell
  cell_of id = record { model = model; id = id; field = number }

  abbrev leads-it : RecId → Bool
  leads-it id = list_any (λ other. other.0 == target.0) (led_to models t (record { model = model; id = id; field = number }))

  ids-rising : IsRising (ids_in t model)
  ids-rising = rising-from_sorted (ids_in t model) (ids-rise model t)

  leading-rises : IsRising (leading_to models t model number target)
  leading-rises = rising-filter leads-it (ids_in t model) ids-rising

  -- rising ids are those that lead to the row, where they have the same
  leading-same : (ids : List RecId) → IsRising ids → ((z : RecId) → HasAt ids z → IsSome (row_at t model z) × (leads-it z ≡ true)) → ((z : RecId) → IsSome (row_at t model z) → leads-it z ≡ true → HasAt ids z)
      → ids ≡ leading_to models t model number target
  leading-same ids rising to from =
      same-rising ids (leading_to models t model number target) rising leading-rises
      (λ z among. let known = to z among in filtered-at leads-it (ids_in t model) z (there-ids t model z known.0) known.1)
      (λ z among. let parts = at-filtered leads-it (ids_in t model) z among in from z (ids-there t model parts.0.0 z parts.0.1) parts.1)

  -- by `id`: the row itself, where it is there
  pub leading-own : f.origin ≡ origin.Id → (ids : List RecId) → ids ≡ cond (is_some (row_at t model target)) (target ∷ []) [] → ids ≡ leading_to models t model number target
  leading-own id ids is = leading-same ids (subst IsRising (sym is) (lone-rises (is_some (row_at t model target)) target)) to from
    where
      lone : (b : Bool) (x z : RecId) → HasAt (cond b (x ∷ []) []) z → (b ≡ true) × (x ≡ z)
      lone false x z among = absurd (none-is-not-some z among.1)
      lone true x z among = (refl, first among.0 among.1)
        where
          first : (k : ℕ) → slice_get (x ∷ []) k ≡ Some z → x ≡ z
          first zero is = same_Some x z is
          first (suc k) is = absurd (none-is-not-some z is)

      alone : (b : Bool) (x : RecId) → b ≡ true → HasAt (cond b (x ∷ []) []) x
      alone true x is = (0, refl)
      alone false x is = absurd (no-is-not-yes is)

      to : (z : RecId) → HasAt ids z → IsSome (row_at t model z) × (leads-it z ≡ true)
      to z among =
          let known = lone (is_some (row_at t model target)) target z (subst (λ (l : List RecId). HasAt l z) is among) in
          let there : IsSome (row_at t model z) = subst (λ (x : RecId). IsSome (row_at t model x)) known.1 known.0 in (
            there,
            at-any target (led_to models t (cell_of z))
                (subst (λ (l : List RecId). HasAt l target) (sym (led-own models t (cell_of z) f at id))
                (subst (λ (x : RecId). HasAt (cond (is_some (row_at t model z)) (z ∷ []) []) x) (sym known.1) (alone (is_some (row_at t model z)) z there))),
          )

      from : (z : RecId) → IsSome (row_at t model z) → leads-it z ≡ true → HasAt ids z
      from z there leads =
          let known = lone (is_some (row_at t model z)) z target (subst (λ (l : List RecId). HasAt l target) (led-own models t (cell_of z) f at id) (any-at target (led_to models t (cell_of z)) leads)) in
          subst (λ (l : List RecId). HasAt l z) (sym is)
          (subst (λ (x : RecId). HasAt (cond (is_some (row_at t model target)) (target ∷ []) []) x) (sym known.1)
          (alone (is_some (row_at t model target)) target (subst (λ (x : RecId). IsSome (row_at t model x)) known.1 there)))

  -- by a field that keeps what it leads to: those that name the row
  pub leading-kept : KeepsLinks models model number f → naming t model number target ≡ leading_to models t model number target
  leading-kept keeps = naming-filter t model number target ∙ filters-agree (names-it t model number target) leads-it each (ids_in t model)
    where
      each : (z : RecId) → names-it t model number target z ≡ leads-it z
      each z = split-option (row_at t model z)
          (λ none. ap (λ (r : Option PlainRow). option_map_or (λ row. names target (kept_in row number)) r false) none ∙ sym (ap (list_any (λ other. other.0 == target.0)) (led-none models t (cell_of z) f at keeps.plain none)))
          (λ row there. ap (λ (r : Option PlainRow). option_map_or (λ row. names target (kept_in row number)) r false) there ∙ names-any (kept_in row number) target
          ∙ sym (ap (list_any (λ other. other.0 == target.0)) (led-kept models t (cell_of z) f at keeps row there)))

  -- by a list: those to which the row leads by the field back
  pub leading-back : f.origin ≡ origin.Plain → (relation : ModelNo) → f.relation ≡ Some relation → (back : FieldNo) → option_or f.inverse f.mirror ≡ Some back → (other : FieldInfo) → KeepsLinks models relation back other
      → (ids : List RecId) → IsRising ids → ids ≡ filter (λ id. is_some (row_at t model id)) (led_to models t (record { model = relation; id = target; field = back })) → ids ≡ leading_to models t model number target
  leading-back plain relation to_relation back is_back other keeps ids rising is = leading-same ids rising to from
    where
      other_cell : Cell
      other_cell = record { model = relation; id = target; field = back }

      -- the row leads to one exactly where that has it in its list
      led-there : (z : RecId) → HasAt (led_to models t other_cell) z → HasAt (naming t relation back z) target
      led-there z among = split-option (row_at t relation target)
          (λ none. absurd (nothing z (subst (λ (l : List RecId). HasAt l z) (led-none models t other_cell other keeps.at keeps.plain none) among)))
          (λ row there.
          let named = subst (λ (l : List RecId). HasAt l z) (led-kept models t other_cell other keeps.at keeps row there) among in
          subst (λ (l : List RecId). HasAt l target) (sym (naming-filter t relation back z))
          (filtered-at (names-it t relation back z) (ids_in t relation) target (there-ids t relation target (there_is (row_at t relation target) row there))
          (ap (λ (r : Option PlainRow). option_map_or (λ row. names z (kept_in row back)) r false) there ∙ at-names (kept_in row back) named.0 z named.1)))
        where
          nothing : (z : RecId) → HasAt [] z → ⊥
          nothing z among = none-is-not-some z among.1

      there-led : (z : RecId) → HasAt (naming t relation back z) target → HasAt (led_to models t other_cell) z
      there-led z among =
          let parts = at-filtered (names-it t relation back z) (ids_in t relation) target (subst (λ (l : List RecId). HasAt l target) (naming-filter t relation back z) among) in
          split-option (row_at t relation target)
          (λ none. absurd (no-is-not-yes (sym (ap (λ (r : Option PlainRow). option_map_or (λ row. names z (kept_in row back)) r false) none) ∙ parts.1)))
          (λ row there.
          subst (λ (l : List RecId). HasAt l z) (sym (led-kept models t other_cell other keeps.at keeps row there))
          (names-at (kept_in row back) z (sym (ap (λ (r : Option PlainRow). option_map_or (λ row. names z (kept_in row back)) r false) there) ∙ parts.1)))

      listed : (z : RecId) → IsSome (row_at t model z) → led_to models t (cell_of z) ≡ naming t relation back z
      listed z there = split-option (row_at t model z) (λ none. absurd (no-is-not-yes (sym (ap is_some none) ∙ there)))
          (λ row is_row. led-back models t (cell_of z) f at plain relation to_relation back is_back row is_row)

      to : (z : RecId) → HasAt ids z → IsSome (row_at t model z) × (leads-it z ≡ true)
      to z among =
          let parts = at-filtered (λ id. is_some (row_at t model id)) (led_to models t other_cell) z (subst (λ (l : List RecId). HasAt l z) is among) in
          (parts.1, at-any target (led_to models t (cell_of z)) (subst (λ (l : List RecId). HasAt l target) (sym (listed z parts.1)) (led-there z parts.0)))

      from : (z : RecId) → IsSome (row_at t model z) → leads-it z ≡ true → HasAt ids z
      from z there leads =
          subst (λ (l : List RecId). HasAt l z) (sym is)
          (filtered-at (λ id. is_some (row_at t model id)) (led_to models t other_cell) z (there-led z (subst (λ (l : List RecId). HasAt l target) (listed z there) (any-at target (led_to models t (cell_of z)) leads))) there)
