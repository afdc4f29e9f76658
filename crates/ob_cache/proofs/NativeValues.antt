-- The values from scratch of sound tables over a registry with native constants are native.
use Rattle.std.proofs.Common.{◌≡◌, ℕ, zero, suc, ◌+◌, ◌-◌, ◌^◌, ◌<◌, ◌≤◌, inl, inr, pos, negsuc, ℤ, Bool, true, false, not, cond, List, [], ◌∷◌, min, length}
use Rattle.std.proofs.Common.{Option, Some, None, unwrap_or, is_some, is_none, Result, Ok, Err, FitsSigned, w64, refl, sym, ap, subst, ◌∙◌, arith}
use Rattle.std.specs.Prelude.{All, IsSomeAnd, option_and_then}
use Rattle.std.specs.FinMap as finite
use Rattle.std.specs.List.{AllByRecursion}
use Rattle.std.specs.List.Sorted.{IsStrictlySortedBy}
use Rattle.std.specs.Option.{option_map_or}
use Rattle.std.specs.Result.{result_ok}
use Rattle.std.specs.Str.{IsUtf8}
use Rattle.std.specs.declared.cmp.Ordering.TheVariants.{Less}
use Rattle.std.proofs.lemmas.Bool.{and_parts}
use Rattle.std.proofs.lemmas.Cmp.{ranked}
use Rattle.std.proofs.lemmas.Int.{ints}
use Rattle.std.proofs.lemmas.List.Elements.{All-contains, All-map}
use Rattle.std.proofs.lemmas.Map.Keys.{sorted_head, sorted_tail}
use Rattle.std.proofs.lemmas.Option.{same_Some}
use Rattle.ob_base.specs.Limits.{max_id, max_targets}
use Rattle.ob_base.specs.Times.{IsDay, IsMoment}
use Rattle.ob_base.specs.declared.id.Cell.{Cell}
use Rattle.ob_base.specs.declared.id.FieldNo.{FieldNo}
use Rattle.ob_base.specs.declared.id.ModelNo.{ModelNo}
use Rattle.ob_base.specs.declared.id.RecId.{RecId}
use Rattle.ob_base.specs.declared.value.Value.{Value}
use Rattle.ob_base.specs.declared.value.Value.TheVariants as value
use Rattle.ob_cache.specs.Native.{HasNativeFormula, IsNativeRegistry}
use Rattle.ob_cache.proofs.NativeMeaning.{IsProper, bool-proper, int-proper, meaning-proper, nil-proper, ref-proper, refs-proper, word-proper}
use Rattle.ob_cache.proofs.SoundForms.{field-of, id-within, plain-holds}
use Rattle.ob_definition.specs.Types.{is_one2many}
use Rattle.ob_definition.specs.Values.{IsNative, IsValueOf, initial_value, keys_of}
use Rattle.ob_definition.specs.declared.field_type.Choice.{Choice}
use Rattle.ob_definition.specs.declared.field_type.FieldType.{FieldType}
use Rattle.ob_definition.specs.declared.field_type.FieldType.TheVariants as type
use Rattle.ob_expr.specs.Computing.{Lack, overflow, too_long, zero_divisor, unread}
use Rattle.ob_expr.specs.Meaning.{follow, meaning, row_of, value_at}
use Rattle.ob_expr.specs.Reads.{IsAmong}
use Rattle.ob_expr.specs.TypedTree.{typed_tree_of}
use Rattle.ob_expr.proofs.CallerLemmas.{then_ok}
use Rattle.ob_schema.specs.Broken.{AreSound}
use Rattle.ob_schema.specs.Built.{numbered}
use Rattle.ob_schema.specs.Fields.{is_own, is_plain_from, is_plain_kept}
use Rattle.ob_schema.specs.Limited.{is_short, limited, text_limit}
use Rattle.ob_schema.specs.Models.{IsRegistry, field_at, model_at}
use Rattle.ob_schema.specs.Plain.{id_value, naming, plain_at, plain_by, plain_from}
use Rattle.ob_schema.specs.Tables.{IsRowOf, PlainRow, Tables, kept_in, row_at}
use Rattle.ob_schema.specs.Val.{behind, enough, formula_value, or_inherited, val, value_from, value_in}
use Rattle.ob_schema.specs.declared.info.FieldInfo.{FieldInfo}
use Rattle.ob_schema.specs.declared.info.ModelInfo.{ModelInfo}
use Rattle.ob_schema.specs.declared.info.Origin.{Origin}
use Rattle.ob_schema.specs.declared.info.Origin.TheVariants as origin
use Rattle.ob_tables.proofs.CallerLemmas.{held_by, id_cmp, keeps, known_if, naming-rises, naming-there, row-has, there_is, told_and, value_absent, value_there, value_unknown}

-- ---- values of a type

-- a value that the program may hold is one of its types
pub proper-native : (v : Value) → IsProper v → IsNative v
proper-native value.Nil proper = tt
proper-native (value.Bool b) proper = tt
proper-native (value.Int n) proper = proper.number
proper-native (value.Word text) proper = proper.text
proper-native (value.Day n) proper = tt
proper-native (value.Moment n) proper = tt
proper-native (value.Ref id) proper = tt
proper-native (value.Refs ids) proper = tt

day-fits : (n : ℤ) → IsDay n → FitsSigned w64 n
day-fits (pos n) day = let high = day.high in record { sfits = omega (arith, ints) }
day-fits (negsuc n) day = let low = day.low in record { sfits = omega (arith, ints) }

moment-fits : (n : ℤ) → IsMoment n → FitsSigned w64 n
moment-fits (pos n) moment = let high = moment.high in record { sfits = omega (arith, ints) }
moment-fits (negsuc n) moment = let low = moment.low in record { sfits = omega (arith, ints) }

utf8-proper : IsUtf8 []
utf8-proper = nil-proper.text

day-proper : (n : ℤ) → IsDay n → IsProper (value.Day n)
day-proper n day = record { number = day-fits n day; text = utf8-proper; few = omega arith }

moment-proper : (n : ℤ) → IsMoment n → IsProper (value.Moment n)
moment-proper n moment = record { number = moment-fits n moment; text = utf8-proper; few = omega arith }

few-targets : (n : ℕ) → n ≤ max_targets → n < 2 ^ 63
few-targets n low = omega arith

-- a value that a field may hold, whose selection has native keys
held-proper : (t : FieldType) (choices : List Choice) (v : Value) → All (λ choice. IsUtf8 choice.key) choices → IsValueOf t choices v → ((ids : List RecId) → v ≡ value.Refs ids → length ids < 2 ^ 63) → IsProper v
held-proper type.Boolean choices (value.Bool b) keys held few = bool-proper b
held-proper type.Integer choices (value.Int n) keys held few = int-proper n held
held-proper type.Char choices value.Nil keys held few = nil-proper
held-proper type.Char choices (value.Word text) keys held few = word-proper text held.utf8
held-proper type.Text choices value.Nil keys held few = nil-proper
held-proper type.Text choices (value.Word text) keys held few = word-proper text held.utf8
held-proper type.Date choices value.Nil keys held few = nil-proper
held-proper type.Date choices (value.Day n) keys held few = day-proper n held
held-proper type.Datetime choices value.Nil keys held few = nil-proper
held-proper type.Datetime choices (value.Moment n) keys held few = moment-proper n held
held-proper type.Selection choices value.Nil keys held few = nil-proper
held-proper type.Selection choices (value.Word text) keys held few = word-proper text (All-contains IsUtf8 (keys_of choices) text (All-map IsUtf8 (λ choice. choice.key) choices keys) held.declared)
held-proper type.Many2one choices value.Nil keys held few = nil-proper
held-proper type.Many2one choices (value.Ref id) keys held few = ref-proper id
held-proper type.One2many choices (value.Refs ids) keys held few = refs-proper ids (few ids refl)
held-proper type.Many2many choices (value.Refs ids) keys held few = refs-proper ids (few ids refl)
held-proper _ choices _ keys held few = absurd held

few-held : (t : FieldType) (choices : List Choice) (v : Value) → IsValueOf t choices v → (t ≡ type.One2many → ⊥) → (ids : List RecId) → v ≡ value.Refs ids → length ids < 2 ^ 63
few-held type.Many2many choices (value.Refs targets) held not ids is = subst (λ (l : List RecId). length l < 2 ^ 63) (let same : targets ≡ ids = cc in same) (few-targets (length targets) held.1)
few-held type.One2many choices v held not ids is = absurd (not refl)
few-held type.Boolean choices (value.Refs targets) held not ids is = absurd held
few-held type.Integer choices (value.Refs targets) held not ids is = absurd held
few-held type.Char choices (value.Refs targets) held not ids is = absurd held
few-held type.Text choices (value.Refs targets) held not ids is = absurd held
few-held type.Date choices (value.Refs targets) held not ids is = absurd held
few-held type.Datetime choices (value.Refs targets) held not ids is = absurd held
few-held type.Selection choices (value.Refs targets) held not ids is = absurd held
few-held type.Many2one choices (value.Refs targets) held not ids is = absurd held
few-held t choices value.Nil held not ids is = absurd (cc)
few-held t choices (value.Bool b) held not ids is = absurd (cc)
few-held t choices (value.Int n) held not ids is = absurd (cc)
few-held t choices (value.Word text) held not ids is = absurd (cc)
few-held t choices (value.Day n) held not ids is = absurd (cc)
few-held t choices (value.Moment n) held not ids is = absurd (cc)
few-held t choices (value.Ref id) held not ids is = absurd (cc)

initial-proper : (t : FieldType) → IsProper (initial_value t)
initial-proper type.Boolean = bool-proper false
initial-proper type.Integer = int-proper (pos 0) (nil-proper.number)
initial-proper type.Char = nil-proper
initial-proper type.Text = nil-proper
initial-proper type.Date = nil-proper
initial-proper type.Datetime = nil-proper
initial-proper type.Selection = nil-proper
initial-proper type.Many2one = nil-proper
initial-proper type.One2many = refs-proper [] (omega arith)
initial-proper type.Many2many = refs-proper [] (omega arith)

id-proper : (id : RecId) → IsProper (id_value id)
id-proper id = int-proper (pos (min id.0 (2 ^ 63 - 1))) (record { sfits = low (min id.0 (2 ^ 63 - 1)) (omega arith) })
  where
    low : (n : ℕ) → n ≤ 2 ^ 63 - 1 → n < 2 ^ 63
    low n le = omega arith

-- ---- lists

all-among : (P : RecId → Type 0) (ids : List RecId) → ((id : RecId) → IsAmong id ids → P id) → AllByRecursion P ids
all-among P [] each = tt
all-among P (id ∷ ids) each = (each id (inl refl), all-among P ids (λ other later. each other (inr later)))

above-all : (from : RecId) (ids : List RecId) → AllByRecursion (λ id. id_cmp from id ≡ Less) ids → AllByRecursion (λ id. from.0 + 1 ≤ id.0) ids
above-all from [] all = tt
above-all from (id ∷ ids) all = (by from.0 id.0 (ranked from.0 id.0 Less (sym all.0)), above-all from ids all.1)
  where
    by : (a b : ℕ) → a < b → a + 1 ≤ b
    by a b low = omega arith

-- rising ids within a limit are few
few-rising : (from : ℕ) (ids : List RecId) → from ≤ max_id + 1 → IsStrictlySortedBy id_cmp ids → AllByRecursion (λ id. from ≤ id.0) ids → AllByRecursion (λ id. id.0 ≤ max_id) ids → length ids + from ≤ max_id + 1
few-rising from [] start rising low high = omega arith
few-rising from (id ∷ ids) start rising low high =
    by (length ids) id.0 from (few-rising (id.0 + 1) ids (next id.0 high.0) (sorted_tail id_cmp id ids rising) (above-all id ids (sorted_head id_cmp id ids rising)) high.1) low.0
  where
    next : (i : ℕ) → i ≤ max_id → i + 1 ≤ max_id + 1
    next i le = omega arith

    by : (n i from : ℕ) → n + (i + 1) ≤ max_id + 1 → from ≤ i → suc n + from ≤ max_id + 1
    by n i from few low = omega arith

any-id : (ids : List RecId) → AllByRecursion (λ id. 0 ≤ id.0) ids
any-id [] = tt
any-id (id ∷ ids) = (omega arith, any-id ids)

-- ---- steps that have a value

same_ok : (a b : Value) → ◌≡◌ {A = Result Value Lack} (Ok a) (Ok b) → a ≡ b
same_ok a b is = cc

plain_ok : (c : Cell) (o : Option Value) (v : Value) → value_at c o ≡ Ok v → o ≡ Some v
plain_ok c (Some w) v is = let same : w ≡ v = cc in ap (λ (x : Value). Some x) same
plain_ok c None v is = absurd cc

held_ok : (m : Result Value Lack) (v : Value) → result_ok m ≡ Some v → m ≡ Ok v
held_ok (Ok w) v is = ap (λ (x : Value). Ok x) (same_Some w v is)
held_ok (Err lack) v is = absurd cc

limited_ok : (t : FieldType) (m : Result Value Lack) (v : Value) → limited t m ≡ Ok v → m ≡ Ok v
limited_ok t (Err lack) v is = absurd cc
limited_ok t (Ok w) v is = by (is_short (text_limit t) w) is
  where
    by : (b : Bool) → cond b (Ok w) (Err too_long) ≡ Ok v → ◌≡◌ {A = Result Value Lack} (Ok w) (Ok v)
    by true is = is
    by false is = absurd cc

AreProper : (Cell → Result Value Lack) → Type 0
AreProper f = (c : Cell) (v : Value) → f c ≡ Ok v → IsProper v

unfold_proper : (f : Cell → Result Value Lack) → AreProper f → (c : Cell) (v : Value) → f c ≡ Ok v → IsProper v
unfolding AreProper
unfold_proper f all = all

fold_proper : (f : Cell → Result Value Lack) → ((c : Cell) (v : Value) → f c ≡ Ok v → IsProper v) → AreProper f
unfolding AreProper
fold_proper f all = all

inherited-proper : (f : Cell → Result Value Lack) (m : Result Value Lack) (v : Value) → AreProper f → (m ≡ Ok v → IsProper v) → or_inherited f m ≡ Ok v → IsProper v
inherited-proper f (Ok w) v all own is = own is
inherited-proper f (Err overflow) v all own is = absurd cc
inherited-proper f (Err too_long) v all own is = absurd cc
inherited-proper f (Err zero_divisor) v all own is = absurd cc
inherited-proper f (Err (unread d)) v all own is = unfold_proper f all d v is

followed-proper : (next : RecId → Result Value Lack) (ended w v : Value) → ((id : RecId) → next id ≡ Ok v → IsProper v) → IsProper ended → follow next (Ok ended) w ≡ Ok v → IsProper v
followed-proper next ended (value.Ref id) v of proper is = of id is
followed-proper next ended _ v of proper is = subst IsProper (same_ok ended v is) proper

-- ---- cells

module _ (models : List ModelInfo) (tables : Tables) (registry : IsRegistry models) (native : IsNativeRegistry models) (sound : AreSound models tables) where
  naming-few : (model : ModelNo) (field : FieldNo) (id : RecId) → length (naming tables model field id) < 2 ^ 63
  naming-few model field id =
      by (length (naming tables model field id))
      (few-rising 0 (naming tables model field id) (omega arith) (naming-rises tables model field id) (any-id (naming tables model field id))
      (all-among (λ other. other.0 ≤ max_id) (naming tables model field id) (λ other among.
      let row = naming-there tables model field id other among in (id-within models tables registry sound model other (there_is (row_at tables model other) row.0 row.1)).1)))
    where
      by : (n : ℕ) → n + 0 ≤ max_id + 1 → n < 2 ^ 63
      by n few = omega arith

  naming_back-proper : (target : Option ModelNo) (back : FieldNo) (id : RecId) → IsProper (value.Refs (option_map_or (λ t. naming tables t back id) target []))
  naming_back-proper None back id = refs-proper [] (omega arith)
  naming_back-proper (Some target) back id = refs-proper (naming tables target back id) (naming-few target back id)

  kept-proper : (c : Cell) (info : FieldInfo) (row : PlainRow) → field_at models c.model c.field ≡ Some info → row_at tables c.model c.id ≡ Some row → IsProper (kept_in row c.field)
  kept-proper c info row at there =
      let m = told_and (model_at models c.model) (λ (i : ModelInfo). IsRowOf i row) (known_if (row_at tables c.model c.id) row (λ r. IsSomeAnd (model_at models c.model) (λ i. IsRowOf i r)) there (sound.fits.rows c.model c.id)) in
      by m.0 m.1 (finite.get row c.field.0) refl (row-has m.0 row m.2 c.field.0)
    where
      by : (m : ModelInfo) → model_at models c.model ≡ Some m → (o : Option Value) → finite.get row c.field.0 ≡ o → is_some (finite.get row c.field.0) ≡ keeps (numbered m.fields c.field.0) → IsProper (unwrap_or o value.Nil)
      by m model_is None is has = nil-proper
      by m model_is (Some v) is has = named (numbered m.fields c.field.0) refl (sym has ∙ ap is_some is)
        where
          named : (found : Option FieldInfo) → numbered m.fields c.field.0 ≡ found → keeps found ≡ true → IsProper v
          named None none kept = absurd cc
          named (Some field) found kept =
              let holds = plain-holds models tables registry sound c.model c.id m row model_is there c.field.0 field found kept in
              let same : kept_in row c.field ≡ v = ap (λ (o : Option Value). unwrap_or o value.Nil) is in
              let own = native c.model c.field field (field-of models c.model m c.field.0 field model_is found) in
              let held = subst (IsValueOf field.field_type field.selection) same holds in
              held-proper field.field_type field.selection v own.keys held (few-held field.field_type field.selection v held (single field kept))
            where
              single : (field : FieldInfo) → is_plain_kept field ≡ true → field.field_type ≡ type.One2many → ⊥
              single field kept one =
                  let parts = and_parts (is_plain_from field.origin) (is_own field) kept in
                  let own = and_parts (not (is_one2many field.field_type)) (is_none field.mirror) parts.1 in
                  not-one (not (is_one2many field.field_type)) own.0 (ap (λ (t : FieldType). not (is_one2many t)) one)
                where
                  not-one : (b : Bool) → b ≡ true → b ≡ false → ⊥
                  not-one b one none = cc

  plain-proper : (c : Cell) (info : FieldInfo) (row : PlainRow) (v : Value) → field_at models c.model c.field ≡ Some info → row_at tables c.model c.id ≡ Some row → plain_at tables models c ≡ Some v → IsProper v
  plain-proper c info row v at there holds =
      by info.origin (sym (ap (option_and_then (plain_from tables info.origin info c.field c.id)) there)
      ∙ sym (ap (λ (i : Option FieldInfo). option_and_then (λ i. option_and_then (plain_from tables i.origin i c.field c.id) (row_at tables c.model c.id)) i) at) ∙ holds)
    where
      row-proper : (inverse mirror : Option FieldNo) → IsProper (plain_by tables inverse mirror info c.field c.id row)
      row-proper (Some inverse) mirror = naming_back-proper info.relation inverse c.id
      row-proper None (Some mirror) = naming_back-proper info.relation mirror c.id
      row-proper None None = kept-proper c info row at there

      by : (o : Origin) → plain_from tables o info c.field c.id row ≡ Some v → IsProper v
      by origin.Id is = subst IsProper (same_Some (id_value c.id) v is) (id-proper c.id)
      by origin.Plain is = subst IsProper (same_Some (plain_by tables info.inverse info.mirror info c.field c.id row) v is) (row-proper info.inverse info.mirror)
      by (origin.Delegated to) is = absurd cc
      by (origin.Computed formula) is = absurd cc

  from-proper : (f : Cell → Result Value Lack) → AreProper f → (c : Cell) (info : FieldInfo) (row : PlainRow) (v : Value) → field_at models c.model c.field ≡ Some info → row_at tables c.model c.id ≡ Some row
      → (o : Origin) → HasNativeFormula o → value_from models tables f o info c ≡ Ok v → IsProper v
  from-proper f all c info row v at there origin.Id formula is = plain-proper c info row v at there (plain_ok c (plain_at tables models c) v is)
  from-proper f all c info row v at there origin.Plain formula is = plain-proper c info row v at there (plain_ok c (plain_at tables models c) v is)
  from-proper f all c info row v at there (origin.Delegated to) formula is =
      let next = λ (id : RecId). f (behind models tables to id) in
      let t = then_ok (f (record c { field = to.link })) (follow next (Ok (initial_value info.field_type))) v is in
      followed-proper next (initial_value info.field_type) t.0 v (λ id e. unfold_proper f all (behind models tables to id) v e) (initial-proper info.field_type) t.2
  from-proper f all c info row v at there (origin.Computed formula) constants is =
      inherited-proper f (formula_value f formula info c) v all
      (λ own. meaning-proper (held_by f) (λ d w e. unfold_proper f all d w (held_ok (f d) w e)) (row_of c) (typed_tree_of formula.typed) constants v
      (limited_ok info.field_type (meaning (held_by f) (row_of c) (typed_tree_of formula.typed)) v own)) is

  steps-proper : (n : ℕ) → AreProper (value_in models tables n)
  steps-proper zero = fold_proper (value_in models tables 0) (λ c v is. absurd (by c v is))
    where
      by : (c : Cell) (v : Value) → ◌≡◌ {A = Result Value Lack} (Err (unread c)) (Ok v) → ⊥
      by c v is = cc
  steps-proper (suc n) = fold_proper (value_in models tables (suc n)) (λ c v is. by (steps-proper n) c v is (row_at tables c.model c.id) refl (field_at models c.model c.field) refl)
    where
      by : AreProper (value_in models tables n) → (c : Cell) (v : Value) → value_in models tables (suc n) c ≡ Ok v → (r : Option PlainRow) → row_at tables c.model c.id ≡ r
          → (i : Option FieldInfo) → field_at models c.model c.field ≡ i → IsProper v
      by all c v is None none i at = absurd (let both : Err (unread c) ≡ Ok v = sym (value_absent models tables (value_in models tables n) c none) ∙ is in cc)
      by all c v is (Some row) there None none = absurd (let both : Err (unread c) ≡ Ok v = sym (value_unknown models tables (value_in models tables n) c none) ∙ is in cc)
      by all c v is (Some row) there (Some info) at =
          from-proper (value_in models tables n) all c info row v at there info.origin (native c.model c.field info at).formula (sym (value_there models tables (value_in models tables n) c row info info.origin there at refl) ∙ is)

  -- so each value from scratch is native
  pub native-values : (cell : Cell) (v : Value) → val models tables cell ≡ Ok v → IsNative v
  native-values cell v is = proper-native v (unfold_proper (value_in models tables (enough models tables)) (steps-proper (enough models tables)) cell v is)
