-- What stands against rows that are asked for, by what the steps of a create found.
use Rattle.std.proofs.Common.{◌≡◌, ◌∷◌, [], inl, inr, ℕ, Bool, true, false, cond, not, List, map, Option, Some, None, Result, Ok, Err, refl, sym, ap, subst, ◌∙◌}
use Rattle.std.specs.Prelude.{All, Any, Contains, IfOk, IsSomeAnd, filter, find}
use Rattle.std.proofs.lemmas.Bool.{false≢true}
use Rattle.std.proofs.lemmas.List.Elements.{All-contains, All-contains_itself, All-weaker, Contains-append_cases}
use Rattle.std.proofs.lemmas.Option.{same_Some}
use Rattle.serde_json.specs.Data.{Data}
use Rattle.serde_json.specs.View.{items_of, view}
use Rattle.serde_json.specs.Written.{has_float, items_have_float}
use Rattle.serde_json.specs.declared.value.Value.{Value as Json}
use Rattle.ob_access.specs.Rights.{field_right, right}
use Rattle.std.specs.declared.cmp.Ordering.TheVariants.{Less}
use Rattle.ob_base.specs.Ids.{row_key_cmp}
use Rattle.ob_base.specs.declared.id.FieldNo.{FieldNo}
use Rattle.ob_base.specs.declared.id.ModelNo.{ModelNo}
use Rattle.ob_base.specs.declared.id.RecId.{RecId}
use Rattle.ob_base.specs.declared.id.RowKey.{RowKey}
use Rattle.ob_base.specs.declared.refusal.Op.{Op}
use Rattle.ob_base.specs.declared.refusal.Op.TheVariants as op
use Rattle.ob_base.specs.declared.refusal.Refusal.{Refusal}
use Rattle.ob_base.specs.declared.refusal.Refusal.TheVariants as refusal
use Rattle.ob_codec.specs.CommandForms.{list_json, number_json}
use Rattle.ob_rows.proofs.CallerLemmas.{contains-filter, contains-kept, contains-map, denied}
use Rattle.ob_orm.proofs.PastLimits.{made-there}
use Rattle.ob_rows.specs.AskingSteps.{AdmitsBy, DeniesBy, denied_rule, may_by}
use Rattle.ob_orm.specs.Create.{Asked, IsAdmissible, IsAllowed, MayStopCreate, StopsCreate, ids_told, made, touched, unwritable, with_rows, withheld}
use Rattle.ob_orm.specs.CreateSteps.{AdmitsChanged, AdmitsMade, IsAllowedBy, IsMadeBy, MayStopSettling, StopsSettling}
use Rattle.ob_orm.specs.NewRowSteps.{MakesRow, MayFit}
use Rattle.ob_rows.specs.Rights.{AreAdmitted, Asking, DeniesLeast, DeniesOne, IsLeastDenied, first_unwritable}
use Rattle.ob_orm.specs.Touches.{Touch, asking_of, is_create, is_write, may_touch, rows_changed, rows_made, touch_by, touches_of}
use Rattle.ob_orm.specs.TouchSteps.{IsTouched, IsWithin, SameRows, first_withheld_by, rows_known}
use Rattle.ob_rows.specs.declared.asking.Caller.{Caller}
use Rattle.ob_rows.specs.declared.author.Author.{Author}
use Rattle.ob_orm.specs.declared.touching.Touched.{Touched}
use Rattle.ob_schema.proofs.CallerLemmas.{Any-first, Any-later, contains-cases, contains-first, contains-later, contains-none}
use Rattle.ob_schema.specs.Broken.{IsBroken, Sound}
use Rattle.ob_schema.specs.Facts.{Told, told_by}
use Rattle.ob_schema.specs.Tables.{Tables, key_of}
use Rattle.ob_schema.specs.declared.info.ModelInfo.{ModelInfo}
use Rattle.ob_tables.specs.After.{after, edited}
use Rattle.ob_tables.specs.Changes.{has_row}
use Rattle.ob_tables.specs.declared.edit.Edit.{Edit}
use Rattle.ob_tables.specs.declared.edit.Edit.TheVariants as edit

-- ---- rules of rows that are the same

-- what holds of each of some rows holds of each of the same
All-same : (P : RowKey → Type 0) (some others : List RowKey) → SameRows some others → All P some → All P others
All-same P some others same all = All-weaker (Contains others) P (λ row c. All-contains P some row all ((same row).1 c)) others (All-contains_itself others)

module _ (by : Caller) (told : Told) (op : Op) (some others : List RowKey) (same : SameRows some others) where
  admits-same : AdmitsBy by told op some → AdmitsBy by told op others
  admits-same = All-same (λ row. denied_rule by told op row ≡ None) some others same

  least-same : (row : RowKey) (name : Option (List ℕ)) → IsSomeAnd name (IsLeastDenied by.policy.now told by.groups.now by.user op some row) → IsSomeAnd name (IsLeastDenied by.policy.now told by.groups.now by.user op others row)
  least-same row None h = absurd h
  least-same row (Some rule) h = record { among = (same row).0 h.among; denied = h.denied; least = All-same (λ other. row_key_cmp other row ≡ Less → denied_rule by told op other ≡ None) some others same h.least }

  denies-same : (w : Refusal) → DeniesBy by told op some w → DeniesBy by told op others w
  denies-same (refusal.Rule m operation id name) h = (h.0, least-same (record { model = m; id = id }) name h.1)
  denies-same _ h = absurd h

-- those of the same rows that a test keeps, where it keeps all of the others
kept-same : (test : RowKey → Bool) (some others : List RowKey) → SameRows some others → ((row : RowKey) → Contains others row → test row ≡ true) → SameRows (filter test some) others
kept-same test some others same all row = (
  λ c. (same row).0 (contains-filter test some row c).0,
  λ c. contains-kept test some row ((same row).1 c) (all row c),
)

-- ---- rows that are made are there

-- what is done that makes a row
made-filtered : (touches : List Touch) (row : RowKey) → Contains (rows_made touches) row → (touch : Touch) × Contains touches touch × (is_create touch.op ≡ true) × (touch.row ≡ row)
made-filtered touches row c =
    let (touch, among, is) = contains-map (λ (t : Touch). t.row) (filter (λ t. is_create t.op) touches) row c in
    let (first, makes) = contains-filter (λ (t : Touch). is_create t.op) touches touch among in
    (touch, first, makes, is)

-- an edit that does it makes the row
one-makes : (test : RowKey → Bool) (one : Edit) (touch : Touch) → Contains (touch_by test one) touch → is_create touch.op ≡ true → MakesRow touch.row one
one-makes test (edit.Make model id values) touch c makes = elim (contains-cases (record { op = op.Create; row = key_of model id }) [] touch c) [
  | inl is ↦ sym (ap (λ (t : Touch). t.row) is)
  | inr none ↦ absurd (contains-none touch none)
]
one-makes test (edit.Set cell v) touch c makes = by (test (key_of cell.model cell.id)) c where
  by : (b : Bool) → Contains (cond b (record { op = op.Write; row = key_of cell.model cell.id } ∷ []) []) touch → MakesRow touch.row (edit.Set cell v)
  by true c = elim (contains-cases (record { op = op.Write; row = key_of cell.model cell.id }) [] touch c) [
    | inl is ↦ absurd (false≢true (ap (λ (t : Touch). is_create t.op) is ∙ makes))
    | inr none ↦ absurd (contains-none touch none)
  ]
  by false c = absurd (contains-none touch c)
one-makes test (edit.Gone model id) touch c makes = by (test (key_of model id)) c where
  by : (b : Bool) → Contains (cond b (record { op = op.Unlink; row = key_of model id } ∷ []) []) touch → MakesRow touch.row (edit.Gone model id)
  by true c = elim (contains-cases (record { op = op.Unlink; row = key_of model id }) [] touch c) [
    | inl is ↦ absurd (false≢true (ap (λ (t : Touch). is_create t.op) is ∙ makes))
    | inr none ↦ absurd (contains-none touch none)
  ]
  by false c = absurd (contains-none touch c)

module _ (models : List ModelInfo) where
  edits-make : (tables : Tables) (edits : List Edit) (touch : Touch) → Contains (touches_of models tables edits) touch → is_create touch.op ≡ true → Any (MakesRow touch.row) edits
  edits-make tables [] touch c makes = absurd (contains-none touch c)
  edits-make tables (one ∷ edits) touch c makes = elim (Contains-append_cases (touch_by (has_row tables) one) (touches_of models (edited models tables one) edits) touch c) [
    | inl here ↦ Any-first (MakesRow touch.row) one edits (one-makes (has_row tables) one touch here makes)
    | inr later ↦ Any-later (MakesRow touch.row) one edits (edits-make (edited models tables one) edits touch later makes)
  ]

  made-known : (tables : Tables) (edits : List Edit) → All (MayFit models) edits → (row : RowKey) → Contains (rows_made (touches_of models tables edits)) row → has_row (after models tables edits) row ≡ true
  made-known tables edits fit row c =
      let (touch, among, makes, is) = made-filtered (touches_of models tables edits) row c in
      made-there models tables edits row fit (subst (λ (r : RowKey). Any (MakesRow r) edits) is (edits-make tables edits touch among makes))

-- rows that are changed were there
changed-known : (test : RowKey → Bool) (touches : List Touch) (row : RowKey) → Contains (rows_changed test touches) row → test row ≡ true
changed-known test touches row c = (contains-filter test (map (λ (t : Touch). t.row) (filter (λ t. is_write t.op) touches)) row c).1

-- ---- what is found

-- the first that passes a test is one that passes it
found : {X : Type 0} (test : X → Bool) (xs : List X) (x : X) → find test xs ≡ Some x → Contains xs x × (test x ≡ true)
found test [] x is = let wrong : None ≡ Some x = is in cc
found {X = X} test (y ∷ xs) x is = by (test y) refl is (found test xs x) where
  by : (b : Bool) → test y ≡ b → cond b (Some y) (find test xs) ≡ Some x → (find test xs ≡ Some x → Contains xs x × (test x ≡ true)) → Contains (y ∷ xs) x × (test x ≡ true)
  by true passes is rest = let same = same_Some y x is in (subst (λ (z : X). Contains (y ∷ xs) z) same (contains-first y xs), sym (ap test same) ∙ passes)
  by false fails is rest = let (later, own) = rest is in (contains-later y xs x later, own)

-- ---- rows that are asked for, of which the edits are at hand

module _ (models : List ModelInfo) (by : Caller) (author : Author) (model : ModelNo) (user : by.user ≡ author.user) (asked : Asked) where
  -- whatever the tables
  module _ (done : Touched) (within : IsWithin (may_touch models model) done) where
    withheld-cause : (m : ModelNo) (operation : Op) → first_withheld_by by done.askings.items ≡ Some (operation, m) → MayStopCreate models by.policy.now author.user model asked (refusal.Right m operation)
    withheld-cause m operation is =
        let (among, lacks) = found (λ (a : Asking). not (may_by by a)) done.askings.items (operation, m) is in (
          All-contains (λ (a : Asking). may_touch models model a.0 a.1 ≡ true) done.askings.items (operation, m) within.askings among,
          (by.groups.now, subst (λ (who : RecId). right by.policy.now by.groups.now who m operation ≡ false) user (denied (may_by by (operation, m)) lacks)),
        )

    unwritable-cause : (field : FieldNo) → first_unwritable by.policy.now by.groups.now by.user model asked.fields ≡ Some field → MayStopCreate models by.policy.now author.user model asked (refusal.FieldRight model field)
    unwritable-cause field is =
        let (among, lacks) = found (λ (f : FieldNo). not (field_right by.policy.now by.groups.now by.user model f true)) asked.fields field is in (
          refl,
          among,
          (by.groups.now, subst (λ (who : RecId). field_right by.policy.now by.groups.now who model field true ≡ false) user (denied (field_right by.policy.now by.groups.now by.user model field true) lacks)),
        )

    pub allowed-cause : (w : Refusal) → IsAllowedBy by model done.askings.items asked.fields asked.wrong (Err w) → MayStopCreate models by.policy.now author.user model asked w
    allowed-cause (refusal.Right m operation) h = withheld-cause m operation h
    allowed-cause (refusal.FieldRight m field) h =
        subst (λ (n : ModelNo). MayStopCreate models by.policy.now author.user model asked (refusal.FieldRight n field)) (sym h.1) (unwritable-cause field h.2)
    allowed-cause (refusal.Request place) h = h.2
    allowed-cause _ h = absurd h

    named : (operation : Op) (rows : List RowKey) (m : ModelNo) (asks : Op) (id : RecId) (rule : Option (List ℕ)) → All (λ row. may_touch models model operation row.model ≡ true) rows
        → DeniesOne operation rows (refusal.Rule m asks id rule) → MayStopCreate models by.policy.now author.user model asked (refusal.Rule m asks id rule)
    named operation rows m asks id rule all h = (
      subst (λ (o : Op). may_touch models model o m ≡ true) (sym h.0) (All-contains (λ (row : RowKey). may_touch models model operation row.model ≡ true) rows (record { model = m; id = id }) all h.1),
      h.2,
    )

    pub settling-cause : (w : Refusal) → MayStopSettling models done w → MayStopCreate models by.policy.now author.user model asked w
    settling-cause (refusal.Rule m operation id rule) (inl h) = named op.Write done.changed.keys m operation id rule within.changed h
    settling-cause (refusal.Rule m operation id rule) (inr h) = named op.Create done.made.keys m operation id rule within.made h
    settling-cause (refusal.Constraint b) h = h
    settling-cause _ h = absurd h

  -- over tables
  module _ (tables : Tables) (edits : List Edit) (are : edits ≡ (made models author model tables asked).edits) (fit : All (MayFit models) edits) (done : Touched) (is : IsTouched models tables (op.Create, model) edits done) where
    abbrev new : Tables
    new = after models tables edits

    abbrev all : List Touch
    all = touches_of models tables edits

    all-touched : all ≡ touched models author model tables asked
    all-touched = ap (touches_of models tables) are

    pub new-tables : new ≡ with_rows models author model tables asked
    new-tables = ap (after models tables) are

    -- the first right that he lacks
    withheld-is : first_withheld_by by done.askings.items ≡ withheld models by.policy.now author model tables by.groups.now asked
    withheld-is =
        is.askings (λ (a : Asking). not (may_by by a))
        ∙ (λ i. find (λ (a : Asking). not (right by.policy.now by.groups.now (user i) a.1 a.0)) ((op.Create, model) ∷ map asking_of (all-touched i)))

    unwritable-is : first_unwritable by.policy.now by.groups.now by.user model asked.fields ≡ unwritable models by.policy.now author model tables by.groups.now asked
    unwritable-is = λ i. find (λ (f : FieldNo). not (field_right by.policy.now by.groups.now (user i) model f true)) asked.fields

    abbrev Stops : Refusal → Type 0
    Stops = StopsCreate models by.policy.now author model tables by.groups.now asked

    abbrev Allowed : Result (Unit {0}) Refusal → Type 0
    Allowed r = IsAllowedBy by model done.askings.items asked.fields asked.wrong r

    -- why he may not ask for them
    pub allowed-stops : (w : Refusal) → Allowed (Err w) → Stops w
    allowed-stops (refusal.Right m operation) h = sym withheld-is ∙ h
    allowed-stops (refusal.FieldRight m field) h = (sym withheld-is ∙ h.0, h.1, sym unwritable-is ∙ h.2)
    allowed-stops (refusal.Request place) h = (sym withheld-is ∙ h.0, sym unwritable-is ∙ h.1, h.2)
    allowed-stops _ h = absurd h

    module _ (u : Unit {0}) (may : Allowed (Ok u)) where
      allowed : IsAllowed models by.policy.now author model tables by.groups.now asked
      allowed = record { rights = sym withheld-is ∙ may.0; fields = sym unwritable-is ∙ may.1; forms = may.2 }

      -- rows that were there and are changed
      changed-same : SameRows (rows_known (told_by models tables) done.changed.keys) (rows_changed (has_row tables) (touched models author model tables asked))
      changed-same = subst (λ (ts : List Touch). SameRows (rows_known (told_by models tables) done.changed.keys) (rows_changed (has_row tables) ts)) all-touched
          (kept-same (has_row tables) done.changed.keys (rows_changed (has_row tables) all) is.changed (changed-known (has_row tables) all))

      -- rows that are made
      made-same : SameRows (rows_known (told_by models new) done.made.keys) (rows_made (touched models author model tables asked))
      made-same = subst (λ (ts : List Touch). SameRows (rows_known (told_by models new) done.made.keys) (rows_made ts)) all-touched
          (kept-same (has_row new) done.made.keys (rows_made all) is.made (made-known models tables edits fit))

      admissible : AdmitsChanged models by done tables → IsAdmissible models by.policy.now author model tables by.groups.now asked
      admissible h = record {
        allowed = allowed;
        admitted = subst (λ (who : RecId). AreAdmitted by.policy.now (told_by models tables) by.groups.now who op.Write (rows_changed (has_row tables) (touched models author model tables asked))) user
            (admits-same by (told_by models tables) op.Write _ _ changed-same h);
      }

      abbrev AsHis : RecId → Tables → Op → List RowKey → Refusal → Type 0
      AsHis who at operation rows w = DeniesLeast by.policy.now (told_by models at) by.groups.now who operation rows w

      -- why they aren't settled
      pub settling-stops : (w : Refusal) → StopsSettling models by done tables new w → Stops w
      settling-stops (refusal.Rule m operation id rule) (inl h) = inl (
        allowed,
        subst (λ (who : RecId). AsHis who tables op.Write (rows_changed (has_row tables) (touched models author model tables asked)) (refusal.Rule m operation id rule)) user
            (denies-same by (told_by models tables) op.Write _ _ changed-same (refusal.Rule m operation id rule) h),
      )
      settling-stops (refusal.Rule m operation id rule) (inr h) = inr (
        admissible h.0,
        subst (λ (t : Tables). Sound models t) new-tables h.1,
        subst (λ (t : Tables). AsHis author.user t op.Create (rows_made (touched models author model tables asked)) (refusal.Rule m operation id rule)) new-tables
            (subst (λ (who : RecId). AsHis who new op.Create (rows_made (touched models author model tables asked)) (refusal.Rule m operation id rule)) user
            (denies-same by (told_by models new) op.Create _ _ made-same (refusal.Rule m operation id rule) h.2)),
      )
      settling-stops (refusal.Constraint b) h = (admissible h.0, subst (λ (t : Tables). IsBroken models t b) new-tables h.1)
      settling-stops _ h = absurd h

      -- and those that are settled
      pub settled-made : (json : Data) → json ≡ ids_told asked.is_list (made models author model tables asked).ids → AdmitsChanged models by done tables → AdmitsMade models by done new
          → IsMadeBy models by author model tables asked json
      settled-made json told first later = record {
        admissible = admissible first;
        admitted = subst (λ (t : Tables). AreAdmitted by.policy.now (told_by models t) by.groups.now author.user op.Create (rows_made (touched models author model tables asked))) new-tables
            (subst (λ (who : RecId). AreAdmitted by.policy.now (told_by models new) by.groups.now who op.Create (rows_made (touched models author model tables asked))) user
            (admits-same by (told_by models new) op.Create _ _ made-same later));
        answer = told;
      }

-- ---- how their ids are told

-- ids have no float
numbers_plain : (ids : List ℕ) → items_have_float (items_of (map number_json ids)) ≡ false
numbers_plain [] = refl
numbers_plain (id ∷ ids) = numbers_plain ids

pub told_plain : {E : Type 0} (r : Result Json E) (ids : List ℕ) → IfOk r (λ json. view json ≡ list_json (map number_json ids)) → IfOk r (λ json. has_float (view json) ≡ false)
told_plain (Ok json) ids is = ap has_float is ∙ numbers_plain ids
told_plain (Err e) ids is = tt
