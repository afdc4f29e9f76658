-- Rows that are made one behind another: what the edits that make them leave of tables, and the next ids behind them.
use Rattle.std.proofs.Common.{◌≡◌, ◌<◌, ◌≤◌, ◌+◌, ◌∷◌, [], ◌++◌, ℕ, Bool, true, false, cond, List, max, map, Option, Some, None, unwrap_or, is_some, append_assoc, refl, sym, ap, ◌∙◌, arith}
use Rattle.std.specs.Prelude.{All, IsSome, IsSomeAnd, ⊤}
use Rattle.std.specs.List.{flat_map}
use Rattle.std.specs.BTreeMap as tree
use Rattle.std.specs.BTreeMap.{BTreeMap}
use Rattle.std.specs.Cmp.{eq_by_cmp_equiv, nat_cmp_total}
use Rattle.std.specs.FinMap as finite
use Rattle.std.specs.Option.{option_map_or}
use Rattle.std.specs.Ordering.{eq_by_cmp, nat_cmp}
use Rattle.std.proofs.lemmas.Bool.{false≢true}
use Rattle.std.proofs.lemmas.List.{append-nil, map-append}
use Rattle.std.proofs.lemmas.List.Elements.{All-append, All-head, All-map, All-nil, All-tail}
use Rattle.std.proofs.lemmas.Option.{same_Some}
use Rattle.ob_base.specs.declared.id.ModelNo.{ModelNo}
use Rattle.ob_base.specs.declared.id.RecId.{RecId}
use Rattle.ob_rows.proofs.CallerLemmas.{after-then, set-next}
use Rattle.ob_orm.proofs.WriteEdits.{one_edit}
use Rattle.ob_orm.specs.NewRows.{Begun, MadeRow, MadeRows, Values, behind, changed_values, filled, linked, made_row, made_rows, making, parent_change, parents_of, row_edits, with_parent, with_parents}
use Rattle.ob_orm.specs.NewRowSteps.{AddsEdits, HoldsNextIds, held_next, so_far}
use Rattle.ob_rows.specs.declared.author.Author.{Author}
use Rattle.ob_orm.specs.declared.making.next_ids.Making.{Making}
use Rattle.ob_schema.specs.Models.{HasModel, model_at}
use Rattle.ob_schema.specs.Tables.{Tables, next_of}
use Rattle.ob_schema.specs.declared.info.ModelInfo.{ModelInfo}
use Rattle.ob_schema.specs.declared.info.ParentInfo.{ParentInfo}
use Rattle.ob_tables.specs.After.{after, edited, row_of, with_row}
use Rattle.ob_tables.specs.declared.edit.Edit.{Edit}
use Rattle.ob_tables.specs.declared.edit.Edit.TheVariants as edit

-- ---- one more

module _ (models : List ModelInfo) (by : Author) where
  -- one parent more
  pub with_parents-more : (tables : Tables) (model : ModelNo) (given : Values) (parents : List ParentInfo) (parent : ParentInfo)
      → with_parents models by tables model given (parents ++ parent ∷ []) ≡
      (let before = with_parents models by tables model given parents in
      let one = with_parent models by (after models tables before.edits) model before.given parent in
      record { edits = before.edits ++ one.edits; given = one.given })
  with_parents-more tables model given [] parent =
      let one = with_parent models by tables model given parent in
      ap (λ (es : List Edit). record { edits = es; given = one.given }) (append-nil one.edits)
  with_parents-more tables model given (p ∷ parents) parent =
      let first = with_parent models by tables model given p in
      let mid = after models tables first.edits in
      let before = with_parents models by mid model first.given parents in
      let one : Tables → Begun = λ t. with_parent models by t model before.given parent in
      ap (λ (rest : Begun). record { edits = first.edits ++ rest.edits; given = rest.given }) (with_parents-more mid model first.given parents parent)
      ∙ ap (λ (es : List Edit). record { edits = es; given = (one (after models mid before.edits)).given }) (sym (append_assoc first.edits before.edits (one (after models mid before.edits)).edits))
      ∙ ap (λ (t : Tables). record { edits = (first.edits ++ before.edits) ++ (one t).edits; given = (one t).given }) (sym (after-then models tables first.edits before.edits))

  -- one row more
  pub made_rows-more : (tables : Tables) (model : ModelNo) (each : List Values) (given : Values)
      → made_rows models by tables model (each ++ given ∷ []) ≡
      (let before = made_rows models by tables model each in
      let one = made_row models by (after models tables before.edits) model given in
      record { edits = before.edits ++ one.edits; ids = before.ids ++ one.id ∷ [] })
  made_rows-more tables model [] given =
      let one = made_row models by tables model given in
      ap (λ (es : List Edit). record { edits = es; ids = one.id ∷ [] }) (append-nil one.edits)
  made_rows-more tables model (g ∷ each) given =
      let first = made_row models by tables model g in
      let mid = after models tables first.edits in
      let before = made_rows models by mid model each in
      let one : Tables → MadeRow = λ t. made_row models by t model given in
      ap (λ (rest : MadeRows). record { edits = first.edits ++ rest.edits; ids = first.id ∷ rest.ids }) (made_rows-more mid model each given)
      ∙ ap (λ (es : List Edit). record { edits = es; ids = first.id ∷ before.ids ++ (one (after models mid before.edits)).id ∷ [] }) (sym (append_assoc first.edits before.edits (one (after models mid before.edits)).edits))
      ∙ ap (λ (t : Tables). record { edits = (first.edits ++ before.edits) ++ (one t).edits; ids = (first.id ∷ before.ids) ++ (one t).id ∷ [] }) (sym (after-then models tables first.edits before.edits))

-- the tables with more edits
pub so_far-more : (models : List ModelInfo) (old : Tables) (first last : Making) (added : List Edit) → last.edits.items ≡ first.edits.items ++ added → so_far models old last ≡ after models (so_far models old first) added
so_far-more models old first last added is = ap (after models old) is ∙ after-then models old first.edits.items added

-- ---- edits that are added

pub adds-none : (making : Making) → AddsEdits making making
adds-none making = ([], sym (append-nil making.edits.items))

pub adds-then : (first mid last : Making) → AddsEdits first mid → AddsEdits mid last → AddsEdits first last
adds-then first mid last one more = (one.0 ++ more.0, more.1 ∙ ap (λ (es : List Edit). es ++ more.0) one.1 ∙ append_assoc first.edits.items one.0 more.0)

-- ---- next ids

-- a next id, behind one more
raised : (b : Bool) (n : ℕ) (old : Option ℕ) → unwrap_or (cond b (Some n) old) 1 ≡ cond b n (unwrap_or old 1)
raised true n old = refl
raised false n old = refl

-- an id that is taken is followed by the next
followed : (n : ℕ) → max n (n + 1) ≡ n + 1
followed n = omega arith

module _ (models : List ModelInfo) (tables : Tables) where
  -- the next ids once a row is made under its model's next id
  pub next-made : (model : ModelNo) (info : ModelInfo) → model_at models model ≡ Some info → (id : ℕ) (values : Values) → id ≡ next_of tables model → (other : ModelNo)
      → next_of (edited models tables (edit.Make model (record { 0 = id }) values)) other ≡ cond (eq_by_cmp nat_cmp other.0 model.0) (id + 1) (next_of tables other)
  next-made model info at id values is other =
      ap (λ (o : Option ModelInfo). next_of (option_map_or (λ i. with_row models model (record { 0 = id }) (row_of i values) tables) o tables) other) at
      ∙ ap (λ (o : Option ℕ). unwrap_or o 1) (finite.get-insert nat_cmp_total tables.next_ids model.0 (max (next_of tables model) (id + 1)) other.0)
      ∙ raised (eq_by_cmp nat_cmp other.0 model.0) (max (next_of tables model) (id + 1)) (finite.get tables.next_ids other.0)
      ∙ ap (λ (n : ℕ). cond (eq_by_cmp nat_cmp other.0 model.0) n (next_of tables other)) (ap (λ (n : ℕ). max n (id + 1)) (sym is) ∙ followed id)

-- edits that only set values
abbrev pub IsSet : Edit → Type 0
IsSet (edit.Set cell v) = ⊤
IsSet _ = ⊥

module _ (models : List ModelInfo) where
  -- leave the next ids
  pub next-set : (tables : Tables) (edits : List Edit) → All IsSet edits → (other : ModelNo) → next_of (after models tables edits) other ≡ next_of tables other
  next-set tables [] sets other = refl
  next-set tables (edit.Set cell v ∷ edits) sets other =
      next-set (edited models tables (edit.Set cell v)) edits (All-tail IsSet (edit.Set cell v) edits sets) other
      ∙ ap (λ (ids : finite.FinMap nat_cmp ℕ). unwrap_or (finite.get ids other.0) 1) (set-next models tables cell v)
  next-set tables (edit.Make m id values ∷ edits) sets other = absurd (All-head IsSet (edit.Make m id values) edits sets)
  next-set tables (edit.Gone m id ∷ edits) sets other = absurd (All-head IsSet (edit.Gone m id) edits sets)

-- ---- what is held behind a row that is made

there_of : (o : Option ModelInfo) → IsSome o → (info : ModelInfo) × (o ≡ Some info)
there_of None h = absurd (false≢true h)
there_of (Some info) h = (info, refl)

either : (b c : Bool) (n m : ℕ) (o : Option ℕ) → b ≡ c → o ≡ Some m → cond b (Some n) o ≡ Some (cond c n m)
either true true n m o same is = refl
either false false n m o same is = is
either true false n m o same is = absurd (false≢true (sym same))
either false true n m o same is = absurd (false≢true same)

bounded : (b : Bool) (id low high : ℕ) (o : Option ℕ) → id < high → low ≤ high → IsSomeAnd o (λ n. n ≤ low) → IsSomeAnd (cond b (Some (id + 1)) o) (λ n. n ≤ high)
bounded true id low high o within up held = omega arith
bounded false id low high None within up held = absurd held
bounded false id low high (Some n) within up held = omega arith

-- one id is taken
abbrev pub Raises : Making → Making → ModelNo → ℕ → Type 0
Raises before now model id = (number : ℕ) → tree.get nat_cmp now.next_ids number ≡ cond (eq_by_cmp nat_cmp model.0 number) (Some (id + 1)) (tree.get nat_cmp before.next_ids number)

module _ (models : List ModelInfo) (model : ModelNo) (before now : Making) (id : ℕ) (values : Values) (raises : Raises before now model id) (own : held_next before model ≡ Some id)
    (pushed : now.edits.items ≡ before.edits.items ++ edit.Make model (record { 0 = id }) values ∷ []) where
  module _ (old : Tables) (info : ModelInfo) (at : model_at models model ≡ Some info) (holds : HoldsNextIds models old before) where
    -- the id is the next one
    pub id-next : id ≡ next_of (so_far models old before) model
    id-next = same_Some id (next_of (so_far models old before) model) (sym own ∙ holds model (ap is_some at))

    -- the row is made
    pub so_far-made : so_far models old now ≡ edited models (so_far models old before) (edit.Make model (record { 0 = id }) values)
    so_far-made = ap (after models old) pushed ∙ after-then models old before.edits.items (edit.Make model (record { 0 = id }) values ∷ [])

    -- and the next ids are held still
    pub holds-made : HoldsNextIds models old now
    holds-made other there =
        raises other.0
        ∙ either (eq_by_cmp nat_cmp model.0 other.0) (eq_by_cmp nat_cmp other.0 model.0) (id + 1) (next_of (so_far models old before) other) (held_next before other) ((eq_by_cmp_equiv nat_cmp_total).symm model.0 other.0) (holds other there)
        ∙ sym (ap (λ (t : Tables). Some (next_of t other)) so_far-made ∙ ap Some (next-made models (so_far models old before) model info at id values id-next other))

  -- so a row is made of what is given
  pub one-made : (by : Author) (given : Values) → values ≡ filled models by true model given → HasModel models model → (old : Tables) → HoldsNextIds models old before
      → (now.edits.items ≡ before.edits.items ++ making models by (so_far models old before) model given ∷ []) × (id ≡ next_of (so_far models old before) model) × HoldsNextIds models old now
  one-made by given are there old holds =
      let (info, at) = there_of (model_at models model) there in
      let next = id-next old info at holds in (
        pushed ∙ ap (λ (vs : Values). before.edits.items ++ edit.Make model (record { 0 = id }) vs ∷ []) are
            ∙ ap (λ (n : ℕ). before.edits.items ++ edit.Make model (record { 0 = n }) (filled models by true model given) ∷ []) next,
        next,
        holds-made old info at holds,
      )

-- ---- and behind changes of other rows

module _ (models : List ModelInfo) (before now : Making) (changes : List Edit) (same : now.next_ids ≡ before.next_ids) (appended : now.edits.items ≡ before.edits.items ++ changes) where
  -- the changes are made
  pub so_far-changed : (old : Tables) → so_far models old now ≡ after models (so_far models old before) changes
  so_far-changed old = ap (after models old) appended ∙ after-then models old before.edits.items changes

  pub holds-changed : (old : Tables) → All IsSet changes → HoldsNextIds models old before → HoldsNextIds models old now
  holds-changed old sets holds other there =
      ap (λ (ids : BTreeMap ℕ ℕ). tree.get nat_cmp ids other.0) same ∙ holds other there
      ∙ sym (ap (λ (t : Tables). Some (next_of t other)) (so_far-changed old) ∙ ap Some (next-set models (so_far models old before) changes sets other))

-- ---- what is changed of parents

All-flat_map : {X Y : Type 0} (P : Y → Type 0) (f : X → List Y) (xs : List X) → ((x : X) → All P (f x)) → All P (flat_map f xs)
All-flat_map P f [] each = All-nil P
All-flat_map P f (x ∷ xs) each = All-append P (f x) (flat_map f xs) (each x) (All-flat_map P f xs each)

module _ (models : List ModelInfo) (by : Author) (model : ModelNo) (given : Values) where
  -- values are set
  sets-one : (parent : ParentInfo) → All IsSet (parent_change models by model given parent)
  sets-one parent = each (linked given parent.link) where
    each : (o : Option RecId) → All IsSet (option_map_or (λ id. row_edits parent.model (changed_values models by parent.model (behind models model parent.link given)) id.0) o [])
    each None = All-nil IsSet
    each (Some id) = All-map IsSet (one_edit parent.model id.0) (changed_values models by parent.model (behind models model parent.link given)) (λ k d lt. tt)

  pub sets-parents : (parents : List ParentInfo) → All IsSet (flat_map (parent_change models by model given) parents)
  sets-parents parents = All-flat_map IsSet (parent_change models by model given) parents sets-one

-- ---- a whole row, and rows behind it

module _ (models : List ModelInfo) (by : Author) (model : ModelNo) (old : Tables) where
  -- one parent more
  pub parents-made-so : (first mid last : Making) (given between more : Values) (parents : List ParentInfo) (parent : ParentInfo)
      → mid.edits.items ≡ first.edits.items ++ (with_parents models by (so_far models old first) model given parents).edits
      → between ≡ (with_parents models by (so_far models old first) model given parents).given
      → last.edits.items ≡ mid.edits.items ++ (with_parent models by (so_far models old mid) model between parent).edits
      → more ≡ (with_parent models by (so_far models old mid) model between parent).given
      → (last.edits.items ≡ first.edits.items ++ (with_parents models by (so_far models old first) model given (parents ++ parent ∷ [])).edits)
      × (more ≡ (with_parents models by (so_far models old first) model given (parents ++ parent ∷ [])).given)
  parents-made-so first mid last given between more parents parent far far_given one one_given =
      let t = so_far models old first in
      let before = with_parents models by t model given parents in
      let here : so_far models old mid ≡ after models t before.edits = so_far-more models old first mid before.edits far in
      let same : with_parent models by (so_far models old mid) model between parent ≡ with_parent models by (after models t before.edits) model before.given parent =
      (λ i. with_parent models by (here i) model (far_given i) parent) in
      let all = with_parents-more models by t model given parents parent in
      let own = with_parent models by (after models t before.edits) model before.given parent in (
        one ∙ (λ i. far i ++ (same i).edits) ∙ append_assoc first.edits.items before.edits own.edits ∙ sym (ap (λ (b : Begun). first.edits.items ++ b.edits) all),
        one_given ∙ ap (λ (b : Begun). b.given) same ∙ sym (ap (λ (b : Begun). b.given) all),
      )

  -- a row is made once its parents are and what it changes of others follows
  pub row-made-so : (first second third last : Making) (given more : Values) (changes : List Edit) (id : ℕ) → changes ≡ flat_map (parent_change models by model given) (parents_of models model)
      → second.edits.items ≡ first.edits.items ++ (with_parents models by (so_far models old first) model given (parents_of models model)).edits
      → more ≡ (with_parents models by (so_far models old first) model given (parents_of models model)).given
      → third.edits.items ≡ second.edits.items ++ making models by (so_far models old second) model more ∷ []
      → id ≡ next_of (so_far models old second) model → last.edits.items ≡ third.edits.items ++ changes
      → (last.edits.items ≡ first.edits.items ++ (made_row models by (so_far models old first) model given).edits) × (id ≡ (made_row models by (so_far models old first) model given).id)
  row-made-so first second third last given more changes id changes_are parents parents_given one next ends =
      let t = so_far models old first in
      let begun = with_parents models by t model given (parents_of models model) in
      let here : so_far models old second ≡ after models t begun.edits = so_far-more models old first second begun.edits parents in
      let mine : making models by (so_far models old second) model more ≡ making models by (after models t begun.edits) model begun.given = (λ i. making models by (here i) model (parents_given i)) in
      let rest = making models by (after models t begun.edits) model begun.given ∷ flat_map (parent_change models by model given) (parents_of models model) in (
        ends ∙ ap (λ (es : List Edit). es ++ changes) one ∙ append_assoc second.edits.items (making models by (so_far models old second) model more ∷ []) changes
            ∙ (λ i. parents i ++ mine i ∷ changes_are i) ∙ append_assoc first.edits.items begun.edits rest,
        next ∙ ap (λ (x : Tables). next_of x model) here,
      )

  -- one row more
  pub rows-made-so : (first before last : Making) (each : List Values) (given : Values) (ids more : List RecId) (id : RecId)
      → before.edits.items ≡ first.edits.items ++ (made_rows models by (so_far models old first) model each).edits
      → map (λ i. i.0) ids ≡ (made_rows models by (so_far models old first) model each).ids → last.edits.items ≡ before.edits.items ++ (made_row models by (so_far models old before) model given).edits
      → id.0 ≡ (made_row models by (so_far models old before) model given).id → more ≡ ids ++ id ∷ []
      → (last.edits.items ≡ first.edits.items ++ (made_rows models by (so_far models old first) model (each ++ given ∷ [])).edits)
      × (map (λ i. i.0) more ≡ (made_rows models by (so_far models old first) model (each ++ given ∷ [])).ids)
  rows-made-so first before last each given ids more id far far_ids one own pushed =
      let t = so_far models old first in
      let sofar = made_rows models by t model each in
      let here : so_far models old before ≡ after models t sofar.edits = so_far-more models old first before sofar.edits far in
      let same : made_row models by (so_far models old before) model given ≡ made_row models by (after models t sofar.edits) model given = ap (λ (x : Tables). made_row models by x model given) here in
      let all = made_rows-more models by t model each given in (
        one ∙ (λ i. far i ++ (same i).edits) ∙ append_assoc first.edits.items sofar.edits (made_row models by (after models t sofar.edits) model given).edits ∙ sym (ap (λ (r : MadeRows). first.edits.items ++ r.edits) all),
        ap (map (λ (i : RecId). i.0)) pushed ∙ map-append (λ (i : RecId). i.0) ids (id ∷ []) ∙ ap (λ (ns : List ℕ). ns ++ id.0 ∷ []) far_ids
            ∙ ap (λ (n : ℕ). sofar.ids ++ n ∷ []) (own ∙ ap (λ (r : MadeRow). r.id) same) ∙ sym (ap (λ (r : MadeRows). r.ids) all),
      )
