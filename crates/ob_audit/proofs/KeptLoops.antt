-- One turn of a loop over fields and the values that are kept for them.
use Rattle.std.proofs.Common.{◌≡◌, ◌<◌, ◌≤◌, ◌+◌, ◌-◌, ◌++◌, ℕ, Bool, true, false, cond, List, [], ◌∷◌, length, drop, filter, get_or, length-drop, take, Option, Some, None, sym, ap, subst, ◌∙◌, arith, append_assoc}
use Rattle.std.specs.List.{cons_option, filter_map, flat_map, zip}
use Rattle.std.proofs.lemmas.List.{append-nil, drop_all, drop_more, take_all}
use Rattle.ob_base.specs.declared.value.Value.{Value}
use Rattle.ob_audit.proofs.KeptForms.{kept_ones}
use Rattle.ob_codec.specs.RowForm.{HoldAll}
use Rattle.ob_schema.specs.Fields.{Column, is_kept}
use Rattle.ob_schema.specs.declared.info.FieldInfo.{FieldInfo}

-- the fields from a place on that are kept, each with its value
abbrev pub left_from : ℕ → List FieldInfo → List Value → List (Column × Value)
left_from i fields values = zip (kept_ones (i + 1) (drop i fields)) values

-- what a pattern leaves of values
pub rest-all : (values : List Value) → take (length values - 1) (drop 1 values) ≡ drop 1 values
rest-all values = take_all (length values - 1) (drop 1 values) (omega (arith, length-drop 1 values))

-- the first of the values that are left
front : (values : List Value) (v : Value) → 1 ≤ length values → v ≡ get_or values 0 v → values ≡ v ∷ drop 1 values
front [] v some at = absurd (omega arith)
front (x ∷ values) v some at = ap (λ (w : Value). w ∷ values) (sym at)

module _ (fields : List FieldInfo) (i : ℕ) (field : FieldInfo) (low : i < length fields) (at : field ≡ get_or fields i field) where
  next : drop i fields ≡ field ∷ drop (i + 1) fields
  next = drop_more fields i field low ∙ ap (λ (f : FieldInfo). f ∷ drop (i + 1) fields) (sym at)

  abbrev after : List FieldInfo
  after = drop (i + 1) fields

  abbrev later : List Column
  later = kept_ones (i + 1 + 1) after

  -- a kept field takes the first value
  pub left-more : (values : List Value) (v : Value) → is_kept field ≡ true → 1 ≤ length values → v ≡ get_or values 0 v → left_from i fields values ≡ ((i + 1, field), v) ∷ left_from (i + 1) fields (drop 1 values)
  left-more values v kept some at_front =
      ap (λ (l : List FieldInfo). zip (kept_ones (i + 1) l) values) next
      ∙ ap (λ (b : Bool). zip (cond b ((i + 1, field) ∷ later) later) values) kept
      ∙ ap (λ (vs : List Value). zip ((i + 1, field) ∷ later) vs) (front values v some at_front)

  -- another one takes none
  pub left-pass : (values : List Value) → is_kept field ≡ false → left_from i fields values ≡ left_from (i + 1) fields values
  left-pass values other =
      ap (λ (l : List FieldInfo). zip (kept_ones (i + 1) l) values) next
      ∙ ap (λ (b : Bool). zip (cond b ((i + 1, field) ∷ later) later) values) other

  -- there is a value for a kept field, and the others are those of the later ones
  pub held-more : (values : List Value) → is_kept field ≡ true → HoldAll (filter is_kept (drop i fields)) values → (1 ≤ length values) × HoldAll (filter is_kept (drop (i + 1) fields)) (drop 1 values)
  held-more values kept held =
      by values (subst (λ (l : List FieldInfo). HoldAll l values) (ap (filter is_kept) next ∙ ap (λ (b : Bool). cond b (field ∷ filter is_kept after) (filter is_kept after)) kept) held)
    where
      by : (values : List Value) → HoldAll (field ∷ filter is_kept after) values → (1 ≤ length values) × HoldAll (filter is_kept after) (drop 1 values)
      by [] held = absurd held
      by (v ∷ values) held = (omega arith, held.1)

  pub held-pass : (values : List Value) → is_kept field ≡ false → HoldAll (filter is_kept (drop i fields)) values → HoldAll (filter is_kept (drop (i + 1) fields)) values
  held-pass values other held = subst (λ (l : List FieldInfo). HoldAll l values) (ap (filter is_kept) next ∙ ap (λ (b : Bool). cond b (field ∷ filter is_kept after) (filter is_kept after)) other) held

-- at the end none is left
pub left-end : (fields : List FieldInfo) (i : ℕ) (values : List Value) → length fields ≤ i → left_from i fields values ≡ []
left-end fields i values far = ap (λ (l : List FieldInfo). zip (kept_ones (i + 1) l) values) (drop_all i fields far)

-- ---- what is gathered of them

module _ {X Y : Type 0} (f : X → Option Y) where
  pub gathered-more : (done : List Y) (left rest : List X) (x : X) (y : Y) (whole : List Y) → left ≡ x ∷ rest → f x ≡ Some y → done ++ filter_map f left ≡ whole → (done ++ y ∷ []) ++ filter_map f rest ≡ whole
  gathered-more done left rest x y whole is makes all =
      append_assoc done (y ∷ []) (filter_map f rest)
      ∙ ap (λ (o : Option Y). done ++ cons_option o (filter_map f rest)) (sym makes)
      ∙ ap (λ (l : List X). done ++ filter_map f l) (sym is)
      ∙ all

  pub gathered-pass : (done : List Y) (left rest : List X) (x : X) (whole : List Y) → left ≡ x ∷ rest → f x ≡ None → done ++ filter_map f left ≡ whole → done ++ filter_map f rest ≡ whole
  gathered-pass done left rest x whole is makes all =
      ap (λ (o : Option Y). done ++ cons_option o (filter_map f rest)) (sym makes)
      ∙ ap (λ (l : List X). done ++ filter_map f l) (sym is)
      ∙ all

  pub gathered-same : (done : List Y) (left rest : List X) (whole : List Y) → left ≡ rest → done ++ filter_map f left ≡ whole → done ++ filter_map f rest ≡ whole
  gathered-same done left rest whole is all = ap (λ (l : List X). done ++ filter_map f l) (sym is) ∙ all

  pub gathered-end : (done : List Y) (left : List X) (whole : List Y) → left ≡ [] → done ++ filter_map f left ≡ whole → done ≡ whole
  gathered-end done left whole is all = sym (append-nil done) ∙ ap (λ (l : List X). done ++ filter_map f l) (sym is) ∙ all

module _ {X Y : Type 0} (f : X → List Y) where
  pub joined-more : (done : List Y) (left rest : List X) (x : X) (ys whole : List Y) → left ≡ x ∷ rest → f x ≡ ys → done ++ flat_map f left ≡ whole → (done ++ ys) ++ flat_map f rest ≡ whole
  joined-more done left rest x ys whole is makes all =
      append_assoc done ys (flat_map f rest)
      ∙ ap (λ (l : List Y). done ++ (l ++ flat_map f rest)) (sym makes)
      ∙ ap (λ (l : List X). done ++ flat_map f l) (sym is)
      ∙ all

  pub joined-pass : (done : List Y) (left rest : List X) (x : X) (whole : List Y) → left ≡ x ∷ rest → f x ≡ [] → done ++ flat_map f left ≡ whole → done ++ flat_map f rest ≡ whole
  joined-pass done left rest x whole is makes all =
      ap (λ (l : List Y). done ++ (l ++ flat_map f rest)) (sym makes)
      ∙ ap (λ (l : List X). done ++ flat_map f l) (sym is)
      ∙ all

  pub joined-same : (done : List Y) (left rest : List X) (whole : List Y) → left ≡ rest → done ++ flat_map f left ≡ whole → done ++ flat_map f rest ≡ whole
  joined-same done left rest whole is all = ap (λ (l : List X). done ++ flat_map f l) (sym is) ∙ all

  pub joined-end : (done : List Y) (left : List X) (whole : List Y) → left ≡ [] → done ++ flat_map f left ≡ whole → done ≡ whole
  joined-end done left whole is all = sym (append-nil done) ∙ ap (λ (l : List X). done ++ flat_map f l) (sym is) ∙ all
