-- An index of holdings follows a cell from its old targets to its new ones, and a row from what it had to what it has.
use Rattle.std.proofs.Common.{◌≡◌, ◌≢◌, ◌⊎◌, ◌<◌, ◌≤◌, ◌==◌, inl, inr, ℕ, suc, zero, Bool, true, false, not, ◌&&◌, ◌||◌, cond, List, [], ◌∷◌, drop, length, map, take, Option, Some, None, is_some, unwrap_or, refl, sym, ap, subst, ◌∙◌, arith, eqb-true, eq-eqb}
use Rattle.std.specs.List.{AllByRecursion, list_any}
use Rattle.std.specs.List.Sorted.{IsStrictlySortedBy}
use Rattle.std.specs.Map.{keys_of, lookup}
use Rattle.std.specs.Ordering.{eq_by_cmp, is_eq, nat_cmp, ordering_then}
use Rattle.std.specs.declared.cmp.Ordering.{Ordering}
use Rattle.std.specs.declared.cmp.Ordering.TheVariants.{Less}
use Rattle.std.specs.Cmp.{IsTotalOrder, nat_cmp_total, tied_itself}
use Rattle.std.specs.BTreeMap as tree
use Rattle.std.specs.BTreeMap.{BTreeMap, is_at}
use Rattle.std.proofs.lemmas.Bool.Decides.{eqb_tells}
use Rattle.std.proofs.lemmas.Cmp.{on_total, ranked, then_total}
use Rattle.std.proofs.lemmas.Map.Keys.{IsStrictlyIncreasing-from_sorted, sorted_from_strictly_increasing, sorted_head, sorted_tail}
use Rattle.std.proofs.lemmas.Map.Lookups.{CmpEqualImpliesEq, exact_pairs, exact_unsigned}
use Rattle.std.proofs.lemmas.Map.Views.{tells_apart}
use Rattle.ob_base.specs.Rising.{IsRising}
use Rattle.ob_base.specs.declared.id.Cell.{Cell}
use Rattle.ob_base.specs.declared.id.FieldNo.{FieldNo}
use Rattle.ob_base.specs.declared.id.RecId.{RecId}
use Rattle.ob_base.specs.declared.id.RowKey.{RowKey}
use Rattle.ob_base.specs.declared.value.Value.{Value}
use Rattle.ob_base.specs.declared.value.Value.TheVariants as value
use Rattle.ob_schema.specs.Plain.{names, targets_of}
use Rattle.ob_tables.specs.Holdings.{RowHeld, cell_of, has_id, holding_at, holding_of, holding_order, is_held, names_by, names_where}
use Rattle.ob_tables.specs.declared.holdings.Holding.{Holding}

-- ---- keys

-- only the same holding compares as equal
pub exact_holdings : CmpEqualImpliesEq holding_order
exact_holdings a b h =
    let last = λ (x y : ℕ × ℕ). ordering_then (nat_cmp x.0 y.0) (nat_cmp x.1 y.1) in
    let later = λ (x y : ℕ × (ℕ × ℕ)). ordering_then (nat_cmp x.0 y.0) (last x.1 y.1) in
    ap (λ (p : ℕ × (ℕ × (ℕ × ℕ))). record { model = record { 0 = p.0 }; field = record { 0 = p.1.0 }; target = record { 0 = p.1.1.0 }; holder = record { 0 = p.1.1.1 } })
    (exact_pairs nat_cmp later exact_unsigned (exact_pairs nat_cmp last exact_unsigned (exact_pairs nat_cmp nat_cmp exact_unsigned exact_unsigned))
    (a.model.0, (a.field.0, (a.target.0, a.holder.0))) (b.model.0, (b.field.0, (b.target.0, b.holder.0))) h)

pub holdings_total : IsTotalOrder holding_order
holdings_total =
    then_total (on_total (λ (h : Holding). h.model.0) nat_cmp_total)
    (then_total (on_total (λ (h : Holding). h.field.0) nat_cmp_total) (then_total (on_total (λ (h : Holding). h.target.0) nat_cmp_total) (on_total (λ (h : Holding). h.holder.0) nat_cmp_total)))

-- two keys are one, or compare as unequal
pub same_or : {K : Type 0} {R : K → K → Ordering} → IsTotalOrder R → CmpEqualImpliesEq R → (a b : K) → ((a ≡ b) × (eq_by_cmp R a b ≡ true)) ⊎ ((a ≢ b) × (eq_by_cmp R a b ≡ false))
same_or {K} {R} o exact a b = by (eq_by_cmp R a b) refl
  where
    itself : a ≡ b → eq_by_cmp R a b ≡ true
    itself is = ap (λ c. eq_by_cmp R a c) (sym is) ∙ ap is_eq (tied_itself o a)

    by : (t : Bool) → eq_by_cmp R a b ≡ t → ((a ≡ b) × (eq_by_cmp R a b ≡ true)) ⊎ ((a ≢ b) × (eq_by_cmp R a b ≡ false))
    by true e = inl (tells_apart exact a b e, e)
    by false e = inr (λ is. absurd (let both : true ≡ false = sym (itself is) ∙ e in cc), e)

pub unequal : (a b : ℕ) → (a ≡ b → ⊥) → (a == b) ≡ false
unequal a b h = elim (eqb_tells a b) [ inl is ↦ absurd (h is.1) | inr apart ↦ apart.0 ]

-- holdings of one cell are told apart by their targets
tested : (cell : Cell) (a t : RecId) → eq_by_cmp holding_order (holding_of cell a) (holding_of cell t) ≡ (a.0 == t.0)
tested cell a t = elim (same_or holdings_total exact_holdings (holding_of cell a) (holding_of cell t)) [
  | inl is ↦ is.1 ∙ sym (eq-eqb a.0 t.0 (ap (λ (h : Holding). h.target.0) is.0))
  | inr apart ↦ apart.1 ∙ sym (unequal a.0 t.0 (λ is. absurd (apart.0 (ap (λ (n : ℕ). holding_of cell (record { 0 = n })) is))))
]

-- and from those of other cells
other_cell : (cell : Cell) (a : RecId) (h : Holding) → cell_of h ≢ cell → eq_by_cmp holding_order (holding_of cell a) h ≡ false
other_cell cell a h other = elim (same_or holdings_total exact_holdings (holding_of cell a) h) [ inl is ↦ absurd (other (sym (ap cell_of is.0))) | inr apart ↦ apart.1 ]

-- ---- targets

or_false : (b : Bool) → (b || false) ≡ b
or_false true = refl
or_false false = refl

-- a row is named where it is one of the targets
pub names-has : (id : RecId) (v : Value) → has_id (targets_of v) id ≡ names id v
names-has id (value.Ref other) = or_false (other.0 == id.0)
names-has id (value.Refs ids) = refl
names-has id value.Nil = refl
names-has id (value.Bool b) = refl
names-has id (value.Int n) = refl
names-has id (value.Word text) = refl
names-has id (value.Day n) = refl
names-has id (value.Moment n) = refl

abbrev number : RecId → ℕ
number id = id.0

above_not : (a b : ℕ) → nat_cmp b a ≡ Less → (a == b) ≡ false
above_not a b less = unequal a b (λ is. absurd (let below : b < a = ranked b a Less (sym less) in omega arith))

none_below : (b : ℕ) (ids : List RecId) → AllByRecursion (λ y. nat_cmp b y ≡ Less) (map number ids) → list_any (λ (other : RecId). other.0 == b) ids ≡ false
none_below b [] above = refl
none_below b (t ∷ ids) above = ap (λ (x : Bool). x || list_any (λ (other : RecId). other.0 == b) ids) (above_not t.0 b above.0) ∙ none_below b ids above.1

module _ (first : RecId) (rest : List RecId) (rises : IsRising (first ∷ rest)) where
  sorted : IsStrictlySortedBy nat_cmp (map number (first ∷ rest))
  sorted = sorted_from_strictly_increasing (map number (first ∷ rest)) rises

  pub rest-rises : IsRising rest
  rest-rises = IsStrictlyIncreasing-from_sorted (map number rest) (sorted_tail nat_cmp first.0 (map number rest) sorted)

  -- ids that rise are all above the first
  pub not-first : has_id rest first ≡ false
  not-first = none_below first.0 rest (sorted_head nat_cmp first.0 (map number rest) sorted)

  below_each : (b : ℕ) (ids : List RecId) → b < first.0 → AllByRecursion (λ y. nat_cmp first.0 y ≡ Less) (map number ids) → list_any (λ (other : RecId). other.0 == b) ids ≡ false
  below_each b [] low above = refl
  below_each b (t ∷ ids) low above =
      ap (λ (x : Bool). x || list_any (λ (other : RecId). other.0 == b) ids) (unequal t.0 b (λ is. absurd (let over : first.0 < t.0 = ranked first.0 t.0 Less (sym above.0) in omega arith)))
      ∙ below_each b ids low above.1

  -- one below the first is none of them
  pub below-first : (b : RecId) → b.0 < first.0 → has_id (first ∷ rest) b ≡ false
  below-first b low =
      ap (λ (x : Bool). x || has_id rest b) (unequal first.0 b.0 (λ is. absurd (omega arith))) ∙ below_each b.0 rest low (sorted_head nat_cmp first.0 (map number rest) sorted)

-- ---- a cell's targets in turn

-- those that are left to go are held; without them and with those that are left to come the new ones are
pub record Turning {X : Type 0} (cell : Cell) (new : List RecId) (before now : BTreeMap Holding X) (gone come : List RecId) : Type 0 where
  pub rising : IsRising gone
  pub held : (target : RecId) → has_id gone target ≡ true → is_held now (holding_of cell target) ≡ true
  pub rest : (target : RecId) → (has_id come target || (is_held now (holding_of cell target) && not (has_id gone target))) ≡ has_id new target
  pub elsewhere : (h : Holding) → cell_of h ≢ cell → is_held now h ≡ is_held before h

contrary : {P : Type 0} → false ≡ true → P
contrary e = cc

none-left : (c b : Bool) → (c || (b && not b)) ≡ c
none-left c true = or_false c
none-left c false = or_false c

some_cond : {X : Type 0} (b : Bool) (w o : Option X) → is_some (cond b w o) ≡ cond b (is_some w) (is_some o)
some_cond true w o = refl
some_cond false w o = refl

one_goes : (e c w r n : Bool) → (c || (w && not (e || r))) ≡ n → (c || (cond e false w && not r)) ≡ n
one_goes true c true r n h = h
one_goes true c false r n h = h
one_goes false c w r n h = h

one_comes : (e c w g n : Bool) → (e ≡ true → g ≡ false) → ((e || c) || (w && not g)) ≡ n → (c || (cond e true w && not g)) ≡ n
one_comes true c w true n not_gone h = contrary (sym (not_gone refl))
one_comes true true w false n not_gone h = h
one_comes true false w false n not_gone h = h
one_comes false c w g n not_gone h = h

one_stays : (e c w r n : Bool) → (e ≡ true → r ≡ false) → (e ≡ true → w ≡ true) → ((e || c) || (w && not (e || r))) ≡ n → (c || (w && not r)) ≡ n
one_stays true c w true n apart held h = contrary (sym (apart refl))
one_stays true c false false n apart held h = contrary (held refl)
one_stays true true true false n apart held h = h
one_stays true false true false n apart held h = h
one_stays false c w r n apart held h = h

module _ {X : Type 0} (cell : Cell) (new : List RecId) (before : BTreeMap Holding X) where
  pub turn-begins : (old : List RecId) → IsRising old → ((target : RecId) → is_held before (holding_of cell target) ≡ has_id old target) → Turning cell new before before old new
  turn-begins old rises held = record {
    rising = rises;
    held = λ target has. held target ∙ has;
    rest = λ target. ap (λ (b : Bool). has_id new target || (b && not (has_id old target))) (held target) ∙ none-left (has_id new target) (has_id old target);
    elsewhere = λ h other. refl;
  }

  module _ (now next : BTreeMap Holding X) (gone come : List RecId) (turning : Turning cell new before now gone come) where
    changed : (a : RecId) (w : Option X) → ((q : Holding) → tree.get holding_order next q ≡ cond (eq_by_cmp holding_order (holding_of cell a) q) w (tree.get holding_order now q))
        → (t : RecId) → is_held next (holding_of cell t) ≡ cond (a.0 == t.0) (is_some w) (is_held now (holding_of cell t))
    changed a w set t =
        ap is_some (set (holding_of cell t)) ∙ some_cond (eq_by_cmp holding_order (holding_of cell a) (holding_of cell t)) w (tree.get holding_order now (holding_of cell t))
        ∙ ap (λ (b : Bool). cond b (is_some w) (is_held now (holding_of cell t))) (tested cell a t)

    unchanged : (a : RecId) (w : Option X) → ((q : Holding) → tree.get holding_order next q ≡ cond (eq_by_cmp holding_order (holding_of cell a) q) w (tree.get holding_order now q))
        → (h : Holding) → cell_of h ≢ cell → is_held next h ≡ is_held before h
    unchanged a w set h other =
        ap is_some (set h ∙ ap (λ (b : Bool). cond b w (tree.get holding_order now h)) (other_cell cell a h other)) ∙ turning.elsewhere h other

    same_id : (a t : RecId) → (a.0 == t.0) ≡ true → a ≡ t
    same_id a t e = ap (λ n. record { 0 = n }) (eqb-true a.0 t.0 e)

    -- the first that goes is taken out
    pub turn-goes : (a : RecId) (rest : List RecId) → gone ≡ a ∷ rest
        → ((q : Holding) → tree.get holding_order next q ≡ cond (eq_by_cmp holding_order (holding_of cell a) q) None (tree.get holding_order now q)) → Turning cell new before next rest come
    turn-goes a rest is set =
        let rises = subst IsRising is turning.rising in record {
          rising = rest-rises a rest rises;
          held = λ t has. changed a None set t ∙ kept t (a.0 == t.0) refl has;
          rest = λ t. ap (λ (w : Bool). has_id come t || (w && not (has_id rest t))) (changed a None set t)
              ∙ one_goes (a.0 == t.0) (has_id come t) (is_held now (holding_of cell t)) (has_id rest t) (has_id new t)
              (subst (λ (l : List RecId). (has_id come t || (is_held now (holding_of cell t) && not (has_id l t))) ≡ has_id new t) is (turning.rest t));
          elsewhere = unchanged a None set;
        }
      where
        kept : (t : RecId) (e : Bool) → (a.0 == t.0) ≡ e → has_id rest t ≡ true → cond e false (is_held now (holding_of cell t)) ≡ true
        kept t true same has = contrary (sym (subst (λ (i : RecId). has_id rest i ≡ false) (same_id a t same) (not-first a rest (subst IsRising is turning.rising))) ∙ has)
        kept t false same has = turning.held t (ap (λ (l : List RecId). has_id l t) is ∙ ap (λ (b : Bool). b || has_id rest t) same ∙ has)

    -- the first that comes is put in
    pub turn-comes : (v : X) (a : RecId) (rest : List RecId) → come ≡ a ∷ rest → has_id gone a ≡ false
        → ((q : Holding) → tree.get holding_order next q ≡ cond (eq_by_cmp holding_order (holding_of cell a) q) (Some v) (tree.get holding_order now q)) → Turning cell new before next gone rest
    turn-comes v a rest is apart set = record {
      rising = turning.rising;
      held = λ t has. changed a (Some v) set t ∙ kept (a.0 == t.0) (is_held now (holding_of cell t)) (turning.held t has);
      rest = λ t. ap (λ (w : Bool). has_id rest t || (w && not (has_id gone t))) (changed a (Some v) set t)
          ∙ one_comes (a.0 == t.0) (has_id rest t) (is_held now (holding_of cell t)) (has_id gone t) (has_id new t)
          (λ same. subst (λ (i : RecId). has_id gone i ≡ false) (same_id a t same) apart)
          (subst (λ (l : List RecId). (has_id l t || (is_held now (holding_of cell t) && not (has_id gone t))) ≡ has_id new t) is (turning.rest t));
      elsewhere = unchanged a (Some v) set;
    }
      where
        kept : (e w : Bool) → w ≡ true → cond e true w ≡ true
        kept true w h = refl
        kept false w h = h

  -- one that both have stays
  pub turn-stays : (now : BTreeMap Holding X) (gone come : List RecId) → Turning cell new before now gone come → (a : RecId) (rest others : List RecId) → gone ≡ a ∷ rest → come ≡ a ∷ others
      → Turning cell new before now rest others
  turn-stays now gone come turning a rest others is too =
      let rises = subst IsRising is turning.rising in record {
        rising = rest-rises a rest rises;
        held = λ t has. turning.held t (ap (λ (l : List RecId). has_id l t) is ∙ or_true (a.0 == t.0) (has_id rest t) has);
        rest = λ t. one_stays (a.0 == t.0) (has_id others t) (is_held now (holding_of cell t)) (has_id rest t) (has_id new t)
            (λ same. subst (λ (i : RecId). has_id rest i ≡ false) (alike t same) (not-first a rest rises))
            (λ same. turning.held t (ap (λ (l : List RecId). has_id l t) is ∙ ap (λ (b : Bool). b || has_id rest t) same))
            (subst (λ (l : List RecId). (has_id l t || (is_held now (holding_of cell t) && not (has_id (a ∷ rest) t))) ≡ has_id new t) too
            (subst (λ (l : List RecId). (has_id come t || (is_held now (holding_of cell t) && not (has_id l t))) ≡ has_id new t) is (turning.rest t)));
        elsewhere = turning.elsewhere;
      }
    where
      alike : (t : RecId) → (a.0 == t.0) ≡ true → a ≡ t
      alike t e = ap (λ n. record { 0 = n }) (eqb-true a.0 t.0 e)

      or_true : (e b : Bool) → b ≡ true → (e || b) ≡ true
      or_true true b h = refl
      or_true false b h = h

  -- nor does what both begin with
  pub turn-passes : (n : ℕ) (now : BTreeMap Holding X) (gone come : List RecId) → n ≤ length gone → n ≤ length come → take n gone ≡ take n come → Turning cell new before now gone come
      → Turning cell new before now (drop n gone) (drop n come)
  turn-passes zero now gone come low within same turning = turning
  turn-passes (suc n) now [] come low within same turning = absurd (omega arith)
  turn-passes (suc n) now (a ∷ rest) [] low within same turning = absurd (omega arith)
  turn-passes (suc n) now (a ∷ rest) (b ∷ others) low within same turning =
      turn-passes n now rest others (omega arith) (omega arith) (ap tail same)
      (turn-stays now (a ∷ rest) (b ∷ others) turning a rest others refl (ap (λ (f : RecId). f ∷ others) (sym (ap (head a) same))))
    where
      head : RecId → List RecId → RecId
      head d [] = d
      head d (x ∷ xs) = x

      tail : List RecId → List RecId
      tail [] = []
      tail (x ∷ xs) = xs

-- ---- a row's fields in turn

-- whether a field is one of those that are left
abbrev pub is_left : List (ℕ × Value) → FieldNo → Bool
is_left left field = is_some (lookup (is_at (nat_cmp field.0)) left)

-- of the fields that are left the row has the holdings of before, and of the others those of after
pub record Walking {X : Type 0} (key : RowKey) (before after : FieldNo → RecId → Bool) (whole : BTreeMap ℕ Value) (old now : BTreeMap Holding X) (left : List (ℕ × Value)) : Type 0 where
  pub rising : IsStrictlySortedBy nat_cmp (keys_of left)
  pub there : (k : ℕ) (v : Value) → lookup (is_at (nat_cmp k)) left ≡ Some v → tree.get nat_cmp whole k ≡ Some v
  pub held : RowHeld key (λ field target. cond (is_left left field) (before field target) (after field target)) old now

module _ {X : Type 0} (key : RowKey) (before after : FieldNo → RecId → Bool) (whole : BTreeMap ℕ Value) (old : BTreeMap Holding X) where
  pub walk-begins : (left : List (ℕ × Value)) → left ≡ whole.entries → tree.IsOrdered nat_cmp whole → ((field : FieldNo) (target : RecId) → is_held old (holding_at key field target) ≡ before field target)
      → ((field : FieldNo) (target : RecId) → tree.get nat_cmp whole field.0 ≡ None → before field target ≡ after field target) → Walking key before after whole old old left
  walk-begins left is ordered held same = record {
    rising = subst (λ (l : List (ℕ × Value)). IsStrictlySortedBy nat_cmp (keys_of l)) (sym is) ordered;
    there = λ k v found. ap (lookup (is_at (nat_cmp k))) (sym is) ∙ found;
    held = record {
      here = λ field target. held field target ∙ by field target (lookup (is_at (nat_cmp field.0)) left) (ap (lookup (is_at (nat_cmp field.0))) is);
      elsewhere = λ h other. refl;
    };
  }
    where
      by : (field : FieldNo) (target : RecId) (found : Option Value) → found ≡ tree.get nat_cmp whole field.0 → before field target ≡ cond (is_some found) (before field target) (after field target)
      by field target (Some v) at = refl
      by field target None at = same field target (sym at)

  module _ (now : BTreeMap Holding X) (k : ℕ) (v : Value) (from left : List (ℕ × Value)) (is : from ≡ (k, v) ∷ left) (walking : Walking key before after whole old now from) where
    abbrev pub cell_is : Cell
    cell_is = record { model = key.model; id = key.id; field = record { 0 = k } }

    found_first : lookup (is_at (nat_cmp k)) from ≡ Some v
    found_first = ap (lookup (is_at (nat_cmp k))) is ∙ ap (λ (b : Bool). cond b (Some v) (lookup (is_at (nat_cmp k)) left)) (ap is_eq (tied_itself nat_cmp_total k))

    -- the row has the field, and of it the holdings of before
    pub walk-there : tree.get nat_cmp whole k ≡ Some v
    walk-there = walking.there k v found_first

    pub walk-before : (target : RecId) → is_held now (holding_at key (record { 0 = k }) target) ≡ before (record { 0 = k }) target
    walk-before target = walking.held.here (record { 0 = k }) target ∙ ap (λ (o : Option Value). cond (is_some o) (before (record { 0 = k }) target) (after (record { 0 = k }) target)) found_first

    rising_now : IsStrictlySortedBy nat_cmp (k ∷ keys_of left)
    rising_now = subst (λ (l : List (ℕ × Value)). IsStrictlySortedBy nat_cmp (keys_of l)) is walking.rising

    none_of : (es : List (ℕ × Value)) → AllByRecursion (λ y. nat_cmp k y ≡ Less) (keys_of es) → lookup (is_at (nat_cmp k)) es ≡ None
    none_of [] above = refl
    none_of (e ∷ es) above = ap (λ (r : Ordering). cond (is_eq r) (Some e.1) (lookup (is_at (nat_cmp k)) es)) above.0 ∙ none_of es above.1

    not_left : lookup (is_at (nat_cmp k)) left ≡ None
    not_left = none_of left (sorted_head nat_cmp k (keys_of left) rising_now)

    passed : (q : ℕ) → is_eq (nat_cmp q k) ≡ false → lookup (is_at (nat_cmp q)) from ≡ lookup (is_at (nat_cmp q)) left
    passed q apart = ap (lookup (is_at (nat_cmp q))) is ∙ ap (λ (b : Bool). cond b (Some v) (lookup (is_at (nat_cmp q)) left)) apart

    found_later : (q : ℕ) (w : Value) → lookup (is_at (nat_cmp q)) left ≡ Some w → tree.get nat_cmp whole q ≡ Some w
    found_later q w found = elim (same_or nat_cmp_total exact_unsigned q k) [
      | inl same ↦ (let none : lookup (is_at (nat_cmp q)) left ≡ None = ap (λ (n : ℕ). lookup (is_at (nat_cmp n)) left) same.0 ∙ not_left in let both : None ≡ Some w = sym none ∙ found in absurd cc)
      | inr apart ↦ walking.there q w (passed q apart.1 ∙ found)
    ]

    -- its holdings became those of after
    pub walk-turns : (next : BTreeMap Holding X) → ((target : RecId) → is_held next (holding_at key (record { 0 = k }) target) ≡ after (record { 0 = k }) target)
        → ((h : Holding) → cell_of h ≢ cell_is → is_held next h ≡ is_held now h) → Walking key before after whole old next left
    walk-turns next here elsewhere = record {
      rising = sorted_tail nat_cmp k (keys_of left) rising_now;
      there = found_later;
      held = record {
        here = λ field target. elim (same_or nat_cmp_total exact_unsigned field.0 k) [
          | inl same ↦ subst (λ (f : FieldNo). is_held next (holding_at key f target) ≡ cond (is_left left f) (before f target) (after f target)) (ap (λ (n : ℕ). record { 0 = n }) (sym same.0))
              (here target ∙ sym (ap (λ (o : Option Value). cond (is_some o) (before (record { 0 = k }) target) (after (record { 0 = k }) target)) not_left))
          | inr apart ↦ elsewhere (holding_at key field target) (λ is. apart.0 (ap (λ (c : Cell). c.field.0) is)) ∙ walking.held.here field target
              ∙ ap (λ (o : Option Value). cond (is_some o) (before field target) (after field target)) (passed field.0 apart.1)
        ];
        elsewhere = λ h other. elsewhere h (λ is. other (ap (λ (c : Cell). record { model = c.model; id = c.id }) is)) ∙ walking.held.elsewhere h other;
      };
    }

    -- or are those already
    pub walk-passes : ((target : RecId) → before (record { 0 = k }) target ≡ after (record { 0 = k }) target) → Walking key before after whole old now left
    walk-passes same = walk-turns now (λ target. walk-before target ∙ same target) (λ h other. refl)

-- ---- what rows name

-- a field that a row doesn't have names no row
pub nothing-named : (row : BTreeMap ℕ Value) (field : FieldNo) (target : RecId) → tree.get nat_cmp row field.0 ≡ None → names_by row field target ≡ false
nothing-named row field target none = ap (λ (o : Option Value). names target (unwrap_or o value.Nil)) none

-- one that it has names what its value names
pub value-named : (row : BTreeMap ℕ Value) (field : FieldNo) (target : RecId) (v : Value) → tree.get nat_cmp row field.0 ≡ Some v → names_by row field target ≡ has_id (targets_of v) target
value-named row field target v at = ap (λ (o : Option Value). names target (unwrap_or o value.Nil)) at ∙ sym (names-has target v)

pub named-where : (row other : BTreeMap ℕ Value) (field : FieldNo) (target : RecId) (b : Bool) → is_some (tree.get nat_cmp row field.0) ≡ b → names_where row other field target ≡ cond b (names_by other field target) false
named-where row other field target b is = ap (λ (x : Bool). cond x (names_by other field target) false) is

-- one after the other
pub row-again : {X : Type 0} (key : RowKey) (mid last : FieldNo → RecId → Bool) (old now new : BTreeMap Holding X) → RowHeld key mid old now → RowHeld key last now new → RowHeld key last old new
row-again key mid last old now new one two = record { here = two.here; elsewhere = λ h other. two.elsewhere h other ∙ one.elsewhere h other }
