-- An index of the digests of rows follows them, and its range at a digest has the rows that have it.
use Rattle.std.proofs.Common.{◌≡◌, ◌≢◌, ◌<◌, ◌≤◌, ◌+◌, ◌==◌, inl, inr, ℕ, Bool, true, false, not, ◌&&◌, ◌||◌, cond, List, [], ◌∷◌, length, get_or, drop, map, Option, Some, None, is_some, option_map, IsSome, refl, sym, ap, ◌∙◌, arith, eq-eqb, eqb-true}
use Rattle.std.specs.Prelude.{Contains}
use Rattle.std.specs.Map.{lookup}
use Rattle.std.specs.Ordering.{eq_by_cmp, is_le, nat_cmp, ordering_then}
use Rattle.std.specs.declared.cmp.Ordering.{Ordering}
use Rattle.std.specs.declared.ops.Bound.TheVariants.{Excluded, Included}
use Rattle.std.specs.Cmp.{IsTotalOrder, nat_cmp_total, tied_itself}
use Rattle.std.specs.Borrow.{Bor}
use Rattle.std.specs.Option.{option_copied}
use Rattle.std.specs.BTreeMap as tree
use Rattle.std.specs.BTreeMap.{BTreeMap, is_at}
use Rattle.std.specs.BTreeMap.Range.{entries_between, range_contains}
use Rattle.std.proofs.lemmas.Bool.Decides.{nat_tests}
use Rattle.std.proofs.lemmas.Cmp.{on_total, then_total}
use Rattle.std.proofs.lemmas.List.{at_drop_all, at_drop_more}
use Rattle.std.proofs.lemmas.List.Folds.{list_any_at}
use Rattle.std.proofs.lemmas.Map.Lookups.{CmpEqualImpliesEq, exact_pairs, exact_unsigned}
use Rattle.ob_base.specs.Ids.{row_key_cmp}
use Rattle.ob_base.specs.declared.id.FieldNo.{FieldNo}
use Rattle.ob_base.specs.declared.id.ModelNo.{ModelNo}
use Rattle.ob_base.specs.declared.id.RecId.{RecId}
use Rattle.ob_base.specs.declared.id.RowKey.{RowKey}
use Rattle.ob_base.specs.declared.value.Value.{Value}
use Rattle.ob_schema.specs.Tables.{PlainRow, key_of, row_at}
use Rattle.ob_schema.specs.declared.info.ModelInfo.{ModelInfo}
use Rattle.ob_tables.specs.Digests.{AmongDigested, AreDigested, AreTurned, GotDigests, HasAtMost, KeepsOthers, digest_of, digested_at, digested_order, has_digest, is_digest, is_digested, row_of, sets_of, shown_at, shown_found}
use Rattle.ob_tables.specs.Holdings.{RowMap}
use Rattle.ob_tables.specs.Rooms.{shown_row, shown_tables}
use Rattle.ob_tables.specs.declared.digests.Digested.{Digested}
use Rattle.ob_tables.proofs.Held.{same_or, unequal}
use Rattle.ob_tables.proofs.HeldRows.{found-stands, stands-among, stands-kept, stands-mapped}
use Rattle.ob_tables.proofs.KnownFields.{there_is}
use Rattle.ob_tables.proofs.Shown.{changed-one, exact_rows, get-shown_rows, rows_total}

contrary : {P : Type 0} → false ≡ true → P
contrary e = cc

-- ---- keys

-- only the same one compares as equal
exact_digests : CmpEqualImpliesEq digested_order
exact_digests a b h =
    let last = λ (x y : ℕ × ℕ). ordering_then (nat_cmp x.0 y.0) (nat_cmp x.1 y.1) in
    ap (λ (p : ℕ × (ℕ × ℕ)). record { model = record { 0 = p.0 }; digest = p.1.0; id = record { 0 = p.1.1 } })
    (exact_pairs nat_cmp last exact_unsigned (exact_pairs nat_cmp nat_cmp exact_unsigned exact_unsigned) (a.model.0, (a.digest, a.id.0)) (b.model.0, (b.digest, b.id.0)) h)

digests_total : IsTotalOrder digested_order
digests_total = then_total (on_total (λ (d : Digested). d.model.0) nat_cmp_total) (then_total (on_total (λ (d : Digested). d.digest) nat_cmp_total) (on_total (λ (d : Digested). d.id.0) nat_cmp_total))

-- digests of one row are told apart by themselves
tested : (key : RowKey) (a b : ℕ) → eq_by_cmp digested_order (digested_at key a) (digested_at key b) ≡ (a == b)
tested key a b = elim (same_or digests_total exact_digests (digested_at key a) (digested_at key b)) [
  | inl is ↦ is.1 ∙ sym (eq-eqb a b (ap (λ (d : Digested). d.digest) is.0))
  | inr apart ↦ apart.1 ∙ sym (unequal a b (λ is. absurd (apart.0 (ap (λ (n : ℕ). digested_at key n) is))))
]

-- and from those of other rows
other_row : (key : RowKey) (a : ℕ) (d : Digested) → row_of d ≢ key → eq_by_cmp digested_order (digested_at key a) d ≡ false
other_row key a d other = elim (same_or digests_total exact_digests (digested_at key a) d) [ inl is ↦ absurd (other (sym (ap row_of is.0))) | inr apart ↦ apart.1 ]

-- ---- one digest of a row

taken : {X : Type 0} (b : Bool) (o : Option X) → is_some (cond b None o) ≡ (is_some o && not b)
taken true None = refl
taken true (Some x) = refl
taken false None = refl
taken false (Some x) = refl

put : {X : Type 0} (b : Bool) (v : X) (o : Option X) → is_some (cond b (Some v) o) ≡ (is_some o || b)
put true v None = refl
put true v (Some x) = refl
put false v None = refl
put false v (Some x) = refl

-- none is taken out
pub none-taken : (b : Bool) → b ≡ (b && not false)
none-taken true = refl
none-taken false = refl

-- none is put in
pub none-put : (b : Bool) → b ≡ (b || false)
none-put true = refl
none-put false = refl

-- one that is in is put in
put_again : (b e : Bool) → (e ≡ true → b ≡ true) → b ≡ (b || e)
put_again true e h = refl
put_again false true h = h refl
put_again false false h = refl

module _ {X : Type 0} (old new : BTreeMap Digested X) (key : RowKey) (digest : ℕ) where
  module _ (set : (q : Digested) → tree.get digested_order new q ≡ cond (eq_by_cmp digested_order (digested_at key digest) q) None (tree.get digested_order old q)) where
    pub taken-here : (other : ℕ) → is_digested new (digested_at key other) ≡ (is_digested old (digested_at key other) && not (digest == other))
    taken-here other =
        ap is_some (set (digested_at key other)) ∙ taken (eq_by_cmp digested_order (digested_at key digest) (digested_at key other)) (tree.get digested_order old (digested_at key other))
        ∙ ap (λ (b : Bool). is_digested old (digested_at key other) && not b) (tested key digest other)

    pub taken-elsewhere : KeepsOthers key old new
    taken-elsewhere d other = ap is_some (set d ∙ ap (λ (b : Bool). cond b None (tree.get digested_order old d)) (other_row key digest d other))

  pub put-digest : (v : X) → ((q : Digested) → tree.get digested_order new q ≡ cond (eq_by_cmp digested_order (digested_at key digest) q) (Some v) (tree.get digested_order old q))
      → GotDigests key (is_digest (Some digest)) old new
  put-digest v set = record {
    here = λ other. ap is_some (set (digested_at key other)) ∙ put (eq_by_cmp digested_order (digested_at key digest) (digested_at key other)) v (tree.get digested_order old (digested_at key other))
        ∙ ap (λ (b : Bool). is_digested old (digested_at key other) || b) (tested key digest other);
    elsewhere = λ d other. ap is_some (set d ∙ ap (λ (b : Bool). cond b (Some v) (tree.get digested_order old d)) (other_row key digest d other));
  }

pub got-none : {X : Type 0} (digests : BTreeMap Digested X) (key : RowKey) → GotDigests key (is_digest None) digests digests
got-none digests key = record { here = λ other. none-put (is_digested digests (digested_at key other)); elsewhere = λ d other. refl }

pub got-again : {X : Type 0} (digests : BTreeMap Digested X) (key : RowKey) (digest : ℕ) → is_digested digests (digested_at key digest) ≡ true → GotDigests key (is_digest (Some digest)) digests digests
got-again digests key digest in_it = record {
  here = λ other. put_again (is_digested digests (digested_at key other)) (digest == other) (λ same. ap (λ (n : ℕ). is_digested digests (digested_at key n)) (sym (eqb-true digest other same)) ∙ in_it);
  elsewhere = λ d other. refl;
}

-- ---- a set at a time

module _ (sets : List (List FieldNo)) (row : Option PlainRow) (i : ℕ) (d set : List FieldNo) (low : i < length sets) (is : set ≡ get_or sets i d) where
  -- the digest in the next set, and those in the sets that are left
  next-set : (digest : ℕ) → has_digest (drop i sets) row digest ≡ (is_digest (digest_of row set) digest || has_digest (drop (i + 1) sets) row digest)
  next-set digest =
      at_drop_more (λ (l : List (List FieldNo)). has_digest l row digest) sets i d low ∙ ap (λ (s : List FieldNo). is_digest (digest_of row s) digest || has_digest (drop (i + 1) sets) row digest) (sym is)

  in-sets : (digest : ℕ) → is_digest (digest_of row set) digest ≡ true → has_digest sets row digest ≡ true
  in-sets digest has = list_any_at (λ (s : List FieldNo). is_digest (digest_of row s) digest) sets i d low (ap (λ (s : List FieldNo). is_digest (digest_of row s) digest) (sym is) ∙ has)

none-left : (sets : List (List FieldNo)) (row : Option PlainRow) (i digest : ℕ) → length sets ≤ i → has_digest (drop i sets) row digest ≡ false
none-left sets row i digest high = at_drop_all (λ (l : List (List FieldNo)). has_digest l row digest) sets i high

-- of a row an index has at most what it had in the sets that are left, and what another has
pub record TakingOut {X : Type 0} (sets left : List (List FieldNo)) (key : RowKey) (old new : Option PlainRow) (before now : BTreeMap Digested X) : Type 0 where
  pub here : (digest : ℕ) → is_digested now (digested_at key digest) ≡ true → (has_digest left old digest || has_digest sets new digest) ≡ true
  pub elsewhere : KeepsOthers key before now

-- with what a row has in the sets that are left an index has all
pub record PuttingIn {X : Type 0} (sets left : List (List FieldNo)) (key : RowKey) (row : Option PlainRow) (before now : BTreeMap Digested X) : Type 0 where
  pub here : (digest : ℕ) → (is_digested now (digested_at key digest) || has_digest left row digest) ≡ (is_digested before (digested_at key digest) || has_digest sets row digest)
  pub elsewhere : KeepsOthers key before now

either : (b n : Bool) → b ≡ true → (b || n) ≡ true
either b n is = ap (λ (x : Bool). x || n) is

passed_by : (e r n : Bool) → (e ≡ true → n ≡ true) → ((e || r) || n) ≡ true → (r || n) ≡ true
passed_by true true n h all = refl
passed_by true false n h all = h refl
passed_by false r n h all = all

gone_by : (w e r n : Bool) → (w && not e) ≡ true → (w ≡ true → ((e || r) || n) ≡ true) → (r || n) ≡ true
gone_by true true r n both all = contrary both
gone_by true false r n both all = all refl
gone_by false e r n both all = contrary both

or_false : (b : Bool) → (b || false) ≡ b
or_false true = refl
or_false false = refl

or_assoc : (a b c : Bool) → ((a || b) || c) ≡ (a || (b || c))
or_assoc true b c = refl
or_assoc false b c = refl

module _ {X : Type 0} (sets : List (List FieldNo)) (key : RowKey) (before : BTreeMap Digested X) where
  module _ (old new : Option PlainRow) where
    pub taking-begins : ((digest : ℕ) → is_digested before (digested_at key digest) ≡ has_digest sets old digest) → TakingOut sets sets key old new before before
    taking-begins held = record { here = λ digest was. either (has_digest sets old digest) (has_digest sets new digest) (sym (held digest) ∙ was); elsewhere = λ d other. refl }

    module _ (now : BTreeMap Digested X) (i : ℕ) (d set : List FieldNo) (low : i < length sets) (is : set ≡ get_or sets i d) (taking : TakingOut sets (drop i sets) key old new before now) where
      so_far : (digest : ℕ) → is_digested now (digested_at key digest) ≡ true → ((is_digest (digest_of old set) digest || has_digest (drop (i + 1) sets) old digest) || has_digest sets new digest) ≡ true
      so_far digest was = sym (ap (λ (b : Bool). b || has_digest sets new digest) (next-set sets old i d set low is digest)) ∙ taking.here digest was

      -- the other has the same in a set
      pub taking-passes : digest_of old set ≡ digest_of new set → TakingOut sets (drop (i + 1) sets) key old new before now
      taking-passes same = record {
        here = λ digest was. passed_by (is_digest (digest_of old set) digest) (has_digest (drop (i + 1) sets) old digest) (has_digest sets new digest)
            (λ has. in-sets sets new i d set low is digest (ap (λ (o : Option ℕ). is_digest o digest) (sym same) ∙ has)) (so_far digest was);
        elsewhere = taking.elsewhere;
      }

      -- it goes
      pub taking-goes : (next : BTreeMap Digested X) → ((digest : ℕ) → is_digested next (digested_at key digest) ≡ (is_digested now (digested_at key digest) && not (is_digest (digest_of old set) digest)))
          → KeepsOthers key now next → TakingOut sets (drop (i + 1) sets) key old new before next
      taking-goes next here elsewhere = record {
        here = λ digest was. gone_by (is_digested now (digested_at key digest)) (is_digest (digest_of old set) digest) (has_digest (drop (i + 1) sets) old digest) (has_digest sets new digest)
            (sym (here digest) ∙ was) (so_far digest);
        elsewhere = λ d other. elsewhere d other ∙ taking.elsewhere d other;
      }

    pub taking-ends : (now : BTreeMap Digested X) (i : ℕ) → length sets ≤ i → TakingOut sets (drop i sets) key old new before now → HasAtMost sets key new before now
    taking-ends now i high taking = record {
      here = λ digest was. sym (ap (λ (b : Bool). b || has_digest sets new digest) (none-left sets old i digest high)) ∙ taking.here digest was;
      elsewhere = taking.elsewhere;
    }

  module _ (row : Option PlainRow) where
    pub putting-begins : PuttingIn sets sets key row before before
    putting-begins = record { here = λ digest. refl; elsewhere = λ d other. refl }

    pub putting-more : (now next : BTreeMap Digested X) (i : ℕ) (d set : List FieldNo) → i < length sets → set ≡ get_or sets i d → PuttingIn sets (drop i sets) key row before now
        → GotDigests key (is_digest (digest_of row set)) now next → PuttingIn sets (drop (i + 1) sets) key row before next
    putting-more now next i d set low is putting got = record {
      here = λ digest.
          ap (λ (b : Bool). b || has_digest (drop (i + 1) sets) row digest) (got.here digest)
          ∙ or_assoc (is_digested now (digested_at key digest)) (is_digest (digest_of row set) digest) (has_digest (drop (i + 1) sets) row digest)
          ∙ sym (ap (λ (b : Bool). is_digested now (digested_at key digest) || b) (next-set sets row i d set low is digest)) ∙ putting.here digest;
      elsewhere = λ d other. got.elsewhere d other ∙ putting.elsewhere d other;
    }

    pub putting-ends : (now : BTreeMap Digested X) (i : ℕ) → length sets ≤ i → PuttingIn sets (drop i sets) key row before now → GotDigests key (has_digest sets row) before now
    putting-ends now i high putting = record {
      here = λ digest. sym (or_false (is_digested now (digested_at key digest))) ∙ sym (ap (λ (b : Bool). is_digested now (digested_at key digest) || b) (none-left sets row i digest high)) ∙ putting.here digest;
      elsewhere = putting.elsewhere;
    }

-- ---- edits of rows

or_once : (m h : Bool) → (m ≡ true → h ≡ true) → (m || h) ≡ h
or_once true h is = sym (is refl)
or_once false h is = refl

module _ {X : Type 0} (models : List ModelInfo) (rows : RowMap) (key : RowKey) (row : Option PlainRow) where
  -- what the row doesn't have is taken out, and what it has is put in
  pub turned-over : (old mid new : BTreeMap Digested X) → AreDigested models rows old → HasAtMost (sets_of models key.model) key row old mid
      → GotDigests key (has_digest (sets_of models key.model) row) mid new → AreTurned models key row rows new
  turned-over old mid new digested at_most got d = elim (same_or rows_total exact_rows key (row_of d)) [
    | inl is ↦
        let here : d ≡ digested_at key d.digest = ap (λ (k : RowKey). digested_at k d.digest) (sym is.0) in
        ap (is_digested new) here ∙ got.here d.digest ∙ or_once (is_digested mid (digested_at key d.digest)) (has_digest (sets_of models key.model) row d.digest) (at_most.here d.digest)
        ∙ ap (λ (k : RowKey). has_digest (sets_of models k.model) row d.digest) is.0 ∙ sym (ap (λ (b : Bool). has_digest (sets_of models d.model) (cond b row (shown_at rows (row_of d))) d.digest) is.1)
    | inr apart ↦
        let other : row_of d ≢ key = λ is. apart.0 (sym is) in
        got.elsewhere d other ∙ at_most.elsewhere d other ∙ digested d ∙ sym (ap (λ (b : Bool). has_digest (sets_of models d.model) (cond b row (shown_at rows (row_of d))) d.digest) apart.1)
  ]

-- and the rows are turned
pub digested-after : {X : Type 0} (models : List ModelInfo) (rows after : RowMap) (key : RowKey) (row : Option (BTreeMap ℕ Value)) (digests : BTreeMap Digested X)
    → AreTurned models key (option_map shown_row row) rows digests → ((q : RowKey) → tree.get row_key_cmp after q ≡ cond (eq_by_cmp row_key_cmp key q) row (tree.get row_key_cmp rows q))
    → AreDigested models after digests
digested-after models rows after key row digests turned set d =
    let k = row_of d in
    turned d
    ∙ ap (λ (r : Option PlainRow). has_digest (sets_of models d.model) r d.digest) (sym (ap (option_map shown_row) (set k) ∙ changed-one shown_row (eq_by_cmp row_key_cmp key k) row (tree.get row_key_cmp rows k)))

-- what is found of rows is shown
pub shown-copied : (found : Option (Bor (BTreeMap ℕ Value))) → shown_found found ≡ option_map shown_row (option_copied found)
shown-copied None = refl
shown-copied (Some row) = refl

-- no rows have no digests
pub digested-none : {X : Type 0} (models : List ModelInfo) (rows : RowMap) (digests : BTreeMap Digested X) → rows.entries ≡ [] → digests.entries ≡ [] → AreDigested models rows digests
digested-none {X} models rows digests no_rows none d =
    ap (λ (es : List (Digested × X)). is_some (lookup (is_at (digested_order d)) es)) none ∙ sym (of_none (sets_of models d.model))
    ∙ ap (λ (es : List (RowKey × BTreeMap ℕ Value)). has_digest (sets_of models d.model) (option_map shown_row (lookup (is_at (row_key_cmp (row_of d))) es)) d.digest) (sym no_rows)
  where
    of_none : (sets : List (List FieldNo)) → has_digest sets None d.digest ≡ false
    of_none [] = refl
    of_none (set ∷ sets) = of_none sets

-- what a row has in a set, an index has
pub has-digest : (sets : List (List FieldNo)) (set : List FieldNo) (row : Option PlainRow) (digest : ℕ) → Contains sets set → digest_of row set ≡ Some digest → has_digest sets row digest ≡ true
has-digest sets set row digest among is =
    in-sets sets row among.0 set set among.1 (sym among.2) digest (ap (λ (o : Option ℕ). is_digest o digest) is ∙ eq-eqb digest digest refl)

-- ---- the rows of a digest

not_at_most : (a b : ℕ) → b < a → is_le (nat_cmp a b) ≡ false
not_at_most a b h = grind (arith, nat_tests)

from_none : (n : ℕ) → is_le (nat_cmp 0 n) ≡ true
from_none n = grind (arith, nat_tests)

module _ (model : ModelNo) (digest : ℕ) where
  abbrev at : RecId → Digested
  at id = digested_at (key_of model id) digest

  abbrev none : RecId
  none = record { 0 = 0 }

  -- the rows of a digest are in the order of their ids
  order-at : (x y : RecId) → digested_order (at x) (at y) ≡ nat_cmp x.0 y.0
  order-at x y =
      ap (λ (r : Ordering). ordering_then r (ordering_then (nat_cmp digest digest) (nat_cmp x.0 y.0))) (tied_itself nat_cmp_total model.0) ∙ ap (λ (r : Ordering). ordering_then r (nat_cmp x.0 y.0)) (tied_itself nat_cmp_total digest)

  abbrev is_between : RecId → Digested → Bool
  is_between end = range_contains digested_order (Included (at none)) (Excluded (at end))

  between : (end id : RecId) → id.0 < end.0 → is_between end (at id) ≡ true
  between end id low =
      ap (λ (r : Ordering). is_le r && not (is_le (digested_order (at end) (at id)))) (order-at none id) ∙ ap (λ (b : Bool). b && not (is_le (digested_order (at end) (at id)))) (from_none id.0)
      ∙ ap (λ (r : Ordering). not (is_le r)) (order-at end id) ∙ ap not (not_at_most end.0 id.0 low)

  -- those whose ids are below one
  abbrev pub ids_between : {X : Type 0} → RecId → BTreeMap Digested X → List RecId
  ids_between end digests = map (λ entry. entry.0.id) (entries_between digested_order (Included (at none)) (Excluded (at end)) digests.entries)

  -- among them is each row of the model that has the digest
  pub among-digested : {X : Type 0} (models : List ModelInfo) (rows : RowMap) (next_ids : BTreeMap ℕ ℕ) (digests : BTreeMap Digested X) (end : RecId) → AreDigested models rows digests
      → ((id : RecId) → IsSome (row_at (shown_tables models rows next_ids) model id) → id.0 < end.0)
      → AmongDigested (record { models = models; tables = shown_tables models rows next_ids }) model digest (ids_between end digests)
  among-digested {X} models rows next_ids digests end digested low id row set found of_model is =
      let key = key_of model id in
      let there : shown_at rows key ≡ Some row = sym (get-shown_rows rows key) ∙ found in
      let has : is_digested digests (at id) ≡ true = digested (at id) ∙ has-digest (sets_of models model) set (shown_at rows key) digest of_model (ap (λ (r : Option PlainRow). digest_of r set) there ∙ is) in
      let entry = found-stands exact_digests (at id) digests.entries has in
      let passed = between end id (low id (there_is (row_at (shown_tables models rows next_ids) model id) row found)) in
      let within = λ (e : Digested × X). is_between end e.0 in
      stands-among id (ids_between end digests) (stands-mapped (λ (e : Digested × X). e.0.id) (at id, entry.0) (entries_between digested_order (Included (at none)) (Excluded (at end)) digests.entries)
      (stands-kept within (at id, entry.0) digests.entries passed entry.1))
