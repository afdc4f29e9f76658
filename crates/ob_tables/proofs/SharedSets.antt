-- Rows that share a set of fields: those with the same values in it, among the rows that have values there.
use Rattle.std.proofs.Common.{◌≡◌, ◌≢◌, ℕ, true, List, [], ◌∷◌, map, Option, Some, None, IsSome, option_map, option_and_then, refl, sym, ap, subst, ◌∙◌}
use Rattle.std.specs.Prelude.{All, slice_get}
use Rattle.std.specs.Option.{IsSomeAnd}
use Rattle.std.specs.List.Sorted.{IsPermutation}
use Rattle.std.proofs.lemmas.List.Elements.{All-cons, All-head, All-nil, All-tail}
use Rattle.std.proofs.lemmas.List.Sorted.{IsPermutation-map, IsPermutation-sym}
use Rattle.std.proofs.lemmas.Option.{same_Some, slice_get-map}
use Rattle.ob_base.specs.declared.id.Cell.{Cell}
use Rattle.ob_base.specs.declared.id.FieldNo.{FieldNo}
use Rattle.ob_base.specs.declared.id.ModelNo.{ModelNo}
use Rattle.ob_base.specs.declared.id.RecId.{RecId}
use Rattle.ob_base.specs.declared.refusal.Broken.{Broken}
use Rattle.ob_base.specs.declared.refusal.BrokenKind.TheVariants as kind
use Rattle.ob_base.specs.declared.value.Value.{Value}
use Rattle.ob_base.specs.declared.value.Value.TheVariants as value
use Rattle.ob_schema.specs.declared.info.ModelInfo.{ModelInfo}
use Rattle.ob_schema.specs.Broken.{AreAlikeIn, SharesWith}
use Rattle.ob_schema.specs.Fields.{is_plain_kept}
use Rattle.ob_schema.specs.Models.{FieldHas, IsRegistry, field_at}
use Rattle.ob_schema.specs.Plain.{plain_at}
use Rattle.ob_schema.specs.Tables.{Fits, Tables, ids_in, kept_at, row_at}
use Rattle.ob_tables.specs.declared.unique.Member.{Member}
use Rattle.ob_tables.specs.Sets.{AreMembers, SharesAmong, SharesInSet, set_value, set_values, shown_member, values_in}
use Rattle.ob_tables.proofs.FitTables.{known_by}
use Rattle.ob_tables.proofs.Moved.{Once, at-moved, at-valued, once-at, once-moved, once-rising, once-valued, valued-at, with_values}
use Rattle.ob_tables.proofs.PlainCells.{has-kept-value, kept-value}
use Rattle.ob_tables.proofs.Rising.{ids-rise}
use Rattle.ob_tables.proofs.RowIds.{ids-there, there-ids}
use Rattle.ob_tables.proofs.SetValues.{some-set}

some_of : {X : Type 0} (o : Option X) → IsSome o → (x : X) × (o ≡ Some x)
some_of None h = cc
some_of (Some x) h = (x, refl)

at_some : {X : Type 0} (P : X → Type 0) (o : Option X) → IsSomeAnd o P → (x : X) × (o ≡ Some x) × P x
at_some P None h = absurd h
at_some P (Some x) h = (x, refl, h)

-- a value in a set isn't unset
set_some : (o : Option Value) (v : Value) → set_value o ≡ Some v → (o ≡ Some v) × (v ≢ value.Nil)
set_some None v e = cc
set_some (Some value.Nil) v e = cc
set_some (Some w) v e = (e, λ nil. cc)

-- the values of a set from those of its first field and of the rest
abbrev joined : Option Value → Option (List Value) → Option (List Value)
joined o rest = option_and_then (λ v. option_map (λ vs. v ∷ vs) rest) o

parted : (o : Option Value) (rest : Option (List Value)) (vs : List Value) → joined o rest ≡ Some vs → (v : Value) × (ws : List Value) × (o ≡ Some v) × (rest ≡ Some ws) × (vs ≡ v ∷ ws)
parted None rest vs e = cc
parted (Some v) None vs e = cc
parted (Some v) (Some ws) vs e = (v, ws, refl, refl, sym (same_Some (v ∷ ws) vs e))

same_first : (v w : Value) (vs ws : List Value) → v ∷ vs ≡ w ∷ ws → v ≡ w
same_first v w vs ws e = cc

same_rest : (v w : Value) (vs ws : List Value) → v ∷ vs ≡ w ∷ ws → vs ≡ ws
same_rest v w vs ws e = cc

-- a set begins with its first field
pub begins : (set : List FieldNo) (first : FieldNo) → slice_get set 0 ≡ Some first → (rest : List FieldNo) × (set ≡ first ∷ rest)
begins [] first e = cc
begins (x ∷ rest) first e = (rest, ap (λ f. f ∷ rest) (same_Some x first e))

pub no-first : (set : List FieldNo) (first : FieldNo) (rest : List FieldNo) → slice_get set 0 ≡ None → set ≡ first ∷ rest → ⊥
no-first [] first rest none is = cc
no-first (x ∷ set) first rest none is = cc

module _ (models : List ModelInfo) (t : Tables) (model : ModelNo) (registry : IsRegistry models) (fits : Fits models t) where
  abbrev at : RecId → FieldNo → Cell
  at id field = record { model = model; id = id; field = field }

  abbrev IsThere : RecId → Type 0
  IsThere id = IsSome (row_at t model id)

  abbrev IsKept : FieldNo → Type 0
  IsKept field = FieldHas models (λ info. is_plain_kept info ≡ true) model field

  -- what a row keeps for a field is the cell's value
  same-plain : (id : RecId) (field : FieldNo) → IsThere id → IsKept field → plain_at t models (at id field) ≡ kept_at t (at id field)
  same-plain id field there kept =
      let info = at_some (λ info. is_plain_kept info ≡ true) (field_at models model field) kept in
      let v = some_of (kept_at t (at id field)) (has-kept-value models t (at id field) info.0 registry info.1 there fits info.2) in
      kept-value models t (at id field) info.0 registry info.1 there info.2 v.0 v.1 ∙ sym v.1

  abbrev Alike : RecId → RecId → FieldNo → Type 0
  Alike id other field = AreAlikeIn models t model id other field

  -- rows with the same values are alike in each field
  to-alike : (set : List FieldNo) (id other : RecId) (vs : List Value) → All IsKept set → IsThere id → IsThere other → set_values t model id set ≡ Some vs → set_values t model other set ≡ Some vs → All (Alike id other) set
  to-alike [] id other vs kept one two e f = All-nil (Alike id other)
  to-alike (field ∷ set) id other vs kept one two e f =
      let a = parted (set_value (kept_at t (at id field))) (set_values t model id set) vs e in
      let b = parted (set_value (kept_at t (at other field))) (set_values t model other set) vs f in
      let v = set_some (kept_at t (at id field)) a.0 a.2 in
      let w = set_some (kept_at t (at other field)) b.0 b.2 in
      let is = All-head IsKept field set kept in
      let all = sym a.4 ∙ b.4 in
      All-cons (Alike id other) field set
      (known_by (plain_at t models (at id field)) (λ v. (v ≢ value.Nil) × (plain_at t models (at other field) ≡ Some v)) a.0 (same-plain id field one is ∙ v.0)
      (v.1, same-plain other field two is ∙ w.0 ∙ ap Some (sym (same_first a.0 b.0 a.1 b.1 all))))
      (to-alike set id other a.1 (All-tail IsKept field set kept) one two a.3 (b.3 ∙ ap Some (sym (same_rest a.0 b.0 a.1 b.1 all))))

  -- and rows that are alike in each have the same values
  from-alike : (set : List FieldNo) (id other : RecId) → All IsKept set → IsThere id → IsThere other → All (Alike id other) set
      → (vs : List Value) × (set_values t model id set ≡ Some vs) × (set_values t model other set ≡ Some vs)
  from-alike [] id other kept one two alike = ([], refl, refl)
  from-alike (field ∷ set) id other kept one two alike =
      let is = All-head IsKept field set kept in
      let v = at_some (λ v. (v ≢ value.Nil) × (plain_at t models (at other field) ≡ Some v)) (plain_at t models (at id field)) (All-head (Alike id other) field set alike) in
      let rest = from-alike set id other (All-tail IsKept field set kept) one two (All-tail (Alike id other) field set alike) in
      let some = some-set v.0 v.2.0 in
      let first = ap set_value (sym (same-plain id field one is) ∙ v.1) ∙ some in
      let second = ap set_value (sym (same-plain other field two is) ∙ v.2.1) ∙ some in (
        v.0 ∷ rest.0,
        (λ i. joined (first i) (rest.1 i)),
        (λ i. joined (second i) (rest.2 i)),
      )

  module _ (first : FieldNo) (set : List FieldNo) (ids : List RecId) (members sorted : List Member)
      (is_all : ids ≡ ids_in t model) (kept : All IsKept set) (are : AreMembers t model set ids members) (moved : IsPermutation members sorted) where
    abbrev values : RecId → Option (List Value)
    values id = set_values t model id set

    abbrev shown : List (RecId × List Value)
    shown = map shown_member sorted

    in_order : IsPermutation (with_values values ids) shown
    in_order = subst (λ ps. IsPermutation ps shown) are (IsPermutation-map shown_member members sorted moved)

    once : Once (λ (p : RecId × List Value). p.0.0) shown
    once = once-moved (λ (p : RecId × List Value). p.0.0) (with_values values ids) shown in_order
        (once-valued values (λ id. id.0) ids (subst (λ ids. Once (λ (id : RecId). id.0) ids) (sym is_all) (once-rising (λ (id : RecId). id.0) (ids_in t model) (ids-rise model t))))

    shown_at : (k : ℕ) (m : Member) → slice_get sorted k ≡ Some m → slice_get shown k ≡ Some (shown_member m)
    shown_at k m e = slice_get-map shown_member sorted k ∙ ap (option_map shown_member) e

    -- a member is a row that is there, with its values
    of_row : (k : ℕ) (m : Member) → slice_get sorted k ≡ Some m → IsThere m.id × (values m.id ≡ Some (values_in m.values.items))
    of_row k m e =
        let among = at-moved shown (with_values values ids) (shown_member m) (IsPermutation-sym (with_values values ids) shown in_order) (k, shown_at k m e) in
        let row = at-valued values ids among.0 (shown_member m) among.1 in
        (ids-there t model row.0.0 m.id (ap (λ l. slice_get l row.0.0) (sym is_all) ∙ row.0.1), row.1)

    same_place : (i j : ℕ) (one other : Member) → slice_get sorted i ≡ Some one → slice_get sorted j ≡ Some other → one.id ≡ other.id → i ≡ j
    same_place i j one other a b same = once-at (λ (p : RecId × List Value). p.0.0) shown i j (shown_member one) (shown_member other) once (shown_at i one a) (shown_at j other b) (ap (λ id. id.0) same)

    abbrev cell_of : RecId → Broken
    cell_of id = record { kind = kind.Unique; cell = at id first }

    -- two members with the same values share the set
    pub to-shared : (rest : List FieldNo) → set ≡ first ∷ rest → (b : Broken) → SharesAmong model first sorted b → SharesInSet models t model set b
    to-shared rest begins b h =
        let one = h.2 in
        let other = h.3 in
        let pair = h.4 in
        let a = of_row h.0 one pair.one_at in
        let c = of_row h.1 other pair.other_at in
        let alike = to-alike set one.id other.id (values_in one.values.items) kept a.0 c.0 a.1 (c.1 ∙ ap Some (sym pair.alike)) in
        let shares : SharesWith models t model set one.id other.id = (λ same. pair.apart (same_place h.0 h.1 one other pair.one_at pair.other_at same), c.0, alike) in
        subst (λ b. SharesInSet models t model set b) (sym h.5) (record { kind_is = refl; model_is = refl; there = a.0; shared = ((rest, begins), (other.id, shares)) })

    member_at : (id : RecId) (vs : List Value) → IsThere id → values id ≡ Some vs → (k : ℕ) × (m : Member) × (slice_get sorted k ≡ Some m) × (shown_member m ≡ (id, vs))
    member_at id vs there has =
        let row = there-ids t model id there in
        let among = valued-at values ids row.0 id vs (ap (λ l. slice_get l row.0) is_all ∙ row.1) has in
        let at = at-moved (with_values values ids) shown (id, vs) in_order among in
        by at.0 (slice_get sorted at.0) refl (sym (slice_get-map shown_member sorted at.0) ∙ at.1)
      where
        by : (k : ℕ) (o : Option Member) → slice_get sorted k ≡ o → option_map shown_member o ≡ Some (id, vs) → (k : ℕ) × (m : Member) × (slice_get sorted k ≡ Some m) × (shown_member m ≡ (id, vs))
        by k None is e = cc
        by k (Some m) is e = (k, m, is, same_Some (shown_member m) (id, vs) e)

    same_begin : (rest others : List FieldNo) (field : FieldNo) → set ≡ first ∷ rest → set ≡ field ∷ others → field ≡ first
    same_begin rest others field a b = let e : field ∷ others ≡ first ∷ rest = sym b ∙ a in cc

    -- and rows that share it are two such members
    pub from-shared : (rest : List FieldNo) → set ≡ first ∷ rest → (b : Broken) → SharesInSet models t model set b → SharesAmong model first sorted b
    from-shared rest begins b h =
        let id = b.cell.id in
        let other = h.shared.1.0 in
        let shares = subst (λ m. SharesWith models t m set id other) h.model_is h.shared.1.1 in
        let there = h.there in
        let same = from-alike set id other kept there shares.1 shares.2 in
        let one = member_at id same.0 there same.1 in
        let two = member_at other same.0 shares.1 same.2 in
        let begin = same_begin rest h.shared.0.0 b.cell.field begins h.shared.0.1 in (
          one.0,
          two.0,
          one.1,
          two.1,
          record {
            one_at = one.2;
            other_at = two.2;
            apart = λ e. shares.0 (sym (ap (λ p. p.0) one.3) ∙ ap (λ m. m.id) (same_Some one.1 two.1 (sym one.2 ∙ ap (λ k. slice_get sorted k) e ∙ two.2)) ∙ ap (λ p. p.0) two.3);
            alike = ap (λ p. p.1) one.3 ∙ sym (ap (λ p. p.1) two.3);
          },
          λ i. record { kind = h.kind_is i; cell = record { model = h.model_is i; id = sym (ap (λ (p : RecId × List Value). p.0) one.3) i; field = begin i } },
        )
