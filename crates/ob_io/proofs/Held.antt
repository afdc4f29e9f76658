-- One step of a walk over slots, where the rows that they hold are looked through.
use Rattle.std.proofs.Common.{◌≡◌, ℕ, ◌<◌, ◌≤◌, Bool, true, false, cond, List, [], ◌∷◌, ◌++◌, map, filter, length, Option, Some, None, sym, ap, subst, ◌∙◌, append_assoc, length-append, arith}
use Rattle.std.specs.List.{filter_map}
use Rattle.std.specs.List.Sorted.{IsStrictlySortedBy}
use Rattle.ob_base.specs.declared.id.RecId.{RecId}
use Rattle.ob_base.specs.declared.id.RowKey.{RowKey}
use Rattle.ob_io.specs.declared.store.KeptRow.{KeptRow}
use Rattle.ob_io.proofs.RisingIds.{id_cmp}

abbrev pub SlotList : Type 0
SlotList = List (RowKey × Option KeptRow)

-- the rows that slots hold, and their ids
abbrev pub held : SlotList → List KeptRow
held es = filter_map (λ e. e.1) es

abbrev pub ids_of : List KeptRow → List RecId
ids_of rows = map (λ row. row.id) rows

pub held-occupied : (es fs : SlotList) (k : RowKey) (s : Option KeptRow) (row : KeptRow) → es ≡ (k, s) ∷ fs → s ≡ Some row → held es ≡ row ∷ held fs
held-occupied es fs k s row e h = ap held (e ∙ ap (λ o. (k, o) ∷ fs) h)

pub held-vacant : (es fs : SlotList) (k : RowKey) (s : Option KeptRow) → es ≡ (k, s) ∷ fs → s ≡ None → held es ≡ held fs
held-vacant es fs k s e h = ap held (e ∙ ap (λ o. (k, o) ∷ fs) h)

module _ (p : KeptRow → Bool) where
  -- an id that is kept
  pub kept-more : (ids new : List RecId) (row : KeptRow) (rest : List KeptRow) (whole : List RecId) → new ≡ ids ++ row.id ∷ [] → p row ≡ true
      → ids ++ ids_of (filter p (row ∷ rest)) ≡ whole → new ++ ids_of (filter p rest) ≡ whole
  kept-more ids new row rest whole is taken e =
      ap (λ l. l ++ ids_of (filter p rest)) is ∙ append_assoc ids (row.id ∷ []) (ids_of (filter p rest))
      ∙ sym (ap (λ b. ids ++ ids_of (cond b (row ∷ filter p rest) (filter p rest))) taken) ∙ e

  -- and one that is passed over
  pub passed-over : (ids : List RecId) (row : KeptRow) (rest : List KeptRow) (whole : List RecId) → p row ≡ false
      → ids ++ ids_of (filter p (row ∷ rest)) ≡ whole → ids ++ ids_of (filter p rest) ≡ whole
  passed-over ids row rest whole left_out e = sym (ap (λ b. ids ++ ids_of (cond b (row ∷ filter p rest) (filter p rest))) left_out) ∙ e

pub rising-more : (ids new : List RecId) (id : RecId) (rest : List RecId) → new ≡ ids ++ id ∷ [] → IsStrictlySortedBy id_cmp (ids ++ id ∷ rest) → IsStrictlySortedBy id_cmp (new ++ rest)
rising-more ids new id rest is h = subst (IsStrictlySortedBy id_cmp) (sym (ap (λ l. l ++ rest) is ∙ append_assoc ids (id ∷ []) rest)) h

pub length-push : (ids new : List RecId) (id : RecId) (most : ℕ) → new ≡ ids ++ id ∷ [] → length ids ≤ most → length ids < most → length new ≤ most
length-push ids new id most is few room = omega (arith, ap length is, length-append ids (id ∷ []))
