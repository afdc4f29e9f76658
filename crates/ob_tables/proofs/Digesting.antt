-- The digest of a row's values in a set of fields, and that rows which share the set have the same.
use Rattle.std.proofs.Common.{◌≡◌, ◌<◌, ◌≤◌, ◌+◌, ℕ, List, [], ◌∷◌, length, get_or, drop, Option, Some, None, option_map, option_and_then, unwrap_or, refl, sym, ap, ◌∙◌}
use Rattle.std.specs.Prelude.{All}
use Rattle.std.specs.BTreeMap as tree
use Rattle.std.specs.BTreeMap.{BTreeMap}
use Rattle.std.specs.Borrow.{Bor}
use Rattle.std.specs.Option.{option_copied}
use Rattle.std.specs.Ordering.{nat_cmp}
use Rattle.std.specs.declared.hash.FoldHasher.{FoldHasher}
use Rattle.std.specs.Hash.FoldHasher as folding
use Rattle.std.proofs.lemmas.List.{at_drop_all, at_drop_more}
use Rattle.std.proofs.lemmas.List.Elements.{All-head, All-tail}
use Rattle.ob_base.specs.declared.id.FieldNo.{FieldNo}
use Rattle.ob_base.specs.declared.value.Value.{Value}
use Rattle.ob_base.specs.declared.value.Value.TheVariants as value
use Rattle.ob_schema.specs.Tables.{PlainRow, kept_in}
use Rattle.ob_tables.specs.Digests.{digest_in, fed_in, fed_with}
use Rattle.ob_tables.specs.Rooms.{shown_row}
use Rattle.ob_tables.specs.Sets.{AreKeptAlike, set_value}
use Rattle.ob_tables.proofs.SetValues.{some-set}
use Rattle.ob_tables.proofs.Shown.{get-shown_row}

-- what a row keeps is what its map has, or unset
pub kept-shown : (row : BTreeMap ℕ Value) (field : FieldNo) (found : Option (Bor Value)) → option_copied found ≡ tree.get nat_cmp row field.0 → kept_in (shown_row row) field ≡ unwrap_or (option_copied found) value.Nil
kept-shown row field found is = ap (λ (o : Option Value). unwrap_or o value.Nil) (get-shown_row row field.0 ∙ sym is)

-- ---- a field at a time

module _ (row : PlainRow) (set : List FieldNo) (i : ℕ) (d : FieldNo) (hasher : FoldHasher) where
  abbrev has : Option Value
  has = set_value (Some (kept_in row (get_or set i d)))

  abbrev after : Option Value → Option FoldHasher
  after = option_and_then (λ v. fed_in row (drop (i + 1) set) (fed_with hasher v))

  -- a field that is unset
  pub fed-none : i < length set → has ≡ None → fed_in row (drop i set) hasher ≡ None
  fed-none low none = at_drop_more (λ fields. fed_in row fields hasher) set i d low ∙ ap after none

  -- one that has a value
  pub fed-more : (v : Value) → i < length set → has ≡ Some v → fed_in row (drop i set) hasher ≡ fed_in row (drop (i + 1) set) (fed_with hasher v)
  fed-more v low is = at_drop_more (λ fields. fed_in row fields hasher) set i d low ∙ ap after is

-- none is left
pub fed-all : (row : PlainRow) (set : List FieldNo) (i : ℕ) (hasher : FoldHasher) → length set ≤ i → fed_in row (drop i set) hasher ≡ Some hasher
fed-all row set i hasher high = at_drop_all (λ fields. fed_in row fields hasher) set i high

-- ---- rows that share a set

alike-fed : (own row : PlainRow) (set : List FieldNo) (hasher : FoldHasher) → All (AreKeptAlike own row) set → (h : FoldHasher) × (fed_in own set hasher ≡ Some h) × (fed_in row set hasher ≡ Some h)
alike-fed own row [] hasher alike = (hasher, refl, refl)
alike-fed own row (field ∷ set) hasher alike =
    let first = All-head (AreKeptAlike own row) field set alike in
    let v = kept_in own field in
    let given : set_value (Some v) ≡ Some v = some-set v first.0 in
    let rest = alike-fed own row set (fed_with hasher v) (All-tail (AreKeptAlike own row) field set alike) in (
      rest.0,
      ap (option_and_then (λ v. fed_in own set (fed_with hasher v))) given ∙ rest.1,
      ap (option_and_then (λ v. fed_in row set (fed_with hasher v))) (ap (λ (w : Value). set_value (Some w)) first.1 ∙ given) ∙ rest.2,
    )

-- rows that keep the same values in a set, none of them unset, have the same digest in it
pub alike-digest : (own row : PlainRow) (set : List FieldNo) → All (AreKeptAlike own row) set → (digest : ℕ) × (digest_in own set ≡ Some digest) × (digest_in row set ≡ Some digest)
alike-digest own row set alike =
    let fed = alike-fed own row set folding.initial alike in (folding.finish fed.0, ap (option_map folding.finish) fed.1, ap (option_map folding.finish) fed.2)
