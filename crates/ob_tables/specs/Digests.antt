-- Private: the digests of rows in the sets that no two may share, as an index of them has it.
use Rattle.std.specs.Prelude.{◌≡◌, ◌≢◌, ◌==◌, ℕ, List, [], ◌∷◌, Bool, true, false, ◌||◌, cond, Contains, fold, Option, Some, is_some, option_map, option_and_then}
use Rattle.std.specs.List.{list_any}
use Rattle.std.specs.Option.{option_map_or}
use Rattle.std.specs.Ordering.{eq_by_cmp, nat_cmp, on, then_cmp}
use Rattle.std.specs.declared.cmp.Ordering.{Ordering}
use Rattle.std.specs.declared.hash.FoldHasher.{FoldHasher}
use Rattle.std.specs.Hash as fed
use Rattle.std.specs.Hash.{HashWrites}
use Rattle.std.specs.Hash.FoldHasher as folding
use Rattle.std.specs.BTreeMap as tree
use Rattle.std.specs.Borrow.{Bor}
use Rattle.ob_base.specs.Ids.{row_key_cmp}
use Rattle.ob_base.specs.declared.id.FieldNo.{FieldNo}
use Rattle.ob_base.specs.declared.id.ModelNo.{ModelNo}
use Rattle.ob_base.specs.declared.id.RecId.{RecId}
use Rattle.ob_base.specs.declared.id.RowKey.{RowKey}
use Rattle.ob_base.specs.declared.value.Value.{Value}
use Rattle.ob_base.specs.declared.value.Value.TheVariants as value
use Rattle.ob_expr.specs.Reads.{IsAmong}
use Rattle.ob_schema.specs.declared.info.ModelInfo.{ModelInfo}
use Rattle.ob_schema.specs.Models.{model_at}
use Rattle.ob_schema.specs.Tables.{Fits, PlainRow, Standing, kept_in, key_of, row_at}
use Rattle.ob_tables.specs.Holdings.{RowMap}
use Rattle.ob_tables.specs.Rooms.{shown_row, shown_tables}
use Rattle.ob_tables.specs.Sets.{set_value}
use Rattle.ob_tables.specs.declared.digests.Digested.{Digested}

-- what a hasher is fed of a value
abbrev pub fed_of : Value → HashWrites
fed_of value.Nil = []
fed_of (value.Bool b) = fed.bool b
fed_of (value.Int n) = fed.i64 n
fed_of (value.Word text) = fed.str text
fed_of (value.Day n) = fed.i32 n
fed_of (value.Moment n) = fed.i64 n
fed_of (value.Ref id) = fed.u64 id.0
fed_of (value.Refs ids) = fed.slice (λ id. fed.u64 id.0) ids

-- a hasher after a value
unfoldable pub fed_with : FoldHasher → Value → FoldHasher
fed_with hasher v = fold folding.write hasher (fed_of v)

-- a hasher after a row's values in a set of fields; none where one of them is unset
abbrev pub fed_in : PlainRow → List FieldNo → FoldHasher → Option FoldHasher
fed_in row [] hasher = Some hasher
fed_in row (field ∷ set) hasher = option_and_then (λ v. fed_in row set (fed_with hasher v)) (set_value (Some (kept_in row field)))

-- the digest of a row's values in a set; none where one of them is unset
abbrev pub digest_in : PlainRow → List FieldNo → Option ℕ
digest_in row set = option_map folding.finish (fed_in row set folding.initial)

-- the row that was found, as it is shown
abbrev pub shown_found : Option (Bor (tree.BTreeMap ℕ Value)) → Option PlainRow
shown_found row = option_map (λ row. shown_row row.now) row

-- the digest of one where it is there
abbrev pub digest_of : Option PlainRow → List FieldNo → Option ℕ
digest_of row set = option_and_then (λ row. digest_in row set) row

-- whether a digest is this one
abbrev pub is_digest : Option ℕ → ℕ → Bool
is_digest digest other = option_map_or (λ digest. digest == other) digest false

-- whether it is that of a row in one of these sets
abbrev pub has_digest : List (List FieldNo) → Option PlainRow → ℕ → Bool
has_digest sets row digest = list_any (λ set. is_digest (digest_of row set) digest) sets

-- by model, then digest, then the row
abbrev pub digested_order : Digested → Digested → Ordering
digested_order = then_cmp (on (λ d. d.model.0) nat_cmp) (then_cmp (on (λ d. d.digest) nat_cmp) (on (λ d. d.id.0) nat_cmp))

abbrev pub row_of : Digested → RowKey
row_of d = key_of d.model d.id

-- a row has a digest
abbrev pub digested_at : RowKey → ℕ → Digested
digested_at key digest = record { model = key.model; digest = digest; id = key.id }

-- whether an index has it
abbrev pub is_digested : {X : Type 0} → tree.BTreeMap Digested X → Digested → Bool
is_digested digests d = is_some (tree.get digested_order digests d)

-- the sets of fields that no two rows of a model may share
abbrev pub sets_of : List ModelInfo → ModelNo → List (List FieldNo)
sets_of models model = option_map_or (λ info. info.unique) (model_at models model) []

-- the row of a key, where it is there
abbrev pub shown_at : RowMap → RowKey → Option PlainRow
shown_at rows key = option_map shown_row (tree.get row_key_cmp rows key)

-- an index has the digests of these rows in the sets of their models, and no other
abbrev pub AreDigested : {X : Type 0} → List ModelInfo → RowMap → tree.BTreeMap Digested X → Type 0
AreDigested models rows digests = (d : Digested) → is_digested digests d ≡ has_digest (sets_of models d.model) (shown_at rows (row_of d)) d.digest

-- of the rows with another at a key, or with none there, an index has the digests
abbrev pub AreTurned : {X : Type 0} → List ModelInfo → RowKey → Option PlainRow → RowMap → tree.BTreeMap Digested X → Type 0
AreTurned models key row rows digests = (d : Digested) → is_digested digests d ≡ has_digest (sets_of models d.model) (cond (eq_by_cmp row_key_cmp key (row_of d)) row (shown_at rows (row_of d))) d.digest

-- the digests of all rows but one are the same
abbrev pub KeepsOthers : {X : Type 0} → RowKey → tree.BTreeMap Digested X → tree.BTreeMap Digested X → Type 0
KeepsOthers key old new = (d : Digested) → row_of d ≢ key → is_digested new d ≡ is_digested old d

-- of a row an index has no digest but those that it has in these sets
pub record HasAtMost {X : Type 0} (sets : List (List FieldNo)) (key : RowKey) (row : Option PlainRow) (old new : tree.BTreeMap Digested X) : Type 0 where
  pub here : (digest : ℕ) → is_digested new (digested_at key digest) ≡ true → has_digest sets row digest ≡ true
  pub elsewhere : KeepsOthers key old new

-- to what it had of a row an index got those that pass a test
pub record GotDigests {X : Type 0} (key : RowKey) (passes : ℕ → Bool) (old new : tree.BTreeMap Digested X) : Type 0 where
  pub here : (digest : ℕ) → is_digested new (digested_at key digest) ≡ (is_digested old (digested_at key digest) || passes digest)
  pub elsewhere : KeepsOthers key old new

-- what is true of the parts of all tables: they fit the registry, and the index has the digests of their rows
pub record AreWhole {X : Type 0} (models : List ModelInfo) (rows : RowMap) (digests : tree.BTreeMap Digested X) (next_ids : tree.BTreeMap ℕ ℕ) : Type 0 where
  pub fits : Fits models (shown_tables models rows next_ids)
  pub digested : AreDigested models rows digests

-- among these are the rows of a model that have a digest in one of its sets
abbrev pub AmongDigested : Standing → ModelNo → ℕ → List RecId → Type 0
AmongDigested standing model digest ids =
    (id : RecId) (row : PlainRow) (set : List FieldNo) → row_at standing.tables model id ≡ Some row → Contains (sets_of standing.models model) set → digest_in row set ≡ Some digest → IsAmong id ids
