-- Rows that are brought, each behind those before it.
use Rattle.std.proofs.Common.{◌≡◌, inl, inr, ℕ, zero, suc, ◌+◌, ◌<◌, ◌≤◌, List, [], ◌∷◌, ◌++◌, length, map, take, All, Option, None, Some, refl, sym, ap, subst, append_assoc, ◌∙◌, arith}
use Rattle.std.specs.Prelude.{◌⊎◌, IsSomeAnd, codes, slice_get}
use Rattle.std.proofs.lemmas.List.{append-nil, length-append, length-take-le, take_all}
use Rattle.std.proofs.lemmas.List.Elements.{All-head, All-tail}
use Rattle.std.proofs.lemmas.Option.{same_Some, slice_get_within}
use Rattle.toml.specs.Data.{Data}
use Rattle.ob_base.specs.declared.place.PathStep.{PathStep}
use Rattle.ob_load.specs.Access.{each_behind, ref_name}
use Rattle.ob_load.specs.AccessFaults.{first_fault, form_fault, in_entry}
use Rattle.ob_load.specs.Preset.{Ref, ref_from, row_from, rows_from}
use Rattle.ob_load.specs.RowFaults.{row_fault, row_fits}
use Rattle.ob_load.specs.Rooms.{AreBrought, BringsOn, FitsAnywhere, FitsBehind, HaveRows, IsBehind, IsGivenRow}
use Rattle.ob_load.specs.declared.fault.FaultyModule.{FaultyModule}
use Rattle.ob_load.specs.declared.rows.Brought.{Brought}
use Rattle.ob_load.proofs.AccessSteps.{fault-end, fault-here, fault-on, fault_from, parted-at}
use Rattle.ob_load.proofs.Entering.{map-one}
use Rattle.ob_schema.specs.Presets.{IsPreset}
use Rattle.ob_schema.specs.declared.info.ModelInfo.{ModelInfo}
use Rattle.ob_schema.specs.declared.preset.PresetRow.{PresetRow}

-- ---- one element more at the end of a list

pub get-front : {X : Type 0} (xs ys : List X) (k : ℕ) → k < length xs → slice_get (xs ++ ys) k ≡ slice_get xs k
get-front [] ys k low = absurd (omega (arith, low))
get-front (x ∷ xs) ys zero low = refl
get-front (x ∷ xs) ys (suc k) low = get-front xs ys k (omega (arith, low))

get-last : {X : Type 0} (xs : List X) (x : X) → slice_get (xs ++ x ∷ []) (length xs) ≡ Some x
get-last [] x = refl
get-last (y ∷ xs) x = get-last xs x

-- an element is one of those before, or the last
push-cases : {X : Type 0} (xs : List X) (x : X) (i : ℕ) (y : X) → slice_get (xs ++ x ∷ []) i ≡ Some y → ((i < length xs) × (slice_get xs i ≡ Some y)) ⊎ ((i ≡ length xs) × (x ≡ y))
push-cases [] x zero y at = inr (refl, same_Some x y at)
push-cases {X} [] x (suc i) y at = absurd (let e : ◌≡◌ {A = Option X} None (Some y) = at in cc)
push-cases (z ∷ xs) x zero y at = inl (omega arith, at)
push-cases (z ∷ xs) x (suc i) y at =
    elim (push-cases xs x i y at) as (λ _. ((suc i < length (z ∷ xs)) × (slice_get (z ∷ xs) (suc i) ≡ Some y)) ⊎ ((suc i ≡ length (z ∷ xs)) × (x ≡ y))) [
      | inl own ↦ inl (let lt = own.0 in omega (arith, lt), own.1)
      | inr own ↦ inr (let e = own.0 in omega (arith, e), own.1)
    ]

no-empty : {X : Type 0} (xs ys : List X) (y : X) → [] ≡ xs ++ y ∷ ys → ⊥
no-empty {X} [] ys y is = let e : ◌≡◌ {A = List X} [] (y ∷ ys) = is in cc
no-empty {X} (x ∷ xs) ys y is = let e : ◌≡◌ {A = List X} [] (x ∷ (xs ++ y ∷ ys)) = is in cc

same-head : {X : Type 0} (x y : X) (xs ys : List X) → ◌≡◌ {A = List X} (x ∷ xs) (y ∷ ys) → x ≡ y
same-head x y xs ys is = cc

same-tail : {X : Type 0} (x y : X) (xs ys : List X) → ◌≡◌ {A = List X} (x ∷ xs) (y ∷ ys) → xs ≡ ys
same-tail x y xs ys is = cc

-- it parts the list at itself, or a part of those before
split-push : {X : Type 0} (xs before after : List X) (x y : X) → xs ++ x ∷ [] ≡ before ++ y ∷ after → ((before ≡ xs) × (x ≡ y)) ⊎ ((rest : List X) × (xs ≡ before ++ y ∷ rest))
split-push [] [] after x y is = inl (refl, same-head x y [] after is)
split-push [] (b ∷ before) after x y is = absurd (no-empty before after y (same-tail x b [] (before ++ y ∷ after) is))
split-push (z ∷ xs) [] after x y is = inr (xs, ap (λ w. w ∷ xs) (same-head z y (xs ++ x ∷ []) after is))
split-push {X} (z ∷ xs) (b ∷ before) after x y is =
    let head : z ≡ b = same-head z b (xs ++ x ∷ []) (before ++ y ∷ after) is in
    elim (split-push xs before after x y (same-tail z b (xs ++ x ∷ []) (before ++ y ∷ after) is)) as (λ _. (((b ∷ before) ≡ (z ∷ xs)) × (x ≡ y)) ⊎ ((rest : List X) × ((z ∷ xs) ≡ (b ∷ before) ++ y ∷ rest))) [
      | inl own ↦ inl (ap (λ w. w ∷ before) (sym head) ∙ ap (λ l. z ∷ l) own.0, own.1)
      | inr own ↦ inr (own.0, ap (λ w. w ∷ xs) head ∙ ap (λ l. b ∷ l) own.1)
    ]

-- what each declares, with one more
pub each-push : {X Y : Type 0} (declared : List Y → Y → List X) (before ys : List Y) (y : Y) → each_behind declared before (ys ++ y ∷ []) ≡ each_behind declared before ys ++ declared (before ++ ys) y
each-push declared before [] y = append-nil (declared before y) ∙ ap (λ l. declared l y) (sym (append-nil before))
each-push declared before (z ∷ ys) y =
    ap (λ l. declared before z ++ l) (each-push declared (before ++ z ∷ []) ys y)
    ∙ sym (append_assoc (declared before z) (each_behind declared (before ++ z ∷ []) ys) (declared ((before ++ z ∷ []) ++ ys) y))
    ∙ ap (λ l. (declared before z ++ each_behind declared (before ++ z ∷ []) ys) ++ declared l y) (append_assoc before (z ∷ []) ys)

-- ---- presets

module _ (models : List ModelInfo) where
  -- a row more, that fits behind the others
  preset-push : (rows : List PresetRow) (row : PresetRow) → IsPreset models rows → FitsBehind models rows row → IsPreset models (rows ++ row ∷ [])
  preset-push rows row are fits before one after is =
      elim (split-push rows before after row one is) as (λ _. FitsBehind models before one) [
        | inl own ↦ subst (λ (l : List PresetRow). FitsBehind models l one) (sym own.0) (subst (λ (r : PresetRow). FitsBehind models rows r) own.1 fits)
        | inr own ↦ are before one own.0 own.1
      ]

  -- rows that fit anywhere
  parted-all : (P : PresetRow → Type 0) (before after : List PresetRow) (row : PresetRow) → All P (before ++ row ∷ after) → P row
  parted-all P [] after row all = All-head P row after all
  parted-all P (b ∷ before) after row all = parted-all P before after row (All-tail P b (before ++ row ∷ after) all)

  pub preset-anywhere : (rows : List PresetRow) → All (FitsAnywhere models) rows → IsPreset models rows
  preset-anywhere rows all before row after is = parted-all (FitsAnywhere models) before after row (subst (λ (l : List PresetRow). All (FitsAnywhere models) l) is all) before

  module _ (first : ℕ) (refs : List Ref) (rows : List PresetRow) (count : length rows ≡ first + length refs) (behind : IsBehind models first refs rows) (name : List ℕ) (row : PresetRow) where
    stays : (P : PresetRow → Type 0) (i : ℕ) → i < length rows → IsSomeAnd (slice_get rows i) P → IsSomeAnd (slice_get (rows ++ row ∷ []) i) P
    stays P i low is = subst (λ (o : Option PresetRow). IsSomeAnd o P) (sym (get-front rows (row ∷ []) i low)) is

    last-is : (r : Ref) (i : ℕ) → i ≡ length refs → (name, row.model) ≡ r → IsSomeAnd (slice_get (rows ++ row ∷ []) (first + i)) (λ (own : PresetRow). own.model ≡ r.1)
    last-is r i at same =
        let place : length rows ≡ first + i = omega (arith, count, at) in
        subst (λ (k : ℕ). IsSomeAnd (slice_get (rows ++ row ∷ []) k) (λ (own : PresetRow). own.model ≡ r.1)) place
        (subst (λ (o : Option PresetRow). IsSomeAnd o (λ (own : PresetRow). own.model ≡ r.1)) (sym (get-last rows row)) (ap (λ (q : Ref). q.1) same))

    behind-push : IsBehind models first (refs ++ (name, row.model) ∷ []) (rows ++ row ∷ [])
    behind-push = record {
      placed = λ i r at. elim (push-cases refs (name, row.model) i r at) as (λ _. IsSomeAnd (slice_get (rows ++ row ∷ []) (first + i)) (λ (own : PresetRow). own.model ≡ r.1)) [
        | inl own ↦ stays (λ (o : PresetRow). o.model ≡ r.1) (first + i) (let lt = own.0 in omega (arith, count, lt)) (behind.placed i r own.1)
        | inr own ↦ last-is r i own.0 own.1
      ];
      grouped = λ i model low is. stays (λ (o : PresetRow). o.model ≡ model) i (omega (arith, count, low)) (behind.grouped i model low is);
    }

  abbrev pub with_row : Brought → List ℕ → PresetRow → Brought
  with_row b name row = record { first = b.first; refs = b.refs ++ (name, row.model) ∷ []; rows = b.rows ++ row ∷ [] }

  pub brought-push : (b : Brought) (name : List ℕ) (row : PresetRow) → AreBrought models b → FitsBehind models b.rows row → AreBrought models (with_row b name row)
  brought-push b name row is fits = record {
    fit = preset-push b.rows row is.fit fits;
    behind = behind-push b.first b.refs b.rows is.count is.behind name row;
    count = length-append b.rows (row ∷ []) ∙ ap (λ (n : ℕ). n + 1) is.count ∙ (let e = length-append b.refs ((name, row.model) ∷ []) in omega (arith, e));
  }

-- ---- the rows of a table, one by one

module _ (models : List ModelInfo) (groups : List (List ℕ)) (owner : List ℕ) (taken : List (List ℕ)) (old : Brought) (entries : List Data) where
  abbrev pub wrong_row : List Data → Data → Option FaultyModule
  wrong_row = row_fault models groups old.first owner old.refs taken

  -- nothing stands against the first so many entries, and their rows were added
  pub record AreRowsTo (n : ℕ) (names : List (List ℕ)) (b : Brought) : Type 0 where
    pub fits : fault_from wrong_row entries 0 ≡ fault_from wrong_row entries n
    pub named : names ≡ taken ++ map (ref_name owner) (take n entries)
    pub brings : BringsOn models groups owner (take n entries) old b

  -- none
  pub rows-none : AreRowsTo 0 taken old
  rows-none = record {
    fits = refl;
    named = sym (append-nil taken);
    brings = record { first_stays = refl; refs_grow = sym (append-nil old.refs); rows_grow = sym (append-nil old.rows); brought = λ have is. is };
  }

  module _ (n : ℕ) (x : Data) (at : slice_get entries n ≡ Some x) (names : List (List ℕ)) (b : Brought) (is : AreRowsTo n names b) where
    place : length (take n entries) ≡ n
    place = length-take-le n entries (let low = slice_get_within entries n x at in omega (arith, low))

    here : (o : Option FaultyModule) → form_fault owner (in_entry (codes "row") n (row_fits models groups b.first b.refs names owner x)) ≡ o → wrong_row (take n entries) x ≡ o
    here o e =
        ap (λ (k : ℕ). form_fault owner (in_entry (codes "row") k (row_fits models groups old.first (old.refs ++ map (ref_from models owner) (take n entries)) (taken ++ map (ref_name owner) (take n entries)) owner x))) place
        ∙ ap (λ (f : ℕ). form_fault owner (in_entry (codes "row") n (row_fits models groups f (old.refs ++ map (ref_from models owner) (take n entries)) (taken ++ map (ref_name owner) (take n entries)) owner x))) (sym is.brings.first_stays)
        ∙ ap (λ (r : List Ref). form_fault owner (in_entry (codes "row") n (row_fits models groups b.first r (taken ++ map (ref_name owner) (take n entries)) owner x))) (sym is.brings.refs_grow)
        ∙ ap (λ (t : List (List ℕ)). form_fault owner (in_entry (codes "row") n (row_fits models groups b.first b.refs t owner x))) (sym is.named) ∙ e

    -- a row that doesn't fit
    pub rows-faulty : (faulty : FaultyModule) → form_fault owner (in_entry (codes "row") n (row_fits models groups b.first b.refs names owner x)) ≡ Some faulty → first_fault wrong_row [] entries ≡ Some faulty
    rows-faulty faulty e = is.fits ∙ fault-here wrong_row entries n x at faulty (here (Some faulty) e)

    module _ (row : PresetRow) (name : List ℕ) (fits : row_fits models groups b.first b.refs names owner x ≡ None) (made : row ≡ row_from models groups b.first b.refs owner n x)
        (given : IsGivenRow models groups b.first b.refs row) (named : name ≡ ref_name owner x) where
      more : take (n + 1) entries ≡ take n entries ++ x ∷ []
      more = (parted-at entries n x at).1

      ref-is : ◌≡◌ {A = Ref} (name, row.model) (ref_from models owner x)
      ref-is = ap (λ (l : List ℕ). (l, row.model)) named ∙ ap (λ (r : PresetRow). (ref_name owner x, r.model)) made

      row-is : row ≡ row_from models groups old.first (old.refs ++ map (ref_from models owner) (take n entries)) owner (length (take n entries)) x
      row-is =
          made ∙ ap (λ (f : ℕ). row_from models groups f b.refs owner n x) is.brings.first_stays
          ∙ ap (λ (r : List Ref). row_from models groups old.first r owner n x) is.brings.refs_grow
          ∙ ap (λ (k : ℕ). row_from models groups old.first (old.refs ++ map (ref_from models owner) (take n entries)) owner k x) (sym place)

      names-more : names ++ name ∷ [] ≡ taken ++ map (ref_name owner) (take (n + 1) entries)
      names-more =
          ap (λ (l : List (List ℕ)). l ++ name ∷ []) is.named ∙ append_assoc taken (map (ref_name owner) (take n entries)) (name ∷ [])
          ∙ ap (λ (l : List ℕ). taken ++ (map (ref_name owner) (take n entries) ++ l ∷ [])) named
          ∙ ap (λ (l : List (List ℕ)). taken ++ l) (sym (map-one (ref_name owner) (take n entries) x)) ∙ ap (λ (l : List Data). taken ++ map (ref_name owner) l) (sym more)

      refs-more : b.refs ++ (name, row.model) ∷ [] ≡ old.refs ++ map (ref_from models owner) (take (n + 1) entries)
      refs-more =
          ap (λ (l : List Ref). l ++ (name, row.model) ∷ []) is.brings.refs_grow ∙ append_assoc old.refs (map (ref_from models owner) (take n entries)) ((name, row.model) ∷ [])
          ∙ ap (λ (r : Ref). old.refs ++ (map (ref_from models owner) (take n entries) ++ r ∷ [])) ref-is
          ∙ ap (λ (l : List Ref). old.refs ++ l) (sym (map-one (ref_from models owner) (take n entries) x)) ∙ ap (λ (l : List Data). old.refs ++ map (ref_from models owner) l) (sym more)

      abbrev made_behind : List Data → Data → List PresetRow
      made_behind before d = row_from models groups old.first (old.refs ++ map (ref_from models owner) before) owner (length before) d ∷ []

      rows-more : b.rows ++ row ∷ [] ≡ old.rows ++ rows_from models groups old.first old.refs owner (take (n + 1) entries)
      rows-more =
          ap (λ (l : List PresetRow). l ++ row ∷ []) is.brings.rows_grow ∙ append_assoc old.rows (rows_from models groups old.first old.refs owner (take n entries)) (row ∷ [])
          ∙ ap (λ (r : PresetRow). old.rows ++ (rows_from models groups old.first old.refs owner (take n entries) ++ r ∷ [])) row-is
          ∙ ap (λ (l : List PresetRow). old.rows ++ l) (sym (each-push made_behind [] (take n entries) x)) ∙ ap (λ (l : List Data). old.rows ++ rows_from models groups old.first old.refs owner l) (sym more)

      brings-more : BringsOn models groups owner (take (n + 1) entries) old (with_row models b name row)
      brings-more = record {
        first_stays = is.brings.first_stays;
        refs_grow = refs-more;
        rows_grow = rows-more;
        brought = λ have was.
            let good : AreBrought models b = is.brings.brought have was in
            brought-push models b name row good (given (subst (λ (f : ℕ). HaveRows models groups f) (sym is.brings.first_stays) have) b.rows good.behind);
      }

      -- one that fits
      pub rows-added : (new_names : List (List ℕ)) (new : Brought) → new_names ≡ names ++ name ∷ [] → new ≡ with_row models b name row → AreRowsTo (n + 1) new_names new
      rows-added new_names new ns bs = record {
        fits = is.fits ∙ fault-on wrong_row entries n x at (here None (ap (λ (o : Option (List PathStep)). form_fault owner (in_entry (codes "row") n o)) fits));
        named = ns ∙ names-more;
        brings = subst (λ (k : Brought). BringsOn models groups owner (take (n + 1) entries) old k) (sym bs) brings-more;
      }

  -- all of them
  module _ (n : ℕ) (names : List (List ℕ)) (b : Brought) (is : AreRowsTo n names b) (high : length entries ≤ n) (own : List Data) (same : entries ≡ own) where
    pub rows-fit : first_fault wrong_row [] own ≡ None
    rows-fit = subst (λ (l : List Data). first_fault wrong_row [] l ≡ None) same (is.fits ∙ fault-end wrong_row entries n high)

    pub rows-named : names ≡ taken ++ map (ref_name owner) own
    rows-named = subst (λ (l : List Data). names ≡ taken ++ map (ref_name owner) l) same (is.named ∙ ap (λ (l : List Data). taken ++ map (ref_name owner) l) (take_all n entries high))

    pub rows-brought : BringsOn models groups owner own old b
    rows-brought = subst (λ (l : List Data). BringsOn models groups owner l old b) same (subst (λ (l : List Data). BringsOn models groups owner l old b) (take_all n entries high) is.brings)
