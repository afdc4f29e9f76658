-- The values of computed cells behind a change: those of before without those of rows that are gone and of marked cells, and then marked cell by marked cell.
use Rattle.std.proofs.Common.{◌≡◌, ◌+◌, ◌<◌, ◌≤◌, ◌⊎◌, ◌++◌, inl, inr, ℕ, Bool, true, false, cond, List, [], ◌∷◌, take, length, get_or, Option, Some, None, IsSome, Ok, sym, ap, subst, ◌∙◌, refl, arith}
use Rattle.std.specs.Prelude.{Contains, IfSome}
use Rattle.std.specs.Ordering.{is_eq}
use Rattle.std.specs.BTreeMap as tree
use Rattle.std.proofs.lemmas.List.{take_more, take_all}
use Rattle.std.proofs.lemmas.List.Elements.{Contains-append_left, Contains-push, Contains-push_cases}
use Rattle.ob_base.specs.BrokenOrder.{cell_order}
use Rattle.ob_base.specs.declared.id.Cell.{Cell}
use Rattle.ob_base.specs.declared.refusal.BrokenKind.{BrokenKind}
use Rattle.ob_base.specs.declared.value.Value.{Value}
use Rattle.ob_cache.specs.Behind.{AreMarked, AreUnmarked, HaveOthers}
use Rattle.ob_cache.specs.Rooms.{AreRight, AreValues, IsComputedCell, KeepsAll}
use Rattle.ob_cache.proofs.CellOrder.{cell-itself, cell-same}
use Rattle.ob_schema.specs.Links.{Sides}
use Rattle.ob_schema.specs.Tables.{PlainRow, row_at}
use Rattle.ob_schema.specs.Val.{val}
use Rattle.ob_schema.specs.declared.info.ModelInfo.{ModelInfo}
use Rattle.ob_sound.specs.FormulasBreak.{FormulasBreak, FormulasPass}
use Rattle.ob_tables.proofs.CallerLemmas.{there_is}
use Rattle.ob_trigger.specs.Affected.{Changed, IsComputedBehind}

abbrev Filled : Type 0
Filled = tree.BTreeMap Cell Value

pub contains-none : {X : Type 0} (x : X) → Contains [] x → ⊥
contains-none x one = let low : one.0 < 0 = one.1 in omega arith

-- one more of a list
module _ {X : Type 0} (xs : List X) (i : ℕ) (x : X) (low : i < length xs) (at : x ≡ get_or xs i x) where
  more : take (i + 1) xs ≡ take i xs ++ x ∷ []
  more = take_more xs i x low ∙ ap (λ (y : X). take i xs ++ y ∷ []) (sym at)

  pub one-more : (y : X) → Contains (take (i + 1) xs) y → Contains (take i xs) y ⊎ (x ≡ y)
  one-more y one = Contains-push_cases (take i xs) x y (subst (λ (l : List X). Contains l y) more one)

  pub earlier-too : (y : X) → Contains (take i xs) y → Contains (take (i + 1) xs) y
  earlier-too y one = subst (λ (l : List X). Contains l y) (sym more) (Contains-append_left (take i xs) (x ∷ []) y one)

  pub this-too : Contains (take (i + 1) xs) x
  this-too = subst (λ (l : List X). Contains l x) (sym more) (Contains-push (take i xs) x)

module _ (models : List ModelInfo) (sides : Sides) where
  abbrev Unmarked : List Cell → Cell → Value → Type 0
  Unmarked marked cell v = IsComputedCell models sides.behind cell × (val models sides.before cell ≡ Ok v) × (Contains marked cell → ⊥)

  -- those of before whose rows are there still
  pub unmarked-begun : (old copy : Filled) → AreValues models sides.before old
      → ((cell : Cell) → IsSome (row_at sides.behind cell.model cell.id) → tree.get cell_order copy cell ≡ tree.get cell_order old cell)
      → ((cell : Cell) → row_at sides.behind cell.model cell.id ≡ None → tree.get cell_order copy cell ≡ None) → AreUnmarked models sides [] copy
  unmarked-begun old copy are lasting gone = record {
    right = λ cell. by cell (row_at sides.behind cell.model cell.id) refl;
    all = λ cell was computed. inl (subst IsSome (sym (lasting cell computed.0)) (are.all cell tt (was, computed.1)));
  }
    where
      at_value : (cell : Cell) → IsSome (row_at sides.behind cell.model cell.id) → (o : Option Value) → IfSome o (λ v. IsComputedCell models sides.before cell × (val models sides.before cell ≡ Ok v))
          → IfSome o (Unmarked [] cell)
      at_value cell there None right = tt
      at_value cell there (Some v) right = ((there, right.0.1), right.1, contains-none cell)

      by : (cell : Cell) (r : Option PlainRow) → row_at sides.behind cell.model cell.id ≡ r → IfSome (tree.get cell_order copy cell) (Unmarked [] cell)
      by cell None none = subst (λ (o : Option Value). IfSome o (Unmarked [] cell)) (sym (gone cell none)) tt
      by cell (Some row) is =
          let there = there_is (row_at sides.behind cell.model cell.id) row is in
          subst (λ (o : Option Value). IfSome o (Unmarked [] cell)) (sym (lasting cell there)) (at_value cell there (tree.get cell_order old cell) (are.right cell))

  module _ (marked : List Cell) (i : ℕ) (cell : Cell) (low : i < length marked) (at : cell ≡ get_or marked i cell) where
    -- one more that is marked is taken out
    pub unmarked-more : (old new : Filled) → ((q : Cell) → tree.get cell_order new q ≡ cond (is_eq (cell_order cell q)) None (tree.get cell_order old q))
        → AreUnmarked models sides (take i marked) old → AreUnmarked models sides (take (i + 1) marked) new
    unmarked-more old new updates so_far = record {
      right = λ q. right q (is_eq (cell_order cell q)) refl (updates q);
      all = λ q was computed. all q (is_eq (cell_order cell q)) refl (updates q) (so_far.all q was computed);
    }
      where
        still : (q : Cell) → is_eq (cell_order cell q) ≡ false → (o : Option Value) → IfSome o (Unmarked (take i marked) q) → IfSome o (Unmarked (take (i + 1) marked) q)
        still q other None right = tt
        still q other (Some v) right = (
          right.0,
          right.1,
          λ one. elim (one-more marked i cell low at q one) [
            | inl earlier ↦ right.2 earlier
            | inr same ↦ absurd (let not : false ≡ true = sym other ∙ ap (λ (c : Cell). is_eq (cell_order cell c)) (sym same) ∙ cell-itself cell in cc)
          ],
        )

        right : (q : Cell) (b : Bool) → is_eq (cell_order cell q) ≡ b → tree.get cell_order new q ≡ cond b None (tree.get cell_order old q) → IfSome (tree.get cell_order new q) (Unmarked (take (i + 1) marked) q)
        right q true same now = subst (λ (o : Option Value). IfSome o (Unmarked (take (i + 1) marked) q)) (sym now) tt
        right q false other now = subst (λ (o : Option Value). IfSome o (Unmarked (take (i + 1) marked) q)) (sym now) (still q other (tree.get cell_order old q) (so_far.right q))

        all : (q : Cell) (b : Bool) → is_eq (cell_order cell q) ≡ b → tree.get cell_order new q ≡ cond b None (tree.get cell_order old q) → IsSome (tree.get cell_order old q) ⊎ Contains (take i marked) q
            → IsSome (tree.get cell_order new q) ⊎ Contains (take (i + 1) marked) q
        all q true same now before = inr (subst (Contains (take (i + 1) marked)) (cell-same cell q same) (this-too marked i cell low at))
        all q false other now (inl there) = inl (subst IsSome (sym now) there)
        all q false other now (inr one) = inr (earlier-too marked i cell low at q one)

    -- one more is evaluated
    pub done-more : (old new : Filled) (v : Value) → ((q : Cell) → tree.get cell_order new q ≡ cond (is_eq (cell_order cell q)) (Some v) (tree.get cell_order old q)) → KeepsAll old new
        → ((q : Cell) → Contains (take i marked) q → IsSome (tree.get cell_order old q)) → (q : Cell) → Contains (take (i + 1) marked) q → IsSome (tree.get cell_order new q)
    done-more old new v updates keeps before q one = elim (one-more marked i cell low at q one) [
      | inl earlier ↦ keeps q (before q earlier)
      | inr same ↦ subst (λ (c : Cell). IsSome (tree.get cell_order new c)) same (there_is (tree.get cell_order new cell) v (updates cell ∙ ap (λ (b : Bool). cond b (Some v) (tree.get cell_order old cell)) (cell-itself cell)))
    ]

    -- formulas don't break it
    pub passes-more : ((broken : BrokenKind) → FormulasBreak models sides.behind broken cell → ⊥) → FormulasPass models sides.behind (take i marked) → FormulasPass models sides.behind (take (i + 1) marked)
    passes-more here before broken q one breaks = elim (one-more marked i cell low at q one) [
      | inl earlier ↦ before broken q earlier breaks
      | inr same ↦ here broken (subst (FormulasBreak models sides.behind broken) (sym same) breaks)
    ]

  pub passes-none : FormulasPass models sides.behind []
  passes-none broken q one breaks = contains-none q one

  -- what is left has the value that it had
  pub unmarked-right : (marked : List Cell) (values : Filled) → AreMarked models sides marked
      → ((cell : Cell) → IsComputedBehind models sides cell → (Changed models sides cell → ⊥) → val models sides.before cell ≡ val models sides.behind cell)
      → AreUnmarked models sides marked values → AreRight models sides.behind values
  unmarked-right marked values are keeps unmarked cell = by (tree.get cell_order values cell) (unmarked.right cell)
    where
      by : (o : Option Value) → IfSome o (Unmarked marked cell) → IfSome o (λ v. IsComputedCell models sides.behind cell × (val models sides.behind cell ≡ Ok v))
      by None told = tt
      by (Some v) told = (told.0, sym (keeps cell told.0 (λ changed. told.2 (are.changed cell changed))) ∙ told.1)

  pub all-unmarked : (marked : List Cell) (i : ℕ) → length marked ≤ i → (values : Filled) → AreUnmarked models sides (take i marked) values → AreUnmarked models sides marked values
  all-unmarked marked i long values = subst (λ (l : List Cell). AreUnmarked models sides l values) (take_all i marked long)

  -- all computed cells have their values once all marked ones have
  pub renewed-all : (marked : List Cell) (values : Filled) → AreMarked models sides marked → AreRight models sides.behind values → HaveOthers models sides marked values
      → ((cell : Cell) → Contains marked cell → IsSome (tree.get cell_order values cell)) → AreValues models sides.behind values
  renewed-all marked values are right others done = record { right = right; all = λ cell any computed. all cell computed (row_at sides.before cell.model cell.id) refl }
    where
      all : (cell : Cell) → IsComputedCell models sides.behind cell → (r : Option PlainRow) → row_at sides.before cell.model cell.id ≡ r → IsSome (tree.get cell_order values cell)
      all cell computed None none = done cell (are.changed cell (computed, inl none))
      all cell computed (Some row) is = elim (others cell (there_is (row_at sides.before cell.model cell.id) row is) computed) [
        | inl there ↦ there
        | inr one ↦ done cell one
      ]

  pub others-stand : (marked : List Cell) (old new : Filled) → KeepsAll old new → HaveOthers models sides marked old → HaveOthers models sides marked new
  others-stand marked old new keeps others cell was computed = elim (others cell was computed) [
    | inl there ↦ inl (keeps cell there)
    | inr one ↦ inr one
  ]

  -- of all of a list
  pub all-done : (marked : List Cell) (i : ℕ) → length marked ≤ i → (values : Filled) → ((q : Cell) → Contains (take i marked) q → IsSome (tree.get cell_order values q))
      → (q : Cell) → Contains marked q → IsSome (tree.get cell_order values q)
  all-done marked i long values done q one = done q (subst (λ (l : List Cell). Contains l q) (sym (take_all i marked long)) one)

  pub all-pass : (marked : List Cell) (i : ℕ) → length marked ≤ i → FormulasPass models sides.behind (take i marked) → FormulasPass models sides.behind marked
  all-pass marked i long = subst (FormulasPass models sides.behind) (take_all i marked long)
