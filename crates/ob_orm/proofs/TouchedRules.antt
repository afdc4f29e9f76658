-- Rules of rows that are touched, of which those are asked that are there.
use Rattle.std.proofs.Common.{◌≡◌, ◌≤◌, ◌++◌, ◌∷◌, [], ℕ, Bool, true, false, List, Option, Result, Ok, Err, refl, sym, subst, ◌∙◌}
use Rattle.std.specs.Prelude.{All, Contains, IfErr, OnOk, filter}
use Rattle.std.proofs.lemmas.List.Elements.{All-cons, All-contains, All-nil, All-push}
use Rattle.ob_base.specs.declared.id.ModelNo.{ModelNo}
use Rattle.ob_base.specs.declared.id.RowKey.{RowKey}
use Rattle.ob_base.specs.declared.refusal.Op.{Op}
use Rattle.ob_base.specs.declared.refusal.Op.TheVariants as op
use Rattle.ob_base.specs.declared.refusal.Refusal.{Refusal}
use Rattle.ob_base.specs.declared.refusal.Refusal.TheVariants as refusal
use Rattle.ob_cache.proofs.CallerLemmas.{stays-then}
use Rattle.ob_cache.specs.Calls.{Refuses}
use Rattle.ob_cache.specs.Standing.{Holding, RestsAt, Stays}
use Rattle.ob_cache.specs.Telling.{TellsFacts}
use Rattle.ob_io.specs.Cause.{Rose}
use Rattle.ob_io.specs.Store.{Store}
use Rattle.ob_orm.proofs.EditTouches.{SoFar, filter-kept, filter-knows, filter-passed, so_far-more, so_far-none}
use Rattle.ob_rows.proofs.CallerLemmas.{err-later, refused_later, rests-tells, stays-none, told-later, told-sooner}
use Rattle.ob_rows.specs.AskingSteps.{AdmitsBy, AreKnown, DeniesBy}
use Rattle.ob_orm.specs.NewRowSteps.{MayFit}
use Rattle.ob_rows.specs.Rights.{Asking, DeniesOne}
use Rattle.ob_orm.specs.Touches.{touch_by}
use Rattle.ob_orm.specs.TouchSteps.{Adds, IsWithin, MayDo, is_there_by, knows_row}
use Rattle.ob_rows.specs.declared.asking.Caller.{Caller}
use Rattle.ob_orm.specs.declared.touching.Touched.{Touched}
use Rattle.ob_schema.specs.Facts.{OfAllTold, Told, told_by}
use Rattle.ob_schema.specs.Tables.{Tables}
use Rattle.ob_tables.specs.declared.edit.Edit.{Edit}

-- ---- which rows are there

-- of some rows those are there that are told of
abbrev AreThere : Option Store → Holding → List RowKey → List RowKey → Type 0
AreThere kept held rows there = OfAllTold (TellsFacts kept held) (λ told. there ≡ filter (knows_row told) rows)

-- so far, by an engine that stays
pub record Finding (kept : Option Store) (held : Holding) (now : Option Store) (new : Holding) (all some there : List RowKey) : Type 0 where
  pub same : Stays kept held now new
  pub told : AreThere kept held some there
  pub among : All (Contains all) there

pub finding-none : (kept : Option Store) (held : Holding) (all : List RowKey) → Finding kept held kept held all [] []
finding-none kept held all = record { same = stays-none kept held; told = λ told tells. refl; among = All-nil (Contains all) }

module _ (kept : Option Store) (held : Holding) (now : Option Store) (new : Holding) (last : Option Store) (fin : Holding) (all some there : List RowKey) (so_far : Finding kept held now new all some there)
    (row : RowKey) (was : Bool) (tells : OfAllTold (TellsFacts now new) (λ told. was ≡ knows_row told row)) (stays : Stays now new last fin) where
  early : OfAllTold (TellsFacts kept held) (λ told. was ≡ knows_row told row)
  early = told-later kept now held new so_far.same (λ told. was ≡ knows_row told row) tells

  -- one more that is there
  pub finding-kept : was ≡ true → Contains all row → Finding kept held last fin all (some ++ row ∷ []) (there ++ row ∷ [])
  finding-kept is among = record {
    same = stays-then kept now last held new fin so_far.same stays;
    told = λ told say. filter-kept (knows_row told) there some row (so_far.told told say) (sym (early told say) ∙ is);
    among = All-push (Contains all) there row so_far.among among;
  }

  -- or isn't
  pub finding-passed : was ≡ false → Finding kept held last fin all (some ++ row ∷ []) there
  finding-passed is = record {
    same = stays-then kept now last held new fin so_far.same stays;
    told = λ told say. filter-passed (knows_row told) there some row (so_far.told told say) (sym (early told say) ∙ is);
    among = so_far.among;
  }

-- ---- their rules

module _ (before mid : Option Store) (old held : Holding) (stays : Stays before old mid held) (rows keys there slice : List RowKey) (listed : rows ≡ keys) (sliced : slice ≡ there) (are : AreThere before old rows there) where
  -- those that are there are known
  pub tested-known : OfAllTold (TellsFacts mid held) (AreKnown slice)
  tested-known = subst (λ (rs : List RowKey). OfAllTold (TellsFacts mid held) (AreKnown rs)) (sym sliced)
      (told-sooner before mid old held stays (AreKnown there) (λ told tells. filter-knows told rows there (are told tells)))

  -- of what is told before it is these of the set
  these : (told : Told) → TellsFacts before old told → slice ≡ filter (knows_row told) keys
  these told tells = sliced ∙ subst (λ (rs : List RowKey). there ≡ filter (knows_row told) rs) listed (are told tells)

  module _ (by : Caller) (op : Op) where
    pub tested-admits : (r : Result (Unit {0}) Refusal) → OnOk r (OfAllTold (TellsFacts mid held) (λ told. AdmitsBy by told op slice))
        → OnOk r (OfAllTold (TellsFacts before old) (λ told. AdmitsBy by told op (filter (knows_row told) keys)))
    tested-admits (Ok u) h = λ told tells. subst (AdmitsBy by told op) (these told tells) (told-later before mid old held stays (λ told. AdmitsBy by told op slice) h told tells)
    tested-admits (Err w) h = tt

    pub tested-denies : (first now last : ℕ) → first ≤ now → (r : Result (Unit {0}) Refusal) → IfErr r (λ why. OfAllTold (TellsFacts mid held) (λ told. Refuses (Rose now last) (DeniesBy by told op slice) why))
        → IfErr r (λ why. OfAllTold (TellsFacts before old) (λ told. Refuses (Rose first last) (DeniesBy by told op (filter (knows_row told) keys)) why))
    tested-denies first now last up (Ok u) h = tt
    tested-denies first now last up (Err w) h = λ told tells.
        refused_later first now last up (DeniesBy by told op slice) (DeniesBy by told op (filter (knows_row told) keys)) w (λ v denies. subst (λ (rs : List RowKey). DeniesBy by told op rs v) (these told tells) denies)
        (told-later before mid old held stays (λ told. Refuses (Rose now last) (DeniesBy by told op slice) w) h told tells)

-- one of those that are there is one of the rows
one-among : (op : Op) (rows there : List RowKey) → All (Contains rows) there → (w : Refusal) → DeniesOne op there w → DeniesOne op rows w
one-among op rows there among (refusal.Rule m operation id rule) h = (h.0, All-contains (Contains rows) there (record { model = m; id = id }) among h.1, h.2)
one-among op rows there among _ h = absurd h

pub tested-causes : (rows keys there slice : List RowKey) → rows ≡ keys → slice ≡ there → All (Contains rows) there → (op : Op) (first now last : ℕ) → first ≤ now → (r : Result (Unit {0}) Refusal)
    → IfErr r (Refuses (Rose now last) (DeniesOne op slice)) → IfErr r (Refuses (Rose first last) (DeniesOne op keys))
tested-causes rows keys there slice listed sliced among op first now last up r h =
    err-later r first now last up (DeniesOne op slice) (DeniesOne op keys)
    (one-among op keys slice (subst (All (Contains keys)) (sym sliced) (subst (λ (rs : List RowKey). All (Contains rs) there) listed among))) h

-- ---- what edits do

-- the first so many, by an engine that stays
pub record Doing (kept : Option Store) (held : Holding) (now : Option Store) (new : Holding) (first : Asking) (all some : List Edit) (touched : Touched) : Type 0 where
  pub same : Stays kept held now new
  pub done : (tables : Tables) → RestsAt kept held tables → SoFar held.models tables first some touched
  pub within : (may : Op → ModelNo → Bool) → may first.0 first.1 ≡ true → All (MayDo may) all → IsWithin may touched

pub doing-none : (kept : Option Store) (held : Holding) (first : Asking) (all : List Edit) (touched : Touched) → touched.askings.items ≡ first ∷ [] → touched.made.keys ≡ [] → touched.changed.keys ≡ []
    → Doing kept held kept held first all [] touched
doing-none kept held first all touched asked made changed = record {
  same = stays-none kept held;
  done = λ tables rests. so_far-none held.models tables first touched asked made changed;
  within = λ may is each. record {
    askings = subst (All (λ asking. may asking.0 asking.1 ≡ true)) (sym asked) (All-cons (λ (asking : Asking). may asking.0 asking.1 ≡ true) first [] is (All-nil (λ (asking : Asking). may asking.0 asking.1 ≡ true)));
    made = subst (All (λ row. may op.Create row.model ≡ true)) (sym made) (All-nil (λ (row : RowKey). may op.Create row.model ≡ true));
    changed = subst (All (λ row. may op.Write row.model ≡ true)) (sym changed) (All-nil (λ (row : RowKey). may op.Write row.model ≡ true));
  };
}

-- one more
pub doing-more : (kept : Option Store) (held : Holding) (now : Option Store) (new : Holding) (last : Option Store) (fin : Holding) (first : Asking) (all some : List Edit) (one : Edit) (old touched : Touched)
    → Doing kept held now new first all some old → Contains all one → MayFit held.models one
    → OfAllTold (TellsFacts now new) (λ told. Adds (knows_row told) (touch_by (is_there_by told old) one) old touched)
    → ((may : Op → ModelNo → Bool) → MayDo may one → IsWithin may old → IsWithin may touched) → Stays now new last fin
    → Doing kept held last fin first all (some ++ one ∷ []) touched
doing-more kept held now new last fin first all some one old touched so_far among fit adds keeps stays = record {
  same = stays-then kept now last held new fin so_far.same stays;
  done = λ tables rests.
      so_far-more held.models tables first some one old touched (so_far.done tables rests) fit
      (told-later kept now held new so_far.same (λ told. Adds (knows_row told) (touch_by (is_there_by told old) one) old touched) adds (told_by held.models tables) (rests-tells kept held tables rests));
  within = λ may is each. keeps may (All-contains (MayDo may) all one each among) (so_far.within may is each);
}
