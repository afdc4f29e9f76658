-- What bars a write, from what its steps say.
use Rattle.std.proofs.Common.{◌≡◌, ℕ, List, map, Some, None, Err, refl, subst}
use Rattle.std.specs.Prelude.{All, Contains}
use Rattle.std.proofs.lemmas.List.Elements.{All-contains}
use Rattle.ob_access.specs.Policies.{PolicyData}
use Rattle.ob_base.specs.declared.id.ModelNo.{ModelNo}
use Rattle.ob_base.specs.declared.id.RecId.{RecId}
use Rattle.ob_base.specs.declared.id.RowKey.{RowKey}
use Rattle.ob_base.specs.declared.refusal.Op.TheVariants as op
use Rattle.ob_base.specs.declared.refusal.Refusal.{Refusal}
use Rattle.ob_base.specs.declared.refusal.Refusal.TheVariants as refusal
use Rattle.ob_cache.proofs.CallerLemmas.{Refuses-weaker}
use Rattle.ob_cache.specs.Calls.{Refuses}
use Rattle.ob_call.specs.Ids.{IsLeastMissing}
use Rattle.ob_rows.specs.Rights.{AreAdmitted, DeniesLeast, DeniesOne}
use Rattle.ob_orm.specs.Touched.{given_parents, touched, touched_models}
use Rattle.ob_orm.specs.Writable.{IsWritable, withheld}
use Rattle.ob_rows.specs.There.{AreThere}
use Rattle.ob_orm.specs.Write.{BarsWrite, Change, IsAdmissible, IsChangeable, MayBarWrite}
use Rattle.ob_orm.specs.WriteSteps.{TestsWritable}
use Rattle.ob_orm.proofs.Withheld.{unwritable-cause, withheld-cause}
use Rattle.ob_schema.specs.Facts.{told_by}
use Rattle.ob_schema.specs.Tables.{Tables}
use Rattle.ob_schema.specs.declared.info.ModelInfo.{ModelInfo}

module _ (models : List ModelInfo) (policy : PolicyData) (own : List RecId) (user : RecId) (model : ModelNo) (change : Change) (rows : List RowKey) where
  module _ (tables : Tables) (are : rows ≡ touched models model change.object.values tables change.ids) where
    -- of the rows that are touched
    abbrev Touched : List RowKey
    Touched = touched models model change.object.values tables change.ids

    abbrev Bars : Refusal → Type 0
    Bars = BarsWrite models policy user model tables own change

    -- what the caller lacks, or the first wrong value, bars it
    pub tests-bar : (rose : Type 0) (why : Refusal) → TestsWritable policy own user model rows change.object (Err why) → Refuses rose Bars why
    tests-bar rose (refusal.Right m operation) h = subst (λ (rs : List RowKey). withheld policy own user model rs ≡ Some (operation, m)) are h
    tests-bar rose (refusal.FieldRight m field) h = (subst (λ (rs : List RowKey). withheld policy own user model rs ≡ None) are h.0, h.1, h.2)
    tests-bar rose (refusal.Request place) h = (subst (λ (rs : List RowKey). withheld policy own user model rs ≡ None) are h.0, h.1, h.2)
    tests-bar rose refusal.NoMemory h = tt
    tests-bar rose _ h = absurd h

    writable : IsWritable policy own user model rows change.object → IsWritable policy own user model Touched change.object
    writable may = subst (λ (rs : List RowKey). IsWritable policy own user model rs change.object) are may

    -- so does a missing id
    pub missing-bars : (id : ℕ) → IsWritable policy own user model rows change.object → IsLeastMissing model tables change.ids id → Bars (refusal.Missing model (record { 0 = id }))
    missing-bars id may least = (writable may, refl, least)

    module _ (may : IsWritable policy own user model rows change.object) (there : AreThere model tables change.ids) where
      changeable : IsChangeable models policy user model tables own change
      changeable = record { writable = writable may; there = there }

      -- and a rule
      rule-bars : (why : Refusal) → DeniesLeast policy (told_by models tables) own user op.Write rows why → Bars why
      rule-bars (refusal.Rule m operation id name) h = (changeable, subst (λ (rs : List RowKey). DeniesLeast policy (told_by models tables) own user op.Write rs (refusal.Rule m operation id name)) are h)
      rule-bars _ h = absurd h

      pub rules-bar : (later rose : Type 0) (why : Refusal) → (later → rose) → Refuses later (DeniesLeast policy (told_by models tables) own user op.Write rows) why → Refuses rose Bars why
      rules-bar later rose why up h = Refuses-weaker later rose (DeniesLeast policy (told_by models tables) own user op.Write rows) Bars why up rule-bars h

      -- else nothing does
      pub nothing-bars : AreAdmitted policy (told_by models tables) own user op.Write rows → IsAdmissible models policy user model tables own change
      nothing-bars admitted = record { changeable = changeable; admitted = subst (AreAdmitted policy (told_by models tables) own user op.Write) are admitted }

  -- ---- whatever the keeper tells

  module _ (of : All (λ row. Contains (touched_models models model change.object.values) row.model) rows) where
    abbrev May : Refusal → Type 0
    May = MayBarWrite models policy user model change

    pub tests-cause : (rose : Type 0) (why : Refusal) → TestsWritable policy own user model rows change.object (Err why) → Refuses rose May why
    tests-cause rose (refusal.Right m operation) h =
        let (writes, among, lacks) = withheld-cause policy own user model rows (map (λ parent. parent.model) (given_parents models model change.object.values)) operation m of h in (writes, among, (own, lacks))
    tests-cause rose (refusal.FieldRight m field) h = let (among, lacks) = unwritable-cause policy own user model change.object.fields field h.2 in (h.1, among, (own, lacks))
    tests-cause rose (refusal.Request place) h = h.2
    tests-cause rose refusal.NoMemory h = tt
    tests-cause rose _ h = absurd h

    pub rule-cause : (why : Refusal) → DeniesOne op.Write rows why → May why
    rule-cause (refusal.Rule m operation id name) h = (h.0, All-contains (λ (row : RowKey). Contains (touched_models models model change.object.values) row.model) rows (record { model = m; id = id }) of h.1, h.2)
    rule-cause _ h = absurd h
