-- What is loaded, or what stands against it first.
use Rattle.std.proofs.Common.{◌≡◌, ◌≢◌, inl, inr, ℕ, ◌<◌, List, [], length, Option, None, Some, Result, Ok, Err, refl, sym, ap, subst, ◌∙◌}
use Rattle.std.specs.Prelude.{IfOk, option_map, slice_get}
use Rattle.std.proofs.lemmas.Option.{same_Some}
use Rattle.ob_base.specs.declared.place.PathStep.{PathStep}
use Rattle.ob_definition.specs.Ranking.{rank}
use Rattle.ob_definition.specs.declared.fault.SchemaFault.{SchemaFault}
use Rattle.ob_definition.specs.declared.definition.ModelDef.{ModelDef}
use Rattle.ob_schema.specs.Built.{IsBuilt}
use Rattle.ob_registry.specs.Faults.{IsFaultless, IsFirst}
use Rattle.ob_schema.specs.declared.preset.PresetRow.{PresetRow}
use Rattle.ob_schema.specs.declared.schema.Schema.{Schema}
use Rattle.ob_access.specs.Policies.{PolicyData}
use Rattle.ob_load.specs.Access.{declared_policy}
use Rattle.ob_load.specs.Preset.{declared_preset}
use Rattle.ob_load.specs.RowFaults.{modules_fault}
use Rattle.ob_load.specs.Dependencies.{IsCyclic, IsFirstCyclic, Takes}
use Rattle.ob_load.specs.Loading.{AreTaken, IsFirstFault, IsLoaded, all_models, model_place, owner_of}
use Rattle.ob_module.specs.Modules.{Module, wanted}
use Rattle.ob_load.specs.Reading.{ReadsTo, whole}
use Rattle.ob_load.specs.declared.loading.Loaded.{Loaded}
use Rattle.ob_load.specs.declared.fault.FaultyModule.{FaultyModule}
use Rattle.ob_load.specs.declared.fault.LoadFault.{LoadFault}
use Rattle.ob_load.specs.declared.fault.LoadFault.TheVariants as load
use Rattle.ob_load.specs.declared.fault.ModuleFault.{ModuleFault}
use Rattle.ob_load.specs.declared.fault.ModuleFault.TheVariants as fault
use Rattle.ob_load.specs.Rooms.{Refuses, ToldAbsent}
use Rattle.ob_load.specs.Texts.{AgreesWith, FileTexts, text_in}
use Rattle.ob_load.proofs.Owners.{owner-is}
use Rattle.ob_load.proofs.Told.{refused-is, told-refused}

-- what isn't none is something
found : (o : Option (Module × ℕ)) → o ≢ None → (m : Module) × (n : ℕ) × (o ≡ Some (m, n))
found None some = absurd (some refl)
found (Some p) some = (p.0, p.1, refl)

-- the owner of an entry
pub owner-found : (all : List Module) (entry : ℕ) → entry < length (all_models all) → (m : Module) × (n : ℕ) × (owner_of all entry ≡ Some (m, n))
owner-found all entry low = found (owner_of all entry) (owner-is all entry low)

-- one entry has one owner
pub same-owner : (all : List Module) (a b : ℕ) (m owner : Module) (k entry : ℕ) → owner_of all a ≡ Some (m, k) → owner_of all b ≡ Some (owner, entry) → a ≡ b → (m ≡ owner) × (k ≡ entry)
same-owner all a b m owner k entry first second same =
    let e : ◌≡◌ {A = Module × ℕ} (m, k) (owner, entry) = same_Some (m, k) (owner, entry) (sym first ∙ ap (owner_of all) same ∙ second) in
    (ap (λ (p : Module × ℕ). p.0) e, ap (λ (p : Module × ℕ). p.1) e)

-- the name that stands at a number is that of the module there
pub name-of : (modules : List Module) (number : ℕ) (m : Module) (name : List ℕ) → slice_get modules number ≡ Some m → option_map (λ (m : Module). m.name) (slice_get modules number) ≡ Some name → name ≡ m.name
name-of modules number m name at named = same_Some name m.name (sym named ∙ ap (option_map (λ (m : Module). m.name)) at)

-- what is refused in the module that has the entry is refused in its owner
pub told-there : (modules all : List Module) (number left entry : ℕ) (name field : List ℕ) (place : List PathStep) (why : SchemaFault) (told : LoadFault)
    → (m : Module) × (slice_get modules number ≡ Some m) × (owner_of all entry ≡ Some (m, left)) → option_map (λ (m : Module). m.name) (slice_get modules number) ≡ Some name
    → entry ≡ (rank why).entry → field ≡ (rank why).field → place ≡ model_place left field → Refuses (record { name = name; place = place; fault = fault.Schema why }) told
    → (owner : Module) (own : ℕ) → owner_of all (rank why).entry ≡ Some (owner, own) → Refuses (record { name = owner.name; place = model_place own (rank why).field; fault = fault.Schema why }) told
told-there modules all number left entry name field place why told (m, at, held) named entry_is field_is placed refuses owner own owned =
    let same = same-owner all entry (rank why).entry m owner left own held owned entry_is in
    let name_is : name ≡ owner.name = name-of modules number m name at named ∙ ap (λ (o : Module). o.name) same.0 in
    let place_is : place ≡ model_place own (rank why).field = placed ∙ ap (λ (n : ℕ). model_place n field) same.1 ∙ ap (λ (f : List ℕ). model_place own f) field_is in
    subst (λ (n : List ℕ). Refuses (record { name = n; place = model_place own (rank why).field; fault = fault.Schema why }) told) name_is
    (subst (λ (p : List PathStep). Refuses (record { name = name; place = p; fault = fault.Schema why }) told) place_is refuses)

module _ (text : List ℕ → Option (List ℕ)) (names : List (List ℕ)) (modules : List Module) (read : ReadsTo text [] (wanted names) (Ok modules)) where
  -- the first circle stands against modules that were read
  pub cycle-first : (name : List ℕ) (faulty : FaultyModule) → IsFirstCyclic modules name → faulty ≡ whole name fault.Cycle → IsFirstFault text names faulty
  cycle-first name faulty cyclic is = subst (λ (f : FaultyModule). IsFirstFault text names f) (sym is) (inr (inl (modules, read, cyclic, refl)))

  module _ (acyclic : (name : List ℕ) → IsCyclic modules name → ⊥) (taken : List Module) (order : Takes modules [] (wanted names) taken) where
    -- without a circle they are taken in their order
    pub taken-of : AreTaken text names taken
    taken-of = record { modules = modules; read = read; acyclic = acyclic; order = order }

    -- the first fault of their models stands against them
    pub models-first : (why : SchemaFault) (owner : Module) (entry : ℕ) (faulty : FaultyModule) → IsFirst (all_models taken) why → owner_of taken (rank why).entry ≡ Some (owner, entry)
        → faulty ≡ record { name = owner.name; place = model_place entry (rank why).field; fault = fault.Schema why } → IsFirstFault text names faulty
    models-first why owner entry faulty first owned told = inr (inr (inl (why, record { taken = taken; are_taken = taken-of; first = first; owner = owner; entry = entry; owned = owned; told = told })))

    -- a name or a value of theirs that doesn't fit stands against them
    pub access-first : (schema : Schema) (faulty : FaultyModule) → IsBuilt (all_models taken) schema → IsFaultless (all_models taken) → modules_fault schema taken ≡ Some faulty → IsFirstFault text names faulty
    access-first schema faulty built faultless first =
        inr (inr (inr (record { taken = taken; schema = schema; are_built = record { are_taken = taken-of; built = built; faultless = faultless }; first = first })))

-- for texts that the files may hold
module _ (told : Option FileTexts) (folder : List ℕ) (names : List (List ℕ)) where
  abbrev pub Faulty : FaultyModule → Type 0
  Faulty faulty = (texts : FileTexts) × AgreesWith told texts × IsFirstFault (text_in texts folder) names faulty

  abbrev pub Loads : Schema → PolicyData → List PresetRow → Type 0
  Loads schema policy preset = (texts : FileTexts) × AgreesWith told texts × IsLoaded (text_in texts folder) names schema policy preset

  -- a fault of reading is the first
  pub reading-told : (faulty : FaultyModule) → (texts : FileTexts) × AgreesWith told texts × ReadsTo (text_in texts folder) [] (wanted names) (Err faulty) → Faulty faulty
  reading-told faulty (texts, agree, failed) = (texts, agree, inl failed)

module _ (told : Option FileTexts) (folder : List ℕ) (names : List (List ℕ)) (modules : List Module)
    (read : (texts : FileTexts) × AgreesWith told texts × ReadsTo (text_in texts folder) [] (wanted names) (Ok modules)) where
  -- a circle that is refused is the first
  pub cycle-refused : (number : ℕ) (name : List ℕ) (why : LoadFault) (faulty : FaultyModule) → (m : Module) × (slice_get modules number ≡ Some m) × IsFirstCyclic modules m.name
      → option_map (λ (m : Module). m.name) (slice_get modules number) ≡ Some name → Refuses (whole name fault.Cycle) why → why ≡ load.Module faulty → Faulty told folder names faulty
  cycle-refused number name why faulty (m, at, first) named refuses is =
      let same = refused-is (whole name fault.Cycle) faulty why refuses is ∙ ap (λ (n : List ℕ). whole n fault.Cycle) (name-of modules number m name at named) in
      (read.0, read.1, cycle-first (text_in read.0 folder) names modules read.2 m.name faulty first same)

  module _ (acyclic : (name : List ℕ) → IsCyclic modules name → ⊥) (taken : List Module) (order : Takes modules [] (wanted names) taken) (models : List ModelDef) (all : models ≡ all_models taken) where
    -- the registry of all models and the policy are what is loaded, where all names and values fit
    pub loaded-from : (schema : Schema) (policy : PolicyData) (preset : List PresetRow) → IsBuilt models schema → IsFaultless models → modules_fault schema taken ≡ None → policy ≡ declared_policy schema taken
        → preset ≡ declared_preset schema taken → Loads told folder names schema policy preset
    loaded-from schema policy preset built faultless fits declared brought = (
      read.0,
      read.1,
      record {
        taken = taken;
        are_built = record {
          are_taken = taken-of (text_in read.0 folder) names modules read.2 acyclic taken order;
          built = subst (λ (defs : List ModelDef). IsBuilt defs schema) all built;
          faultless = subst IsFaultless all faultless;
        };
        fits = fits;
        declared = declared;
        brought = brought;
      },
    )

    -- so it is of what is made of them
    pub loaded-by : (schema : Schema) (r : Result Loaded LoadFault) → IsBuilt models schema → IsFaultless models → IfOk r (λ l. l.schema ≡ schema) → IfOk r (λ l. modules_fault schema taken ≡ None)
        → IfOk r (λ l. l.policy ≡ declared_policy schema taken) → IfOk r (λ l. l.preset.rows ≡ declared_preset schema taken) → IfOk r (λ l. Loads told folder names l.schema l.policy l.preset.rows)
    loaded-by schema (Ok l) built faultless same fits declared brought =
        subst (λ (s : Schema). Loads told folder names s l.policy l.preset.rows) (sym same) (loaded-from schema l.policy l.preset.rows built faultless fits declared brought)
    loaded-by schema (Err why) built faultless same fits declared brought = tt

    -- the first that doesn't is told
    pub access-told : (schema : Schema) (faulty : FaultyModule) → IsBuilt models schema → IsFaultless models → modules_fault schema taken ≡ Some faulty → Faulty told folder names faulty
    access-told schema faulty built faultless first =
        (read.0, read.1, access-first (text_in read.0 folder) names modules read.2 acyclic taken order schema faulty (subst (λ (defs : List ModelDef). IsBuilt defs schema) all built) (subst IsFaultless all faultless) first)

    -- an entry of the models is one of all
    pub entry-low : (n : ℕ) → n < length models → n < length (all_models taken)
    entry-low n low = subst (λ (defs : List ModelDef). n < length defs) all low

    -- the first fault of models is told
    pub models-told : (why : SchemaFault) (refusal : LoadFault) (faulty : FaultyModule) → IsFirst models why → (rank why).entry < length models
        → ((owner : Module) (entry : ℕ) → owner_of taken (rank why).entry ≡ Some (owner, entry)
        → Refuses (record { name = owner.name; place = model_place entry (rank why).field; fault = fault.Schema why }) refusal)
        → refusal ≡ load.Module faulty → Faulty told folder names faulty
    models-told why refusal faulty first low refuses is =
        let own = owner-found taken (rank why).entry (entry-low (rank why).entry low) in
        let same = refused-is (record { name = own.0.name; place = model_place own.1 (rank why).field; fault = fault.Schema why }) faulty refusal (refuses own.0 own.1 own.2) is in
        (read.0, read.1, models-first (text_in read.0 folder) names modules read.2 acyclic taken order why own.0 own.1 faulty (subst (λ (defs : List ModelDef). IsFirst defs why) all first) own.2 same)

    -- a fault of models is never told as an absent text
    pub models-there : (rose : Type 0) (why : SchemaFault) (refusal : LoadFault) → (rank why).entry < length models
        → ((owner : Module) (entry : ℕ) → owner_of taken (rank why).entry ≡ Some (owner, entry)
        → Refuses (record { name = owner.name; place = model_place entry (rank why).field; fault = fault.Schema why }) refusal) → ToldAbsent told rose refusal
    models-there rose why refusal low refuses =
        let own = owner-found taken (rank why).entry (entry-low (rank why).entry low) in
        told-refused told rose (record { name = own.0.name; place = model_place own.1 (rank why).field; fault = fault.Schema why }) refusal (refuses own.0 own.1 own.2)
        (λ same. let e : ◌≡◌ {A = ModuleFault} (fault.Schema why) fault.Absent = same in cc)
