-- The rows of groups: one for each, all of one model, before all other rows.
use Rattle.std.proofs.Common.{◌≡◌, ℕ, ◌+◌, ◌≤◌, List, [], ◌∷◌, ◌++◌, length, map, take, drop, All, Option, None, Some, refl, sym, ap, subst, ◌∙◌, arith}
use Rattle.std.specs.Prelude.{IsSomeAnd, codes}
use Rattle.std.specs.List.{enumerate_from}
use Rattle.std.specs.Option.{option_map_or}
use Rattle.std.proofs.lemmas.Grind.{flat_map-append}
use Rattle.std.proofs.lemmas.List.{length-append, length-map, take-append-drop}
use Rattle.std.proofs.lemmas.List.Elements.{All-append, All-cons, All-contains, All-map, All-nil}
use Rattle.std.proofs.lemmas.List.FromFn.{length-enumerate_from}
use Rattle.toml.specs.Data.{Data}
use Rattle.ob_base.specs.declared.id.ModelNo.{ModelNo}
use Rattle.ob_load.specs.Access.{entries_of, full_names, group_names, name_of}
use Rattle.ob_load.specs.Preset.{Ref, group_model, group_row, group_rows, group_rows_in}
use Rattle.ob_module.specs.Modules.{Module}
use Rattle.ob_load.specs.Rooms.{AreBrought, FitsAnywhere, HaveRows}
use Rattle.ob_load.specs.declared.rows.Brought.{Brought}
use Rattle.ob_load.proofs.Bringing.{preset-anywhere}
use Rattle.ob_module.proofs.CallerLemmas.{Contains-at, element-at}
use Rattle.ob_schema.specs.declared.info.ModelInfo.{ModelInfo}
use Rattle.ob_schema.specs.declared.preset.PresetRow.{PresetRow}

all-each : {X : Type 0} (P : X → Type 0) → ((x : X) → P x) → (xs : List X) → All P xs
all-each P f [] = All-nil P
all-each P f (x ∷ xs) = All-cons P x xs (f x) (all-each P f xs)

module _ (models : List ModelInfo) where
  module _ (model : ModelNo) (is : group_model models ≡ Some model) where
    pub rows-by : (m : Module) → group_rows_in models m ≡ map (λ (p : ℕ × Data). group_row models model m.name p.0 p.1) (enumerate_from 0 (entries_of (codes "group") m.document))
    rows-by m = ap (λ (o : Option ModelNo). option_map_or (λ (k : ModelNo). map (λ (p : ℕ × Data). group_row models k m.name p.0 p.1) (enumerate_from 0 (entries_of (codes "group") m.document))) o []) is

    count-in : (m : Module) → length (group_rows_in models m) ≡ length (full_names (codes "group") m)
    count-in m =
        let entries = entries_of (codes "group") m.document in
        ap length (rows-by m) ∙ length-map (enumerate_from 0 entries) (λ (p : ℕ × Data). group_row models model m.name p.0 p.1) ∙ length-enumerate_from 0 entries ∙ sym (length-map entries (name_of m.name))

    -- there are as many as groups
    counts : (modules : List Module) → length (group_rows models modules) ≡ length (group_names modules)
    counts [] = refl
    counts (m ∷ more) =
        length-append (group_rows_in models m) (group_rows models more) ∙ ap (λ (n : ℕ). n + length (group_rows models more)) (count-in m)
        ∙ ap (λ (n : ℕ). length (full_names (codes "group") m) + n) (counts more) ∙ sym (length-append (full_names (codes "group") m) (group_names more))

    -- each is of their model
    all-of : (modules : List Module) → All (λ (row : PresetRow). row.model ≡ model) (group_rows models modules)
    all-of [] = All-nil (λ (row : PresetRow). row.model ≡ model)
    all-of (m ∷ more) =
        let P : PresetRow → Type 0 = λ row. row.model ≡ model in
        let f : ℕ × Data → PresetRow = λ p. group_row models model m.name p.0 p.1 in
        let entries = enumerate_from 0 (entries_of (codes "group") m.document) in
        All-append P (group_rows_in models m) (group_rows models more) (subst (All P) (sym (rows-by m)) (All-map P f entries (all-each (λ p. P (f p)) (λ p. refl) entries))) (all-of more)

  names-few : (modules : List Module) (k : ℕ) → length (group_names (take k modules)) ≤ length (group_names modules)
  names-few modules k =
      let front = group_names (take k modules) in
      let behind = group_names (drop k modules) in
      let e : front ++ behind ≡ group_names modules = sym (flat_map-append (full_names (codes "group")) (take k modules) (drop k modules)) ∙ ap group_names (take-append-drop k modules) in
      let whole : length (front ++ behind) ≡ length (group_names modules) = ap length e in
      let parts : length (front ++ behind) ≡ length front + length behind = length-append front behind in
      omega (arith, whole, parts)

  -- the groups of the first so many modules have rows
  pub groups-have : (all : List Module) (k : ℕ) → HaveRows models (group_names (take k all)) (length (group_rows models all))
  groups-have all k model is =
      let few = names-few all k in
      let same = counts model is all in
      omega (arith, few, same)

  -- what is brought before the first module: their rows
  pub brought-none : (all : List Module) (rows : List PresetRow) (b : Brought) → rows ≡ group_rows models all → All (FitsAnywhere models) rows → b ≡ record { first = length rows; refs = []; rows = rows } → AreBrought models b
  brought-none all rows b same fit is = subst (AreBrought models) (sym is) (record {
    fit = preset-anywhere models rows fit;
    behind = record {
      placed = λ i r at. absurd (let e : ◌≡◌ {A = Option Ref} None (Some r) = at in cc);
      grouped = λ i model low named.
          let P : PresetRow → Type 0 = λ row. row.model ≡ model in
          let held = element-at rows i low in
          subst (λ (o : Option PresetRow). IsSomeAnd o P) (sym held.1) (All-contains P rows held.0 (subst (All P) (sym same) (all-of model named all)) (Contains-at rows i held.0 held.1));
    };
    count = omega arith;
  })
