-- What is read of a module is what its text is, for texts that the files may hold.
use Rattle.std.proofs.Common.{◌≡◌, ◌<◌, ℕ, List, length, Option, None, Some, Result, Ok, Err, refl, sym, ap, subst, ◌∙◌}
use Rattle.std.specs.Prelude.{IfOk, IfSome, MatchOption}
use Rattle.toml.specs.Data.{Members}
use Rattle.ob_load.specs.declared.fault.FaultyModule.{FaultyModule}
use Rattle.ob_load.specs.declared.fault.LoadFault.{LoadFault}
use Rattle.ob_load.specs.declared.fault.ModuleFault.TheVariants as fault
use Rattle.ob_module.specs.Modules.{Module}
use Rattle.ob_load.specs.Reading.{module_from, next_module, whole}
use Rattle.ob_module.specs.Texts.{inside_text}
use Rattle.ob_load.specs.Texts.{AgreesWith, FileTexts, file_name, text_in}
use Rattle.ob_load.proofs.HeldTexts.{held-texts, absent-texts, long-texts, some-texts}
use Rattle.ob_load.proofs.ModuleTexts.{long-refused, text_in-file, text_in-inside}

module _ (told : Option FileTexts) (folder name : List ℕ) where
  -- the next module comes to this, for texts that the files may hold
  abbrev pub GivesNext : Result Module FaultyModule → Type 0
  GivesNext outcome = (texts : FileTexts) × AgreesWith told texts × (next_module 0 name (text_in texts folder name) ≡ outcome)

  -- its file is refused, for such texts
  abbrev pub RefusesFile : FaultyModule → Type 0
  RefusesFile faulty = (texts : FileTexts) × AgreesWith told texts × (next_module 0 name (texts (file_name folder name)) ≡ Err faulty)

  -- ---- the file

  -- it is absent
  pub absent-told : (path : List ℕ) (rose : Type 0) (faulty : FaultyModule) → MatchOption told rose (λ t. t path ≡ None) → path ≡ file_name folder name → faulty ≡ whole name fault.Absent → RefusesFile faulty
  absent-told path rose faulty absent named is =
      let here = subst (λ (file : List ℕ). MatchOption told rose (λ t. t file ≡ None)) named absent in
      let (texts, agree, none) = absent-texts told (file_name folder name) rose here in
      (texts, agree, ap (next_module 0 name) none ∙ ap Err (sym is))

  -- it is too long
  pub long-told : (path : List ℕ) (faulty : FaultyModule) → IfSome told (λ t. (bytes : List ℕ) × (t path ≡ Some bytes) × (1048576 < length bytes)) → path ≡ file_name folder name
      → faulty ≡ whole name fault.TooLong → RefusesFile faulty
  long-told path faulty long named is =
      let here = subst (λ (file : List ℕ). IfSome told (λ t. (bytes : List ℕ) × (t file ≡ Some bytes) × (1048576 < length bytes))) named long in
      let (texts, agree, (bytes, held, past)) = long-texts told (file_name folder name) here in
      (texts, agree, ap (next_module 0 name) held ∙ long-refused name bytes past ∙ ap Err (sym is))

  -- ---- the text

  -- that of a module inside the program
  pub inside-told : (text bytes : List ℕ) (outcome : Result Module FaultyModule) → Some text ≡ inside_text name → bytes ≡ text → module_from name bytes ≡ outcome → GivesNext outcome
  inside-told text bytes outcome is same from =
      let (texts, agree) = some-texts told in
      (texts, agree, ap (next_module 0 name) (text_in-inside texts folder name text (sym is)) ∙ ap (module_from name) (sym same) ∙ from)

  pub inside-read : {T : Type 0} (shown : T → Members) (text bytes : List ℕ) (r : Result T LoadFault) → Some text ≡ inside_text name → bytes ≡ text → IfOk r (λ table. module_from name bytes ≡ Ok (record { name = name; document = shown table }))
      → IfOk r (λ table. GivesNext (Ok (record { name = name; document = shown table })))
  inside-read shown text bytes (Ok table) is same from = inside-told text bytes (Ok (record { name = name; document = shown table })) is same from
  inside-read shown text bytes (Err why) is same from = tt

  module _ (outside : inside_text name ≡ None) where
    -- that of a file
    pub file-told : (text bytes : List ℕ) (outcome : Result Module FaultyModule) → IfSome told (λ t. t (file_name folder name) ≡ Some text) → bytes ≡ text → module_from name bytes ≡ outcome → GivesNext outcome
    file-told text bytes outcome given same from =
        let (texts, agree, held) = held-texts told (file_name folder name) (λ o. o ≡ Some text) (Some text) refl given in
        (texts, agree, ap (next_module 0 name) (text_in-file texts folder name outside ∙ held) ∙ ap (module_from name) (sym same) ∙ from)

    pub file-read : {T : Type 0} (shown : T → Members) (text bytes : List ℕ) (r : Result T LoadFault) → IfSome told (λ t. t (file_name folder name) ≡ Some text) → bytes ≡ text
        → IfOk r (λ table. module_from name bytes ≡ Ok (record { name = name; document = shown table })) → IfOk r (λ table. GivesNext (Ok (record { name = name; document = shown table })))
    file-read shown text bytes (Ok table) given same from = file-told text bytes (Ok (record { name = name; document = shown table })) given same from
    file-read shown text bytes (Err why) given same from = tt

    -- a file that is refused is the text of the module
    pub refused-told : (faulty : FaultyModule) → RefusesFile faulty → GivesNext (Err faulty)
    refused-told faulty (texts, agree, refused) = (texts, agree, ap (next_module 0 name) (text_in-file texts folder name outside) ∙ refused)
