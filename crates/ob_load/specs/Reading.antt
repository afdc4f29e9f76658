-- The modules in the order of reading: each named one, and after it those on which it depends, each once; or the first fault of a text.
use Rattle.std.specs.Prelude.{◌≡◌, ℕ, List, [], ◌∷◌, ◌++◌, length, nat_le, nat_lt, codes, true, false, if◌then◌else◌, Option, None, Result, Ok, Err}
use Rattle.std.specs.Option.{option_map_or}
use Rattle.std.specs.Str.{is_utf8}
use Rattle.toml.specs.Data.{Members, table}
use Rattle.toml.specs.Parse.{parse_document}
use Rattle.ob_base.specs.declared.place.PathStep.TheVariants.{Key}
use Rattle.ob_module.specs.Modules.{Module, has_module}
use Rattle.ob_load.specs.declared.fault.FaultyModule.{FaultyModule}
use Rattle.ob_load.specs.declared.fault.ModuleFault.{ModuleFault}
use Rattle.ob_load.specs.declared.fault.ModuleFault.TheVariants as fault
use Rattle.ob_module.specs.Keys.{document}
use Rattle.ob_base.specs.Limits.{max_module_bytes, max_modules}
use Rattle.ob_module.specs.Meaning.{depends_of}

-- a fault of a module's text as a whole
abbrev pub whole : List ℕ → ModuleFault → FaultyModule
whole name why = record { name = name; place = Key (codes "text") ∷ []; fault = why }

-- the document that bytes are
abbrev pub document_of : List ℕ → Option Members
document_of bytes = if is_utf8 bytes then parse_document bytes else None

-- a module with a document of its form; else where the form is broken first
abbrev pub formed : List ℕ → Members → Result Module FaultyModule
formed name d = option_map_or (λ path. Err (record { name = name; place = path; fault = fault.Form })) (document name (table d)) (Ok (record { name = name; document = d }))

-- a module of this text
abbrev pub module_from : List ℕ → List ℕ → Result Module FaultyModule
module_from name bytes = if nat_lt max_module_bytes (length bytes) then Err (whole name fault.TooLong) else option_map_or (formed name) (document_of bytes) (Err (whole name fault.Toml))

-- the module that is read after so many; past the limit its text isn't looked at
abbrev pub next_module : ℕ → List ℕ → Option (List ℕ) → Result Module FaultyModule
next_module count name text = if nat_le max_modules count then Err (whole name fault.Limit) else option_map_or (module_from name) text (Err (whole name fault.Absent))

module _ (text : List ℕ → Option (List ℕ)) where
  -- with these modules read and these names to come, the next one first: all modules, or the fault of the first that has one
  pub data ReadsTo : List Module → List (List ℕ) → Result (List Module) FaultyModule → Type 0 where
    all_read : (read : List Module) → ReadsTo read [] (Ok read)
    passes : (read : List Module) (name : List ℕ) (names : List (List ℕ)) (outcome : Result (List Module) FaultyModule)
        → has_module read name ≡ true → ReadsTo read names outcome → ReadsTo read (name ∷ names) outcome
    reads : (read : List Module) (name : List ℕ) (names : List (List ℕ)) (next : Module) (outcome : Result (List Module) FaultyModule)
        → has_module read name ≡ false → next_module (length read) name (text name) ≡ Ok next
        → ReadsTo (read ++ next ∷ []) (depends_of next.document ++ names) outcome → ReadsTo read (name ∷ names) outcome
    fails : (read : List Module) (name : List ℕ) (names : List (List ℕ)) (why : FaultyModule)
        → has_module read name ≡ false → next_module (length read) name (text name) ≡ Err why → ReadsTo read (name ∷ names) (Err why)
