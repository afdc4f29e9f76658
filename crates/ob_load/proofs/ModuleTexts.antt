-- Where the text of a module is, and which module a text is.
use Rattle.std.proofs.Common.{◌≡◌, ℕ, ◌<◌, ◌≤◌, Bool, true, false, List, length, Option, None, Some, Result, Ok, Err, refl, ap, ◌∙◌, arith}
use Rattle.std.specs.Prelude.{codes, if◌then◌else◌, nat_lt}
use Rattle.std.specs.Option.{option_map_or}
use Rattle.std.specs.Str.{IsUtf8, bytes_eq, is_utf8}
use Rattle.std.proofs.lemmas.Bool.Decides.{nat_tests}
use Rattle.std.proofs.lemmas.Str.{IsUtf8-from_is_utf8, is_utf8-from_IsUtf8}
use Rattle.toml.specs.Data.{Members, table}
use Rattle.toml.specs.Parse.{parse_document}
use Rattle.ob_base.specs.declared.place.PathStep.{PathStep}
use Rattle.ob_load.specs.declared.fault.FaultyModule.{FaultyModule}
use Rattle.ob_load.specs.declared.fault.ModuleFault.TheVariants as fault
use Rattle.ob_module.specs.Keys.{document}
use Rattle.ob_module.specs.Modules.{Module}
use Rattle.ob_load.specs.Reading.{document_of, formed, module_from, next_module, whole}
use Rattle.ob_module.specs.Texts.{base_text, inside_text, stock_text}
use Rattle.ob_load.specs.Texts.{FileTexts, file_name, text_in}

-- ---- where it is

text_outside : (a b : Bool) (base stock : List ℕ) (other : Option (List ℕ)) → (if a then Some base else if b then Some stock else None) ≡ None → (if a then Some base else if b then Some stock else other) ≡ other
text_outside true b base stock other is = let e : ◌≡◌ {A = Option (List ℕ)} (Some base) None = is in cc
text_outside false true base stock other is = let e : ◌≡◌ {A = Option (List ℕ)} (Some stock) None = is in cc
text_outside false false base stock other is = refl

text_within : (a b : Bool) (base stock bytes : List ℕ) (other : Option (List ℕ)) → (if a then Some base else if b then Some stock else None) ≡ Some bytes
    → (if a then Some base else if b then Some stock else other) ≡ Some bytes
text_within true b base stock bytes other is = is
text_within false true base stock bytes other is = is
text_within false false base stock bytes other is = let e : ◌≡◌ {A = Option (List ℕ)} None (Some bytes) = is in cc

module _ (files : FileTexts) (folder name : List ℕ) where
  pub text_in-file : inside_text name ≡ None → text_in files folder name ≡ files (file_name folder name)
  text_in-file is = text_outside (bytes_eq name (codes "base")) (bytes_eq name (codes "stock")) base_text stock_text (files (file_name folder name)) is

  pub text_in-inside : (bytes : List ℕ) → inside_text name ≡ Some bytes → text_in files folder name ≡ Some bytes
  text_in-inside bytes is = text_within (bytes_eq name (codes "base")) (bytes_eq name (codes "stock")) base_text stock_text bytes (files (file_name folder name)) is

-- ---- which module it is

pub document_of-some : (bytes : List ℕ) (d : Members) → IsUtf8 bytes → parse_document bytes ≡ Some d → document_of bytes ≡ Some d
document_of-some bytes d utf8 is = ap (λ (b : Bool). if b then parse_document bytes else None) (is_utf8-from_IsUtf8 bytes utf8) ∙ is

pub document_of-none : (bytes : List ℕ) → (IsUtf8 bytes → parse_document bytes ≡ None) → document_of bytes ≡ None
document_of-none bytes none = by (is_utf8 bytes) refl
  where
    by : (b : Bool) → is_utf8 bytes ≡ b → (if b then parse_document bytes else None) ≡ None
    by true is = none (IsUtf8-from_is_utf8 bytes is)
    by false is = refl

-- one that is too long
pub long-refused : (name bytes : List ℕ) → 1048576 < length bytes → next_module 0 name (Some bytes) ≡ Err (whole name fault.TooLong)
long-refused name bytes long =
    let on : nat_lt 1048576 (length bytes) ≡ true = grind (arith, nat_tests) in
    ap (λ (b : Bool). if b then Err (whole name fault.TooLong) else option_map_or (formed name) (document_of bytes) (Err (whole name fault.Toml))) on

module _ (name bytes : List ℕ) (low : length bytes ≤ 1048576) where
  fits : module_from name bytes ≡ option_map_or (formed name) (document_of bytes) (Err (whole name fault.Toml))
  fits =
      let off : nat_lt 1048576 (length bytes) ≡ false = grind (arith, nat_tests) in
      ap (λ (b : Bool). if b then Err (whole name fault.TooLong) else option_map_or (formed name) (document_of bytes) (Err (whole name fault.Toml))) off

  pub module_from-toml : document_of bytes ≡ None → module_from name bytes ≡ Err (whole name fault.Toml)
  module_from-toml none = fits ∙ ap (λ (o : Option Members). option_map_or (formed name) o (Err (whole name fault.Toml))) none

  module _ (d : Members) (is : document_of bytes ≡ Some d) where
    as_formed : module_from name bytes ≡ formed name d
    as_formed = fits ∙ ap (λ (o : Option Members). option_map_or (formed name) o (Err (whole name fault.Toml))) is

    after : Option (List PathStep) → Result Module FaultyModule
    after wrong = option_map_or (λ path. Err (record { name = name; place = path; fault = fault.Form })) wrong (Ok (record { name = name; document = d }))

    pub module_from-right : document name (table d) ≡ None → module_from name bytes ≡ Ok (record { name = name; document = d })
    unfolding after
    module_from-right right = as_formed ∙ ap after right

    pub module_from-form : (path : List PathStep) → document name (table d) ≡ Some path → module_from name bytes ≡ Err (record { name = name; place = path; fault = fault.Form })
    unfolding after
    module_from-form path wrong = as_formed ∙ ap after wrong
