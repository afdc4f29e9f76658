-- Where the text of a module is: two stand inside the program, the others in files.
use Rattle.std.specs.Prelude.{◌≡◌, ℕ, List, ◌++◌, codes, if◌then◌else◌, Option, Some, IfSome}
use Rattle.std.specs.Str.{bytes_eq}
use Rattle.ob_module.specs.Texts.{base_text, stock_text}

-- the file of a module in a folder
abbrev pub file_name : List ℕ → List ℕ → List ℕ
file_name folder name = folder ++ codes "/" ++ name ++ codes ".toml"

-- what each name holds
abbrev pub FileTexts : Type 0
FileTexts = List ℕ → Option (List ℕ)

-- files that tell what they hold tell this; others may hold any texts
abbrev pub AgreesWith : Option FileTexts → FileTexts → Type 0
AgreesWith told texts = IfSome told (λ own. own ≡ texts)

-- the text of a module, where files hold these texts
abbrev pub text_in : FileTexts → List ℕ → List ℕ → Option (List ℕ)
text_in files folder name =
    if bytes_eq name (codes "base") then Some base_text
    else if bytes_eq name (codes "stock") then Some stock_text
    else files (file_name folder name)
