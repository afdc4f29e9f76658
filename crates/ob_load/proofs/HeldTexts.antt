-- Texts that files may hold: what they tell; where they don't tell, one text for each name that was read.
use Rattle.std.proofs.Common.{◌≡◌, ◌≢◌, ℕ, ◌+◌, ◌<◌, [], ◌∷◌, ◌++◌, Bool, true, false, List, length, Contains, Option, None, Some, Result, Ok, refl, sym, ap, subst, ◌∙◌, arith}
use Rattle.std.specs.Prelude.{All, IfSome, MatchOption, codes, if◌then◌else◌, replicate}
use Rattle.std.specs.Str.{bytes_eq}
use Rattle.std.proofs.lemmas.Bool.{false≢true}
use Rattle.std.proofs.lemmas.List.{append_cancel_left, append_cancel_right, length-replicate}
use Rattle.std.proofs.lemmas.List.Elements.{All-contains, All-contains_itself, All-weaker, Contains-append_left, Contains-append_right}
use Rattle.std.proofs.lemmas.Slice.Eq.{bytes_eq-Decides}
use Rattle.ob_load.specs.declared.fault.FaultyModule.{FaultyModule}
use Rattle.ob_module.specs.Modules.{Module, has_module}
use Rattle.ob_load.specs.Reading.{next_module}
use Rattle.ob_load.specs.Texts.{AgreesWith, FileTexts, file_name, text_in}
use Rattle.ob_module.specs.Texts.{base_text, stock_text}
use Rattle.ob_module.proofs.CallerLemmas.{has-at}

-- what is known of a file is known of texts that the files may hold
pub held-texts : (told : Option FileTexts) (file : List ℕ) (P : Option (List ℕ) → Type 0) (text : Option (List ℕ)) → P text → IfSome told (λ t. P (t file)) → (texts : FileTexts) × AgreesWith told texts × P (texts file)
held-texts None file P text free own = (λ _. text, tt, free)
held-texts (Some t) file P text free own = (t, refl, own)

-- files hold some texts
pub some-texts : (told : Option FileTexts) → (texts : FileTexts) × AgreesWith told texts
some-texts None = (λ _. None, tt)
some-texts (Some t) = (t, refl)

-- an absent file
pub absent-texts : (told : Option FileTexts) (file : List ℕ) (rose : Type 0) → MatchOption told rose (λ t. t file ≡ None) → (texts : FileTexts) × AgreesWith told texts × (texts file ≡ None)
absent-texts None file rose is = (λ _. None, tt, refl)
absent-texts (Some t) file rose is = (t, refl, is)

-- there are texts of any length
a_long_text : (n : ℕ) → (bytes : List ℕ) × (n < length bytes)
a_long_text n = let long = length-replicate {A = ℕ} (n + 1) 0 in (replicate (n + 1) 0, omega (arith, long))

-- a file that is too long
pub long-texts : (told : Option FileTexts) (file : List ℕ) → IfSome told (λ t. (bytes : List ℕ) × (t file ≡ Some bytes) × (1048576 < length bytes))
    → (texts : FileTexts) × AgreesWith told texts × ((bytes : List ℕ) × (texts file ≡ Some bytes) × (1048576 < length bytes))
long-texts told file is =
    let long = a_long_text 1048576 in
    held-texts told file (λ o. (bytes : List ℕ) × (o ≡ Some bytes) × (1048576 < length bytes)) (Some long.0) (long.0, refl, long.1) is

-- ---- one more file

module _ (folder : List ℕ) where
  -- each module has a file of its own
  own_file : (a b : List ℕ) → file_name folder a ≡ file_name folder b → a ≡ b
  own_file a b same = append_cancel_left (folder ++ codes "/") a b (append_cancel_right (folder ++ codes "/" ++ a) (folder ++ codes "/" ++ b) (codes ".toml") same)

  text_in-same : (a b : FileTexts) (name : List ℕ) → a (file_name folder name) ≡ b (file_name folder name) → text_in a folder name ≡ text_in b folder name
  text_in-same a b name same = ap (λ (o : Option (List ℕ)). if bytes_eq name (codes "base") then Some base_text else if bytes_eq name (codes "stock") then Some stock_text else o) same

  -- a module that was read is that of its text
  abbrev pub IsOf : FileTexts → Module → Type 0
  IsOf texts m = next_module 0 m.name (text_in texts folder m.name) ≡ Ok m

  module _ (name : List ℕ) (own old : FileTexts) where
    -- the file of the name is taken from the one, the others from the other
    joined : FileTexts
    joined file = if bytes_eq file (file_name folder name) then own file else old file

    chosen : (b : Bool) (x y : Option (List ℕ)) → b ≡ true → (if b then x else y) ≡ x
    chosen b x y on = ap (λ (c : Bool). if c then x else y) on

    passed : (b : Bool) (x y : Option (List ℕ)) → (b ≡ true → ⊥) → (if b then x else y) ≡ y
    passed true x y off = absurd (off refl)
    passed false x y off = refl

    joined-own : text_in joined folder name ≡ text_in own folder name
    unfolding joined
    joined-own =
        let file = file_name folder name in
        text_in-same joined own name (chosen (bytes_eq file file) (own file) (old file) ((bytes_eq-Decides file file).1 refl))

    joined-other : (other : List ℕ) → other ≢ name → text_in joined folder other ≡ text_in old folder other
    unfolding joined
    joined-other other apart =
        let file = file_name folder other in
        text_in-same joined old other (passed (bytes_eq file (file_name folder name)) (own file) (old file) (λ on. apart (own_file other name ((bytes_eq-Decides file (file_name folder name)).0 on))))

    -- what was read before stays
    joined-all : (modules : List Module) → has_module modules name ≡ false → All (IsOf old) modules → All (IsOf joined) modules
    joined-all modules unread all = All-weaker (Contains modules) (IsOf joined) kept modules (All-contains_itself modules)
      where
        kept : (m : Module) → Contains modules m → IsOf joined m
        kept m held = ap (next_module 0 m.name) (joined-other m.name (λ same. false≢true (sym unread ∙ has-at modules m name held same))) ∙ All-contains (IsOf old) modules m all held

  -- texts of the modules that were read, and a text of one more, are texts of all
  pub joined-texts : (told : Option FileTexts) (modules : List Module) (name : List ℕ) (outcome : Result Module FaultyModule) → has_module modules name ≡ false
      → (texts : FileTexts) × AgreesWith told texts × All (IsOf texts) modules
      → (texts : FileTexts) × AgreesWith told texts × (next_module 0 name (text_in texts folder name) ≡ outcome)
      → (texts : FileTexts) × AgreesWith told texts × All (IsOf texts) modules × (next_module 0 name (text_in texts folder name) ≡ outcome)
  joined-texts None modules name outcome unread (old, free, all) (own, other, is) =
      (joined name own old, tt, joined-all name own old modules unread all, ap (next_module 0 name) (joined-own name own old) ∙ is)
  joined-texts (Some t) modules name outcome unread (old, told, all) (own, same, is) =
      (t, refl, subst (λ (s : FileTexts). All (IsOf s) modules) (sym told) all, subst (λ (s : FileTexts). next_module 0 name (text_in s folder name) ≡ outcome) (sym same) is)

  -- with the last one apart
  module _ (texts : FileTexts) (modules : List Module) (m : Module) (all : All (IsOf texts) (modules ++ m ∷ [])) where
    pub all-before : All (IsOf texts) modules
    all-before = All-weaker (Contains modules) (IsOf texts) (λ o held. All-contains (IsOf texts) (modules ++ m ∷ []) o all (Contains-append_left modules (m ∷ []) o held)) modules (All-contains_itself modules)

    pub all-last : IsOf texts m
    all-last = All-contains (IsOf texts) (modules ++ m ∷ []) m all (Contains-append_right modules (m ∷ []) m (0, omega arith, refl))
