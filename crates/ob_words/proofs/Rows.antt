-- What the parser finds of words is what they say.
use Rattle.std.proofs.Common.{◌≡◌, ◌≢◌, ℕ, Bool, true, false, List, [], ◌∷◌, Option, Some, None, Result, Ok, Err, refl, sym, ap, subst, ◌∙◌, inl, inr, codes, cond}
use Rattle.std.proofs.Common.{arith, option_map, option_and_then}
use Rattle.std.specs.Option.{unwrap_or}
use Rattle.std.specs.Prelude.{IsErr}
use Rattle.std.specs.declared.alloc.Global.{Global}
use Rattle.std.specs.declared.string.String.{String}
use Rattle.std.proofs.lemmas.Grind.{common_steps}
use Rattle.std.specs.Prelude.{◌||◌, not}
use Rattle.std.specs.List.{list_any}
use Rattle.std.specs.Str.{bytes_eq}
use Rattle.clap.specs.Faults.{fault_of, is_simple_and_free}
use Rattle.clap.specs.Kinds.{FailsBy, HasKind, IsAmong, Kinds}
use Rattle.clap.specs.Matches.{found_of}
use Rattle.clap.specs.Simple.{App, HasMatchesOf, is_simple, matches_of}
use Rattle.clap.specs.Values.{kind_of}
use Rattle.clap.specs.Walk.{Row, all_of, is_empty, rows_of}
use Rattle.clap.specs.declared.error.Error.{Error}
use Rattle.clap.specs.declared.error.kind.ErrorKind.{ErrorKind}
use Rattle.clap.specs.declared.error.kind.ErrorKind.TheVariants as kind
use Rattle.clap.specs.declared.parser.matches.ArgMatches.{ArgMatches}
use Rattle.ob_base.specs.declared.memory.NoMemory.{NoMemory}
use Rattle.ob_words.specs.declared.command.Asked as declared
use Rattle.ob_words.specs.Arguments.{rows_said, stockd}
use Rattle.ob_words.specs.Values.{are_modules}
use Rattle.ob_words.specs.Views.{IsAskedOf}
use Rattle.ob_words.specs.Words.{Command, asked_by, asked_of, command, command_from, help, modules_said, version}

-- the rows where there is no fault
abbrev rows_if : (ends : Bool) → Kinds → List Row → Option (List Row)
rows_if ends faults rows = cond (ends || not (is_empty faults)) None (Some rows)

-- a list with a fault isn't empty
is_some : (fault : ErrorKind) (faults : Kinds) → is_empty (fault ∷ faults) ≡ false
is_some fault faults = grind (arith, common_steps)

-- some kind is among those of no empty list
some_fault : (kind : ErrorKind) (faults : Kinds) (rows : List Row) → IsAmong kind faults → rows_if false faults rows ≡ None
some_fault kind [] rows among = absurd among
some_fault kind (fault ∷ faults) rows among = rw (is_some fault faults) refl

-- one of the words is `--`
pub said_end : (words : List (List ℕ)) → list_any (bytes_eq (codes "--")) words ≡ true → None ≡ rows_said words
unfolding rows_said
said_end words ends = sym (ap (λ (ends : Bool). rows_if ends (fault_of stockd words) (matches_of stockd words)) ends)

-- the parser of these arguments takes the words
pub taken : (app : App) (words : List (List ℕ)) (matches : ArgMatches) → app ≡ stockd → list_any (bytes_eq (codes "--")) words ≡ false
    → (is_simple_and_free app ≡ true → FailsBy (fault_of app words) (Ok matches)) → HasMatchesOf app words matches → Some (rows_of (found_of matches)) ≡ rows_said words
unfolding rows_said
taken app words matches is ends free found =
    let faults : fault_of stockd words ≡ [] = subst (λ (a : App). fault_of a words ≡ []) is (free (ap is_simple_and_free is)) in
    let rows : rows_of (found_of matches) ≡ matches_of stockd words = (found (ap is_simple is)).0 ∙ ap (λ (a : App). matches_of a words) is in
    ap Some rows ∙ sym (ap (λ (ends : Bool). rows_if ends (fault_of stockd words) (matches_of stockd words)) ends ∙ ap (λ (faults : Kinds). rows_if false faults (matches_of stockd words)) faults)

-- it refuses them, and memory is ample
pub refused : (app : App) (words : List (List ℕ)) (error : Error) → app ≡ stockd → list_any (bytes_eq (codes "--")) words ≡ false
    → (is_simple_and_free app ≡ true → HasKind (fault_of app words) error) → kind_of error ≢ kind.OutOfMemory → None ≡ rows_said words
unfolding rows_said
refused app words error is ends free other =
    sym (ap (λ (ends : Bool). rows_if ends (fault_of stockd words) (matches_of stockd words)) ends
    ∙ by (subst (λ (a : App). HasKind (fault_of a words) error) is (free (ap is_simple_and_free is))))
  where
    by : HasKind (fault_of stockd words) error → rows_if false (fault_of stockd words) (matches_of stockd words) ≡ None
    by (inl memory) = absurd (other memory)
    by (inr among) = some_fault (kind_of error) (fault_of stockd words) (matches_of stockd words) among

-- ---- modules

-- the modules that are named, by the row of their option
abbrev chosen : Option (List (List ℕ)) → Option (List (List ℕ))
chosen named = let names = unwrap_or named [] in cond (are_modules names) (Some names) None

module _ (rows : List Row) where
  -- each may be
  pub modules_named : (names words : List (List ℕ)) → Some names ≡ all_of (codes "load") rows → are_modules names ≡ true → words ≡ names → Some words ≡ modules_said rows
  modules_named names words all may are = ap Some are ∙ sym (ap chosen (sym all) ∙ ap (λ (may : Bool). cond may (Some names) None) may)

  -- some may not
  pub modules_other : (names : List (List ℕ)) → Some names ≡ all_of (codes "load") rows → are_modules names ≡ false → None ≡ modules_said rows
  modules_other names all may = sym (ap chosen (sym all) ∙ ap (λ (may : Bool). cond may (Some names) None) may)

  -- none is named
  pub no_modules : (words : List (List ℕ)) → None ≡ all_of (codes "load") rows → words ≡ [] → Some words ≡ modules_said rows
  no_modules words all are = ap Some are ∙ sym (ap chosen (sym all))

-- ---- help and the version

-- a command is neither
no_command : (asked : Option Command) → (option_map command asked ≢ Some help) × (option_map command asked ≢ Some version)
no_command None = (λ e. cc, λ e. cc)
no_command (Some asked) = (λ e. cc, λ e. cc)

-- words without the two words for them ask for neither
pub neither : (words : List (List ℕ)) → list_any (bytes_eq (codes "--help")) words ≡ false → list_any (bytes_eq (codes "--version")) words ≡ false
    → (asked_by words ≢ Some help) × (asked_by words ≢ Some version)
neither words no_help no_version = rw (no_help, no_version) (no_command (option_and_then command_from (rows_said words)))

-- an answer that is an error says nothing but that
pub not_asked : (words : List (String Global)) (answer : Result (Option declared.Asked) NoMemory) → IsErr answer
    → (asked_of words ≢ Some help) × (asked_of words ≢ Some version) → IsAskedOf words answer
not_asked words (Ok asked) is other = absurd (let h : ⊥ = cc in h)
not_asked words (Err memory) is other = other
