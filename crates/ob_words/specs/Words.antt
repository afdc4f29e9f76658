-- What the words of the command line ask for.
use Rattle.std.specs.Prelude.{◌≡◌, ⊤, ℕ, List, [], codes, unwrap_or, map, string_bytes, Option, Some, None, option_map, option_and_then, if◌then◌else◌}
use Rattle.std.specs.List.{list_any}
use Rattle.std.specs.Str.{bytes_eq}
use Rattle.std.specs.declared.alloc.Global.{Global}
use Rattle.std.specs.declared.string.String.{String}
use Rattle.clap.specs.Walk.{Row, all_of, first_of}
use Rattle.ob_words.specs.Arguments.{rows_said}
use Rattle.ob_words.specs.Values.{Action, action_of, are_modules, audit, cache_of, limit_of, name_of, port_of}

-- what a run is asked for: what it does, the folder of module texts, modules by their names, the name of the database, the file of the
-- store, where it isn't in memory, how many rows the engine may hold, the port of loopback at which connections come, and how many are
-- served at most
pub record Command : Type 0 where
  pub action : Action
  pub folder : List ℕ
  pub names : List (List ℕ)
  pub database : List ℕ
  pub file : Option (List ℕ)
  pub cache : ℕ
  pub port : ℕ
  pub limit : ℕ

-- help, the version, or a run
pub data Asked : Type 0 where
  help : Asked
  version : Asked
  command : Command → Asked

-- what is said of an argument, where it is said and has its form
abbrev pub said : {A : Type 0} → (List ℕ → Option A) → (name : List ℕ) → List Row → Option A
said read name rows = option_and_then read (first_of name rows)

-- the modules that are named, where each is named so
abbrev pub modules_said : List Row → Option (List (List ℕ))
modules_said rows = let names = unwrap_or (all_of (codes "load") rows) [] in if are_modules names then Some names else None

-- the file that is named, where one is; none where what is said has no such form
abbrev pub file_said : List Row → Option (Option (List ℕ))
file_said rows = may_be (first_of (codes "store") rows) where
  may_be : Option (List ℕ) → Option (Option (List ℕ))
  may_be None = Some None
  may_be (Some text) = option_map Some (name_of text)

-- what a function makes of a value, where both are there
infixl 10 ◌<*>◌
abbrev pub ◌<*>◌ : {A B : Type 0} → Option (A → B) → Option A → Option B
None <*> _ = None
(Some f) <*> None = None
(Some f) <*> (Some a) = Some (f a)

-- the command of these parts, the modules last
abbrev pub command_with : Action → (folder database : List ℕ) → (file : Option (List ℕ)) → (cache port limit : ℕ) → (names : List (List ℕ)) → Command
command_with action folder database file cache port limit names =
    record { action = action; folder = folder; names = names; database = database; file = file; cache = cache; port = port; limit = limit }

-- what is said of all arguments but the modules, each in its form: the command of these and of modules
abbrev pub all_but_modules : List Row → Option (List (List ℕ) → Command)
all_but_modules rows =
    Some command_with <*> said action_of (codes "action") rows <*> said name_of (codes "modules") rows <*> said name_of (codes "db") rows
    <*> file_said rows <*> said cache_of (codes "cache") rows <*> said port_of (codes "listen") rows <*> said limit_of (codes "connections") rows

-- the command of what is said of each argument, where each has its form
abbrev pub command_from : List Row → Option Command
command_from rows = all_but_modules rows <*> modules_said rows

-- What words ask for, where they may: for help where `--help` is among them, else for the version where `--version` is, whatever else
-- they are; else for a run.
abbrev pub asked_by : List (List ℕ) → Option Asked
asked_by words =
    if list_any (bytes_eq (codes "--help")) words then Some help
    else if list_any (bytes_eq (codes "--version")) words then Some version
    else option_map command (option_and_then command_from (rows_said words))

-- the same of words as the host gives them
abbrev pub asked_of : List (String Global) → Option Asked
asked_of words = asked_by (map string_bytes words)

-- they ask for nothing that is served
abbrev pub IsUsage : List (String Global) → Type 0
IsUsage words = asked_of words ≡ None

-- this run is asked for
abbrev pub AsksFor : List (String Global) → Command → Type 0
AsksFor words run = asked_of words ≡ Some (command run)

-- no run is asked for: help, the version, or nothing that is served
abbrev pub AsksNoRun : Option Asked → Type 0
AsksNoRun (Some (command asked)) = ⊥
AsksNoRun _ = ⊤

-- help or the version is asked for
abbrev pub AsksToBeTold : Option Asked → Type 0
AsksToBeTold (Some help) = ⊤
AsksToBeTold (Some version) = ⊤
AsksToBeTold _ = ⊥

-- an audit is asked for
abbrev pub AsksForAudit : Asked → Type 0
AsksForAudit (command asked) = asked.action ≡ audit
AsksForAudit _ = ⊥
