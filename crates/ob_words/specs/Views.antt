-- How contracts see what the code reads of words.
use Rattle.std.specs.Borrow.{Bor}
use Rattle.std.specs.Prelude.{◌≡◌, ◌≢◌, ⊤, ℕ, List, map, Some, None, Option, option_map, IsSomeAnd, Result, Ok, Err}
use Rattle.std.specs.declared.alloc.Global.{Global}
use Rattle.std.specs.declared.string.String.{String}
use Rattle.ob_base.specs.declared.memory.NoMemory.{NoMemory}
use Rattle.ob_words.specs.declared.command.Action.{Action}
use Rattle.ob_words.specs.declared.command.Action.TheVariants as action
use Rattle.ob_words.specs.declared.command.Command.{Command}
use Rattle.ob_words.specs.declared.command.Asked.{Asked}
use Rattle.ob_words.specs.declared.command.Asked.TheVariants as asked
use Rattle.ob_words.specs.declared.reading.Said.{Said}
use Rattle.ob_words.specs.declared.places.Store.{Store}
use Rattle.ob_words.specs.declared.places.Store.TheVariants as store
use Rattle.ob_words.specs.declared.places.Usage.{Usage}
use Rattle.ob_words.specs.declared.places.Usage.TheVariants as usage
use Rattle.ob_words.specs.Values as spec
use Rattle.ob_words.specs.Words as meant
use Rattle.ob_words.specs.Words.{IsUsage, asked_of, command_with}

-- the texts behind references
abbrev pub texts : List (Bor (List ℕ)) → List (List ℕ)
texts given = map (λ text. text.now) given

-- an action, as the specs hold it
abbrev pub action_view : Action → spec.Action
action_view action.Call = spec.call
action_view action.Serve = spec.serve
action_view action.Audit = spec.audit

-- a command, as the specs hold it
abbrev pub command_view : Command → meant.Command
command_view command = record {
  action = action_view command.action;
  folder = command.folder.now;
  names = command.names;
  database = command.database.now;
  file = option_map (λ text. text.now) command.file;
  cache = command.cache;
  port = command.port;
  limit = command.limit;
}

-- what is said of the arguments but the modules, as the specs hold it
abbrev pub said_view : Said → List (List ℕ) → meant.Command
said_view said = command_with (action_view said.action) said.folder.now said.database.now (option_map (λ text. text.now) said.file) said.cache said.port said.limit

-- what is asked for, as the specs hold it
abbrev pub asked_view : Asked → meant.Asked
asked_view asked.Help = meant.help
asked_view asked.Version = meant.version
asked_view (asked.Command command) = meant.command (command_view command)

-- what the words ask for is read; or memory is wanting, which hides neither that they ask for help nor that they do for the version
abbrev pub IsAskedOf : List (String Global) → Result (Option Asked) NoMemory → Type 0
IsAskedOf words (Ok asked) = option_map asked_view asked ≡ asked_of words
IsAskedOf words (Err _) = (asked_of words ≢ Some meant.help) × (asked_of words ≢ Some meant.version)

-- the file in which a run that is asked for keeps rows
abbrev pub file_asked : meant.Asked → Option (List ℕ)
file_asked (meant.command command) = command.file
file_asked _ = None

-- the file of a store, where it isn't in memory
abbrev pub file_of : Store → Option (List ℕ)
file_of store.Memory = None
file_of (store.File path) = Some path

-- where the words have rows kept is told; or they ask for nothing, or memory is wanting
abbrev pub IsPlaceOf : List (String Global) → Result Store Usage → Type 0
IsPlaceOf words (Ok store) = IsSomeAnd (asked_of words) (λ asked. file_asked asked ≡ file_of store)
IsPlaceOf words (Err usage.Words) = IsUsage words
IsPlaceOf words (Err usage.NoMemory) = ⊤

-- this is the port of a run that is asked for
abbrev pub HasPort : ℕ → meant.Asked → Type 0
HasPort port (meant.command command) = command.port ≡ port
HasPort port _ = ⊤

-- the port of the words' address is told; or they ask for nothing, or memory is wanting
abbrev pub IsAddressOf : List (String Global) → Result ℕ Usage → Type 0
IsAddressOf words (Ok port) = IsSomeAnd (asked_of words) (HasPort port)
IsAddressOf words (Err usage.Words) = IsUsage words
IsAddressOf words (Err usage.NoMemory) = ⊤
