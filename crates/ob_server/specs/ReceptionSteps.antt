-- How far a reception has come.
use Rattle.std.specs.Prelude.{◌≡◌, ◌≤◌, ℕ, List, ◌++◌, length, map, Some, option_map}
use Rattle.ob_cache.specs.Calls.{models_at}
use Rattle.ob_io.specs.Cause.{Rose}
use Rattle.ob_server.specs.Exchange.{HasState, Situation}
use Rattle.ob_server.specs.Machine.{State}
use Rattle.ob_server.specs.Outside.{Doorway}
use Rattle.ob_server.specs.Reception.{EndsServing, ServesEach, Suffices, Visit}
use Rattle.ob_server.specs.Setup.{over}
use Rattle.ob_server.specs.declared.ending.Ending.{Ending}
use Rattle.ob_server.specs.declared.terms.Terms.{Terms}

-- where an engine, a clock and a door stand, and what the door tells of all connections
pub record Post : Type 0 where
  pub situation : Situation
  pub doorway : Doorway

-- these connections were served, from this state on, and those are still to come
pub record HasReceived (terms : Terms) (visits : List Visit) (to_come : List (List ℕ)) (first : State) (before now : Post) : Type 0 where
  pub came : before.doorway.coming ≡ Some (map (λ visit. visit.stream) visits ++ to_come)
  pub coming : now.doorway.coming ≡ Some to_come
  pub written : now.doorway.written ≡ option_map (λ parts. parts ++ map (λ visit. visit.dialogue.written) visits) before.doorway.written
  pub state : State
  pub each : ServesEach (over terms (models_at before.situation.engine)) first visits state before.doorway.faults now.doorway.faults
  pub next_count : before.doorway.next_faults ≤ now.doorway.next_faults
  pub models_are : models_at now.situation.engine ≡ models_at before.situation.engine
  pub has_state : HasState now.situation state

-- so many connections were served, and memory sufficed for each
pub record IsReceiving (terms : Terms) (count : ℕ) (first : State) (before now : Post) : Type 0 where
  pub visits : List Visit
  pub to_come : List (List ℕ)
  pub count_is : length visits ≡ count
  pub suffices : Suffices visits
  pub received : HasReceived terms visits to_come first before now

-- serving ended so, after at most so many connections
pub record HasStopped (terms : Terms) (why : Ending) (limit : ℕ) (first : State) (before now : Post) : Type 0 where
  pub visits : List Visit
  pub to_come : List (List ℕ)
  pub few : length visits ≤ limit
  pub ends : EndsServing why limit (Rose before.doorway.next_faults now.doorway.next_faults) visits to_come
  pub received : HasReceived terms visits to_come first before now
