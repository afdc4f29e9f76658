-- What connections that come one after another ask and are answered, by how serving them ends.
use Rattle.std.specs.Prelude.{◌≡◌, ◌≢◌, ◌<◌, ◌≤◌, ◌⊎◌, ℕ, ℤ, List, [], ◌∷◌, ◌++◌, length, map, All, Option, Some, option_map}
use Rattle.ob_cache.specs.Kept.{OthersStay}
use Rattle.ob_io.specs.Cause.{Rose}
use Rattle.ob_io.specs.Store.{Store}
use Rattle.ob_schema.specs.Tables.{Tables}
use Rattle.ob_server.specs.Exchange.{Dialogue, EndsBy}
use Rattle.ob_server.specs.Machine.{State, Rests, Run}
use Rattle.ob_server.specs.Outside.{Doorway, Surroundings}
use Rattle.ob_server.specs.Session.{StandsFor, state_at}
use Rattle.ob_server.specs.Setup.{Setup}
use Rattle.ob_server.specs.declared.connection.Parting.{Parting}
use Rattle.ob_server.specs.declared.connection.Parting.TheVariants as parting
use Rattle.ob_server.specs.declared.ending.Ending.{Ending}
use Rattle.ob_server.specs.declared.ending.Ending.TheVariants as ending

-- a connection that was served: what it would send, how it ended, and what it asked and was answered
pub record Visit : Type 0 where
  pub stream : List ℕ
  pub why : Parting
  pub dialogue : Dialogue

-- a connection was served by a run of the machine; it ended by a fault only where the door's count of those rose meanwhile
pub record IsServed (setup : Setup) (old : State) (visit : Visit) (new : State) (faults_before faults_now : ℕ) : Type 0 where
  pub run : Run setup old visit.dialogue.bodies visit.dialogue.replies new
  pub left : Option (List ℕ)
  pub ends : EndsBy visit.why visit.stream left visit.dialogue
  pub failed : visit.why ≡ parting.Failed → Rose faults_before faults_now
  pub count : faults_before ≤ faults_now

-- each connection was served in turn, from where the machine stood after the one before it
abbrev pub ServesEach : Setup → (old : State) → List Visit → (new : State) → (faults_before faults_now : ℕ) → Type 0
ServesEach setup old [] new faults faults_now = Rests old new × (faults ≤ faults_now)
ServesEach setup old (visit ∷ visits) new faults faults_now =
    (mid : State) × (faults_mid : ℕ) × IsServed setup old visit mid faults faults_mid × ServesEach setup mid visits new faults_mid faults_now

-- memory sufficed for each connection
abbrev pub Suffices : List Visit → Type 0
Suffices visits = All (λ visit. visit.why ≢ parting.NoMemory) visits

-- How serving may end: the door has ended, or as many connections as may be were served; or it failed to let the next one in;
-- or memory was wanting for the last.
abbrev pub EndsServing : Ending → (limit : ℕ) → (next_rose : Type 0) → List Visit → (to_come : List (List ℕ)) → Type 0
EndsServing ending.Done limit next_rose visits to_come = Suffices visits × ((length visits ≡ limit) ⊎ (to_come ≡ []))
EndsServing ending.ReadFault limit next_rose visits to_come = Suffices visits × (length visits < limit) × next_rose
EndsServing ending.NoMemory limit next_rose visits to_come = (earlier : List Visit) × (last : Visit) × (visits ≡ earlier ++ last ∷ []) × Suffices earlier × (last.why ≡ parting.NoMemory)
EndsServing _ limit next_rose visits to_come = ⊥

-- A reception, over a store of these tables and a clock that tells these moments: so many connections of the door at most, each with what it
-- was answered by the machine; its tables at the end, for which the kept rows stand; rows of other models stay.
pub record Reception (setup : Setup) (first : Tables) (why : Ending) (limit : ℕ) (moments : ℕ → ℤ) (door door_now : Doorway) (before now : Surroundings) : Type 0 where
  pub visits : List Visit
  pub few : length visits ≤ limit
  pub to_come : List (List ℕ)
  pub came : door.coming ≡ Some (map (λ visit. visit.stream) visits ++ to_come)
  pub coming : door_now.coming ≡ Some to_come
  pub written : door_now.written ≡ option_map (λ before. before ++ map (λ visit. visit.dialogue.written) visits) door.written
  pub state : State
  pub each : ServesEach setup (state_at before first moments) visits state door.faults door_now.faults
  pub ends : EndsServing why limit (Rose door.next_faults door_now.next_faults) visits to_come
  pub faults : now.faults ≡ state.faults
  pub rest : now.coming ≡ Some state.moments
  pub store : Store
  pub kept : now.kept ≡ Some store
  pub stands : StandsFor setup.models state.tables store
  pub others : OthersStay setup.models before.kept now.kept
