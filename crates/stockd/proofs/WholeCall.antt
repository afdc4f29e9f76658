-- From the loading and the opening to what the whole run did.
use Rattle.std.proofs.Common.{◌≡◌, ℕ, ℤ, ◌⊎◌, List, Option, Some, None, refl, sym, ap, subst, inl, inr}
use Rattle.std.specs.Option.{IsSome, IsSomeAnd, is_some}
use Rattle.ob_cache.specs.Kept.{Kept, OthersStay}
use Rattle.ob_cache.specs.Stages.{StandsOver, resting}
use Rattle.ob_cache.specs.Standing.{Holding, RestsAt}
use Rattle.ob_io.specs.Store.{Store}
use Rattle.ob_load.specs.Loading.{IsFirstFault}
use Rattle.ob_load.specs.Texts.{AgreesWith, FileTexts, text_in}
use Rattle.ob_load.specs.declared.fault.FaultyModule.{FaultyModule}
use Rattle.ob_schema.specs.Broken.{AreSound}
use Rattle.ob_schema.specs.Tables.{Tables}
use Rattle.ob_schema.specs.declared.info.ModelInfo.{ModelInfo}
use Rattle.ob_words.specs.Values.{Action, audit, call, serve}
use Rattle.ob_words.specs.Words.{Command}
use Rattle.ob_server.specs.declared.ending.Ending.TheVariants as ending
use Rattle.ob_server.specs.declared.ending.Ending.{Ending}
use Rattle.ob_server.specs.Ending.{HasReason}
use Rattle.ob_server.specs.Session.{StandsFor}
use Rattle.stockd.specs.Outside.{Outside}
use Rattle.stockd.specs.Program.{EndsAction, EndsAudit, EndsCall, EndsServe, IsUntouched}
use Rattle.stockd.specs.Store.{EndsLoading, TellsFault}

-- a fault that is the first one, and is told, stops the loading
stops_told : (text_of : List ℕ → Option (List ℕ)) (names : List (List ℕ)) (rose : Type 0) (faulty : FaultyModule) (why : Ending)
    → IsFirstFault text_of names faulty → TellsFault faulty why → EndsLoading text_of names rose why
stops_told text_of names rose faulty (ending.Module line) first told = (faulty, first, told)
stops_told text_of names rose faulty ending.NoMemory first told = tt
stops_told text_of names rose faulty ending.Done first told = absurd told
stops_told text_of names rose faulty ending.Differs first told = absurd told
stops_told text_of names rose faulty ending.Usage first told = absurd told
stops_told text_of names rose faulty ending.ReadFault first told = absurd told
stops_told text_of names rose faulty ending.WriteFault first told = absurd told
stops_told text_of names rose faulty ending.KeeperFault first told = absurd told
stops_told text_of names rose faulty (ending.Store cell) first told = absurd told
stops_told text_of names rose faulty (ending.TooLong number) first told = absurd told

-- texts that files may hold
pub some_texts : (told : Option FileTexts) → (texts : FileTexts) × AgreesWith told texts
some_texts None = (λ name. None, tt)
some_texts (Some own) = (own, refl)

-- of texts that the files may hold
pub loading_stops : (told : Option FileTexts) (folder : List ℕ) (names : List (List ℕ)) (rose : Type 0) (faulty : FaultyModule) (why : Ending)
    → (texts : FileTexts) × AgreesWith told texts × IsFirstFault (text_in texts folder) names faulty → TellsFault faulty why
    → (texts : FileTexts) × AgreesWith told texts × EndsLoading (text_in texts folder) names rose why
loading_stops told folder names rose faulty why (texts, agree, first) tells =
    (texts, agree, stops_told (text_in texts folder) names rose faulty why first tells)

-- an engine that rests over a store rests at sound tables that are kept
pub stands_for : (models : List ModelInfo) (held : Holding) (kept : Option Store) (store : Store) (tables : Tables) → held.models ≡ models → kept ≡ Some store → RestsAt kept held tables → StandsFor models tables store
stands_for models held kept store tables same is rests =
    let over = subst (λ k. IsSomeAnd k (StandsOver (resting held.models tables))) is rests.over in
    record { kept = subst (λ m. Kept m tables store) same over.kept; sound = subst (λ m. AreSound m tables) same over.sound }

pub is_there : (kept : Option Store) (store : Store) → kept ≡ Some store → IsSome kept
is_there kept store is = ap is_some is

module _ {D : Type 0} (faults : D → ℕ) (kept : D → Option Store) where
  -- an engine was opened over a keeper and used, and the keeper is as that left it: rows of other models stay
  pub others_served : (models served : List ModelInfo) (before opened last after : D) → after ≡ last → served ≡ models → kept opened ≡ kept before
      → OthersStay served (kept opened) (kept last) → OthersStay models (kept before) (kept after)
  others_served models served before opened last after ends same kept_is stay =
      let ended = subst (λ (d : D). OthersStay served (kept opened) (kept d)) (sym ends) stay in
      subst (λ (k : Option Store). OthersStay models k (kept after)) kept_is (subst (λ (m : List ModelInfo). OthersStay m (kept opened) (kept after)) same ended)

-- a fault of reading has its reason
pub read_reason : (audits source output keeper : Type 0) (why : Ending) → HasReason audits source output keeper why → why ≡ ending.ReadFault → source
read_reason audits source output keeper why reason is = subst (λ (w : Ending). HasReason audits source output keeper w) is reason

-- a fault of reading is one of the files, of the source or of the door
pub of_source : {files source next : Type 0} → files ⊎ source → files ⊎ (source ⊎ next)
of_source (inl file) = inl file
of_source (inr source) = inr (inl source)

pub of_door : {files source next : Type 0} → files ⊎ next → files ⊎ (source ⊎ next)
of_door (inl file) = inl file
of_door (inr next) = inr (inr next)

-- where memory is wanting before anything is done, nothing is
pub not_begun : (action : Action) (command : Command) (store : Store) (before after : Outside) → IsUntouched before.left after.left before.standing after.standing → after.door ≡ before.door
    → EndsAction action command ending.NoMemory store before after
not_begun call command store before after same door =
    let texts = some_texts before.texts in inl (record { texts = texts.0; agrees = texts.1; stops = tt; same = same })
not_begun serve command store before after same door =
    let texts = some_texts before.texts in λ streams moments coming given. inl (record { texts = texts.0; agrees = texts.1; stops = tt; same = same }, door)
not_begun audit command store before after same door =
    let texts = some_texts before.texts in inl (record { texts = texts.0; agrees = texts.1; stops = tt; same = same })

-- what an action did by itself
pub called : (action : Action) (command : Command) (why : Ending) (store : Store) (before after : Outside) → action ≡ call → EndsCall command why store before after → EndsAction action command why store before after
called action command why store before after is ends = rw is ends

-- what serving did is what the action did
pub served : (action : Action) (command : Command) (why : Ending) (store : Store) (before after : Outside) → action ≡ serve
    → ((streams : List (List ℕ)) (moments : ℕ → ℤ) → before.door.coming ≡ Some streams → before.standing.coming ≡ Some moments → EndsServe command why store before after)
    → EndsAction action command why store before after
served action command why store before after is ends = rw is ends

pub audited : (action : Action) (command : Command) (why : Ending) (store : Store) (before after : Outside) → action ≡ audit → EndsAudit command why store before after → EndsAction action command why store before after
audited action command why store before after is ends = rw is ends
