-- What is held, from call to call: the registry over which it stands, and the rows that are listed.
use Rattle.std.proofs.Common.{◌≡◌, List, [], Option, Some, None, refl, sym, subst, ◌∙◌}
use Rattle.std.specs.Prelude.{Contains, IfSome, unwrap_or}
use Rattle.ob_base.specs.Tally.{Tally}
use Rattle.ob_base.specs.declared.id.RowKey.{RowKey}
use Rattle.ob_cache.specs.Behind.{TicksEach}
use Rattle.ob_cache.specs.Changing.{KeepsOthers}
use Rattle.ob_cache.specs.Rooms.{AreHeldOver, AreListed, held_stages, or_before}
use Rattle.ob_cache.specs.Stages.{Stages}
use Rattle.ob_cache.specs.Standing.{FitNextIds}
use Rattle.ob_cache.specs.Telling.{sides_of}
use Rattle.ob_cache.specs.declared.stages.Phase.{Phase}
use Rattle.ob_cache.specs.declared.stages.Phase.TheVariants as phase
use Rattle.ob_cache.proofs.Listed.{last-tables, others-then, touches-none}
use Rattle.ob_cache.proofs.Ticking.{none-evaluated, same-unchanged}
use Rattle.ob_schema.specs.Tables.{Standing, Tables}
use Rattle.ob_schema.specs.declared.info.ModelInfo.{ModelInfo}
use Rattle.ob_sound.specs.Touched.{TouchesOnly}

staged-not-settled : phase.Staged ≡ phase.Settled → ⊥
staged-not-settled is = cc

spoiled-not-settled : phase.Spoiled ≡ phase.Settled → ⊥
spoiled-not-settled is = cc

-- what holds of the tables that were settled last
of-last : (P : Standing → Type 0) (settled : Option Standing) (flushed : Standing) → P flushed → IfSome settled P → P (unwrap_or settled flushed)
of-last P None flushed of_flushed of_settled = of_flushed
of-last P (Some s) flushed of_flushed of_settled = of_settled

some-over : (models : List ModelInfo) (staged : Option Standing) → IfSome staged (λ s. s.models ≡ models) → (last : Standing) → last.models ≡ models → IfSome staged (λ s. s.models ≡ last.models)
some-over models None over last is = tt
some-over models (Some s) over last is = over ∙ sym is

module _ (models : List ModelInfo) (flushed : Standing) (settled staged : Option Standing) (p : Phase) (triggers : List ModelInfo) (touched unkept : List RowKey)
    (over : AreHeldOver models flushed settled staged p) (listed : AreListed models flushed settled staged triggers touched unkept) where
  abbrev last : Standing
  last = unwrap_or settled flushed

  pub last-over : last.models ≡ models
  last-over = of-last (λ s. s.models ≡ models) settled flushed over.flushed_over over.settled_over

  pub staged-over : IfSome staged (λ s. s.models ≡ last.models)
  staged-over = some-over models staged over.staged_over last last-over

  pub staged-touches : TouchesOnly touched (record { before = last.tables; behind = or_before staged last.tables })
  staged-touches = subst (λ (t : Tables). TouchesOnly touched (record { before = t; behind = or_before staged t })) (sym (last-tables settled flushed)) listed.touches

  -- edits are staged
  pub to-staged : (t : Standing) (newer : List RowKey) → t.models ≡ models → TouchesOnly newer (record { before = last.tables; behind = t.tables })
      → AreHeldOver models flushed settled (Some t) phase.Staged × AreListed models flushed settled (Some t) triggers newer unkept
  to-staged t newer t_over touches = (
    record { fits = over.fits; flushed_over = over.flushed_over; settled_over = over.settled_over; staged_over = t_over; at_rest = λ is. absurd (staged-not-settled is) },
    record { over = listed.over; touches = subst (λ (b : Tables). TouchesOnly newer (record { before = b; behind = t.tables })) (last-tables settled flushed) touches; keeps = listed.keeps },
  )

  -- a call failed: nothing is staged
  pub to-spoiled : (newer wider : List RowKey) → ((key : RowKey) → Contains unkept key → Contains wider key)
      → AreHeldOver models flushed settled None phase.Spoiled × AreListed models flushed settled None triggers newer wider
  to-spoiled newer wider more = (
    record { fits = over.fits; flushed_over = over.flushed_over; settled_over = over.settled_over; staged_over = tt; at_rest = λ is. refl },
    record { over = listed.over; touches = touches-none newer (or_before settled flushed.tables); keeps = λ key not. listed.keeps key (λ one. not (more key one)) },
  )

  -- what was staged is settled
  pub to-settled : (whole : Standing) (wider : List RowKey) → whole.models ≡ models → KeepsOthers last whole wider → ((key : RowKey) → Contains unkept key → Contains wider key)
      → AreHeldOver models flushed (Some whole) None phase.Settled × AreListed models flushed (Some whole) None triggers [] wider
  to-settled whole wider whole_over others more = (
    record { fits = over.fits; flushed_over = over.flushed_over; settled_over = whole_over; staged_over = tt; at_rest = λ is. refl },
    record { over = listed.over; touches = touches-none [] whole.tables; keeps = others-then unkept wider flushed last whole listed.keeps others more },
  )

  -- nothing was staged
  pub still-settled : staged ≡ None → AreHeldOver models flushed settled None phase.Settled × AreListed models flushed settled None triggers [] unkept
  still-settled none = (
    record { fits = over.fits; flushed_over = over.flushed_over; settled_over = over.settled_over; staged_over = tt; at_rest = λ is. refl },
    record { over = listed.over; touches = touches-none [] (or_before settled flushed.tables); keeps = listed.keeps },
  )

  -- what was evaluated of what was staged
  pub staged-evaluated : {L : Type 0} (noted : L → L) (stages : Stages) → held_stages models flushed settled staged p ≡ stages → (old new : Tally L) (are_settled : Type 0) (before now : Standing) → before ≡ last
      → staged ≡ Some now → TicksEach noted before.models (record { before = before.tables; behind = now.tables }) are_settled old new → TicksEach noted stages.models (sides_of stages) are_settled old new
  staged-evaluated noted stages view old new are_settled before now is_last is each =
      let of_last = subst (λ (b : Standing). TicksEach noted b.models (record { before = b.tables; behind = now.tables }) are_settled old new) is_last each in
      let of_models = subst (λ (m : List ModelInfo). TicksEach noted m (record { before = last.tables; behind = now.tables }) are_settled old new) last-over of_last in
      let of_tables = subst (λ (t : Tables). TicksEach noted models (record { before = t; behind = now.tables }) are_settled old new) (last-tables settled flushed) of_models in
      let first = or_before settled flushed.tables in
      let of_staged = subst (λ (o : Option Standing). TicksEach noted models (record { before = first; behind = or_before o first }) are_settled old new) (sym is) of_tables in
      subst (λ (s : Stages). TicksEach noted s.models (sides_of s) are_settled old new) view of_staged

  pub none-staged-evaluated : {L : Type 0} (noted : L → L) (stages : Stages) → held_stages models flushed settled staged p ≡ stages → (tally : Tally L) (are_settled : Type 0) → staged ≡ None
      → TicksEach noted stages.models (sides_of stages) are_settled tally tally
  none-staged-evaluated noted stages view tally are_settled is =
      let first = or_before settled flushed.tables in
      let none = none-evaluated noted models (record { before = first; behind = first }) are_settled tally (λ any cell. same-unchanged models first cell) in
      let of_staged = subst (λ (o : Option Standing). TicksEach noted models (record { before = first; behind = or_before o first }) are_settled tally tally) (sym is) none in
      subst (λ (s : Stages). TicksEach noted s.models (sides_of s) are_settled tally tally) view of_staged

  -- a call failed otherwise
  pub left-spoiled : AreHeldOver models flushed settled staged phase.Spoiled × AreListed models flushed settled staged triggers touched unkept
  left-spoiled = (
    record { fits = over.fits; flushed_over = over.flushed_over; settled_over = over.settled_over; staged_over = over.staged_over; at_rest = λ is. absurd (spoiled-not-settled is) },
    listed,
  )

-- these are kept, with nothing staged
pub to-kept : (models : List ModelInfo) (flushed : Standing) (p : Phase) (triggers : List ModelInfo) (touched : List RowKey) → FitNextIds models flushed.tables → flushed.models ≡ models → triggers ≡ models
    → AreHeldOver models flushed None None p × AreListed models flushed None None triggers touched []
to-kept models flushed p triggers touched fits over same = (
  record { fits = fits; flushed_over = over; settled_over = tt; staged_over = tt; at_rest = λ is. refl },
  record { over = same; touches = touches-none touched flushed.tables; keeps = λ key not. refl },
)
