-- From an opened store to the connections that were served over it.
use Rattle.std.proofs.Common.{ℕ, ℤ, List, Option, subst}
use Rattle.ob_cache.specs.Calls.{models_at}
use Rattle.ob_cache.specs.Kept.{OthersStay}
use Rattle.ob_schema.specs.Tables.{Tables}
use Rattle.ob_schema.specs.declared.info.ModelInfo.{ModelInfo}
use Rattle.ob_server.specs.Exchange.{Situation}
use Rattle.ob_server.specs.Outside.{Surroundings}
use Rattle.ob_server.specs.Reception.{Reception}
use Rattle.ob_server.specs.ReceptionSteps.{HasStopped, Post}
use Rattle.ob_server.specs.Session.{StandsFor, state_at}
use Rattle.ob_server.specs.Setup.{over}
use Rattle.ob_server.specs.declared.ending.Ending.{Ending}
use Rattle.ob_server.specs.declared.terms.Terms.{Terms}
use Rattle.ob_server.proofs.SessionOn.{told_rows}

-- what an engine's keeper and a clock tell, beside a sink
abbrev pub told_at : Situation → (written : Option (List ℕ)) → Surroundings
told_at at written = record { faults = at.engine.faults; kept = at.engine.kept; coming = at.coming; written = written }

-- connections were served over a store: the rows that are kept at the end are those of the machine's tables
pub ends_serving : (terms : Terms) (first : Tables) (why : Ending) (limit : ℕ) (moments : ℕ → ℤ) (before now : Post) (written : Option (List ℕ))
    → OthersStay (models_at before.situation.engine) before.situation.engine.kept now.situation.engine.kept → HasStopped terms why limit (state_at (told_at before.situation written) first moments) before now
    → Reception (over terms (models_at before.situation.engine)) first why limit moments before.doorway now.doorway (told_at before.situation written) (told_at now.situation written)
ends_serving terms first why limit moments before now written others h =
    let rows = told_rows now.situation.engine.kept now.situation.engine.held h.received.state.tables h.received.has_state.tables in record {
      visits = h.visits;
      few = h.few;
      to_come = h.to_come;
      came = h.received.came;
      coming = h.received.coming;
      written = h.received.written;
      state = h.received.state;
      each = h.received.each;
      ends = h.ends;
      faults = h.received.has_state.faults;
      rest = h.received.has_state.moments;
      store = rows.0;
      kept = rows.1;
      stands = subst (λ (models : List ModelInfo). StandsFor models h.received.state.tables rows.0) h.received.models_are rows.2;
      others = others;
    }
