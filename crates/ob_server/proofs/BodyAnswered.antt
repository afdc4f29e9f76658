-- The answer to a body, and what was written of its reply.
use Rattle.std.proofs.Common.{◌≡◌, ℕ, ℤ, ◌≤◌, Bool, List, refl, ap, ◌∙◌, arith, inl, inr, subst, Option, Result, Ok, Err}
use Rattle.std.specs.Prelude.{◌⊎◌, OnErr, OnOk, option_map}
use Rattle.ob_cache.specs.Calls.{models_at}
use Rattle.ob_http.specs.Reply.{reply_bytes}
use Rattle.ob_http.specs.Written.{Wrote, WrotePart}
use Rattle.ob_io.specs.Cause.{Rose}
use Rattle.ob_rpc.specs.Envelope.{envelope_of}
use Rattle.ob_rpc.specs.declared.methods.Served.TheVariants.{EveryMethod}
use Rattle.ob_server.specs.Body.{AnswersOver, LeavesUnread, MayBeGiven, ServesBody}
use Rattle.ob_server.specs.Exchange.{HasState, Situation}
use Rattle.ob_server.specs.ExchangeSteps.{AnswersBody, WroteOrPart}
use Rattle.ob_server.specs.Machine.{MayAnswer, State, asked_by, moments_after}
use Rattle.ob_server.specs.Setup.{Setup, over}
use Rattle.ob_server.specs.declared.terms.Terms.{Terms}

-- all was written, or a front of it, by whether that failed
pub wrote_either : {A E : Type 0} (before now : Option (List (List ℕ))) (bytes : List ℕ) (outcome : Result A E) → OnOk outcome (Wrote before now bytes) → OnErr outcome (WrotePart before now bytes)
    → WroteOrPart outcome before now bytes
wrote_either before now bytes (Ok value) whole part = whole
wrote_either before now bytes (Err error) whole part = part

-- in whatever state the machine is, over a clock that tells its moments, what was answered is a step of it
module _ {A E : Type 0} (terms : Terms) (old new : Situation) (body reply : List ℕ) (keep : Bool) (outcome : Result A E) (first : State) (count : old.engine.faults ≤ new.engine.faults)
    (wrote : WroteOrPart outcome old.written new.written (reply_bytes 200 reply keep)) (state : HasState old first) where
  abbrev setup : Setup
  setup = over terms (models_at old.engine)

  served_answered : ServesBody terms first.tables old.engine new.engine old.coming new.coming body reply → AnswersBody terms body keep outcome first old new
  served_answered serves =
      let request = asked_by setup first.tables body in
      let now : serves.now ≡ first.moments 0 = subst (λ (o : Option (ℕ → ℤ)). MayBeGiven o serves.now) state.moments serves.given in
      let served = subst (λ (n : ℤ). MayAnswer setup first.tables n (Rose old.engine.faults new.engine.faults) request reply serves.serves.tables) now serves.serves.answer in
      record {
        reply = reply;
        state = record { tables = serves.serves.tables; moments = moments_after (envelope_of EveryMethod body) first.moments; faults = new.engine.faults };
        step = record {
          answer = subst (λ (n : ℕ). MayAnswer setup first.tables (first.moments 0) (Rose n new.engine.faults) request reply serves.serves.tables) state.faults served;
          moment = inl refl;
          count = omega (arith, state.faults, count);
        };
        has_state = record { tables = serves.serves.rests; moments = serves.taken ∙ ap (option_map (moments_after (envelope_of EveryMethod body))) state.moments; faults = refl };
        wrote = wrote;
      }

  unread_answered : LeavesUnread first.tables new.engine old.coming new.coming reply → AnswersBody terms body keep outcome first old new
  unread_answered unread = record {
    reply = reply;
    state = record { tables = first.tables; moments = first.moments; faults = new.engine.faults };
    step = record {
      answer = inr (refl, inl unread.told);
      moment = inr (record { told = unread.told; tables = refl; moments = refl });
      count = omega (arith, state.faults, count);
    };
    has_state = record { tables = unread.rests; moments = unread.coming ∙ state.moments; faults = refl };
    wrote = wrote;
  }

  pub body_answered : AnswersOver terms old.engine new.engine old.coming new.coming body reply → AnswersBody terms body keep outcome first old new
  body_answered answered = by (answered first.tables state.tables) where
    by : ServesBody terms first.tables old.engine new.engine old.coming new.coming body reply ⊎ LeavesUnread first.tables new.engine old.coming new.coming reply → AnswersBody terms body keep outcome first old new
    by (inl serves) = served_answered serves
    by (inr unread) = unread_answered unread
