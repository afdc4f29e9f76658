-- What was served goes on by one body.
use Rattle.std.proofs.Common.{◌≡◌, ℕ, ℤ, pos, ◌≤◌, ◌⊎◌, List, [], ◌∷◌, ◌++◌, refl, ap, sym, ◌∙◌, arith, inl, inr, Option, Some, None, Result, Ok, Err, subst}
use Rattle.std.specs.Prelude.{option_map, OnOk, OnErr}
use Rattle.std.proofs.lemmas.List.{append-nil}
use Rattle.std.proofs.lemmas.List.Concat.{flat_map-append}
use Rattle.std.proofs.lemmas.Option.{IfSome_then}
use Rattle.ob_cache.specs.Calls.{Standpoint}
use Rattle.ob_cache.specs.Kept.{OthersStay}
use Rattle.ob_cache.specs.Standing.{Holding, RestsAt}
use Rattle.ob_io.specs.Cause.{Rose}
use Rattle.ob_rpc.specs.Envelope.{envelope_of}
use Rattle.ob_rpc.specs.declared.methods.Served.TheVariants.{EveryMethod}
use Rattle.ob_schema.specs.Tables.{Tables}
use Rattle.ob_schema.specs.declared.info.ModelInfo.{ModelInfo}
use Rattle.ob_server.specs.Body.{AnswersOver, LeavesUnread, MayBeGiven, ServesBody, TakesMoment}
use Rattle.ob_server.specs.Ending.{WritesPart}
use Rattle.ob_server.specs.Machine.{MayAnswer, State, Run, asked_by, moments_after}
use Rattle.ob_server.specs.Outside.{Engaged, Surroundings}
use Rattle.ob_server.specs.Session.{GivesMoments, reply_lines, state_at}
use Rattle.ob_server.specs.SessionSteps.{HasServed, ServesMore, StopsAt}
use Rattle.ob_server.specs.Setup.{Setup, over}
use Rattle.ob_server.specs.declared.terms.Terms.{Terms}
use Rattle.ob_server.proofs.Others.{others_same, others_on}
use Rattle.ob_server.proofs.RunOn.{moment_then, run_before, run_on}
use Rattle.ob_server.proofs.WrittenParts.{nothing_written, whole_after}

-- moments that a clock may tell
told_moments : (coming : Option (ℕ → ℤ)) → (moments : ℕ → ℤ) × GivesMoments coming coming moments moments
told_moments None = (λ n. pos 0, tt)
told_moments (Some told) = (told, (refl, refl))

-- nothing is served yet
pub served_none : (terms : Terms) (before : Surroundings) (first : Tables) (held : Holding) → RestsAt before.kept held first → HasServed terms before first [] (record { now = before; held = held })
served_none terms before first held rests =
    let moments = told_moments before.coming in record {
      replies = [];
      tables = first;
      moments = moments.0;
      rest = moments.0;
      run = record { tables = refl; moments = refl; count = omega arith };
      gives = moments.1;
      rests = rests;
      others = others_same held.models before.kept before.kept refl;
      written_is = nothing_written before.written;
    }

pub reply_lines-append : (replies : List (List ℕ)) (reply : List ℕ) → reply_lines (replies ++ reply ∷ []) ≡ reply_lines replies ++ (reply ++ 10 ∷ [])
reply_lines-append replies reply =
    flat_map-append (λ (r : List ℕ). r ++ 10 ∷ []) replies (reply ∷ []) ∙ ap (λ x. reply_lines replies ++ x) (append-nil (reply ++ 10 ∷ []))

-- where the engine stands
abbrev standpoint_of : Engaged → Standpoint
standpoint_of at = record { kept = at.now.kept; faults = at.now.faults; held = at.held }

-- the answer to a body, at whatever tables the engine rests
pub record IsAnswered (terms : Terms) (old new : Engaged) (body reply : List ℕ) : Type 0 where
  pub served : AnswersOver terms (standpoint_of old) (standpoint_of new) old.now.coming new.now.coming body reply
  pub models_are : new.held.models ≡ old.held.models
  pub count : old.now.faults ≤ new.now.faults
  pub others : OthersStay old.held.models old.now.kept new.now.kept

-- where the machine stands after a body more, and where the engine rests then
record IsStepped (setup : Setup) (before : Surroundings) (first : Tables) (bodies replies : List (List ℕ)) (at : Engaged) : Type 0 where
  tables : Tables
  moments : ℕ → ℤ
  rest : ℕ → ℤ
  run : Run setup (state_at before first moments) bodies replies (state_at at.now tables rest)
  gives : GivesMoments before.coming at.now.coming moments rest
  rests : RestsAt at.now.kept at.held tables
  others : OthersStay setup.models before.kept at.now.kept

-- A run so far, before the moment that the clock gave next: where it told no moments they may be any.
record IsBeforeMoment (setup : Setup) (first past : State) (bodies replies : List (List ℕ)) (coming now_coming : Option (ℕ → ℤ)) (now : ℤ) (body : List ℕ) : Type 0 where
  moments : ℕ → ℤ
  rest : ℕ → ℤ
  run : Run setup (record first { moments = moments }) bodies replies (record past { moments = rest })
  next : now ≡ rest 0
  gives : GivesMoments coming now_coming moments (moments_after (envelope_of EveryMethod body) rest)

before_moment : (setup : Setup) (first past : State) (bodies replies : List (List ℕ)) (coming old new : Option (ℕ → ℤ)) (now : ℤ) (body : List ℕ) → Run setup first bodies replies past
    → GivesMoments coming old first.moments past.moments → MayBeGiven old now → TakesMoment old new body → IsBeforeMoment setup first past bodies replies coming new now body
before_moment setup first past bodies replies None old new now body run gives given taken =
    let anew = run_before setup first past bodies replies (moment_then now past.moments) run in
    record { moments = anew.0; rest = moment_then now past.moments; run = anew.1; next = refl; gives = tt }
before_moment setup first past bodies replies (Some told) old new now body run gives given taken = record {
  moments = first.moments;
  rest = past.moments;
  run = run;
  next = subst (λ (o : Option (ℕ → ℤ)). MayBeGiven o now) gives.1 given;
  gives = (gives.0, taken ∙ ap (option_map (moments_after (envelope_of EveryMethod body))) gives.1);
}

module _ (terms : Terms) (old new : Engaged) (body reply : List ℕ) (answered : IsAnswered terms old new body reply) (before : Surroundings) (first : Tables) (bodies : List (List ℕ)) (h : HasServed terms before first bodies old) where
  -- where its request was served
  served_stepped : ServesBody terms h.tables (standpoint_of old) (standpoint_of new) old.now.coming new.now.coming body reply
      → IsStepped (over terms old.held.models) before first (bodies ++ body ∷ []) (h.replies ++ reply ∷ []) new
  served_stepped serves =
      let setup = over terms old.held.models in
      let from = before_moment setup (state_at before first h.moments) (state_at old.now h.tables h.rest) bodies h.replies before.coming old.now.coming new.now.coming serves.now body h.run h.gives serves.given serves.taken in
      let request = asked_by setup h.tables body in record {
        tables = serves.serves.tables;
        moments = from.moments;
        rest = moments_after (envelope_of EveryMethod body) from.rest;
        run = run_on setup (state_at before first from.moments) (state_at old.now h.tables from.rest) (state_at new.now serves.serves.tables (moments_after (envelope_of EveryMethod body) from.rest)) bodies h.replies body reply from.run
            (record {
              answer = subst (λ (now : ℤ). MayAnswer setup h.tables now (Rose old.now.faults new.now.faults) request reply serves.serves.tables) from.next serves.serves.answer;
              moment = inl refl;
              count = answered.count;
            });
        gives = from.gives;
        rests = serves.serves.rests;
        others = others_on old.held.models before.kept old.now.kept new.now.kept h.others answered.others;
      }

  -- where it wasn't read
  unread_stepped : LeavesUnread h.tables (standpoint_of new) old.now.coming new.now.coming reply
      → IsStepped (over terms old.held.models) before first (bodies ++ body ∷ []) (h.replies ++ reply ∷ []) new
  unread_stepped unread = record {
    tables = h.tables;
    moments = h.moments;
    rest = h.rest;
    run = run_on (over terms old.held.models) (state_at before first h.moments) (state_at old.now h.tables h.rest) (state_at new.now h.tables h.rest) bodies h.replies body reply h.run
        (record { answer = inr (refl, inl unread.told); moment = inr (record { told = unread.told; tables = refl; moments = refl }); count = answered.count });
    gives = IfSome_then before.coming h.gives (λ told is. (is.0, unread.coming ∙ is.1));
    rests = unread.rests;
    others = others_on old.held.models before.kept old.now.kept new.now.kept h.others answered.others;
  }

  stepped : IsStepped (over terms new.held.models) before first (bodies ++ body ∷ []) (h.replies ++ reply ∷ []) new
  stepped = subst (λ (models : List ModelInfo). IsStepped (over terms models) before first (bodies ++ body ∷ []) (h.replies ++ reply ∷ []) new) (sym answered.models_are) (by (answered.served h.tables h.rests)) where
    by : ServesBody terms h.tables (standpoint_of old) (standpoint_of new) old.now.coming new.now.coming body reply ⊎ LeavesUnread h.tables (standpoint_of new) old.now.coming new.now.coming reply
        → IsStepped (over terms old.held.models) before first (bodies ++ body ∷ []) (h.replies ++ reply ∷ []) new
    by (inl serves) = served_stepped serves
    by (inr unread) = unread_stepped unread

-- The reply's line was written.
pub serves_more : (terms : Terms) (old new : Engaged) (body reply : List ℕ) → IsAnswered terms old new body reply → new.now.written ≡ option_map (λ w. w ++ (reply ++ 10 ∷ [])) old.now.written
    → ServesMore terms (body ∷ []) old new
serves_more terms old new body reply answered written before first bodies h =
    let now = stepped terms old new body reply answered before first bodies h in record {
      replies = h.replies ++ reply ∷ [];
      tables = now.tables;
      moments = now.moments;
      rest = now.rest;
      run = now.run;
      gives = now.gives;
      rests = now.rests;
      others = now.others;
      written_is = whole_after before.written old.now.written new.now.written (reply_lines h.replies) (reply ++ 10 ∷ []) h.written_is written
          ∙ ap (λ (text : List ℕ). option_map (λ w. w ++ text) before.written) (sym (reply_lines-append h.replies reply));
    }

-- The sink failed within the reply's line.
pub stops_at : (terms : Terms) (old new : Engaged) (body reply : List ℕ) → IsAnswered terms old new body reply → WritesPart old.now.written new.now.written (reply ++ 10 ∷ []) → StopsAt terms body old new
stops_at terms old new body reply answered part before first bodies h =
    let now = stepped terms old new body reply answered before first bodies h in record {
      replies = h.replies ++ reply ∷ [];
      tables = now.tables;
      moments = now.moments;
      rest = now.rest;
      written = reply_lines h.replies ++ part.0;
      run = now.run;
      gives = now.gives;
      rests = now.rests;
      others = now.others;
      written_is = whole_after before.written old.now.written new.now.written (reply_lines h.replies) part.0 h.written_is part.2;
      writes = record { whole = h.replies; last = reply; part = part.0; replies_are = refl; part_of = part.1; written_is = refl };
    }

-- what follows of an answer's clause

pub on_ok : {T E P Q : Type 0} (r : Result T E) → OnOk r P → (P → Q) → OnOk r Q
on_ok (Ok value) h then = then h
on_ok (Err error) h then = tt

pub on_err : {T E P Q : Type 0} (r : Result T E) → OnErr r P → (P → Q) → OnErr r Q
on_err (Ok value) h then = tt
on_err (Err error) h then = then h
