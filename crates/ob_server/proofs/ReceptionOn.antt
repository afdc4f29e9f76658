-- A reception goes on by one connection, or ends.
use Rattle.std.proofs.Common.{◌≡◌, ℕ, ◌+◌, ◌<◌, ◌≤◌, true, List, [], ◌∷◌, ◌++◌, length, map, refl, sym, ap, ◌∙◌, subst, arith, inl, inr, append_assoc, length-append, Option, Some, None, option_map, Result, Ok, Err}
use Rattle.std.specs.Prelude.{IfSome}
use Rattle.std.proofs.lemmas.List.{append-nil, map-append}
use Rattle.std.proofs.lemmas.List.Elements.{All-append, All-cons, All-nil}
use Rattle.ob_base.specs.declared.memory.NoMemory.{NoMemory}
use Rattle.ob_cache.specs.Calls.{models_at}
use Rattle.ob_http.specs.Written.{Wrote}
use Rattle.ob_io.specs.Cause.{Rose}
use Rattle.ob_io.specs.Connections.{Admits, extend_last}
use Rattle.ob_schema.specs.declared.info.ModelInfo.{ModelInfo}
use Rattle.ob_server.specs.Exchange.{Exchange, HasState, MayEndBy, Situation}
use Rattle.ob_server.specs.Machine.{State, Rests}
use Rattle.ob_server.specs.Reception.{IsServed, ServesEach, Visit}
use Rattle.ob_server.specs.ReceptionSteps.{HasReceived, HasStopped, IsReceiving, Post}
use Rattle.ob_server.specs.Setup.{Setup, over}
use Rattle.ob_server.specs.declared.connection.Parting.{Parting}
use Rattle.ob_server.specs.declared.connection.Parting.TheVariants as parting
use Rattle.ob_server.specs.declared.ending.Ending.TheVariants as ending
use Rattle.ob_server.specs.declared.terms.Terms.{Terms}
use Rattle.ob_server.proofs.Counts.{Rose-earlier}
use Rattle.ob_server.proofs.RunOn.{rests_here, run_from}

-- ---- what was written to connections

-- nothing more
parts_same : (parts : Option (List (List ℕ))) → parts ≡ option_map (λ before. before ++ []) parts
parts_same None = refl
parts_same (Some before) = ap Some (sym (append-nil before))

-- the last connection was written to, and nothing had been
last_extended : (bytes : List ℕ) (before : List (List ℕ)) → extend_last bytes (before ++ [] ∷ []) ≡ before ++ bytes ∷ []
last_extended bytes [] = refl
last_extended bytes (first ∷ []) = refl
last_extended bytes (first ∷ next ∷ rest) = ap (λ parts. first ∷ parts) (last_extended bytes (next ∷ rest))

-- one connection more came and was written to
parts_more : (before mid came now : Option (List (List ℕ))) (parts : List (List ℕ)) (bytes : List ℕ) → mid ≡ option_map (λ said. said ++ parts) before → came ≡ option_map (λ said. said ++ [] ∷ []) mid
    → Wrote came now bytes → now ≡ option_map (λ said. said ++ (parts ++ bytes ∷ [])) before
parts_more before mid came now parts bytes first let_in wrote =
    wrote ∙ ap (option_map (extend_last bytes)) let_in ∙ ap (λ (o : Option (List (List ℕ))). option_map (extend_last bytes) (option_map (λ said. said ++ [] ∷ []) o)) first ∙ joined before
  where
    joined : (told : Option (List (List ℕ))) → option_map (extend_last bytes) (option_map (λ said. said ++ [] ∷ []) (option_map (λ said. said ++ parts) told)) ≡ option_map (λ said. said ++ (parts ++ bytes ∷ [])) told
    joined None = refl
    joined (Some said) = ap Some (last_extended bytes (said ++ parts) ∙ append_assoc said parts (bytes ∷ []))

-- ---- one connection after the others

-- one that was served from where the machine rested
served_since : (setup : Setup) (old past new : State) (visit : Visit) (faults faults_past faults_new : ℕ) → Rests old past → faults ≤ faults_past
    → IsServed setup past visit new faults_past faults_new → IsServed setup old visit new faults faults_new
served_since setup old past new visit faults faults_past faults_new rests count served = record {
  run = run_from setup old past new visit.dialogue.bodies visit.dialogue.replies rests served.run;
  left = served.left;
  ends = served.ends;
  failed = λ is. Rose-earlier faults faults_past faults_new count (served.failed is);
  count = omega (arith, count, served.count);
}

each_on : (setup : Setup) (old mid new : State) (visits : List Visit) (visit : Visit) (faults faults_mid faults_new : ℕ) → ServesEach setup old visits mid faults faults_mid
    → IsServed setup mid visit new faults_mid faults_new → ServesEach setup old (visits ++ visit ∷ []) new faults faults_new
each_on setup old mid new [] visit faults faults_mid faults_new each served =
    (new, faults_new, served_since setup old mid new visit faults faults_mid faults_new each.0 each.1 served, (rests_here new, omega arith))
each_on setup old mid new (first ∷ visits) visit faults faults_mid faults_new each served =
    (each.0, each.1, each.2, each_on setup each.0 mid new visits visit each.1 faults_mid faults_new each.3 served)

-- connections that were served from a later count of the keeper's faults on were from an earlier one on
pub each_from : (setup : Setup) (old from new : State) (visits : List Visit) (faults faults_now : ℕ) → Rests old from → ServesEach setup from visits new faults faults_now
    → ServesEach setup old visits new faults faults_now
each_from setup old from new [] faults faults_now rests each =
    (record { tables = each.0.tables ∙ rests.tables; moments = each.0.moments ∙ rests.moments; count = omega (arith, rests.count, each.0.count) }, each.1)
each_from setup old from new (visit ∷ visits) faults faults_now rests each =
    (each.0, each.1, served_since setup old from each.0 visit faults faults each.1 rests (omega arith) each.2, each.3)

-- a count of the door's may have risen since
each_since : (setup : Setup) (old new : State) (visits : List Visit) (faults faults_mid faults_new : ℕ) → ServesEach setup old visits new faults faults_mid → faults_new ≡ faults_mid
    → ServesEach setup old visits new faults faults_new
each_since setup old new visits faults faults_mid faults_new each same = subst (λ (n : ℕ). ServesEach setup old visits new faults n) (sym same) each

-- counts that are the same rose
rose_same : {a b c d : ℕ} → a ≡ b → c ≡ d → Rose a d → Rose b c
rose_same {a} {b} {c} {d} first second rose = subst (λ (n : ℕ). Rose n c) first (subst (λ (n : ℕ). Rose a n) (sym second) rose)

-- ---- how a connection may end

module _ {A : Type 0} (rose : Type 0) where
  has_failed : (why : Parting) (r : Result A NoMemory) → MayEndBy rose why r → why ≡ parting.Failed → rose
  has_failed parting.Failed (Ok x) may is = may
  has_failed parting.Failed (Err e) may is = absurd may
  has_failed parting.Served r may is = absurd (let e : ⊥ = cc in e)
  has_failed parting.TooLong r may is = absurd (let e : ⊥ = cc in e)
  has_failed parting.NoMemory r may is = absurd (let e : ⊥ = cc in e)

  sufficed : (why : Parting) (r : Result A NoMemory) (value : A) → MayEndBy rose why r → r ≡ Ok value → why ≡ parting.NoMemory → ⊥
  sufficed parting.NoMemory (Ok x) value may is none = may
  sufficed parting.NoMemory (Err e) value may is none = let e : ⊥ = cc in e
  sufficed parting.Served r value may is none = let e : ⊥ = cc in e
  sufficed parting.Failed r value may is none = let e : ⊥ = cc in e
  sufficed parting.TooLong r value may is none = let e : ⊥ = cc in e

  lacked : (why : Parting) (r : Result A NoMemory) (error : NoMemory) → MayEndBy rose why r → r ≡ Err error → why ≡ parting.NoMemory
  lacked parting.NoMemory r error may is = refl
  lacked why (Ok x) error may is = absurd (let e : ⊥ = cc in e)
  lacked parting.Served (Err e) error may is = absurd may
  lacked parting.Failed (Err e) error may is = absurd may
  lacked parting.TooLong (Err e) error may is = absurd may

-- what a connection that comes in sends, and what is to come after it
record ComesIn (to_come : List (List ℕ)) (coming_in : Option (List (List ℕ))) (left_in : Option (List ℕ)) : Type 0 where
  stream : List ℕ
  others : List (List ℕ)
  to_come_is : to_come ≡ stream ∷ others
  coming : coming_in ≡ Some others
  left : left_in ≡ Some stream

-- ---- how a reception begins

pub begins : {terms : Terms} (first : State) (start : Post) (streams : List (List ℕ)) → HasState start.situation first → start.doorway.coming ≡ Some streams → IsReceiving terms 0 first start start
begins first start streams state told = record {
  visits = [];
  to_come = streams;
  count_is = refl;
  suffices = All-nil (λ (visit : Visit). visit.why ≡ parting.NoMemory → ⊥);
  received = record {
    came = told;
    coming = told;
    written = parts_same start.doorway.written;
    state = first;
    each = (rests_here first, omega arith);
    next_count = omega arith;
    models_are = refl;
    has_state = state;
  };
}

module _ {terms : Terms} {count : ℕ} {first : State} {start old : Post} (h : IsReceiving terms count first start old) where
  -- as many were served as may be
  pub ends_at_limit : (limit : ℕ) → count ≡ limit → HasStopped terms ending.Done limit first start old
  ends_at_limit limit full = record {
    visits = h.visits;
    to_come = h.to_come;
    few = omega (arith, h.count_is);
    ends = (h.suffices, inl (h.count_is ∙ full));
    received = h.received;
  }

  -- no connection came in: the door tells what it told, with this count of failures of `next`
  module _ (limit : ℕ) (left : Option (List ℕ)) (coming written : Option (List (List ℕ))) (next_faults faults : ℕ) (below : count < limit)
      (same_coming : coming ≡ old.doorway.coming) (same_written : written ≡ old.doorway.written) (same_faults : faults ≡ old.doorway.faults) (no_fall : old.doorway.next_faults ≤ next_faults) where
    -- where all stands then
    abbrev pub unserved : Post
    unserved = record {
      situation = record { engine = old.situation.engine; coming = old.situation.coming; left = left; written = written };
      doorway = record { coming = coming; written = written; next_faults = next_faults; faults = faults };
    }

    none_received : HasReceived terms h.visits h.to_come first start unserved
    none_received = record {
      came = h.received.came;
      coming = same_coming ∙ h.received.coming;
      written = same_written ∙ h.received.written;
      state = h.received.state;
      each = each_since (over terms (models_at start.situation.engine)) first h.received.state h.visits start.doorway.faults old.doorway.faults faults h.received.each same_faults;
      next_count = omega (arith, h.received.next_count, no_fall);
      models_are = h.received.models_are;
      has_state = record { tables = h.received.has_state.tables; moments = h.received.has_state.moments; faults = h.received.has_state.faults };
    }

    -- the door has ended
    pub ends_with_door : IfSome old.doorway.coming (λ streams. streams ≡ []) → HasStopped terms ending.Done limit first start unserved
    ends_with_door none = record {
      visits = h.visits;
      to_come = h.to_come;
      few = omega (arith, h.count_is, below);
      ends = (h.suffices, inr (subst (λ (o : Option (List (List ℕ))). IfSome o (λ streams. streams ≡ [])) h.received.coming none));
      received = none_received;
    }

    -- it failed to let the next one in
    pub ends_failed : Rose old.doorway.next_faults next_faults → HasStopped terms ending.ReadFault limit first start unserved
    ends_failed rose = record {
      visits = h.visits;
      to_come = h.to_come;
      few = omega (arith, h.count_is, below);
      ends = (h.suffices, omega (arith, h.count_is, below), Rose-earlier start.doorway.next_faults old.doorway.next_faults next_faults h.received.next_count rose);
      received = none_received;
    }

  -- the next connection came in
  module _ (left_before left_in : Option (List ℕ)) (coming_in written_in : Option (List (List ℕ))) (let_in : Admits old.doorway.coming coming_in left_before left_in old.doorway.written written_in true) where
    comes_in : ComesIn h.to_come coming_in left_in
    comes_in =
        let told =
        subst (λ (o : Option (List (List ℕ))). IfSome o (λ streams. (first : List ℕ) × (others : List (List ℕ)) × (streams ≡ first ∷ others) × (coming_in ≡ Some others) × (left_in ≡ Some first)))
        h.received.coming let_in.0 in
        record { stream = told.0; others = told.1; to_come_is = told.2; coming = told.3; left = told.4 }

    -- the state of the machine as it comes in
    abbrev admitted : Situation
    admitted = record { engine = old.situation.engine; coming = old.situation.coming; left = left_in; written = written_in }

    -- it was served, and shut
    module _ {A : Type 0} (limit : ℕ) (now : Post) (served : Situation) (result : Result A NoMemory) (below : count < limit)
        (faults_in faults_out : ℕ) (in_is : faults_in ≡ old.doorway.faults) (out_is : now.doorway.faults ≡ faults_out)
        (exchange : (state : State) (stream : List ℕ) → HasState admitted state → left_in ≡ Some stream → (why : Parting) × MayEndBy (Rose faults_in faults_out) why result × Exchange terms why state stream admitted served)
        (engine_is : now.situation.engine ≡ served.engine) (moments_are : now.situation.coming ≡ served.coming) (written_is : now.doorway.written ≡ served.written) (coming_is : now.doorway.coming ≡ coming_in)
        (count_is : old.doorway.faults ≤ now.doorway.faults) (next_is : old.doorway.next_faults ≤ now.doorway.next_faults) (same : models_at now.situation.engine ≡ models_at old.situation.engine) where
      abbrev one : (why : Parting) × MayEndBy (Rose faults_in faults_out) why result × Exchange terms why h.received.state comes_in.stream admitted served
      one = exchange h.received.state comes_in.stream (record { tables = h.received.has_state.tables; moments = h.received.has_state.moments; faults = h.received.has_state.faults }) comes_in.left

      abbrev visit : Visit
      visit = record { stream = comes_in.stream; why = one.0; dialogue = one.2.dialogue }

      was_served : IsServed (over terms (models_at old.situation.engine)) h.received.state visit one.2.state old.doorway.faults now.doorway.faults
      was_served = record { run = one.2.run; left = served.left; ends = one.2.ends; failed = λ is. rose_same in_is out_is (has_failed (Rose faults_in faults_out) one.0 result one.1 is); count = count_is }

      state_now : HasState now.situation one.2.state
      state_now = record {
        tables = rw engine_is one.2.has_state.tables;
        moments = moments_are ∙ one.2.has_state.moments;
        faults = rw engine_is one.2.has_state.faults;
      }

      received_now : HasReceived terms (h.visits ++ visit ∷ []) comes_in.others first start now
      received_now = record {
        came = h.received.came ∙ ap (λ (streams : List (List ℕ)). Some (map (λ (v : Visit). v.stream) h.visits ++ streams)) comes_in.to_come_is
            ∙ ap Some (sym (ap (λ (streams : List (List ℕ)). streams ++ comes_in.others) (map-append (λ (v : Visit). v.stream) h.visits (visit ∷ []))
            ∙ append_assoc (map (λ (v : Visit). v.stream) h.visits) (comes_in.stream ∷ []) comes_in.others));
        coming = coming_is ∙ comes_in.coming;
        written = parts_more start.doorway.written old.doorway.written written_in now.doorway.written (map (λ (v : Visit). v.dialogue.written) h.visits) one.2.dialogue.written h.received.written let_in.1 (written_is ∙ one.2.wrote)
            ∙ ap (λ (parts : List (List ℕ)). option_map (λ before. before ++ parts) start.doorway.written) (sym (map-append (λ (v : Visit). v.dialogue.written) h.visits (visit ∷ [])));
        state = one.2.state;
        each = each_on (over terms (models_at start.situation.engine)) first h.received.state one.2.state h.visits visit start.doorway.faults old.doorway.faults now.doorway.faults h.received.each
            (subst (λ (models : List ModelInfo). IsServed (over terms models) h.received.state visit one.2.state old.doorway.faults now.doorway.faults) h.received.models_are was_served);
        next_count = omega (arith, h.received.next_count, next_is);
        models_are = same ∙ h.received.models_are;
        has_state = state_now;
      }

      length_now : length (h.visits ++ visit ∷ []) ≡ count + 1
      length_now = omega (arith, length-append h.visits (visit ∷ []), h.count_is)

      -- and memory sufficed
      pub goes_on : (value : A) → result ≡ Ok value → IsReceiving terms (count + 1) first start now
      goes_on value is = record {
        visits = h.visits ++ visit ∷ [];
        to_come = comes_in.others;
        count_is = length_now;
        suffices = All-append (λ (v : Visit). v.why ≡ parting.NoMemory → ⊥) h.visits (visit ∷ []) h.suffices
            (All-cons (λ (v : Visit). v.why ≡ parting.NoMemory → ⊥) visit [] (sufficed (Rose faults_in faults_out) one.0 result value one.1 is) (All-nil (λ (v : Visit). v.why ≡ parting.NoMemory → ⊥)));
        received = received_now;
      }

      -- or was wanting
      pub ends_wanting : (error : NoMemory) → result ≡ Err error → HasStopped terms ending.NoMemory limit first start now
      ends_wanting error is = record {
        visits = h.visits ++ visit ∷ [];
        to_come = comes_in.others;
        few = omega (arith, length_now, below);
        ends = (h.visits, visit, refl, h.suffices, lacked (Rose faults_in faults_out) one.0 result error one.1 is);
        received = received_now;
      }
