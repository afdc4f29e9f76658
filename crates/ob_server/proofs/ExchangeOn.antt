-- An exchange goes on by one item, or ends.
use Rattle.std.proofs.Common.{◌≡◌, ℕ, ◌+◌, ◌<◌, ◌≤◌, Bool, true, false, List, [], ◌∷◌, ◌++◌, length, refl, sym, ap, ◌∙◌, subst, arith, inl, inr, append_assoc, length-append, Option, Some, None, option_map, Result, Ok, Err}
use Rattle.std.specs.Prelude.{◌⊎◌, IfSome, MatchOption, if◌then◌else◌, is_err, Vec, nat_lt}
use Rattle.std.specs.declared.alloc.Global.{Global}
use Rattle.std.proofs.lemmas.Bool.{ltb-true}
use Rattle.std.proofs.lemmas.List.{append-nil}
use Rattle.ob_base.specs.Limits.{max_input_bytes}
use Rattle.ob_cache.specs.Calls.{models_at}
use Rattle.ob_http.proofs.CallerLemmas.{front_after, wrote_both, wrote_nothing}
use Rattle.ob_http.specs.Connection.{Connection, ReadAhead, Sent, Receives, FailsReading, FailsWriting, AsksInterim, coming_bytes, connection_of}
use Rattle.ob_http.specs.Item.{Item, IsItem, TellsItem, goes_on, is_end}
use Rattle.ob_http.specs.Reply.{interim_bytes, reply_bytes}
use Rattle.ob_http.specs.Taking.{TakesNext}
use Rattle.ob_http.specs.Written.{IsCutShort, Wrote, WrotePart}
use Rattle.ob_http.specs.declared.inlet.HttpFault.{HttpFault}
use Rattle.ob_http.specs.declared.inlet.HttpFault.TheVariants as http
use Rattle.ob_http.specs.declared.inlet.Inlet.{Inlet}
use Rattle.ob_http.specs.declared.inlet.Inlet.TheVariants.{Post, Bad}
use Rattle.ob_schema.specs.declared.info.ModelInfo.{ModelInfo}
use Rattle.ob_server.specs.Exchange.{AreFirstItems, Exchange, HasState, Situation, answers_to, bodies_in}
use Rattle.ob_server.specs.ExchangeSteps.{AnswersBody, HasAnswered, TellsStatus, WroteOrPart, parting_behind}
use Rattle.ob_server.specs.Machine.{State, Run, Step}
use Rattle.ob_server.specs.Setup.{Setup, over}
use Rattle.ob_server.specs.declared.connection.Parting.{Parting}
use Rattle.ob_server.specs.declared.connection.Parting.TheVariants as parting
use Rattle.ob_server.specs.declared.terms.Terms.{Terms}
use Rattle.ob_server.proofs.ExchangeItems.{StandsAlone, answers_to-append, bodies_count, bodies_in-append, ends_alone, faulted, first_on, interim_of, items_end, posted, takes_front}
use Rattle.ob_server.proofs.RunOn.{rests_here, run_on}

-- ---- where an exchange begins

pub begins : {terms : Terms} (first : State) (stream : List ℕ) (start : Situation) (ahead : ReadAhead) → ahead ≡ record { bytes = []; taken = 0 } → HasState start first → start.left ≡ Some stream
    → HasAnswered terms 0 first stream start ahead start
begins first stream start ahead new state told = record {
  items = [];
  rest = stream;
  are_first = refl;
  count_is = refl;
  coming = rw (new, told) refl;
  within = rw (new, told) (omega arith);
  replies = [];
  state = first;
  run = rests_here first;
  models_are = refl;
  has_state = state;
  wrote = wrote_nothing start.written;
}

-- ---- what is told of the stream

-- a machine replies to each body
pub replies_count : (setup : Setup) (old : State) (bodies replies : List (List ℕ)) (new : State) → Run setup old bodies replies new → length replies ≡ length bodies
replies_count setup old [] [] new run = refl
replies_count setup old [] (reply ∷ replies) new run = absurd run
replies_count setup old (body ∷ bodies) [] new run = absurd run
replies_count setup old (body ∷ bodies) (reply ∷ replies) new run = omega (arith, replies_count setup run.0 bodies replies new run.2)

-- what holds of bytes that are to come holds of those that are told to be
pub at_coming : (told : Option (List ℕ)) (P : List ℕ → Type 0) (bytes : List ℕ) → told ≡ Some bytes → IfSome told P → P bytes
at_coming told P bytes is holds = subst (λ o. IfSome o P) is holds

-- what is to come is what was read ahead and what the connection has left
left_told : (ahead : List ℕ) (left : Option (List ℕ)) (rest : List ℕ) → option_map (λ bytes. ahead ++ bytes) left ≡ Some rest → (now : List ℕ) × (left ≡ Some now) × (rest ≡ ahead ++ now)
left_told ahead None rest is = absurd (let h : ⊥ = cc in h)
left_told ahead (Some now) rest is = (now, refl, cc)

-- the connection sent a part of what it had left
sent_told : (before now : Option (List ℕ)) (part left : List ℕ) → before ≡ option_map (λ rest. part ++ rest) now → before ≡ Some left → (rest : List ℕ) × (now ≡ Some rest) × (left ≡ part ++ rest)
sent_told before None part left sent told = absurd (let e : None ≡ Some left = sym sent ∙ told in let h : ⊥ = cc in h)
sent_told before (Some rest) part left sent told = (rest, refl, let e : Some (part ++ rest) ≡ Some left = sym sent ∙ told in cc)

-- no more was read than the stream has
still_within : {old now : Connection} {part : List ℕ} (stream : List ℕ) → Sent old now part → IfSome old.left (λ left. old.ahead.taken + length left ≤ length stream)
    → (left : List ℕ) → old.left ≡ Some left → IfSome now.left (λ left. now.ahead.taken + length left ≤ length stream)
still_within {old} {now} {part} stream sent within left told =
    let rest = sent_told old.left now.left part left sent.left told in
    let before = at_coming old.left (λ left. old.ahead.taken + length left ≤ length stream) left told within in
    subst (λ (o : Option (List ℕ)). IfSome o (λ left. now.ahead.taken + length left ≤ length stream)) (sym rest.1) (omega (arith, before, sent.taken, ap length rest.2, length-append part rest.0))

-- what was written, by whether that failed
wrote_whole : {A E : Type 0} (before now : Option (List (List ℕ))) (bytes : List ℕ) (outcome : Result A E) → is_err outcome ≡ false → WroteOrPart outcome before now bytes → Wrote before now bytes
wrote_whole before now bytes (Ok value) ok wrote = wrote
wrote_whole before now bytes (Err error) ok wrote = absurd (let h : ⊥ = cc in h)

wrote_part : {A E : Type 0} (before now : Option (List (List ℕ))) (bytes : List ℕ) (outcome : Result A E) → is_err outcome ≡ true → WroteOrPart outcome before now bytes → WrotePart before now bytes
wrote_part before now bytes (Ok value) failed wrote = absurd (let h : ⊥ = cc in h)
wrote_part before now bytes (Err error) failed wrote = wrote

-- ---- one item more

module _ {terms : Terms} {count : ℕ} {first : State} {stream : List ℕ} {start old : Situation} {ahead : ReadAhead} (h : HasAnswered terms count first stream start ahead old) where
  -- what was written so far
  abbrev so_far : List ℕ
  so_far = answers_to h.items h.replies

  -- the same engine and clock, with another door
  abbrev pub with_door : Option (List ℕ) → Option (List (List ℕ)) → Situation
  with_door left written = record { engine = old.engine; coming = old.coming; left = left; written = written }

  answers_more : (item : Item) (replies : List (List ℕ)) → answers_to (h.items ++ item ∷ []) (h.replies ++ replies) ≡ so_far ++ answers_to (item ∷ []) replies
  answers_more item replies =
      let count_is = replies_count (over terms (models_at start.engine)) first (bodies_in h.items) h.replies h.state h.run ∙ bodies_count stream h.items h.rest h.are_first in
      answers_to-append stream h.items (item ∷ []) h.rest h.replies replies h.are_first count_is

  -- a message and its reply are a step of the machine
  run_more : (item : Item) (body reply : List ℕ) (state : State) → bodies_in (item ∷ []) ≡ body ∷ [] → Step (over terms (models_at old.engine)) h.state body reply state
      → Run (over terms (models_at start.engine)) first (bodies_in (h.items ++ item ∷ [])) (h.replies ++ reply ∷ []) state
  run_more item body reply state bodies step =
      let setup = over terms (models_at start.engine) in
      let stepped = subst (λ (m : List ModelInfo). Step (over terms m) h.state body reply state) h.models_are step in
      let same : bodies_in (h.items ++ item ∷ []) ≡ bodies_in h.items ++ body ∷ [] = bodies_in-append h.items (item ∷ []) ∙ ap (λ bs. bodies_in h.items ++ bs) bodies in
      subst (λ (bs : List (List ℕ)). Run setup first bs (h.replies ++ reply ∷ []) state) (sym same) (run_on setup first h.state state (bodies_in h.items) h.replies body reply h.run stepped)

  -- what is no message is none
  run_same : (item : Item) → bodies_in (item ∷ []) ≡ [] → Run (over terms (models_at start.engine)) first (bodies_in (h.items ++ item ∷ [])) (h.replies ++ []) h.state
  run_same item none =
      let setup = over terms (models_at start.engine) in
      let same : bodies_in (h.items ++ item ∷ []) ≡ bodies_in h.items = bodies_in-append h.items (item ∷ []) ∙ ap (λ bs. bodies_in h.items ++ bs) none ∙ append-nil (bodies_in h.items) in
      subst (λ (bs : List (List ℕ)). Run setup first bs (h.replies ++ []) h.state) (sym same) (subst (λ (rs : List (List ℕ)). Run setup first (bodies_in h.items) rs h.state) (sym (append-nil h.replies)) h.run)

  module _ {item : Item} {keep : Bool} {bodies replies : List (List ℕ)} {answer : List ℕ} (alone : StandsAlone item keep bodies replies answer) (mid now : Option (List (List ℕ)))
      (line : Wrote old.written mid (interim_of item)) where
    -- its answer was written
    wrote_more : Wrote mid now answer → Wrote start.written now (answers_to (h.items ++ item ∷ []) (h.replies ++ replies))
    wrote_more wrote =
        let own = wrote_both old.written mid now (interim_of item) answer line wrote in
        subst (λ (bs : List ℕ). Wrote start.written now bs) (sym (answers_more item replies ∙ ap (λ bs. so_far ++ bs) alone.answer_is))
        (wrote_both start.written old.written now so_far (interim_of item ++ answer) h.wrote own)

    -- or a front of it
    part_more : WrotePart mid now answer → (part : List ℕ) × IsCutShort part (answers_to (item ∷ []) replies) × Wrote start.written now (so_far ++ part)
    part_more wrote =
        let own = front_after old.written mid now (interim_of item) answer line wrote in
        (own.0, subst (λ (bs : List ℕ). IsCutShort own.0 bs) (sym alone.answer_is) own.1, wrote_both start.written old.written now so_far own.0 h.wrote own.2)

  -- all items were answered
  served : (item : Item) (behind : List ℕ) (replies : List (List ℕ)) (state : State) (now : Situation) → IsItem h.rest item behind → goes_on item ≡ false
      → Run (over terms (models_at start.engine)) first (bodies_in (h.items ++ item ∷ [])) (h.replies ++ replies) state → HasState now state
      → Wrote start.written now.written (answers_to (h.items ++ item ∷ []) (h.replies ++ replies)) → Exchange terms parting.Served first stream start now
  served item behind replies state now is stops run has wrote = record {
    dialogue = record { bodies = bodies_in (h.items ++ item ∷ []); replies = h.replies ++ replies; written = answers_to (h.items ++ item ∷ []) (h.replies ++ replies) };
    state = state;
    run = run;
    has_state = has;
    wrote = wrote;
    ends = record { items = h.items ++ item ∷ []; are_items = items_end stream h.items h.rest item behind h.are_first is stops; bodies_are = refl; written_is = refl };
  }

  -- the answer to the last one was cut short
  cut_short : (item : Item) (behind : List ℕ) (replies : List (List ℕ)) (state : State) (now : Situation) → IsItem h.rest item behind
      → Run (over terms (models_at start.engine)) first (bodies_in (h.items ++ item ∷ [])) (h.replies ++ replies) state → HasState now state
      → (part : List ℕ) × IsCutShort part (answers_to (item ∷ []) replies) × Wrote start.written now.written (so_far ++ part) → Exchange terms parting.Failed first stream start now
  cut_short item behind replies state now is run has (part, part_of, wrote) = record {
    dialogue = record { bodies = bodies_in (h.items ++ item ∷ []); replies = h.replies ++ replies; written = so_far ++ part };
    state = state;
    run = run;
    has_state = has;
    wrote = wrote;
    ends = inr (inr (record {
      items = h.items;
      rest = h.rest;
      are_first = h.are_first;
      item = item;
      behind = behind;
      is_item = is;
      bodies_are = refl;
      whole = h.replies;
      last = replies;
      replies_are = refl;
      part = part;
      part_of = part_of;
      written_is = refl;
    }));
  }

  -- so many items were answered that there are more bytes than a connection may send, one at least for each
  pub ends_full : max_input_bytes < count → Exchange terms parting.TooLong first stream start old
  ends_full many =
      let taken = takes_front stream h.items h.rest h.are_first in record {
        dialogue = record { bodies = bodies_in h.items; replies = h.replies; written = so_far };
        state = h.state;
        run = h.run;
        has_state = h.has_state;
        wrote = h.wrote;
        ends = (omega (arith, many, taken.size, h.count_is), h.rest, record { items = h.items; are_first = h.are_first; bodies_are = refl; written_is = sym (append-nil so_far) });
      }

  module _ {ahead_now : ReadAhead} {left_now : Option (List ℕ)} {written_now : Option (List (List ℕ))} {result : Result Inlet HttpFault}
      (takes : TakesNext (connection_of ahead old.left old.written) (connection_of ahead_now left_now written_now) result) where
    -- the connection before and after it was read
    abbrev before : Connection
    before = connection_of ahead old.left old.written

    abbrev after : Connection
    after = connection_of ahead_now left_now written_now

    -- the item that came in
    came_in : (inlet : Inlet) → IfSome (coming_bytes before) (λ bytes. Receives before after bytes inlet) → Receives before after h.rest inlet
    came_in inlet = at_coming (coming_bytes before) (λ bytes. Receives before after bytes inlet) h.rest h.coming

    -- how much was read stays within the stream
    within_now : IfSome left_now (λ left. ahead_now.taken + length left ≤ length stream)
    within_now =
        let told = left_told ahead.bytes old.left h.rest h.coming in
        still_within stream takes.sent h.within told.0 told.1

    module _ {A E : Type 0} (body : Vec ℕ Global) (keep : Bool) (received : IfSome (coming_bytes before) (λ bytes. Receives before after bytes (Post body keep)))
        (outcome : Result A E) (now : Situation) (unread : now.left ≡ left_now)
        (answers : (state : State) → HasState (with_door left_now written_now) state → AnswersBody terms body.items keep outcome state (with_door left_now written_now) now) where
      abbrev message : Receives before after h.rest (Post body keep)
      message = came_in (Post body keep) received

      abbrev answered : AnswersBody terms body.items keep outcome h.state (with_door left_now written_now) now
      answered = answers h.state (record { tables = h.has_state.tables; moments = h.has_state.moments; faults = h.has_state.faults })

      abbrev alone : StandsAlone message.item keep (body.items ∷ []) (answered.reply ∷ []) (reply_bytes 200 answered.reply keep)
      alone = posted body keep message.item answered.reply message.told

      ran : Run (over terms (models_at start.engine)) first (bodies_in (h.items ++ message.item ∷ [])) (h.replies ++ answered.reply ∷ []) answered.state
      ran = run_more message.item body.items answered.reply answered.state alone.bodies_are answered.step

      -- the reply could not be written whole
      fails_reply : WrotePart written_now now.written (reply_bytes 200 answered.reply keep) → Exchange terms parting.Failed first stream start now
      fails_reply part =
          cut_short message.item message.rest (answered.reply ∷ []) answered.state now message.is_item ran answered.has_state (part_more alone written_now now.written message.interim part)

      wrote_reply : Wrote written_now now.written (reply_bytes 200 answered.reply keep) → Wrote start.written now.written (answers_to (h.items ++ message.item ∷ []) (h.replies ++ answered.reply ∷ []))
      wrote_reply wrote = wrote_more alone written_now now.written message.interim wrote

      -- the connection isn't kept
      ends_unkept : Wrote written_now now.written (reply_bytes 200 answered.reply keep) → keep ≡ false → Exchange terms parting.Served first stream start now
      ends_unkept wrote stops =
          served message.item message.rest (answered.reply ∷ []) answered.state now message.is_item (alone.goes ∙ stops) ran answered.has_state (wrote_reply wrote)

      module _ (wrote : Wrote written_now now.written (reply_bytes 200 answered.reply keep)) (kept : keep ≡ true) where
        first_now : AreFirstItems stream (h.items ++ message.item ∷ []) message.rest
        first_now = first_on stream h.items h.rest message.item message.rest h.are_first message.is_item (alone.goes ∙ kept)

        -- it goes on
        goes_on_by : models_at now.engine ≡ models_at old.engine → HasAnswered terms (count + 1) first stream start ahead_now now
        goes_on_by same = record {
          items = h.items ++ message.item ∷ [];
          rest = message.rest;
          are_first = first_now;
          count_is = omega (arith, length-append h.items (message.item ∷ []), h.count_is);
          coming = ap (option_map (λ left. ahead_now.bytes ++ left)) unread ∙ message.rest_comes (alone.goes ∙ kept);
          within = subst (λ (o : Option (List ℕ)). IfSome o (λ left. ahead_now.taken + length left ≤ length stream)) (sym unread) within_now;
          replies = h.replies ++ answered.reply ∷ [];
          state = answered.state;
          run = ran;
          models_are = same ∙ h.models_are;
          has_state = answered.has_state;
          wrote = wrote_reply wrote;
        }

        -- it has sent too much
        ends_too_long : max_input_bytes < ahead_now.taken → Exchange terms parting.TooLong first stream start now
        ends_too_long long =
            let told = left_told ahead_now.bytes left_now message.rest (message.rest_comes (alone.goes ∙ kept)) in
            let within = at_coming left_now (λ left. ahead_now.taken + length left ≤ length stream) told.0 told.1 within_now in
            let all = answers_to (h.items ++ message.item ∷ []) (h.replies ++ answered.reply ∷ []) in record {
              dialogue = record { bodies = bodies_in (h.items ++ message.item ∷ []); replies = h.replies ++ answered.reply ∷ []; written = all };
              state = answered.state;
              run = ran;
              has_state = answered.has_state;
              wrote = wrote_reply wrote;
              ends = (omega (arith, long, within), message.rest, record { items = h.items ++ message.item ∷ []; are_first = first_now; bodies_are = refl; written_is = sym (append-nil all) });
            }

      -- a front of the reply was written
      pub ends_unanswered : is_err outcome ≡ true → Exchange terms parting.Failed first stream start now
      ends_unanswered failed = fails_reply (wrote_part written_now now.written (reply_bytes 200 answered.reply keep) outcome failed answered.wrote)

      -- the reply was written, and the connection goes on or ends
      pub answered_on : is_err outcome ≡ false → (next : Option Parting) → next ≡ parting_behind keep ahead_now.taken → models_at now.engine ≡ models_at old.engine
          → MatchOption next (HasAnswered terms (count + 1) first stream start ahead_now now) (λ why. Exchange terms why first stream start now)
      answered_on ok next is same = subst Goes (sym is) (by_keep keep refl)
        where
          Goes : Option Parting → Type 0
          Goes next = MatchOption next (HasAnswered terms (count + 1) first stream start ahead_now now) (λ why. Exchange terms why first stream start now)

          whole : Wrote written_now now.written (reply_bytes 200 answered.reply keep)
          whole = wrote_whole written_now now.written (reply_bytes 200 answered.reply keep) outcome ok answered.wrote

          by_taken : keep ≡ true → (long : Bool) → nat_lt max_input_bytes ahead_now.taken ≡ long → Goes (if long then Some parting.TooLong else None)
          by_taken kept true long = ends_too_long whole kept (ltb-true max_input_bytes ahead_now.taken long)
          by_taken kept false long = goes_on_by whole kept same

          by_keep : (k : Bool) → keep ≡ k → Goes (parting_behind k ahead_now.taken)
          by_keep false e = ends_unkept whole e
          by_keep true e = by_taken e (nat_lt max_input_bytes ahead_now.taken) refl

    -- the state of the machine, where nothing was asked of it
    same_state : HasState (with_door left_now written_now) h.state
    same_state = record { tables = h.has_state.tables; moments = h.has_state.moments; faults = h.has_state.faults }

    -- no further message comes
    pub ends_at_end : (inlet : Inlet) → ((item : Item) → TellsItem inlet item → is_end item ≡ true) → IfSome (coming_bytes before) (λ bytes. Receives before after bytes inlet)
        → Exchange terms parting.Served first stream start (with_door left_now written_now)
    ends_at_end inlet ends received =
        let r = came_in inlet received in
        let alone = ends_alone r.item (ends r.item r.told) in
        served r.item r.rest [] h.state (with_door left_now written_now) r.is_item alone.goes (run_same r.item alone.bodies_are) same_state
        (wrote_more alone written_now written_now r.interim (wrote_nothing written_now))

    -- a status was told
    pub ends_refused : (status : ℕ) (why : Parting) (now : Option (List (List ℕ))) (left : Option (List ℕ)) → IfSome (coming_bytes before) (λ bytes. Receives before after bytes (Bad status))
        → TellsStatus why written_now now status → Exchange terms why first stream start (with_door left now)
    ends_refused status parting.Served now left received told =
        let r = came_in (Bad status) received in
        let alone = faulted status r.item r.told in
        served r.item r.rest [] h.state (with_door left now) r.is_item alone.goes (run_same r.item alone.bodies_are)
        (record { tables = h.has_state.tables; moments = h.has_state.moments; faults = h.has_state.faults }) (wrote_more alone written_now now r.interim told)
    ends_refused status parting.Failed now left received told =
        let r = came_in (Bad status) received in
        let alone = faulted status r.item r.told in
        cut_short r.item r.rest [] h.state (with_door left now) r.is_item (run_same r.item alone.bodies_are)
        (record { tables = h.has_state.tables; moments = h.has_state.moments; faults = h.has_state.faults }) (part_more alone written_now now r.interim told)
    ends_refused status parting.TooLong now left received told = absurd told
    ends_refused status parting.NoMemory now left received told = absurd told

    -- a read failed: what had come was answered
    fails_reading : FailsReading before after takes.part → Exchange terms parting.Failed first stream start (with_door left_now written_now)
    fails_reading fails =
        let item = fails.item in
        let alone = ends_alone item fails.no_message in
        let had = ahead.bytes ++ takes.part in
        let taken = takes_front stream h.items h.rest h.are_first in
        let told = left_told ahead.bytes old.left h.rest h.coming in
        let rest = sent_told old.left left_now takes.part told.0 takes.sent.left told.1 in
        let read = taken.front ++ had in
        let behind : h.rest ≡ had ++ rest.0 = told.2 ∙ ap (λ bs. ahead.bytes ++ bs) rest.2 ∙ sym (append_assoc ahead.bytes takes.part rest.0) in
        let all = answers_to (h.items ++ item ∷ []) (h.replies ++ []) in record {
          dialogue = record { bodies = bodies_in (h.items ++ item ∷ []); replies = h.replies ++ []; written = all };
          state = h.state;
          run = run_same item alone.bodies_are;
          has_state = same_state;
          wrote = wrote_more alone written_now written_now fails.interim (wrote_nothing written_now);
          ends = inl (record {
            read = read;
            left = rest.0;
            stream_is = taken.bytes_are ∙ ap (λ bs. taken.front ++ bs) behind ∙ sym (append_assoc taken.front had rest.0);
            left_is = rest.1;
            answers = record { items = h.items ++ item ∷ []; are_items = items_end read h.items had item [] (taken.alone had) fails.is_item alone.goes; bodies_are = refl; written_is = refl };
          });
        }

    -- the interim line could not be written whole
    fails_interim : FailsWriting before after h.rest → Exchange terms parting.Failed first stream start (with_door left_now written_now)
    fails_interim fails =
        let part = fails.written.0 in record {
          dialogue = record { bodies = bodies_in h.items; replies = h.replies; written = so_far ++ part };
          state = h.state;
          run = h.run;
          has_state = same_state;
          wrote = wrote_both start.written old.written written_now so_far part h.wrote fails.written.2;
          ends = inr (inl (record {
            rest = h.rest;
            part = part;
            first = record { items = h.items; are_first = h.are_first; bodies_are = refl; written_is = refl };
            due = record { item = fails.item; rest = fails.rest; is_item = fails.is_item; due = fails.due };
            part_of = fails.written.1;
          }));
        }

    pub ends_failed : result ≡ Err http.Failed → Exchange terms parting.Failed first stream start (with_door left_now written_now)
    ends_failed is =
        elim (at_coming (coming_bytes before) (λ bytes. FailsReading before after takes.part ⊎ FailsWriting before after bytes) h.rest h.coming (takes.failed is)) [
          | inl reading ↦ fails_reading reading
          | inr writing ↦ fails_interim writing
        ]

    -- memory was wanting, before the interim line or behind it
    wants : (part : List ℕ) → Wrote old.written written_now part → (part ≡ []) ⊎ ((part ≡ interim_bytes) × AsksInterim h.rest) → Exchange terms parting.NoMemory first stream start (with_door left_now written_now)
    wants part wrote part_is = record {
      dialogue = record { bodies = bodies_in h.items; replies = h.replies; written = so_far ++ part };
      state = h.state;
      run = h.run;
      has_state = same_state;
      wrote = wrote_both start.written old.written written_now so_far part h.wrote wrote;
      ends = record { rest = h.rest; part = part; first = record { items = h.items; are_first = h.are_first; bodies_are = refl; written_is = refl }; part_is = part_is };
    }

    pub ends_wanting : result ≡ Err http.NoMemory → Exchange terms parting.NoMemory first stream start (with_door left_now written_now)
    ends_wanting is =
        elim (takes.memory is) [
          | inl none ↦ wants [] none (inl refl)
          | inr line ↦ wants interim_bytes line.written (inr (refl, at_coming (coming_bytes before) (λ bytes. AsksInterim bytes) h.rest h.coming line.due))
        ]
