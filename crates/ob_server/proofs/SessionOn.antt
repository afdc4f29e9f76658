-- A session goes on by one line, or ends.
use Rattle.std.proofs.Common.{◌≡◌, ℕ, Bool, true, false, List, [], ◌∷◌, ◌++◌, length, refl, ap, sym, ◌∙◌, arith, Option, Some, None, Result, Ok, Err, subst, length-append}
use Rattle.std.specs.Prelude.{not, take, is_err, IfSome, OnOk, OnErr}
use Rattle.std.proofs.lemmas.Bool.{false≢true}
use Rattle.std.proofs.lemmas.List.{append-nil, take_all}
use Rattle.std.proofs.lemmas.List.Elements.{filter-append}
use Rattle.std.proofs.lemmas.Option.{IfSome_then}
use Rattle.ob_cache.specs.Kept.{OthersStay}
use Rattle.ob_cache.specs.Standing.{Holding, IsAtRest, RestsAt}
use Rattle.ob_io.specs.Store.{Store}
use Rattle.ob_schema.specs.Tables.{Tables}
use Rattle.ob_schema.specs.declared.info.ModelInfo.{ModelInfo}
use Rattle.ob_server.specs.declared.ending.Ending.{Ending}
use Rattle.ob_server.specs.declared.ending.Ending.TheVariants as ending
use Rattle.ob_server.specs.Ending.{IsSessionEnding}
use Rattle.ob_server.specs.Lines.{is_blank_line, bodies_of, Reading}
use Rattle.ob_server.specs.Outside.{Engaged, Surroundings}
use Rattle.ob_server.specs.Session.{reply_lines, NoneTooLong, AreRead, TakesFrom, TakesIn, WritesReplies, StandsFor, Session}
use Rattle.ob_server.specs.SessionSteps.{Beginning, Ends, HasRead, HasReadAll, HasReadTo, StopsReading, HasServed, StopsWriting, GoesOn, ServesMore, StopsAt}
use Rattle.ob_server.specs.Setup.{over}
use Rattle.ob_server.specs.declared.terms.Terms.{Terms}
use Rattle.ob_server.proofs.ReadOn.{lines_fit}
use Rattle.ob_server.proofs.ReadStops.{told_before, are_read}
use Rattle.ob_server.proofs.ServedOn.{served_none}

-- an ending after which each reply stands whole
abbrev pub CutsNone : Ending → Type 0
CutsNone why = (replies : List (List ℕ)) → WritesReplies why replies (reply_lines replies)

pub session_ending : (why : Ending) → CutsNone why → IsSessionEnding why
session_ending ending.Done h = tt
session_ending ending.Differs h = absurd (h [])
session_ending ending.Usage h = absurd (h [])
session_ending (ending.Module text) h = absurd (h [])
session_ending ending.ReadFault h = tt
session_ending ending.WriteFault h = tt
session_ending ending.KeeperFault h = absurd (h [])
session_ending ending.NoMemory h = tt
session_ending (ending.Store cell) h = absurd (h [])
session_ending (ending.TooLong number) h = tt

cut_at_fault : CutsNone ending.WriteFault → ⊥
cut_at_fault h =
    let front = h [] in
    omega (arith, ap length front.replies_are, length-append front.whole (front.last ∷ []))

pub no_write_fault : (why : Ending) → CutsNone why → why ≡ ending.WriteFault → ⊥
no_write_fault why h is = cut_at_fault (subst CutsNone is h)

-- the rows that are kept, and that they are those of the tables at which an engine rests
pub told_rows : (kept : Option Store) (held : Holding) (tables : Tables) → RestsAt kept held tables → (store : Store) × (kept ≡ Some store) × StandsFor held.models tables store
told_rows None held tables rests = absurd rests.over
told_rows (Some store) held tables rests = (store, refl, record { kept = rests.over.kept; sound = rests.over.sound })

-- the session ends with all replies written
ends_served : {terms : Terms} {before : Surroundings} {first : Tables} {bodies : List (List ℕ)} {at : Engaged} (h : HasServed terms before first bodies at) (left left_now : Option (List ℕ)) (why : Ending)
    → TakesFrom why left left_now bodies → CutsNone why → Session (over terms at.held.models) first why left left_now before at.now
ends_served {bodies = bodies} {at = at} h left left_now why takes_in told =
    let rows = told_rows at.now.kept at.held h.tables h.rests in record {
      bodies = bodies;
      replies = h.replies;
      tables = h.tables;
      moments = h.moments;
      rest = h.rest;
      run = h.run;
      gives = h.gives;
      store = rows.0;
      kept_is = rows.1;
      stands = rows.2;
      others = h.others;
      takes_in = takes_in;
      written = reply_lines h.replies;
      written_is = h.written_is;
      writes = told h.replies;
    }

-- the session ends where no further line is read
pub ends_reading : {terms : Terms} {from : Beginning} {reader : Reading} {left : Option (List ℕ)} {at : Engaged} (h : GoesOn terms from reader left at) {left_now : Option (List ℕ)} (why : Ending)
    → ((stream : List ℕ) (lines : List (List ℕ)) → HasRead stream reader left lines → StopsReading why stream left_now lines) → CutsNone why → Ends (over terms at.held.models) from why left_now at.now
ends_reading {from} h {left_now} why stops told =
    ends_served h.served from.left left_now why (IfSome_then from.left h.read (λ stream read. let stop = stops stream h.lines read in (stop.left, stop.left_is, stop.takes_in))) told

-- a session begins

read_none : (stream : List ℕ) (reader : Reading) → reader ≡ record { held = []; line = []; lines = 0; consumed = 0 } → HasRead stream reader (Some stream) []
read_none stream reader new = record {
  rest = stream;
  stream_is = refl;
  no_feeds = λ k d below. absurd (omega arith);
  coming = rw new refl;
  count = ap (λ (r : Reading). r.lines) new;
  consumed = ap (λ (r : Reading). r.consumed) new;
  none_too_long = λ k below. absurd (omega arith);
}

none_read : (left : Option (List ℕ)) (reader : Reading) → reader ≡ record { held = []; line = []; lines = 0; consumed = 0 } → IfSome left (λ stream. HasRead stream reader left [])
none_read None reader new = tt
none_read (Some stream) reader new = read_none stream reader new

pub begins : {terms : Terms} (from : Beginning) {reader : Reading} (held : Holding) → reader ≡ record { held = []; line = []; lines = 0; consumed = 0 }
    → RestsAt from.now.kept held from.first → GoesOn terms from reader from.left (record { now = from.now; held = held })
begins {terms} from {reader} held new rests = record { lines = []; read = none_read from.left reader new; served = served_none terms from.now from.first held rests }

-- nothing was read
none_taken : (left : Option (List ℕ)) → TakesFrom ending.NoMemory left left []
none_taken None = tt
none_taken (Some stream) =
    (stream, refl, (0, record { read = []; stream_is = refl; within = omega arith; among = record { bodies_are = refl; none_too_long = λ k below. absurd (omega arith) } }))

-- there was no memory for a reader
pub ends_at_once : (terms : Terms) (from : Beginning) (held : Holding) → RestsAt from.now.kept held from.first → Ends (over terms held.models) from ending.NoMemory from.left from.now
ends_at_once terms from held rests =
    ends_served (served_none terms from.now from.first held rests) from.left from.left ending.NoMemory (none_taken from.left) (λ replies. refl)

-- over the models that the engine had before: that it rests, what rows stay, and the session

pub rest_on : {models : List ModelInfo} {before now : Holding} → IsAtRest models before → IsAtRest before.models now → IsAtRest models now
rest_on first then = record { models_are = then.models_are ∙ first.models_are; phase_is = then.phase_is; next_ids = then.next_ids }

pub others_over : {models now_models : List ModelInfo} {before now : Option Store} → now_models ≡ models → OthersStay now_models before now → OthersStay models before now
others_over {before = before} {now = now} same others = subst (λ (models : List ModelInfo). OthersStay models before now) same others

pub over_same : (terms : Terms) {models now_models : List ModelInfo} {from : Beginning} {why : Ending} {left : Option (List ℕ)} {now : Surroundings} → now_models ≡ models
    → Ends (over terms now_models) from why left now → Ends (over terms models) from why left now
over_same terms {from = from} {why = why} {left = left} {now = now} same ends = subst (λ (models : List ModelInfo). Ends (over terms models) from why left now) same ends

-- a line more

bodies_of-append : (lines more : List (List ℕ)) → bodies_of (lines ++ more) ≡ bodies_of lines ++ bodies_of more
bodies_of-append lines more =
    filter-append (λ (line : List ℕ). not (is_blank_line line)) lines more

served_more : {terms : Terms} {from : Beginning} {reader : Reading} {left : Option (List ℕ)} {old : Engaged} (h : GoesOn terms from reader left old) (line : List ℕ) (new : Engaged)
    → ServesMore terms (bodies_of (line ∷ [])) old new → HasServed terms from.now from.first (bodies_of (h.lines ++ line ∷ [])) new
served_more {terms} {from} h line new serves =
    subst (λ bodies. HasServed terms from.now from.first bodies new) (sym (bodies_of-append h.lines (line ∷ []))) (serves from.now from.first (bodies_of h.lines) h.served)

pub goes_on : {terms : Terms} {from : Beginning} {reader next : Reading} {left left_now : Option (List ℕ)} {old : Engaged} (h : GoesOn terms from reader left old) (line : List ℕ) (new : Engaged)
    → ((stream : List ℕ) (lines : List (List ℕ)) → HasRead stream reader left lines → HasRead stream next left_now (lines ++ line ∷ []))
    → ServesMore terms (bodies_of (line ∷ [])) old new → GoesOn terms from next left_now new
goes_on {from} h line new reads serves =
    record { lines = h.lines ++ line ∷ []; read = IfSome_then from.left h.read (λ stream read. reads stream h.lines read); served = served_more h line new serves }

-- the last line had no line feed
pub ends_at_end : {terms : Terms} {from : Beginning} {reader : Reading} {left left_now : Option (List ℕ)} {old : Engaged} (h : GoesOn terms from reader left old) (line : List ℕ) (new : Engaged)
    → ((stream : List ℕ) (lines : List (List ℕ)) → HasRead stream reader left lines → HasReadAll stream left_now (lines ++ line ∷ []))
    → ServesMore terms (bodies_of (line ∷ [])) old new → Ends (over terms new.held.models) from ending.Done left_now new.now
ends_at_end {from} {left_now = left_now} h line new reads serves =
    ends_served (served_more h line new serves) from.left left_now ending.Done (IfSome_then from.left h.read (λ stream read. taken stream (reads stream h.lines read))) (λ replies. refl)
  where
    taken : (stream : List ℕ) → HasReadAll stream left_now (h.lines ++ line ∷ []) → (left : List ℕ) × (left_now ≡ Some left) × TakesIn ending.Done stream left (bodies_of (h.lines ++ line ∷ []))
    taken stream read = (
      [],
      read.none_left,
      (
        sym (ap bodies_of read.lines_are),
        refl,
        subst (λ (ls : List (List ℕ)). NoneTooLong (length ls) stream)
            (sym read.lines_are) read.none_too_long,
      ),
    )

-- a stream that was read to its end
all_read : (stream : List ℕ) (left : Option (List ℕ)) (lines : List (List ℕ)) → HasReadAll stream left lines → AreRead (length lines) stream [] (bodies_of lines)
all_read stream left lines h = record {
  read = stream;
  stream_is = sym (append-nil stream);
  within = lines_fit (length lines) stream;
  among = record {
    bodies_are = sym (ap (λ (ls : List (List ℕ)). bodies_of (take (length lines) ls)) h.lines_are ∙ ap bodies_of (take_all (length lines) lines (omega arith)));
    none_too_long = h.none_too_long;
  };
}

-- the lines that were read are the stream's first ones, and the source tells what it has left
read_left : (whole : Bool) (stream : List ℕ) (reader : Reading) (left : Option (List ℕ)) (lines : List (List ℕ)) → HasReadTo whole stream reader left lines
    → (now : List ℕ) × (left ≡ Some now) × AreRead (length lines) stream now (bodies_of lines)
read_left true stream reader left lines h =
    let now = told_before reader.held left h.rest h.coming in
    (now.0, now.1, are_read h reader.held now.0 now.2)
read_left false stream reader left lines h = ([], h.none_left, all_read stream left lines h)

bodies_of-body : (lines : List (List ℕ)) (line : List ℕ) → is_blank_line line ≡ false → bodies_of (lines ++ line ∷ []) ≡ bodies_of lines ++ line ∷ []
bodies_of-body lines line body =
    let last : bodies_of (line ∷ []) ≡ line ∷ [] = rw body refl in
    bodies_of-append lines (line ∷ []) ∙ ap (λ more. bodies_of lines ++ more) last

-- the sink failed within the reply's line
stopped : {terms : Terms} {before : Surroundings} {first : Tables} {bodies : List (List ℕ)} {at : Engaged} (h : StopsWriting terms before first bodies at) (left left_now : Option (List ℕ))
    → TakesFrom ending.WriteFault left left_now bodies → Session (over terms at.held.models) first ending.WriteFault left left_now before at.now
stopped {bodies = bodies} {at = at} h left left_now takes_in =
    let rows = told_rows at.now.kept at.held h.tables h.rests in record {
      bodies = bodies;
      replies = h.replies;
      tables = h.tables;
      moments = h.moments;
      rest = h.rest;
      run = h.run;
      gives = h.gives;
      store = rows.0;
      kept_is = rows.1;
      stands = rows.2;
      others = h.others;
      takes_in = takes_in;
      written = h.written;
      written_is = h.written_is;
      writes = h.writes;
    }

pub ends_writing : {terms : Terms} {from : Beginning} {reader : Reading} {left left_now : Option (List ℕ)} {old : Engaged} (h : GoesOn terms from reader left old)
    (whole : Bool) (next : Reading) (line : List ℕ) (new : Engaged)
    → ((stream : List ℕ) (lines : List (List ℕ)) → HasRead stream reader left lines → HasReadTo whole stream next left_now (lines ++ line ∷ []))
    → is_blank_line line ≡ false → StopsAt terms line old new → Ends (over terms new.held.models) from ending.WriteFault left_now new.now
ends_writing {from} {left_now = left_now} h whole next line new reads body stops =
    stopped (stops from.now from.first (bodies_of h.lines) h.served) from.left left_now (IfSome_then from.left h.read (λ stream read. taken stream (reads stream h.lines read)))
  where
    taken : (stream : List ℕ) → HasReadTo whole stream next left_now (h.lines ++ line ∷ []) → (left : List ℕ) × (left_now ≡ Some left) × TakesIn ending.WriteFault stream left (bodies_of h.lines ++ line ∷ [])
    taken stream read =
        let lines = h.lines ++ line ∷ [] in
        let left = read_left whole stream next left_now lines read in
        (left.0, left.1, (length lines, subst (λ (bodies : List (List ℕ)). AreRead (length lines) stream left.0 bodies) (bodies_of-body h.lines line body) left.2))

-- what holds of an answer by whether it is an error

pub ok_holds : {T E P : Type 0} (r : Result T E) → is_err r ≡ false → OnOk r P → P
ok_holds (Ok value) is h = h
ok_holds (Err error) is h = absurd (false≢true (sym is))

pub err_holds : {T E P : Type 0} (r : Result T E) → is_err r ≡ true → OnErr r P → P
err_holds (Ok value) is h = absurd (false≢true is)
err_holds (Err error) is h = h
