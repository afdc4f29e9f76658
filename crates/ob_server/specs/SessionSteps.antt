-- How far a session has come: what of the stream was read, and what was answered.
use Rattle.std.specs.Prelude.{◌≡◌, ℕ, Bool, true, false, ℤ, List, [], ◌∷◌, ◌++◌, length, All, ◌≢◌, IfSome, Option, Some, option_map}
use Rattle.ob_cache.specs.Kept.{OthersStay}
use Rattle.ob_cache.specs.Standing.{RestsAt}
use Rattle.ob_schema.specs.Tables.{Tables}
use Rattle.ob_server.specs.declared.ending.Ending.{Ending}
use Rattle.ob_server.specs.declared.ending.Ending.TheVariants.{WriteFault}
use Rattle.ob_server.specs.declared.terms.Terms.{Terms}
use Rattle.ob_server.specs.Lines.{lines_of, bodies_of, Reading, stream_of}
use Rattle.ob_server.specs.Machine.{Run}
use Rattle.ob_server.specs.Outside.{Engaged, Surroundings}
use Rattle.ob_server.specs.Setup.{Setup, over}
use Rattle.ob_server.specs.Session.{GivesMoments, NoneTooLong, Session, TakesIn, WritesReplies, reply_lines, state_at}

-- the lines, each with its line feed, as replies are written too
abbrev pub whole_lines : List (List ℕ) → List ℕ
whole_lines lines = reply_lines lines

-- These lines of the stream were read, each up to its line feed, and none was too long.
pub record HasRead (stream : List ℕ) (reader : Reading) (left_now : Option (List ℕ)) (lines : List (List ℕ)) : Type 0 where
  pub rest : List ℕ
  pub stream_is : stream ≡ whole_lines lines ++ rest
  pub no_feeds : All (All (λ byte. byte ≢ 10)) lines
  pub coming : stream_of reader left_now ≡ Some rest
  pub count : reader.lines ≡ length lines
  pub consumed : reader.consumed ≡ length (whole_lines lines)
  pub none_too_long : NoneTooLong (length lines) stream

-- These are all lines of the stream, the last of which needed no line feed, and none was
-- too long.
pub record HasReadAll (stream : List ℕ) (left_now : Option (List ℕ)) (lines : List (List ℕ)) : Type 0 where
  pub lines_are : lines_of stream ≡ lines
  pub none_left : left_now ≡ Some []
  pub none_too_long : NoneTooLong (length lines) stream

-- these lines were read; the last one may have no line feed only at the end of the stream
abbrev pub HasReadTo : Bool → List ℕ → Reading → Option (List ℕ) → List (List ℕ) → Type 0
HasReadTo true stream reader left_now lines = HasRead stream reader left_now lines
HasReadTo false stream reader left_now lines = HasReadAll stream left_now lines

-- The reading ends the session after these lines.
pub record StopsReading (why : Ending) (stream : List ℕ) (left_now : Option (List ℕ)) (lines : List (List ℕ)) : Type 0 where
  pub left : List ℕ
  pub left_is : left_now ≡ Some left
  pub takes_in : TakesIn why stream left (bodies_of lines)

-- The machine answered these bodies from its first tables on, each reply is written on its line,
-- and the engine rests at its tables: that is where the keeper, the clock and the sink stand.
pub record HasServed (terms : Terms) (before : Surroundings) (first : Tables) (bodies : List (List ℕ)) (at : Engaged) : Type 0 where
  pub replies : List (List ℕ)
  pub tables : Tables
  pub moments : ℕ → ℤ
  pub rest : ℕ → ℤ
  pub run : Run (over terms at.held.models) (state_at before first moments) bodies replies (state_at at.now tables rest)
  pub gives : GivesMoments before.coming at.now.coming moments rest
  pub rests : RestsAt at.now.kept at.held tables
  pub others : OthersStay at.held.models before.kept at.now.kept
  pub written_is : at.now.written ≡ option_map (λ w. w ++ reply_lines replies) before.written

-- The machine answered these bodies, and the sink failed within the last reply's line.
pub record StopsWriting (terms : Terms) (before : Surroundings) (first : Tables) (bodies : List (List ℕ)) (at : Engaged) : Type 0 where
  pub replies : List (List ℕ)
  pub tables : Tables
  pub moments : ℕ → ℤ
  pub rest : ℕ → ℤ
  pub written : List ℕ
  pub run : Run (over terms at.held.models) (state_at before first moments) bodies replies (state_at at.now tables rest)
  pub gives : GivesMoments before.coming at.now.coming moments rest
  pub rests : RestsAt at.now.kept at.held tables
  pub others : OthersStay at.held.models before.kept at.now.kept
  pub written_is : at.now.written ≡ option_map (λ w. w ++ written) before.written
  pub writes : WritesReplies WriteFault replies written

-- Wherever a session stood, it stands so after these bodies more.
abbrev pub ServesMore : Terms → List (List ℕ) → (old new : Engaged) → Type 0
ServesMore terms more old new = (before : Surroundings) (first : Tables) (bodies : List (List ℕ)) → HasServed terms before first bodies old → HasServed terms before first (bodies ++ more) new

-- Wherever a session stood, it stops so within the reply to one body more.
abbrev pub StopsAt : Terms → List ℕ → (old new : Engaged) → Type 0
StopsAt terms body old new = (before : Surroundings) (first : Tables) (bodies : List (List ℕ)) → HasServed terms before first bodies old → StopsWriting terms before first (bodies ++ body ∷ []) new

-- where a session began: what the source had left, what the others told, and the machine's first tables
pub record Beginning : Type 0 where
  pub left : Option (List ℕ)
  pub now : Surroundings
  pub first : Tables

-- A session that goes on: lines were read, and those that aren't blank were served.
pub record GoesOn (terms : Terms) (from : Beginning) (reader : Reading) (left_now : Option (List ℕ)) (at : Engaged) : Type 0 where
  pub lines : List (List ℕ)
  pub read : IfSome from.left (λ stream. HasRead stream reader left_now lines)
  pub served : HasServed terms from.now from.first (bodies_of lines) at

-- A session that ended.
abbrev pub Ends : Setup → Beginning → Ending → (left_now : Option (List ℕ)) → Surroundings → Type 0
Ends setup from why left_now now = Session setup from.first why from.left left_now from.now now
