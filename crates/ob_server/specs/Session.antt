-- What a session takes in, answers and writes, by how it ends.
use Rattle.std.specs.Prelude.{◌≡◌, ℕ, zero, suc, ◌+◌, ◌≤◌, ◌<◌, ℤ, List, [], ◌∷◌, ◌++◌, length, take, if◌then◌else◌, IfSome, Option, Some, option_map}
use Rattle.std.specs.List.{flat_map, list_any}
use Rattle.ob_io.specs.Store.{Store}
use Rattle.ob_cache.specs.Kept.{Kept, OthersStay}
use Rattle.ob_schema.specs.Broken.{AreSound}
use Rattle.ob_schema.specs.Tables.{Tables}
use Rattle.ob_schema.specs.declared.info.ModelInfo.{ModelInfo}
use Rattle.ob_server.specs.declared.ending.Ending.{Ending}
use Rattle.ob_server.specs.declared.ending.Ending.TheVariants as ending
use Rattle.ob_server.specs.Ending.{IsCutShort}
use Rattle.ob_server.specs.Lines.{is_line_feed, lines_of, bodies_of, line_back, line_size, IsTooLong}
use Rattle.ob_server.specs.Machine.{State, Run}
use Rattle.ob_server.specs.Outside.{Surroundings}
use Rattle.ob_server.specs.Setup.{Setup}

-- the replies, each with its line feed
abbrev pub reply_lines : List (List ℕ) → List ℕ
reply_lines replies = flat_map (λ reply. reply ++ 10 ∷ []) replies

-- a stream up to its last line feed
abbrev pub whole_part : List ℕ → List ℕ
whole_part [] = []
whole_part (byte ∷ bytes) = if list_any is_line_feed (byte ∷ bytes) then byte ∷ whole_part bytes else []

-- what stands after so many lines
abbrev pub after_lines : ℕ → List ℕ → List ℕ
after_lines zero stream = stream
after_lines (suc n) stream = after_lines n (line_back stream)

-- how many bytes so many lines take
abbrev pub lines_size : ℕ → List ℕ → ℕ
lines_size zero stream = 0
lines_size (suc n) stream = line_size stream + lines_size n (line_back stream)

-- none of the first so many lines is too long
abbrev pub NoneTooLong : ℕ → List ℕ → Type 0
NoneTooLong count stream = (k : ℕ) → k < count → IsTooLong (lines_size k stream) (after_lines k stream) → ⊥

-- the bodies are those among the first so many lines, none of which is too long
pub record AreAmong (count : ℕ) (stream : List ℕ) (bodies : List (List ℕ)) : Type 0 where
  pub bodies_are : bodies ≡ bodies_of (take count (lines_of stream))
  pub none_too_long : NoneTooLong count stream

-- the bodies are those among the first so many lines, and these lines were read
pub record AreRead (count : ℕ) (stream left : List ℕ) (bodies : List (List ℕ)) : Type 0 where
  pub read : List ℕ
  pub stream_is : stream ≡ read ++ left
  pub within : lines_size count stream ≤ length read
  pub among : AreAmong count stream bodies

-- The bodies that were taken in from a stream, by how the session ended: all of them;
-- or those whose line feed was read, where the source failed; or those before the first
-- line that is too long; or those of some first lines, all of which were read.
abbrev pub TakesIn : Ending → (stream left : List ℕ) → List (List ℕ) → Type 0
TakesIn ending.Done stream left bodies = (bodies ≡ bodies_of (lines_of stream)) × (left ≡ []) × NoneTooLong (length (lines_of stream)) stream
TakesIn ending.ReadFault stream left bodies = (read : List ℕ) × (stream ≡ read ++ left) × (bodies ≡ bodies_of (lines_of (whole_part read))) × NoneTooLong (length (lines_of (whole_part read))) stream
TakesIn (ending.TooLong number) stream left bodies = (before : ℕ) × (number ≡ before + 1) × IsTooLong (lines_size before stream) (after_lines before stream) × AreRead before stream left bodies
TakesIn ending.WriteFault stream left bodies = (count : ℕ) × AreRead count stream left bodies
TakesIn ending.NoMemory stream left bodies = (count : ℕ) × AreRead count stream left bodies
TakesIn _ stream left bodies = ⊥

-- A front of the replies' lines was written: all replies but the last one whole, and of the last line not all.
pub record WritesFront (replies : List (List ℕ)) (written : List ℕ) : Type 0 where
  pub whole : List (List ℕ)
  pub last : List ℕ
  pub part : List ℕ
  pub replies_are : replies ≡ whole ++ last ∷ []
  pub part_of : IsCutShort part (last ++ 10 ∷ [])
  pub written_is : written ≡ reply_lines whole ++ part

-- what a session wrote: each reply on its line; where the sink failed, a front of that
abbrev pub WritesReplies : Ending → List (List ℕ) → List ℕ → Type 0
WritesReplies ending.WriteFault replies written = WritesFront replies written
WritesReplies ending.Done replies written = written ≡ reply_lines replies
WritesReplies ending.ReadFault replies written = written ≡ reply_lines replies
WritesReplies ending.NoMemory replies written = written ≡ reply_lines replies
WritesReplies (ending.TooLong number) replies written = written ≡ reply_lines replies
WritesReplies _ replies written = ⊥

-- the rows that are kept are those of sound tables
pub record StandsFor (models : List ModelInfo) (tables : Tables) (store : Store) : Type 0 where
  pub kept : Kept models tables store
  pub sound : AreSound models tables

-- the bodies were taken in from what the source had left, where it tells that
abbrev pub TakesFrom : Ending → (before now : Option (List ℕ)) → List (List ℕ) → Type 0
TakesFrom why before now bodies = IfSome before (λ stream. (left : List ℕ) × (now ≡ Some left) × TakesIn why stream left bodies)

-- these are the moments that a clock told, where it tells them, and it tells the rest
abbrev pub GivesMoments : (before now : Option (ℕ → ℤ)) → (moments rest : ℕ → ℤ) → Type 0
GivesMoments before now moments rest = IfSome before (λ told. (told ≡ moments) × (now ≡ Some rest))

-- the machine at these tables, before these moments, with the keeper as it is
abbrev pub state_at : Surroundings → Tables → (ℕ → ℤ) → State
state_at at tables moments = record { tables = tables; moments = moments; faults = at.faults }

-- A session over a keeper that tells its rows, from these tables on: the machine's replies to the bodies
-- that were taken in, and its tables, for which the kept rows stand; rows of other models stay. What the
-- source, the clock and the sink tell is of these bodies, of the machine's moments and of its replies.
pub record Session (setup : Setup) (first : Tables) (why : Ending) (left_before left_now : Option (List ℕ)) (before now : Surroundings) : Type 0 where
  pub bodies : List (List ℕ)
  pub replies : List (List ℕ)
  pub tables : Tables
  pub moments : ℕ → ℤ
  pub rest : ℕ → ℤ
  pub run : Run setup (state_at before first moments) bodies replies (state_at now tables rest)
  pub gives : GivesMoments before.coming now.coming moments rest
  pub store : Store
  pub kept_is : now.kept ≡ Some store
  pub stands : StandsFor setup.models tables store
  pub others : OthersStay setup.models before.kept now.kept
  pub takes_in : TakesFrom why left_before left_now bodies
  pub written : List ℕ
  pub written_is : now.written ≡ option_map (λ w. w ++ written) before.written
  pub writes : WritesReplies why replies written
