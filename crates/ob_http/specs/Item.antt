-- The items of a connection, by its bytes alone: in whatever pieces they come, they are the same.
use Rattle.std.specs.Prelude.{◌≡◌, ℕ, nat_le, Bool, true, false, List, [], ◌∷◌, length, take, drop, Option, Some, None, Result, Ok, Err, ⊤, if◌then◌else◌}
use Rattle.std.specs.Bool.{MatchBool}
use Rattle.ob_base.specs.Limits.{max_head_bytes}
use Rattle.ob_http.specs.declared.inlet.Inlet.{Inlet}
use Rattle.ob_http.specs.declared.inlet.Inlet.TheVariants.{Post, Ended, Cut, Bad}
use Rattle.ob_http.specs.Lines.{are_empty_lines}
use Rattle.ob_http.specs.Head.{Head, head_of, Asks}
use Rattle.ob_http.specs.declared.head.Message.{Message}

-- A message: its body, whether the connection stays, whether the interim line is due. A fault: its
-- status. An end between messages. An end inside one, and whether the interim line is due.
pub data Item : Type 0 where
  post : List ℕ → Bool → Bool → Item
  fault : ℕ → Item
  ended : Item
  cut : Bool → Item

-- The item of bytes that have no end of a head where one may stand: they are too many, or they end
-- between messages or inside one.
abbrev pub headless_item : List ℕ → Item
headless_item bytes = if nat_le max_head_bytes (length bytes) then fault 431 else (if are_empty_lines bytes then ended else cut false)

-- The item that a head leads to, and what stands after it: its body is the first of the bytes after
-- it, where there are enough.
abbrev pub FollowsHead : Result Message ℕ → (after : List ℕ) → Item → (rest : List ℕ) → Type 0
FollowsHead (Err status) after item rest = (item ≡ fault status) × (rest ≡ [])
FollowsHead (Ok message) after item rest =
    MatchBool (nat_le message.length (length after))
    ((item ≡ post (take message.length after) message.keep message.interim) × (rest ≡ drop message.length after))
    ((item ≡ cut message.interim) × (rest ≡ []))

-- what the bytes begin with, by the head at their front
abbrev pub BeginsWith : Option Head → (bytes : List ℕ) → Item → (rest : List ℕ) → Type 0
BeginsWith None bytes item rest = (item ≡ headless_item bytes) × (rest ≡ [])
BeginsWith (Some head) bytes item rest =
    (found : Result Message ℕ) × Asks (take head.size bytes) head found × FollowsHead found (drop head.size bytes) item rest

-- The first item of these bytes, and what stands after it. The end of a head stands within its limit.
abbrev pub IsItem : (bytes : List ℕ) → Item → (rest : List ℕ) → Type 0
IsItem bytes item rest = BeginsWith (head_of (take max_head_bytes bytes)) bytes item rest

-- whether another item follows: after a message that keeps the connection
abbrev pub goes_on : Item → Bool
goes_on (post body keep interim) = keep
goes_on _ = false

-- whether it is an end, between messages or inside one
abbrev pub is_end : Item → Bool
is_end ended = true
is_end (cut interim) = true
is_end _ = false

-- whether the interim line is due before the item's reply
abbrev pub is_interim_due : Item → Bool
is_interim_due (post body keep interim) = interim
is_interim_due (cut interim) = interim
is_interim_due _ = false

-- all items of a connection's bytes, in their order
pub data AreItems : List ℕ → List Item → Type 0 where
  last : (bytes : List ℕ) (item : Item) (rest : List ℕ) → IsItem bytes item rest → goes_on item ≡ false → AreItems bytes (item ∷ [])
  more : (bytes : List ℕ) (item : Item) (rest : List ℕ) (items : List Item) → IsItem bytes item rest → goes_on item ≡ true → AreItems rest items → AreItems bytes (item ∷ items)

-- what came in tells the item
abbrev pub TellsItem : Inlet → Item → Type 0
TellsItem (Post body keep) (post bytes stays interim) = (body.items ≡ bytes) × (keep ≡ stays)
TellsItem (Bad status) (fault code) = status ≡ code
TellsItem Ended ended = ⊤
TellsItem Cut (cut interim) = ⊤
TellsItem _ _ = ⊥
